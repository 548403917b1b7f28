mod Fronts
mod Numerals
mod Tells
mod Again
mod Readings
mod OneAnswer
mod Places
mod Printed
pub mod LawsOfTokens
