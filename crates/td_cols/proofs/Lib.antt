pub mod KindWidths
mod LowBytes
mod TwosComplement
pub mod OneSpelling
