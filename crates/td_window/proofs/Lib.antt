pub mod Cuts
pub mod Determined
pub mod OneInterval
pub mod OneSession
pub mod OneState
pub mod Regroup
