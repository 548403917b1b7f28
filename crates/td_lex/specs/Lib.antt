pub mod Tokens
pub mod Lexing
pub mod Pieces
pub mod Laws
pub use Rattle.td_times.specs.Times
pub use Rattle.td_times.specs.Stamps
pub use Rattle.td_times.specs.Moments
