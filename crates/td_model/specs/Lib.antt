pub mod Built
pub mod Catalog
pub mod State
pub mod Text
pub mod Printable
pub mod Tags
