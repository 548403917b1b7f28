pub mod Tells
pub mod Loops
pub mod KindSets
pub mod Exact
pub mod Whole
pub mod Forms
