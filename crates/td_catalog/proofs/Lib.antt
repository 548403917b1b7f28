pub mod Names
pub mod Found
pub mod Growth
pub mod Fewer
pub mod After
pub mod Apart
pub mod Children
pub mod Valid
