pub mod ReadLaws
pub mod PlaceLaws
pub mod WriteLaws
pub mod ListLaws
pub mod Adding
