pub mod Starts
pub mod ItemLists
pub mod SameTrees
