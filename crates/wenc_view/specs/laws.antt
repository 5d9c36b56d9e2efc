pub mod Repeats
pub mod Members
pub mod Lists
pub mod TypeTrees
