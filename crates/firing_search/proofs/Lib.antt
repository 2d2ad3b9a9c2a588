pub mod Inputs
pub mod Searches
