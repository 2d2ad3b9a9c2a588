pub mod Loads
pub mod Euclid
