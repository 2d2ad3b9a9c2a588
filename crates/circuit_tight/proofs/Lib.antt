pub mod Listings
pub mod ListRows
pub mod Entries
