pub mod Modified
pub mod Longest
pub mod helpers
