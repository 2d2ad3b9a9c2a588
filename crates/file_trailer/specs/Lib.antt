pub mod Limits
pub mod File
pub mod helpers
