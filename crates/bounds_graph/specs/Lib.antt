pub mod Rows
pub mod Measured
pub mod helpers
