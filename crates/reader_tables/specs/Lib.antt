pub mod Filled
pub mod helpers
