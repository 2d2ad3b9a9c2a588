pub mod Chosen
pub mod helpers
