pub mod TBO
pub mod helpers
