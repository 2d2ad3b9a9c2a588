pub mod Step
pub mod helpers
