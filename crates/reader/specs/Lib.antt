pub mod Reply
pub mod Outcome
