pub mod Waiting
pub mod Small
pub mod Answers
