pub mod Answers
pub mod Replies
pub mod Reached
pub mod Total
