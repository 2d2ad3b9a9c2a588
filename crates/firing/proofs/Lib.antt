pub mod Tokens
pub mod Fews
pub mod Steps
