pub mod Running
pub mod Attained
