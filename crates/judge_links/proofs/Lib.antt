pub mod Marks
pub mod Ticking
