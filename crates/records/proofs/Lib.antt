pub mod Words
pub mod Behind
pub mod Records
