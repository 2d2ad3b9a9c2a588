pub mod Numbers
pub mod Determined
pub mod Asked
pub mod Answers
pub mod Same
