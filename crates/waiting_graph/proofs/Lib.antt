pub mod Adding
pub mod GraphAnswers
