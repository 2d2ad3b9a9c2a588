pub mod FitLaws
pub mod Example
