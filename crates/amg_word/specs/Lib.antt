pub mod Word
pub mod Numbers
