pub mod Words
pub mod Text
pub mod Room
pub mod helpers
