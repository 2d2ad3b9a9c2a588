pub mod Numbers
pub mod helpers
pub mod Length
