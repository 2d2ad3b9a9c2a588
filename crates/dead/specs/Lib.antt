pub mod Dead
pub mod helpers
