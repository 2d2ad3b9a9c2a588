pub mod Frame
pub mod Labels
