pub mod Order
pub mod Labels
