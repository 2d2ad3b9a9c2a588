pub mod Sinks
pub mod Order
