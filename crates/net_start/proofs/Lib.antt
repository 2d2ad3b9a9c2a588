pub mod Starting
pub mod Timing
