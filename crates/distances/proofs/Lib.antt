pub mod Relaxing
pub mod Fewest
