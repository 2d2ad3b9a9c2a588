pub mod Trails
pub mod Keeping
pub mod Moves
pub mod Turning
pub mod Endings
