pub mod Lifting
pub mod Sweeping
pub mod Among
pub mod Tries
