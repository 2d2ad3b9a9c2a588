-- Words between functions beneath the calls; no promise needs them.
pub mod Loaded
pub mod Loads
pub mod Terms
pub mod Divides
