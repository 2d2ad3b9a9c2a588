-- Words between functions beneath the calls; no promise needs them.
pub mod Ways
pub mod Turns
pub mod Said
