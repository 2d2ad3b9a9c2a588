-- Words between functions beneath the calls; no promise needs them.
pub mod Places
pub mod Raises
