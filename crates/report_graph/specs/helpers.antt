-- Words between functions beneath the calls; no promise needs them.
pub mod Reported
pub mod Waited
