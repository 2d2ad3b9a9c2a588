-- Words between functions beneath the calls; no promise needs them.
pub mod Lent
pub mod Wirings
pub mod Tables
pub mod Work
pub mod Distance
