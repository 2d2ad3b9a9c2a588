-- Words between functions beneath the calls; no promise needs them.
pub mod Tabled
pub mod Readable
