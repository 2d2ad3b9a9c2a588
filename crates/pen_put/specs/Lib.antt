-- The definitions of the crate, in reading order; helpers holds those that no contract of a public call needs.
pub mod Digits
pub mod Lines
pub mod helpers
