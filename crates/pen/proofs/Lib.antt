-- The laws of the pen.
pub mod Wrote
