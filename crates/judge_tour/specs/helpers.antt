-- What the searches of rows 7 and 8 lean on.
pub mod Ended
