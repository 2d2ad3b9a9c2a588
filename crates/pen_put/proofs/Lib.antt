-- The laws of digits and of text put into a buffer.
pub mod DigitLaws
pub mod PutLaws
