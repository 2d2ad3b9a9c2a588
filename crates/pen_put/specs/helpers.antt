-- Helper words of the pen: no contract needs them.
pub mod Reading
