pub mod Shapes
pub mod Table
pub mod Safe
pub mod Strong
pub mod Good
pub mod Alike
pub mod Agree
