pub mod Passing
pub mod Links
pub mod Distinct
pub mod Reached
pub mod Offers
pub mod Sweeps
pub mod Bounded
pub mod Settling
