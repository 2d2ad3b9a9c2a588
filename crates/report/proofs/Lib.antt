pub mod Refusals
pub mod Theorems
pub mod Demand
