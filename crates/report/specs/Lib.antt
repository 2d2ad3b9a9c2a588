pub mod Reply
pub mod Demand
