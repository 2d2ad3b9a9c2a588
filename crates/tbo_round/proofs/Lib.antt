pub mod Steadies
pub mod Crowd
pub mod Chains
pub mod Ways
pub mod Rounds
