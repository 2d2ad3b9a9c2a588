pub mod Showing
pub mod Determined
pub mod Labels
pub mod Accepting
pub mod Outcomes
pub mod Framing
pub mod Total
pub mod Example
