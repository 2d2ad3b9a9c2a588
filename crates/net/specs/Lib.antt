pub mod Limits
pub mod Plan
pub mod Ends
pub mod Graph
pub mod Rules
pub mod Good
pub mod helpers
