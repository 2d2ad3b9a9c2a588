pub mod Asking
pub mod Dying
pub mod Ways
pub mod Reaching
pub mod Deciding
