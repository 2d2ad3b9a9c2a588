pub mod Climbs
pub mod Fills
pub mod Agree
pub mod Choice
pub mod Unique
pub mod Handing
pub mod Alike
