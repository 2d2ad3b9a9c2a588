-- Words of the helpers beneath `first_dead`: what levels clear, what a ring shows, what distances close.
pub mod Ring
pub mod Closing
