-- Words between functions beneath the calls; no promise needs them.
pub mod Lists
pub mod Entries
pub mod Certificates
