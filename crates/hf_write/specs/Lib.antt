pub mod Entries
pub mod Matching
