pub mod Kept
pub mod Needs
pub mod Reach
pub mod Redacted
pub mod WorkedRedactions
