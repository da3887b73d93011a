pub mod Bytes
pub mod Shares
pub mod Trial
pub mod WorkedTrials
