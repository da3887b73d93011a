pub mod Chains
pub mod Compared
pub mod Files
pub mod Fits
pub mod Props
pub mod Sized
