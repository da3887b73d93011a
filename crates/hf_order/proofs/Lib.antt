pub mod Counts
pub mod Members
pub mod Ready
pub mod Sorted
pub mod UnderWay
pub mod Walks
