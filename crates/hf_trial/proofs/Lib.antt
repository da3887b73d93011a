pub mod Built
pub mod Cuts
pub mod Goods
pub mod Opened
pub mod Parts
pub mod Ranges
pub mod Small
pub mod Valid
