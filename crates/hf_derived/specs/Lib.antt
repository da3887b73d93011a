pub mod Cycle
pub mod Derived
pub mod Grid
pub mod Overlay
