pub mod Cycles
pub mod FitLemmas
pub mod Grids
pub mod Overlays
pub mod Places
pub mod Sides
