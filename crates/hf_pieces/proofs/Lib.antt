mod Cuts
mod Fronts
pub mod Joins
