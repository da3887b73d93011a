pub mod Fronts
pub mod GrplLemmas
pub mod IrefLemmas
