pub mod BodyLaws
pub mod Firsts
pub mod ItemLaws
pub mod LinkLaws
pub mod OrderLaws
pub mod PlaceLaws
pub mod SeenLaws
pub mod TotalLaws
