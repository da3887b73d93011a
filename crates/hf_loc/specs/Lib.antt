pub mod Iloc
pub mod Views
pub mod Worked
