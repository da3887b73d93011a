pub mod Held
pub mod Laws
pub mod Making
pub mod Numbered
pub mod Table
pub mod Uses
pub mod Worked
