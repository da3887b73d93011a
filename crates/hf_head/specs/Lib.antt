pub mod Ftyp
pub mod Hdlr
pub mod Pitm
pub mod Worked
