pub mod TextLemmas
pub mod InfeLemmas
pub mod InfeWritten
pub mod IinfLemmas
pub mod ReadLemmas
pub mod IinfWritten
pub mod PutLemmas
