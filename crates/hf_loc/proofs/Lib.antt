pub mod FrontLemmas
pub mod IlocLemmas
pub mod LoopLemmas
pub mod WrittenLemmas
