pub mod IpmaLemmas
pub mod IprpLemmas
pub mod LoopLemmas
pub mod ViewLemmas
pub mod WrittenLemmas
