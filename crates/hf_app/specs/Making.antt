-- A canonical file that is made.
use Rattle.std.specs.Prelude.{ℕ, List, Result}
use Rattle.hf_desk.specs.Outside.{Outside}
use Rattle.hf_desk.specs.Making.{Makes}
use Rattle.hf_desk.specs.declared.write.WriteFault.{WriteFault}
use Rattle.hf_store.specs.Store.{ItemStore}
use Rattle.hf_plan.specs.Canon.{Canon}

-- the canonical file of the store is made: `Ok` made it whole, and an error made nothing or a part
pub record MakesCanon (s : ItemStore) (old : Outside) (name : List ℕ) (result : Result (Unit {0}) WriteFault) (new : Outside) : Type 0 where
  pub file : List ℕ
  pub canonical : Canon s file
  pub makes : Makes old name file result new
