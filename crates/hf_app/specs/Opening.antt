-- A file as a store.
use Rattle.std.specs.Prelude.{◌≡◌, ◌↔◌, ℕ, Bool, List, Some, None, Result, Ok, Err, IsTrue}
use Rattle.hf_plan.specs.Canon.{Canon}
use Rattle.hf_plan.specs.Plan.{IsPlan, Planned}
use Rattle.hf_read.specs.Denotes.{Denotes}
use Rattle.hf_read.specs.Reading.{fault_of}
use Rattle.hf_store.specs.Store.{ItemStore}
use Rattle.hf_store.specs.Valid.{Valid}
use Rattle.hf_app.specs.declared.stopping.Stop.{Stop}
use Rattle.hf_app.specs.declared.stopping.Stop.TheVariants.{Unfit, Refused, NoMemory}

-- the file denotes the store, and has no fault
pub record IsOpened (file : List ℕ) (s : ItemStore) : Type 0 where
  pub denoted : Denotes file s
  pub sound : fault_of file ≡ None

-- the file of this source is refused, or memory was
abbrev pub IsRefusal : ℕ → List ℕ → Stop → Type 0
IsRefusal source file (Unfit n fault) = (n ≡ source) × (fault_of file ≡ Some fault)
IsRefusal source file (Refused n reason) = ⊥
IsRefusal source file NoMemory = Unit {0}

-- the store that the file of this source denotes
abbrev pub Opens : ℕ → List ℕ → Result ItemStore Stop → Type 0
Opens source file (Ok s) = IsOpened file s
Opens source file (Err stop) = IsRefusal source file stop

-- what is made of the store that an input denotes
abbrev pub MakesOf : {X : Type 0} → List ℕ → (ItemStore → X → Type 0) → Result X Stop → Type 0
MakesOf file P (Ok x) = (s : ItemStore) × IsOpened file s × P s x
MakesOf file P (Err stop) = IsRefusal 0 file stop

-- whether it is the canonical file of that store
abbrev pub Checks : List ℕ → Result Bool Stop → Type 0
Checks file result = MakesOf file (λ s canonical. IsTrue canonical ↔ Canon s file) result

-- a store, and the plan of its canonical file
pub record IsPlanned (s : ItemStore) (plan : Planned) : Type 0 where
  pub valid : Valid s
  pub planned : IsPlan s plan
