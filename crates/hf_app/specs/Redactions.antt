-- What a redaction makes of a file.
use Rattle.std.specs.Prelude.{◌≡◌, ℕ, Bool, List, Result}
use Rattle.hf_deps.specs.Kept.{Kept}
use Rattle.hf_deps.specs.Redacted.{redacted}
use Rattle.hf_edit.specs.Edits.{Edit, Remove, AddExif, AddXmp}
use Rattle.hf_plan.specs.Canon.{Canon}
use Rattle.hf_plan.specs.Plan.{Planned}
use Rattle.hf_read.specs.Denotes.{Denotes}
use Rattle.hf_store.specs.Store.{ItemStore}
use Rattle.hf_app.specs.Opening.{IsOpened, IsPlanned, MakesOf}
use Rattle.hf_app.specs.declared.stopping.Stop.{Stop}

-- the file denotes a store, these bytes are the canonical file of that store redacted, and they denote it
pub record IsRedacted (file : List ℕ) (bare : Bool) (bytes : List ℕ) : Type 0 where
  pub store : ItemStore
  pub opened : IsOpened file store
  pub canonical : Canon (redacted bare store) bytes
  pub again : Denotes bytes (redacted bare store)

-- a redaction leaves no trace of the edit: metadata that is added, or an item that it does not keep and that was removed
abbrev pub IsForgotten : ItemStore → Bool → Edit → Type 0
IsForgotten s bare (AddExif id tiff) = Unit {0}
IsForgotten s bare (AddXmp id text) = Unit {0}
IsForgotten s bare (Remove id) = Kept s bare id → ⊥
IsForgotten s bare _ = ⊥

-- the store that a redaction leaves of a file, with its plan
abbrev pub Redacts : List ℕ → Bool → Result (ItemStore × Planned) Stop → Type 0
Redacts file bare result = MakesOf file (λ s made. IsPlanned made.0 made.1 × (made.0 ≡ redacted bare s)) result
