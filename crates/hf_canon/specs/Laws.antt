-- What the laws say.
use Rattle.std.specs.Prelude.{◌≡◌, ℕ, List}
use Rattle.hf_store.specs.Store.{ItemStore}
use Rattle.hf_store.specs.Valid.{Valid}
use Rattle.hf_plan.specs.Canon.{Canon}
use Rattle.hf_read.specs.Denotes.{Denotes}

-- the canonical file of a valid store denotes it
abbrev pub CanonDenotes : Type 0
CanonDenotes = (s : ItemStore) (F : List ℕ) → Valid s → Canon s F → Denotes F s

-- valid stores with one canonical file are one store
abbrev pub EqualFilesEqualStores : Type 0
EqualFilesEqualStores = (s t : ItemStore) (F : List ℕ) → Valid s → Valid t → Canon s F → Canon t F → s ≡ t
