-- A small file and what reading it gives: a store, or the fault that is told.
use Rattle.std.specs.Prelude.{◌≡◌, ℕ, List, map, Some, Ok}
use Rattle.hf_base.specs.declared.fault.ReadRefusal.{ReadRefusal}
use Rattle.hf_store.specs.Store.{ItemStore}
use Rattle.hf_read.specs.Reading.{fault_of, reading}

-- a file, and the fault that is told
pub record RefusedFile : Type 0 where
  pub fault : ReadRefusal
  pub bytes : List ℕ

-- a file, and its store
pub record AcceptedFile : Type 0 where
  pub store : ItemStore
  pub bytes : List ℕ

abbrev pub refused : ReadRefusal → List ℕ → RefusedFile
refused fault bytes = record { fault = fault; bytes = bytes }

abbrev pub accepted : ItemStore → List ℕ → AcceptedFile
accepted store bytes = record { store = store; bytes = bytes }

-- each file is refused for its fault
abbrev pub AreRefused : List RefusedFile → Type 0
AreRefused files = map (λ (f : RefusedFile). fault_of f.bytes) files ≡ map (λ (f : RefusedFile). Some f.fault) files

-- each file is read as its store
abbrev pub AreRead : List AcceptedFile → Type 0
AreRead files = map (λ (f : AcceptedFile). reading f.bytes) files ≡ map (λ (f : AcceptedFile). Ok f.store) files
