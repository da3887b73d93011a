-- A chain of items, each of which takes its bytes twice from the one before it. So a few of them have many leaves.
use Rattle.std.specs.Prelude.{ℕ, zero, suc, Bool, List, [], ◌∷◌, ◌++◌, if◌then◌else◌}
use Rattle.hf_base.specs.declared.kinds.TheConstants.{ILOC}
use Rattle.hf_base.specs.declared.loc.Extent.{Extent}
use Rattle.hf_base.specs.declared.loc.Loc.{Loc}
use Rattle.hf_base.specs.declared.loc.RefBox.{RefBox}
use Rattle.hf_base.specs.Located.{Located}

-- so many bytes from the front of the first source
abbrev pub from_front : ℕ → Extent
from_front length = record { index = 1; offset = 0; length = length }

-- item 1, of one byte in the file or in `idat`
abbrev pub first_item : Bool → Located
first_item inner = record { id = 1; method = if inner then 1 else 0; dref = 0; base = 0; extents = from_front 1 ∷ []; sources = [] }

-- the item behind so many others: two extents of so many bytes, both from the front of the item before it
abbrev pub doubled_item : Bool → (ℕ → ℕ) → ℕ → Located
doubled_item inner long zero = first_item inner
doubled_item inner long (suc k) = record {
  id = suc (suc k);
  method = 2;
  dref = 0;
  base = 0;
  extents = from_front (long k) ∷ from_front (long k) ∷ [];
  sources = suc k ∷ [];
}

-- so many of them
unfoldable pub doubled : Bool → (ℕ → ℕ) → ℕ → List Located
doubled inner long zero = []
doubled inner long (suc n) = doubled inner long n ++ doubled_item inner long n ∷ []

-- ---- the same in a file

-- its entry
abbrev pub doubled_entry : Bool → (ℕ → ℕ) → ℕ → Loc
doubled_entry inner long zero = record { id = 1; method = if inner then 1 else 0; dref = 0; base = 0; extents = from_front 1 ∷ [] }
doubled_entry inner long (suc k) = record { id = suc (suc k); method = 2; dref = 0; base = 0; extents = from_front (long k) ∷ from_front (long k) ∷ [] }

-- the reference to the item before it
abbrev pub doubled_link : ℕ → RefBox
doubled_link k = record { kind = ILOC; from = suc (suc k); to = suc k ∷ [] }

-- ids from 1 on
unfoldable pub first_ids : ℕ → List ℕ
first_ids zero = []
first_ids (suc n) = first_ids n ++ suc n ∷ []

unfoldable pub doubled_entries : Bool → (ℕ → ℕ) → ℕ → List Loc
doubled_entries inner long zero = []
doubled_entries inner long (suc n) = doubled_entries inner long n ++ doubled_entry inner long n ∷ []

unfoldable pub doubled_links : ℕ → List RefBox
doubled_links zero = []
doubled_links (suc n) = doubled_links n ++ doubled_link n ∷ []
