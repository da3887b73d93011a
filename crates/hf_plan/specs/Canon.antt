-- The canonical file of a store. That there is one, with these widths, is this project's own rule.
use Rattle.std.specs.Prelude.{ℕ, ◌-◌, ◌^◌, ◌≤◌, ◌⊎◌, List, length}
use Rattle.hf_store.specs.Store.{ItemStore}
use Rattle.hf_store.specs.Layout.{Homes, own}
use Rattle.hf_plan.specs.Lay.{LayBy}

-- F has offsets of four bytes, and a length that four bytes can say
abbrev pub IsNarrow : Homes → ItemStore → List ℕ → Type 0
IsNarrow home s F = LayBy home s 4 F × (length F ≤ 2 ^ 32 - 1)

-- the narrow file; where there is none, the one with offsets of eight bytes
abbrev pub CanonBy : Homes → ItemStore → List ℕ → Type 0
CanonBy home s F = IsNarrow home s F ⊎ (((G : List ℕ) → IsNarrow home s G → ⊥) × LayBy home s 8 F)

abbrev pub Canon : ItemStore → List ℕ → Type 0
Canon s F = CanonBy own s F
