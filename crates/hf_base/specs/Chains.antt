-- Items that lie in items, and so on without end.
use Rattle.std.specs.Prelude.{◌≡◌, ℕ, zero, suc, List, Some}
use Rattle.hf_base.specs.declared.loc.Extent.{Extent}
use Rattle.hf_base.specs.Located.{Located, source_of}
use Rattle.hf_base.specs.Members.{IsIn}

-- an extent of the first item takes its bytes from the second one
abbrev pub LiesIn : List Located → Located → Located → Type 0
LiesIn items r s = (e : Extent) × IsIn e r.extents × (r.method ≡ 2) × (source_of items r e ≡ Some s)

-- each item of the walk lies in the next one
abbrev pub IsEndlessChain : List Located → (ℕ → Located) → Type 0
IsEndlessChain items walk = (n : ℕ) → LiesIn items (walk n) (walk (suc n))

-- two things by turns
abbrev pub by_turns : {A : Type 0} → A → A → ℕ → A
by_turns a b zero = a
by_turns a b (suc n) = by_turns b a n
