-- What is told of an item by what is told of the items that it takes its bytes from, with so many levels of unfolding.
use Rattle.std.specs.Prelude.{ℕ, zero, suc, Option, Some, None}
use Rattle.hf_base.specs.Located.{Located}

-- so many times over, where nothing is told at first
unfoldable pub over : {A : Type 0} → A → ((Located → A) → Located → A) → ℕ → Located → A
over nothing tell zero r = nothing
over nothing tell (suc n) r = tell (over nothing tell n) r

-- with so many levels: what is told of a source is told with one level less, and with no level nothing is told of a source
abbrev pub by_levels : {A : Type 0} → A → ((Located → A) → Located → A) → ℕ → Located → A
by_levels nothing tell levels r = tell (over nothing tell levels) r

-- what is told of a source, if there is one
abbrev pub told : {A : Type 0} → A → (Located → A) → Option Located → A
told nothing other None = nothing
told nothing other (Some s) = other s
