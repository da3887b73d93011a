-- Items that are made of themselves, computed: the first id from which a walk along pairs of ids never ends.
use Rattle.std.specs.Prelude.{ℕ, zero, suc, Bool, List, map, filter, length, slice_get, ◌==◌, Option}
use Rattle.std.specs.List.{list_any}
use Rattle.hf_base.specs.Entries.{has_id}

-- the ids that an id leads to
abbrev pub next_of : List (ℕ × ℕ) → ℕ → List ℕ
next_of pairs id = map (λ (p : ℕ × ℕ). p.1) (filter (λ (p : ℕ × ℕ). p.0 == id) pairs)

-- it leads to one of these
abbrev pub leads_to : List (ℕ × ℕ) → List ℕ → ℕ → Bool
leads_to pairs some id = list_any (λ to. has_id to some) (next_of pairs id)

-- of these ids, those from which a walk of so many steps along the pairs exists
unfoldable pub walkers : List (ℕ × ℕ) → List ℕ → ℕ → List ℕ
walkers pairs ids zero = ids
walkers pairs ids (suc n) = filter (leads_to pairs (walkers pairs ids n)) ids

-- the first id from which there is a walk of as many steps as there are ids: such a walk comes to an id twice, so it need
-- not end
unfoldable pub first_walker : List (ℕ × ℕ) → List ℕ → Option ℕ
first_walker pairs ids = slice_get (walkers pairs ids (length ids)) 0
