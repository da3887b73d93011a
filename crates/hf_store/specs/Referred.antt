-- The ids that references lead to, and ids that are known to have them. These rules are this project's own.
use Rattle.std.specs.Prelude.{ℕ, ◌<◌, List, length}
use Rattle.std.specs.List.{AllByRecursion, flat_map}
use Rattle.hf_store.specs.Lists.{IsIn}
use Rattle.hf_store.specs.Store.{RefList, Item}

-- the ids in these reference lists
abbrev pub targets_by : List RefList → List ℕ
targets_by rs = flat_map (λ (r : RefList). r.to) rs

-- the ids that the references of these items lead to
abbrev pub all_targets : List Item → List ℕ
all_targets is = flat_map (λ (i : Item). targets_by i.refs) is

-- the ids have each of these; they may have more
abbrev pub HasAll : List ℕ → List ℕ → Type 0
HasAll ids some = (id : ℕ) → IsIn id some → IsIn id ids

-- no reference list is empty
abbrev pub HaveTargets : List Item → Type 0
HaveTargets is = AllByRecursion (λ (i : Item). AllByRecursion (λ (r : RefList). 0 < length r.to) i.refs) is
