-- Which items stay, as the code says it.
use Rattle.std.specs.Prelude.{ℕ, Bool, ◌&&◌}
use Rattle.std.specs.List.{list_all}
use Rattle.std.specs.List.Sorted.{IsStrictlyIncreasing}
use Rattle.hf_store.specs.Changes.{is_other}
use Rattle.hf_store.specs.Lists.{not_empty}
use Rattle.hf_store.specs.Store.{RefList}
use Rattle.hf_store.specs.declared.cutting.Stays.{Stays}
use Rattle.hf_store.specs.declared.cutting.Stays.TheVariants.{Others, Listed}
use Rattle.hf_table.specs.Held.{is_among}

-- whether the item with an id stays
abbrev pub stays_of : Stays → ℕ → Bool
stays_of (Others gone) = is_other gone
stays_of (Listed ids) = is_among ids.now

-- listed ids rise, so that they are found by halving
abbrev pub IsSearchable : Stays → Type 0
IsSearchable (Others gone) = Unit {0}
IsSearchable (Listed ids) = IsStrictlyIncreasing ids.now

-- nothing of a list of references goes: it has ids, and each of them stays
abbrev pub is_whole : (ℕ → Bool) → RefList → Bool
is_whole stays r = not_empty r.to && list_all stays r.to
