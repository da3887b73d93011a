-- What the type of a store keeps.
use Rattle.std.specs.Prelude.{◌≡◌}
use Rattle.std.specs.List.{flat_map}
use Rattle.hf_store.specs.Counts.{counts_of}
use Rattle.hf_store.specs.Referred.{HasAll, all_targets}
use Rattle.hf_store.specs.Seen.{store_of}
use Rattle.hf_store.specs.Table.{props_of}
use Rattle.hf_store.specs.Valid.{Valid}
use Rattle.hf_store.specs.declared.store.Store.TheInside.{Inside}
use Rattle.hf_table.specs.Uses.{Tallies}

-- a valid store, with the distinct properties of its items, with its counts, and with the ids that its references lead to
pub record IsKept (s : Inside) : Type 0 where
  pub valid : Valid (store_of s)
  pub tallies : Tallies s.uses (flat_map props_of (store_of s).items)
  pub counted : s.counts ≡ counts_of (store_of s)
  pub referred : HasAll s.referred (all_targets (store_of s).items)
