use Rattle.std.proofs.Common.{◌≡◌, length, take}
use Rattle.std.specs.List.{sum_by}
use Rattle.hf_store.specs.Capped.{capped}
use Rattle.hf_store.specs.Changes.{cut_item}
use Rattle.hf_store.specs.Counts.{targets_of}
use Rattle.hf_store.specs.Seen.{items_of}
use Rattle.hf_store.specs.Stays.{stays_of}
use Rattle.hf_store.specs.Store.{Item}
use Rattle.hf_store.proofs.Mapped.{mapped}
use Rattle.hf_store.proofs.cutting.cut_items.Given as goal

abbrev pub invariant-loop-i : goal.invariant-loop-i
invariant-loop-i l = record {
  items : items_of l.items.items ≡ mapped (cut_item (stays_of l.stays)) l.i (items_of l.initial.items.items);
  lists : l.links.lists ≡ capped (sum_by (λ (i : Item). length i.refs) (take l.i (items_of l.items.items)));
  targets : l.links.targets ≡ capped (sum_by (λ (i : Item). targets_of i.refs) (take l.i (items_of l.items.items)));
}
