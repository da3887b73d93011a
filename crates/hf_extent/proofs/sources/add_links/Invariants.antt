use Rattle.std.proofs.Common.{◌≡◌, ◌++◌, take, ℕ}
use Rattle.std.specs.List.{filter_map}
use Rattle.std.specs.Option.{option_map}
use Rattle.hf_base.specs.declared.loc.Extent.{Extent}
use Rattle.hf_extent.specs.Seen.{item_seen}
use Rattle.hf_extent.specs.Places.{place_of}
use Rattle.hf_extent.proofs.sources.add_links.Given as goal

abbrev pub invariant-loop-extent : goal.invariant-loop-extent
invariant-loop-extent l = l.pairs.items ≡ l.fn.pairs.items ++ filter_map (λ (e : Extent). option_map (λ (k : ℕ). (l.i, k)) (place_of l.ids (item_seen l.item) e)) (take l.extent-index l.extent-items)
