use Rattle.std.proofs.Common.{arith, ap, sym, ◌∙◌, ◌-◌, ◌^◌, ◌≤◌, ℕ, Option}
use Rattle.std.specs.Prelude.{nat_lt}
use Rattle.hf_base.specs.Located.{Located, source_of}
use Rattle.hf_base.specs.Levels.{told}
use Rattle.hf_base.specs.Counts.{size_of}
use Rattle.hf_base.specs.LocationFaults.{end_of}
use Rattle.hf_extent.specs.Seen.{item_seen, items_seen}
use Rattle.hf_extent.proofs.TotalLaws.{passes_stopped, size_at, no_source}
use Rattle.hf_extent.proofs.sizes.passes_source.Goals as goal

pub returns-in-Some : goal.returns-in-Some
returns-in-Some c =
    let small : c.end_of-end.result ≤ 2 ^ 128 - 1 = omega arith in
    ap (λ (n : ℕ). nat_lt n c.end_of-end.result) (size_at c.args.len c.args.inner c.args.ids.now (items_seen c.args.items.now) (item_seen c.args.item.now) c.args.extent.now c.args.sizes.now c.in-Some.at c.requires.at c.requires.known (sym c.in-Some.ensures.value) c.in-Some.ensures.within)
    ∙ passes_stopped (2 ^ 128 - 1) (told 0 (size_of c.args.len c.args.inner (items_seen c.args.items.now)) (source_of (items_seen c.args.items.now) (item_seen c.args.item.now) c.args.extent.now)) c.end_of-end.result small
    ∙ ap (nat_lt (told 0 (size_of c.args.len c.args.inner (items_seen c.args.items.now)) (source_of (items_seen c.args.items.now) (item_seen c.args.item.now) c.args.extent.now))) c.end_of-end.ensures

pub returns-in-None : goal.returns-in-None
returns-in-None c =
    ap (nat_lt 0) c.end_of-end.ensures
    ∙ ap (λ (o : Option Located). nat_lt (told 0 (size_of c.args.len c.args.inner (items_seen c.args.items.now)) o) (end_of (item_seen c.args.item.now) c.args.extent.now)) (sym (no_source c.args.ids.now (items_seen c.args.items.now) (item_seen c.args.item.now) c.args.extent.now c.requires.at (sym c.in-None.ensures.value)))
