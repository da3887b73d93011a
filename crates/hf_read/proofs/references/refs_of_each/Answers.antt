use Rattle.std.proofs.Common.{arith, ◌≤◌, ℕ, List, length, map, ap, ◌∙◌}
use Rattle.std.proofs.lemmas.List.{take_all}
use Rattle.hf_read.specs.Kept.{kept_refs}
use Rattle.hf_read.specs.References.{seen}
use Rattle.hf_read.proofs.references.refs_of_each.Goals as goal

pub returns : goal.returns
returns c =
    let ids = c.args.ids.now in
    let whole : length ids ≤ c.loop-id.id-index = omega (arith, c.loop-id-test.false, c.loop-id.auto.id-index-end) in
    c.loop-id.invariant ∙ ap (λ (some : List ℕ). map (kept_refs ids (seen c.args.boxes.now)) some) (take_all c.loop-id.id-index ids whole)
