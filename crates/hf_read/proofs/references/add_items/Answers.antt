use Rattle.std.proofs.Common.{List, ℕ, ◌++◌, arith, ap, ◌∙◌}
use Rattle.std.specs.List.{filter}
use Rattle.hf_base.specs.Entries.{has_id}
use Rattle.hf_read.proofs.Gathered.{all_taken}
use Rattle.hf_read.proofs.references.add_items.Goals as goal

pub returns : goal.returns
returns c =
    let added = λ (more : List ℕ). c.args.to.now ++ filter (λ id. has_id id c.args.ids.now) more in
    all_taken added c.as_slice-id-items.result.now c.loop-id.id-index c.loop-id.to
    (omega (arith, c.loop-id-test.false, c.loop-id.auto.id-index-end)) c.loop-id.invariant ∙ ap added c.as_slice-id-items.ensures
