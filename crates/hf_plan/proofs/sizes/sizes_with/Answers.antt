use Rattle.std.proofs.Common.{◌≡◌, ap, ltb, ◌∙◌, arith}
use Rattle.hf_store.specs.Layout.{is_wide}
use Rattle.hf_store.specs.declared.tally.Counts.{Counts}
use Rattle.hf_store.proofs.CountsAre.{counts_are}
use Rattle.hf_store.proofs.FewCounts.{counts_are_few}
use Rattle.hf_plan.proofs.CountedPlans.{sizes-told}
use Rattle.hf_plan.proofs.sizes.sizes_with.Goals as goal

pub sizes_by-requires-clause-props : goal.sizes_by-requires-clause-props
sizes_by-requires-clause-props c = omega (arith, c.kind_bytes.ensures, (counts_are_few c.args.store.now c.counts-counts.ensures.valid).1)

pub returns-clause-value : goal.returns-clause-value
returns-clause-value c =
    let s = c.args.store.now in
    let counts = c.counts-counts in
    let wide : ltb 0 counts.result.wide ≡ is_wide s.items = ap (λ (k : Counts). ltb 0 k.wide) counts.ensures.value ∙ (counts_are s).wide in
    c.sizes_by.ensures.value
    ∙ sizes-told c.args.long s _ _ _ counts.result counts.ensures.valid wide c.kinds.ensures.count c.kind_bytes.ensures counts.ensures.value
