use Rattle.std.proofs.Common.{ℕ, ◌+◌, List, [], ◌∷◌, ◌++◌, refl, sym, ap, ◌∙◌, arith}
use Rattle.hf_trial.proofs.Ranges.{range-more}
use Rattle.hf_trial.proofs.building.ids.Goals as goal

pub loop-k-preserved : goal.loop-k-preserved
loop-k-preserved c =
    c.in_ok-push.ensures.pushed
    ∙ ap (λ (ids : List ℕ). ids ++ (c.args.first + c.loop-k.k) ∷ []) c.loop-k.invariant
    ∙ sym (range-more c.args.first c.loop-k.k (c.loop-k.k + 1) (c.args.first + c.loop-k.k) refl (omega arith))
