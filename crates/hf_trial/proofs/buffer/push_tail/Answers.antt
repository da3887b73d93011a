use Rattle.std.proofs.Common.{◌≡◌, List, ℕ, ◌++◌, refl, ap, ◌∙◌}
use Rattle.hf_trial.specs.Bytes.{exif_bytes, trial_tail}
use Rattle.hf_trial.proofs.Parts.{five-more}
use Rattle.hf_trial.proofs.buffer.push_tail.Goals as goal

pub returns : goal.returns
unfolding trial_tail exif_bytes
returns c =
    let from : (xs a b : List ℕ) → a ≡ b → xs ++ a ≡ xs ++ b = λ xs a b e. ap (λ (ys : List ℕ). xs ++ ys) e in
    five-more c.args.bytes.now.items _ _ _ _ _ (trial_tail c.args.seed c.args.n) _ _ _ _ _
    (c.in_ok-extend_from_slice.ensures.items ∙ from _ _ _ c.grid_payload.ensures)
    c.in_ok-extend_from_slice-2.ensures.items
    (c.in_ok-extend_from_slice-3.ensures.items ∙ from _ _ _ c.hvcc.ensures)
    (c.in_ok-extend_from_slice-4.ensures.items ∙ from _ _ _ c.ispe.ensures)
    (c.in_ok-extend_from_slice-5.ensures.items ∙ from _ _ _ c.ispe-2.ensures)
    refl
