use Rattle.std.proofs.Common.{◌≡◌, ℕ, ◌+◌, ◌*◌, List, ◌++◌, sym, ap, ◌∙◌, arith}
use Rattle.std.specs.List.{flat_map, range_with_len}
use Rattle.hf_trial.specs.Bytes.{tile_bytes, trial_tail, trial_bytes}
use Rattle.hf_trial.proofs.Ranges.{flat_map-more}
use Rattle.hf_trial.proofs.buffer.trial_buffer.Goals as goal

pub loop-k-preserved : goal.loop-k-preserved
loop-k-preserved c =
    c.in_ok-push_tile.ensures
    ∙ ap (λ (xs : List ℕ). xs ++ tile_bytes c.args.seed (c.loop-k.k + 1)) c.loop-k.invariant
    ∙ sym (flat_map-more (tile_bytes c.args.seed) c.loop-k.k)

pub returns : goal.returns
unfolding trial_bytes
returns c =
    let all : c.loop-k.k ≡ 16 * c.args.n = omega arith in
    let tiles = c.loop-k.invariant ∙ ap (λ (n : ℕ). flat_map (tile_bytes c.args.seed) (range_with_len 1 n)) all in
    c.in_ok-push_tail.ensures ∙ ap (λ (xs : List ℕ). xs ++ trial_tail c.args.seed c.args.n) tiles
