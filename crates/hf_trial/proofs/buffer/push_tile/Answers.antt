use Rattle.std.proofs.Common.{◌≡◌, ℕ, ◌+◌, ◌%◌, ◌++◌, refl, ap, ◌∙◌, arith}
use Rattle.std.specs.Prelude.{map}
use Rattle.std.specs.List.{range_with_len}
use Rattle.hf_trial.specs.Bytes.{tile_size, tile_bytes}
use Rattle.hf_trial.proofs.Parts.{map-pushed}
use Rattle.hf_trial.proofs.buffer.push_tile.Goals as goal

pub loop-j-preserved : goal.loop-j-preserved
loop-j-preserved c =
    map-pushed (λ j. (c.args.seed + c.args.k + j) % 256) c.args.bytes.now.items c.loop-j.bytes.items _ c.loop-j.j _
    c.loop-j.invariant c.in_ok-push.ensures.items refl

pub returns : goal.returns
unfolding tile_bytes
returns c =
    let all : c.loop-j.j ≡ tile_size c.args.seed c.args.k = omega arith in
    c.loop-j.invariant ∙ ap (λ (n : ℕ). c.args.bytes.now.items ++ map (λ j. (c.args.seed + c.args.k + j) % 256) (range_with_len 0 n)) all
