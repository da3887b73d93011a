use Rattle.std.proofs.Common.{◌≡◌, ℕ, ◌+◌, ◌-◌, ap, ◌∙◌, arith}
use Rattle.std.specs.List.{flat_map, range_with_len}
use Rattle.hf_trial.specs.Bytes.{tile_bytes}
use Rattle.hf_trial.proofs.Cuts.{cut-tile, items-pushed}
use Rattle.hf_trial.proofs.building.tiles.Goals as goal

pub split_at-requires : goal.split_at-requires
split_at-requires c =
    let left = c.args.count - c.loop-k.k in
    let cut = cut-tile c.args.seed (c.loop-k.k + 1) left c.tile_size.result c.loop-k.rest.now (omega arith) c.loop-k.invariant.rest c.tile_size.ensures.value in
    cut.within

pub loop-k-preserved : goal.loop-k-preserved
loop-k-preserved c =
    let left = c.args.count - c.loop-k.k in
    let cut = cut-tile c.args.seed (c.loop-k.k + 1) left c.tile_size.result c.loop-k.rest.now (omega arith) c.loop-k.invariant.rest c.tile_size.ensures.value in
    let less : c.args.count - c.loop-k.k - 1 ≡ c.args.count - (c.loop-k.k + 1) = omega arith in
    record {
      items =
          items-pushed c.args.seed c.loop-k.k _ _ c.in_ok-tile.field-0 _ _ _ c.loop-k.invariant.items c.in_ok-push.ensures.pushed
          c.in_ok-tile.ensures (c.split_at.ensures.front ∙ cut.front) c.requires.hvcc c.requires.ispe;
      rest = c.split_at.ensures.back ∙ cut.back ∙ ap (λ (n : ℕ). flat_map (tile_bytes c.args.seed) (range_with_len (c.loop-k.k + 1 + 1) n)) less;
    }
