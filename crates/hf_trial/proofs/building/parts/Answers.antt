use Rattle.std.proofs.Common.{ap, length, arith}
use Rattle.hf_links.specs.Grpl.{groups_of}
use Rattle.hf_trial.proofs.Built.{same_grid, same_exif, trial_is}
use Rattle.hf_trial.proofs.Cuts.{trial_bytes_hold, are_trial}
use Rattle.hf_trial.proofs.building.parts.Goals as goal

pub shares_of-shares-requires : goal.shares_of-shares-requires
shares_of-shares-requires c = omega (arith, trial_bytes_hold c.args.seed c.args.n, ap length c.requires.bytes)

pub tiles-requires-clause-bytes : goal.tiles-requires-clause-bytes
tiles-requires-clause-bytes c =
    (are_trial c.args.seed c.args.n c.shares_of-shares.result c.args.buffer.now c.shares_of-shares.ensures c.requires.bytes).tiles

pub tiles-requires-clause-hvcc : goal.tiles-requires-clause-hvcc
tiles-requires-clause-hvcc c =
    (are_trial c.args.seed c.args.n c.shares_of-shares.result c.args.buffer.now c.shares_of-shares.ensures c.requires.bytes).hvcc

pub tiles-requires-clause-ispe : goal.tiles-requires-clause-ispe
tiles-requires-clause-ispe c =
    (are_trial c.args.seed c.args.n c.shares_of-shares.result c.args.buffer.now c.shares_of-shares.ensures c.requires.bytes).tile_ispe

pub returns : goal.returns
returns c =
    let t = are_trial c.args.seed c.args.n c.shares_of-shares.result c.args.buffer.now c.shares_of-shares.ensures c.requires.bytes in
    trial_is c.args.seed c.args.n _ _ _ _ _ _ c.heic.ensures c.in_ok-push_grid.ensures c.in_ok-items.ensures
    (same_grid c.args.n _ _ t.grid t.grid_ispe) (same_exif c.args.n _ t.exif) (ap groups_of c.new.ensures)
