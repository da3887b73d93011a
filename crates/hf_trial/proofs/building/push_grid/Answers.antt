use Rattle.hf_trial.proofs.Built.{items_more}
use Rattle.hf_trial.proofs.building.push_grid.Goals as goal

pub returns : goal.returns
returns c = items_more _ _ _ _ _ _ _ c.in_ok-push.ensures.pushed c.in_ok-push-2.ensures.pushed c.in_ok-grid.ensures c.in_ok-exif.ensures
