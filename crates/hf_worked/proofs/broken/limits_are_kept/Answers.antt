use Rattle.hf_worked.proofs.LargeStores.{meta_is_kept, body_is_kept, links_are_kept}
use Rattle.hf_worked.proofs.broken.limits_are_kept.Goals as goal

pub returns : goal.returns
returns c = record { meta = meta_is_kept; body = body_is_kept; links = links_are_kept }
