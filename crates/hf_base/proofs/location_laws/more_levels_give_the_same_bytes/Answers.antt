use Rattle.hf_base.proofs.ChainLaws.{more_levels}
use Rattle.hf_base.proofs.location_laws.more_levels_give_the_same_bytes.Goals as goal

pub returns : goal.returns
returns c = λ F idat items r bytes levels more there le. more_levels F idat items r bytes levels more there le
