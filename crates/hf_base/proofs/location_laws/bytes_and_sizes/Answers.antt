use Rattle.hf_base.proofs.Converse.{bytes_size}
use Rattle.hf_base.proofs.location_laws.bytes_and_sizes.Goals as goal

pub returns : goal.returns
returns c = λ F idat items r b there. bytes_size F idat items r b there
