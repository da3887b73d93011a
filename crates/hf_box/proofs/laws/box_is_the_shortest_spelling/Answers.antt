use Rattle.hf_box.proofs.HeadLemmas.{box-compact, box-long, length-box}
use Rattle.hf_box.proofs.laws.box_is_the_shortest_spelling.Goals as goal

pub returns : goal.returns
returns c = record { compact = box-compact; long = box-long; length = length-box }
