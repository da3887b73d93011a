use Rattle.hf_read.proofs.ReadingLaws.{reading_denotes}
use Rattle.hf_read.proofs.laws.reading_denotes.Goals as goal

pub returns : goal.returns
returns c = reading_denotes
