use Rattle.hf_info.proofs.PutLemmas.{length-zero_ended}
use Rattle.hf_info.proofs.put.text_len.Goals as goal

pub returns : goal.returns
returns c = length-zero_ended c.args.text.now
