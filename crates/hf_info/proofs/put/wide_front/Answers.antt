use Rattle.std.proofs.Common.{sym}
use Rattle.hf_base.specs.Number.{num}
use Rattle.hf_info.specs.Infe.{info_of}
use Rattle.hf_info.proofs.PutLemmas.{wide_front_is}
use Rattle.hf_info.proofs.put.wide_front.Goals as goal

pub returns : goal.returns
unfolding num
returns c = rw (c.be_put-2.ensures, c.be_put.ensures, c.copy_from_slice.ensures.after, c.copy_from_slice-2.ensures.after, c.mark_of.ensures) (sym (wide_front_is c.args.size (info_of c.args.info.now)))
