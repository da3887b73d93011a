use Rattle.std.proofs.Common.{refl}
use Rattle.hf_read.proofs.Opened.{reads}
use Rattle.hf_read.proofs.order.children_come_in_order.Goals as goal

pub returns-clause-framing : goal.returns-clause-framing
unfolding reads
returns-clause-framing c = refl

pub returns-clause-protection : goal.returns-clause-protection
unfolding reads
returns-clause-protection c = refl

pub returns-clause-xml : goal.returns-clause-xml
unfolding reads
returns-clause-xml c = refl

pub returns-clause-second : goal.returns-clause-second
unfolding reads
returns-clause-second c = refl

pub returns-clause-hdlr : goal.returns-clause-hdlr
unfolding reads
returns-clause-hdlr c = refl

pub returns-clause-pitm : goal.returns-clause-pitm
unfolding reads
returns-clause-pitm c = refl

pub returns-clause-iinf : goal.returns-clause-iinf
unfolding reads
returns-clause-iinf c = refl
