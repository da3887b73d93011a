use Rattle.std.proofs.Common.{refl}
use Rattle.hf_read.proofs.Opened.{reads}
use Rattle.hf_read.proofs.refused.children_are_refused.Goals as goal

pub returns-clause-second_hdlr : goal.returns-clause-second_hdlr
unfolding reads
returns-clause-second_hdlr c = refl

pub returns-clause-second_pitm : goal.returns-clause-second_pitm
unfolding reads
returns-clause-second_pitm c = refl

pub returns-clause-second_iinf : goal.returns-clause-second_iinf
unfolding reads
returns-clause-second_iinf c = refl

pub returns-clause-second_iloc : goal.returns-clause-second_iloc
unfolding reads
returns-clause-second_iloc c = refl

pub returns-clause-second_iref : goal.returns-clause-second_iref
unfolding reads
returns-clause-second_iref c = refl

pub returns-clause-second_iprp : goal.returns-clause-second_iprp
unfolding reads
returns-clause-second_iprp c = refl

pub returns-clause-second_grpl : goal.returns-clause-second_grpl
unfolding reads
returns-clause-second_grpl c = refl

pub returns-clause-second_idat : goal.returns-clause-second_idat
unfolding reads
returns-clause-second_idat c = refl

pub returns-clause-one_of_each : goal.returns-clause-one_of_each
unfolding reads
returns-clause-one_of_each c = refl

pub returns-clause-two_dinf : goal.returns-clause-two_dinf
unfolding reads
returns-clause-two_dinf c = refl

pub returns-clause-ipro : goal.returns-clause-ipro
unfolding reads
returns-clause-ipro c = refl

pub returns-clause-xml : goal.returns-clause-xml
unfolding reads
returns-clause-xml c = refl

pub returns-clause-bxml : goal.returns-clause-bxml
unfolding reads
returns-clause-bxml c = refl

pub returns-clause-xml_outside : goal.returns-clause-xml_outside
unfolding reads
returns-clause-xml_outside c = refl

pub returns-clause-first_of_two : goal.returns-clause-first_of_two
unfolding reads
returns-clause-first_of_two c = refl

pub returns-clause-no_hdlr : goal.returns-clause-no_hdlr
unfolding reads
returns-clause-no_hdlr c = refl

pub returns-clause-no_pitm : goal.returns-clause-no_pitm
unfolding reads
returns-clause-no_pitm c = refl

pub returns-clause-no_iinf : goal.returns-clause-no_iinf
unfolding reads
returns-clause-no_iinf c = refl
