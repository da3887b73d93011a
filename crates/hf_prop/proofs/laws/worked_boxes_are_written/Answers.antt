use Rattle.std.proofs.Common.{refl}
use Rattle.hf_base.specs.Number.{num}
use Rattle.hf_box.specs.Head.{box, box_head}
use Rattle.hf_prop.specs.Ipma.{ipma_entry, ipma_body}
use Rattle.hf_prop.specs.Iprp.{ipco_body, iprp_body}
use Rattle.hf_prop.proofs.laws.worked_boxes_are_written.Goals as goal

pub returns-clause-neither : goal.returns-clause-neither
unfolding num box box_head ipma_entry ipma_body ipco_body iprp_body
returns-clause-neither c = refl

pub returns-clause-wide : goal.returns-clause-wide
unfolding num box box_head ipma_entry ipma_body ipco_body iprp_body
returns-clause-wide c = refl

pub returns-clause-long : goal.returns-clause-long
unfolding num box box_head ipma_entry ipma_body ipco_body iprp_body
returns-clause-long c = refl

pub returns-clause-long_tables : goal.returns-clause-long_tables
returns-clause-long_tables c = (refl, refl)
