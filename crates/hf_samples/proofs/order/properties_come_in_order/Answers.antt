use Rattle.std.proofs.Common.{refl}
use Rattle.hf_read.proofs.Opened.{reads}
use Rattle.hf_samples.specs.OrderOfProperties.{ipco_twice_first, ipco_cut_first, ipma_version_first, ipma_cut_first, association_twice_first}
use Rattle.hf_samples.specs.OrderOfProperties.{bad_property_first, group_large_first, group_cut_first, group_twice_first}
use Rattle.hf_samples.proofs.order.properties_come_in_order.Goals as goal

pub returns-clause-ipco_twice : goal.returns-clause-ipco_twice
unfolding reads ipco_twice_first
returns-clause-ipco_twice c = refl

pub returns-clause-ipco_cut : goal.returns-clause-ipco_cut
unfolding reads ipco_cut_first
returns-clause-ipco_cut c = refl

pub returns-clause-ipma_version : goal.returns-clause-ipma_version
unfolding reads ipma_version_first
returns-clause-ipma_version c = refl

pub returns-clause-ipma_cut : goal.returns-clause-ipma_cut
unfolding reads ipma_cut_first
returns-clause-ipma_cut c = refl

pub returns-clause-association_twice : goal.returns-clause-association_twice
unfolding reads association_twice_first
returns-clause-association_twice c = refl

pub returns-clause-bad_property : goal.returns-clause-bad_property
unfolding reads bad_property_first
returns-clause-bad_property c = refl

pub returns-clause-group_large : goal.returns-clause-group_large
unfolding reads group_large_first
returns-clause-group_large c = refl

pub returns-clause-group_cut : goal.returns-clause-group_cut
unfolding reads group_cut_first
returns-clause-group_cut c = refl

pub returns-clause-group_twice : goal.returns-clause-group_twice
unfolding reads group_twice_first
returns-clause-group_twice c = refl
