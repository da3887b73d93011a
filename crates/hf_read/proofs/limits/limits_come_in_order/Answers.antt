use Rattle.std.proofs.Common.{refl}
use Rattle.hf_read.proofs.LimitLaws.{items_first, links_next, meta_last}
use Rattle.hf_read.proofs.Opened.{reads}
use Rattle.hf_read.proofs.limits.limits_come_in_order.Goals as goal

pub returns-clause-derived : goal.returns-clause-derived
unfolding reads
returns-clause-derived c = refl

pub returns-clause-items : goal.returns-clause-items
returns-clause-items c = items_first

pub returns-clause-links : goal.returns-clause-links
returns-clause-links c = links_next

pub returns-clause-meta : goal.returns-clause-meta
returns-clause-meta c = meta_last
