use Rattle.hf_read.proofs.LimitLaws.{short_meta, long_meta, greatest_meta}
use Rattle.hf_read.proofs.limits.meta_is_limited.Goals as goal

pub returns-clause-most : goal.returns-clause-most
returns-clause-most c = short_meta

pub returns-clause-more : goal.returns-clause-more
returns-clause-more c = long_meta

pub returns-clause-greatest : goal.returns-clause-greatest
returns-clause-greatest c = greatest_meta
