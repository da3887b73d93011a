use Rattle.std.proofs.Common.{◌∙◌}
use Rattle.hf_read.proofs.SearchLaws.{search_tells}
use Rattle.hf_read.proofs.search.is_item.Goals as goal

pub returns : goal.returns
returns c = c.is_ok.ensures.value ∙ search_tells c.args.ids.now c.args.id c.binary_search.result c.requires c.binary_search.ensures.position
