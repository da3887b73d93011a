use Rattle.std.proofs.Common.{◌∙◌}
use Rattle.hf_read.proofs.SearchLaws.{search_tells}
use Rattle.hf_read.proofs.groups.fn.keep_items.retain.Goals as goal

pub returns : goal.returns
returns c = λ up. c.is_ok.ensures.value ∙ search_tells c.captures.ids.now c.args.id.now c.binary_search.result up c.binary_search.ensures.position
