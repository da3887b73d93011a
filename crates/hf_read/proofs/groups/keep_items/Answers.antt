use Rattle.std.proofs.Common.{rules}
use Rattle.std.proofs.lemmas.Fn.{filter_same}
use Rattle.hf_base.specs.Entries.{has_id}
use Rattle.hf_read.proofs.groups.keep_items.Goals as goal

pub returns : goal.returns
returns c = filter_same _ (λ id. has_id id c.args.ids.now) _ (λ i b f k. search (rules, c.requires)) _ _ c.retain.ensures
