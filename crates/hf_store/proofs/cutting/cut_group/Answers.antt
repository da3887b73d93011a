use Rattle.std.proofs.Common.{ap, rules}
use Rattle.std.proofs.lemmas.Fn.{filter_same}
use Rattle.hf_store.specs.Stays.{stays_of}
use Rattle.hf_links.specs.Grpl.{group_of}
use Rattle.hf_store.proofs.cutting.cut_group.Goals as goal

pub returns : goal.returns
returns c = ap (λ ids. record (group_of c.args.group.now) { entities = ids }) (filter_same _ (stays_of c.args.stays.now) _ (λ i b f k. search (rules, c.requires)) _ _ c.retain.ensures)
