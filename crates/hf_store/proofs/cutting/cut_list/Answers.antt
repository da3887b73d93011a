use Rattle.std.proofs.Common.{ap, rules}
use Rattle.std.proofs.lemmas.Fn.{filter_same}
use Rattle.hf_store.specs.Stays.{stays_of}
use Rattle.hf_store.proofs.cutting.cut_list.Goals as goal

pub returns : goal.returns
returns c = ap (λ ids. record c.args.list.now { to = ids }) (filter_same _ (stays_of c.args.stays.now) _ (λ i b f k. search (rules, c.requires)) _ _ c.retain.ensures)
