use Rattle.std.proofs.Common.{ap, ◌∙◌, rules, filter, map}
use Rattle.std.proofs.lemmas.Fn.{filter_same}
use Rattle.hf_store.specs.Changes.{cut_list}
use Rattle.hf_store.specs.Lists.{not_empty}
use Rattle.hf_store.specs.Stays.{stays_of}
use Rattle.hf_store.specs.Store.{RefList}
use Rattle.hf_store.proofs.cutting.cut_refs.Goals as goal

pub returns : goal.returns
returns c =
    c.from_vec.ensures ∙ filter_same _ (λ (r : RefList). not_empty r.to) _ (λ r b f k. search rules) _ _ c.retain.ensures.filtered
    ∙ ap (λ rs. filter (λ (r : RefList). not_empty r.to) rs) (c.cut_lists.ensures ∙ ap (map (cut_list (stays_of c.args.stays.now))) c.into_vec-lists.ensures)
