use Rattle.std.proofs.Common.{◌≡◌, List, sym, ap, subst, ◌∙◌}
use Rattle.std.specs.List.{flat_map}
use Rattle.hf_links.specs.Grpl.{groups_of}
use Rattle.hf_store.specs.Capped.{capped_counts}
use Rattle.hf_store.specs.Changes.{without_names}
use Rattle.hf_store.specs.Counts.{counts_of_items, counts_of_groups}
use Rattle.hf_store.specs.Referred.{HasAll, all_targets}
use Rattle.hf_store.specs.Seen.{items_of, store_of}
use Rattle.hf_store.specs.Store.{Item, ItemStore}
use Rattle.hf_store.specs.Table.{props_of}
use Rattle.hf_store.specs.Valid.{Valid}
use Rattle.hf_table.specs.Uses.{Tallies}
use Rattle.hf_store.proofs.Names.{props-unnamed, valid_unnamed}
use Rattle.hf_store.proofs.Recounted.{recounted, counted_exactly}
use Rattle.hf_store.proofs.Targets.{targets-unnamed}
use Rattle.hf_store.proofs.store.Store.clear_names.Goals as goal

out : (c : goal.After-self-1) → record (store_of c.self.inside) { items = items_of c.unname.new.items.items } ≡ without_names (store_of c.self.inside)
out c = let made : List Item → ItemStore = λ is. record (store_of c.self.inside) { items = is } in ap made c.unname.ensures

pub invariant_of-self : goal.invariant_of-self
invariant_of-self c =
    let s = store_of c.self.inside in
    let t : ItemStore = record s { items = items_of c.unname.new.items.items } in
    let valid : Valid t = subst Valid (sym (out c)) (valid_unnamed s c.self.invariant.valid) in
    let items = c.count_items.ensures ∙ ap (λ is. capped_counts (counts_of_items (items_of is))) c.deref.ensures.value in
    let groups = c.count_groups.ensures ∙ ap (λ gs. capped_counts (counts_of_groups (groups_of gs))) c.deref-2.ensures.value in
    record {
      valid = valid;
      tallies = subst (Tallies c.self.inside.uses) (sym (ap (flat_map props_of) c.unname.ensures ∙ props-unnamed s.items)) c.self.invariant.tallies;
      counted = counted_exactly t valid c.plus-self-inside.result (recounted t c.count_items.result c.count_groups.result c.plus-self-inside.result items groups c.plus-self-inside.ensures);
      referred = subst (HasAll c.self.inside.referred) (sym (ap all_targets c.unname.ensures ∙ targets-unnamed s.items)) c.self.invariant.referred;
    }

pub returns : goal.returns
returns c = out c ∙ ap without_names c.self.view_is
