use Rattle.std.proofs.Common.{◌≡◌, ℕ, List, map, filter, refl, sym, ap, subst, ◌∙◌, rules}
use Rattle.std.specs.List.{flat_map}
use Rattle.std.specs.List.Sorted.{IsStrictlyIncreasing}
use Rattle.std.proofs.lemmas.Fn.{filter_same}
use Rattle.hf_links.specs.Grpl.{groups_of}
use Rattle.hf_store.specs.Capped.{capped_counts}
use Rattle.hf_store.specs.Changes.{cut_item, cut, kept_only}
use Rattle.hf_store.specs.Counts.{plus, counts_of_items, counts_of_groups, counts_of}
use Rattle.hf_store.specs.Lists.{IsIn}
use Rattle.hf_store.specs.Referred.{all_targets}
use Rattle.hf_store.specs.Seen.{items_of, store_of}
use Rattle.hf_store.specs.Store.{Item, Group, ItemStore}
use Rattle.hf_store.specs.Table.{props_of}
use Rattle.hf_store.specs.Valid.{Valid}
use Rattle.hf_store.specs.declared.item.Item.{Item as CodeItem}
use Rattle.hf_table.specs.Held.{is_among, props_of_others}
use Rattle.hf_table.specs.Uses.{Gains, Holds, Tallies}
use Rattle.hf_table.proofs.Stores.{holds-others, tallies-listed}
use Rattle.hf_store.proofs.Capped.{capped-plus}
use Rattle.hf_store.proofs.Few.{few_capped}
use Rattle.hf_store.proofs.FewCounts.{counts_few}
use Rattle.hf_store.proofs.Listed.{code_props, code-props, stated-listed}
use Rattle.hf_store.proofs.Removed.{props-cut}
use Rattle.hf_store.proofs.Targets.{targets_cut, targets_filtered}
use Rattle.hf_store.proofs.store.Store.keep_only.Goals as goal

pub take_others-requires : goal.take_others-requires
take_others-requires c =
    let tallies : Tallies c.self.inside.uses (flat_map code_props c.self.inside.items.items) = subst (Tallies c.self.inside.uses) (code-props c.self.inside.items.items) c.self.invariant.tallies in
    λ k. (
      (refl, tt),
      (
        subst IsStrictlyIncreasing (sym c.as_slice-ids.ensures) c.requires.rises,
        subst (λ is. Holds c.self.inside.uses (props_of_others (λ (i : CodeItem). i.id) code_props c.as_slice-ids.result.now is)) (sym c.deref.ensures.value) (holds-others code_props (λ (i : CodeItem). i.id) c.as_slice-ids.result.now c.self.inside.uses c.self.inside.items.items tallies),
      ),
    )

retained : (c : goal.After-self-1) → c.retain.new.self.items ≡ filter (λ (i : CodeItem). is_among c.as_slice-ids.result.now i.id) c.self.inside.items.items
retained c =
    let rises : IsStrictlyIncreasing c.as_slice-ids.result.now = subst IsStrictlyIncreasing (sym c.as_slice-ids.ensures) c.requires.rises in
    filter_same _ (λ (i : CodeItem). is_among c.as_slice-ids.result.now i.id) _ (λ i b f k. search (rules, rises)) _ _ c.retain.ensures.filtered

items_left : (c : goal.After-self-1) → items_of c.cut_items-links.new.items.items ≡ map (cut_item (is_among c.as_slice-ids.result.now)) (filter (λ (i : Item). is_among c.as_slice-ids.result.now i.id) (items_of c.self.inside.items.items))
items_left c =
    let p = is_among c.as_slice-ids.result.now in
    c.cut_items-links.ensures.items ∙ ap (λ is. map (cut_item p) (items_of is)) (retained c) ∙ ap (map (cut_item p)) (stated-listed p c.self.inside.items.items)

out : (c : goal.After-self-1) → record (store_of c.self.inside) { items = items_of c.cut_items-links.new.items.items; groups = groups_of c.cut_groups.new.groups.items } ≡ kept_only c.args.keep.now c.args.self.now
unfolding cut
out c =
    let s = store_of c.self.inside in
    let made : List Item → List Group → ItemStore = λ is gs. record s { items = is; groups = gs } in
    let p = is_among c.as_slice-ids.result.now in
    ap (λ is. made is (groups_of c.cut_groups.new.groups.items)) (items_left c) ∙ ap (made (map (cut_item p) (filter (λ (i : Item). p i.id) s.items))) c.cut_groups.ensures
    ∙ ap (λ ids. kept_only ids s) c.as_slice-ids.ensures ∙ ap (kept_only c.args.keep.now) c.self.view_is

pub invariant_of-self : goal.invariant_of-self
unfolding counts_of
invariant_of-self c =
    let t : ItemStore = record (store_of c.self.inside) { items = items_of c.cut_items-links.new.items.items; groups = groups_of c.cut_groups.new.groups.items } in
    let valid : Valid t = subst Valid (sym (out c)) c.requires.valid in
    let ids = c.as_slice-ids.result.now in
    let us = c.self.inside.uses in
    let is = c.self.inside.items.items in
    let id_of : CodeItem → ℕ = λ i. i.id in
    let p = is_among ids in
    let old : Tallies us (flat_map code_props is) = subst (Tallies us) (code-props is) c.self.invariant.tallies in
    let down : Gains c.take_others.new.self (props_of_others id_of code_props ids is) us = subst (λ js. Gains c.take_others.new.self (props_of_others id_of code_props ids js) us) c.deref.ensures.value c.take_others.ensures in
    let listed = tallies-listed code_props id_of ids us is old c.take_others.new.self down in
    let props : flat_map props_of t.items ≡ flat_map code_props (filter (λ (i : CodeItem). is_among ids i.id) is) =
    ap (flat_map props_of) c.cut_items-links.ensures.items ∙ props-cut (is_among ids) (items_of c.retain.new.self.items) ∙ ap (λ js. flat_map props_of (items_of js)) (retained c) ∙ code-props (filter (λ (i : CodeItem). is_among ids i.id) is)
    in
    let items = c.count_items.ensures ∙ ap (λ js. capped_counts (counts_of_items (items_of js))) c.deref-2.ensures.value in
    let groups = c.count_groups.ensures ∙ ap (λ hs. capped_counts (counts_of_groups (groups_of hs))) c.deref-3.ensures.value in
    record {
      valid = valid;
      tallies = subst (Tallies c.take_others.new.self) (sym props) listed;
      counted =
          c.plus-self-inside.ensures ∙ ap (λ k. capped_counts (plus k c.count_groups.result)) items ∙ ap (λ k. capped_counts (plus (capped_counts (counts_of_items t.items)) k)) groups
          ∙ capped-plus (counts_of_items t.items) (counts_of_groups t.groups) ∙ few_capped (plus (counts_of_items t.items) (counts_of_groups t.groups)) (counts_few t valid);
      referred = λ id h.
          let stay : List Item = filter (λ (i : Item). p i.id) (items_of is) in
          let led : IsIn id (all_targets (map (cut_item p) stay)) = subst (λ js. IsIn id (all_targets js)) (items_left c) h in
          c.self.invariant.referred id (targets_filtered (λ (i : Item). p i.id) (items_of is) id (targets_cut p stay id led));
    }

pub returns : goal.returns
returns c = out c
