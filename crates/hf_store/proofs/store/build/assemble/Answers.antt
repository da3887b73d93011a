use Rattle.std.proofs.Common.{◌≤◌, sym, subst}
use Rattle.std.specs.List.{flat_map}
use Rattle.hf_base.specs.declared.limits.TheConstants as limits
use Rattle.hf_head.specs.Ftyp.{brands_of}
use Rattle.hf_links.specs.Grpl.{groups_of}
use Rattle.hf_store.specs.Referred.{HasAll, all_targets}
use Rattle.hf_store.specs.Seen.{items_of}
use Rattle.hf_store.specs.Store.{ItemStore}
use Rattle.hf_store.specs.Table.{props_of}
use Rattle.hf_table.specs.Table.{table, size_sum}
use Rattle.hf_table.specs.Uses.{Tallies}
use Rattle.hf_store.proofs.Few.{light_props}
use Rattle.hf_store.proofs.store.build.assemble.Goals as goal

pub uses_of-requires-clause-light : goal.uses_of-requires-clause-light
uses_of-requires-clause-light c =
    let a = c.args in
    let s : ItemStore = record { brands = brands_of a.brands; primary = a.primary; items = items_of a.items.items; groups = groups_of a.groups.items } in
    subst (λ is. size_sum (table (flat_map props_of (items_of is))) ≤ limits.META) (sym c.deref.ensures.value) (light_props s c.requires.valid)

pub invariant_of-result : goal.invariant_of-result
invariant_of-result c = record {
  valid = c.requires.valid;
  tallies = subst (λ is. Tallies c.in_ok-uses.uses (flat_map props_of (items_of is))) c.deref.ensures.value c.in_ok-uses.ensures;
  counted = c.requires.counted;
  referred = subst (λ is. HasAll c.in_ok-referred.referred (all_targets (items_of is))) c.deref-2.ensures.value c.in_ok-referred.ensures;
}
