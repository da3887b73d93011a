use Rattle.std.proofs.Common.{◌≡◌, ◌≤◌, length, sym, ap, subst, ◌∙◌, arith, Some, None}
use Rattle.std.proofs.lemmas.List.{length-map}
use Rattle.std.specs.Prelude.{Err}
use Rattle.hf_base.specs.declared.limits.TheConstants as limits
use Rattle.hf_base.specs.declared.fault.OpenFault.{OpenFault}
use Rattle.hf_base.specs.declared.fault.ReadRefusal.TheVariants.{TooManyItems, MetaTooLong}
use Rattle.hf_base.specs.Reading.{IfUnfit}
use Rattle.hf_links.specs.Grpl.{groups_of}
use Rattle.hf_store.specs.Capped.{capped, capped_counts}
use Rattle.hf_store.specs.Counts.{counts_of_items, counts_of_groups}
use Rattle.hf_store.specs.LimitFaults.{first_item, has_long_list, limits_fault}
use Rattle.hf_store.specs.Measured.{IsMeasurable}
use Rattle.hf_store.specs.Seen.{item_of, items_of, stated}
use Rattle.hf_store.specs.Valid.{meta_len}
use Rattle.hf_store.proofs.Passed.{many_items, many_links, long_meta, none_passed, none_told, measurable, valid_within}
use Rattle.hf_store.proofs.Recounted.{recounted, counted_exactly}
use Rattle.hf_store.proofs.store.build.count_within.Goals as goal

pub returns-then-count-gt-ITEMS : goal.returns-then-count-gt-ITEMS
returns-then-count-gt-ITEMS c =
    let s = stated c.args.parts.now in
    let n : length c.as_slice-items.result.now ≡ length s.items = omega (arith, length-map c.args.parts.now.items item_of, ap length c.as_slice-items.ensures) in
    let many = many_items s (omega (arith, n, c.if-count-gt-ITEMS.true)) in
    subst (λ (e : OpenFault). IfUnfit e (λ why. limits_fault s ≡ Err why)) (sym c.into.ensures) (many ∙ ap (λ k. Err (TooManyItems k)) (sym n))

pub returns-in-Some : goal.returns-in-Some
returns-in-Some c =
    let s = stated c.args.parts.now in
    let few : length s.items ≤ limits.ITEMS = omega (arith, c.if-count-gt-ITEMS.false, length-map c.args.parts.now.items item_of, ap length c.as_slice-items.ensures) in
    let found : first_item has_long_list s.items ≡ Some c.in-Some.id = ap (λ is. first_item has_long_list (items_of is)) (sym c.as_slice-items.ensures) ∙ sym c.first_long_list.ensures ∙ c.in-Some.is in
    subst (λ (e : OpenFault). IfUnfit e (λ why. limits_fault s ≡ Err why)) (sym c.into-in-Some.ensures) (many_links s c.in-Some.id few found)

pub measure_meta-requires : goal.measure_meta-requires
measure_meta-requires c =
    let s = stated c.args.parts.now in
    let none : first_item has_long_list s.items ≡ None = ap (λ is. first_item has_long_list (items_of is)) (sym c.as_slice-items.ensures) ∙ sym c.first_long_list.ensures ∙ none_told c.first_long_list.result c.in_default.not-Some in
    subst (λ is. IsMeasurable (items_of is) (groups_of c.as_slice-groups.result.now)) (sym c.as_slice-items.ensures)
    (subst (λ gs. IsMeasurable s.items (groups_of gs)) (sym c.as_slice-groups.ensures) (measurable c.requires.0 c.requires.1 c.requires.2 s c.requires.3 none))

pub returns-then-size-gt-META : goal.returns-then-size-gt-META
returns-then-size-gt-META c =
    let s = stated c.args.parts.now in
    let few : length s.items ≤ limits.ITEMS = omega (arith, c.if-count-gt-ITEMS.false, length-map c.args.parts.now.items item_of, ap length c.as_slice-items.ensures) in
    let none : first_item has_long_list s.items ≡ None = ap (λ is. first_item has_long_list (items_of is)) (sym c.as_slice-items.ensures) ∙ sym c.first_long_list.ensures ∙ none_told c.first_long_list.result c.in_default.not-Some in
    let items = c.count_items.ensures ∙ ap (λ is. capped_counts (counts_of_items (items_of is))) c.as_slice-items.ensures in
    let groups = c.count_groups.ensures ∙ ap (λ gs. capped_counts (counts_of_groups (groups_of gs))) c.as_slice-groups.ensures in
    let counts = recounted s c.count_items.result c.count_groups.result c.plus-counts.result items groups c.plus-counts.ensures in
    let size : c.in_ok-size.size ≡ capped (meta_len s) = c.in_ok-size.ensures s (ap items_of (sym c.as_slice-items.ensures)) (ap groups_of (sym c.as_slice-groups.ensures)) counts in
    subst (λ (e : OpenFault). IfUnfit e (λ why. limits_fault s ≡ Err why)) (sym c.into-then-size-gt-META.ensures)
    (long_meta s few none (omega (arith, size, c.if-size-gt-META.true)) ∙ ap (λ n. Err (MetaTooLong n)) (sym size))

pub returns : goal.returns
returns c =
    let s = stated c.args.parts.now in
    let few : length s.items ≤ limits.ITEMS = omega (arith, c.if-count-gt-ITEMS.false, length-map c.args.parts.now.items item_of, ap length c.as_slice-items.ensures) in
    let none : first_item has_long_list s.items ≡ None = ap (λ is. first_item has_long_list (items_of is)) (sym c.as_slice-items.ensures) ∙ sym c.first_long_list.ensures ∙ none_told c.first_long_list.result c.in_default.not-Some in
    let items = c.count_items.ensures ∙ ap (λ is. capped_counts (counts_of_items (items_of is))) c.as_slice-items.ensures in
    let groups = c.count_groups.ensures ∙ ap (λ gs. capped_counts (counts_of_groups (groups_of gs))) c.as_slice-groups.ensures in
    let counts = recounted s c.count_items.result c.count_groups.result c.plus-counts.result items groups c.plus-counts.ensures in
    let size : c.in_ok-size.size ≡ capped (meta_len s) = c.in_ok-size.ensures s (ap items_of (sym c.as_slice-items.ensures)) (ap groups_of (sym c.as_slice-groups.ensures)) counts in
    let short : meta_len s ≤ limits.META = omega (arith, size, c.if-size-gt-META.false) in
    let valid = valid_within c.requires.0 c.requires.1 c.requires.2 s c.requires.3 none few short in
    (counted_exactly s valid c.plus-counts.result counts, valid, none_passed s few none short)
