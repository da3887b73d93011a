-- The items that edits add are good.
use Rattle.std.proofs.Common.{◌≡◌, ◌<◌, ◌+◌, ◌-◌, ◌^◌, ◌&&◌, ℕ, Bool, true, false, List, [], ◌∷◌, ◌++◌, length, refl, sym, ap, ◌∙◌, arith, inl, inr, eqb-true, Option, Some, None}
use Rattle.std.specs.Prelude.{◌==◌, nat_lt, IsTrue}
use Rattle.std.specs.List.{flat_map}
use Rattle.std.specs.Option.{is_none}
use Rattle.std.proofs.lemmas.Bool.{and_cases, cases_Bool, eq-eqb, eqb-false, ltb-false, or_parts}
use Rattle.std.proofs.lemmas.Grind.{flat_map-append}
use Rattle.std.proofs.lemmas.List.{append-nil}
use Rattle.hf_base.specs.declared.four.FourCc.{FourCc}
use Rattle.hf_base.specs.declared.limits.TheConstants as limits
use Rattle.hf_box.specs.Literals.{four}
use Rattle.hf_box.specs.Walk.{is_kind}
use Rattle.hf_table.specs.Held.{props_in}
use Rattle.hf_table.specs.Table.{table}
use Rattle.hf_store.specs.Changes.{added}
use Rattle.hf_store.specs.Derived.{fits, inputs}
use Rattle.hf_store.specs.Lists.{IsIn}
use Rattle.hf_store.specs.Store.{Held, Item, ItemStore, ids_of}
use Rattle.hf_store.specs.Table.{props_of, table_of}
use Rattle.hf_store.specs.Valid.{body_sum, IsFour, IsGoodItem, IsGoodRef, meta_len, Valid}
use Rattle.hf_store.proofs.Spots.{some_is}
use Rattle.hf_edit.specs.Additions.{exif_item, greatest_id, item_with, next_id_of, primary_item, thumbnail_item, xmp_item}
use Rattle.hf_edit.specs.Edits.{is_derived, primary_is, with_thumbnail}
use Rattle.hf_edit.specs.Left.{MetadataHasNoProps}
use Rattle.hf_edit.proofs.Added.{AreKept, greatest_id_fits, le-greatest_id, valid_added}
use Rattle.hf_order.proofs.Members.{in_all}
use Rattle.hf_edit.proofs.Members.{none_passes}

-- ---- the id, and the limits

pub next_fits : (s : ItemStore) → Valid s → is_none (next_id_of s) ≡ false → greatest_id s + 1 < 256 ^ 4
unfolding next_id_of
next_fits s valid left =
    elim (cases_Bool (greatest_id s == 256 ^ 4 - 1)) [
      | inl last ↦ absurd (let none : true ≡ false = rw last at left in cc)
      | inr other ↦ omega (arith, greatest_id_fits s valid, eqb-false (greatest_id s) (256 ^ 4 - 1) other)
    ]

pub kept : (t : ItemStore) → nat_lt limits.ITEMS (length t.items) ≡ false → nat_lt limits.KINDS (length (table_of t)) ≡ false
    → nat_lt limits.BODY (body_sum t.items) ≡ false → nat_lt limits.META (meta_len t) ≡ false
    → AreKept t
kept t items kinds body meta = record {
  count = ltb-false limits.ITEMS _ items;
  kinds = ltb-false limits.KINDS _ kinds;
  body = ltb-false limits.BODY _ body;
  meta = ltb-false limits.META _ meta;
}

-- ---- what is described, and what is made small

-- a reference to one of these items
good_reference : (is : List Item) (kind : FourCc) (to : ℕ) → IsFour kind → is_kind kind (four "iloc") ≡ false → IsIn to (ids_of is)
    → IsGoodRef is (record { kind = kind; to = to ∷ [] })
good_reference is kind to bytes not_iloc there = record {
  kind = bytes;
  not_iloc = λ same. absurd (let is : is_kind kind (four "iloc") ≡ true = ap (λ k. is_kind k (four "iloc")) same in cc);
  some = omega arith;
  links = omega arith;
  to = (there, tt);
}

fits_plain : (i : Item) → is_derived i ≡ false → IsTrue (fits i.kind i.bytes 0)
fits_plain i plain =
    let iden = or_parts _ (is_kind i.kind (four "iden")) plain in
    let iovl = or_parts _ (is_kind i.kind (four "iovl")) iden.0 in
    let grid = or_parts _ (is_kind i.kind (four "grid")) iovl.0 in
    rw (grid.1, iovl.1, iden.1) refl

item_found : (id : ℕ) (is : List Item) (i : Item) → item_with id is ≡ Some i → IsIn i is × (i.id ≡ id)
item_found id [] i found = absurd cc
item_found id (j ∷ js) i found =
    elim (cases_Bool (j.id == id)) [
      | inl here ↦
          let same : Some j ≡ Some i = rw here at found in
          let is : j ≡ i = some_is same in
          (inl is, ap (λ (x : Item). x.id) (sym is) ∙ eqb-true j.id id here)
      | inr other ↦ let later = item_found id js i (rw other at found) in (inr later.0, later.1)
    ]

-- the primary item fails a test that it is not to pass
found_fails : (test : Item → Bool) (s : ItemStore) (i : Item) → primary_item s ≡ Some i → primary_is test s ≡ false → test i ≡ false
found_fails test s i found none =
    let from = item_found s.primary s.items i found in
    let fails = none_passes (λ (j : Item). (j.id == s.primary) && test j) s.items i none from.0 in
    elim (and_cases (i.id == s.primary) (test i) fails) [
      | inl other ↦ absurd (let same = eq-eqb i.id s.primary from.1 in cc)
      | inr here ↦ here
    ]

module _ (s : ItemStore) (id : ℕ) (there : IsIn id (ids_of s.items)) (fits : greatest_id s + 1 < 256 ^ 4) where
  pub good_exif : (tiff : List ℕ) → IsGoodItem s.items (exif_item tiff id (greatest_id s + 1))
  good_exif tiff = record {
    id = fits;
    kind = refl;
    name = tt;
    content = tt;
    encoding = tt;
    uri = tt;
    only_mime = inr (refl, refl);
    only_uri = inr refl;
    props = omega arith;
    prop_kinds = tt;
    refs = (good_reference s.items (four "cdsc") id refl refl there, tt);
    kinds_rise = tt;
    fits = refl;
  }

  pub good_xmp : (text : List ℕ) → IsGoodItem s.items (xmp_item text id (greatest_id s + 1))
  good_xmp text = record {
    id = fits;
    kind = refl;
    name = tt;
    content = search arith;
    encoding = tt;
    uri = tt;
    only_mime = inl refl;
    only_uri = inr refl;
    props = omega arith;
    prop_kinds = tt;
    refs = (good_reference s.items (four "cdsc") id refl refl there, tt);
    kinds_rise = tt;
    fits = refl;
  }

  good_thumbnail : (is : List Item) (picture : Item) → IsGoodItem is picture → is_derived picture ≡ false
      → IsGoodItem s.items (thumbnail_item picture id (greatest_id s + 1))
  good_thumbnail is picture good plain = record {
    id = fits;
    kind = good.kind;
    name = tt;
    content = tt;
    encoding = tt;
    uri = tt;
    only_mime = inr (refl, refl);
    only_uri = inr refl;
    props = good.props;
    prop_kinds = good.prop_kinds;
    refs = (good_reference s.items (four "thmb") id refl refl there, tt);
    kinds_rise = tt;
    fits = fits_plain picture plain;
  }

  -- ---- the store with one more

  -- it has the greatest id
  pub valid_more : (i : Item) → Valid s → i.id ≡ greatest_id s + 1 → inputs i.refs ≡ [] → IsGoodItem s.items i → AreKept (added i s) → Valid (added i s)
  valid_more i valid is alone good kept = valid_added s i valid good (λ x there. omega (arith, le-greatest_id s x there, is)) alone kept

  pub valid_thumbnail : (donor : ItemStore) (found : Option Item) → primary_item donor ≡ found → Valid s → Valid donor → primary_is is_derived donor ≡ false
      → AreKept (with_thumbnail found id s) → Valid (with_thumbnail found id s)
  valid_thumbnail donor None is valid good plain kept = valid
  valid_thumbnail donor (Some picture) is valid good plain kept =
      let from = item_found donor.primary donor.items picture is in
      let good_picture = in_all (IsGoodItem donor.items) donor.items good.items picture from.0 in
      valid_more (thumbnail_item picture id (greatest_id s + 1)) valid refl refl
      (good_thumbnail donor.items picture good_picture (found_fails is_derived donor picture is plain))
      kept

-- ---- metadata has no properties

table-added : (s : ItemStore) (i : Item) → i.props ≡ [] → table_of (added i s) ≡ table_of s
unfolding table_of
table-added s i none =
    let alone : flat_map props_of (i ∷ []) ≡ [] = ap (λ (hs : List Held). props_in hs ++ []) none in
    ap table
    (flat_map-append props_of s.items (i ∷ []) ∙ ap (λ ps. flat_map props_of s.items ++ ps) alone ∙ append-nil (flat_map props_of s.items))

pub metadata_has_no_props : MetadataHasNoProps
metadata_has_no_props s id bytes =
    (table-added s (exif_item bytes id (greatest_id s + 1)) refl, table-added s (xmp_item bytes id (greatest_id s + 1)) refl)
