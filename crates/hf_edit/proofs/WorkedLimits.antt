-- What is told of edits at the limits of counts.
use Rattle.std.proofs.Common.{◌≡◌, ℕ, zero, suc, ◌<◌, ◌≤◌, Bool, true, false, List, [], ◌∷◌, ◌++◌, length, length-append, map, refl, sym, ap, ◌+◌, ◌∙◌, ◌^◌, ◌-◌, Option, Some, None, arith}
use Rattle.std.specs.Prelude.{◌==◌, ◌&&◌, nat_lt, replicate}
use Rattle.std.specs.List.{flat_map, list_any, range_with_len}
use Rattle.std.proofs.lemmas.Bool.{lt-ltb, le-ltb}
use Rattle.std.proofs.lemmas.List.{append-nil, length-replicate}
use Rattle.std.proofs.lemmas.Grind.{fold-append}
use Rattle.hf_store.specs.Changes.{added}
use Rattle.hf_store.specs.Store.{Item, ItemStore, Prop}
use Rattle.hf_store.specs.Table.{same_prop, props_of, table_of, with_prop}
use Rattle.hf_store.specs.Valid.{body_sum, meta_len}
use Rattle.hf_store.specs.declared.reason.Reason.{Reason}
use Rattle.hf_store.specs.declared.reason.Reason.TheVariants as reasons
use Rattle.hf_table.specs.Table.{table}
use Rattle.hf_prop.specs.Views.{turn_by}
use Rattle.hf_worked.specs.LargeStores.{named, picture_of}
use Rattle.hf_worked.specs.LimitStores.{holder, holders}
use Rattle.hf_worked.specs.WorkedStores.{one_empty_item, one_picture, plain}
use Rattle.hf_worked.proofs.LargeStores.{named_len}
use Rattle.hf_worked.proofs.Holders.{kind, holders-table, holders-distinct}
use Rattle.std.proofs.lemmas.List.FromFn.{length-map-range_with_len}
use Rattle.hf_edit.proofs.NamedMeta.{with_exif, with_thumbnail, with_xmp}
use Rattle.hf_edit.specs.Additions.{exif_item, greatest_id, next_id_of, thumbnail_item, xmp_item}
use Rattle.hf_edit.specs.Edits.{Edit, AddExif, AddXmp, Mirror, Rotate, Thumb, fills_body, fills_ids, fills_items, fills_kinds, fills_meta, is_absent, item_is, is_metadata, is_minor, names_none, pictures_metadata, primary_is, raises_minor, step, takes_derived, when, ◌or_else◌, why}
use Rattle.hf_edit.specs.Pictures.{mirrored, rotated}
use Rattle.hf_edit.specs.Worked.{greatest_beside, imir, irot}
use Rattle.hf_edit.specs.WorkedLimits.{crowd, full_beside, holder_beside, named_picture, named_with, AdditionsFillMeta, AdditionsFitMeta, BodyBeforeMeta, BodyFits, BodyIsFull, IdsBeforeBody, ItemsFit, ItemsAreFull, KindsAreFull, KindsBeforeItems, KindsFit, MetaFits, MetaIsFull, PropsBeforeKinds}

-- a reason that does not hold, and one that does
passed : (test : Bool) (reason : Reason) (rest answer : Option Reason) → test ≡ false → rest ≡ answer → (when test reason or_else rest) ≡ answer
passed test reason rest answer none e = rw none e

told : (test : Bool) (reason : Reason) (rest : Option Reason) → test ≡ true → (when test reason or_else rest) ≡ Some reason
told test reason rest holds = rw holds refl

-- ---- distinct properties

-- a thumbnail has those of the item that it is made of
thumb_kinds : (count : ℕ) → length (table_of (step one_picture (Thumb 1 (holders 0 0 count)))) ≡ length (table_of (holders 0 0 count))
unfolding table_of holders one_picture
thumb_kinds count = refl

beside_kinds : (count : ℕ) → length (table_of (step greatest_beside (Thumb 1 (holders 0 0 count)))) ≡ length (table_of (holders 0 0 count))
unfolding table_of holders greatest_beside
beside_kinds count = refl

-- a turn is none of the others
no_turn : (a n : ℕ) → list_any (same_prop (turn_by 1)) (map kind (range_with_len a n)) ≡ false
no_turn a zero = refl
no_turn a (suc n) = no_turn (a + 1) n

one_more : (ps : List Prop) (p : Prop) → list_any (same_prop p) ps ≡ false → length (with_prop ps p) ≡ length ps + 1
one_more ps p none = rw none (length-append ps (p ∷ []))

holder_table : (count : ℕ) → table (props_of (holder 1 0 count)) ≡ map kind (range_with_len 0 count)
unfolding table_of holders
holder_table count = ap table (sym (append-nil (props_of (holder 1 0 count)))) ∙ holders-table 0 0 count count (omega arith)

turned_kinds : (count : ℕ) → length (table_of (step (holder_beside count) (Rotate 2 1))) ≡ count + 1
unfolding table_of holder_beside rotated
turned_kinds count =
    ap length (fold-append with_prop [] (props_of (holder 1 0 count)) (turn_by 1 ∷ []))
    ∙ ap (λ (ps : List Prop). length (with_prop ps (turn_by 1))) (holder_table count)
    ∙ one_more (map kind (range_with_len 0 count)) (turn_by 1) (no_turn 0 count)
    ∙ ap (λ (n : ℕ). n + 1) (length-map-range_with_len kind 0 count)

pub kinds_fit : KindsFit
kinds_fit = (
  λ count few. le-ltb 32767 _ (omega (arith, few, thumb_kinds count, holders-distinct 0 0 count)),
  λ count few. le-ltb 32767 _ (omega (arith, few, turned_kinds count)),
)

thumb_full : (count : ℕ) → 32767 < count → why one_picture (Thumb 1 (holders 0 0 count)) ≡ Some reasons.KindsFull
unfolding one_picture holders
thumb_full count many =
    let full : fills_kinds one_picture (Thumb 1 (holders 0 0 count)) ≡ true =
    lt-ltb 32767 _ (omega (arith, many, thumb_kinds count, holders-distinct 0 0 count))
    in
    told (fills_kinds one_picture (Thumb 1 (holders 0 0 count))) reasons.KindsFull _ full

beside_full : (count : ℕ) → 32767 < count → why greatest_beside (Thumb 1 (holders 0 0 count)) ≡ Some reasons.KindsFull
unfolding greatest_beside holders
beside_full count many =
    let full : fills_kinds greatest_beside (Thumb 1 (holders 0 0 count)) ≡ true =
    lt-ltb 32767 _ (omega (arith, many, beside_kinds count, holders-distinct 0 0 count))
    in
    told (fills_kinds greatest_beside (Thumb 1 (holders 0 0 count))) reasons.KindsFull _ full

turned_full : (count : ℕ) → 32767 ≤ count → why (holder_beside count) (Rotate 2 1) ≡ Some reasons.KindsFull
unfolding holder_beside rotated
turned_full count many =
    let full : fills_kinds (holder_beside count) (Rotate 2 1) ≡ true = lt-ltb 32767 _ (omega (arith, many, turned_kinds count)) in
    told (fills_kinds (holder_beside count) (Rotate 2 1)) reasons.KindsFull _ full

pub kinds_are_full : KindsAreFull
kinds_are_full = (thumb_full, beside_full, turned_full)

-- ---- items

any-replicate : {A : Type 0} (test : A → Bool) (x : A) (n : ℕ) → test x ≡ false → list_any test (replicate n x) ≡ false
any-replicate test x zero none = refl
any-replicate test x (suc n) none = rw none (any-replicate test x n none)

-- no other item is named
others_differ : (test : Item → Bool) (count : ℕ) → test (plain 1 "hvc1" (0xaa ∷ 0xbb ∷ 0xcc ∷ [])) ≡ false → item_is test 1 (crowd count) ≡ false
unfolding crowd
others_differ test count first = rw first (any-replicate (λ (i : Item). (i.id == 1) && test i) (plain (256 ^ 4 - 1) "hvc1" []) count refl)

no_props : (count : ℕ) (j : Item) → flat_map props_of (replicate count (plain (256 ^ 4 - 1) "hvc1" []) ++ j ∷ []) ≡ props_of j ++ []
no_props zero j = refl
no_props (suc count) j = no_props count j

crowd_table : (count : ℕ) (j : Item) → table_of (added j (crowd count)) ≡ table (props_of j ++ [])
unfolding crowd table_of
crowd_table count j = ap table (no_props count j)

crowd_length : (count : ℕ) (j : Item) → length (added j (crowd count)).items ≡ count + 2
unfolding crowd
crowd_length count j =
    omega (arith, length-append (replicate count (plain (256 ^ 4 - 1) "hvc1" [])) (j ∷ []), length-replicate count (plain (256 ^ 4 - 1) "hvc1" []))

-- metadata that comes, or a thumbnail of no properties, brings none
few_kinds : (count : ℕ) (j : Item) → j.props ≡ [] → nat_lt 32767 (length (table_of (added j (crowd count)))) ≡ false
few_kinds count j none = rw (crowd_table count j, none) refl

-- how many items there are where one came
items_after : (count : ℕ) (j : Item) → 65536 ≤ count + 1 → nat_lt 65536 (length (added j (crowd count)).items) ≡ true
items_after count j many = lt-ltb 65536 _ (omega (arith, many, crowd_length count j))

items_left : (count : ℕ) (j : Item) → count + 1 < 65536 → nat_lt 65536 (length (added j (crowd count)).items) ≡ false
items_left count j few = le-ltb 65536 _ (omega (arith, few, crowd_length count j))

abbrev next : ℕ → ℕ
next count = greatest_id (crowd count) + 1

is_named : (count : ℕ) → is_absent 1 (crowd count) ≡ false
unfolding crowd
is_named count = refl

exif_full : (count : ℕ) (tiff : List ℕ) → 65536 ≤ count + 1 → why (crowd count) (AddExif 1 tiff) ≡ Some reasons.ItemsFull
exif_full count tiff many =
    passed (names_none (crowd count) (AddExif 1 tiff)) reasons.NoItem _ _ (is_named count)
    (passed (pictures_metadata (crowd count) (AddExif 1 tiff)) reasons.NotImage _ _ (others_differ is_metadata count refl)
    (passed (fills_kinds (crowd count) (AddExif 1 tiff)) reasons.KindsFull _ _ (few_kinds count (exif_item tiff 1 (next count)) refl)
    (told (fills_items (crowd count) (AddExif 1 tiff)) reasons.ItemsFull _ (items_after count (exif_item tiff 1 (next count)) many))))

xmp_full : (count : ℕ) (text : List ℕ) → 65536 ≤ count + 1 → why (crowd count) (AddXmp 1 text) ≡ Some reasons.ItemsFull
xmp_full count text many =
    passed (names_none (crowd count) (AddXmp 1 text)) reasons.NoItem _ _ (is_named count)
    (passed (pictures_metadata (crowd count) (AddXmp 1 text)) reasons.NotImage _ _ (others_differ is_metadata count refl)
    (passed (fills_kinds (crowd count) (AddXmp 1 text)) reasons.KindsFull _ _ (few_kinds count (xmp_item text 1 (next count)) refl)
    (told (fills_items (crowd count) (AddXmp 1 text)) reasons.ItemsFull _ (items_after count (xmp_item text 1 (next count)) many))))

-- a thumbnail of a picture
abbrev copy : ℕ → Item
copy count = thumbnail_item (plain 1 "hvc1" (0xaa ∷ 0xbb ∷ 0xcc ∷ [])) 1 (next count)

-- what is told of an edit from the distinct properties on
abbrev from_kinds : ItemStore → Edit → Option Reason
from_kinds s e =
    when (fills_kinds s e) reasons.KindsFull
    or_else when (fills_items s e) reasons.ItemsFull
    or_else when (fills_ids s e) reasons.IdsFull
    or_else when (fills_body s e) reasons.BodyFull
    or_else when (fills_meta s e) reasons.MetaFull
    or_else None

-- of a thumbnail that needs no other item that is all
thumb_items : (count : ℕ) (donor : ItemStore) (answer : Option Reason)
    → primary_is is_metadata donor ≡ false → takes_derived (Thumb 1 donor) ≡ false
    → from_kinds (crowd count) (Thumb 1 donor) ≡ answer → why (crowd count) (Thumb 1 donor) ≡ answer
thumb_items count donor answer picture whole e =
    let metadata : pictures_metadata (crowd count) (Thumb 1 donor) ≡ false = rw (others_differ is_metadata count refl, picture) refl in
    passed (names_none (crowd count) (Thumb 1 donor)) reasons.NoItem _ _ (is_named count)
    (passed (pictures_metadata (crowd count) (Thumb 1 donor)) reasons.NotImage _ _ metadata
    (passed (raises_minor (crowd count) (Thumb 1 donor)) reasons.IsMinor _ _ (others_differ is_minor count refl)
    (passed (takes_derived (Thumb 1 donor)) reasons.DonorDerived _ _ whole e)))

thumb_items_full : (count : ℕ) → 65536 ≤ count + 1 → why (crowd count) (Thumb 1 one_picture) ≡ Some reasons.ItemsFull
unfolding one_picture
thumb_items_full count many =
    thumb_items count one_picture _ refl refl
    (passed (fills_kinds (crowd count) (Thumb 1 one_picture)) reasons.KindsFull _ _ (few_kinds count (copy count) refl)
    (told (fills_items (crowd count) (Thumb 1 one_picture)) reasons.ItemsFull _ (items_after count (copy count) many)))

thumb_items_fit : (count : ℕ) → count + 1 < 65536 → fills_items (crowd count) (Thumb 1 one_picture) ≡ false
unfolding one_picture
thumb_items_fit count few = items_left count (copy count) few

pub items_fit : ItemsFit
items_fit = (
  λ count tiff few. items_left count (exif_item tiff 1 (next count)) few,
  λ count text few. items_left count (xmp_item text 1 (next count)) few,
  thumb_items_fit,
)

pub items_are_full : ItemsAreFull
items_are_full = (exif_full, xmp_full, thumb_items_full)

crowd_kinds : (count kinds : ℕ) → length (table_of (step (crowd count) (Thumb 1 (holders 0 0 kinds)))) ≡ kinds
unfolding holders
crowd_kinds count kinds =
    ap length (crowd_table count (thumbnail_item (holder 1 0 kinds) 1 (next count)) ∙ ap table (append-nil (props_of (holder 1 0 kinds))) ∙ holder_table kinds)
    ∙ length-map-range_with_len kind 0 kinds

pub kinds_before_items : KindsBeforeItems
unfolding holders
kinds_before_items count kinds many =
    thumb_items count (holders 0 0 kinds) _ refl refl
    (told (fills_kinds (crowd count) (Thumb 1 (holders 0 0 kinds))) reasons.KindsFull _ (lt-ltb 32767 _ (omega (arith, many, crowd_kinds count kinds))))

-- ---- bytes

exif_body : (bytes tiff : List ℕ) → body_sum (step (picture_of bytes) (AddExif 1 tiff)).items ≡ length bytes + (4 + length tiff)
unfolding picture_of body_sum
exif_body bytes tiff = omega arith

xmp_body : (bytes text : List ℕ) → body_sum (step (picture_of bytes) (AddXmp 1 text)).items ≡ length bytes + length text
unfolding picture_of body_sum
xmp_body bytes text = omega arith

thumb_body : (bytes more : List ℕ) → body_sum (step (picture_of bytes) (Thumb 1 (picture_of more))).items ≡ length bytes + length more
unfolding picture_of body_sum
thumb_body bytes more = omega arith

pub body_fits : BodyFits
body_fits = (
  λ bytes tiff few. le-ltb 1099511627776 _ (omega (arith, few, exif_body bytes tiff)),
  λ bytes text few. le-ltb 1099511627776 _ (omega (arith, few, xmp_body bytes text)),
  λ bytes more few. le-ltb 1099511627776 _ (omega (arith, few, thumb_body bytes more)),
)

exif_body_full : (bytes tiff : List ℕ) → 1099511627776 < length bytes + (4 + length tiff) → why (picture_of bytes) (AddExif 1 tiff) ≡ Some reasons.BodyFull
unfolding picture_of table_of next_id_of
exif_body_full bytes tiff many =
    let full : fills_body (picture_of bytes) (AddExif 1 tiff) ≡ true = lt-ltb 1099511627776 _ (omega (arith, many, exif_body bytes tiff)) in
    told (fills_body (picture_of bytes) (AddExif 1 tiff)) reasons.BodyFull _ full

xmp_body_full : (bytes text : List ℕ) → 1099511627776 < length bytes + length text → why (picture_of bytes) (AddXmp 1 text) ≡ Some reasons.BodyFull
unfolding picture_of table_of next_id_of
xmp_body_full bytes text many =
    let full : fills_body (picture_of bytes) (AddXmp 1 text) ≡ true = lt-ltb 1099511627776 _ (omega (arith, many, xmp_body bytes text)) in
    told (fills_body (picture_of bytes) (AddXmp 1 text)) reasons.BodyFull _ full

thumb_body_full : (bytes more : List ℕ) → 1099511627776 < length bytes + length more
    → why (picture_of bytes) (Thumb 1 (picture_of more)) ≡ Some reasons.BodyFull
unfolding picture_of table_of next_id_of
thumb_body_full bytes more many =
    let full : fills_body (picture_of bytes) (Thumb 1 (picture_of more)) ≡ true = lt-ltb 1099511627776 _ (omega (arith, many, thumb_body bytes more)) in
    told (fills_body (picture_of bytes) (Thumb 1 (picture_of more))) reasons.BodyFull _ full

pub body_is_full : BodyIsFull
body_is_full = (exif_body_full, xmp_body_full, thumb_body_full)

pub ids_before_body : IdsBeforeBody
unfolding greatest_beside table_of next_id_of
ids_before_body bytes = refl

-- ---- properties of an item

pub props_before_kinds : PropsBeforeKinds
unfolding full_beside rotated
props_before_kinds count = refl

-- ---- the `meta` box

mirrored_len : (name : List ℕ) (n : ℕ) → length name ≡ n → n < 2 ^ 31 → meta_len (step (named_with (imir "00") name) (Mirror 1 0)) ≡ 142 + n
unfolding named named_with mirrored
mirrored_len name n len few = named_len name n len few

turned_len : (name : List ℕ) (n : ℕ) → length name ≡ n → n < 2 ^ 31 → meta_len (step (named_with (irot "03") name) (Rotate 1 1)) ≡ 142 + n
unfolding named named_with rotated
turned_len name n len few = named_len name n len few

pub meta_fits : MetaFits
meta_fits = (
  λ name few. le-ltb 1073741824 _ (omega (arith, few, mirrored_len name (length name) refl (omega (arith, few)))),
  λ name few. le-ltb 1073741824 _ (omega (arith, few, turned_len name (length name) refl (omega (arith, few)))),
)

mirrored_full : (name : List ℕ) → 1073741682 < length name → length name < 2 ^ 31 → why (named_with (imir "00") name) (Mirror 1 0) ≡ Some reasons.MetaFull
unfolding named_with mirrored table_of
mirrored_full name many few =
    let full : fills_meta (named_with (imir "00") name) (Mirror 1 0) ≡ true =
    lt-ltb 1073741824 _ (omega (arith, many, mirrored_len name (length name) refl few))
    in
    told (fills_meta (named_with (imir "00") name) (Mirror 1 0)) reasons.MetaFull _ full

turned_meta_full : (name : List ℕ) → 1073741682 < length name → length name < 2 ^ 31 → why (named_with (irot "03") name) (Rotate 1 1) ≡ Some reasons.MetaFull
unfolding named_with rotated table_of
turned_meta_full name many few =
    let full : fills_meta (named_with (irot "03") name) (Rotate 1 1) ≡ true =
    lt-ltb 1073741824 _ (omega (arith, many, turned_len name (length name) refl few))
    in
    told (fills_meta (named_with (irot "03") name) (Rotate 1 1)) reasons.MetaFull _ full

pub meta_is_full : MetaIsFull
meta_is_full = (mirrored_full, turned_meta_full)

pub additions_fit_meta : AdditionsFitMeta
additions_fit_meta = (
  λ name few. le-ltb 1073741824 _ (omega (arith, few, with_exif name (length name) refl (omega (arith, few)))),
  λ name few. le-ltb 1073741824 _ (omega (arith, few, with_xmp name (length name) refl (omega (arith, few)))),
  λ name few. le-ltb 1073741824 _ (omega (arith, few, with_thumbnail name (length name) refl (omega (arith, few)))),
)

pub additions_fill_meta : AdditionsFillMeta
unfolding named_picture one_empty_item table_of next_id_of body_sum
additions_fill_meta = (
  λ name many few. told (fills_meta (named_picture name []) (AddExif 1 [])) reasons.MetaFull _ (lt-ltb 1073741824 _ (omega (arith, many, with_exif name (length name) refl few))),
  λ name many few. told (fills_meta (named_picture name []) (AddXmp 1 [])) reasons.MetaFull _ (lt-ltb 1073741824 _ (omega (arith, many, with_xmp name (length name) refl few))),
  λ name many few. told (fills_meta (named_picture name []) (Thumb 1 one_empty_item)) reasons.MetaFull _ (lt-ltb 1073741824 _ (omega (arith, many, with_thumbnail name (length name) refl few))),
)

named_body : (name bytes : List ℕ) → body_sum (step (named_picture name bytes) (AddExif 1 [])).items ≡ length bytes + 4
unfolding named_picture body_sum
named_body name bytes = omega arith

pub body_before_meta : BodyBeforeMeta
unfolding named_picture table_of next_id_of
body_before_meta name bytes many =
    let full : fills_body (named_picture name bytes) (AddExif 1 []) ≡ true = lt-ltb 1099511627776 _ (omega (arith, many, named_body name bytes)) in
    told (fills_body (named_picture name bytes) (AddExif 1 [])) reasons.BodyFull _ full
