-- The reasons against edits that add an item or give it other properties, by the item that is named.
use Rattle.std.proofs.Common.{◌≡◌, ℕ, zero, suc, ◌<◌, Bool, true, false, ◌&&◌, ◌||◌, List, [], ◌∷◌, length, refl, sym, ap, ◌∙◌, subst, arith, inl, inr, Option, Some, None, eqb-true}
use Rattle.std.specs.Prelude.{◌==◌, nat_lt, slice_get}
use Rattle.std.specs.List.{list_any}
use Rattle.std.specs.Option.{is_none}
use Rattle.std.proofs.lemmas.Bool.{cases_Bool, eq-eqb}
use Rattle.hf_base.specs.declared.limits.TheConstants as limits
use Rattle.hf_store.specs.Changes.{changed_at, holding, with_props}
use Rattle.hf_store.specs.Lists.{RisesFrom}
use Rattle.hf_store.specs.Store.{Held, Item, ItemStore, ids_of}
use Rattle.hf_store.specs.Table.{table_of}
use Rattle.hf_store.specs.Valid.{body_sum, meta_len}
use Rattle.hf_store.specs.declared.reason.Reason.{Reason}
use Rattle.hf_store.specs.declared.reason.Reason.TheVariants as reasons
use Rattle.hf_store.proofs.Spots.{id_here, some_is}
use Rattle.hf_edit.specs.Additions.{exif_item, item_with, next_id_of, primary_item, thumbnail_item, xmp_item}
use Rattle.hf_edit.specs.Edits.{◌or_else◌, AddExif, AddXmp, Crop, Mirror, Rotate, Thumb, is_derived, is_metadata, is_minor, item_is, reshaped, step, when, why, with_item, with_thumbnail}
use Rattle.hf_edit.specs.Pictures.{cropped, is_outside, mirrored, picture_size_of, rotated}
use Rattle.hf_edit.specs.Room.{why_not_added, why_not_held}
use Rattle.hf_edit.proofs.Named.{above, differ, is_there, item_here, none_later, or-false, with_item_at}

-- ---- the item at a place has other properties

changed_same : (f g : Item → Item) (k : ℕ) (is : List Item) (i : Item) → slice_get is k ≡ Some i → f i ≡ g i → changed_at f k is ≡ changed_at g k is
changed_same f g k [] i here same = refl
changed_same f g zero (j ∷ js) i here same = ap (λ (x : Item). x ∷ js) (ap f (some_is here) ∙ same ∙ ap g (sym (some_is here)))
changed_same f g (suc k) (j ∷ js) i here same = ap (λ (xs : List Item). j ∷ xs) (changed_same f g k js i here same)

changed_here : (f : Item → Item) (k : ℕ) (is : List Item) (i : Item) → slice_get is k ≡ Some i → slice_get (changed_at f k is) k ≡ Some (f i)
changed_here f k [] i here = absurd cc
changed_here f zero (j ∷ js) i here = ap (λ (x : Item). Some (f x)) (some_is here)
changed_here f (suc k) (j ∷ js) i here = changed_here f k js i here

ids-held : (held : List Held) (k : ℕ) (is : List Item) → ids_of (changed_at (holding held) k is) ≡ ids_of is
ids-held held k [] = refl
ids-held held zero (i ∷ is) = refl
ids-held held (suc k) (i ∷ is) = ap (λ (ids : List ℕ). i.id ∷ ids) (ids-held held k is)

-- ---- the item with an id

pub with_here : (test : Item → Bool) (id low : ℕ) (is : List Item) (p : Item) → RisesFrom ◌<◌ low (ids_of is) → item_with id is ≡ Some p
    → list_any (λ (j : Item). (j.id == id) && test j) is ≡ test p
with_here test id low [] p rises e = absurd cc
with_here test id low (i ∷ is) p rises e =
    elim (cases_Bool (i.id == id)) [
      | inl same ↦
          let it : Some i ≡ Some p = rw same at e in
          let none = none_later test id i.id is (omega (arith, eqb-true i.id id same)) rises.1 in
          rw (same, none) (or-false (test i) ∙ ap test (some_is it))
      | inr other ↦ let later : item_with id is ≡ Some p = rw other at e in rw other (with_here test id i.id is p rises.1 later)
    ]

pub first_with : (id low k : ℕ) (is : List Item) (i : Item) → RisesFrom ◌<◌ low (ids_of is) → slice_get is k ≡ Some i → i.id ≡ id → item_with id is ≡ Some i
first_with id low k [] i rises at same = absurd cc
first_with id low zero (j ∷ js) i rises at same =
    let first : (j.id == id) ≡ true = eq-eqb j.id id (ap (λ (x : Item). x.id) (some_is at) ∙ same) in rw first at
first_with id low (suc k) (j ∷ js) i rises at same =
    let lower = above j.id k i.id js rises.1 (id_here js k i at) in
    let other : (j.id == id) ≡ false = differ j.id id (λ e. omega (arith, lower, same, e)) in
    rw other (first_with id j.id k js i rises.1 at same)

-- ---- what the reasons say of a store that has these properties at a place

abbrev full_props : ℕ → ItemStore → Option Reason
full_props id t =
    when (item_is (λ (j : Item). nat_lt limits.PROPS (length j.props)) id t) reasons.PropsFull
    or_else when (nat_lt limits.KINDS (length (table_of t))) reasons.KindsFull
    or_else when (nat_lt limits.META (meta_len t)) reasons.MetaFull
    or_else None

module _ (s : ItemStore) (id k : ℕ) (here : slice_get (ids_of s.items) k ≡ Some id) (i : Item)
    (rises : RisesFrom ◌<◌ 0 (ids_of s.items)) (at : slice_get s.items k ≡ Some i) where
  same_id : i.id ≡ id
  same_id = some_is (sym (id_here s.items k i at) ∙ here)

  pub it_is : (test : Item → Bool) → item_is test id s ≡ test i
  it_is test = ap (λ (n : ℕ). item_is test n s) (sym same_id) ∙ item_here test 0 k i s.items rises at

  pub reshaped_at : (props : Item → List Held) → with_props k (props i) s ≡ with_item id (reshaped props) s
  reshaped_at props =
      ap (λ (is : List Item). record s { items = is }) (changed_same (holding (props i)) (reshaped props) k s.items i at refl)
      ∙ with_item_at (reshaped props) s id k rises here

  long_here : (held : List Held) → item_is (λ (j : Item). nat_lt limits.PROPS (length j.props)) id (with_props k held s) ≡ nat_lt limits.PROPS (length held)
  long_here held =
      let is = changed_at (holding held) k s.items in
      let up : RisesFrom ◌<◌ 0 (ids_of is) = subst (RisesFrom ◌<◌ 0) (sym (ids-held held k s.items)) rises in
      ap (λ (n : ℕ). item_is (λ (j : Item). nat_lt limits.PROPS (length j.props)) n (with_props k held s)) (sym same_id)
      ∙ item_here (λ (j : Item). nat_lt limits.PROPS (length j.props)) 0 k (holding held i) is up (changed_here (holding held) k s.items i at)

  full_held : (held : List Held) (t : ItemStore) → with_props k held s ≡ t → full_props id t ≡ why_not_held k held s
  full_held held t is =
      ap (full_props id) (sym is)
      ∙ ap (λ (b : Bool). when b reasons.PropsFull or_else when (nat_lt limits.KINDS (length (table_of (with_props k held s)))) reasons.KindsFull
      or_else when (nat_lt limits.META (meta_len (with_props k held s))) reasons.MetaFull or_else None) (long_here held)

  -- ---- the edits that give it other properties

  pub why_turning : (quarters : ℕ) → why s (Rotate id quarters)
      ≡ (when (is_metadata i) reasons.NotImage or_else when ((quarters == 0) || nat_lt 3 quarters) reasons.BadTurn
      or_else why_not_held k (rotated quarters i.props) s)
  why_turning quarters =
      let told : Bool → Option Reason → Option Reason =
      λ metadata rest. when metadata reasons.NotImage or_else when ((quarters == 0) || nat_lt 3 quarters) reasons.BadTurn or_else rest
      in
      rw (is_there s id k here)
      (ap (λ b. told b (full_props id (step s (Rotate id quarters)))) (it_is is_metadata)
      ∙ ap (told (is_metadata i)) (full_held (rotated quarters i.props) (step s (Rotate id quarters)) (reshaped_at (λ (j : Item). rotated quarters j.props))))

  pub why_mirroring : (axis : ℕ) → why s (Mirror id axis)
      ≡ (when (is_metadata i) reasons.NotImage or_else when (nat_lt 1 axis) reasons.BadAxis or_else why_not_held k (mirrored axis i.props) s)
  why_mirroring axis =
      let told : Bool → Option Reason → Option Reason =
      λ metadata rest. when metadata reasons.NotImage or_else when (nat_lt 1 axis) reasons.BadAxis or_else rest
      in
      rw (is_there s id k here)
      (ap (λ b. told b (full_props id (step s (Mirror id axis)))) (it_is is_metadata)
      ∙ ap (told (is_metadata i)) (full_held (mirrored axis i.props) (step s (Mirror id axis)) (reshaped_at (λ (j : Item). mirrored axis j.props))))

  pub why_cropping : (x y w h : ℕ) → why s (Crop id x y w h)
      ≡ (when (is_metadata i) reasons.NotImage or_else when (is_none (picture_size_of i)) reasons.NoSize
      or_else when (is_outside x y w h (picture_size_of i)) reasons.OutsidePicture or_else why_not_held k (cropped x y w h i) s)
  why_cropping x y w h =
      let told : Bool → Bool → Bool → Option Reason → Option Reason =
      λ metadata unsized outside rest. when metadata reasons.NotImage or_else when unsized reasons.NoSize
      or_else when outside reasons.OutsidePicture or_else rest
      in
      let t = step s (Crop id x y w h) in
      let unsized : Item → Bool = λ j. is_none (picture_size_of j) in
      let outside : Item → Bool = λ j. is_outside x y w h (picture_size_of j) in
      rw (is_there s id k here)
      (ap (λ b. told b (item_is unsized id s) (item_is outside id s) (full_props id t)) (it_is is_metadata)
      ∙ ap (λ b. told (is_metadata i) b (item_is outside id s) (full_props id t)) (it_is unsized)
      ∙ ap (λ b. told (is_metadata i) (unsized i) b (full_props id t)) (it_is outside)
      ∙ ap (told (is_metadata i) (unsized i) (outside i)) (full_held (cropped x y w h i) t (reshaped_at (cropped x y w h))))

  -- ---- the edits that add an item

  pub why_exif : (tiff : List ℕ) → why s (AddExif id tiff) ≡ (when (is_metadata i) reasons.NotImage or_else why_not_added (exif_item tiff id) s)
  why_exif tiff = rw (is_there s id k here) (ap (λ b. when b reasons.NotImage or_else why_not_added (exif_item tiff id) s) (it_is is_metadata))

  pub why_xmp : (text : List ℕ) → why s (AddXmp id text) ≡ (when (is_metadata i) reasons.NotImage or_else why_not_added (xmp_item text id) s)
  why_xmp text = rw (is_there s id k here) (ap (λ b. when b reasons.NotImage or_else why_not_added (xmp_item text id) s) (it_is is_metadata))

  -- what the reasons say of a store that has this thumbnail
  abbrev full_store : ItemStore → Option Reason
  full_store t =
      when (nat_lt limits.KINDS (length (table_of t))) reasons.KindsFull
      or_else when (nat_lt limits.ITEMS (length t.items)) reasons.ItemsFull
      or_else when (is_none (next_id_of s)) reasons.IdsFull
      or_else when (nat_lt limits.BODY (body_sum t.items)) reasons.BodyFull
      or_else when (nat_lt limits.META (meta_len t)) reasons.MetaFull
      or_else None

  pub why_thumbnail : (donor : ItemStore) (p : Item) → RisesFrom ◌<◌ 0 (ids_of donor.items) → primary_item donor ≡ Some p
      → why s (Thumb id donor)
      ≡ (when (is_metadata i || is_metadata p) reasons.NotImage or_else when (is_minor i) reasons.IsMinor
      or_else when (is_derived p) reasons.DonorDerived or_else why_not_added (thumbnail_item p id) s)
  why_thumbnail donor p up is =
      let told : Bool → Bool → Bool → Bool → Option Item → Option Reason =
      λ one other minor derived picture. when (one || other) reasons.NotImage or_else when minor reasons.IsMinor
      or_else when derived reasons.DonorDerived or_else full_store (with_thumbnail picture id s)
      in
      let first : (test : Item → Bool) → item_is test donor.primary donor ≡ test p = λ test. with_here test donor.primary 0 donor.items p up is in
      let metadata = item_is is_metadata donor.primary donor in
      let derived = item_is is_derived donor.primary donor in
      rw (is_there s id k here)
      (ap (λ b. told b metadata (item_is is_minor id s) derived (primary_item donor)) (it_is is_metadata)
      ∙ ap (λ b. told (is_metadata i) b (item_is is_minor id s) derived (primary_item donor)) (first is_metadata)
      ∙ ap (λ b. told (is_metadata i) (is_metadata p) b derived (primary_item donor)) (it_is is_minor)
      ∙ ap (λ b. told (is_metadata i) (is_metadata p) (is_minor i) b (primary_item donor)) (first is_derived)
      ∙ ap (told (is_metadata i) (is_metadata p) (is_minor i) (is_derived p)) is)
