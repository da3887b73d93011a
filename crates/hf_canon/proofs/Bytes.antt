-- The bytes of items stand at the places that a layout states.
use Rattle.std.proofs.Common.{◌≡◌, ◌+◌, ◌<◌, ◌≤◌, ℕ, Bool, true, false, cond, List, [], ◌∷◌, length, map, take, drop, Option, Some, None}
use Rattle.std.proofs.Common.{refl, sym, ap, subst, ◌∙◌, append-nil, arith, inl, inr}
use Rattle.std.specs.Prelude.{◌==◌, nat_lt}
use Rattle.std.specs.List.{filter, flat_map}
use Rattle.std.specs.Option.{option_map}
use Rattle.std.proofs.lemmas.Bool.{cases_Bool, ne_eqb, eq-eqb, le-ltb}
use Rattle.hf_base.specs.BytesOf.{piece_of, joined_pieces, bytes_of}
use Rattle.hf_base.specs.Located.{Located, located_at, loc_of, locates, sources_of}
use Rattle.hf_base.specs.LocationFaults.{is_external, has_bad_method, has_zero_length}
use Rattle.hf_base.specs.Members.{IsIn, RisesFrom}
use Rattle.hf_base.specs.declared.kinds.TheConstants.{ILOC}
use Rattle.hf_base.specs.declared.loc.Extent.{Extent}
use Rattle.hf_base.specs.declared.loc.Loc.{Loc}
use Rattle.hf_base.specs.declared.loc.RefBox.{RefBox}
use Rattle.hf_box.specs.Boxes.{BoxAt}
use Rattle.hf_box.specs.Written.{bit}
use Rattle.hf_box.proofs.SameKinds.{other_kind}
use Rattle.hf_loc.specs.Iloc.{loc_of as loc_of_entry}
use Rattle.hf_store.specs.Layout.{own, info_of, all_boxes, has_bytes, with_bytes, in_idat, bytes_in, offset_of, entry_of}
use Rattle.hf_store.specs.Store.{Item, ItemStore, ids_of}
use Rattle.hf_store.specs.Valid.{Valid}
use Rattle.hf_plan.specs.Lay.{Lay}
use Rattle.hf_plan.specs.Places.{source_of, StandsAt}
use Rattle.hf_plan.proofs.Places.{bytes_stand}
use Rattle.hf_read.specs.Tables.{located_in}
use Rattle.hf_read.proofs.Filters.{passes}
use Rattle.hf_canon.proofs.LaidOut.{HasBodyIfAny, tables_of}
use Rattle.hf_canon.proofs.Naming.{good_ref, each_box}

filter_none : {A : Type 0} (test : A → Bool) (xs : List A) → ((x : A) → IsIn x xs → test x ≡ false) → filter test xs ≡ []
filter_none test [] each = refl
filter_none test (x ∷ xs) each = let here = each x (inl refl) in rw here (filter_none test xs (λ y h. each y (inr h)))

-- the ids rise to that of an item
pub above : (low : ℕ) (is : List Item) (i : Item) → RisesFrom ◌<◌ low (ids_of is) → IsIn i is → low < i.id
above low [] i rises among = absurd among
above low (j ∷ js) i rises (inl e) = omega (arith, rises.0, ap (λ (k : Item). k.id) e)
above low (j ∷ js) i rises (inr h) = omega (arith, rises.0, above j.id js i rises.1 h)

-- ---- the entry of an item in `iloc`

some_bytes : (bytes : List ℕ) → has_bytes bytes ≡ true → 0 < length bytes
some_bytes [] e = absurd cc
some_bytes (b ∷ bs) e = omega arith

no_bytes : (bytes : List ℕ) → has_bytes bytes ≡ false → bytes ≡ []
no_bytes [] e = refl
no_bytes (b ∷ bs) e = absurd cc

module _ (end : ℕ) (all : List Item) where
  abbrev loc_at : Item → Loc
  loc_at i = loc_of_entry (entry_of own end all i)

  abbrev locs : List Item → List Loc
  locs is = map loc_of_entry (map (entry_of own end all) (with_bytes is))

  -- an id that the items rise from has no entry
  absent : (id low : ℕ) (is : List Item) → id ≤ low → RisesFrom ◌<◌ low (ids_of is) → loc_of id (locs is) ≡ None
  absent id low [] le rises = refl
  absent id low (i ∷ is) le rises =
      let rest = absent id i.id is (omega (arith, le, rises.0)) rises.1 in
      let other = ne_eqb i.id id (λ e. omega (arith, e, le, rises.0)) in
      elim (cases_Bool (has_bytes i.bytes)) [ inl some ↦ rw (some, other) rest | inr none ↦ rw none rest ]

  own_entry : (j : Item) (js : List Item) → has_bytes j.bytes ≡ true → loc_of j.id (locs (j ∷ js)) ≡ cond (has_bytes j.bytes) (Some (loc_at j)) None
  own_entry j js some =
      let kept : with_bytes (j ∷ js) ≡ j ∷ with_bytes js = rw some refl in
      let first : loc_of j.id (loc_at j ∷ locs js) ≡ Some (loc_at j) = rw (eq-eqb j.id j.id refl) refl in
      let entries = ap (λ (is : List Item). loc_of j.id (map loc_of_entry (map (entry_of own end all) is))) kept in
      entries ∙ first ∙ sym (ap (λ (b : Bool). cond b (Some (loc_at j)) None) some)

  -- an item with bytes has its own entry, and another item has none
  loc_is : (low : ℕ) (is : List Item) (i : Item) → RisesFrom ◌<◌ low (ids_of is) → IsIn i is
      → loc_of i.id (locs is) ≡ cond (has_bytes i.bytes) (Some (loc_at i)) None
  loc_is low [] i rises among = absurd among
  loc_is low (j ∷ js) i rises (inl e) =
      let here : loc_of j.id (locs (j ∷ js)) ≡ cond (has_bytes j.bytes) (Some (loc_at j)) None = elim (cases_Bool (has_bytes j.bytes)) [
        | inl some ↦ own_entry j js some
        | inr none ↦ rw none (absent j.id j.id js (omega arith) rises.1)
      ] in
      subst (λ (k : Item). loc_of k.id (locs (j ∷ js)) ≡ cond (has_bytes k.bytes) (Some (loc_at k)) None) e here
  loc_is low (j ∷ js) i rises (inr h) =
      let rest = loc_is j.id js i rises.1 h in
      let other = ne_eqb j.id i.id (λ e. omega (arith, e, above j.id js i rises.1 h)) in
      elim (cases_Bool (has_bytes j.bytes)) [ inl some ↦ rw (some, other) rest | inr none ↦ rw none rest ]

-- ---- bytes at their places

-- the row of an item, with these bytes at its place
pub record HasBytes (F : List ℕ) (idat : Option (List ℕ)) (items : List Located) (r : Located) (bytes : List ℕ) : Type 0 where
  pub here : is_external r ≡ false
  pub known : has_bad_method r ≡ false
  pub whole : has_zero_length r ≡ false
  pub are : bytes_of F idat items r ≡ Some bytes

has_none : (F : List ℕ) (idat : Option (List ℕ)) (items : List Located) (id : ℕ) → HasBytes F idat items (located_at id None []) []
unfolding bytes_of
has_none F idat items id = record { here = refl; known = refl; whole = refl; are = refl }

-- what an extent takes of its source
piece_is : (e : Extent) (source bytes : List ℕ) → e.length ≡ length bytes → 0 < length bytes → StandsAt e.offset bytes source
    → piece_of 0 e (Some source) ≡ Some bytes
piece_is e source bytes len some stands =
    let within = stands.within in
    let states : (e.length == 0) ≡ false = ne_eqb e.length 0 (λ z. omega (arith, z, len, some)) in
    let from : 0 + e.offset ≡ e.offset = omega arith in
    let inside : nat_lt (length source) (0 + e.offset + e.length) ≡ false = le-ltb (length source) (0 + e.offset + e.length) (omega (arith, within, len)) in
    let got : take e.length (drop (0 + e.offset) source) ≡ bytes = rw (from, len) stands.are in
    rw (states, inside) (ap (λ (l : List ℕ). Some l) got)

-- a row of one extent, in `idat` or in the file
abbrev row : ℕ → Bool → Extent → Located
row id inner e = record { id = id; method = bit inner; dref = 0; base = 0; extents = e ∷ []; sources = [] }

abbrev IsSource : List ℕ → Option (List ℕ) → Bool → List ℕ → Type 0
IsSource F idat true source = idat ≡ Some source
IsSource F idat false source = F ≡ source

joined_one : (p : Option (List ℕ)) (bytes : List ℕ) → p ≡ Some bytes → joined_pieces (p ∷ []) ≡ Some bytes
joined_one p bytes is = ap (λ (q : Option (List ℕ)). joined_pieces (q ∷ [])) is ∙ ap (λ (l : List ℕ). Some l) (append-nil bytes)

row_bytes : (F : List ℕ) (idat : Option (List ℕ)) (items : List Located) (id : ℕ) (inner : Bool) (e : Extent) (source bytes : List ℕ)
    → IsSource F idat inner source → piece_of 0 e (Some source) ≡ Some bytes → bytes_of F idat items (row id inner e) ≡ Some bytes
unfolding bytes_of
row_bytes F idat items id true e source bytes there piece = joined_one (piece_of 0 e idat) bytes (ap (piece_of 0 e) there ∙ piece)
row_bytes F idat items id false e source bytes there piece =
    joined_one (piece_of 0 e (Some F)) bytes (ap (λ (l : List ℕ). piece_of 0 e (Some l)) there ∙ piece)

known_method : (inner : Bool) → nat_lt 2 (bit inner) ≡ false
known_method true = refl
known_method false = refl

row_has : (F : List ℕ) (idat : Option (List ℕ)) (items : List Located) (id : ℕ) (inner : Bool) (e : Extent) (source bytes : List ℕ)
    → e.length ≡ length bytes → 0 < length bytes → IsSource F idat inner source → StandsAt e.offset bytes source
    → HasBytes F idat items (row id inner e) bytes
row_has F idat items id inner e source bytes len some there stands =
    let states : (e.length == 0) ≡ false = ne_eqb e.length 0 (λ z. omega (arith, z, len, some)) in
    record {
      here = refl;
      known = known_method inner;
      whole = rw states refl;
      are = row_bytes F idat items id inner e source bytes there (piece_is e source bytes len some stands);
    }

-- the body of `idat`
abbrev pub body_of : Option BoxAt → Option (List ℕ)
body_of o = option_map (λ (b : BoxAt). b.body) o

idat_there : (is : List Item) (o : Option BoxAt) (i : Item) → HasBodyIfAny bytes_in is o → IsIn i is → body_of o ≡ Some (bytes_in is)
idat_there [] o i has among = absurd among
idat_there (j ∷ js) o i (b, e, is) among = ap body_of e ∙ ap (λ (l : List ℕ). Some l) is

-- no reference says where bytes lie
no_sources : (s : ItemStore) (id : ℕ) → Valid s → sources_of id (all_boxes s.items) ≡ []
no_sources s id valid =
    let none = each_box (λ (b : RefBox). locates id b ≡ false) s.items (λ i r among listed. (
    let other = other_kind r.kind ILOC (good_ref s valid i r among listed).not_iloc in
    rw other refl
    )) in
    ap (λ (l : List RefBox). flat_map (λ (b : RefBox). b.to) l) (filter_none (locates id) (all_boxes s.items) none)

-- the box is the `idat` of a layout
abbrev pub IsIdat : ItemStore → Option BoxAt → Type 0
IsIdat s o = HasBodyIfAny bytes_in (filter in_idat s.items) o

-- in the file of a layout
module _ (s : ItemStore) (w : ℕ) (F : List ℕ) (o : Option BoxAt) (valid : Valid s) (lay : Lay s w F) (has : IsIdat s o) where
  is_source : (i : Item) → IsIn i s.items → IsSource F (body_of o) (in_idat i) (source_of F s.items i)
  is_source i among =
      elim (cases_Bool (in_idat i)) [
        | inl inner ↦ rw inner (idat_there (filter in_idat s.items) o i has (passes in_idat s.items i among inner))
        | inr outer ↦ rw outer refl
      ]

  -- the item with its entry, if it has bytes
  abbrev placed : Item → Bool → Located
  placed i some = located_at i.id (cond some (Some (loc_at (length F) s.items i)) None) []

  located : (i : Item) → IsIn i s.items → located_in (tables_of (length F) s) (info_of i) ≡ placed i (has_bytes i.bytes)
  located i among =
      let loc = loc_is (length F) s.items 0 s.items i valid.ids_rise among in
      ap (located_at i.id (loc_of i.id (locs (length F) s.items s.items))) (no_sources s i.id valid) ∙ ap (λ (l : Option Loc). located_at i.id l []) loc

  pub located_has : (items : List Located) (i : Item) → IsIn i s.items
      → HasBytes F (body_of o) items (located_in (tables_of (length F) s) (info_of i)) i.bytes
  located_has items i among =
      let Has : Located → Type 0 = λ r. HasBytes F (body_of o) items r i.bytes in
      elim (cases_Bool (has_bytes i.bytes)) [
        | inl some ↦
            let e : Extent = record { index = 1; offset = offset_of own (length F) s.items i; length = length i.bytes } in
            let source = source_of F s.items i in
            let stands = bytes_stand s w F i valid lay among some in
            let there = row_has F (body_of o) items i.id (in_idat i) e source i.bytes refl (some_bytes i.bytes some) (is_source i among) stands in
            subst Has (sym (located i among ∙ ap (placed i) some)) there
        | inr empty ↦
            let none = has_none F (body_of o) items i.id in
            let there = subst (HasBytes F (body_of o) items (placed i false)) (sym (no_bytes i.bytes empty)) none in
            subst Has (sym (located i among ∙ ap (placed i) empty)) there
      ]
