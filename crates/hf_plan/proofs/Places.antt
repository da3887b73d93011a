-- The bytes of each item stand at its offset.
use Rattle.std.proofs.Common.{◌≡◌, ℕ, ◌<◌, ◌≤◌, Bool, true, false, not, ◌&&◌, cond, leb, ltb, List, [], ◌∷◌, ◌++◌, length, length-append, take, drop, refl, sym, ap, ◌∙◌, append_assoc, arith, inl, inr, subst}
use Rattle.std.specs.Prelude.{◌==◌}
use Rattle.std.specs.List.{AllByRecursion, filter}
use Rattle.std.proofs.lemmas.Bool.{cases_Bool, and_from, eq-eqb, lt-ltb, le-ltb, le-leb, lt-leb}
use Rattle.std.proofs.lemmas.List.{drop_at, take_at, append-nil}
use Rattle.std.proofs.lemmas.List.Elements.{filter-append}
use Rattle.hf_box.specs.Head.{box_head, box}
use Rattle.hf_store.specs.Lists.{IsIn, RisesFrom}
use Rattle.hf_store.specs.Store.{Item, ItemStore, ids_of}
use Rattle.hf_box.specs.Literals.{four}
use Rattle.hf_store.specs.Valid.{Valid}
use Rattle.hf_store.specs.Layout.{offset_of, own, has_bytes, Homes, in_idat, is_data_item, bytes_in, mdat_body, idat_body, mdat_offset, idat_offset, meta_body, laid}
use Rattle.hf_head.specs.Ftyp.{ftyp_body}
use Rattle.hf_plan.specs.Homes.{AreHomes}
use Rattle.hf_plan.specs.Lay.{LayBy}
use Rattle.hf_plan.proofs.Bounds.{own_homes}
use Rattle.hf_plan.specs.Places.{source_of, StandsAt, BytesStand}

-- ---- an item among others, whose ids rise

pub record Parts (is : List Item) (i : Item) : Type 0 where
  pub before : List Item
  pub after : List Item
  pub parts : is ≡ before ++ i ∷ after

pub parts_of : (is : List Item) (i : Item) → IsIn i is → Parts is i
parts_of [] i h = absurd h
parts_of (j ∷ js) i (inl e) = record { before = []; after = js; parts = ap (λ (k : Item). k ∷ js) e }
parts_of (j ∷ js) i (inr h) =
    let rest = parts_of js i h in
    record { before = j ∷ rest.before; after = rest.after; parts = ap (λ (l : List Item). j ∷ l) rest.parts }

abbrev pub AreAbove : ℕ → List Item → Type 0
AreAbove low is = AllByRecursion (λ (j : Item). low < j.id) is

abbrev AreBelow : ℕ → List Item → Type 0
AreBelow top is = AllByRecursion (λ (j : Item). j.id < top) is

pub above : (low first : ℕ) (is : List Item) → low ≤ first → RisesFrom ◌<◌ first (ids_of is) → AreAbove low is
above low first [] le rises = tt
above low first (j ∷ js) le rises = (omega (arith, rises.0), above low j.id js (omega (arith, rises.0)) rises.1)

-- the ids before an item are below its id, those after it above
pub around : (low : ℕ) (before after : List Item) (i : Item) → RisesFrom ◌<◌ low (ids_of (before ++ i ∷ after)) → (low < i.id) × AreBelow i.id before × AreAbove i.id after
around low [] after i rises = (rises.0, tt, above i.id i.id after (omega arith) rises.1)
around low (j ∷ js) after i rises =
    let rest = around j.id js after i rises.1 in
    (omega (arith, rises.0, rest.0), (rest.0, rest.1), rest.2)

-- ---- what tests pass

pub both_pass : (p q : Item → Bool) (is : List Item) → AllByRecursion (λ (j : Item). q j ≡ true) is → filter q (filter p is) ≡ filter p is
both_pass p q [] pass = refl
both_pass p q (j ∷ js) pass =
    let rest = both_pass p q js pass.1 in
    elim (cases_Bool (p j)) [
      | inl here ↦ rw (here, pass.0) (ap (λ (l : List Item). j ∷ l) rest)
      | inr not_here ↦ rw not_here rest
    ]

none_pass : (p q : Item → Bool) (is : List Item) → AllByRecursion (λ (j : Item). q j ≡ false) is → filter q (filter p is) ≡ []
none_pass p q [] fail = refl
none_pass p q (j ∷ js) fail =
    let rest = none_pass p q js fail.1 in
    elim (cases_Bool (p j)) [
      | inl here ↦ rw (here, fail.0) rest
      | inr not_here ↦ rw not_here rest
    ]

not_from : (id : ℕ) (is : List Item) → AreBelow id is → AllByRecursion (λ (j : Item). leb id j.id ≡ false) is
not_from id [] below = tt
not_from id (j ∷ js) below = (lt-leb _ _ below.0, not_from id js below.1)

pub all_from : (id : ℕ) (is : List Item) → AreAbove id is → AllByRecursion (λ (j : Item). leb id j.id ≡ true) is
all_from id [] above = tt
all_from id (j ∷ js) above = (le-leb _ _ (omega (arith, above.0)), all_from id js above.1)

all_before : (id : ℕ) (is : List Item) → AreBelow id is → AllByRecursion (λ (j : Item). ltb j.id id ≡ true) is
all_before id [] below = tt
all_before id (j ∷ js) below = (lt-ltb _ _ below.0, all_before id js below.1)

none_before : (id : ℕ) (is : List Item) → AreAbove id is → AllByRecursion (λ (j : Item). ltb j.id id ≡ false) is
none_before id [] above = tt
none_before id (j ∷ js) above = (le-ltb _ _ (omega (arith, above.0)), none_before id js above.1)

-- one test and another, one after the other
filter-both : (p q : Item → Bool) (is : List Item) → filter (λ (j : Item). p j && q j) is ≡ filter q (filter p is)
filter-both p q [] = refl
filter-both p q (j ∷ js) =
    let rest = filter-both p q js in
    elim (cases_Bool (p j)) [
      | inl here ↦ rw here (elim (q j) as (λ b. cond b (j ∷ filter (λ (k : Item). p k && q k) js) (filter (λ (k : Item). p k && q k) js) ≡ cond b (j ∷ filter q (filter p js)) (filter q (filter p js))) [ true ↦ ap (λ (l : List Item). j ∷ l) rest | false ↦ rest ])
      | inr not_here ↦ rw not_here rest
    ]

-- what passes around an item that passes
passing : (p : Item → Bool) (before after : List Item) (i : Item) → p i ≡ true → filter p (before ++ i ∷ after) ≡ filter p before ++ i ∷ filter p after
passing p before after i pass = filter-append p before (i ∷ after) ∙ rw pass refl

-- those that pass from an item on
from_on : (p : Item → Bool) (before after : List Item) (i : Item) → p i ≡ true → AreBelow i.id before → AreAbove i.id after
    → filter (λ (j : Item). leb i.id j.id) (filter p (before ++ i ∷ after)) ≡ i ∷ filter p after
from_on p before after i pass below above =
    let q : Item → Bool = λ j. leb i.id j.id in
    let self : q i ≡ true = le-leb _ _ (omega arith) in
    let split : filter q (filter p (before ++ i ∷ after)) ≡ filter q (filter p before) ++ filter q (i ∷ filter p after) =
    ap (filter q) (passing p before after i pass) ∙ filter-append q (filter p before) (i ∷ filter p after)
    in
    let none : filter q (filter p before) ≡ [] = none_pass p q before (not_from i.id before below) in
    let all : filter q (filter p after) ≡ filter p after = both_pass p q after (all_from i.id after above) in
    split ∙ rw (none, self, all) refl

-- those that pass before an item
up_to : (p : Item → Bool) (before after : List Item) (i : Item) → p i ≡ true → AreBelow i.id before → AreAbove i.id after
    → filter (λ (j : Item). p j && ltb j.id i.id) (before ++ i ∷ after) ≡ filter p before
up_to p before after i pass below above =
    let q : Item → Bool = λ j. ltb j.id i.id in
    let self : q i ≡ false = le-ltb _ _ (omega arith) in
    let split : filter q (filter p (before ++ i ∷ after)) ≡ filter q (filter p before) ++ filter q (i ∷ filter p after) =
    ap (filter q) (passing p before after i pass) ∙ filter-append q (filter p before) (i ∷ filter p after)
    in
    let all : filter q (filter p before) ≡ filter p before = both_pass p q before (all_before i.id before below) in
    let none : filter q (filter p after) ≡ [] = none_pass p q after (none_before i.id after above) in
    filter-both p q (before ++ i ∷ after) ∙ split ∙ rw (all, self, none) (append-nil (filter p before))

bytes_in-append : (xs ys : List Item) → bytes_in (xs ++ ys) ≡ bytes_in xs ++ bytes_in ys
unfolding bytes_in
bytes_in-append [] ys = refl
bytes_in-append (x ∷ xs) ys = ap (λ (l : List ℕ). x.bytes ++ l) (bytes_in-append xs ys) ∙ sym (append_assoc x.bytes (bytes_in xs) (bytes_in ys))

bytes_in-cons : (x : Item) (xs : List Item) → bytes_in (x ∷ xs) ≡ x.bytes ++ bytes_in xs
unfolding bytes_in
bytes_in-cons x xs = refl

-- ---- bytes that stand where others end

stands : (front bytes rest others : List ℕ) (at : ℕ) → others ≡ front ++ (bytes ++ rest) → at ≡ length front → StandsAt at bytes others
stands front bytes rest others at made e =
    let dropped : drop at others ≡ bytes ++ rest = ap (drop at) made ∙ drop_at front (bytes ++ rest) at (sym e) in
    record {
      within = omega (arith, ap length made, length-append front (bytes ++ rest), length-append bytes rest);
      are = ap (take (length bytes)) dropped ∙ take_at bytes rest (length bytes) refl;
    }

-- an item whose bytes are written, in a file that ends with them all
pub stands_at_home : (home : Homes) (F front : List ℕ) (is : List Item) (low : ℕ) (i h : Item) → F ≡ front ++ mdat_body home is → RisesFrom ◌<◌ low (ids_of is)
    → IsIn h is → is_data_item h ≡ true → home is h ≡ h.id → home is i ≡ h.id → h.bytes ≡ i.bytes → StandsAt (mdat_offset home (length F) is i) i.bytes F
stands_at_home home F front is low i h made rises among data_item own_home at_home same =
    let p : Item → Bool = λ j. is_data_item j && (home is j == j.id) in
    let parts = parts_of is h among in
    let order = around low parts.before parts.after h (subst (λ (l : List Item). RisesFrom ◌<◌ low (ids_of l)) parts.parts rises) in
    let pass : p h ≡ true = and_from (is_data_item h) (home is h == h.id) data_item (eq-eqb _ _ own_home) in
    let whole : filter p is ≡ filter p parts.before ++ h ∷ filter p parts.after = ap (filter p) parts.parts ∙ passing p parts.before parts.after h pass in
    let from : filter (λ (j : Item). leb (home is i) j.id) (filter p is) ≡ h ∷ filter p parts.after =
    ap (λ (id : ℕ). filter (λ (j : Item). leb id j.id) (filter p is)) at_home ∙ ap (λ (l : List Item). filter (λ (j : Item). leb h.id j.id) (filter p l)) parts.parts ∙ from_on p parts.before parts.after h pass order.1 order.2
    in
    let written_bytes : bytes_in (filter p is) ≡ bytes_in (filter p parts.before) ++ (i.bytes ++ bytes_in (filter p parts.after)) =
    ap bytes_in whole ∙ bytes_in-append (filter p parts.before) (h ∷ filter p parts.after) ∙ ap (λ (l : List ℕ). bytes_in (filter p parts.before) ++ l) (bytes_in-cons h (filter p parts.after) ∙ ap (λ (l : List ℕ). l ++ bytes_in (filter p parts.after)) same)
    in
    let file : F ≡ (front ++ bytes_in (filter p parts.before)) ++ (i.bytes ++ bytes_in (filter p parts.after)) =
    made ∙ ap (λ (l : List ℕ). front ++ l) written_bytes ∙ sym (append_assoc front (bytes_in (filter p parts.before)) (i.bytes ++ bytes_in (filter p parts.after)))
    in
    let left : length (bytes_in (filter (λ (j : Item). leb (home is i) j.id) (filter p is))) ≡ length (i.bytes ++ bytes_in (filter p parts.after)) =
    ap (λ (l : List Item). length (bytes_in l)) from ∙ ap length (bytes_in-cons h (filter p parts.after) ∙ ap (λ (l : List ℕ). l ++ bytes_in (filter p parts.after)) same)
    in
    stands (front ++ bytes_in (filter p parts.before)) i.bytes (bytes_in (filter p parts.after)) F (mdat_offset home (length F) is i) file
    (omega (arith, left, ap length file, length-append (front ++ bytes_in (filter p parts.before)) (i.bytes ++ bytes_in (filter p parts.after))))

-- an item in idat
pub stands_in_idat : (is : List Item) (low : ℕ) (i : Item) → RisesFrom ◌<◌ low (ids_of is) → IsIn i is → in_idat i ≡ true → StandsAt (idat_offset is i) i.bytes (idat_body is)
stands_in_idat is low i rises among inside =
    let parts = parts_of is i among in
    let order = around low parts.before parts.after i (subst (λ (l : List Item). RisesFrom ◌<◌ low (ids_of l)) parts.parts rises) in
    let whole : filter in_idat is ≡ filter in_idat parts.before ++ i ∷ filter in_idat parts.after = ap (filter in_idat) parts.parts ∙ passing in_idat parts.before parts.after i inside in
    let body : idat_body is ≡ bytes_in (filter in_idat parts.before) ++ (i.bytes ++ bytes_in (filter in_idat parts.after)) =
    ap bytes_in whole ∙ bytes_in-append (filter in_idat parts.before) (i ∷ filter in_idat parts.after) ∙ ap (λ (l : List ℕ). bytes_in (filter in_idat parts.before) ++ l) (bytes_in-cons i (filter in_idat parts.after))
    in
    let earlier : filter (λ (j : Item). in_idat j && ltb j.id i.id) is ≡ filter in_idat parts.before =
    ap (filter (λ (j : Item). in_idat j && ltb j.id i.id)) parts.parts ∙ up_to in_idat parts.before parts.after i inside order.1 order.2
    in
    stands (bytes_in (filter in_idat parts.before)) i.bytes (bytes_in (filter in_idat parts.after)) (idat_body is) (idat_offset is i) body (ap (λ (l : List Item). length (bytes_in l)) earlier)

-- a layout ends with the body of mdat
pub ends_with_mdat : (home : Homes) (w end : ℕ) (s : ItemStore) → laid home w end s ≡ (box (four "ftyp") (ftyp_body s.brands) ++ box (four "meta") (meta_body home w end s) ++ box_head (four "mdat") (length (mdat_body home s.items))) ++ mdat_body home s.items
unfolding laid box
ends_with_mdat home w end s =
    sym (append_assoc (box (four "ftyp") (ftyp_body s.brands) ++ box (four "meta") (meta_body home w end s)) (box_head (four "mdat") (length (mdat_body home s.items))) (mdat_body home s.items))

-- wherever each data item has a home
pub bytes_stand_by : (home : Homes) → AreHomes home → (s : ItemStore) (w : ℕ) (F : List ℕ) (i : Item) → Valid s → LayBy home s w F → IsIn i s.items → has_bytes i.bytes ≡ true
    → StandsAt (offset_of home (length F) s.items i) i.bytes (source_of F s.items i)
bytes_stand_by home homes s w F i valid lay among some =
    elim (cases_Bool (in_idat i)) [
      | inl inside ↦ rw inside (stands_in_idat s.items 0 i valid.ids_rise among inside)
      | inr outside ↦
          let data_item : is_data_item i ≡ true = and_from (has_bytes i.bytes) (not (in_idat i)) some (ap not outside) in
          let h = homes s.items i among data_item in
          rw outside (stands_at_home home F _ s.items 0 i h.at (lay.bytes ∙ ends_with_mdat home w (length F) s) valid.ids_rise h.among h.data_item h.itself h.found h.same)
    ]

pub bytes_stand : BytesStand
bytes_stand = bytes_stand_by own own_homes
