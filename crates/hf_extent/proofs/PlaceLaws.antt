-- Items by their places among ids that rise.
use Rattle.std.proofs.Common.{◌≡◌, ℕ, zero, suc, ◌+◌, ◌<◌, ◌≤◌, Bool, true, false, List, [], ◌∷◌, length, map, get_or, refl, sym, ap, ◌∙◌, arith, Option, Some, None, inl, inr, cond}
use Rattle.std.specs.Prelude.{◌==◌, not, slice_get, nat_lt}
use Rattle.std.specs.List.{list_any, position_or_len, prefix_len}
use Rattle.std.specs.Option.{option_and_then, is_none}
use Rattle.std.proofs.lemmas.Bool.{lt-ltb, le-ltb, cases_lt}
use Rattle.std.proofs.lemmas.Bool.Decides.{nat_tests}
use Rattle.std.proofs.lemmas.List.{length-map}
use Rattle.std.proofs.lemmas.List.Sums.{position_or_len_is}
use Rattle.std.proofs.lemmas.List.Folds.{find_at}
use Rattle.std.proofs.lemmas.Option.{slice_get_past}
use Rattle.hf_base.specs.declared.loc.Extent.{Extent}
use Rattle.hf_base.specs.Located.{Located, item_with, source_of, id_at}
use Rattle.hf_base.specs.LocationFaults.{has_bad_index}
use Rattle.hf_base.specs.Members.{Rises}
use Rattle.hf_base.proofs.Rising.{rises_at}
use Rattle.hf_extent.specs.Places.{AreAt, id_place, place_of, has_bad_place}

same_number : (a b : ℕ) → a ≡ b → (a == b) ≡ true
same_number a b e = grind (arith, nat_tests)

other_number : (a b : ℕ) → (a ≡ b → ⊥) → (a == b) ≡ false
other_number a b e = grind (arith, nat_tests)

at_length : (ids : List ℕ) (id k : ℕ) → position_or_len (λ x. x == id) ids ≡ k → k < length ids → id_place ids id ≡ Some k
at_length ids id k e less = let t : nat_lt k (length ids) ≡ true = lt-ltb k (length ids) less in rw (e, t) refl

pub place_found : (ids : List ℕ) (id k : ℕ) → Rises ◌<◌ ids → (k < length ids) × (get_or ids k 0 ≡ id) → Some k ≡ id_place ids id
place_found ids id k rising found =
    let first : position_or_len (λ x. x == id) ids ≡ k = position_or_len_is (λ x. x == id) ids k 0 (omega arith)
    (λ j less. other_number (get_or ids j 0) id (let e : get_or ids j 0 < get_or ids k 0 = rises_at ids rising j k less found.0 in λ same. omega arith))
    (λ _. same_number (get_or ids k 0) id found.1)
    in
    sym (at_length ids id k first found.0)

pub place_missing : (ids : List ℕ) (id i : ℕ)
    → (i ≤ length ids) × ((k : ℕ) → k < i → get_or ids k 0 < id) × ((k : ℕ) → i ≤ k → k < length ids → id < get_or ids k 0) → None ≡ id_place ids id
place_missing ids id i missing =
    let nowhere : position_or_len (λ x. x == id) ids ≡ length ids = position_or_len_is (λ x. x == id) ids (length ids) 0 (omega arith)
    (λ j less. other_number (get_or ids j 0) id (λ same. elim (cases_lt j i) [
      | inl before ↦ (let e : get_or ids j 0 < id = missing.1 j before in omega arith)
      | inr behind ↦ (let e : id < get_or ids j 0 = missing.2 j behind less in omega arith)
    ]))
    (λ less. absurd (omega arith))
    in
    let t : nat_lt (length ids) (length ids) ≡ false = le-ltb (length ids) (length ids) (omega arith) in
    rw (nowhere, t) refl

-- ---- the item at a place

prefix_of_map : {A B : Type 0} (p : B → Bool) (f : A → B) (xs : List A) → prefix_len p (map f xs) ≡ prefix_len (λ (x : A). p (f x)) xs
prefix_of_map p f [] = refl
prefix_of_map p f (x ∷ xs) = ap (λ (n : ℕ). cond (p (f x)) (1 + n) 0) (prefix_of_map p f xs)

place_or_past : (items : List Located) (n k : ℕ) → n ≡ length items → option_and_then (slice_get items) (cond (nat_lt k n) (Some k) None) ≡ slice_get items k
place_or_past items n k e = elim (cases_lt k n) [
  | inl within ↦ (let t : nat_lt k n ≡ true = lt-ltb k n within in rw t refl)
  | inr past ↦ (let t : nat_lt k n ≡ false = le-ltb k n past in rw t (sym (slice_get_past items k (omega arith))))
]

pub item_found : (items : List Located) (id : ℕ) → item_with id items ≡ option_and_then (slice_get items) (id_place (map (λ (r : Located). r.id) items) id)
item_found items id =
    let same : position_or_len (λ x. x == id) (map (λ (r : Located). r.id) items) ≡ position_or_len (λ (r : Located). r.id == id) items =
    prefix_of_map (λ x. not (x == id)) (λ (r : Located). r.id) items in
    find_at (λ (r : Located). r.id == id) items ∙ ap (slice_get items) (sym same)
    ∙ sym (place_or_past items (length (map (λ (r : Located). r.id) items)) (position_or_len (λ x. x == id) (map (λ (r : Located). r.id) items)) (length-map items (λ (r : Located). r.id)))

chained : (items : List Located) (o : Option ℕ)
    → option_and_then (λ id. item_with id items) o ≡ option_and_then (slice_get items) (option_and_then (id_place (map (λ (r : Located). r.id) items)) o)
chained items None = refl
chained items (Some id) = item_found items id

pub source_found : (ids : List ℕ) (items : List Located) (r : Located) (e : Extent) → AreAt ids items
    → source_of items r e ≡ option_and_then (slice_get items) (place_of ids r e)
source_found ids items r e at = chained items (id_at e.index r.sources) ∙ ap (λ (l : List ℕ). option_and_then (slice_get items) (option_and_then (id_place l) (id_at e.index r.sources))) at

pub place_within : (ids : List ℕ) (o : Option ℕ) (k : ℕ) → option_and_then (id_place ids) o ≡ Some k → k < length ids
place_within ids None k e = absurd (cc)
place_within ids (Some id) k e = elim (cases_lt (position_or_len (λ x. x == id) ids) (length ids)) [
  | inl within ↦ (let f : id_place ids id ≡ Some (position_or_len (λ x. x == id) ids) = at_length ids id _ refl within in let g : position_or_len (λ x. x == id) ids ≡ k = cc in omega arith)
  | inr past ↦ (let t : nat_lt (position_or_len (λ x. x == id) ids) (length ids) ≡ false = le-ltb _ _ past in let f : id_place ids id ≡ None = rw t refl in absurd (cc))
]

pub length_at : (ids : List ℕ) (items : List Located) → AreAt ids items → length items ≡ length ids
length_at ids items at = sym (length-map items (λ (r : Located). r.id)) ∙ ap length at

at_row : (items : List Located) (k : ℕ) → k < length items → is_none (Some k) ≡ is_none (slice_get items k)
at_row [] k less = absurd (omega arith)
at_row (r ∷ rs) zero less = refl
at_row (r ∷ rs) (suc k) less = at_row rs k (omega arith)

none_there : (ids : List ℕ) (items : List Located) → length items ≡ length ids → (o : Option ℕ) → ((k : ℕ) → o ≡ Some k → k < length ids)
    → is_none o ≡ is_none (option_and_then (slice_get items) o)
none_there ids items e None within = refl
none_there ids items e (Some k) within =
    let less : k < length ids = within k refl in
    elim (cases_lt k (length items)) [
      | inl here ↦ at_row items k here
      | inr past ↦ absurd (omega arith)
    ]

any_same : {A : Type 0} (p q : A → Bool) (xs : List A) → ((x : A) → p x ≡ q x) → list_any p xs ≡ list_any q xs
any_same p q [] same = refl
any_same p q (x ∷ xs) same = let e : p x ≡ q x = same x in let f : list_any p xs ≡ list_any q xs = any_same p q xs same in rw (e, f) refl

pub bad_place_is : (ids : List ℕ) (items : List Located) (r : Located) → AreAt ids items → has_bad_place ids r ≡ has_bad_index items r
bad_place_is ids items r at =
    let same : list_any (λ (e : Extent). is_none (place_of ids r e)) r.extents ≡ list_any (λ (e : Extent). is_none (source_of items r e)) r.extents =
    any_same (λ (e : Extent). is_none (place_of ids r e)) (λ (e : Extent). is_none (source_of items r e)) r.extents
    (λ e. none_there ids items (length_at ids items at) (place_of ids r e) (λ k f. place_within ids (id_at e.index r.sources) k f) ∙ ap is_none (sym (source_found ids items r e at)))
    in
    rw same refl
