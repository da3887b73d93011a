-- An order of places tells where unfolding ends, and what is known before each place.
use Rattle.std.proofs.Common.{◌≡◌, ℕ, zero, suc, ◌+◌, ◌<◌, ◌≤◌, Bool, true, false, ◌&&◌, ◌⊎◌, inl, inr, List, [], ◌∷◌, length, take, get_or, refl, sym, ap, ◌∙◌, arith, Option, Some, None, Ok, eqb, subst}
use Rattle.std.specs.Prelude.{◌==◌, slice_get}
use Rattle.std.specs.List.{list_all, list_any, filter_map, IsDistinct}
use Rattle.std.proofs.lemmas.List.{take_more}
use Rattle.std.specs.Option.{option_map, option_and_then, is_none}
use Rattle.std.proofs.lemmas.Bool.{cases_Bool, false≢true, eqb-true}
use Rattle.std.proofs.lemmas.Option.{slice_get_within, some_pair_parts}
use Rattle.std.proofs.lemmas.Map.Steps.{length-le_from_distinct_below}
use Rattle.hf_base.specs.declared.loc.Extent.{Extent}
use Rattle.hf_base.specs.Located.{Located, source_of, id_at}
use Rattle.hf_base.specs.Members.{IsIn}
use Rattle.hf_base.specs.Levels.{over, told}
use Rattle.hf_base.specs.BytesOf.{by_method}
use Rattle.hf_base.specs.Counts.{ends_in, ends}
use Rattle.hf_base.specs.LocationFaults.{bad_index_fault, has_bad_index}
use Rattle.hf_base.specs.declared.loc.Extent.{Extent}
use Rattle.hf_base.specs.declared.fault.ReadRefusal.TheVariants.{BadIndex}
use Rattle.hf_base.proofs.LevelLaws.{stable, all_from, ends_local, in_item}
use Rattle.hf_base.proofs.FaultLaws.{none_has}
use Rattle.hf_base.proofs.BytesLaws.{any_not}
use Rattle.hf_extent.specs.Places.{AreAt, place_of, item_links, links_from}
use Rattle.hf_order.specs.Order.{AreWithin, IsOrder}
use Rattle.hf_order.proofs.Members.{all_from as each_of, in_front, in_back, in_joined, in_at, decided}
use Rattle.hf_extent.proofs.PlaceLaws.{source_found, place_within, length_at}

-- ---- members of lists

some_or_none : {A : Type 0} (o : Option A) → (o ≡ None) ⊎ ((x : A) × (o ≡ Some x))
some_or_none None = inl refl
some_or_none (Some x) = inr (x, refl)

is_mapped : {A B : Type 0} (h : A → Option B) (xs : List A) (x : A) (y : B) → IsIn x xs → h x ≡ Some y → IsIn y (filter_map h xs)
is_mapped h [] x y is e = absurd is
is_mapped h (z ∷ zs) x y (inl same) e = let f : h z ≡ Some y = ap h same ∙ e in rw f (inl refl)
is_mapped {B = B} h (z ∷ zs) x y (inr is) e = elim (some_or_none (h z)) [
  | inl f ↦ rw f (is_mapped h zs x y is e)
  | inr f ↦ rw f.1 (inr (is_mapped h zs x y is e))
]

mapped_from : {A B : Type 0} (h : A → Option B) (xs : List A) (y : B) → IsIn y (filter_map h xs) → (x : A) × IsIn x xs × (h x ≡ Some y)
mapped_from h [] y is = absurd is
mapped_from {B = B} h (z ∷ zs) y is = elim (some_or_none (h z)) [
  | inl f ↦ (let rest = mapped_from h zs y (rw f at is) in (rest.0, inr rest.1, rest.2))
  | inr f ↦ (let at_front : (f.0 ≡ y) ⊎ IsIn y (filter_map h zs) = rw f.1 at is in elim at_front [
    | inl same ↦ (z, inl refl, f.1 ∙ ap (λ (b : B). Some b) same)
    | inr later ↦ (let rest = mapped_from h zs y later in (rest.0, inr rest.1, rest.2))
  ])
]

-- a place in a list that has a number
pub where_in : (xs : List ℕ) (i k : ℕ) → IsIn k (take i xs) → (j : ℕ) × (j < i) × (j < length xs) × (get_or xs j 0 ≡ k)
where_in [] zero k is = absurd is
where_in [] (suc i) k is = absurd is
where_in (x ∷ xs) zero k is = absurd is
where_in (x ∷ xs) (suc i) k (inl same) = (zero, omega arith, omega arith, same)
where_in (x ∷ xs) (suc i) k (inr later) = let rest = where_in xs i k later in (suc rest.0, omega arith, omega arith, rest.3)

-- a number of a front that is longer by one, and that is not the last of it
pub in_before : (xs : List ℕ) (i k : ℕ) → i < length xs → IsIn k (take (i + 1) xs) → (get_or xs i 0 ≡ k → ⊥) → IsIn k (take i xs)
in_before xs i k less is other = elim (in_joined k (take i xs) (get_or xs i 0 ∷ []) (subst (λ (l : List ℕ). IsIn k l) (take_more xs i 0 less) is)) [
  | inl before ↦ before
  | inr last ↦ elim last [ inl same ↦ absurd (other same) | inr none ↦ absurd none ]
]

-- ---- links

item_link : (ids : List ℕ) (a : ℕ) (r : Located) (e : Extent) (k : ℕ) → (r.method == 2) ≡ true → IsIn e r.extents → place_of ids r e ≡ Some k
    → IsIn (a, k) (item_links ids a r)
item_link ids a r e k two is found =
    let listed : IsIn (a, k) (filter_map (λ (x : Extent). option_map (λ (j : ℕ). (a, j)) (place_of ids r x)) r.extents) =
    is_mapped (λ (x : Extent). option_map (λ (j : ℕ). (a, j)) (place_of ids r x)) r.extents e (a, k) is (rw found refl) in
    rw two listed

pub is_linked : (ids : List ℕ) (n : ℕ) (items : List Located) (i : ℕ) (r : Located) (e : Extent) (k : ℕ) → slice_get items i ≡ Some r
    → (r.method == 2) ≡ true → IsIn e r.extents → place_of ids r e ≡ Some k → IsIn (n + i, k) (links_from ids n items)
unfolding links_from
is_linked ids n [] i r e k at two is found = absurd (cc)
is_linked ids n (x ∷ xs) zero r e k at two is found =
    let same : x ≡ r = cc in
    let z : n + 0 ≡ n = omega arith in
    let here : IsIn (n, k) (item_links ids n r) = item_link ids n r e k two is found in
    rw (z, same) (in_front (n, k) (item_links ids n r) (links_from ids (suc n) xs) here)
is_linked ids n (x ∷ xs) (suc i) r e k at two is found =
    let z : n + suc i ≡ suc n + i = omega arith in
    rw z (in_back (suc n + i, k) (item_links ids n x) (links_from ids (suc n) xs) (is_linked ids (suc n) xs i r e k at two is found))

-- what a link comes from
pub record IsLink (ids : List ℕ) (items : List Located) (i k : ℕ) : Type 0 where
  pub item : Located
  pub at : slice_get items i ≡ Some item
  pub two : (item.method == 2) ≡ true
  pub extent : Extent
  pub is : IsIn extent item.extents
  pub found : place_of ids item extent ≡ Some k

pair_parts : (n a k : ℕ) (o : Option ℕ) → option_map {U = ℕ × ℕ} (λ (j : ℕ). (n, j)) o ≡ Some (a, k) → (a ≡ n) × (o ≡ Some k)
pair_parts n a k None e = absurd (cc)
pair_parts n a k (Some j) e = let parts = some_pair_parts n a j k e in (sym parts.0, ap (λ (m : ℕ). Some m) parts.1)

from_item : (ids : List ℕ) (n a k : ℕ) (r : Located) → IsIn (a, k) (item_links ids n r)
    → (a ≡ n) × ((r.method == 2) ≡ true) × ((e : Extent) × IsIn e r.extents × (place_of ids r e ≡ Some k))
from_item ids n a k r is = elim (cases_Bool (r.method == 2)) [
  | inl two ↦ (
      let listed : IsIn (a, k) (filter_map (λ (x : Extent). option_map (λ (j : ℕ). (n, j)) (place_of ids r x)) r.extents) = rw two at is in
      let e = mapped_from (λ (x : Extent). option_map (λ (j : ℕ). (n, j)) (place_of ids r x)) r.extents (a, k) listed in
      let parts = pair_parts n a k (place_of ids r e.0) e.2 in
      (parts.0, two, (e.0, e.1, parts.1))
      )
  | inr other ↦ (let none : IsIn {A = ℕ × ℕ} (a, k) [] = rw other at is in absurd none)
]

pub link_from : (ids : List ℕ) (n : ℕ) (items : List Located) (a k : ℕ) → IsIn (a, k) (links_from ids n items) → (i : ℕ) × (a ≡ n + i) × IsLink ids items i k
unfolding links_from
link_from ids n [] a k is = absurd is
link_from ids n (r ∷ rs) a k is = elim (in_joined (a, k) (item_links ids n r) (links_from ids (suc n) rs) is) [
  | inl here ↦ (
      let parts = from_item ids n a k r here in
      (zero, omega (arith, parts.0), record { item = r; at = refl; two = parts.1; extent = parts.2.0; is = parts.2.1; found = parts.2.2 })
      )
  | inr later ↦ (
      let rest = link_from ids (suc n) rs a k later in
      (suc rest.0, omega (arith, rest.1), record { item = rest.2.item; at = rest.2.at; two = rest.2.two; extent = rest.2.extent; is = rest.2.is; found = rest.2.found })
      )
]

-- ---- where unfolding ends

found_there : (items : List Located) (o : Option ℕ) (s : Located) → option_and_then (slice_get items) o ≡ Some s
    → (k : ℕ) × (o ≡ Some k) × (slice_get items k ≡ Some s)
found_there items None s e = absurd (cc)
found_there items (Some k) s e = (k, refl, e)

pub all_fails : {A : Type 0} (p : A → Bool) (xs : List A) (x : A) → IsIn x xs → p x ≡ false → list_all p xs ≡ false
all_fails p [] x is fails = absurd is
all_fails p (y ∷ ys) x (inl same) fails = let e : p y ≡ false = ap p same ∙ fails in rw e refl
all_fails p (y ∷ ys) x (inr is) fails = let e : list_all p ys ≡ false = all_fails p ys x is fails in elim (cases_Bool (p y)) [ inl f ↦ rw (f, e) refl | inr f ↦ rw f refl ]

after_both : (a b : Bool) → (a && b) ≡ false → a ≡ true → b ≡ false
after_both true b none held = none
after_both false b none held = absurd (cc)

some_from : {A : Type 0} (o : Option A) → is_none o ≡ false → (x : A) × (o ≡ Some x)
some_from None none = absurd (cc)
some_from (Some x) none = (x, refl)

some_same : {A : Type 0} (x y : A) → Some x ≡ Some y → x ≡ y
some_same x y e = cc

not_item : (method : ℕ) (b : Bool) → (method == 2) ≡ false → by_method method true true b ≡ true
not_item method b other = elim (cases_Bool (method == 1)) [ inl one ↦ rw (other, one) refl | inr one ↦ rw (other, one) refl ]

-- the items are at the ids, and each extent of method 2 has its source
pub record AreNamed (ids : List ℕ) (items : List Located) : Type 0 where
  pub at : AreAt ids items
  pub named : bad_index_fault items ≡ Ok tt

pub slice_in : (items : List Located) (i : ℕ) (r : Located) → slice_get items i ≡ Some r → IsIn r items
slice_in [] i r e = absurd (cc)
slice_in (x ∷ xs) zero r e = inl (cc)
slice_in (x ∷ xs) (suc i) r e = inr (slice_in xs i r e)

-- an extent of method 2 has its source at a place
pub source_at : (ids : List ℕ) (items : List Located) → AreNamed ids items → (i : ℕ) (r : Located) (e : Extent) → slice_get items i ≡ Some r
    → (r.method == 2) ≡ true → IsIn e r.extents
    → (k : ℕ) × (s : Located) × (place_of ids r e ≡ Some k) × (slice_get items k ≡ Some s) × (source_of items r e ≡ Some s)
unfolding bad_index_fault
source_at ids items named i r e at two is =
    let bad : has_bad_index items r ≡ false = none_has (has_bad_index items) (λ id. BadIndex id) items r named.named (slice_in items i r at) in
    let here : is_none (source_of items r e) ≡ false =
    any_not (λ (x : Extent). is_none (source_of items r x)) r.extents e (after_both (r.method == 2) (list_any (λ (x : Extent). is_none (source_of items r x)) r.extents) bad two) is in
    let s = some_from (source_of items r e) here in
    let k = found_there items (place_of ids r e) s.0 (sym (source_found ids items r e named.at) ∙ s.1) in
    (k.0, s.0, k.1, k.2, s.1)

-- before each place of an order stand those that it takes its bytes from
pub known_before : (ids : List ℕ) (items : List Located) (order : List ℕ) → AreNamed ids items → IsOrder (length ids) (links_from ids 0 items) order
    → (i : ℕ) (r : Located) (e : Extent) → i < length order → slice_get items (get_or order i 0) ≡ Some r → (r.method == 2) ≡ true → IsIn e r.extents
    → (k : ℕ) × (s : Located) × (place_of ids r e ≡ Some k) × (slice_get items k ≡ Some s) × (source_of items r e ≡ Some s) × IsIn k (take i order)
known_before ids items order named ordered i r e less at two is =
    let s = source_at ids items named (get_or order i 0) r e at two is in
    let z : 0 + get_or order i 0 ≡ get_or order i 0 = omega arith in
    let link : IsIn (get_or order i 0, s.0) (links_from ids 0 items) = rw z at (is_linked ids 0 items (get_or order i 0) r e s.0 at two is s.2) in
    (s.0, s.1, s.2, s.3, s.4, ordered.earlier i less s.0 link)

in_order_ends : (ids : List ℕ) (items : List Located) (order : List ℕ) → AreNamed ids items → IsOrder (length ids) (links_from ids 0 items) order
    → (n i : ℕ) (r : Located) → i < n → i < length order → slice_get items (get_or order i 0) ≡ Some r → over false (ends_in items) n r ≡ true
unfolding over
in_order_ends ids items order named ordered zero i r below less at = absurd (omega arith)
in_order_ends ids items order named ordered (suc n) i r below less at =
    all_from (λ (e : Extent). by_method r.method true true (told false (over false (ends_in items) n) (source_of items r e))) r.extents
    (λ e is. elim (cases_Bool (r.method == 2)) [
      | inl two ↦ (
          let s = known_before ids items order named ordered i r e less at two is in
          let j = where_in order i s.0 s.5 in
          let there : slice_get items (get_or order j.0 0) ≡ Some s.1 = ap (slice_get items) j.3 ∙ s.3 in
          let ending : over false (ends_in items) n s.1 ≡ true = in_order_ends ids items order named ordered n j.0 s.1 (omega arith) j.2 there in
          in_item r.method true true _ two ∙ ap (told false (over false (ends_in items) n)) s.4 ∙ ending
          )
      | inr other ↦ not_item r.method (told false (over false (ends_in items) n) (source_of items r e)) other
    ])

outside_never_ends : (ids : List ℕ) (items : List Located) (order : List ℕ) → AreNamed ids items → IsOrder (length ids) (links_from ids 0 items) order
    → (n a : ℕ) (r : Located) → slice_get items a ≡ Some r → ¬ IsIn a order → over false (ends_in items) n r ≡ false
unfolding over
outside_never_ends ids items order named ordered zero a r at out = refl
outside_never_ends ids items order named ordered (suc n) a r at out =
    let within : a < length items = slice_get_within items a r at in
    let other = ordered.outside a (omega (arith, length_at ids items named.at)) out in
    let link = link_from ids 0 items a other.0 other.1 in
    let here : link.0 ≡ a = omega (arith, link.1) in
    let same : link.2.item ≡ r = some_same link.2.item r (sym link.2.at ∙ ap (slice_get items) here ∙ at) in
    let two : (r.method == 2) ≡ true = ap (λ (x : Located). x.method == 2) (sym same) ∙ link.2.two in
    let is : IsIn link.2.extent r.extents = rw same at link.2.is in
    let s = source_at ids items named a r link.2.extent at two is in
    let place : s.0 ≡ other.0 = some_same s.0 other.0 (sym s.2 ∙ ap (λ (x : Located). place_of ids x link.2.extent) (sym same) ∙ link.2.found) in
    let endless : over false (ends_in items) n s.1 ≡ false =
    outside_never_ends ids items order named ordered n s.0 s.1 s.3 (λ is_in. other.2 (subst (λ (k : ℕ). IsIn k order) place is_in)) in
    all_fails (λ (e : Extent). by_method r.method true true (told false (over false (ends_in items) n) (source_of items r e))) r.extents link.2.extent is
    (in_item r.method true true _ two ∙ ap (told false (over false (ends_in items) n)) s.4 ∙ endless)

-- an order has no more nodes than there are
distinct_from : (xs : List ℕ) → ((k : ℕ) → k < length xs → ¬ IsIn (get_or xs k 0) (take k xs)) → IsDistinct eqb xs
unfolding IsDistinct
distinct_from [] each = tt
distinct_from (x ∷ xs) each = (
  each_of (λ (y : ℕ). eqb x y ≡ false) xs (λ y is.
      let k = in_at y xs is in
      let less : k.0 < length xs = k.1 in
      elim (cases_Bool (eqb x y)) [
        | inl same ↦ absurd (each (suc k.0) (omega arith) (inl (eqb-true x y same ∙ sym k.2)))
        | inr differs ↦ differs
      ]),
  distinct_from xs (λ k less later. each (suc k) (omega arith) (inr later)),
)

has_member : (xs : List ℕ) (q : ℕ) → list_any (λ b. q == b) xs ≡ true → IsIn q xs
has_member [] q is = absurd (false≢true is)
has_member (x ∷ xs) q is = elim (cases_Bool (q == x)) [
  | inl same ↦ inl (sym (eqb-true q x same))
  | inr other ↦ (let e : list_any (λ b. q == b) (x ∷ xs) ≡ list_any (λ b. q == b) xs = rw other refl in inr (has_member xs q (sym e ∙ is)))
]

pub short_order : (count : ℕ) (pairs : List (ℕ × ℕ)) (order : List ℕ) → IsOrder count pairs order → length order ≤ count
short_order count pairs order ordered = length-le_from_distinct_below order count (distinct_from order ordered.distinct)
    (λ q is. let i = in_at q order (has_member order q is) in let below : get_or order i.0 0 < count = ordered.within i.0 i.1 in omega (arith, i.2))

-- an order has the places where unfolding ends
pub in_order : (ids : List ℕ) (items : List Located) (order : List ℕ) → AreNamed ids items → IsOrder (length ids) (links_from ids 0 items) order
    → (a : ℕ) (r : Located) → slice_get items a ≡ Some r → IsIn a order → ends items r ≡ true
unfolding ends over
in_order ids items order named ordered a r at is =
    let i = in_at a order is in
    let there : slice_get items (get_or order i.0 0) ≡ Some r = ap (slice_get items) i.2 ∙ at in
    let few : length order ≤ length items = omega (arith, short_order (length ids) (links_from ids 0 items) order ordered, length_at ids items named.at) in
    let ending : over false (ends_in items) (length order) r ≡ true = in_order_ends ids items order named ordered (length order) i.0 r i.1 i.1 there in
    sym (stable false (ends_in items) items (ends_local items) (length order) (length order) (suc (length items)) r ending (omega arith) (omega arith)) ∙ ending

-- and no others
pub out_of_order : (ids : List ℕ) (items : List Located) (order : List ℕ) → AreNamed ids items → IsOrder (length ids) (links_from ids 0 items) order
    → (a : ℕ) (r : Located) → slice_get items a ≡ Some r → ¬ IsIn a order → ends items r ≡ false
unfolding ends over
out_of_order ids items order named ordered a r at out = outside_never_ends ids items order named ordered (suc (length items)) a r at out

pub ends_in_order : (ids : List ℕ) (items : List Located) (order : List ℕ) → AreNamed ids items → IsOrder (length ids) (links_from ids 0 items) order
    → (a : ℕ) (r : Located) → slice_get items a ≡ Some r → ends items r ≡ true → IsIn a order
ends_in_order ids items order named ordered a r at ending = elim (decided a order) [
  | inl is ↦ is
  | inr out ↦ absurd (false≢true (sym (out_of_order ids items order named ordered a r at out) ∙ ending))
]

-- both ends of a link are places
pub links_within : (ids : List ℕ) (items : List Located) → AreAt ids items → AreWithin (length ids) (links_from ids 0 items)
links_within ids items at = each_of (λ (p : ℕ × ℕ). (p.0 < length ids) × (p.1 < length ids)) (links_from ids 0 items) (λ p is.
    let link = link_from ids 0 items p.0 p.1 is in
    let within : link.0 < length items = slice_get_within items link.0 link.2.item link.2.at in
    (omega (arith, link.1, within, length_at ids items at), place_within ids (id_at link.2.extent.index link.2.item.sources) p.1 link.2.found))
