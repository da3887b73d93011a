-- The chain of doubled items is that of a file.
use Rattle.std.proofs.Common.{◌≡◌, ℕ, zero, suc, ◌<◌, Bool, true, false, inl, inr, List, [], ◌∷◌, ◌++◌, map, refl, sym, ap, subst, ◌∙◌, arith, Option, Some, None}
use Rattle.std.specs.Prelude.{◌==◌, filter}
use Rattle.std.specs.List.{flat_map}
use Rattle.std.proofs.lemmas.Bool.{cases_Bool, cases_lt}
use Rattle.std.proofs.lemmas.Bool.Decides.{nat_tests}
use Rattle.std.proofs.lemmas.List.{append-nil, map-append}
use Rattle.std.proofs.lemmas.List.Concat.{flat_map-append}
use Rattle.std.proofs.lemmas.List.Elements.{filter-append}
use Rattle.hf_base.specs.declared.loc.Loc.{Loc}
use Rattle.hf_base.specs.declared.loc.RefBox.{RefBox}
use Rattle.hf_base.specs.Located.{Located, located_at, located_item, located_items, loc_of, locates, sources_of}
use Rattle.hf_base.specs.Doubling.{doubled_item, doubled, doubled_entry, doubled_link, first_ids, doubled_entries, doubled_links}

-- ---- entries

entry_front : (id : ℕ) (xs ys : List Loc) (x : Loc) → loc_of id xs ≡ Some x → loc_of id (xs ++ ys) ≡ Some x
entry_front id [] ys x e = absurd (cc)
entry_front id (z ∷ zs) ys x e = elim (cases_Bool (z.id == id)) [
  | inl same ↦ (
      let f : loc_of id (z ∷ zs) ≡ Some z = rw same refl in
      let g : loc_of id ((z ∷ zs) ++ ys) ≡ Some z = rw same refl in
      g ∙ sym f ∙ e
      )
  | inr other ↦ (
      let f : loc_of id (z ∷ zs) ≡ loc_of id zs = rw other refl in
      let g : loc_of id ((z ∷ zs) ++ ys) ≡ loc_of id (zs ++ ys) = rw other refl in
      g ∙ entry_front id zs ys x (sym f ∙ e)
      )
]

entry_back : (id : ℕ) (xs ys : List Loc) → loc_of id xs ≡ None → loc_of id (xs ++ ys) ≡ loc_of id ys
entry_back id [] ys e = refl
entry_back id (z ∷ zs) ys e = elim (cases_Bool (z.id == id)) [
  | inl same ↦ (let f : loc_of id (z ∷ zs) ≡ Some z = rw same refl in absurd (cc))
  | inr other ↦ (
      let f : loc_of id (z ∷ zs) ≡ loc_of id zs = rw other refl in
      let g : loc_of id ((z ∷ zs) ++ ys) ≡ loc_of id (zs ++ ys) = rw other refl in
      g ∙ entry_back id zs ys (sym f ∙ e)
      )
]

entry_id : (inner : Bool) (long : ℕ → ℕ) (k : ℕ) → (doubled_entry inner long k).id ≡ suc k
entry_id inner long zero = refl
entry_id inner long (suc k) = refl

only_other : (id : ℕ) (x : Loc) → (x.id == id) ≡ false → loc_of id (x ∷ []) ≡ None
only_other id x other = rw other refl

only_same : (id : ℕ) (x : Loc) → (x.id == id) ≡ true → loc_of id (x ∷ []) ≡ Some x
only_same id x same = rw same refl

no_later_entry : (inner : Bool) (long : ℕ → ℕ) (n id : ℕ) → n < id → loc_of id (doubled_entries inner long n) ≡ None
unfolding doubled_entries
no_later_entry inner long zero id less = refl
no_later_entry inner long (suc n) id less =
    let is = entry_id inner long n in
    let other : ((doubled_entry inner long n).id == id) ≡ false = grind (arith, nat_tests) in
    entry_back id (doubled_entries inner long n) (doubled_entry inner long n ∷ []) (no_later_entry inner long n id (omega arith))
    ∙ only_other id (doubled_entry inner long n) other

last_entry : (inner : Bool) (long : ℕ → ℕ) (n : ℕ) → loc_of (suc n) (doubled_entries inner long (suc n)) ≡ Some (doubled_entry inner long n)
unfolding doubled_entries
last_entry inner long n =
    let is = entry_id inner long n in
    let same : ((doubled_entry inner long n).id == suc n) ≡ true = grind (arith, nat_tests) in
    entry_back (suc n) (doubled_entries inner long n) (doubled_entry inner long n ∷ []) (no_later_entry inner long n (suc n) (omega arith))
    ∙ only_same (suc n) (doubled_entry inner long n) same

entry_at : (inner : Bool) (long : ℕ → ℕ) (n k : ℕ) → k < n → loc_of (suc k) (doubled_entries inner long n) ≡ Some (doubled_entry inner long k)
unfolding doubled_entries
entry_at inner long zero k less = absurd (omega arith)
entry_at inner long (suc n) k less = elim (cases_lt k n) [
  | inl lt ↦ entry_front (suc k) (doubled_entries inner long n) (doubled_entry inner long n ∷ []) (doubled_entry inner long k) (entry_at inner long n k lt)
  | inr ge ↦ (
      let same : n ≡ k = omega arith in
      subst (λ (m : ℕ). loc_of (suc m) (doubled_entries inner long (suc n)) ≡ Some (doubled_entry inner long m)) same (last_entry inner long n)
      )
]

-- ---- references

source_more : (id : ℕ) (links : List RefBox) (b : RefBox) → locates id b ≡ true → sources_of id (links ++ b ∷ []) ≡ sources_of id links ++ b.to
source_more id links b here =
    let one : filter (locates id) (b ∷ []) ≡ b ∷ [] = rw here refl in
    ap (flat_map (λ (x : RefBox). x.to)) (filter-append (locates id) links (b ∷ []) ∙ ap (λ (l : List RefBox). filter (locates id) links ++ l) one)
    ∙ flat_map-append (λ (x : RefBox). x.to) (filter (locates id) links) (b ∷ []) ∙ ap (λ (l : List ℕ). sources_of id links ++ l) (append-nil b.to)

source_same : (id : ℕ) (links : List RefBox) (b : RefBox) → locates id b ≡ false → sources_of id (links ++ b ∷ []) ≡ sources_of id links
source_same id links b other =
    let none : filter (locates id) (b ∷ []) ≡ [] = rw other refl in
    ap (flat_map (λ (x : RefBox). x.to)) (filter-append (locates id) links (b ∷ []) ∙ ap (λ (l : List RefBox). filter (locates id) links ++ l) none ∙ append-nil (filter (locates id) links))

not_from : (id k : ℕ) → (suc (suc k) == id) ≡ false → locates id (doubled_link k) ≡ false
not_from id k other = other

from_it : (k : ℕ) → locates (suc (suc k)) (doubled_link k) ≡ true
from_it k = let same : (suc (suc k) == suc (suc k)) ≡ true = grind (arith, nat_tests) in same

no_source : (n id : ℕ) → suc n < id → sources_of id (doubled_links n) ≡ []
unfolding doubled_links
no_source zero id less = refl
no_source (suc n) id less =
    let other : (suc (suc n) == id) ≡ false = grind (arith, nat_tests) in
    source_same id (doubled_links n) (doubled_link n) (not_from id n other) ∙ no_source n id (omega arith)

no_first_source : (n : ℕ) → sources_of 1 (doubled_links n) ≡ []
unfolding doubled_links
no_first_source zero = refl
no_first_source (suc n) =
    let other : (suc (suc n) == 1) ≡ false = grind (arith, nat_tests) in
    source_same 1 (doubled_links n) (doubled_link n) (not_from 1 n other) ∙ no_first_source n

last_source : (n : ℕ) → sources_of (suc (suc n)) (doubled_links (suc n)) ≡ suc n ∷ []
unfolding doubled_links
last_source n =
    source_more (suc (suc n)) (doubled_links n) (doubled_link n) (from_it n) ∙ ap (λ (l : List ℕ). l ++ suc n ∷ []) (no_source n (suc (suc n)) (omega arith))

source_at : (n k : ℕ) → k < n → sources_of (suc (suc k)) (doubled_links n) ≡ suc k ∷ []
unfolding doubled_links
source_at zero k less = absurd (omega arith)
source_at (suc n) k less = elim (cases_lt k n) [
  | inl lt ↦ (
      let other : (suc (suc n) == suc (suc k)) ≡ false = grind (arith, nat_tests) in
      source_same (suc (suc k)) (doubled_links n) (doubled_link n) (not_from (suc (suc k)) n other) ∙ source_at n k lt
      )
  | inr ge ↦ (
      let same : n ≡ k = omega arith in
      subst (λ (m : ℕ). sources_of (suc (suc m)) (doubled_links (suc n)) ≡ suc m ∷ []) same (last_source n)
      )
]

-- ---- items

item_is : (inner : Bool) (long : ℕ → ℕ) (n k : ℕ) → k < suc n
    → located_item (doubled_entries inner long (suc n)) (doubled_links n) (suc k) ≡ doubled_item inner long k
item_is inner long n zero less =
    ap (λ (o : Option Loc). located_at 1 o (sources_of 1 (doubled_links n))) (entry_at inner long (suc n) zero less)
    ∙ ap (λ (l : List ℕ). located_at 1 (Some (doubled_entry inner long zero)) l) (no_first_source n)
item_is inner long n (suc k) less =
    ap (λ (o : Option Loc). located_at (suc (suc k)) o (sources_of (suc (suc k)) (doubled_links n))) (entry_at inner long (suc n) (suc k) less)
    ∙ ap (λ (l : List ℕ). located_at (suc (suc k)) (Some (doubled_entry inner long (suc k))) l) (source_at n k (omega arith))

items_are : (f : ℕ → Located) (inner : Bool) (long : ℕ → ℕ) (n : ℕ) → ((k : ℕ) → k < n → f (suc k) ≡ doubled_item inner long k)
    → map f (first_ids n) ≡ doubled inner long n
unfolding first_ids doubled
items_are f inner long zero each = refl
items_are f inner long (suc n) each =
    map-append f (first_ids n) (suc n ∷ [])
    ∙ ap (λ (l : List Located). l ++ f (suc n) ∷ []) (items_are f inner long n (λ k less. each k (omega arith)))
    ∙ ap (λ (r : Located). doubled inner long n ++ r ∷ []) (each n (omega arith))

pub chain_in_file : (inner : Bool) (long : ℕ → ℕ) (n : ℕ)
    → located_items (first_ids (suc n)) (doubled_entries inner long (suc n)) (doubled_links n) ≡ doubled inner long (suc n)
chain_in_file inner long n = items_are (located_item (doubled_entries inner long (suc n)) (doubled_links n)) inner long (suc n) (item_is inner long n)
