-- Ids that a set has.
use Rattle.std.proofs.Common.{◌≡◌, ℕ, ◌+◌, ◌<◌, Bool, true, ◌||◌, cond, eqb, eqb-true, List, [], ◌∷◌, ◌++◌, length, take, get_or, Some}
use Rattle.std.proofs.Common.{refl, sym, ap, subst, ◌∙◌, arith, inl, inr}
use Rattle.std.specs.Prelude.{slice_get}
use Rattle.std.specs.List.{flat_map, list_any}
use Rattle.std.specs.Ordering.{nat_cmp}
use Rattle.std.specs.BTreeMap.{is_at}
use Rattle.std.proofs.lemmas.Bool.{cases_Bool, eq-eqb}
use Rattle.std.proofs.lemmas.List.{flat_map_more, take_more}
use Rattle.hf_order.proofs.Members.{in_joined}
use Rattle.hf_store.specs.Lists.{IsIn}
use Rattle.hf_store.specs.Referred.{HasAll}
use Rattle.hf_store.proofs.Spots.{at_or, within_at}

same_test : (id x : ℕ) → is_at (nat_cmp id) x ≡ eqb id x
same_test id x = grind arith

-- the test of a set
abbrev pub is_known : ℕ → List ℕ → Bool
is_known id ids = list_any (is_at (nat_cmp id)) ids

pub known_in : (id : ℕ) (ids : List ℕ) → is_known id ids ≡ true → IsIn id ids
known_in id [] e = absurd cc
known_in id (x ∷ xs) e =
    elim (cases_Bool (eqb id x)) [
      | inl same ↦ inl (sym (eqb-true id x same))
      | inr other ↦ inr (known_in id xs (sym (ap (λ (b : Bool). b || is_known id xs) (same_test id x ∙ other)) ∙ e))
    ]

pub in_known : (id : ℕ) (ids : List ℕ) → IsIn id ids → is_known id ids ≡ true
in_known id [] h = absurd h
in_known id (x ∷ xs) (inl e) = let same : is_at (nat_cmp id) x ≡ true = same_test id x ∙ eq-eqb id x (sym e) in rw same refl
in_known id (x ∷ xs) (inr h) =
    let later = in_known id xs h in
    elim (cases_Bool (is_at (nat_cmp id) x)) [ inl same ↦ rw same refl | inr other ↦ rw (other, later) refl ]

-- an insertion keeps those that were there
pub still_in : (more id : ℕ) (old new : List ℕ) → is_known id new ≡ cond (is_at (nat_cmp more) id) true (is_known id old) → IsIn id old → IsIn id new
still_in more id old new told h =
    let before = in_known id old h in
    known_in id new (told ∙ elim (cases_Bool (is_at (nat_cmp more) id)) [ inl same ↦ rw same refl | inr other ↦ rw (other, before) refl ])

-- ---- ids that are put in along a list

-- both parts of a joined list
has_both : (ids xs ys : List ℕ) → HasAll ids xs → HasAll ids ys → HasAll ids (xs ++ ys)
has_both ids xs ys first second id h = elim (in_joined id xs ys h) [ inl a ↦ first id a | inr b ↦ second id b ]

has_one : (ids : List ℕ) (x : ℕ) → IsIn x ids → HasAll ids (x ∷ [])
has_one ids x there id (inl e) = subst (λ n. IsIn n ids) e there
has_one ids x there id (inr none) = absurd none

-- one more
pub ids_next : (old new ids : List ℕ) (k : ℕ) → k < length ids → HasAll old (take k ids) → HasAll new old → IsIn (get_or ids k 0) new
    → HasAll new (take (k + 1) ids)
ids_next old new ids k less so_far kept there =
    let x = get_or ids k 0 in
    subst (HasAll new) (sym (take_more ids k 0 less)) (has_both new (take k ids) (x ∷ []) (λ id h. kept id (so_far id h)) (has_one new x there))

-- and those of one more element
pub flat_next : {A : Type 0} (f : A → List ℕ) (xs : List A) (k : ℕ) (x : A) (old new : List ℕ) → slice_get xs k ≡ Some x
    → HasAll old (flat_map f (take k xs)) → HasAll new old → HasAll new (f x)
    → HasAll new (flat_map f (take (k + 1) xs))
flat_next f xs k x old new here so_far kept more =
    let all : take k xs ++ x ∷ [] ≡ take (k + 1) xs =
    ap (λ y. take k xs ++ y ∷ []) (sym (at_or xs k x x here)) ∙ sym (take_more xs k x (within_at xs k x here))
    in
    let split : flat_map f (take k xs) ++ f x ≡ flat_map f (take (k + 1) xs) = flat_map_more f [] (take k xs) x ∙ ap (flat_map f) all in
    subst (HasAll new) split (has_both new (flat_map f (take k xs)) (f x) (λ id h. kept id (so_far id h)) more)
