-- Lists by rising keys: they have the same members, and rise where no two have one key.
use Rattle.std.proofs.Common.{◌≡◌, ℕ, ◌<◌, true, false, not, ltb, List, [], ◌∷◌, map, refl, sym, ap, subst, ◌∙◌, arith, inl, inr, ◌⊎◌}
use Rattle.std.specs.List.{fold}
use Rattle.std.proofs.lemmas.Bool.{cases_Bool, and_parts, ltb-true, ltb-false}
use Rattle.hf_base.specs.Entries.{has_id, are_distinct}
use Rattle.hf_base.specs.Members.{IsIn, RisesFrom, Rises}
use Rattle.hf_order.proofs.Members.{in_map, has_in}
use Rattle.hf_read.specs.Rising.{put_in, by_rising}

-- ---- members

put_cases : {A : Type 0} (key : A → ℕ) (x y : A) (ys : List A) → (put_in key (y ∷ ys) x ≡ x ∷ y ∷ ys) ⊎ (put_in key (y ∷ ys) x ≡ y ∷ put_in key ys x)
put_cases key x y ys = elim (cases_Bool (ltb (key x) (key y))) [ inl t ↦ inl (rw t refl) | inr f ↦ inr (rw f refl) ]

from_put : {A : Type 0} (key : A → ℕ) (x z : A) (ys : List A) → IsIn z (put_in key ys x) → (x ≡ z) ⊎ IsIn z ys
from_put key x z [] (inl e) = inl e
from_put key x z [] (inr h) = absurd h
from_put {A = A} key x z (y ∷ ys) h = elim (put_cases key x y ys) [
  | inl first ↦
      let k : IsIn z (x ∷ y ∷ ys) = subst (λ (l : List A). IsIn z l) first h in
      elim k [ inl e ↦ inl e | inr there ↦ inr there ]
  | inr later ↦
      let k : IsIn z (y ∷ put_in key ys x) = subst (λ (l : List A). IsIn z l) later h in
      elim k [ inl e ↦ inr (inl e) | inr there ↦ elim (from_put key x z ys there) [ inl e ↦ inl e | inr old ↦ inr (inr old) ] ]
]

in_put : {A : Type 0} (key : A → ℕ) (x z : A) (ys : List A) → (x ≡ z) ⊎ IsIn z ys → IsIn z (put_in key ys x)
in_put key x z [] (inl e) = inl e
in_put key x z [] (inr h) = absurd h
in_put {A = A} key x z (y ∷ ys) h = elim (put_cases key x y ys) [
  | inl first ↦
      let k : IsIn z (x ∷ y ∷ ys) = elim h [ inl e ↦ inl e | inr there ↦ inr there ] in
      subst (λ (l : List A). IsIn z l) (sym first) k
  | inr later ↦
      let k : IsIn z (y ∷ put_in key ys x) = elim h [ inl e ↦ inr (in_put key x z ys (inl e)) | inr there ↦ elim there [ inl e ↦ inl e | inr old ↦ inr (in_put key x z ys (inr old)) ] ] in
      subst (λ (l : List A). IsIn z l) (sym later) k
]

from_fold : {A : Type 0} (key : A → ℕ) (z : A) (earlier xs : List A) → IsIn z (fold (put_in key) earlier xs) → IsIn z earlier ⊎ IsIn z xs
from_fold key z earlier [] h = inl h
from_fold key z earlier (x ∷ xs) h = elim (from_fold key z (put_in key earlier x) xs h) [
  | inl there ↦ elim (from_put key x z earlier there) [ inl e ↦ inr (inl e) | inr old ↦ inl old ]
  | inr more ↦ inr (inr more)
]

in_fold : {A : Type 0} (key : A → ℕ) (z : A) (earlier xs : List A) → IsIn z earlier ⊎ IsIn z xs → IsIn z (fold (put_in key) earlier xs)
in_fold key z earlier [] (inl h) = h
in_fold key z earlier [] (inr h) = absurd h
in_fold key z earlier (x ∷ xs) (inl h) = in_fold key z (put_in key earlier x) xs (inl (in_put key x z earlier (inr h)))
in_fold key z earlier (x ∷ xs) (inr (inl e)) = in_fold key z (put_in key earlier x) xs (inl (in_put key x z earlier (inl e)))
in_fold key z earlier (x ∷ xs) (inr (inr h)) = in_fold key z (put_in key earlier x) xs (inr h)

pub from_rising : {A : Type 0} (key : A → ℕ) (xs : List A) (z : A) → IsIn z (by_rising key xs) → IsIn z xs
unfolding by_rising
from_rising key xs z h = elim (from_fold key z [] xs h) [ inl none ↦ absurd none | inr there ↦ there ]

pub in_rising : {A : Type 0} (key : A → ℕ) (xs : List A) (z : A) → IsIn z xs → IsIn z (by_rising key xs)
unfolding by_rising
in_rising key xs z h = in_fold key z [] xs (inr h)

-- ---- order

-- no member has this key
abbrev Lacks : {A : Type 0} → (A → ℕ) → ℕ → List A → Type 0
Lacks {A = A} key k xs = (z : A) → IsIn z xs → key z ≡ k → ⊥

put_above : {A : Type 0} (key : A → ℕ) (low : ℕ) (x : A) (ys : List A) → low < key x → RisesFrom ◌<◌ low (map key ys) → Lacks key (key x) ys → RisesFrom ◌<◌ low (map key (put_in key ys x))
put_above key low x [] lt up new = (lt, tt)
put_above {A = A} key low x (y ∷ ys) lt up new = elim (cases_Bool (ltb (key x) (key y))) [
  | inl t ↦
      let first : put_in key (y ∷ ys) x ≡ x ∷ y ∷ ys = rw t refl in
      subst (λ (l : List A). RisesFrom ◌<◌ low (map key l)) (sym first) (lt, (ltb-true (key x) (key y) t, up.1))
  | inr f ↦
      let later : put_in key (y ∷ ys) x ≡ y ∷ put_in key ys x = rw f refl in
      let above : key y < key x = let le = ltb-false (key x) (key y) f in let ne = new y (inl refl) in omega arith in
      subst (λ (l : List A). RisesFrom ◌<◌ low (map key l)) (sym later) (up.0, put_above key (key y) x ys above up.1 (λ z h. new z (inr h)))
]

put_rises : {A : Type 0} (key : A → ℕ) (x : A) (ys : List A) → Rises ◌<◌ (map key ys) → Lacks key (key x) ys → Rises ◌<◌ (map key (put_in key ys x))
put_rises key x [] up new = tt
put_rises {A = A} key x (y ∷ ys) up new = elim (cases_Bool (ltb (key x) (key y))) [
  | inl t ↦
      let first : put_in key (y ∷ ys) x ≡ x ∷ y ∷ ys = rw t refl in
      subst (λ (l : List A). Rises ◌<◌ (map key l)) (sym first) (ltb-true (key x) (key y) t, up)
  | inr f ↦
      let later : put_in key (y ∷ ys) x ≡ y ∷ put_in key ys x = rw f refl in
      let above : key y < key x = let le = ltb-false (key x) (key y) f in let ne = new y (inl refl) in omega arith in
      subst (λ (l : List A). Rises ◌<◌ (map key l)) (sym later) (put_above key (key y) x ys above up (λ z h. new z (inr h)))
]

new_first : {A : Type 0} (key : A → ℕ) (x : A) (xs : List A) → are_distinct (map key (x ∷ xs)) ≡ true → (z : A) → IsIn z xs → key z ≡ key x → ⊥
new_first key x xs distinct z h e =
    let p = and_parts (not (has_id (key x) (map key xs))) (are_distinct (map key xs)) distinct in
    let there : has_id (key x) (map key xs) ≡ true = has_in (key x) (map key xs) (subst (λ (k : ℕ). IsIn k (map key xs)) e (in_map key xs z h)) in
    let none : not (has_id (key x) (map key xs)) ≡ false = rw there refl in
    let no : true ≡ false = sym p.0 ∙ none in
    cc

fold_rises : {A : Type 0} (key : A → ℕ) (earlier xs : List A) → Rises ◌<◌ (map key earlier) → are_distinct (map key xs) ≡ true → ((x : A) → IsIn x xs → Lacks key (key x) earlier)
    → Rises ◌<◌ (map key (fold (put_in key) earlier xs))
fold_rises key earlier [] up distinct new = up
fold_rises {A = A} key earlier (x ∷ xs) up distinct new =
    let p = and_parts (not (has_id (key x) (map key xs))) (are_distinct (map key xs)) distinct in
    let next : Rises ◌<◌ (map key (put_in key earlier x)) = put_rises key x earlier up (new x (inl refl)) in
    let still : (y : A) → IsIn y xs → Lacks key (key y) (put_in key earlier x) = λ y h z k e. elim (from_put key x z earlier k) [
      | inl same ↦ new_first key x xs distinct y h (sym e ∙ ap key (sym same))
      | inr old ↦ new y (inr h) z old e
    ] in
    fold_rises key (put_in key earlier x) xs next p.1 still

pub rising_rises : {A : Type 0} (key : A → ℕ) (xs : List A) → are_distinct (map key xs) ≡ true → Rises ◌<◌ (map key (by_rising key xs))
unfolding by_rising
rising_rises key xs distinct = fold_rises key [] xs tt distinct (λ x h z none e. absurd none)

-- keys that rise, and are none of them 0
pub above_zero : (ns : List ℕ) → Rises ◌<◌ ns → ((n : ℕ) → IsIn n ns → 0 < n) → RisesFrom ◌<◌ 0 ns
above_zero [] up some = tt
above_zero (n ∷ ns) up some = (some n (inl refl), up)
