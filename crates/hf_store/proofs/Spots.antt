-- What stands at a place of a list.
use Rattle.std.proofs.Common.{◌≡◌, ℕ, zero, suc, ◌+◌, ◌<◌, List, [], ◌∷◌, length, map, take, drop, get_or, refl, sym, add-one, ap, ◌∙◌, arith, inl, inr, Some}
use Rattle.std.specs.Prelude.{slice_get}
use Rattle.std.specs.List.{AllByRecursion, remove}
use Rattle.std.proofs.lemmas.Bool.{cases_lt}
use Rattle.std.proofs.lemmas.List.{map-append, take-map, drop-map}
use Rattle.hf_store.specs.Lists.{IsIn, RisesFrom}
use Rattle.hf_store.specs.Store.{Item, ids_of}

pub some_is : {A : Type 0} {x y : A} → Some x ≡ Some y → x ≡ y
some_is e = cc

drop_suc : {A : Type 0} (xs : List A) (k : ℕ) (x : A) → slice_get xs k ≡ Some x → drop k xs ≡ x ∷ drop (suc k) xs
drop_suc [] k x e = absurd cc
drop_suc (y ∷ ys) zero x e = ap (λ z. z ∷ ys) (some_is e)
drop_suc (y ∷ ys) (suc k) x e = drop_suc ys k x e

-- what stands at a place is the first from there on
pub drop_here : {A : Type 0} (xs : List A) (k : ℕ) (x : A) → slice_get xs k ≡ Some x → drop k xs ≡ x ∷ drop (k + 1) xs
drop_here xs k x e = rw add-one (drop_suc xs k x e)

-- a fact of all is one of what stands at a place
pub holds_here : {A : Type 0} (P : A → Type 0) (xs : List A) (k : ℕ) (x : A) → AllByRecursion P xs → slice_get xs k ≡ Some x → P x
holds_here P [] k x all e = absurd cc
holds_here P (y ∷ ys) zero x all e = rw (sym (some_is e)) all.0
holds_here P (y ∷ ys) (suc k) x all e = holds_here P ys k x all.1 e

pub get_map : {A B : Type 0} (f : A → B) (xs : List A) (k : ℕ) (x : A) → slice_get xs k ≡ Some x → slice_get (map f xs) k ≡ Some (f x)
get_map f [] k x e = absurd cc
get_map f (y ∷ ys) zero x e = ap (λ z. Some (f z)) (some_is e)
get_map f (y ∷ ys) (suc k) x e = get_map f ys k x e

pub in_at : {A : Type 0} (xs : List A) (k : ℕ) (x : A) → slice_get xs k ≡ Some x → IsIn x xs
in_at [] k x e = absurd cc
in_at (y ∷ ys) zero x e = inl (some_is e)
in_at (y ∷ ys) (suc k) x e = inr (in_at ys k x e)

pub at_in : {A : Type 0} (x : A) (xs : List A) → IsIn x xs → (k : ℕ) × (slice_get xs k ≡ Some x)
at_in x [] h = absurd h
at_in x (y ∷ ys) (inl e) = (0, ap Some e)
at_in x (y ∷ ys) (inr h) = let later = at_in x ys h in (suc later.0, later.1)

pub at_or : {A : Type 0} (xs : List A) (k : ℕ) (x d : A) → slice_get xs k ≡ Some x → get_or xs k d ≡ x
at_or [] k x d e = absurd cc
at_or (y ∷ ys) zero x d e = some_is e
at_or (y ∷ ys) (suc k) x d e = at_or ys k x d e

pub within_at : {A : Type 0} (xs : List A) (k : ℕ) (x : A) → slice_get xs k ≡ Some x → k < length xs
within_at [] k x e = absurd cc
within_at (y ∷ ys) zero x e = omega arith
within_at (y ∷ ys) (suc k) x e = omega (arith, within_at ys k x e)

-- ---- lists that rise

rises_above : (low : ℕ) (xs : List ℕ) (k x : ℕ) → RisesFrom ◌<◌ low xs → slice_get xs k ≡ Some x → low < x
rises_above low [] k x rises e = absurd cc
rises_above low (y ∷ ys) zero x rises e = let same : y ≡ x = some_is e in omega (arith, rises.0, same)
rises_above low (y ∷ ys) (suc k) x rises e = omega (arith, rises.0, rises_above y ys k x rises.1 e)

-- what stands later is greater
pub rises_at : (low : ℕ) (xs : List ℕ) (j k x y : ℕ) → RisesFrom ◌<◌ low xs → slice_get xs j ≡ Some x → slice_get xs k ≡ Some y → j < k → x < y
rises_at low [] j k x y rises here there lt = absurd cc
rises_at low (z ∷ zs) zero zero x y rises here there lt = absurd (omega arith)
rises_at low (z ∷ zs) zero (suc k) x y rises here there lt = let same : z ≡ x = some_is here in omega (arith, same, rises_above z zs k y rises.1 there)
rises_at low (z ∷ zs) (suc j) zero x y rises here there lt = absurd (omega arith)
rises_at low (z ∷ zs) (suc j) (suc k) x y rises here there lt = rises_at z zs j k x y rises.1 here there (omega arith)

-- and a greater one stands later
pub rises_later : (low : ℕ) (xs : List ℕ) (j k x y : ℕ) → RisesFrom ◌<◌ low xs → slice_get xs j ≡ Some x → slice_get xs k ≡ Some y → x < y → j < k
rises_later low xs j k x y rises here there lt =
    elim (cases_lt j k) [
      | inl before ↦ before
      | inr after ↦ elim (cases_lt k j) [
        | inl behind ↦ absurd (omega (arith, rises_at low xs k j y x rises there here behind))
        | inr same ↦ absurd (let e : j ≡ k = omega arith in let s : x ≡ y = some_is (sym here ∙ ap (slice_get xs) e ∙ there) in omega (arith, s))
      ]
    ]

pub map-remove : {A B : Type 0} (f : A → B) (xs : List A) (i : ℕ) → map f (remove xs i) ≡ remove (map f xs) i
map-remove f xs i = rw (map-append f (take i xs) (drop (suc i) xs), take-map f i xs, drop-map f (suc i) xs) refl

-- the id of what stands at a place stands there among the ids
pub id_here : (is : List Item) (k : ℕ) (i : Item) → slice_get is k ≡ Some i → slice_get (ids_of is) k ≡ Some i.id
id_here is k i e = get_map (λ (j : Item). j.id) is k i e
