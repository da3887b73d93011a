-- Lists whose keys rise.
use Rattle.std.proofs.Common.{◌≡◌, ◌<◌, ◌≤◌, ℕ, Bool, true, false, List, [], ◌∷◌, ◌++◌, map, refl, sym, ap, ◌∙◌, append_assoc, append-nil, arith, inl, inr}
use Rattle.std.specs.List.{AllByRecursion, filter, fold}
use Rattle.std.proofs.lemmas.Bool.{cases_Bool, ne_eqb, le-ltb}
use Rattle.hf_base.specs.Entries.{has_id, are_distinct}
use Rattle.hf_base.specs.Members.{RisesFrom, Rises}
use Rattle.hf_order.proofs.Members.{all_push}
use Rattle.hf_read.specs.Rising.{put_in, by_rising}

-- ---- ids

not_among : (x low : ℕ) (ids : List ℕ) → x ≤ low → RisesFrom ◌<◌ low ids → has_id x ids ≡ false
not_among x low [] le rises = refl
not_among x low (y ∷ ys) le rises =
    let other = ne_eqb y x (λ e. omega (arith, e, rises.0)) in
    let rest = not_among x y ys (omega (arith, rises.0)) rises.1 in
    rw (other, rest) refl

pub distinct_from : (low : ℕ) (ids : List ℕ) → RisesFrom ◌<◌ low ids → are_distinct ids ≡ true
distinct_from low [] rises = refl
distinct_from low (x ∷ xs) rises =
    let here = not_among x x xs (omega arith) rises.1 in
    let rest = distinct_from x xs rises.1 in
    rw (here, rest) refl

pub distinct_rises : (ids : List ℕ) → Rises ◌<◌ ids → are_distinct ids ≡ true
distinct_rises [] rises = refl
distinct_rises (x ∷ xs) rises =
    let here = not_among x x xs (omega arith) rises in
    let rest = distinct_from x xs rises in
    rw (here, rest) refl

pub rises_all : (low : ℕ) (ids : List ℕ) → RisesFrom ◌<◌ low ids → Rises ◌<◌ ids
rises_all low [] rises = tt
rises_all low (x ∷ xs) rises = rises.1

-- the keys of some rise where those of all do
pub some_rise : {A : Type 0} (key : A → ℕ) (test : A → Bool) (low first : ℕ) (xs : List A) → low ≤ first
    → RisesFrom ◌<◌ first (map key xs) → RisesFrom ◌<◌ low (map key (filter test xs))
some_rise key test low first [] le rises = tt
some_rise key test low first (x ∷ xs) le rises =
    elim (cases_Bool (test x)) [
      | inl here ↦ rw here (omega (arith, rises.0), some_rise key test (key x) (key x) xs (omega arith) rises.1)
      | inr not_here ↦ rw not_here (some_rise key test low (key x) xs (omega (arith, rises.0)) rises.1)
    ]

-- ---- entries that stand by rising keys stay where they are

abbrev UpTo : {A : Type 0} → (A → ℕ) → ℕ → List A → Type 0
UpTo {A} key top xs = AllByRecursion (λ (x : A). key x ≤ top) xs

put_last : {A : Type 0} (key : A → ℕ) (x : A) (ys : List A) → UpTo key (key x) ys → put_in key ys x ≡ ys ++ x ∷ []
put_last key x [] below = refl
put_last {A = A} key x (y ∷ ys) below =
    let other = le-ltb (key x) (key y) below.0 in
    rw other (ap (λ (l : List A). y ∷ l) (put_last key x ys below.1))

up_to_more : {A : Type 0} (key : A → ℕ) (low top : ℕ) (xs : List A) → low ≤ top → UpTo key low xs → UpTo key top xs
up_to_more key low top [] le below = tt
up_to_more key low top (x ∷ xs) le below = (omega (arith, le, below.0), up_to_more key low top xs le below.1)

fold_same : {A : Type 0} (key : A → ℕ) (low : ℕ) (earlier xs : List A) → UpTo key low earlier
    → RisesFrom ◌<◌ low (map key xs) → fold (put_in key) earlier xs ≡ earlier ++ xs
fold_same key low earlier [] below rises = sym (append-nil earlier)
fold_same {A = A} key low earlier (x ∷ xs) below rises =
    let top = up_to_more key low (key x) earlier (omega (arith, rises.0)) below in
    ap (λ (l : List A). fold (put_in key) l xs) (put_last key x earlier top)
    ∙ fold_same key (key x) (earlier ++ x ∷ []) xs (all_push (λ (y : A). key y ≤ key x) earlier x top (omega arith)) rises.1
    ∙ append_assoc earlier (x ∷ []) xs

pub rising_same : {A : Type 0} (key : A → ℕ) (xs : List A) → Rises ◌<◌ (map key xs) → by_rising key xs ≡ xs
unfolding by_rising
rising_same key [] rises = refl
rising_same key (x ∷ xs) rises = fold_same key (key x) (x ∷ []) xs (omega arith, tt) rises
