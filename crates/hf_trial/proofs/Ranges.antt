-- Numbers that follow each other, and what is made of them.
use Rattle.std.proofs.Common.{◌≡◌, ℕ, zero, suc, ◌+◌, ◌-◌, ◌<◌, ◌≤◌, List, [], ◌∷◌, ◌++◌, refl, ap, ◌∙◌, arith, inl, inr}
use Rattle.std.specs.List.{AllByRecursion, flat_map, range_with_len}
use Rattle.std.proofs.lemmas.List.{append-nil}
use Rattle.std.proofs.lemmas.Grind.{flat_map-append}
use Rattle.hf_base.specs.Members.{IsIn, RisesFrom}

pub range-more : (a n m j : ℕ) → m ≡ n + 1 → j ≡ a + n → range_with_len a m ≡ range_with_len a n ++ j ∷ []
range-more a zero m j e f = let m_is : m ≡ 1 = omega arith in let j_is : j ≡ a = omega arith in rw (m_is, j_is) refl
range-more a (suc n) m j e f =
    let m_is : m ≡ suc (n + 1) = omega arith in
    rw m_is (ap (λ (xs : List ℕ). a ∷ xs) (range-more (a + 1) n (n + 1) j refl (omega arith)))

pub flat_map-more : (f : ℕ → List ℕ) (n : ℕ) → flat_map f (range_with_len 1 (n + 1)) ≡ flat_map f (range_with_len 1 n) ++ f (n + 1)
flat_map-more f n =
    ap (λ (xs : List ℕ). flat_map f xs) (range-more 1 n (n + 1) (n + 1) refl (omega arith))
    ∙ flat_map-append f (range_with_len 1 n) ((n + 1) ∷ [])
    ∙ ap (λ (xs : List ℕ). flat_map f (range_with_len 1 n) ++ xs) (append-nil (f (n + 1)))

pub flat_map-first : (f : ℕ → List ℕ) (a n : ℕ) → 0 < n → flat_map f (range_with_len a n) ≡ f a ++ flat_map f (range_with_len (a + 1) (n - 1))
flat_map-first f a n some = let n_is : n ≡ suc (n - 1) = omega arith in ap (λ (k : ℕ). flat_map f (range_with_len a k)) n_is

-- two greater ones behind them
pub rises-on : (low a n x y : ℕ) → low < a → a + n ≤ x → low < x → x < y → RisesFrom ◌<◌ low (range_with_len a n ++ x ∷ y ∷ [])
rises-on low a zero x y first before above later = (above, (later, tt))
rises-on low a (suc n) x y first before above later = (first, rises-on a (a + 1) n x y (omega arith) (omega arith) (omega arith) later)

in_more : (y : ℕ) (xs ys : List ℕ) → AllByRecursion (λ x. IsIn x ys) xs → AllByRecursion (λ x. IsIn x (y ∷ ys)) xs
in_more y [] ys there = tt
in_more y (x ∷ xs) ys there = (inr there.0, in_more y xs ys there.1)

-- each element of a list is in it
pub all_in : (xs ys : List ℕ) → AllByRecursion (λ x. IsIn x (xs ++ ys)) xs
all_in [] ys = tt
all_in (x ∷ xs) ys = (inl refl, in_more x xs (xs ++ ys) (all_in xs ys))
