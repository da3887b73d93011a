-- Members of lists of numbers, as tests tell them, and lists that have the same ones.
use Rattle.std.proofs.Common.{◌≡◌, ℕ, ◌≤◌, ◌<◌, Bool, true, false, ◌||◌, eqb, List, [], ◌∷◌, length, filter, refl, sym, ap, subst, ◌∙◌, arith, inl, inr}
use Rattle.std.proofs.lemmas.Bool.{cases_Bool, eqb-true, eq-eqb}
use Rattle.hf_base.specs.Members.{IsIn, RisesFrom}
use Rattle.hf_table.specs.Held.{is_among}

pub among_in : (x : ℕ) (ids : List ℕ) → is_among ids x ≡ true → IsIn x ids
among_in x [] e = absurd cc
among_in x (y ∷ ys) e = elim (cases_Bool (eqb x y)) [
  | inl t ↦ inl (sym (eqb-true x y t))
  | inr f ↦ inr (among_in x ys (sym (ap (λ (b : Bool). b || is_among ys x) f) ∙ e))
]

pub in_among : (x : ℕ) (ids : List ℕ) → IsIn x ids → is_among ids x ≡ true
in_among x [] h = absurd h
in_among x (y ∷ ys) (inl e) = let t = eq-eqb x y (sym e) in rw t refl
in_among x (y ∷ ys) (inr h) = let t = in_among x ys h in elim (cases_Bool (eqb x y)) [ inl a ↦ rw a refl | inr a ↦ rw (a, t) refl ]

pub not_among : (x : ℕ) (ids : List ℕ) → (IsIn x ids → ⊥) → is_among ids x ≡ false
not_among x ids none = elim (cases_Bool (is_among ids x)) [ inl t ↦ absurd (none (among_in x ids t)) | inr f ↦ f ]

-- ---- members that pass a test

pub passes : {A : Type 0} (test : A → Bool) (xs : List A) (x : A) → IsIn x (filter test xs) → test x ≡ true
passes test [] x h = absurd h
passes {A = A} test (y ∷ ys) x h = elim (cases_Bool (test y)) [
  | inl t ↦
      let kept : IsIn x (y ∷ filter test ys) = rw t at h in
      elim kept [ inl e ↦ ap test (sym e) ∙ t | inr k ↦ passes test ys x k ]
  | inr f ↦ let rest : IsIn x (filter test ys) = rw f at h in passes test ys x rest
]

pub to_filter : {A : Type 0} (test : A → Bool) (xs : List A) (x : A) → test x ≡ true → IsIn x xs → IsIn x (filter test xs)
to_filter test [] x e h = absurd h
to_filter test (y ∷ ys) x e (inl same) = let t : test y ≡ true = ap test same ∙ e in rw t (inl same)
to_filter test (y ∷ ys) x e (inr h) =
    let later = to_filter test ys x e h in
    elim (cases_Bool (test y)) [ inl t ↦ rw t (inr later) | inr f ↦ rw f later ]

pub some_in : {A : Type 0} (x : A) (xs : List A) → IsIn x xs → 0 < length xs
some_in x [] h = absurd h
some_in x (y ∷ ys) h = omega arith

-- ---- lists that rise

pub above : (low x : ℕ) (xs : List ℕ) → RisesFrom ◌<◌ low xs → IsIn x xs → low < x
above low x [] up h = absurd h
above low x (y ∷ ys) up (inl e) = omega (arith, up.0, e)
above low x (y ∷ ys) up (inr h) = omega (arith, up.0, above y x ys up.1 h)

lower : (low first : ℕ) (xs : List ℕ) → low ≤ first → RisesFrom ◌<◌ first xs → RisesFrom ◌<◌ low xs
lower low first [] le up = tt
lower low first (x ∷ xs) le up = (omega (arith, up.0), up.1)

pub filter_rises : (test : ℕ → Bool) (low : ℕ) (xs : List ℕ) → RisesFrom ◌<◌ low xs → RisesFrom ◌<◌ low (filter test xs)
filter_rises test low [] up = tt
filter_rises test low (x ∷ xs) up =
    let later = filter_rises test x xs up.1 in
    elim (cases_Bool (test x)) [ inl t ↦ rw t (up.0, later) | inr f ↦ rw f (lower low x (filter test xs) (omega (arith, up.0)) later) ]

first_least : (x z : ℕ) (xs : List ℕ) → RisesFrom ◌<◌ x xs → IsIn z (x ∷ xs) → x ≤ z
first_least x z xs up (inl e) = omega (arith, e)
first_least x z xs up (inr h) = omega (arith, above x z xs up h)

behind : (x y z : ℕ) (ys : List ℕ) → x ≡ y → x < z → IsIn z (y ∷ ys) → IsIn z ys
behind x y z ys same lt (inl e) = absurd (omega (arith, same, e))
behind x y z ys same lt (inr h) = h

-- two lists that rise and have the same members are one
pub same_members : (low : ℕ) (xs ys : List ℕ) → RisesFrom ◌<◌ low xs → RisesFrom ◌<◌ low ys → ((x : ℕ) → IsIn x xs → IsIn x ys)
    → ((x : ℕ) → IsIn x ys → IsIn x xs)
    → xs ≡ ys
same_members low [] [] up rise there back = refl
same_members low [] (y ∷ ys) up rise there back = absurd (back y (inl refl))
same_members low (x ∷ xs) [] up rise there back = absurd (there x (inl refl))
same_members low (x ∷ xs) (y ∷ ys) up rise there back =
    let least : x ≡ y = omega (arith, first_least y x ys rise.1 (there x (inl refl)), first_least x y xs up.1 (back y (inl refl))) in
    let rest : xs ≡ ys =
    same_members x xs ys up.1 (subst (λ (n : ℕ). RisesFrom ◌<◌ n ys) (sym least) rise.1)
    (λ z h. behind x y z ys least (above x z xs up.1 h) (there z (inr h)))
    (λ z h. behind y x z xs (sym least) (above y z ys rise.1 h) (back z (inr h)))
    in
    ap (λ (l : List ℕ). x ∷ l) rest ∙ ap (λ (n : ℕ). n ∷ ys) least
