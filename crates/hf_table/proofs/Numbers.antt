-- Numbers of properties in a table that grows.
use Rattle.std.proofs.Common.{◌≡◌, ℕ, suc, ◌+◌, ◌<◌, List, [], ◌∷◌, ◌++◌, length, map, refl, sym, ap, arith, cond, true, false, Bool, not, ◌||◌, true≢false}
use Rattle.std.specs.List.{list_any, position_or_len, AllZip, slice_get}
use Rattle.std.proofs.Common.{Option, Some, None, subst, zero}
use Rattle.std.proofs.lemmas.Bool.{or_right}
use Rattle.hf_prop.specs.declared.prop.Prop.{Prop}
use Rattle.hf_table.specs.Table.{same_prop, number_of, with_prop}
use Rattle.hf_table.proofs.Tables.{same_prop-self}

-- ---- the first place in a list that grows at its end
grow-step : (b : Bool) (m n l : ℕ) → (m < l → n ≡ m) → cond (not b) (1 + m) 0 < suc l → cond (not b) (1 + n) 0 ≡ cond (not b) (1 + m) 0
grow-step true m n l f h = refl
grow-step false m n l f h = ap (λ k. 1 + k) (f (omega arith))

pub position-grow : {X : Type 0} (t : X → Bool) (xs ys : List X) → position_or_len t xs < length xs → position_or_len t (xs ++ ys) ≡ position_or_len t xs
position-grow t [] ys h = absurd (omega arith)
position-grow t (x ∷ xs) ys h = grow-step (t x) (position_or_len t xs) (position_or_len t (xs ++ ys)) (length xs) (position-grow t xs ys) h

end-step : (b o : Bool) (m l : ℕ) → b || o ≡ false → (o ≡ false → m ≡ l) → cond (not b) (1 + m) 0 ≡ suc l
end-step true o m l n f = absurd (true≢false n)
end-step false o m l n f = let e = f n in omega arith

pub position-end : {X : Type 0} (t : X → Bool) (xs : List X) (x : X) → list_any t xs ≡ false → t x ≡ true → position_or_len t (xs ++ x ∷ []) ≡ length xs
position-end t [] x n y = ap (λ b. cond (not b) (1 + 0) 0) y
position-end t (z ∷ zs) x n y = end-step (t z) (list_any t zs) (position_or_len t (zs ++ x ∷ [])) (length zs) n (λ e. position-end t zs x e y)

-- ---- the number of a property
kept-step : (b o : Bool) (m n : ℕ) → b || o ≡ true → (o ≡ true → m ≡ n) → cond b 1 (suc m) ≡ cond b 1 (suc n)
kept-step true o m n h f = refl
kept-step false o m n h f = ap suc (f h)

pub number-grow : (p : Prop) (qs rs : List Prop) → list_any (same_prop p) qs ≡ true → number_of p (qs ++ rs) ≡ number_of p qs
number-grow p [] rs h = absurd (true≢false (sym h))
number-grow p (q ∷ qs) rs h = kept-step (same_prop p q) (list_any (same_prop p) qs) (number_of p (qs ++ rs)) (number_of p qs) h (number-grow p qs rs)

there-step : (b o : Bool) (m n : ℕ) → b || o ≡ true → (o ≡ true → m ≡ n + 1) → cond b 1 (suc m) ≡ cond (not b) (1 + n) 0 + 1
there-step true o m n h f = refl
there-step false o m n h f = let e = f h in omega arith

pub number-there : (p : Prop) (qs : List Prop) → list_any (same_prop p) qs ≡ true → number_of p qs ≡ position_or_len (same_prop p) qs + 1
number-there p [] h = absurd (true≢false (sym h))
number-there p (q ∷ qs) h = there-step (same_prop p q) (list_any (same_prop p) qs) (number_of p qs) (position_or_len (same_prop p) qs) h (number-there p qs)

last-step : (b o : Bool) (m n : ℕ) → b || o ≡ false → (o ≡ false → m ≡ n + 1) → cond b 1 (suc m) ≡ cond (not b) (1 + n) 0 + 1
last-step true o m n h f = absurd (true≢false h)
last-step false o m n h f = let e = f h in omega arith

pub number-last : (p : Prop) (qs : List Prop) → list_any (same_prop p) qs ≡ false → number_of p (qs ++ p ∷ []) ≡ position_or_len (same_prop p) qs + 1
number-last p [] h = ap (λ b. cond b 1 (suc 0)) (same_prop-self p)
number-last p (q ∷ qs) h =
    last-step (same_prop p q) (list_any (same_prop p) qs) (number_of p (qs ++ p ∷ [])) (position_or_len (same_prop p) qs) h (number-last p qs)

-- the number that a property gets where it comes
pub number-comes : (p : Prop) (qs : List Prop) → number_of p (with_prop qs p) ≡ position_or_len (same_prop p) qs + 1
number-comes p qs = by (list_any (same_prop p) qs) refl
  where
    by : (b : Bool) → list_any (same_prop p) qs ≡ b → number_of p (cond b qs (qs ++ p ∷ [])) ≡ position_or_len (same_prop p) qs + 1
    by true e = number-there p qs e
    by false e = number-last p qs e

-- the numbers of those that are there stay
numbers-grow : (ps qs rs : List Prop) → ((p : Prop) → list_any (same_prop p) ps ≡ true → list_any (same_prop p) qs ≡ true)
    → map (λ p. number_of p (qs ++ rs)) ps ≡ map (λ p. number_of p qs) ps
numbers-grow [] qs rs h = refl
numbers-grow (p ∷ ps) qs rs h =
    let one = number-grow p qs rs (h p (ap (λ b. b || list_any (same_prop p) ps) (same_prop-self p))) in
    let more = numbers-grow ps qs rs (λ r e. h r (or_right (same_prop r p) (list_any (same_prop r) ps) e)) in
    (λ j. one j ∷ more j)

pub numbers-stay : (ps qs : List Prop) (p : Prop) → ((r : Prop) → list_any (same_prop r) ps ≡ true → list_any (same_prop r) qs ≡ true)
    → map (λ r. number_of r (with_prop qs p)) ps ≡ map (λ r. number_of r qs) ps
numbers-stay ps qs p h =
    elim (list_any (same_prop p) qs) as (λ b. map (λ r. number_of r (cond b qs (qs ++ p ∷ []))) ps ≡ map (λ r. number_of r qs) ps) [
      | true ↦ refl
      | false ↦ numbers-grow ps qs (p ∷ []) h
    ]

pub zip-weaker : {A B : Type 0} (R S : A → B → Type 0) → ((x : A) (y : B) → R x y → S x y) → (xs : List A) (ys : List B) → AllZip R xs ys → AllZip S xs ys
zip-weaker R S f [] [] h = h
zip-weaker R S f [] (y ∷ ys) h = absurd h
zip-weaker R S f (x ∷ xs) [] h = absurd h
zip-weaker R S f (x ∷ xs) (y ∷ ys) h = (f x y h.0, zip-weaker R S f xs ys h.1)

pub zip-push : {A B : Type 0} (R : A → B → Type 0) (xs : List A) (ys : List B) (x : A) (y : B) → AllZip R xs ys → R x y → AllZip R (xs ++ x ∷ []) (ys ++ y ∷ [])
zip-push R [] [] x y h r = (r, tt)
zip-push R [] (v ∷ ys) x y h r = absurd h
zip-push R (u ∷ xs) [] x y h r = absurd h
zip-push R (u ∷ xs) (v ∷ ys) x y h r = (h.0, zip-push R xs ys x y h.1 r)

pub zip-length : {A B : Type 0} (R : A → B → Type 0) (xs : List A) (ys : List B) → AllZip R xs ys → length xs ≡ length ys
zip-length R [] [] h = refl
zip-length R [] (y ∷ ys) h = absurd h
zip-length R (x ∷ xs) [] h = absurd h
zip-length R (x ∷ xs) (y ∷ ys) h = ap suc (zip-length R xs ys h.1)

pub zip-at : {A B : Type 0} (R : A → B → Type 0) (xs : List A) (ys : List B) (k : ℕ) (x : A) (y : B) → AllZip R xs ys → slice_get xs k ≡ Some x
    → slice_get ys k ≡ Some y → R x y
zip-at R [] [] k x y h a b = absurd (none-some x a)
  where
    none-some : {C : Type 0} (c : C) → ◌≡◌ {A = Option C} None (Some c) → ⊥
    none-some c e = cc
zip-at R [] (v ∷ ys) k x y h a b = absurd h
zip-at R (u ∷ xs) [] k x y h a b = absurd h
zip-at R (u ∷ xs) (v ∷ ys) zero x y h a b = let e : u ≡ x = cc in let f : v ≡ y = cc in subst (R x) f (subst (λ w. R w v) e h.0)
zip-at R (u ∷ xs) (v ∷ ys) (suc k) x y h a b = zip-at R xs ys k x y h.1 a b
