-- Ids that a set has, and one more.
use Rattle.std.proofs.Common.{◌≡◌, ℕ, true, ◌||◌, cond, eqb, List, [], ◌∷◌, refl, ◌∙◌, arith, inl, inr}
use Rattle.std.proofs.lemmas.Bool.{cases_Bool}
use Rattle.std.specs.List.{list_any}
use Rattle.std.specs.Ordering.{nat_cmp}
use Rattle.std.specs.BTreeMap.{is_at}
use Rattle.hf_base.specs.Entries.{has_id}

same_test : (other x : ℕ) → eqb x other ≡ is_at (nat_cmp other) x
same_test other x = grind arith

has-is : (other : ℕ) (ids : List ℕ) → has_id other ids ≡ list_any (is_at (nat_cmp other)) ids
has-is other [] = refl
has-is other (x ∷ xs) = rw (same_test other x, has-is other xs) refl

-- the one that was met is there, and the others are as before
pub met_more : (id other : ℕ) (old new : List ℕ) → list_any (is_at (nat_cmp other)) new ≡ cond (is_at (nat_cmp id) other) true (list_any (is_at (nat_cmp other)) old)
    → has_id other new ≡ eqb id other || has_id other old
met_more id other old new h =
    let test : is_at (nat_cmp id) other ≡ eqb id other = grind arith in
    has-is other new ∙ h ∙ rw (test, has-is other old) (elim (cases_Bool (eqb id other)) [ inl t ↦ rw t refl | inr f ↦ rw f refl ])
