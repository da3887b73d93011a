-- One property gets another number of places, and each other one keeps its own.
use Rattle.std.proofs.Common.{◌≡◌, ℕ, ◌+◌, Bool, true, false, ◌||◌, cond, List, [], ◌∷◌, refl, sym, ap, ◌∙◌, Option, Some, None, add-zero, is_some}
use Rattle.std.specs.Prelude.{unwrap_or}
use Rattle.std.specs.List.{list_any, IsDistinct}
use Rattle.std.specs.Map.{keys_of, lookup}
use Rattle.indexmap.specs.IndexSet.{insert_key}
use Rattle.hf_prop.specs.declared.prop.Prop.{Prop}
use Rattle.hf_table.specs.Table.{same_prop, prop_size, size_sum}
use Rattle.hf_table.specs.Uses.{Use, holders_in, Gains, IsCount}
use Rattle.hf_table.proofs.Tables.{same_prop-is, same_prop-self}
use Rattle.hf_table.proofs.Alike.{sums_alike, distinct-insert, any-insert}
use Rattle.hf_table.proofs.Tally.{same_equiv, same-symm, push-sizes}

any-looked : (test : Prop → Bool) (us : List Use) → list_any test (keys_of us) ≡ is_some (lookup test us)
any-looked test [] = refl
any-looked test (u ∷ us) =
    elim (test u.0) as (λ b. b || list_any test (keys_of us) ≡ is_some (cond b (Some u.1) (lookup test us))) [
      | true ↦ refl
      | false ↦ any-looked test us
    ]

looked-same : (us : List Use) (p q : Prop) → same_prop p q ≡ true → lookup (same_prop q) us ≡ lookup (same_prop p) us
looked-same us p q e = ap (λ r. lookup (same_prop r) us) (sym (same_prop-is p q e))

some-or : (b : Bool) (n : ℕ) (o : Option ℕ) → is_some (cond b (Some n) o) ≡ is_some o || b
some-or true n None = refl
some-or true n (Some m) = refl
some-or false n None = refl
some-or false n (Some m) = refl

-- new has o at p, and at each other property what us has
pub record Sets (us : List Use) (p : Prop) (o : Option ℕ) (new : List Use) : Type 0 where
  pub each : (q : Prop) → lookup (same_prop q) new ≡ cond (same_prop p q) o (lookup (same_prop q) us)

up-step : (us : List Use) (p q : Prop) (o : Option ℕ) → unwrap_or o 0 ≡ holders_in us p + 1 → (b : Bool) → same_prop p q ≡ b
    → unwrap_or (cond b o (lookup (same_prop q) us)) 0 ≡ holders_in us q + (0 + cond b 1 0)
up-step us p q o h true e = h ∙ ap (λ r. unwrap_or r 0 + 1) (sym (looked-same us p q e))
up-step us p q o h false e = sym (add-zero (holders_in us q))

down-step : (us : List Use) (p q : Prop) (o : Option ℕ) → holders_in us p ≡ unwrap_or o 0 + 1 → (b : Bool) → same_prop p q ≡ b
    → holders_in us q ≡ unwrap_or (cond b o (lookup (same_prop q) us)) 0 + (0 + cond b 1 0)
down-step us p q o h true e = ap (λ r. unwrap_or r 0) (looked-same us p q e) ∙ h
down-step us p q o h false e = sym (add-zero (holders_in us q))

filled-step : (us : List Use) (p q : Prop) (o : Option ℕ) → ((r : Prop) → lookup (same_prop r) us ≡ Some 0 → ⊥) → (o ≡ Some 0 → ⊥) → (b : Bool)
    → cond b o (lookup (same_prop q) us) ≡ Some 0 → ⊥
filled-step us p q o f g true h = g h
filled-step us p q o f g false h = f q h

module _ (us : List Use) (p : Prop) (o : Option ℕ) (new : List Use) (sets : Sets us p o new) where
  pub sets-gains : unwrap_or o 0 ≡ holders_in us p + 1 → Gains us (p ∷ []) new
  sets-gains h = record {
    each = λ q. ap (λ r. unwrap_or r 0) (sets.each q) ∙ up-step us p q o h (same_prop p q) refl ∙ ap (λ b. holders_in us q + (0 + cond b 1 0)) (same-symm p q);
  }

  pub sets-loses : holders_in us p ≡ unwrap_or o 0 + 1 → Gains new (p ∷ []) us
  sets-loses h = record {
    each = λ q. down-step us p q o h (same_prop p q) refl
        ∙ ap (λ b. unwrap_or (cond (same_prop p q) o (lookup (same_prop q) us)) 0 + (0 + cond b 1 0)) (same-symm p q)
        ∙ ap (λ r. unwrap_or r 0 + (0 + cond (same_prop q p) 1 0)) (sym (sets.each q));
  }

  pub sets-count : IsCount us → (o ≡ Some 0 → ⊥) → IsDistinct same_prop (keys_of new) → IsCount new
  sets-count c g d = record {
    distinct = d;
    filled = λ q h. filled-step us p q o c.filled g (same_prop p q) (sym (sets.each q) ∙ h);
  }

module _ (us : List Use) (p : Prop) (n : ℕ) (new : List Use) (sets : Sets us p (Some n) new)
    (du : IsDistinct same_prop (keys_of us)) (dn : IsDistinct same_prop (keys_of new)) where
  -- a property that gets a number is among the keys
  pub sets-sizes : size_sum (keys_of new) ≡ size_sum (keys_of us) + cond (is_some (lookup (same_prop p) us)) 0 (prop_size p)
  sets-sizes =
      sums_alike same_equiv same_prop-is prop_size (keys_of new) (insert_key same_prop (keys_of us) p) dn (distinct-insert same_equiv (keys_of us) p du)
      (λ q. any-looked (same_prop q) new ∙ ap is_some (sets.each q) ∙ some-or (same_prop p q) n (lookup (same_prop q) us)
      ∙ ap (λ b. is_some (lookup (same_prop q) us) || b) (same-symm p q) ∙ ap (λ b. b || same_prop q p) (sym (any-looked (same_prop q) us))
      ∙ sym (any-insert same_equiv q (keys_of us) p))
      ∙ push-sizes (list_any (same_prop p) (keys_of us)) (keys_of us) p
      ∙ ap (λ b. size_sum (keys_of us) + cond b 0 (prop_size p)) (any-looked (same_prop p) us)

back-step : (us new : List Use) (p q : Prop) (n : ℕ) → lookup (same_prop p) us ≡ Some n → (b : Bool) → same_prop p q ≡ b
    → lookup (same_prop q) new ≡ cond b None (lookup (same_prop q) us)
    → lookup (same_prop q) us ≡ cond b (Some n) (lookup (same_prop q) new)
back-step us new p q n h true e f = looked-same us p q e ∙ h
back-step us new p q n h false e f = sym f

-- a property that goes takes its size along
pub gone-sizes : (us : List Use) (p : Prop) (n : ℕ) (new : List Use) → Sets us p None new → lookup (same_prop p) us ≡ Some n
    → IsDistinct same_prop (keys_of us) → IsDistinct same_prop (keys_of new) → size_sum (keys_of us) ≡ size_sum (keys_of new) + prop_size p
gone-sizes us p n new sets h du dn =
    let back : Sets new p (Some n) us = record { each = λ q. back-step us new p q n h (same_prop p q) refl (sets.each q) } in
    let gone : lookup (same_prop p) new ≡ None = sets.each p ∙ ap (λ b. cond b None (lookup (same_prop p) us)) (same_prop-self p) in
    sets-sizes new p n us back dn du ∙ ap (λ o. size_sum (keys_of new) + cond (is_some o) 0 (prop_size p)) gone
