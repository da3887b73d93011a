-- What the uses say of the list that they count.
use Rattle.std.proofs.Common.{◌≡◌, ℕ, suc, ◌+◌, Bool, true, false, ◌||◌, cond, List, [], ◌∷◌, ◌++◌}
use Rattle.std.proofs.Common.{length, refl, sym, ap, ◌∙◌, Option, Some, arith, true≢false, zero, zero-add, add-zero, length-append}
use Rattle.std.specs.Prelude.{nat_lt, unwrap_or}
use Rattle.std.specs.List.{list_any, IsDistinct}
use Rattle.std.specs.List.Sorted.{IsPermutation}
use Rattle.std.specs.Map.{keys_of, lookup}
use Rattle.std.specs.Cmp.{IsEquivalence}
use Rattle.std.proofs.lemmas.Bool.{lt-ltb}
use Rattle.std.proofs.lemmas.Map.Entries.{length-keys_of}
use Rattle.std.proofs.lemmas.List.Sums.{sum_by-cons, sum_by-append, sum_by_push, fold_push}
use Rattle.std.proofs.lemmas.List.Sorted.{sum_by-IsPermutation}
use Rattle.hf_prop.specs.declared.prop.Prop.{Prop}
use Rattle.hf_table.specs.Table.{same_prop, with_prop, places_of, table, prop_size, size_sum}
use Rattle.hf_table.specs.Uses.{Use, holders_in, Tallies, IsCount}
use Rattle.hf_table.proofs.Tables.{same_prop-is, same_prop-self}
use Rattle.hf_table.proofs.Alike.{sums_alike, lengths_alike, distinct-insert_all, any-insert_all}

pub same-symm : (p q : Prop) → same_prop p q ≡ same_prop q p
same-symm p q = by (same_prop p q) (same_prop q p) refl refl
  where
    by : (a b : Bool) → same_prop p q ≡ a → same_prop q p ≡ b → same_prop p q ≡ same_prop q p
    by true true e f = e ∙ sym f
    by false false e f = e ∙ sym f
    by true false e f = absurd (true≢false (sym (same_prop-self q) ∙ ap (same_prop q) (sym (same_prop-is p q e)) ∙ f))
    by false true e f = absurd (true≢false (sym (same_prop-self p) ∙ ap (same_prop p) (sym (same_prop-is q p f)) ∙ e))

pub same_equiv : IsEquivalence same_prop
same_equiv = record {
  refl = same_prop-self;
  symm = same-symm;
  congr = λ p q r e. ap (λ s. same_prop s r) (same_prop-is p q e);
}

-- ---- members of a list, and of the uses

count-cons : (p q : Prop) (qs : List Prop) → places_of p (q ∷ qs) ≡ cond (same_prop p q) 1 0 + places_of p qs
count-cons p q qs = sum_by-cons (λ x. cond (same_prop p x) 1 0) q qs

pub places-append : (p : Prop) (ps qs : List Prop) → places_of p (ps ++ qs) ≡ places_of p ps + places_of p qs
places-append p ps qs = sum_by-append (λ x. cond (same_prop p x) 1 0) ps qs

pub places-permuted : (p : Prop) (ps qs : List Prop) → IsPermutation ps qs → places_of p qs ≡ places_of p ps
places-permuted p ps qs h = sum_by-IsPermutation (λ x. cond (same_prop p x) 1 0) ps qs h

above-step : (b x : Bool) (n : ℕ) → x ≡ nat_lt 0 n → b || x ≡ nat_lt 0 (cond b 1 0 + n)
above-step true x n h = sym (lt-ltb 0 (1 + n) (omega arith))
above-step false x n h = h ∙ ap (nat_lt 0) (sym (zero-add n))

pub placed : (p : Prop) (ps : List Prop) → list_any (same_prop p) ps ≡ nat_lt 0 (places_of p ps)
placed p [] = refl
placed p (q ∷ qs) = above-step (same_prop p q) _ (places_of p qs) (placed p qs) ∙ ap (nat_lt 0) (sym (count-cons p q qs))

above-value : (n : ℕ) → (Some n ≡ Some 0 → ⊥) → true ≡ nat_lt 0 n
above-value zero h = absurd (h refl)
above-value (suc n) h = sym (lt-ltb 0 (suc n) (omega arith))

counted-step : (b x : Bool) (n : ℕ) (o : Option ℕ) → (cond b (Some n) o ≡ Some 0 → ⊥) → ((o ≡ Some 0 → ⊥) → x ≡ nat_lt 0 (unwrap_or o 0))
    → b || x ≡ nat_lt 0 (unwrap_or (cond b (Some n) o) 0)
counted-step true x n o h later = above-value n h
counted-step false x n o h later = later h

pub counted : (us : List Use) (p : Prop) → (lookup (same_prop p) us ≡ Some 0 → ⊥) → list_any (same_prop p) (keys_of us) ≡ nat_lt 0 (holders_in us p)
counted [] p h = refl
counted (u ∷ us) p h = counted-step (same_prop p u.0) _ u.1 (lookup (same_prop p) us) h (counted us p)

-- ---- the table

distinct-none : IsDistinct same_prop []
unfolding IsDistinct
distinct-none = tt

pub table-distinct : (ps : List Prop) → IsDistinct same_prop (table ps)
table-distinct ps = distinct-insert_all same_equiv [] ps distinct-none

pub table-any : (q : Prop) (ps : List Prop) → list_any (same_prop q) (table ps) ≡ list_any (same_prop q) ps
table-any q ps = any-insert_all same_equiv q [] ps

table-placed : (q : Prop) (ps : List Prop) → list_any (same_prop q) (table ps) ≡ nat_lt 0 (places_of q ps)
table-placed q ps = table-any q ps ∙ placed q ps

-- the length of the table, and the sum of its sizes, are those of the uses
module _ (us : List Use) (ps : List Prop) (c : IsCount us) (t : Tallies us ps) where
  alike : (q : Prop) → list_any (same_prop q) (keys_of us) ≡ list_any (same_prop q) (table ps)
  alike q = counted us q (c.filled q) ∙ ap (nat_lt 0) (t.each q) ∙ sym (table-placed q ps)

  pub kinds-tallied : length us ≡ length (table ps)
  kinds-tallied = sym (length-keys_of us) ∙ lengths_alike same_equiv same_prop-is (keys_of us) (table ps) c.distinct (table-distinct ps) alike

  pub sizes-tallied : size_sum (keys_of us) ≡ size_sum (table ps)
  sizes-tallied = sums_alike same_equiv same_prop-is prop_size (keys_of us) (table ps) c.distinct (table-distinct ps) alike

-- lists with the same places have tables of one length and one sum of sizes
module _ (ps qs : List Prop) (same : (q : Prop) → places_of q ps ≡ places_of q qs) where
  tables-alike : (q : Prop) → list_any (same_prop q) (table ps) ≡ list_any (same_prop q) (table qs)
  tables-alike q = table-placed q ps ∙ ap (nat_lt 0) (same q) ∙ sym (table-placed q qs)

  pub table-length : length (table ps) ≡ length (table qs)
  table-length = lengths_alike same_equiv same_prop-is (table ps) (table qs) (table-distinct ps) (table-distinct qs) tables-alike

  pub table-sizes : size_sum (table ps) ≡ size_sum (table qs)
  table-sizes = sums_alike same_equiv same_prop-is prop_size (table ps) (table qs) (table-distinct ps) (table-distinct qs) tables-alike

pub table-length-permuted : (ps qs : List Prop) → IsPermutation ps qs → length (table ps) ≡ length (table qs)
table-length-permuted ps qs h = table-length ps qs (λ q. sym (places-permuted q ps qs h))

pub table-sizes-permuted : (ps qs : List Prop) → IsPermutation ps qs → size_sum (table ps) ≡ size_sum (table qs)
table-sizes-permuted ps qs h = table-sizes ps qs (λ q. sym (places-permuted q ps qs h))

-- ---- one place more

push-length : (b : Bool) (ps : List Prop) (p : Prop) → length (cond b ps (ps ++ p ∷ [])) ≡ length ps + cond b 0 1
push-length true ps p = sym (add-zero (length ps))
push-length false ps p = length-append ps (p ∷ [])

pub push-sizes : (b : Bool) (ps : List Prop) (p : Prop) → size_sum (cond b ps (ps ++ p ∷ [])) ≡ size_sum ps + cond b 0 (prop_size p)
push-sizes true ps p = sym (add-zero (size_sum ps))
push-sizes false ps p = sum_by_push prop_size ps p

module _ (p : Prop) (before after : List Prop) where
  moved : (q : Prop) → places_of q (before ++ p ∷ after) ≡ places_of q ((before ++ after) ++ p ∷ [])
  moved q =
      places-append q before (p ∷ after) ∙ ap (λ n. places_of q before + n) (count-cons q p after)
      ∙ turned (places_of q before) (cond (same_prop q p) 1 0) (places_of q after)
      ∙ sym (places-append q (before ++ after) (p ∷ []) ∙ ap (λ n. n + places_of q (p ∷ [])) (places-append q before after)
      ∙ ap (λ n. (places_of q before + places_of q after) + n) (count-cons q p []))
    where
      turned : (a b c : ℕ) → a + (b + c) ≡ (a + c) + (b + 0)
      turned a b c = omega arith

  -- one place more makes the table longer by one, or not at all
  pub table-length-more : length (table (before ++ p ∷ after)) ≡ length (table (before ++ after)) + cond (list_any (same_prop p) (before ++ after)) 0 1
  table-length-more =
      table-length (before ++ p ∷ after) ((before ++ after) ++ p ∷ []) moved
      ∙ ap length (fold_push with_prop [] (before ++ after) p)
      ∙ push-length (list_any (same_prop p) (table (before ++ after))) (table (before ++ after)) p
      ∙ ap (λ b. length (table (before ++ after)) + cond b 0 1) (table-any p (before ++ after))

  pub table-sizes-more : size_sum (table (before ++ p ∷ after))
      ≡ size_sum (table (before ++ after)) + cond (list_any (same_prop p) (before ++ after)) 0 (prop_size p)
  table-sizes-more =
      table-sizes (before ++ p ∷ after) ((before ++ after) ++ p ∷ []) moved
      ∙ ap size_sum (fold_push with_prop [] (before ++ after) p)
      ∙ push-sizes (list_any (same_prop p) (table (before ++ after))) (table (before ++ after)) p
      ∙ ap (λ b. size_sum (table (before ++ after)) + cond b 0 (prop_size p)) (table-any p (before ++ after))
