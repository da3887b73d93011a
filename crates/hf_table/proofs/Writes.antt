-- What the calls of the map do to the uses.
use Rattle.std.proofs.Common.{◌≡◌, ℕ, ◌+◌, ◌<◌, ◌≤◌, [], ◌∷◌, sym, ap, ◌∙◌, Option, Some, None, arith, is_some, cond}
use Rattle.std.specs.Prelude.{unwrap_or}
use Rattle.std.specs.Map.{keys_of, lookup}
use Rattle.indexmap.specs.IndexMap.{IndexMap, IsUnique, WritesThrough, UpdatesBy}
use Rattle.std.proofs.lemmas.Map.Steps.{set_value_same}
use Rattle.hf_prop.specs.declared.prop.Prop.{Prop}
use Rattle.hf_table.specs.Table.{same_prop, prop_size, size_sum}
use Rattle.hf_table.specs.Uses.{holders_in, Gains, IsCount, KeepsKinds}
use Rattle.hf_table.proofs.Sets.{Sets, sets-gains, sets-loses, sets-count, sets-sizes, gone-sizes}

not-zero : (n : ℕ) → 0 < n → Some n ≡ Some 0 → ⊥
not-zero n h e = let z : n ≡ 0 = ap (λ o. unwrap_or o 0) e in absurd (omega arith)

none-zero : ◌≡◌ {A = Option ℕ} None (Some 0) → ⊥
none-zero e = cc

-- a number that is written through `get_mut`
module _ {S : Type 0} (m n : IndexMap Prop ℕ S) (p : Prop) (v w : ℕ)
    (h : WritesThrough same_prop (same_prop p) m w n) (there : Some v ≡ lookup (same_prop p) m.entries) where
  written-sets : Sets m.entries p (Some w) n.entries
  written-sets = record { each = (h.3 (ap is_some (sym there))).0 }

  pub written-gains : w ≡ v + 1 → Gains m.entries (p ∷ []) n.entries
  written-gains e = sets-gains m.entries p (Some w) n.entries written-sets (e ∙ ap (λ o. unwrap_or o 0 + 1) there)

  pub written-loses : v ≡ w + 1 → Gains n.entries (p ∷ []) m.entries
  written-loses e = sets-loses m.entries p (Some w) n.entries written-sets (sym (ap (λ o. unwrap_or o 0) there) ∙ e)

  pub written-keeps : 0 < w → KeepsKinds m.entries n.entries
  written-keeps few = record {
    keys = h.1;
    count = λ c. sets-count m.entries p (Some w) n.entries written-sets c (not-zero w few) h.4;
  }

-- a number that is written back as it was
pub written-same : {S : Type 0} (m n : IndexMap Prop ℕ S) (p : Prop) (v : ℕ) → WritesThrough same_prop (same_prop p) m v n
    → Some v ≡ lookup (same_prop p) m.entries → n.entries ≡ m.entries
written-same m n p v h there = h.0 ∙ set_value_same (same_prop p) m.entries v (sym there)

-- a property that comes
module _ {S : Type 0} (m n : IndexMap Prop ℕ S) (p : Prop)
    (h : UpdatesBy same_prop (same_prop p) m n (Some 1)) (u : IsUnique same_prop n) (absent : lookup (same_prop p) m.entries ≡ None) where
  come-sets : Sets m.entries p (Some 1) n.entries
  come-sets = record { each = h.0 }

  pub come-gains : Gains m.entries (p ∷ []) n.entries
  come-gains = sets-gains m.entries p (Some 1) n.entries come-sets (ap (λ o. unwrap_or o 0 + 1) (sym absent))

  pub come-count : IsCount m.entries → IsCount n.entries
  come-count c = sets-count m.entries p (Some 1) n.entries come-sets c (not-zero 1 (omega arith)) u

  pub come-sizes : IsCount m.entries → size_sum (keys_of n.entries) ≡ size_sum (keys_of m.entries) + prop_size p
  come-sizes c = sets-sizes m.entries p 1 n.entries come-sets c.distinct u ∙ ap (λ o. size_sum (keys_of m.entries) + cond (is_some o) 0 (prop_size p)) absent

-- a property that goes
one-left : (o : Option ℕ) → unwrap_or o 0 ≤ 1 → 0 < unwrap_or o 0 → o ≡ Some 1
one-left None few some = absurd (omega arith)
one-left (Some n) few some = let e : n ≡ 1 = omega arith in ap Some e

module _ {S : Type 0} (m n : IndexMap Prop ℕ S) (p : Prop) (h : UpdatesBy same_prop (same_prop p) m n None) (u : IsUnique same_prop n)
    (few : holders_in m.entries p ≤ 1) (some : 0 < holders_in m.entries p) where
  was-one : lookup (same_prop p) m.entries ≡ Some 1
  was-one = one-left (lookup (same_prop p) m.entries) few some

  gone-sets : Sets m.entries p None n.entries
  gone-sets = record { each = h.0 }

  pub gone-loses : Gains n.entries (p ∷ []) m.entries
  gone-loses = sets-loses m.entries p None n.entries gone-sets (ap (λ o. unwrap_or o 0) was-one)

  pub gone-count : IsCount m.entries → IsCount n.entries
  gone-count c = sets-count m.entries p None n.entries gone-sets c none-zero u

  pub gone-size : IsCount m.entries → size_sum (keys_of m.entries) ≡ size_sum (keys_of n.entries) + prop_size p
  gone-size c = gone-sizes m.entries p 1 n.entries gone-sets was-one c.distinct u
