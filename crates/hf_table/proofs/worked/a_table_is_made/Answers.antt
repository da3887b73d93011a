use Rattle.std.proofs.Common.{◌≡◌, ◌<◌, ℕ, zero, suc, [], ◌∷◌, length, take, refl, sym, ap, subst, arith}
use Rattle.std.specs.Prelude.{slice_index}
use Rattle.std.specs.List.{AllZip}
use Rattle.hf_table.specs.Held.{all_props}
use Rattle.hf_table.specs.Numbered.{IsFirst}
use Rattle.hf_table.specs.Table.{table}
use Rattle.hf_table.specs.Worked.{quarter, half, axis, lists}
use Rattle.hf_table.proofs.worked.a_table_is_made.Goals as goal

first-half : IsFirst lists (all_props lists) (0, 0) half
first-half = record { place = refl; there = omega arith; stands = record { props = half ∷ axis ∷ []; at = refl; held = refl } }

first-axis : IsFirst lists (all_props lists) (0, 1) axis
first-axis = record { place = refl; there = omega arith; stands = record { props = half ∷ axis ∷ []; at = refl; held = refl } }

first-quarter : IsFirst lists (all_props lists) (2, 1) quarter
first-quarter = record { place = refl; there = omega arith; stands = record { props = axis ∷ quarter ∷ half ∷ []; at = refl; held = refl } }

begin : (i : ℕ) → i < 3 → slice_index (0 ∷ 2 ∷ 2 ∷ []) i ≡ length (all_props (take i lists))
begin zero h = refl
begin (suc zero) h = refl
begin (suc (suc zero)) h = refl
begin (suc (suc (suc i))) h = absurd (omega arith)

pub returns-clause-table : goal.returns-clause-table
returns-clause-table c t firsts numbers starts = record {
  firsts = subst (λ fs. AllZip (IsFirst lists (all_props lists)) fs (table (all_props lists))) (sym firsts) (first-half, (first-axis, (first-quarter, tt)));
  numbers = numbers;
  count = ap length starts;
  starts = λ i h. subst (λ ss. slice_index ss i ≡ length (all_props (take i lists))) (sym starts) (begin i h);
}
