use Rattle.std.proofs.Common.{zero, suc, ◌-◌, [], ◌∷◌, refl, inl, inr}
use Rattle.hf_store.specs.Derived.{IsEndless}
use Rattle.hf_worked.specs.WorkedDerived.{there_and_back}
use Rattle.hf_store.proofs.Ends.{ends}
use Rattle.hf_worked.proofs.derived.walks_end.Goals as goal

goes_on : IsEndless ((1, 2) ∷ (2, 1) ∷ []) there_and_back
goes_on zero = inl refl
goes_on (suc zero) = inr (inl refl)
goes_on (suc (suc n)) = goes_on n

pub returns : goal.returns
returns c = record {
  endless = goes_on;
  only_on = ends (λ n. 3 - n) ((1, 2) ∷ (2, 3) ∷ []) refl;
  other_pairs = ends (λ n. 3 - n) ((1, 2) ∷ []) refl there_and_back;
}
