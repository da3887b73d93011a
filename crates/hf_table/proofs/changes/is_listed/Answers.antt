use Rattle.std.proofs.Common.{◌≡◌, ◌<◌, ◌≤◌, ◌∙◌, ℕ, List, length, get_or, nat_eq, is_ok, sym, false, arith, Result, Ok, Err}
use Rattle.std.specs.Prelude.{MatchResult}
use Rattle.std.specs.List.{list_any}
use Rattle.std.proofs.lemmas.Bool.{eq-eqb, ne_eqb, cases_lt}
use Rattle.std.proofs.Common.{inl, inr}
use Rattle.std.proofs.lemmas.List.Elements.{All-from_get_or}
use Rattle.std.proofs.lemmas.List.Folds.{list_any_at, list_any_none}
use Rattle.std.proofs.lemmas.List.Sorted.{searched}
use Rattle.std.proofs.lemmas.Map.Keys.{sorted_from_strictly_increasing, non_decreasing_from_sorted}
use Rattle.hf_table.proofs.changes.is_listed.Goals as goal

answered : (ids : List ℕ) (id : ℕ) (r : Result ℕ ℕ)
    → MatchResult r (λ i. (i < length ids) × (get_or ids i 0 ≡ id))
    (λ i. (i ≤ length ids) × ((k : ℕ) → k < i → get_or ids k 0 < id) × ((k : ℕ) → i ≤ k → k < length ids → id < get_or ids k 0))
    → is_ok r ≡ list_any (nat_eq id) ids
answered ids id (Ok i) h = sym (list_any_at (nat_eq id) ids i 0 h.0 (eq-eqb id (get_or ids i 0) (sym h.1)))
answered ids id (Err i) h =
    sym (list_any_none (nat_eq id) ids (All-from_get_or (λ x. nat_eq id x ≡ false) ids 0 (λ k within. ne_eqb id (get_or ids k 0) (λ e. apart k within e))))
  where
    apart : (k : ℕ) → k < length ids → id ≡ get_or ids k 0 → ⊥
    apart k within e =
        elim (cases_lt k i) [ inl low ↦ (let x = h.1 k low in absurd (omega arith)) | inr high ↦ (let x = h.2 k high within in absurd (omega arith)) ]

pub returns : goal.returns
returns c up =
    let rises = non_decreasing_from_sorted c.args.ids.now (sorted_from_strictly_increasing c.args.ids.now up) in
    c.is_ok.ensures.value
    ∙ answered c.args.ids.now c.args.id c.binary_search.result
    (searched c.args.ids.now c.args.id c.binary_search.result c.binary_search.ensures.position (λ i j h g. rises i j 0 h g))
