-- Nodes with nothing left.
use Rattle.std.proofs.Common.{◌≡◌, ◌↔◌, ℕ, ◌+◌, ◌<◌, ltb, List, [], ◌∷◌, ◌++◌, length, take, get_or, set, count_by, refl, sym, ap, subst, ◌∙◌, arith, inl, inr}
use Rattle.std.proofs.lemmas.Bool.{cases_eq, lt-ltb}
use Rattle.std.proofs.lemmas.List.{take_all, length_push, length-set, get_or-set_same, get_or-set_other}
use Rattle.std.proofs.lemmas.List.Sums.{sum_by_more, sum_by-set}
use Rattle.hf_base.specs.Members.{IsIn}
use Rattle.hf_order.specs.Waiting.{AreReady}
use Rattle.hf_order.proofs.Counts.{one_if}
use Rattle.hf_order.proofs.Members.{in_at, in_front, in_back, in_joined, each_push}

-- how many of these numbers are not 0
abbrev some : List ℕ → ℕ
some xs = count_by (λ (n : ℕ). ltb 0 n) xs

-- one member more
in_more : (a : ℕ) (nodes : List ℕ) (n : ℕ) (P : Type 0) → (a ≡ n → ⊥) → IsIn a nodes ↔ P → IsIn a (nodes ++ n ∷ []) ↔ P
in_more a nodes n P other iff = (
  (λ h. elim (in_joined a nodes (n ∷ []) h) [ inl old ↦ iff.0 old | inr new ↦ elim new [ inl e ↦ absurd (other (sym e)) | inr none ↦ absurd none ] ]),
  (λ p. in_front a nodes (n ∷ []) (iff.1 p)),
)

-- ---- the first nodes of a list of what is left

pub ready_none : (left : List ℕ) → AreReady 0 left []
ready_none left = record {
  within = λ k less. absurd (omega arith);
  distinct = λ k less. absurd (omega arith);
  zero = λ a less. absurd (omega arith);
  rest = refl;
}

below : (limit : ℕ) (left nodes : List ℕ) (a : ℕ) → AreReady limit left nodes → IsIn a nodes → a < limit
below limit left nodes a r h = let at = in_at a nodes h in subst (λ (n : ℕ). n < limit) at.2 (r.within at.0 at.1)

pub ready_joins : (i : ℕ) (left nodes : List ℕ) → i < length left → get_or left i 0 ≡ 0 → AreReady i left nodes → AreReady (i + 1) left (nodes ++ i ∷ [])
ready_joins i left nodes less none r =
    let more = sum_by_more (λ (n : ℕ). one_if (ltb 0 n)) left i 0 less in
    let no : one_if (ltb 0 (get_or left i 0)) ≡ 0 = rw none refl in
    record {
      within = each_push (λ (n : ℕ) (before : List ℕ). n < i + 1) nodes i (λ k h. let l = r.within k h in omega arith) (omega arith);
      distinct = each_push (λ (n : ℕ) (before : List ℕ). ¬ IsIn n before) nodes i r.distinct (λ h. let l = below i left nodes i r h in omega arith);
      zero = λ a h. elim (cases_eq a i) [
        | inl e ↦ ((λ _. ap (λ (n : ℕ). get_or left n 0) e ∙ none), (λ _. in_back a nodes (i ∷ []) (inl (sym e))))
        | inr ne ↦ in_more a nodes i (get_or left a 0 ≡ 0) ne (r.zero a (omega arith))
      ];
      rest = let old = r.rest in omega (arith, old, more, no, length_push nodes i);
    }

pub ready_skips : (i : ℕ) (left nodes : List ℕ) → i < length left → 0 < get_or left i 0 → AreReady i left nodes → AreReady (i + 1) left nodes
ready_skips i left nodes less has r =
    let more = sum_by_more (λ (n : ℕ). one_if (ltb 0 n)) left i 0 less in
    let yes : one_if (ltb 0 (get_or left i 0)) ≡ 1 = let t = lt-ltb 0 (get_or left i 0) has in rw t refl in
    record {
      within = λ k h. let l = r.within k h in omega arith;
      distinct = r.distinct;
      zero = λ a h. elim (cases_eq a i) [
        | inl e ↦ (
          (λ k. let l = below i left nodes a r k in absurd (omega arith)),
          (λ z. let y : get_or left i 0 ≡ 0 = ap (λ (n : ℕ). get_or left n 0) (sym e) ∙ z in absurd (omega arith)),
        )
        | inr ne ↦ r.zero a (omega arith)
      ];
      rest = let old = r.rest in omega (arith, old, more, yes);
    }

-- ---- one thing less that a node needs

positive : (n : ℕ) → 0 < n → one_if (ltb 0 n) ≡ 1
positive n h = let t = lt-ltb 0 n h in rw t refl

-- the numbers that are not 0, after a write
some_set : (left : List ℕ) (a v : ℕ) → a < length left → 0 < get_or left a 0 → some (take (length left) (set left a v)) + 1 ≡ some (take (length left) left) + one_if (ltb 0 v)
some_set left a v less has =
    let whole : take (length left) left ≡ left = take_all (length left) left (omega arith) in
    let set_whole : take (length left) (set left a v) ≡ set left a v = take_all (length left) (set left a v) (omega (arith, length-set left a v)) in
    let sums = sum_by-set (λ (n : ℕ). one_if (ltb 0 n)) left a v 0 less in
    omega (arith, ap some whole, ap some set_whole, sums, positive (get_or left a 0) has)

pub ready_last : (left order : List ℕ) (a : ℕ) → a < length left → get_or left a 0 ≡ 1 → AreReady (length left) left order → AreReady (length (set left a 0)) (set left a 0) (order ++ a ∷ [])
ready_last left order a less one r =
    let size : length (set left a 0) ≡ length left = length-set left a 0 in
    let sums = some_set left a 0 less (omega arith) in
    let new : ¬ IsIn a order = λ h. (let z : get_or left a 0 ≡ 0 = (r.zero a less).0 h in absurd (omega arith)) in
    let same : get_or (set left a 0) a 0 ≡ 0 = get_or-set_same left a 0 0 less in
    subst (λ (n : ℕ). AreReady n (set left a 0) (order ++ a ∷ [])) (sym size) (record {
      within = each_push (λ (n : ℕ) (before : List ℕ). n < length left) order a r.within less;
      distinct = each_push (λ (n : ℕ) (before : List ℕ). ¬ IsIn n before) order a r.distinct new;
      zero = λ b h. elim (cases_eq b a) [
        | inl e ↦ ((λ _. ap (λ (n : ℕ). get_or (set left a 0) n 0) e ∙ same), (λ _. in_back b order (a ∷ []) (inl (sym e))))
        | inr ne ↦
            let kept : get_or (set left a 0) b 0 ≡ get_or left b 0 = get_or-set_other left a b 0 0 ne in
            in_more b order a (get_or (set left a 0) b 0 ≡ 0) ne ((λ k. kept ∙ (r.zero b h).0 k), (λ z. (r.zero b h).1 (sym kept ∙ z)))
      ];
      rest = let old = r.rest in omega (arith, old, sums, length_push order a);
    })

pub ready_more : (left order : List ℕ) (a v : ℕ) → a < length left → 0 < v → 0 < get_or left a 0 → AreReady (length left) left order → AreReady (length (set left a v)) (set left a v) order
ready_more left order a v less still has r =
    let size : length (set left a v) ≡ length left = length-set left a v in
    let sums = some_set left a v less has in
    let same : get_or (set left a v) a 0 ≡ v = get_or-set_same left a v 0 less in
    subst (λ (n : ℕ). AreReady n (set left a v) order) (sym size) (record {
      within = r.within;
      distinct = r.distinct;
      zero = λ b h. elim (cases_eq b a) [
        | inl e ↦
            let here : get_or (set left a v) b 0 ≡ v = ap (λ (n : ℕ). get_or (set left a v) n 0) e ∙ same in
            ((λ k. let z : get_or left a 0 ≡ 0 = ap (λ (n : ℕ). get_or left n 0) (sym e) ∙ (r.zero b h).0 k in absurd (omega arith)), (λ z. absurd (omega (arith, here, z))))
        | inr ne ↦
            let kept : get_or (set left a v) b 0 ≡ get_or left b 0 = get_or-set_other left a b v 0 ne in
            ((λ k. kept ∙ (r.zero b h).0 k), (λ z. (r.zero b h).1 (sym kept ∙ z)))
      ];
      rest = let old = r.rest in omega (arith, old, sums, positive v still);
    })
