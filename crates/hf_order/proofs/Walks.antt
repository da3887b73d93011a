-- Walks from the nodes of an order, and from others.
use Rattle.std.proofs.Common.{◌≡◌, ◌↔◌, ℕ, zero, suc, ◌≤◌, ◌<◌, List, [], ◌∷◌, ◌++◌, length, take, get_or, refl, sym, subst, arith, inl, inr}
use Rattle.std.proofs.Math.Seq.{take-suc}
use Rattle.std.proofs.lemmas.List.{take_all}
use Rattle.hf_base.specs.Members.{IsIn}
use Rattle.hf_order.specs.Order.{AreWithin, IsEndless, IsOrder, StartsEndless}
use Rattle.hf_order.proofs.Members.{in_all, in_at, in_joined, decided}

-- an endless walk never comes to the first k nodes
never_in : (count : ℕ) (pairs : List (ℕ × ℕ)) (order : List ℕ) → IsOrder count pairs order → (walk : ℕ → ℕ) → IsEndless pairs walk → (k n : ℕ) → k ≤ length order → IsIn (walk n) (take k order) → ⊥
never_in count pairs order o walk endless zero n le h = absurd h
never_in count pairs order o walk endless (suc k) n le h =
    let less : k < length order = omega arith in
    let split : IsIn (walk n) (take k order ++ get_or order k 0 ∷ []) = subst (λ (l : List ℕ). IsIn (walk n) l) (take-suc order k 0 less) h in
    let last : get_or order k 0 ≡ walk n → ⊥ = λ e. (let need : IsIn (get_or order k 0, walk (suc n)) pairs = subst (λ (a : ℕ). IsIn (a, walk (suc n)) pairs) (sym e) (endless n) in never_in count pairs order o walk endless k (suc n) (omega arith) (o.earlier k less (walk (suc n)) need)) in
    elim (in_joined (walk n) (take k order) (get_or order k 0 ∷ []) split) [
      | inl before ↦ never_in count pairs order o walk endless k n (omega arith) before
      | inr here ↦ elim here [ inl e ↦ last e | inr none ↦ absurd none ]
    ]

pub walks_end : (count : ℕ) (pairs : List (ℕ × ℕ)) (order : List ℕ) (a : ℕ) → IsOrder count pairs order → IsIn a order → ¬ StartsEndless pairs a
walks_end count pairs order a o h w =
    let start : IsIn (w.0 0) (take (length order) order) = subst (λ (l : List ℕ). IsIn (w.0 0) l) (sym (take_all (length order) order (omega arith))) (subst (λ (n : ℕ). IsIn n order) (sym w.1) h) in
    never_in count pairs order o w.0 w.2 (length order) 0 (omega arith) start

-- ---- from a node outside

abbrev IsOutside : ℕ → List ℕ → ℕ → Type 0
IsOutside count order a = (a < count) × ¬ IsIn a order

abbrev Outside : ℕ → List ℕ → Type 0
Outside count order = (a : ℕ) × IsOutside count order a

step : (count : ℕ) (pairs : List (ℕ × ℕ)) (order : List ℕ) → AreWithin count pairs → IsOrder count pairs order → (from : Outside count order) → (to : Outside count order) × IsIn (from.0, to.0) pairs
step count pairs order within o from =
    let need = o.outside from.0 from.1.0 from.1.1 in
    let ends = in_all (λ (pair : ℕ × ℕ). (pair.0 < count) × (pair.1 < count)) pairs within (from.0, need.0) need.1 in
    ((need.0, (ends.1, need.2)), need.1)

abbrev onward : (count : ℕ) (pairs : List (ℕ × ℕ)) (order : List ℕ) → AreWithin count pairs → IsOrder count pairs order → Outside count order → ℕ → Outside count order
onward count pairs order within o from zero = from
onward count pairs order within o from (suc n) = (step count pairs order within o (onward count pairs order within o from n)).0

pub walks_start : (count : ℕ) (pairs : List (ℕ × ℕ)) (order : List ℕ) (a : ℕ) → AreWithin count pairs → IsOrder count pairs order → a < count → ¬ IsIn a order → StartsEndless pairs a
walks_start count pairs order a within o less out =
    let from : Outside count order = (a, (less, out)) in
    ((λ n. (onward count pairs order within o from n).0), refl, (λ n. (step count pairs order within o (onward count pairs order within o from n)).1))

pub all_in : (count : ℕ) (pairs : List (ℕ × ℕ)) (order : List ℕ) (a : ℕ) → AreWithin count pairs → IsOrder count pairs order → a < count → ¬ StartsEndless pairs a → IsIn a order
all_in count pairs order a within o less ends = elim (decided a order) [
  | inl there ↦ there
  | inr out ↦ absurd (ends (walks_start count pairs order a within o less out))
]

-- ---- two orders

in_other : (count : ℕ) (pairs : List (ℕ × ℕ)) (some other : List ℕ) → AreWithin count pairs → IsOrder count pairs some → IsOrder count pairs other → (a : ℕ) → IsIn a some → IsIn a other
in_other count pairs some other within o p a h =
    let at = in_at a some h in
    let less : a < count = subst (λ (n : ℕ). n < count) at.2 (o.within at.0 at.1) in
    all_in count pairs other a within p less (walks_end count pairs some a o h)

pub same_nodes : (count : ℕ) (pairs : List (ℕ × ℕ)) (some other : List ℕ) → AreWithin count pairs → IsOrder count pairs some → IsOrder count pairs other → (a : ℕ) → IsIn a some ↔ IsIn a other
same_nodes count pairs some other within o p a = (in_other count pairs some other within o p a, in_other count pairs other some within p o a)
