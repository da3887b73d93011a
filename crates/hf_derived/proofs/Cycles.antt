-- Walks along ids, and along their places.
use Rattle.std.proofs.Common.{◌≡◌, ℕ, suc, ◌<◌, List, length, get_or, map, Some, None, refl, sym, ap, subst, ◌∙◌, arith, inl, inr}
use Rattle.std.specs.Prelude.{Option}
use Rattle.std.proofs.lemmas.Bool.{cases_lt, cases_order}
use Rattle.hf_base.specs.Members.{IsIn, Rises}
use Rattle.hf_order.specs.Order.{AreWithin, IsEndless, IsOrder, IsLeft, StartsEndless}
use Rattle.hf_derived.specs.Cycle.{pair_at, IsLeastCycle, IsFirstLeft}
use Rattle.hf_order.proofs.Members.{in_all, in_map, from_map}
use Rattle.hf_base.proofs.Rising.{rises_to}
use Rattle.hf_derived.proofs.Places.{one_place}
use Rattle.hf_order.proofs.Walks.{walks_end, walks_start}

-- a walk along places is a walk along their ids
to_ids : (ids : List ℕ) (places : List (ℕ × ℕ)) (a : ℕ) → StartsEndless places a → StartsEndless (map (pair_at ids) places) (get_or ids a 0)
to_ids ids places a w =
    let walk = w.0 in
    let endless = w.2 in
    ((λ n. get_or ids (walk n) 0), ap (λ (n : ℕ). get_or ids n 0) w.1, (λ n. in_map (pair_at ids) places (walk n, walk (suc n)) (endless n)))

-- a walk along ids is one along their places
abbrev pub HasPlace : List ℕ → List (ℕ × ℕ) → ℕ → Type 0
HasPlace ids places id = (a : ℕ) × (a < length ids) × (get_or ids a 0 ≡ id) × StartsEndless places a

to_places : (ids : List ℕ) (places : List (ℕ × ℕ)) (id : ℕ) → Rises ◌<◌ ids → AreWithin (length ids) places → StartsEndless (map (pair_at ids) places) id → HasPlace ids places id
to_places ids places id up within w =
    let walk : ℕ → ℕ = w.0 in
    let endless : IsEndless (map (pair_at ids) places) walk = w.2 in
    let at = λ (n : ℕ). from_map (pair_at ids) places (walk n, walk (suc n)) (endless n) in
    let place : ℕ → ℕ = λ n. (at n).0.0 in
    let ends = λ (n : ℕ). in_all (λ (pair : ℕ × ℕ). (pair.0 < length ids) × (pair.1 < length ids)) places within (at n).0 (at n).1 in
    let here = λ (n : ℕ). (let e : get_or ids (place n) 0 ≡ walk n = ap (λ (q : ℕ × ℕ). q.0) (at n).2 in e) in
    let there = λ (n : ℕ). (let e : get_or ids (at n).0.1 0 ≡ walk (suc n) = ap (λ (q : ℕ × ℕ). q.1) (at n).2 in e) in
    let joint = λ (n : ℕ). one_place ids up (at n).0.1 (place (suc n)) (ends n).1 (ends (suc n)).0 (there n ∙ sym (here (suc n))) in
    (place 0, (ends 0).0, here 0 ∙ w.1, (place, refl, (λ n. subst (λ (b : ℕ). IsIn (place n, b) places) (joint n) (at n).1)))

-- nothing is left of a node, so no endless walk starts there
ends_at : (ids left nodes : List ℕ) (places : List (ℕ × ℕ)) (a : ℕ) → IsOrder (length ids) places nodes → IsLeft (length ids) left nodes → a < length ids → get_or left a 0 ≡ 0 → ¬ StartsEndless places a
ends_at ids left nodes places a o l less none = walks_end (length ids) places nodes a o ((l.zero a less).1 none)

pub none_left : (ids left nodes : List ℕ) (places pairs : List (ℕ × ℕ)) → map (pair_at ids) places ≡ pairs → Rises ◌<◌ ids → AreWithin (length ids) places → IsOrder (length ids) places nodes → IsLeft (length ids) left nodes
    → IsFirstLeft left None → IsLeastCycle pairs None
none_left ids left nodes places pairs same up within o l none walk endless =
    let start = subst (λ (ps : List (ℕ × ℕ)). StartsEndless ps (walk 0)) (sym same) (walk, refl, endless) in
    let p = to_places ids places (walk 0) up within start in
    let less : p.0 < length left = let h = p.1 in let size = l.size in omega arith in
    ends_at ids left nodes places p.0 o l p.1 (none p.0 less) p.3

pub first_left : (ids left nodes : List ℕ) (places pairs : List (ℕ × ℕ)) (place : ℕ) → map (pair_at ids) places ≡ pairs → Rises ◌<◌ ids → AreWithin (length ids) places → IsOrder (length ids) places nodes → IsLeft (length ids) left nodes
    → IsFirstLeft left (Some place) → IsLeastCycle pairs (Some (get_or ids place 0))
first_left ids left nodes places pairs place same up within o l first =
    let in' : place < length ids = let h : place < length left = first.0 in let size = l.size in omega arith in
    let some : 0 < get_or left place 0 = first.1 in
    let out : ¬ IsIn place nodes = λ h. (let none = (l.zero place in').0 h in omega arith) in
    let start = walks_start (length ids) places nodes place within o in' out in (
      subst (λ (ps : List (ℕ × ℕ)). StartsEndless ps (get_or ids place 0)) same (to_ids ids places place start),
      (λ id below w.
          let p = to_places ids places id up within (subst (λ (ps : List (ℕ × ℕ)). StartsEndless ps id) (sym same) w) in
          let there : get_or ids p.0 0 ≡ id = p.2 in
          elim (cases_lt p.0 place) [
            | inl lt ↦ ends_at ids left nodes places p.0 o l p.1 (first.2 p.0 lt) p.3
            | inr ge ↦ let le = rises_to ids up place p.0 ge p.1 in omega arith
          ]),
    )

-- ---- one answer

pub one_least : (pairs : List (ℕ × ℕ)) (some other : Option ℕ) → IsLeastCycle pairs some → IsLeastCycle pairs other → some ≡ other
one_least pairs None None p q = refl
one_least pairs None (Some b) p q = absurd (p q.0.0 q.0.2)
one_least pairs (Some a) None p q = absurd (q p.0.0 p.0.2)
one_least pairs (Some a) (Some b) p q = elim (cases_order a b) [
  | inl e ↦ ap (λ (n : ℕ). Some n) e
  | inr unequal ↦ elim unequal [
    | inl less ↦ absurd (q.1 a less p.0)
    | inr more ↦ absurd (p.1 b more q.0)
  ]
]
