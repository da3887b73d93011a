-- An order that is under way, from its begin to its end.
use Rattle.std.proofs.Common.{◌≡◌, ℕ, ◌+◌, ◌-◌, ◌≤◌, ◌<◌, Bool, cond, eqb, List, [], ◌∷◌, ◌++◌, length, take, get_or, set, refl, sym, ap, subst, ◌∙◌, arith, inl, inr}
use Rattle.std.specs.List.{filter}
use Rattle.std.proofs.lemmas.Bool.{cases_Bool, cases_eq, eqb-true, eqb-false, eq-eqb, ne_eqb}
use Rattle.std.proofs.lemmas.List.{take_all, take_more, take-append-le, length_push, length-set, get_or-set_same, get_or-set_other}
use Rattle.std.specs.List.Sorted.{IsPermutation}
use Rattle.std.proofs.lemmas.List.Sorted.{IsPermutation-sym}
use Rattle.hf_base.specs.Members.{IsIn}
use Rattle.hf_order.specs.Order.{AreWithin, IsOrder, IsLeft}
use Rattle.hf_order.specs.Waiting.{uses, waits, AreReady, IsUnderWay}
use Rattle.hf_order.proofs.Members.{in_all, all_from, in_permutation, in_filter, at_in, in_longer, each_push, has_not}
use Rattle.hf_order.proofs.Counts.{one_if, uses-cons, uses-nil, waits_split, all_done, some_left}
use Rattle.hf_order.proofs.Ready.{ready_last, ready_more}

-- nothing is done yet
pub begun : (pairs : List (ℕ × ℕ)) (left nodes : List ℕ) → AreReady (length left) left nodes → ((a : ℕ) → a < length left → get_or left a 0 ≡ waits [] a pairs) → IsUnderWay pairs [] 0 left nodes
begun pairs left nodes r counts = record {
  ready = r;
  reached = omega arith;
  counts = λ a less. let none = uses-nil a in omega (arith, counts a less, none);
  earlier = λ k less b need.
      let a = get_or nodes k 0 in
      let within : a < length left = r.within k less in
      let none : waits [] a pairs ≡ 0 = sym (counts a within) ∙ (r.zero a within).0 (at_in nodes k 0 less) in
      absurd (all_done [] a pairs none b need);
}

-- the next node is done, and its users are still to be told
pub taken : (pairs : List (ℕ × ℕ)) (done : ℕ) (left order : List ℕ) → done < length order → IsUnderWay pairs [] done left order
    → IsUnderWay pairs (filter (λ (pair : ℕ × ℕ). eqb pair.1 (get_or order done 0)) pairs) (done + 1) left order
taken pairs done left order less way =
    let node = get_or order done 0 in
    let new = has_not node (take done order) (way.ready.distinct done less) in
    let more : take (done + 1) order ≡ take done order ++ node ∷ [] = take_more order done 0 less in
    record {
      ready = way.ready;
      reached = omega arith;
      counts = λ a h. omega (arith, way.counts a h, uses-nil a, waits_split (take done order) node a pairs new, ap (λ (l : List ℕ). waits l a pairs) more);
      earlier = way.earlier;
    }

-- a user has something left
pub met_some : (pairs users : List (ℕ × ℕ)) (p : ℕ × ℕ) (done : ℕ) (left order : List ℕ) → p.0 < length left → IsUnderWay pairs (p ∷ users) done left order → 0 < get_or left p.0 0
met_some pairs users p done left order less way =
    let one : one_if (eqb p.0 p.0) ≡ 1 = let t = eq-eqb p.0 p.0 refl in rw t refl in
    omega (arith, one, way.counts p.0 less, uses-cons p.0 p users)

-- what is left, after one user is told
met_counts : (pairs users : List (ℕ × ℕ)) (p : ℕ × ℕ) (done : ℕ) (left order : List ℕ) (v : ℕ) → p.0 < length left → v + 1 ≡ get_or left p.0 0 → IsUnderWay pairs (p ∷ users) done left order
    → (a : ℕ) → a < length left → get_or (set left p.0 v) a 0 ≡ uses a users + waits (take done order) a pairs
met_counts pairs users p done left order v less one way a h = elim (cases_eq a p.0) [
  | inl e ↦
      let here : get_or (set left p.0 v) a 0 ≡ v = ap (λ (n : ℕ). get_or (set left p.0 v) n 0) e ∙ get_or-set_same left p.0 v 0 less in
      let same : get_or left a 0 ≡ get_or left p.0 0 = ap (λ (n : ℕ). get_or left n 0) e in
      let yes : one_if (eqb p.0 a) ≡ 1 = let t = eq-eqb p.0 a (sym e) in rw t refl in
      omega (arith, here, same, yes, one, way.counts a h, uses-cons a p users)
  | inr ne ↦
      let kept : get_or (set left p.0 v) a 0 ≡ get_or left a 0 = get_or-set_other left p.0 a v 0 ne in
      let no : one_if (eqb p.0 a) ≡ 0 = let f = ne_eqb p.0 a (λ e. ne (sym e)) in rw f refl in
      omega (arith, kept, no, way.counts a h, uses-cons a p users)
]

-- the last thing that a user needed
met_last : (pairs users : List (ℕ × ℕ)) (p : ℕ × ℕ) (done : ℕ) (left order : List ℕ) → p.0 < length left → get_or left p.0 0 ≡ 1 → IsUnderWay pairs (p ∷ users) done left order
    → IsUnderWay pairs users done (set left p.0 0) (order ++ p.0 ∷ [])
met_last pairs users p done left order less one way =
    let reached : done ≤ length order = way.reached in
    let front : take done (order ++ p.0 ∷ []) ≡ take done order = take-append-le done order (p.0 ∷ []) reached in
    let counts = met_counts pairs users p done left order 0 less (omega arith) way in
    let none : waits (take done order) p.0 pairs ≡ 0 = omega (arith, counts p.0 less, get_or-set_same left p.0 0 0 less) in
    let whole : take (length order) order ≡ order = take_all (length order) order (omega arith) in
    record {
      ready = ready_last left order p.0 less one way.ready;
      reached = omega (arith, length_push order p.0);
      counts = λ a h. counts a (omega (arith, length-set left p.0 0)) ∙ ap (λ (l : List ℕ). uses a users + waits l a pairs) (sym front);
      earlier = each_push (λ (n : ℕ) (before : List ℕ). (b : ℕ) → IsIn (n, b) pairs → IsIn b before) order p.0 way.earlier (λ b need.
          subst (λ (l : List ℕ). IsIn b l) whole (in_longer b done (length order) order reached (all_done (take done order) p.0 pairs none b need)));
    }

-- one of several things that a user needed
met_more : (pairs users : List (ℕ × ℕ)) (p : ℕ × ℕ) (done : ℕ) (left order : List ℕ) (v : ℕ) → p.0 < length left → v + 1 ≡ get_or left p.0 0 → 0 < v → IsUnderWay pairs (p ∷ users) done left order
    → IsUnderWay pairs users done (set left p.0 v) order
met_more pairs users p done left order v less one still way = record {
  ready = ready_more left order p.0 v less still (omega arith) way.ready;
  reached = way.reached;
  counts = λ a h. met_counts pairs users p done left order v less one way a (omega (arith, length-set left p.0 v));
  earlier = way.earlier;
}

-- a user is told
pub met : (pairs users : List (ℕ × ℕ)) (p : ℕ × ℕ) (done : ℕ) (left order : List ℕ) → p.0 < length left → IsUnderWay pairs (p ∷ users) done left order
    → IsUnderWay pairs users done (set left p.0 (get_or left p.0 0 - 1)) (cond (eqb (get_or left p.0 0) 1) (order ++ p.0 ∷ []) order)
met pairs users p done left order less way =
    let some : 0 < get_or left p.0 0 = met_some pairs users p done left order less way in
    elim (cases_Bool (eqb (get_or left p.0 0) 1)) [
      | inl t ↦
          let one : get_or left p.0 0 ≡ 1 = eqb-true (get_or left p.0 0) 1 t in
          let v : get_or left p.0 0 - 1 ≡ 0 = omega arith in
          rw (v, t) (met_last pairs users p done left order less one way)
      | inr f ↦
          let ne = eqb-false (get_or left p.0 0) 1 f in
          rw f (met_more pairs users p done left order (get_or left p.0 0 - 1) less (omega arith) (omega (arith, ne)) way)
    ]

-- no more nodes than there are
pub bounded : (pairs users : List (ℕ × ℕ)) (done : ℕ) (left order : List ℕ) → IsUnderWay pairs users done left order → length order ≤ length left
bounded pairs users done left order way = let rest = way.ready.rest in omega arith

-- all nodes of the order are done
pub complete : (pairs : List (ℕ × ℕ)) (count done : ℕ) (left order : List ℕ) → length left ≡ count → length order ≤ done → IsUnderWay pairs [] done left order → IsOrder count pairs order × IsLeft count left order
complete pairs count done left order size all way =
    let whole : take done order ≡ order = take_all done order all in (
      record {
        within = λ k h. let l = way.ready.within k h in omega arith;
        distinct = way.ready.distinct;
        earlier = way.earlier;
        outside = λ a h out.
            let less : a < length left = omega arith in
            let some : get_or left a 0 ≡ 0 → ⊥ = λ z. out ((way.ready.zero a less).1 z) in
            let waiting : 0 < waits order a pairs = omega (arith, some, way.counts a less, uses-nil a, ap (λ (l : List ℕ). waits l a pairs) whole) in
            some_left order a pairs waiting;
      },
      record { size = size; zero = λ a h. way.ready.zero a (omega arith) },
    )

-- ---- pairs in another order

pub moved_within : (count : ℕ) (pairs sorted : List (ℕ × ℕ)) → IsPermutation pairs sorted → AreWithin count pairs → AreWithin count sorted
moved_within count pairs sorted moved within =
    let P : ℕ × ℕ → Type 0 = λ pair. (pair.0 < count) × (pair.1 < count) in
    all_from P sorted (λ x h. in_all P pairs within x (in_permutation sorted pairs (IsPermutation-sym pairs sorted moved) x h))

pub moved_order : (count : ℕ) (pairs sorted : List (ℕ × ℕ)) (order : List ℕ) → IsPermutation pairs sorted → IsOrder count sorted order → IsOrder count pairs order
moved_order count pairs sorted order moved o = record {
  within = o.within;
  distinct = o.distinct;
  earlier = λ k less b h. o.earlier k less b (in_permutation pairs sorted moved (get_or order k 0, b) h);
  outside = λ a less out. let p = o.outside a less out in (p.0, in_permutation sorted pairs (IsPermutation-sym pairs sorted moved) (a, p.0) p.1, p.2);
}

-- the users of a node are among the nodes
pub user_within : (count : ℕ) (pairs users : List (ℕ × ℕ)) (test : ℕ × ℕ → Bool) (i : ℕ) (d : ℕ × ℕ) → AreWithin count pairs → users ≡ filter test pairs → i < length users → (get_or users i d).0 < count
user_within count pairs users test i d within same less =
    let one : IsIn (get_or users i d) (filter test pairs) = subst (λ (l : List (ℕ × ℕ)). IsIn (get_or users i d) l) same (at_in users i d less) in
    let ends = in_all (λ (pair : ℕ × ℕ). (pair.0 < count) × (pair.1 < count)) pairs within (get_or users i d) (in_filter test pairs (get_or users i d) one) in
    ends.0
