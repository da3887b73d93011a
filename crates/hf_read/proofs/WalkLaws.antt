-- Walks along pairs of ids: the first id from which a walk of as many steps as there are ids exists is the least one from
-- which a walk never ends.
use Rattle.std.proofs.Common.{◌≡◌, ℕ, zero, suc, ◌+◌, ◌≤◌, ◌<◌, Bool, true, false, ◌||◌, eqb, List, [], ◌∷◌, length, refl, sym, ap, subst, ◌∙◌, arith, inl, inr, ◌⊎◌}
use Rattle.std.specs.Prelude.{slice_get}
use Rattle.std.specs.List.{filter}
use Rattle.std.proofs.lemmas.Bool.{cases_Bool, eqb-true, eq-eqb}
use Rattle.hf_base.specs.Entries.{has_id}
use Rattle.hf_base.specs.Members.{IsIn, RisesFrom, Rises}
use Rattle.hf_order.specs.Order.{IsEndless, StartsEndless}
use Rattle.hf_order.proofs.Members.{in_all, in_filter, has_in, in_has}
use Rattle.hf_derived.specs.Cycle.{AreAmong, IsLeastCycle}
use Rattle.hf_read.proofs.Filters.{passes, passed}
use Rattle.hf_read.specs.Walks.{leads_to, walkers, first_walker}

-- ---- filters

-- a weaker test before a stronger one changes nothing
twice : (strong weak : ℕ → Bool) (xs : List ℕ) → ((x : ℕ) → strong x ≡ true → weak x ≡ true) → filter strong (filter weak xs) ≡ filter strong xs
twice strong weak [] implies = refl
twice strong weak (x ∷ xs) implies = elim (cases_Bool (weak x)) [
  | inl w ↦ elim (cases_Bool (strong x)) [ inl s ↦ rw (w, s, twice strong weak xs implies) refl | inr s ↦ rw (w, s, twice strong weak xs implies) refl ]
  | inr w ↦ elim (cases_Bool (strong x)) [
    | inl s ↦ absurd (let both : true ≡ false = sym (implies x s) ∙ w in cc)
    | inr s ↦ rw (w, s, twice strong weak xs implies) refl
  ]
]

filter_le : (test : ℕ → Bool) (xs : List ℕ) → length (filter test xs) ≤ length xs
filter_le test [] = omega arith
filter_le test (x ∷ xs) = let le = filter_le test xs in elim (cases_Bool (test x)) [ inl t ↦ rw t (omega arith) | inr f ↦ rw f (omega arith) ]

-- all pass, or fewer are left
all_or_fewer : (test : ℕ → Bool) (xs : List ℕ) → ((x : ℕ) → IsIn x xs → test x ≡ true) ⊎ (length (filter test xs) < length xs)
all_or_fewer test [] = inl (λ x h. absurd h)
all_or_fewer test (y ∷ ys) = elim (cases_Bool (test y)) [
  | inl t ↦ elim (all_or_fewer test ys) [
    | inl all ↦ inl (λ x h. elim h [ inl e ↦ ap test (sym e) ∙ t | inr k ↦ all x k ])
    | inr few ↦ inr (rw t (omega arith))
  ]
  | inr f ↦ let le = filter_le test ys in inr (rw f (omega arith))
]

filter_rises_from : (test : ℕ → Bool) (low other : ℕ) (xs : List ℕ) → other ≤ low → RisesFrom ◌<◌ low xs → RisesFrom ◌<◌ other (filter test xs)
filter_rises_from test low other [] le up = tt
filter_rises_from test low other (x ∷ xs) le up = elim (cases_Bool (test x)) [
  | inl t ↦
      let whole : filter test (x ∷ xs) ≡ x ∷ filter test xs = rw t refl in
      let lt : low < x = up.0 in
      subst (λ (l : List ℕ). RisesFrom ◌<◌ other l) (sym whole) (omega arith, filter_rises_from test x x xs (omega arith) up.1)
  | inr f ↦
      let rest : filter test (x ∷ xs) ≡ filter test xs = rw f refl in
      let lt : low < x = up.0 in
      subst (λ (l : List ℕ). RisesFrom ◌<◌ other l) (sym rest) (filter_rises_from test x other xs (omega arith) up.1)
]

filter_rises : (test : ℕ → Bool) (xs : List ℕ) → Rises ◌<◌ xs → Rises ◌<◌ (filter test xs)
filter_rises test [] up = tt
filter_rises test (x ∷ xs) up = elim (cases_Bool (test x)) [
  | inl t ↦
      let whole : filter test (x ∷ xs) ≡ x ∷ filter test xs = rw t refl in
      subst (λ (l : List ℕ). Rises ◌<◌ l) (sym whole) (filter_rises_from test x x xs (omega arith) up)
  | inr f ↦
      let rest : filter test (x ∷ xs) ≡ filter test xs = rw f refl in
      subst (λ (l : List ℕ). Rises ◌<◌ l) (sym rest) (filter_rises test xs (rises_later x xs up))
]
  where
    rises_later : (x : ℕ) (xs : List ℕ) → RisesFrom ◌<◌ x xs → Rises ◌<◌ xs
    rises_later x [] up = tt
    rises_later x (y ∷ ys) up = up.1

-- the first of those that rise is the least
least_first : (low x : ℕ) (xs : List ℕ) → RisesFrom ◌<◌ low xs → IsIn x xs → low < x
least_first low x [] up h = absurd h
least_first low x (y ∷ ys) up (inl e) = let lt : low < y = up.0 in omega arith
least_first low x (y ∷ ys) up (inr h) = let lt : low < y = up.0 in let more = least_first y x ys up.1 h in omega arith

-- ---- one step

leads_from : (pairs : List (ℕ × ℕ)) (some : List ℕ) (id : ℕ) → leads_to pairs some id ≡ true → (to : ℕ) × IsIn (id, to) pairs × IsIn to some
leads_from [] some id h = absurd cc
leads_from (p ∷ ps) some id h = elim (cases_Bool (eqb p.0 id)) [
  | inl t ↦
      let whole : has_id p.1 some || leads_to ps some id ≡ true = sym (rw t refl) ∙ h in
      let here : p ≡ (id, p.1) = ap (λ (n : ℕ). (n, p.1)) (eqb-true p.0 id t) in
      elim (cases_Bool (has_id p.1 some)) [
        | inl there ↦ (p.1, inl here, in_has p.1 some there)
        | inr none ↦ let r = leads_from ps some id (sym (ap (λ (b : Bool). b || leads_to ps some id) none) ∙ whole) in (r.0, inr r.1, r.2)
      ]
  | inr f ↦ let r = leads_from ps some id (sym (rw f refl) ∙ h) in (r.0, inr r.1, r.2)
]

leads : (pairs : List (ℕ × ℕ)) (some : List ℕ) (id to : ℕ) → IsIn (id, to) pairs → IsIn to some → leads_to pairs some id ≡ true
leads [] some id to h k = absurd h
leads (p ∷ ps) some id to (inl e) k =
    let t : eqb p.0 id ≡ true = eq-eqb p.0 id (ap (λ (q : ℕ × ℕ). q.0) e) in
    let there : has_id p.1 some ≡ true = has_in p.1 some (subst (λ (n : ℕ). IsIn n some) (sym (ap (λ (q : ℕ × ℕ). q.1) e)) k) in
    rw (t, there) refl
leads (p ∷ ps) some id to (inr h) k =
    let more = leads ps some id to h k in
    elim (cases_Bool (eqb p.0 id)) [
      | inl t ↦ elim (cases_Bool (has_id p.1 some)) [ inl there ↦ rw (t, there) refl | inr none ↦ rw (t, none) more ]
      | inr f ↦ rw f more
    ]

-- ---- walks are found

walkers_within : (pairs : List (ℕ × ℕ)) (ids : List ℕ) (n x : ℕ) → IsIn x (walkers pairs ids n) → IsIn x ids
unfolding walkers
walkers_within pairs ids zero x h = h
walkers_within pairs ids (suc n) x h = in_filter (leads_to pairs (walkers pairs ids n)) ids x h

found : (pairs : List (ℕ × ℕ)) (ids : List ℕ) → AreAmong ids pairs → (n : ℕ) (walk : ℕ → ℕ) → IsEndless pairs walk → IsIn (walk 0) (walkers pairs ids n)
unfolding walkers
found pairs ids among zero walk endless = (in_all (λ (p : ℕ × ℕ). IsIn p.0 ids × IsIn p.1 ids) pairs among (walk 0, walk 1) (endless 0)).0
found pairs ids among (suc n) walk endless =
    let here : IsIn (walk 0) ids = (in_all (λ (p : ℕ × ℕ). IsIn p.0 ids × IsIn p.1 ids) pairs among (walk 0, walk 1) (endless 0)).0 in
    let next : IsIn (walk 1) (walkers pairs ids n) = found pairs ids among n (λ k. walk (suc k)) (λ k. endless (suc k)) in
    passes (leads_to pairs (walkers pairs ids n)) ids (walk 0) here (leads pairs (walkers pairs ids n) (walk 0) (walk 1) (endless 0) next)

-- ---- what is found walks on

falls : (pairs : List (ℕ × ℕ)) (ids : List ℕ) (n x : ℕ) → IsIn x (walkers pairs ids (suc n)) → IsIn x (walkers pairs ids n)
unfolding walkers
falls pairs ids zero x h = in_filter (leads_to pairs ids) ids x h
falls pairs ids (suc n) x h =
    let here = in_filter (leads_to pairs (walkers pairs ids (suc n))) ids x h in
    let s = leads_from pairs (walkers pairs ids (suc n)) x (passed (leads_to pairs (walkers pairs ids (suc n))) ids x h) in
    passes (leads_to pairs (walkers pairs ids n)) ids x here (leads pairs (walkers pairs ids n) x s.0 s.1 (falls pairs ids n s.0 s.2))

-- the next level is a filter of this one
next_level : (pairs : List (ℕ × ℕ)) (ids : List ℕ) (n : ℕ) → walkers pairs ids (suc n) ≡ filter (leads_to pairs (walkers pairs ids n)) (walkers pairs ids n)
unfolding walkers
next_level pairs ids zero = refl
next_level pairs ids (suc n) = sym (twice (leads_to pairs (walkers pairs ids (suc n))) (leads_to pairs (walkers pairs ids n)) ids (λ x h.
    let s = leads_from pairs (walkers pairs ids (suc n)) x h in
    leads pairs (walkers pairs ids n) x s.0 s.1 (falls pairs ids n s.0 s.2)))

-- from each of these a step leads to one of them
abbrev IsSettled : List (ℕ × ℕ) → List ℕ → Type 0
IsSettled pairs some = (x : ℕ) → IsIn x some → leads_to pairs some x ≡ true

stays : (pairs : List (ℕ × ℕ)) (ids : List ℕ) (n : ℕ) → IsSettled pairs (walkers pairs ids n) → IsSettled pairs (walkers pairs ids (suc n))
stays pairs ids n settled x h =
    let some = walkers pairs ids n in
    let s = leads_from pairs some x (settled x (falls pairs ids n x h)) in
    let there : IsIn s.0 (walkers pairs ids (suc n)) = subst (λ (l : List ℕ). IsIn s.0 l) (sym (next_level pairs ids n)) (passes (leads_to pairs some) some s.0 s.2 (settled s.0 s.2)) in
    leads pairs (walkers pairs ids (suc n)) x s.0 s.1 there

settled_or_few : (pairs : List (ℕ × ℕ)) (ids : List ℕ) (n : ℕ) → IsSettled pairs (walkers pairs ids n) ⊎ (length (walkers pairs ids n) + n ≤ length ids)
unfolding walkers
settled_or_few pairs ids zero = inr (omega arith)
settled_or_few pairs ids (suc n) = elim (settled_or_few pairs ids n) [
  | inl settled ↦ inl (stays pairs ids n settled)
  | inr few ↦ elim (all_or_fewer (leads_to pairs (walkers pairs ids n)) (walkers pairs ids n)) [
    | inl all ↦ inl (stays pairs ids n all)
    | inr fewer ↦ let len = ap length (next_level pairs ids n) in inr (omega (arith, few, fewer, len))
  ]
]

none_of : (some : List ℕ) → length some ≡ 0 → (x : ℕ) → IsIn x some → ⊥
none_of [] e x h = h
none_of (y ∷ ys) e x h = absurd (omega arith)

settled : (pairs : List (ℕ × ℕ)) (ids : List ℕ) → IsSettled pairs (walkers pairs ids (length ids))
settled pairs ids = elim (settled_or_few pairs ids (length ids)) [
  | inl is ↦ is
  | inr few ↦ λ x h. absurd (none_of (walkers pairs ids (length ids)) (omega (arith, few)) x h)
]

abbrev Inside : List ℕ → Type 0
Inside some = (x : ℕ) × IsIn x some

step : (pairs : List (ℕ × ℕ)) (some : List ℕ) → IsSettled pairs some → (from : Inside some) → (to : Inside some) × IsIn (from.0, to.0) pairs
step pairs some is from = let s = leads_from pairs some from.0 (is from.0 from.1) in ((s.0, s.2), s.1)

abbrev onward : (pairs : List (ℕ × ℕ)) (some : List ℕ) → IsSettled pairs some → Inside some → ℕ → Inside some
onward pairs some is from zero = from
onward pairs some is from (suc n) = (step pairs some is (onward pairs some is from n)).0

walks_on : (pairs : List (ℕ × ℕ)) (some : List ℕ) (x : ℕ) → IsSettled pairs some → IsIn x some → StartsEndless pairs x
walks_on pairs some x is h = ((λ n. (onward pairs some is (x, h) n).0), refl, (λ n. (step pairs some is (onward pairs some is (x, h) n)).1))

-- ---- the least

walkers_rise : (pairs : List (ℕ × ℕ)) (ids : List ℕ) (n : ℕ) → Rises ◌<◌ ids → Rises ◌<◌ (walkers pairs ids n)
unfolding walkers
walkers_rise pairs ids zero up = up
walkers_rise pairs ids (suc n) up = filter_rises (leads_to pairs (walkers pairs ids n)) ids up

first_is : (pairs : List (ℕ × ℕ)) (some : List ℕ) → Rises ◌<◌ some → IsSettled pairs some → ((walk : ℕ → ℕ) → IsEndless pairs walk → IsIn (walk 0) some) → IsLeastCycle pairs (slice_get some 0)
first_is pairs [] up is all = λ walk endless. all walk endless
first_is pairs (x ∷ xs) up is all = (
  walks_on pairs (x ∷ xs) x is (inl refl),
  (λ a below w.
      let there : IsIn a (x ∷ xs) = subst (λ (n : ℕ). IsIn n (x ∷ xs)) w.1 (all w.0 w.2) in
      elim there [ inl e ↦ omega (arith, e, below) | inr h ↦ let lt = least_first x a xs up h in omega (arith, lt, below) ]),
)

pub least_cycle : (pairs : List (ℕ × ℕ)) (ids : List ℕ) → Rises ◌<◌ ids → AreAmong ids pairs → IsLeastCycle pairs (first_walker pairs ids)
unfolding first_walker
least_cycle pairs ids up among =
    let n = length ids in
    first_is pairs (walkers pairs ids n) (walkers_rise pairs ids n up) (settled pairs ids) (found pairs ids among n)
