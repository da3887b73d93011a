-- How many pairs of a node are left.
use Rattle.std.proofs.Common.{◌≡◌, ℕ, ◌+◌, ◌≤◌, ◌<◌, Bool, true, false, not, ◌&&◌, cond, eqb, List, [], ◌∷◌, ◌++◌, length, take, get_or, set, refl, sym, ap, subst, ◌∙◌, arith, inl, inr}
use Rattle.std.specs.List.{filter}
use Rattle.std.proofs.lemmas.Bool.{cases_Bool, cases_eq, eqb-true, eqb-false, eq-eqb, ne_eqb}
use Rattle.std.proofs.lemmas.List.{get_or_read, get_or-set_same, get_or-set_other}
use Rattle.std.proofs.lemmas.List.Sums.{sum_by-cons, sum_by_more, count_by-le-length}
use Rattle.hf_base.specs.Entries.{has_id}
use Rattle.hf_base.specs.Members.{IsIn}
use Rattle.hf_order.specs.Waiting.{uses, waits}
use Rattle.hf_order.proofs.Members.{has-append, in_has, not_has}

-- 1 where the test holds
abbrev pub one_if : Bool → ℕ
one_if b = cond b 1 0

pub waits-cons : (done : List ℕ) (node : ℕ) (p : ℕ × ℕ) (ps : List (ℕ × ℕ)) → waits done node (p ∷ ps) ≡ one_if (eqb p.0 node && not (has_id p.1 done)) + waits done node ps
unfolding waits
waits-cons done node p ps = sum_by-cons (λ (pair : ℕ × ℕ). one_if (eqb pair.0 node && not (has_id pair.1 done))) p ps

pub waits-nil : (done : List ℕ) (node : ℕ) → waits done node [] ≡ 0
unfolding waits
waits-nil done node = refl

pub uses-cons : (node : ℕ) (p : ℕ × ℕ) (ps : List (ℕ × ℕ)) → uses node (p ∷ ps) ≡ one_if (eqb p.0 node) + uses node ps
unfolding uses
uses-cons node p ps = sum_by-cons (λ (pair : ℕ × ℕ). one_if (eqb pair.0 node)) p ps

pub uses-nil : (node : ℕ) → uses node [] ≡ 0
unfolding uses
uses-nil node = refl

pub waits_more : (node : ℕ) (pairs : List (ℕ × ℕ)) (i : ℕ) (d : ℕ × ℕ) → i < length pairs → waits [] node (take (i + 1) pairs) ≡ waits [] node (take i pairs) + one_if (eqb (get_or pairs i d).0 node)
unfolding waits
waits_more node pairs i d less =
    sum_by_more (λ (pair : ℕ × ℕ). one_if (eqb pair.0 node && not (has_id pair.1 []))) pairs i d less
    ∙ ap (λ (n : ℕ). waits [] node (take i pairs) + n) (elim (cases_Bool (eqb (get_or pairs i d).0 node)) [ inl t ↦ rw t refl | inr f ↦ rw f refl ])

-- one pair more is counted
pub counted_more : (count : ℕ) (pairs : List (ℕ × ℕ)) (left : List ℕ) (i x : ℕ) (d : ℕ × ℕ) → length left ≡ count → i < length pairs → (get_or pairs i d).0 < count → x ≡ get_or left (get_or pairs i d).0 x
    → ((node : ℕ) → node < count → get_or left node 0 ≡ waits [] node (take i pairs)) → (node : ℕ) → node < count → get_or (set left (get_or pairs i d).0 (x + 1)) node 0 ≡ waits [] node (take (i + 1) pairs)
counted_more count pairs left i x d size less in' read counts node h =
    let a = (get_or pairs i d).0 in
    let within : a < length left = omega arith in
    let old : x ≡ get_or left a 0 = get_or_read left a x within read 0 in
    let more = waits_more node pairs i d less in
    elim (cases_eq node a) [
      | inl e ↦
          let here : get_or (set left a (x + 1)) node 0 ≡ x + 1 = ap (λ (n : ℕ). get_or (set left a (x + 1)) n 0) e ∙ get_or-set_same left a (x + 1) 0 within in
          let same : get_or left node 0 ≡ get_or left a 0 = ap (λ (n : ℕ). get_or left n 0) e in
          let yes : one_if (eqb a node) ≡ 1 = let t = eq-eqb a node (sym e) in rw t refl in
          omega (arith, here, same, yes, old, more, counts node h)
      | inr ne ↦
          let kept : get_or (set left a (x + 1)) node 0 ≡ get_or left node 0 = get_or-set_other left a node (x + 1) 0 ne in
          let no : one_if (eqb a node) ≡ 0 = let f = ne_eqb a node (λ e. ne (sym e)) in rw f refl in
          omega (arith, kept, no, more, counts node h)
    ]

pub waits_bound : (done : List ℕ) (node : ℕ) (pairs : List (ℕ × ℕ)) → waits done node pairs ≤ length pairs
unfolding waits
waits_bound done node pairs = count_by-le-length (λ (pair : ℕ × ℕ). eqb pair.0 node && not (has_id pair.1 done)) pairs

-- the pairs that need one more are its users and the others
pub waits_split : (done : List ℕ) (need node : ℕ) (pairs : List (ℕ × ℕ)) → has_id need done ≡ false
    → waits done node pairs ≡ uses node (filter (λ (pair : ℕ × ℕ). eqb pair.1 need) pairs) + waits (done ++ need ∷ []) node pairs
waits_split done need node [] new = omega (arith, waits-nil done node, waits-nil (done ++ need ∷ []) node, uses-nil node)
waits_split done need node (p ∷ ps) new =
    let rest = waits_split done need node ps new in
    let old = waits-cons done node p ps in
    let less = waits-cons (done ++ need ∷ []) node p ps in
    elim (cases_Bool (eqb p.1 need)) [
      | inl t ↦
          let same : p.1 ≡ need = eqb-true p.1 need t in
          let before : has_id p.1 done ≡ false = ap (λ (n : ℕ). has_id n done) same ∙ new in
          let back : eqb need p.1 ≡ true = eq-eqb need p.1 (sym same) in
          let after : has_id p.1 (done ++ need ∷ []) ≡ true = has-append p.1 done (need ∷ []) ∙ rw (before, back) refl in
          let kept : filter (λ (pair : ℕ × ℕ). eqb pair.1 need) (p ∷ ps) ≡ p ∷ filter (λ (pair : ℕ × ℕ). eqb pair.1 need) ps = rw t refl in
          let used : uses node (filter (λ (pair : ℕ × ℕ). eqb pair.1 need) (p ∷ ps)) ≡ one_if (eqb p.0 node) + uses node (filter (λ (pair : ℕ × ℕ). eqb pair.1 need) ps) = ap (uses node) kept ∙ uses-cons node p (filter (λ (pair : ℕ × ℕ). eqb pair.1 need) ps) in
          elim (cases_Bool (eqb p.0 node)) [
            | inl own ↦
                let a : one_if (eqb p.0 node && not (has_id p.1 done)) ≡ 1 = rw (own, before) refl in
                let b : one_if (eqb p.0 node && not (has_id p.1 (done ++ need ∷ []))) ≡ 0 = rw (own, after) refl in
                let c : one_if (eqb p.0 node) ≡ 1 = rw own refl in
                omega (arith, a, b, c, rest, old, less, used)
            | inr foreign ↦
                let a : one_if (eqb p.0 node && not (has_id p.1 done)) ≡ 0 = rw foreign refl in
                let b : one_if (eqb p.0 node && not (has_id p.1 (done ++ need ∷ []))) ≡ 0 = rw foreign refl in
                let c : one_if (eqb p.0 node) ≡ 0 = rw foreign refl in
                omega (arith, a, b, c, rest, old, less, used)
          ]
      | inr f ↦
          let other = eqb-false p.1 need f in
          let back : eqb need p.1 ≡ false = ne_eqb need p.1 (λ e. other (sym e)) in
          let same : has_id p.1 (done ++ need ∷ []) ≡ has_id p.1 done = has-append p.1 done (need ∷ []) ∙ rw back (elim (cases_Bool (has_id p.1 done)) [ inl h ↦ rw h refl | inr h ↦ rw h refl ]) in
          let left : filter (λ (pair : ℕ × ℕ). eqb pair.1 need) (p ∷ ps) ≡ filter (λ (pair : ℕ × ℕ). eqb pair.1 need) ps = rw f refl in
          let a : one_if (eqb p.0 node && not (has_id p.1 (done ++ need ∷ []))) ≡ one_if (eqb p.0 node && not (has_id p.1 done)) = ap (λ (b : Bool). one_if (eqb p.0 node && not b)) same in
          omega (arith, a, rest, old, less, ap (uses node) left)
    ]

-- with nothing left, each need is done
pub all_done : (done : List ℕ) (node : ℕ) (pairs : List (ℕ × ℕ)) → waits done node pairs ≡ 0 → (b : ℕ) → IsIn (node, b) pairs → IsIn b done
all_done done node [] none b h = absurd h
all_done done node (p ∷ ps) none b (inl e) =
    let own : eqb p.0 node ≡ true = eq-eqb p.0 node (ap (λ (q : ℕ × ℕ). q.0) e) in
    let need : p.1 ≡ b = ap (λ (q : ℕ × ℕ). q.1) e in
    elim (cases_Bool (has_id p.1 done)) [
      | inl t ↦ subst (λ (n : ℕ). IsIn n done) need (in_has p.1 done t)
      | inr f ↦
          let a : one_if (eqb p.0 node && not (has_id p.1 done)) ≡ 1 = rw (own, f) refl in
          absurd (omega (arith, a, none, waits-cons done node p ps))
    ]
all_done done node (p ∷ ps) none b (inr h) = all_done done node ps (omega (arith, none, waits-cons done node p ps)) b h

-- with something left, a need is not done
pub some_left : (done : List ℕ) (node : ℕ) (pairs : List (ℕ × ℕ)) → 0 < waits done node pairs → (b : ℕ) × IsIn (node, b) pairs × ¬ IsIn b done
some_left done node [] some = absurd (omega (arith, some, waits-nil done node))
some_left done node (p ∷ ps) some =
    let cons = waits-cons done node p ps in
    let later : one_if (eqb p.0 node && not (has_id p.1 done)) ≡ 0 → (b : ℕ) × IsIn (node, b) (p ∷ ps) × ¬ IsIn b done = λ none. (let q = some_left done node ps (omega (arith, none, some, cons)) in (q.0, inr q.1, q.2)) in
    elim (cases_Bool (eqb p.0 node)) [
      | inl own ↦ elim (cases_Bool (has_id p.1 done)) [
        | inl t ↦ later (rw (own, t) refl)
        | inr f ↦ (p.1, inl (ap (λ (n : ℕ). (n, p.1)) (eqb-true p.0 node own)), not_has p.1 done f)
      ]
      | inr foreign ↦ later (rw foreign refl)
    ]
