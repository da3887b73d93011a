-- What is reached along pairs, one number after the other.
use Rattle.std.proofs.Common.{◌≡◌, ◌≢◌, ℕ, zero, suc, ◌+◌, ◌≤◌, ◌<◌, Bool, true, false, not, ◌||◌, cond, eqb, List, [], ◌∷◌, ◌++◌, length, map, filter, take, get_or, set, count_by, replicate, refl, sym, ap, subst, ◌∙◌, arith, inl, inr, ◌⊎◌}
use Rattle.std.proofs.lemmas.Bool.{eqb-true, eq-eqb, ne_eqb}
use Rattle.std.proofs.lemmas.List.{length-map, length_push, append-nil, take_all, take_more, take-append-le}
use Rattle.std.proofs.lemmas.List.Elements.{filter-append}
use Rattle.std.proofs.lemmas.List.Sums.{sum_by-cons, sum_by-set}
use Rattle.hf_base.specs.Members.{IsIn, RisesFrom}
use Rattle.hf_order.proofs.Members.{at_in, in_filter, in_front, in_back, in_joined}
use Rattle.hf_table.specs.Held.{is_among}
use Rattle.hf_deps.specs.Reach.{IsClosed, AreMarked, IsMet, IsSpread}
use Rattle.hf_deps.proofs.Among.{among_in, in_among, passes, to_filter, above}

-- ---- marks

map_same : (t u : ℕ → Bool) (all : List ℕ) → ((x : ℕ) → IsIn x all → u x ≡ t x) → map t all ≡ map u all
map_same t u [] same = refl
map_same t u (x ∷ xs) same = ap (λ (b : Bool). b ∷ map t xs) (sym (same x (inl refl)))
    ∙ ap (λ (l : List Bool). u x ∷ l) (map_same t u xs (λ y h. same y (inr h)))

one_marked : (low : ℕ) (all : List ℕ) (k x : ℕ) (t u : ℕ → Bool) → RisesFrom ◌<◌ low all → k < length all → get_or all k 0 ≡ x → u x ≡ true
    → ((y : ℕ) → y ≢ x → u y ≡ t y) → set (map t all) k true ≡ map u all
one_marked low [] k x t u up less here passed same = absurd (omega arith)
one_marked low (y ∷ ys) zero x t u up less here passed same =
    let first : u y ≡ true = ap u here ∙ passed in
    ap (λ (b : Bool). b ∷ map t ys) (sym first)
    ∙ ap (λ (l : List Bool). u y ∷ l) (map_same t u ys (λ z h. same z (λ e. omega (arith, e, here, above y z ys up.1 h))))
one_marked low (y ∷ ys) (suc k) x t u up less here passed same =
    let later : y < get_or ys k 0 = above y (get_or ys k 0) ys up.1 (at_in ys k 0 (omega arith)) in
    ap (λ (b : Bool). b ∷ set (map t ys) k true) (sym (same y (λ e. omega (arith, e, here, later))))
    ∙ ap (λ (l : List Bool). u y ∷ l) (one_marked y ys k x t u up.1 (omega arith) here passed same)

at_map : (t : ℕ → Bool) (all : List ℕ) (k x : ℕ) (d : Bool) → k < length all → get_or all k 0 ≡ x → get_or (map t all) k d ≡ t x
at_map t [] k x d less here = absurd (omega arith)
at_map t (y ∷ ys) zero x d less here = ap t here
at_map t (y ∷ ys) (suc k) x d less here = at_map t ys k x d (omega arith) here

-- the mark at a place tells whether the number is reached
pub marked_at : (all : List ℕ) (marks : List Bool) (reached : List ℕ) (k x : ℕ) (d : Bool) → AreMarked all marks reached → k < length all → get_or all k 0 ≡ x
    → get_or marks k d ≡ is_among reached x
marked_at all marks reached k x d are less here = ap (λ (l : List Bool). get_or l k d) are.marks_are ∙ at_map (is_among reached) all k x d less here

pub marks_length : (all : List ℕ) (marks : List Bool) (reached : List ℕ) → AreMarked all marks reached → length marks ≡ length all
marks_length all marks reached are = ap length are.marks_are ∙ length-map all (is_among reached)

among_push : (x y : ℕ) (ids : List ℕ) → y ≢ x → is_among (ids ++ x ∷ []) y ≡ is_among ids y
among_push x y [] other = let failed : eqb y x ≡ false = ne_eqb y x other in rw failed refl
among_push x y (z ∷ zs) other = ap (λ (b : Bool). eqb y z || b) (among_push x y zs other)

abbrev open_at : Bool → ℕ
open_at b = cond (not b) 1 0

-- one more is marked
more_marked : (all : List ℕ) (marks : List Bool) (reached : List ℕ) (k x : ℕ) → RisesFrom ◌<◌ 0 all → AreMarked all marks reached → k < length all
    → get_or all k 0 ≡ x
    → get_or marks k false ≡ false → AreMarked all (set marks k true) (reached ++ x ∷ [])
more_marked all marks reached k x up are less here open' =
    let size = marks_length all marks reached are in
    let sums = sum_by-set open_at marks k true false (omega (arith, size, less)) in
    let old : open_at (get_or marks k false) ≡ 1 = rw open' refl in
    record {
      marks_are =
          ap (λ (l : List Bool). set l k true) are.marks_are
          ∙ one_marked 0 all k x (is_among reached) (is_among (reached ++ x ∷ [])) up less here
          (in_among x (reached ++ x ∷ []) (in_back x reached (x ∷ []) (inl refl)))
          (λ y other. among_push x y reached other);
      rest = omega (arith, are.rest, sums, old, length_push reached x);
    }

-- a number that is marked, and one that is not
pub met_again : (all : List ℕ) (marks : List Bool) (reached : List ℕ) (k x : ℕ) → AreMarked all marks reached → k < length all → get_or all k 0 ≡ x
    → get_or marks k false ≡ true → IsMet all x reached marks reached
met_again all marks reached k x are less here marked =
    record { marked = are; grows = inl refl; there = among_in x reached (sym (marked_at all marks reached k x false are less here) ∙ marked) }

pub met_first : (all : List ℕ) (marks : List Bool) (reached : List ℕ) (k x : ℕ) → RisesFrom ◌<◌ 0 all → AreMarked all marks reached → k < length all
    → get_or all k 0 ≡ x
    → get_or marks k false ≡ false → IsMet all x reached (set marks k true) (reached ++ x ∷ [])
met_first all marks reached k x up are less here open' =
    record { marked = more_marked all marks reached k x up are less here open'; grows = inr refl; there = in_back x reached (x ∷ []) (inl refl) }

-- nothing is reached
none_are : (all : List ℕ) → replicate (length all) false ≡ map (is_among []) all
none_are [] = refl
none_are (x ∷ xs) = ap (λ (l : List Bool). false ∷ l) (none_are xs)

none_counted : (all : List ℕ) → count_by not (map (is_among []) all) ≡ length all
none_counted [] = refl
none_counted (x ∷ xs) = omega (arith, none_counted xs, sum_by-cons open_at false (map (is_among []) xs))

pub none_marked : (all : List ℕ) (n : ℕ) → n ≡ length all → AreMarked all (replicate n false) []
none_marked all n size =
    let are : replicate n false ≡ map (is_among []) all = ap (λ (m : ℕ). replicate m false) size ∙ none_are all in
    record { marks_are = are; rest = omega (arith, ap (count_by not) are, none_counted all) }

-- the first number is reached
pub first_met : (all : List ℕ) (x : ℕ) (marks : List Bool) (new : List ℕ) → IsMet all x [] marks new → new ≡ x ∷ []
first_met all x marks new met = elim met.grows [ inl none ↦ absurd (subst (IsIn x) none met.there) | inr one ↦ one ]

-- ---- ids that are marked

pub picked : (test : ℕ → Bool) (all : List ℕ) (marks : List Bool) (i x : ℕ) (old : List ℕ) → marks ≡ map test all → i < length all → get_or all i 0 ≡ x
    → old ≡ filter test (take i all) → get_or marks i false ≡ true → old ++ x ∷ [] ≡ filter test (take (i + 1) all)
picked test all marks i x old are less here so_far marked =
    let holds : test x ≡ true = sym (at_map test all i x false less here) ∙ ap (λ (l : List Bool). get_or l i false) (sym are) ∙ marked in
    let one : filter test (x ∷ []) ≡ x ∷ [] = rw holds refl in
    let more : take (i + 1) all ≡ take i all ++ x ∷ [] = take_more all i 0 less ∙ ap (λ (y : ℕ). take i all ++ y ∷ []) here in
    ap (λ (l : List ℕ). l ++ x ∷ []) so_far ∙ ap (λ (l : List ℕ). filter test (take i all) ++ l) (sym one) ∙ sym (filter-append test (take i all) (x ∷ []))
    ∙ ap (filter test) (sym more)

pub passed_over : (test : ℕ → Bool) (all : List ℕ) (marks : List Bool) (i x : ℕ) (old : List ℕ) → marks ≡ map test all → i < length all → get_or all i 0 ≡ x
    → old ≡ filter test (take i all) → get_or marks i false ≡ false → old ≡ filter test (take (i + 1) all)
passed_over test all marks i x old are less here so_far unmarked =
    let fails : test x ≡ false = sym (at_map test all i x false less here) ∙ ap (λ (l : List Bool). get_or l i false) (sym are) ∙ unmarked in
    let none : filter test (x ∷ []) ≡ [] = rw fails refl in
    let more : take (i + 1) all ≡ take i all ++ x ∷ [] = take_more all i 0 less ∙ ap (λ (y : ℕ). take i all ++ y ∷ []) here in
    so_far ∙ sym (append-nil (filter test (take i all))) ∙ ap (λ (l : List ℕ). filter test (take i all) ++ l) (sym none)
    ∙ sym (filter-append test (take i all) (x ∷ [])) ∙ ap (filter test) (sym more)

-- ---- pairs

-- the first is reached
pub begun : (pairs : List (ℕ × ℕ)) (first : ℕ) → IsSpread pairs [] first 0 (first ∷ [])
begun pairs first = record {
  begun = omega arith;
  starts = inl refl;
  least = λ set has closed id h. elim h [ inl e ↦ subst (λ (n : ℕ). IsIn n set) e has | inr none ↦ absurd none ];
  met = λ a b h pair. absurd h;
  ahead = λ pair h. absurd h;
}

abbrev users_of : ℕ → List (ℕ × ℕ) → List (ℕ × ℕ)
users_of by pairs = filter (λ (pair : ℕ × ℕ). eqb pair.1 by) pairs

-- the next one is taken
pub taken : (pairs : List (ℕ × ℕ)) (first done : ℕ) (reached : List ℕ) → done < length reached → IsSpread pairs [] first done reached
    → IsSpread pairs (users_of (get_or reached done 0) pairs) first (done + 1) reached
taken pairs first done reached less way =
    let by = get_or reached done 0 in
    let test : ℕ × ℕ → Bool = λ pair. eqb pair.1 by in
    let here : IsIn by reached = at_in reached done 0 less in
    record {
      begun = omega arith;
      starts = way.starts;
      least = way.least;
      met = λ a b h pair.
          let split : IsIn a (take done reached ++ by ∷ []) = subst (IsIn a) (take_more reached done 0 less) h in
          elim (in_joined a (take done reached) (by ∷ []) split) [
            | inl old ↦ elim (way.met a b old pair) [ inl there ↦ inl there | inr none ↦ absurd none ]
            | inr new ↦ elim new [ inl e ↦ inr (to_filter test pairs (b, a) (eq-eqb a by (sym e)) pair) | inr none ↦ absurd none ]
          ];
      ahead = λ pair h.
          let same : pair.1 ≡ by = eqb-true pair.1 by (passes test pairs pair h) in
          (in_filter test pairs pair h, subst (λ (n : ℕ). IsIn n reached) (sym same) here);
    }

-- one more member where a list grows
in_grown : (x y : ℕ) (old new : List ℕ) → (new ≡ old) ⊎ (new ≡ old ++ x ∷ []) → IsIn y old → IsIn y new
in_grown x y old new (inl same) h = subst (IsIn y) (sym same) h
in_grown x y old new (inr more) h = subst (IsIn y) (sym more) (in_front y old (x ∷ []) h)

of_grown : (x y : ℕ) (old new : List ℕ) → (new ≡ old) ⊎ (new ≡ old ++ x ∷ []) → IsIn y new → IsIn y old ⊎ (x ≡ y)
of_grown x y old new (inl same) h = inl (subst (IsIn y) same h)
of_grown x y old new (inr more) h =
    elim (in_joined y old (x ∷ []) (subst (IsIn y) more h)) [ inl k ↦ inl k | inr k ↦ elim k [ inl e ↦ inr e | inr none ↦ absurd none ] ]

front_grown : (x done : ℕ) (old new : List ℕ) → (new ≡ old) ⊎ (new ≡ old ++ x ∷ []) → done ≤ length old → take done new ≡ take done old
front_grown x done old new (inl same) le = ap (take done) same
front_grown x done old new (inr more) le = ap (take done) more ∙ take-append-le done old (x ∷ []) le

longer_grown : (x : ℕ) (old new : List ℕ) → (new ≡ old) ⊎ (new ≡ old ++ x ∷ []) → length old ≤ length new
longer_grown x old new (inl same) = omega (arith, ap length same)
longer_grown x old new (inr more) = omega (arith, ap length more, length_push old x)

-- one pair is followed
pub followed : (pairs users : List (ℕ × ℕ)) (p : ℕ × ℕ) (first done : ℕ) (old new : List ℕ) → (new ≡ old) ⊎ (new ≡ old ++ p.0 ∷ []) → IsIn p.0 new
    → IsSpread pairs (p ∷ users) first done old → IsSpread pairs users first done new
followed pairs users p first done old new grows there way =
    let here = way.ahead p (inl refl) in
    record {
      begun = omega (arith, way.begun, longer_grown p.0 old new grows);
      starts = in_grown p.0 first old new grows way.starts;
      least = λ set has closed id h. elim (of_grown p.0 id old new grows h) [
        | inl k ↦ way.least set has closed id k
        | inr e ↦ subst (λ (n : ℕ). IsIn n set) e (closed p.1 p.0 (way.least set has closed p.1 here.1) here.0)
      ];
      met = λ a b h pair.
          let front : IsIn a (take done old) = subst (IsIn a) (front_grown p.0 done old new grows way.begun) h in
          elim (way.met a b front pair) [
            | inl k ↦ inl (in_grown p.0 b old new grows k)
            | inr k ↦ elim k [ inl e ↦ inl (subst (λ (q : ℕ × ℕ). IsIn q.0 new) e there) | inr later ↦ inr later ]
          ];
      ahead = λ pair h. let old_ahead = way.ahead pair (inr h) in (old_ahead.0, in_grown p.0 pair.1 old new grows old_ahead.1);
    }

-- all are done
pub complete : (pairs : List (ℕ × ℕ)) (first done : ℕ) (reached : List ℕ) → length reached ≤ done → IsSpread pairs [] first done reached
    → IsClosed pairs reached
complete pairs first done reached all way a b h pair =
    let front : IsIn a (take done reached) = subst (IsIn a) (sym (take_all done reached all)) h in
    elim (way.met a b front pair) [ inl k ↦ k | inr none ↦ absurd none ]
