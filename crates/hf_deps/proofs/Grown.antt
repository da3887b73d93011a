-- What is reached along pairs, after as many steps as there are numbers.
use Rattle.std.proofs.Common.{◌≡◌, ℕ, zero, suc, ◌+◌, ◌≤◌, ◌<◌, Bool, true, false, ◌||◌, List, [], ◌∷◌, length, filter, refl, sym, ap, subst, ◌∙◌, arith, inl, inr, ◌⊎◌}
use Rattle.std.proofs.lemmas.Bool.{cases_Bool}
use Rattle.hf_base.specs.Members.{IsIn, RisesFrom}
use Rattle.hf_order.proofs.Members.{in_map, from_map, in_filter}
use Rattle.hf_table.specs.Held.{is_among}
use Rattle.hf_deps.specs.Reach.{IsClosed, reached_from, among_either, grown}
use Rattle.hf_deps.proofs.Among.{among_in, in_among, passes, to_filter, some_in, filter_rises}

abbrev leads : List ℕ → ℕ × ℕ → Bool
leads ids pair = is_among ids pair.1

abbrev first_of : ℕ × ℕ → ℕ
first_of pair = pair.0

reached_by : (pairs : List (ℕ × ℕ)) (ids : List ℕ) (x : ℕ) → IsIn x (reached_from pairs ids) → (a : ℕ) × IsIn a ids × IsIn (x, a) pairs
reached_by pairs ids x h =
    let from = from_map first_of (filter (leads ids) pairs) x h in
    let pair = from.0 in
    let there : IsIn (pair.0, pair.1) pairs = in_filter (leads ids) pairs pair from.1 in
    (pair.1, among_in pair.1 ids (passes (leads ids) pairs pair from.1), subst (λ (n : ℕ). IsIn (n, pair.1) pairs) from.2 there)

reaches : (pairs : List (ℕ × ℕ)) (ids : List ℕ) (x a : ℕ) → IsIn a ids → IsIn (x, a) pairs → IsIn x (reached_from pairs ids)
reaches pairs ids x a among there = in_map first_of (filter (leads ids) pairs) (x, a) (to_filter (leads ids) pairs (x, a) (in_among a ids among) there)

-- ---- one step

abbrev either : List ℕ → List ℕ → ℕ → Bool
either these those id = is_among these id || is_among those id

left_or : (a b : Bool) → a ≡ true → (a || b) ≡ true
left_or true b e = refl
left_or false b e = absurd cc

right_or : (a b : Bool) → b ≡ true → (a || b) ≡ true
right_or true b e = refl
right_or false b e = e

one_of : (a b : Bool) → (a || b) ≡ true → (a ≡ true) ⊎ (b ≡ true)
one_of true b e = inl refl
one_of false b e = inr e

abbrev stepped : List (ℕ × ℕ) → List ℕ → List ℕ → List ℕ
stepped pairs all ids = among_either all ids (reached_from pairs ids)

step_has : (pairs : List (ℕ × ℕ)) (all ids : List ℕ) (x : ℕ) → IsIn x all → IsIn x ids → IsIn x (stepped pairs all ids)
step_has pairs all ids x there h = to_filter (either ids (reached_from pairs ids)) all x (left_or _ _ (in_among x ids h)) there

step_reaches : (pairs : List (ℕ × ℕ)) (all ids : List ℕ) (x a : ℕ) → IsIn x all → IsIn a ids → IsIn (x, a) pairs → IsIn x (stepped pairs all ids)
step_reaches pairs all ids x a there h pair =
    let more = reached_from pairs ids in
    to_filter (either ids more) all x (right_or (is_among ids x) (is_among more x) (in_among x more (reaches pairs ids x a h pair))) there

stepped_in : (pairs : List (ℕ × ℕ)) (all ids : List ℕ) (x : ℕ) → IsIn x (stepped pairs all ids) → IsIn x ids ⊎ ((a : ℕ) × IsIn a ids × IsIn (x, a) pairs)
stepped_in pairs all ids x h =
    let more = reached_from pairs ids in
    elim (one_of (is_among ids x) (is_among more x) (passes (either ids more) all x h)) [
      | inl old ↦ inl (among_in x ids old)
      | inr new ↦ inr (reached_by pairs ids x (among_in x more new))
    ]

-- ---- steps keep what is closed, and what is there

pub grown_sound : (P : ℕ → Type 0) (pairs : List (ℕ × ℕ)) (all : List ℕ) → ((a b : ℕ) → P a → IsIn (b, a) pairs → P b)
    → (n : ℕ) (ids : List ℕ) → ((x : ℕ) → IsIn x ids → P x) → (x : ℕ) → IsIn x (grown pairs all n ids) → P x
unfolding grown
grown_sound P pairs all step zero ids each x h = each x h
grown_sound P pairs all step (suc n) ids each x h =
    grown_sound P pairs all step n (stepped pairs all ids)
    (λ y k. elim (stepped_in pairs all ids y k) [ inl old ↦ each y old | inr new ↦ step new.0 y (each new.0 new.1) new.2 ]) x h

pub grown_has : (pairs : List (ℕ × ℕ)) (all : List ℕ) (n : ℕ) (ids : List ℕ) (x : ℕ) → IsIn x all → IsIn x ids → IsIn x (grown pairs all n ids)
unfolding grown
grown_has pairs all zero ids x there h = h
grown_has pairs all (suc n) ids x there h = grown_has pairs all n (stepped pairs all ids) x there (step_has pairs all ids x there h)

pub grown_rises : (pairs : List (ℕ × ℕ)) (all : List ℕ) (n low : ℕ) (ids : List ℕ) → RisesFrom ◌<◌ low all → RisesFrom ◌<◌ low ids
    → RisesFrom ◌<◌ low (grown pairs all n ids)
unfolding grown
grown_rises pairs all zero low ids whole up = up
grown_rises pairs all (suc n) low ids whole up = grown_rises pairs all n low (stepped pairs all ids) whole
    (filter_rises (either ids (reached_from pairs ids)) low all whole)

-- ---- enough steps

-- where one test passes what another does, both pass the same, or it passes more
same_or_more : (t u : ℕ → Bool) (all : List ℕ) → ((x : ℕ) → IsIn x all → t x ≡ true → u x ≡ true)
    → (filter t all ≡ filter u all) ⊎ (length (filter t all) < length (filter u all))
same_or_more t u [] wider = inl refl
same_or_more t u (x ∷ xs) wider =
    let rest = same_or_more t u xs (λ y h. wider y (inr h)) in
    elim (cases_Bool (t x)) [
      | inl passed ↦
          let too = wider x (inl refl) passed in
          rw (passed, too) (elim rest [ inl e ↦ inl (ap (λ (l : List ℕ). x ∷ l) e) | inr more ↦ inr (omega (arith, more)) ])
      | inr failed ↦ elim (cases_Bool (u x)) [
        | inl new ↦ rw (failed, new) (inr (elim rest [ inl e ↦ omega (arith, ap length e) | inr more ↦ omega (arith, more) ]))
        | inr none ↦ rw (failed, none) rest
      ]
    ]

fewer : (t : ℕ → Bool) (all : List ℕ) → length (filter t all) ≤ length all
fewer t [] = omega arith
fewer t (x ∷ xs) =
    let rest = fewer t xs in
    elim (cases_Bool (t x)) [ inl passed ↦ rw passed (omega (arith, rest)) | inr failed ↦ rw failed (omega (arith, rest)) ]

whole : (t : ℕ → Bool) (all : List ℕ) → length all ≤ length (filter t all) → filter t all ≡ all
whole t [] le = refl
whole t (x ∷ xs) le = elim (cases_Bool (t x)) [
  | inl passed ↦
      let more : suc (length xs) ≤ suc (length (filter t xs)) = rw passed at le in
      rw passed (ap (λ (l : List ℕ). x ∷ l) (whole t xs (omega (arith, more))))
  | inr failed ↦ let more : suc (length xs) ≤ length (filter t xs) = rw failed at le in absurd (omega (arith, more, fewer t xs))
]

stable : (pairs : List (ℕ × ℕ)) (all ids : List ℕ) → stepped pairs all ids ≡ ids → (n : ℕ) → grown pairs all n ids ≡ ids
unfolding grown
stable pairs all ids same zero = refl
stable pairs all ids same (suc n) = ap (grown pairs all n) same ∙ stable pairs all ids same n

module _ (pairs : List (ℕ × ℕ)) (all : List ℕ) (ends : (a b : ℕ) → IsIn (b, a) pairs → IsIn b all) where
  closed_after : (n : ℕ) (t : ℕ → Bool) → length all ≤ n + length (filter t all) → IsClosed pairs (grown pairs all n (filter t all))
  unfolding grown
  closed_after zero t enough = λ a b h pair. subst (IsIn b) (sym (whole t all (omega (arith, enough)))) (ends a b pair)
  closed_after (suc n) t enough =
      let ids = filter t all in
      let u = either ids (reached_from pairs ids) in
      elim (same_or_more t u all (λ x there passed. left_or _ _ (in_among x ids (to_filter t all x passed there)))) [
        | inl same ↦
            let still : grown pairs all (suc n) ids ≡ ids = stable pairs all ids (sym same) (suc n) in
            let closed : IsClosed pairs ids = λ a b h pair. subst (IsIn b) (sym same) (step_reaches pairs all ids b a (ends a b pair) h pair) in
            subst (IsClosed pairs) (sym still) closed
        | inr more ↦ closed_after n u (omega (arith, enough, more))
      ]

  pub grown_closed : (n first : ℕ) → IsIn first all → length all ≤ n → IsClosed pairs (grown pairs all n (first ∷ []))
  unfolding grown
  grown_closed zero first there enough = absurd (omega (arith, enough, some_in first all there))
  grown_closed (suc n) first there enough =
      let u = either (first ∷ []) (reached_from pairs (first ∷ [])) in
      closed_after n u (omega (arith, enough, some_in first (filter u all) (step_has pairs all (first ∷ []) first there (inl refl))))
