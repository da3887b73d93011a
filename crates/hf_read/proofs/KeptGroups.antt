-- The groups that a store keeps: they rise by id, and are what is left of those that stay.
use Rattle.std.proofs.Common.{◌≡◌, ℕ, suc, ◌≤◌, ◌<◌, Bool, true, false, not, ◌||◌, eqb, List, [], ◌∷◌, length, map, refl, sym, ap, subst, ◌∙◌, arith, inl, inr, ◌⊎◌}
use Rattle.std.specs.List.{AllByRecursion, filter}
use Rattle.std.proofs.lemmas.Bool.{cases_Bool, and_parts, or_cases, eqb-true, eq-eqb}
use Rattle.hf_base.specs.Entries.{has_id, are_distinct}
use Rattle.hf_base.specs.Members.{IsIn, Rises}
use Rattle.hf_links.specs.Grpl.{Group}
use Rattle.hf_order.proofs.Members.{in_map, from_map, in_filter, in_has, has_in, has_not, not_has}
use Rattle.hf_store.specs.Lists.{not_empty}
use Rattle.hf_read.specs.Kept.{left_of, is_kept_group, kept_groups, Stays, IsLeft}
use Rattle.hf_read.proofs.Filters.{not_true, some_length, passes, passed}
use Rattle.hf_read.proofs.RisingLaws.{from_rising, in_rising, rising_rises}

abbrev id_of : Group → ℕ
id_of g = g.id

-- ---- distinct ids

distinct_filter : (test : Group → Bool) (groups : List Group) → are_distinct (map id_of groups) ≡ true → are_distinct (map id_of (filter test groups)) ≡ true
distinct_filter test [] distinct = refl
distinct_filter test (g ∷ gs) distinct =
    let p = and_parts (not (has_id g.id (map id_of gs))) (are_distinct (map id_of gs)) distinct in
    let more = distinct_filter test gs p.1 in
    elim (cases_Bool (test g)) [
      | inl t ↦
          let new : has_id g.id (map id_of (filter test gs)) ≡ false = has_not g.id (map id_of (filter test gs)) (λ h.
          let m = from_map id_of (filter test gs) g.id h in
          not_has g.id (map id_of gs) (not_true (has_id g.id (map id_of gs)) p.0) (subst (λ (n : ℕ). IsIn n (map id_of gs)) m.2 (in_map id_of gs m.0 (in_filter test gs m.0 m.1)))) in
          let whole : filter test (g ∷ gs) ≡ g ∷ filter test gs = rw t refl in
          subst (λ (l : List Group). are_distinct (map id_of l) ≡ true) (sym whole) (rw (new, more) refl)
      | inr f ↦
          let rest : filter test (g ∷ gs) ≡ filter test gs = rw f refl in
          subst (λ (l : List Group). are_distinct (map id_of l) ≡ true) (sym rest) more
    ]

same_ids : (ids : List ℕ) (groups : List Group) → map id_of (map (left_of ids) groups) ≡ map id_of groups
same_ids ids [] = refl
same_ids ids (g ∷ gs) = ap (λ (l : List ℕ). g.id ∷ l) (same_ids ids gs)

-- what is left of those that are kept
pub left_distinct : (ids : List ℕ) (groups : List Group) → are_distinct (map (λ (g : Group). g.id) groups) ≡ true
    → are_distinct (map (λ (g : Group). g.id) (map (left_of ids) (filter (is_kept_group ids) groups))) ≡ true
left_distinct ids groups distinct =
    ap are_distinct (same_ids ids (filter (is_kept_group ids) groups)) ∙ distinct_filter (is_kept_group ids) groups distinct

pub groups_rise : (ids : List ℕ) (groups : List Group) → are_distinct (map (λ (g : Group). g.id) groups) ≡ true
    → Rises ◌<◌ (map (λ (g : Group). g.id) (kept_groups ids groups))
unfolding kept_groups
groups_rise ids groups distinct = rising_rises id_of (map (left_of ids) (filter (is_kept_group ids) groups)) (left_distinct ids groups distinct)

-- ---- each group

-- a group that is kept is what is left of one
pub left_group : (ids : List ℕ) (groups : List Group) (g : Group) → IsIn g (kept_groups ids groups) → (whole : Group) × IsIn whole groups × (left_of ids whole ≡ g) × (is_kept_group ids whole ≡ true)
unfolding kept_groups
left_group ids groups g h =
    let m = from_map (left_of ids) (filter (is_kept_group ids) groups) g (from_rising id_of (map (left_of ids) (filter (is_kept_group ids) groups)) g h) in
    (m.0, in_filter (is_kept_group ids) groups m.0 m.1, m.2, passed (is_kept_group ids) groups m.0 m.1)

pub some_left : (ids : List ℕ) (g : Group) → is_kept_group ids g ≡ true → 0 < length (left_of ids g).entities
some_left ids g kept =
    let p = and_parts (not_empty (left_of ids g).entities) ((eqb (length (left_of ids g).entities) (length g.entities)) || not (not_empty g.tail)) kept in
    some_length (left_of ids g).entities p.0

pub left_items : (ids : List ℕ) (g : Group) (id : ℕ) → IsIn id (left_of ids g).entities → IsIn id ids
left_items ids g id h = in_has id ids (passed (λ x. has_id x ids) g.entities id h)

-- ---- which groups are kept

fewer : (ids xs : List ℕ) → length (filter (λ id. has_id id ids) xs) ≤ length xs
fewer ids [] = omega arith
fewer ids (x ∷ xs) = let le = fewer ids xs in elim (cases_Bool (has_id x ids)) [ inl t ↦ rw t (omega arith) | inr f ↦ rw f (omega arith) ]

all_left : (ids xs : List ℕ) → length (filter (λ id. has_id id ids) xs) ≡ length xs → AllByRecursion (λ id. IsIn id ids) xs
all_left ids [] e = tt
all_left ids (x ∷ xs) e = elim (cases_Bool (has_id x ids)) [
  | inl t ↦
      let whole : suc (length (filter (λ id. has_id id ids) xs)) ≡ suc (length xs) = sym (rw t refl) ∙ e in
      (in_has x ids t, all_left ids xs (omega (arith, whole)))
  | inr f ↦
      let less : length (filter (λ id. has_id id ids) xs) ≡ suc (length xs) = sym (rw f refl) ∙ e in
      let le = fewer ids xs in
      absurd (omega (arith, less, le))
]

left_all : (ids xs : List ℕ) → AllByRecursion (λ id. IsIn id ids) xs → length (filter (λ id. has_id id ids) xs) ≡ length xs
left_all ids [] all = refl
left_all ids (x ∷ xs) all = let t = has_in x ids all.0 in rw t (ap suc (left_all ids xs all.1))

empty_tail : (bytes : List ℕ) → not (not_empty bytes) ≡ true → bytes ≡ []
empty_tail [] e = refl
empty_tail (b ∷ bs) e = absurd cc

length_some : (xs : List ℕ) → 0 < length xs → not_empty xs ≡ true
length_some [] lt = absurd (omega (arith, lt))
length_some (x ∷ xs) lt = refl

kept_stays : (ids : List ℕ) (g : Group) → is_kept_group ids g ≡ true → Stays ids g
kept_stays ids g kept =
    let left = (left_of ids g).entities in
    let p = and_parts (not_empty left) ((eqb (length left) (length g.entities)) || not (not_empty g.tail)) kept in
    let why : AllByRecursion (λ id. IsIn id ids) g.entities ⊎ (g.tail ≡ []) = elim (or_cases (eqb (length left) (length g.entities)) (not (not_empty g.tail)) p.1) [
      | inl all ↦ inl (all_left ids g.entities (eqb-true (length left) (length g.entities) all))
      | inr none ↦ inr (empty_tail g.tail none)
    ] in
    (some_length left p.0, why)

stays_kept : (ids : List ℕ) (g : Group) → Stays ids g → is_kept_group ids g ≡ true
stays_kept ids g (some, inl all) =
    let left = (left_of ids g).entities in
    let a = length_some left some in
    let b = eq-eqb (length left) (length g.entities) (left_all ids g.entities all) in
    rw (a, b) refl
stays_kept ids g (some, inr none) =
    let left = (left_of ids g).entities in
    let a = length_some left some in
    let b : not (not_empty g.tail) ≡ true = rw none refl in
    elim (cases_Bool (eqb (length left) (length g.entities))) [ inl t ↦ rw (a, t) refl | inr f ↦ rw (a, f, b) refl ]

pub kept_left : (ids : List ℕ) (groups : List Group) (g : Group) → IsIn g (kept_groups ids groups) → IsLeft ids groups g
kept_left ids groups g h = let l = left_group ids groups g h in (l.0, l.1, l.2, kept_stays ids l.0 l.3)

pub left_kept : (ids : List ℕ) (groups : List Group) (g : Group) → IsLeft ids groups g → IsIn g (kept_groups ids groups)
unfolding kept_groups
left_kept ids groups g (whole, among, is, stays) =
    let kept = passes (is_kept_group ids) groups whole among (stays_kept ids whole stays) in
    let there = in_map (left_of ids) (filter (is_kept_group ids) groups) whole kept in
    in_rising id_of (map (left_of ids) (filter (is_kept_group ids) groups)) g (subst (λ (x : Group). IsIn x (map (left_of ids) (filter (is_kept_group ids) groups))) is there)
