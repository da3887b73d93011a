-- The properties that an item holds: those that its associations select, at most 255, and few distinct ones in all.
use Rattle.std.proofs.Common.{◌≡◌, ℕ, zero, suc, ◌≤◌, ◌<◌, Bool, true, false, not, eqb, List, [], ◌∷◌, ◌++◌, length, length-append, take, Option, Some, None, refl, sym, ap, subst, ◌∙◌, arith, inl, inr, ◌⊎◌}
use Rattle.std.specs.Prelude.{slice_get}
use Rattle.std.specs.List.{filter, flat_map, fold, list_any}
use Rattle.std.specs.Option.{option_map, option_to_list}
use Rattle.std.proofs.lemmas.Bool.{cases_Bool, and_parts, eqb-true}
use Rattle.std.proofs.lemmas.List.{append-nil}
use Rattle.std.proofs.lemmas.List.Concat.{flat_map-cons}
use Rattle.hf_base.specs.Entries.{has_id, are_distinct}
use Rattle.hf_base.specs.Members.{IsIn}
use Rattle.hf_order.proofs.Members.{in_all, from_map, in_front, in_back, in_joined, in_take}
use Rattle.hf_prop.specs.declared.held.Held.{Held}
use Rattle.hf_prop.specs.declared.assoc.Assoc.{Assoc}
use Rattle.hf_prop.specs.declared.assoc.Pick.{Pick}
use Rattle.hf_prop.specs.declared.iprp.Iprp.{Iprp}
use Rattle.hf_prop.specs.declared.prop.Prop.{Prop}
use Rattle.hf_prop.specs.Ipma.{assoc_ids}
use Rattle.hf_store.specs.Picks.{SelectsOne, Selects}
use Rattle.hf_store.specs.Store.{Item, ItemStore}
use Rattle.hf_store.specs.Table.{same_prop, props_of, with_prop, table_of}
use Rattle.hf_store.proofs.Tables.{same_prop-self}
use Rattle.hf_read.specs.Denotes.{PicksAreProps}
use Rattle.hf_read.specs.Kept.{picks_of, prop_at, held_at, kept_props}
use Rattle.hf_read.proofs.Filters.{not_true, from_flat}
use Rattle.hf_read.proofs.PartFaults.{from_picks}
use Rattle.hf_read.proofs.RecordParts.{IsGoodIprp}

-- ---- one association

abbrev held_of : Bool → Option Prop → List Held
held_of essential o = option_to_list (option_map (λ (prop : Prop). record { essential = essential; prop = prop }) o)

few_held : (essential : Bool) (o : Option Prop) → length (held_of essential o) ≤ 1
few_held essential None = omega arith
few_held essential (Some p) = omega arith

some_held : (essential : Bool) (o : Option Prop) (h : Held) → IsIn h (held_of essential o) → o ≡ Some h.prop
some_held essential None h among = absurd among
some_held essential (Some p) h (inl e) = ap (λ (x : Held). Some x.prop) e
some_held essential (Some p) h (inr more) = absurd more

numbered : (n : ℕ) (props : List Prop) (p : Prop) → prop_at n props ≡ Some p → (k : ℕ) × (n ≡ suc k) × (slice_get props k ≡ Some p)
numbered zero props p e = absurd cc
numbered (suc k) props p e = (k, refl, e)

-- a property that is held is that of an association
from_held : (v : Iprp) (id : ℕ) (h : Held) → IsIn h (kept_props v id) → (p : Pick) × (k : ℕ) × IsIn p (picks_of id v.assocs) × (p.index ≡ suc k) × (slice_get v.props k ≡ Some h.prop)
unfolding kept_props
from_held v id h among =
    let r = from_flat (held_at v.props) (picks_of id v.assocs) h among in
    let n = numbered r.0.index v.props h.prop (some_held r.0.essential (prop_at r.0.index v.props) h r.2) in
    (r.0, n.0, r.1, n.1, n.2)

-- ---- at most 255

few_flat : (props : List Prop) (ps : List Pick) → length (flat_map (held_at props) ps) ≤ length ps
few_flat props [] = omega arith
few_flat props (p ∷ ps) =
    let one = few_held p.essential (prop_at p.index props) in
    let more = few_flat props ps in
    let all = ap length (flat_map-cons (held_at props) p ps) in
    let sum = length-append (held_at props p) (flat_map (held_at props) ps) in
    omega (arith, one, more, all, sum)

none_other : (id : ℕ) (assocs : List Assoc) → has_id id (assoc_ids assocs) ≡ false → filter (λ (a : Assoc). eqb a.item id) assocs ≡ []
none_other id [] h = refl
none_other id (a ∷ rest) h = elim (cases_Bool (eqb a.item id)) [
  | inl t ↦ absurd (let e : true ≡ false = sym (rw t refl) ∙ h in cc)
  | inr f ↦ rw f (none_other id rest (sym (rw f refl) ∙ h))
]

few_picks : (id : ℕ) (assocs : List Assoc) → are_distinct (assoc_ids assocs) ≡ true → ((a : Assoc) → IsIn a assocs → length a.picks < 256) → length (picks_of id assocs) ≤ 255
few_picks id [] distinct few = omega arith
few_picks id (a ∷ rest) distinct few =
    let p = and_parts (not (has_id a.item (assoc_ids rest))) (are_distinct (assoc_ids rest)) distinct in
    elim (cases_Bool (eqb a.item id)) [
      | inl t ↦
          let other : has_id id (assoc_ids rest) ≡ false = ap (λ (n : ℕ). has_id n (assoc_ids rest)) (sym (eqb-true a.item id t)) ∙ not_true (has_id a.item (assoc_ids rest)) p.0 in
          let whole : picks_of id (a ∷ rest) ≡ flat_map (λ (x : Assoc). x.picks) (a ∷ []) = rw (t, none_other id rest other) refl in
          let len : length (picks_of id (a ∷ rest)) ≡ length a.picks = ap length (whole ∙ flat_map-cons (λ (x : Assoc). x.picks) a [] ∙ append-nil a.picks) in
          let lt = few a (inl refl) in
          omega (arith, len, lt)
      | inr f ↦
          let rest_is : picks_of id (a ∷ rest) ≡ picks_of id rest = rw f refl in
          let le = few_picks id rest p.1 (λ b h. few b (inr h)) in
          omega (arith, ap length rest_is, le)
    ]

pub few_props : (v : Iprp) (id : ℕ) → IsGoodIprp v → length (kept_props v id) ≤ 255
unfolding kept_props
few_props v id good =
    let a = few_flat v.props (picks_of id v.assocs) in
    let b = few_picks id v.assocs good.distinct good.few in
    omega (arith, a, b)

-- ---- where they stand

got_in : (xs : List Prop) (k most : ℕ) (x : Prop) → slice_get xs k ≡ Some x → k < most → IsIn x (take most xs)
got_in [] k most x e lt = absurd cc
got_in (y ∷ ys) k zero x e lt = absurd (omega (arith, lt))
got_in (y ∷ ys) zero (suc most) x e lt = let is : y ≡ x = (let h : Some y ≡ Some x = e in cc) in inl is
got_in (y ∷ ys) (suc k) (suc most) x e lt = inr (got_in ys k most x e (omega (arith, lt)))

-- among the first 32,767 properties
pub held_in : (v : Iprp) (id : ℕ) (h : Held) → IsGoodIprp v → IsIn h (kept_props v id) → IsIn h.prop (take 32767 v.props)
held_in v id h good among =
    let r = from_held v id h among in
    let a = from_picks v.assocs id r.0 r.2 in
    let below = good.below a.0 r.0 a.1 a.3 in
    got_in v.props r.1 32767 h.prop r.4 (omega (arith, below, r.3))

pub held_kind : (v : Iprp) (id : ℕ) (h : Held) → IsGoodIprp v → IsIn h (kept_props v id) → length h.prop.kind.0 ≡ 4
held_kind v id h good among = good.kinds h.prop (in_take h.prop 32767 v.props (held_in v id h good among))

-- ---- they are selected

got_some : (xs : List Prop) (k : ℕ) → k < length xs → (x : Prop) × (slice_get xs k ≡ Some x)
got_some [] k lt = absurd (omega (arith, lt))
got_some (x ∷ xs) zero lt = (x, refl)
got_some (x ∷ xs) (suc k) lt = got_some xs k (omega (arith, lt))

selects_one : (props : List Prop) (essential : Bool) (n : ℕ) (further : List Held) → n ≤ length props → SelectsOne props essential n (held_of essential (prop_at n props) ++ further) further
selects_one props essential zero further le = refl
selects_one props essential (suc k) further le =
    let s = got_some props k (omega (arith, le)) in
    (s.0, s.1, ap (λ (o : Option Prop). held_of essential o ++ further) s.1)

selects_all : (props : List Prop) (ps : List Pick) → ((p : Pick) → IsIn p ps → p.index ≤ length props) → Selects props ps (flat_map (held_at props) ps)
selects_all props [] within = refl
selects_all props (p ∷ ps) within =
    let further = flat_map (held_at props) ps in
    let one = selects_one props p.essential p.index further (within p (inl refl)) in
    (further, subst (λ (l : List Held). SelectsOne props p.essential p.index l further) (sym (flat_map-cons (held_at props) p ps)) one, selects_all props ps (λ q h. within q (inr h)))

pub props_are_selected : (ids : List ℕ) (v : Iprp) (id : ℕ) → PicksAreProps ids v → IsIn id ids → Selects v.props (picks_of id v.assocs) (kept_props v id)
unfolding kept_props
props_are_selected ids v id picks h = selects_all v.props (picks_of id v.assocs) (λ p k.
    let a = from_picks v.assocs id p k in
    in_all (λ (q : Pick). q.index ≤ length v.props) a.0.picks (picks a.0 a.1 (subst (λ (n : ℕ). IsIn n ids) (sym a.2) h)) p a.3)

-- ---- distinct properties are few

abbrev AreDistinct : List Prop → Type 0
AreDistinct [] = Unit {0}
AreDistinct (x ∷ xs) = (IsIn x xs → ⊥) × AreDistinct xs

split_at : (x : Prop) (xs : List Prop) → IsIn x xs → (front : List Prop) × (back : List Prop) × (xs ≡ front ++ x ∷ back)
split_at x [] h = absurd h
split_at x (y ∷ ys) (inl e) = ([], ys, ap (λ (z : Prop). z ∷ ys) e)
split_at x (y ∷ ys) (inr h) = let r = split_at x ys h in (y ∷ r.0, r.1, ap (λ (l : List Prop). y ∷ l) r.2)

-- distinct members of a list are no more than it has
distinct_few : (xs all : List Prop) → AreDistinct xs → ((x : Prop) → IsIn x xs → IsIn x all) → length xs ≤ length all
distinct_few [] all distinct among = omega arith
distinct_few (x ∷ xs) all distinct among =
    let s = split_at x all (among x (inl refl)) in
    let rest : (y : Prop) → IsIn y xs → IsIn y (s.0 ++ s.1) = λ y h. elim (in_joined y s.0 (x ∷ s.1) (subst (λ (l : List Prop). IsIn y l) s.2 (among y (inr h)))) [
      | inl front ↦ in_front y s.0 s.1 front
      | inr (inl e) ↦ absurd (distinct.0 (subst (λ (z : Prop). IsIn z xs) (sym e) h))
      | inr (inr back) ↦ in_back y s.0 s.1 back
    ] in
    let le = distinct_few xs (s.0 ++ s.1) distinct.1 rest in
    omega (arith, le, ap length s.2, length-append s.0 (x ∷ s.1), length-append s.0 s.1)

any_same : (p : Prop) (ps : List Prop) → IsIn p ps → list_any (same_prop p) ps ≡ true
any_same p [] h = absurd h
any_same p (q ∷ qs) (inl e) = let t : same_prop p q ≡ true = subst (λ (r : Prop). same_prop p r ≡ true) (sym e) (same_prop-self p) in rw t refl
any_same p (q ∷ qs) (inr h) = let t = any_same p qs h in elim (cases_Bool (same_prop p q)) [ inl a ↦ rw a refl | inr a ↦ rw (a, t) refl ]

distinct_push : (x : Prop) (xs : List Prop) → AreDistinct xs → (IsIn x xs → ⊥) → AreDistinct (xs ++ x ∷ [])
distinct_push x [] distinct new = ((λ h. h), tt)
distinct_push x (y ∷ ys) distinct new = (
  (λ h. elim (in_joined y ys (x ∷ []) h) [ inl old ↦ distinct.0 old | inr (inl e) ↦ new (inl (sym e)) | inr (inr none) ↦ none ]),
  distinct_push x ys distinct.1 (λ h. new (inr h)),
)

fold_distinct : (earlier ps : List Prop) → AreDistinct earlier → AreDistinct (fold with_prop earlier ps)
fold_distinct earlier [] distinct = distinct
fold_distinct earlier (p ∷ ps) distinct = elim (cases_Bool (list_any (same_prop p) earlier)) [
  | inl t ↦
      let same : with_prop earlier p ≡ earlier = rw t refl in
      fold_distinct (with_prop earlier p) ps (subst AreDistinct (sym same) distinct)
  | inr f ↦
      let pushed : with_prop earlier p ≡ earlier ++ p ∷ [] = rw f refl in
      let new : IsIn p earlier → ⊥ = λ h. (let t = any_same p earlier h in let both : true ≡ false = sym t ∙ f in cc) in
      fold_distinct (with_prop earlier p) ps (subst AreDistinct (sym pushed) (distinct_push p earlier distinct new))
]

fold_among : (x : Prop) (earlier ps : List Prop) → IsIn x (fold with_prop earlier ps) → IsIn x earlier ⊎ IsIn x ps
fold_among x earlier [] h = inl h
fold_among x earlier (p ∷ ps) h = elim (fold_among x (with_prop earlier p) ps h) [
  | inl there ↦ elim (cases_Bool (list_any (same_prop p) earlier)) [
    | inl t ↦ let same : with_prop earlier p ≡ earlier = rw t refl in inl (subst (λ (l : List Prop). IsIn x l) same there)
    | inr f ↦
        let pushed : with_prop earlier p ≡ earlier ++ p ∷ [] = rw f refl in
        elim (in_joined x earlier (p ∷ []) (subst (λ (l : List Prop). IsIn x l) pushed there)) [ inl old ↦ inl old | inr (inl e) ↦ inr (inl e) | inr (inr none) ↦ absurd none ]
  ]
  | inr more ↦ inr (inr more)
]

-- a store whose properties are all among some has no more distinct ones
pub table_few : (s : ItemStore) (all : List Prop) → ((i : Item) (h : Held) → IsIn i s.items → IsIn h i.props → IsIn h.prop all) → length (table_of s) ≤ length all
unfolding table_of
table_few s all among =
    let used = flat_map props_of s.items in
    distinct_few (fold with_prop [] used) all (fold_distinct [] used tt) (λ x h. elim (fold_among x [] used h) [
      | inl none ↦ absurd none
      | inr there ↦
          let r = from_flat props_of s.items x there in
          let m = from_map (λ (k : Held). k.prop) r.0.props x r.2 in
          subst (λ (y : Prop). IsIn y all) m.2 (among r.0 m.0 r.1 m.1)
    ])
