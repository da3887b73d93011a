-- Cutting a store twice, where what stays the second time stays the first time too.
use Rattle.std.proofs.Common.{◌≡◌, ◌≢◌, ℕ, ◌≤◌, ◌<◌, Bool, true, false, not, ◌&&◌, ◌||◌, List, [], ◌∷◌, ◌++◌, length, map, filter, refl, sym, ap, ◌∙◌, arith, inl, inr, ◌⊎◌}
use Rattle.std.specs.Prelude.{◌==◌}
use Rattle.std.proofs.lemmas.Bool.{cases_Bool, eq-eqb, ne_eqb, eqb-true}
use Rattle.std.proofs.lemmas.List.{append-nil}
use Rattle.std.proofs.lemmas.List.Elements.{filter-append}
use Rattle.hf_store.specs.Changes.{added, cut_list, cut_refs, cut_item, cut_items, cut_group, cut_groups, group_stays, cut}
use Rattle.hf_store.specs.Lists.{not_empty}
use Rattle.hf_store.specs.Store.{Item, Group, ItemStore}
use Rattle.hf_store.specs.declared.item.RefList.{RefList}
use Rattle.hf_store.proofs.Cuts.{filter-le}
use Rattle.hf_deps.specs.Redacted.{bared, all_bared, is_description}

module _ (p q : ℕ → Bool) (wider : (x : ℕ) → p x ≡ true → q x ≡ true) where
  narrower : (x : ℕ) → q x ≡ false → p x ≡ false
  narrower x out = elim (cases_Bool (p x)) [ inl here ↦ absurd (let both : true ≡ false = sym (wider x here) ∙ out in cc) | inr gone ↦ gone ]

  ids_twice : (xs : List ℕ) → filter p (filter q xs) ≡ filter p xs
  ids_twice [] = refl
  ids_twice (x ∷ xs) =
      let rest = ids_twice xs in
      elim (cases_Bool (q x)) [
        | inl stays ↦ elim (cases_Bool (p x)) [ inl here ↦ rw (stays, here) (ap (λ (l : List ℕ). x ∷ l) rest) | inr gone ↦ rw (stays, gone) rest ]
        | inr goes ↦ rw (goes, narrower x goes) rest
      ]

  none_twice : (xs : List ℕ) → not_empty (filter q xs) ≡ false → not_empty (filter p xs) ≡ false
  none_twice [] e = refl
  none_twice (x ∷ xs) e = elim (cases_Bool (q x)) [
    | inl stays ↦ absurd (let some : true ≡ false = rw stays at e in cc)
    | inr goes ↦ let rest : not_empty (filter q xs) ≡ false = rw goes at e in rw (narrower x goes) (none_twice xs rest)
  ]

  refs_twice : (rs : List RefList) → cut_refs p (cut_refs q rs) ≡ cut_refs p rs
  refs_twice [] = refl
  refs_twice (r ∷ rs) =
      let rest = refs_twice rs in
      let same : cut_list p (cut_list q r) ≡ cut_list p r = ap (λ (ids : List ℕ). record r { to = ids }) (ids_twice r.to) in
      let some : not_empty (filter p (filter q r.to)) ≡ not_empty (filter p r.to) = ap not_empty (ids_twice r.to) in
      elim (cases_Bool (not_empty (filter q r.to))) [
        | inl stays ↦ elim (cases_Bool (not_empty (filter p r.to))) [
          | inl here ↦ rw (stays, some ∙ here, here)
              (ap (λ (l : RefList). l ∷ cut_refs p (cut_refs q rs)) same ∙ ap (λ (ls : List RefList). cut_list p r ∷ ls) rest)
          | inr gone ↦ rw (stays, some ∙ gone, gone) rest
        ]
        | inr goes ↦ rw (goes, none_twice r.to goes) rest
      ]

  item_twice : (i : Item) → cut_item p (cut_item q i) ≡ cut_item p i
  item_twice i = ap (λ (rs : List RefList). record i { refs = rs }) (refs_twice i.refs)

  items_twice : (is : List Item) → cut_items p (cut_items q is) ≡ cut_items p is
  items_twice [] = refl
  items_twice (i ∷ is) =
      let rest = items_twice is in
      elim (cases_Bool (q i.id)) [
        | inl stays ↦ elim (cases_Bool (p i.id)) [
          | inl here ↦ rw (stays, here) (ap (λ (j : Item). j ∷ cut_items p (cut_items q is)) (item_twice i) ∙ ap (λ (js : List Item). cut_item p i ∷ js) rest)
          | inr gone ↦ rw (stays, gone) rest
        ]
        | inr goes ↦ rw (goes, narrower i.id goes) rest
      ]

  -- ---- groups

  group_twice : (g : Group) → cut_group p (cut_group q g) ≡ cut_group p g
  group_twice g = ap (λ (ids : List ℕ). record g { entities = ids }) (ids_twice g.entities)

  fewer_twice : (xs : List ℕ) → length (filter p xs) ≤ length (filter q xs)
  fewer_twice [] = omega arith
  fewer_twice (x ∷ xs) =
      let rest = fewer_twice xs in
      elim (cases_Bool (q x)) [
        | inl stays ↦ elim (cases_Bool (p x)) [ inl here ↦ rw (stays, here) (omega (arith, rest)) | inr gone ↦ rw (stays, gone) (omega (arith, rest)) ]
        | inr goes ↦ rw (goes, narrower x goes) rest
      ]

  -- a group without a tail, or one that loses nothing the first time
  first_stays : (some same bare : Bool) → (some && (same || bare)) ≡ true → (same ≡ true) ⊎ (bare ≡ true)
  first_stays true true bare e = inl refl
  first_stays true false bare e = inr e
  first_stays false same bare e = absurd cc

  first_goes : (some same bare : Bool) → (some && (same || bare)) ≡ false → (some ≡ false) ⊎ ((same ≡ false) × (bare ≡ false))
  first_goes true true bare e = absurd cc
  first_goes true false bare e = inr (refl, e)
  first_goes false same bare e = inl refl

  or-right : (a b c : Bool) → b ≡ true → (c && (a || b)) ≡ c
  or-right true b true e = refl
  or-right true b false e = refl
  or-right false b true e = e
  or-right false b false e = refl

  and-false : (a : Bool) → (a && false) ≡ false
  and-false true = refl
  and-false false = refl

  still_stays : (g : Group) → group_stays q g ≡ true → group_stays p (cut_group q g) ≡ group_stays p g
  still_stays g stays =
      let bare = not (not_empty g.tail) in
      let left = filter q g.entities in
      let ids = ids_twice g.entities in
      elim (first_stays (not_empty left) (length left == length g.entities) bare stays) [
        | inl same ↦
            let lengths : length left ≡ length g.entities = eqb-true (length left) (length g.entities) same in
            ap (λ (ids : List ℕ). not_empty ids && ((length ids == length left) || bare)) ids
            ∙ ap (λ (n : ℕ). not_empty (filter p g.entities) && ((length (filter p g.entities) == n) || bare)) lengths
        | inr none ↦
            or-right (length (filter p left) == length left) bare (not_empty (filter p left)) none
            ∙ ap not_empty ids
            ∙ sym (or-right (length (filter p g.entities) == length g.entities) bare (not_empty (filter p g.entities)) none)
      ]

  apart : (m n : ℕ) → (m == n) ≡ false → m ≢ n
  apart m n e same = let t : (m == n) ≡ true = eq-eqb m n same in cc

  goes_too : (g : Group) → group_stays q g ≡ false → group_stays p g ≡ false
  goes_too g goes =
      let bare = not (not_empty g.tail) in
      let left = filter q g.entities in
      elim (first_goes (not_empty left) (length left == length g.entities) bare goes) [
        | inl none ↦ rw (none_twice g.entities none) refl
        | inr lost ↦
            let fewer : length (filter p g.entities) < length g.entities = omega
            (arith, fewer_twice g.entities, filter-le q g.entities, apart (length left) (length g.entities) lost.0) in
            let other : (length (filter p g.entities) == length g.entities) ≡ false = ne_eqb _ _ (λ e. omega (arith, e, fewer)) in
            rw (other, lost.1) (and-false (not_empty (filter p g.entities)))
      ]

  groups_twice : (gs : List Group) → cut_groups p (cut_groups q gs) ≡ cut_groups p gs
  groups_twice [] = refl
  groups_twice (g ∷ gs) =
      let rest = groups_twice gs in
      elim (cases_Bool (group_stays q g)) [
        | inl stays ↦
            let same = still_stays g stays in
            elim (cases_Bool (group_stays p g)) [
              | inl here ↦ rw (stays, same ∙ here, here)
                  (ap (λ (h : Group). h ∷ cut_groups p (cut_groups q gs)) (group_twice g) ∙ ap (λ (hs : List Group). cut_group p g ∷ hs) rest)
              | inr gone ↦ rw (stays, same ∙ gone, gone) rest
            ]
        | inr goes ↦ rw (goes, goes_too g goes) rest
      ]

  pub cut_twice : (s : ItemStore) → cut p (cut q s) ≡ cut p s
  unfolding cut
  cut_twice s =
      let made : List Item → List Group → ItemStore = λ is gs. record s { items = is; groups = gs } in
      ap (λ (is : List Item). made is (cut_groups p (cut_groups q s.groups))) (items_twice s.items) ∙ ap (made (cut_items p s.items)) (groups_twice s.groups)

-- ---- what goes with names and properties

bared-cut : (p : ℕ → Bool) (is : List Item) → cut_items p (map bared is) ≡ map bared (cut_items p is)
bared-cut p [] = refl
bared-cut p (i ∷ is) =
    let rest = bared-cut p is in
    elim (cases_Bool (p i.id)) [ inl here ↦ rw here (ap (λ (js : List Item). bared (cut_item p i) ∷ js) rest) | inr gone ↦ rw gone rest ]

-- cutting and baring, in either order
pub cut_bared : (p : ℕ → Bool) (s : ItemStore) → cut p (all_bared s) ≡ all_bared (cut p s)
unfolding cut
cut_bared p s = ap (λ (is : List Item). record (cut p s) { items = is }) (bared-cut p s.items)

filter_twice : {A : Type 0} (test : A → Bool) (xs : List A) → filter test (filter test xs) ≡ filter test xs
filter_twice test [] = refl
filter_twice test (x ∷ xs) =
    let rest = filter_twice test xs in
    elim (cases_Bool (test x)) [ inl here ↦ rw here (rw here (ap (λ l. x ∷ l) rest)) | inr gone ↦ rw gone rest ]

bared_twice : (is : List Item) → map bared (map bared is) ≡ map bared is
bared_twice [] = refl
bared_twice (i ∷ is) =
    ap (λ hs. record i { name = []; props = hs } ∷ map bared (map bared is)) (filter_twice (λ h. not (is_description h)) i.props)
    ∙ ap (λ (js : List Item). bared i ∷ js) (bared_twice is)

pub all_bared_twice : (s : ItemStore) → all_bared (all_bared s) ≡ all_bared s
all_bared_twice s = ap (λ (is : List Item). record s { items = is }) (bared_twice s.items)

-- ---- one more item, which does not stay

pub cut_added : (p : ℕ → Bool) (i : Item) (s : ItemStore) → p i.id ≡ false → cut p (added i s) ≡ cut p s
unfolding cut
cut_added p i s goes =
    let ahead = filter (λ (j : Item). p j.id) s.items in
    let last : filter (λ (j : Item). p j.id) (i ∷ []) ≡ [] = rw goes refl in
    let same : filter (λ (j : Item). p j.id) (s.items ++ i ∷ []) ≡ ahead =
    filter-append (λ (j : Item). p j.id) s.items (i ∷ []) ∙ ap (λ (js : List Item). ahead ++ js) last ∙ append-nil ahead
    in
    ap (λ (is : List Item). record (cut p s) { items = map (cut_item p) is }) same
