-- What is left of items and groups where some items go.
use Rattle.std.proofs.Common.{◌≡◌, ℕ, ◌<◌, ◌≤◌, Bool, true, false, cond, List, [], ◌∷◌, ◌++◌, length, map, filter, sym, ap, arith, inl, inr, subst, ◌⊎◌}
use Rattle.std.specs.Prelude.{IsTrue}
use Rattle.std.specs.List.{AllByRecursion, sum_by}
use Rattle.std.proofs.lemmas.Bool.{cases_Bool, and_parts}
use Rattle.std.proofs.lemmas.List.Sums.{sum_by-cons}
use Rattle.hf_base.specs.declared.four.FourCc.{FourCc}
use Rattle.hf_store.specs.Changes.{cut_list, cut_refs, cut_item, cut_items, cut_group, cut_groups, group_stays}
use Rattle.hf_store.specs.Derived.{inputs, fits, input_pairs}
use Rattle.hf_store.specs.Lists.{IsIn, RisesFrom, Rises, not_empty}
use Rattle.hf_store.specs.References.{kinds_of}
use Rattle.hf_store.specs.Store.{RefList, Item, Group, ids_of}
use Rattle.hf_store.specs.Valid.{IsBelow, IsGoodRef, IsGoodItem, IsGoodGroup}
use Rattle.hf_store.proofs.References.{below_transitive, rises}

-- ---- ids

pub filter-le : {A : Type 0} (p : A → Bool) (xs : List A) → length (filter p xs) ≤ length xs
filter-le p [] = omega arith
filter-le p (x ∷ xs) =
    let rest = filter-le p xs in
    elim (p x) as (λ b. length (cond b (x ∷ filter p xs) (filter p xs)) ≤ length (x ∷ xs)) [ true ↦ omega (arith, rest) | false ↦ omega (arith, rest) ]

pub rises_lower : (low first : ℕ) (ids : List ℕ) → low ≤ first → RisesFrom ◌<◌ first ids → RisesFrom ◌<◌ low ids
rises_lower low first [] le rises = tt
rises_lower low first (x ∷ xs) le rises = (omega (arith, rises.0), rises.1)

pub ids_left : (stays : ℕ → Bool) (low : ℕ) (is : List Item) → RisesFrom ◌<◌ low (ids_of is) → RisesFrom ◌<◌ low (ids_of (cut_items stays is))
ids_left stays low [] rises = tt
ids_left stays low (i ∷ is) rises =
    elim (cases_Bool (stays i.id)) [
      | inl here ↦ rw here (rises.0, ids_left stays i.id is rises.1)
      | inr gone ↦ rw gone (rises_lower low i.id (ids_of (cut_items stays is)) (omega (arith, rises.0)) (ids_left stays i.id is rises.1))
    ]

apart : (stays : ℕ → Bool) (x y : ℕ) → stays x ≡ false → stays y ≡ true → x ≡ y → ⊥
apart stays x y gone there same = let e : stays x ≡ stays y = ap stays same in cc

pub in_left : (stays : ℕ → Bool) (x : ℕ) (is : List Item) → stays x ≡ true → IsIn x (ids_of is) → IsIn x (ids_of (cut_items stays is))
in_left stays x [] there h = absurd h
in_left stays x (i ∷ is) there h =
    elim (cases_Bool (stays i.id)) [
      | inl here ↦ rw here (elim h [ inl e ↦ inl e | inr later ↦ inr (in_left stays x is there later) ])
      | inr gone ↦ rw gone (elim h [ inl e ↦ absurd (apart stays i.id x gone there e) | inr later ↦ in_left stays x is there later ])
    ]

to_left : (stays : ℕ → Bool) (is : List Item) (ids : List ℕ) → AllByRecursion (λ id. IsIn id (ids_of is)) ids → AllByRecursion (λ id. IsIn id (ids_of (cut_items stays is))) (filter stays ids)
to_left stays is [] all = tt
to_left stays is (x ∷ xs) all =
    elim (cases_Bool (stays x)) [
      | inl here ↦ rw here (in_left stays x is here all.0, to_left stays is xs all.1)
      | inr gone ↦ rw gone (to_left stays is xs all.1)
    ]

-- ---- references

some-length : (xs : List ℕ) → not_empty xs ≡ true → 0 < length xs
some-length [] e = absurd cc
some-length (x ∷ xs) e = omega arith

good_refs : (stays : ℕ → Bool) (all : List Item) (rs : List RefList) → AllByRecursion (IsGoodRef all) rs → AllByRecursion (IsGoodRef (cut_items stays all)) (cut_refs stays rs)
good_refs stays all [] good = tt
good_refs stays all (r ∷ rs) good =
    elim (cases_Bool (not_empty (filter stays r.to))) [
      | inl some ↦ rw some (record { kind = good.0.kind; not_iloc = good.0.not_iloc; some = some-length (filter stays r.to) some; links = omega (arith, good.0.links, filter-le stays r.to); to = to_left stays all r.to good.0.to }, good_refs stays all rs good.1)
      | inr none ↦ rw none (good_refs stays all rs good.1)
    ]

kinds_lower : (low first : FourCc) (kinds : List FourCc) → IsBelow low first → RisesFrom IsBelow first kinds → RisesFrom IsBelow low kinds
kinds_lower low first [] lt rise = tt
kinds_lower low first (k ∷ kinds) lt rise = (below_transitive low first k lt rise.0, rise.1)

kinds_from : (stays : ℕ → Bool) (low : FourCc) (rs : List RefList) → RisesFrom IsBelow low (kinds_of rs) → RisesFrom IsBelow low (kinds_of (cut_refs stays rs))
kinds_from stays low [] rise = tt
kinds_from stays low (r ∷ rs) rise =
    elim (cases_Bool (not_empty (filter stays r.to))) [
      | inl some ↦ rw some (rise.0, kinds_from stays r.kind rs rise.1)
      | inr none ↦ rw none (kinds_lower low r.kind (kinds_of (cut_refs stays rs)) rise.0 (kinds_from stays r.kind rs rise.1))
    ]

kinds_left : (stays : ℕ → Bool) (rs : List RefList) → Rises IsBelow (kinds_of rs) → Rises IsBelow (kinds_of (cut_refs stays rs))
kinds_left stays [] rise = tt
kinds_left stays (r ∷ rs) rise =
    elim (cases_Bool (not_empty (filter stays r.to))) [
      | inl some ↦ rw some (kinds_from stays r.kind rs rise)
      | inr none ↦ rw none (rises r.kind (kinds_of (cut_refs stays rs)) (kinds_from stays r.kind rs rise))
    ]

-- ---- items

-- an item that stays is made of the same items as before
abbrev pub KeepsInputs : (ℕ → Bool) → List Item → Type 0
KeepsInputs stays is = AllByRecursion (λ (i : Item). stays i.id ≡ true → inputs (cut_refs stays i.refs) ≡ inputs i.refs) is

good_item : (stays : ℕ → Bool) (all : List Item) (i : Item) → inputs (cut_refs stays i.refs) ≡ inputs i.refs → IsGoodItem all i → IsGoodItem (cut_items stays all) (cut_item stays i)
good_item stays all i same good = record {
  id = good.id;
  kind = good.kind;
  name = good.name;
  content = good.content;
  encoding = good.encoding;
  uri = good.uri;
  only_mime = good.only_mime;
  only_uri = good.only_uri;
  props = good.props;
  prop_kinds = good.prop_kinds;
  refs = good_refs stays all i.refs good.refs;
  kinds_rise = kinds_left stays i.refs good.kinds_rise;
  fits = subst (λ (ids : List ℕ). IsTrue (fits i.kind i.bytes (length ids))) (sym same) good.fits;
}

pub good_items : (stays : ℕ → Bool) (all is : List Item) → KeepsInputs stays is → AllByRecursion (IsGoodItem all) is → AllByRecursion (IsGoodItem (cut_items stays all)) (cut_items stays is)
good_items stays all [] keeps good = tt
good_items stays all (i ∷ is) keeps good =
    elim (cases_Bool (stays i.id)) [
      | inl here ↦ rw here (good_item stays all i (keeps.0 here) good.0, good_items stays all is keeps.1 good.1)
      | inr gone ↦ rw gone (good_items stays all is keeps.1 good.1)
    ]

-- what holds of each item, and of what is left of it
pub all_left : (P : Item → Type 0) (stays : ℕ → Bool) (is : List Item) → ((i : Item) → P i → P (cut_item stays i)) → AllByRecursion P is → AllByRecursion P (cut_items stays is)
all_left P stays [] each all = tt
all_left P stays (i ∷ is) each all =
    elim (cases_Bool (stays i.id)) [
      | inl here ↦ rw here (each i all.0, all_left P stays is each all.1)
      | inr gone ↦ rw gone (all_left P stays is each all.1)
    ]

pub sum-left : (f : Item → ℕ) (stays : ℕ → Bool) (is : List Item) → ((i : Item) → f (cut_item stays i) ≤ f i) → sum_by f (cut_items stays is) ≤ sum_by f is
sum-left f stays [] each = omega arith
sum-left f stays (i ∷ is) each =
    let rest = sum-left f stays is each in
    let all = sum_by-cons f i is in
    elim (cases_Bool (stays i.id)) [
      | inl here ↦ rw here (omega (arith, rest, all, each i, sum_by-cons f (cut_item stays i) (cut_items stays is)))
      | inr gone ↦ rw gone (omega (arith, rest, all))
    ]

pub refs-fewer : (stays : ℕ → Bool) (rs : List RefList) → length (cut_refs stays rs) ≤ length rs
refs-fewer stays [] = omega arith
refs-fewer stays (r ∷ rs) =
    let rest = refs-fewer stays rs in
    elim (cases_Bool (not_empty (filter stays r.to))) [ inl some ↦ rw some (omega (arith, rest)) | inr none ↦ rw none (omega (arith, rest)) ]

pub targets-fewer : (stays : ℕ → Bool) (rs : List RefList) → sum_by (λ (r : RefList). length r.to) (cut_refs stays rs) ≤ sum_by (λ (r : RefList). length r.to) rs
targets-fewer stays [] = omega arith
targets-fewer stays (r ∷ rs) =
    let f : RefList → ℕ = λ q. length q.to in
    let rest = targets-fewer stays rs in
    let all = sum_by-cons f r rs in
    elim (cases_Bool (not_empty (filter stays r.to))) [
      | inl some ↦ rw some (omega (arith, rest, all, filter-le stays r.to, sum_by-cons f (cut_list stays r) (cut_refs stays rs)))
      | inr none ↦ rw none (omega (arith, rest, all))
    ]

-- ---- items that are made of others

in_either : {A : Type 0} (p : A) (xs ys : List A) → IsIn p (xs ++ ys) → IsIn p xs ⊎ IsIn p ys
in_either p [] ys h = inr h
in_either p (x ∷ xs) ys (inl e) = inl (inl e)
in_either p (x ∷ xs) ys (inr h) = elim (in_either p xs ys h) [ inl a ↦ inl (inr a) | inr b ↦ inr b ]

in_front : {A : Type 0} (p : A) (xs ys : List A) → IsIn p xs → IsIn p (xs ++ ys)
in_front p [] ys h = absurd h
in_front p (x ∷ xs) ys (inl e) = inl e
in_front p (x ∷ xs) ys (inr h) = inr (in_front p xs ys h)

in_behind : {A : Type 0} (p : A) (xs ys : List A) → IsIn p ys → IsIn p (xs ++ ys)
in_behind p [] ys h = h
in_behind p (x ∷ xs) ys h = inr (in_behind p xs ys h)

abbrev pairs_of : ℕ → List ℕ → List (ℕ × ℕ)
pairs_of id ids = map (λ to. (id, to)) ids

pub pairs_left : (stays : ℕ → Bool) (is : List Item) (p : ℕ × ℕ) → KeepsInputs stays is → IsIn p (input_pairs (cut_items stays is)) → IsIn p (input_pairs is)
pairs_left stays [] p keeps h = h
pairs_left stays (i ∷ is) p keeps h =
    elim (cases_Bool (stays i.id)) [
      | inl here ↦
          let front : IsIn p (pairs_of i.id (inputs (cut_refs stays i.refs)) ++ input_pairs (cut_items stays is)) = rw here at h in
          elim (in_either p (pairs_of i.id (inputs (cut_refs stays i.refs))) (input_pairs (cut_items stays is)) front) [
            | inl a ↦ in_front p (pairs_of i.id (inputs i.refs)) (input_pairs is) (subst (λ (ids : List ℕ). IsIn p (pairs_of i.id ids)) (keeps.0 here) a)
            | inr b ↦ in_behind p (pairs_of i.id (inputs i.refs)) (input_pairs is) (pairs_left stays is p keeps.1 b)
          ]
      | inr gone ↦
          let rest : IsIn p (input_pairs (cut_items stays is)) = rw gone at h in
          in_behind p (pairs_of i.id (inputs i.refs)) (input_pairs is) (pairs_left stays is p keeps.1 rest)
    ]

-- ---- groups

good_group : (stays : ℕ → Bool) (all : List Item) (g : Group) → group_stays stays g ≡ true → IsGoodGroup all g → IsGoodGroup (cut_items stays all) (cut_group stays g)
good_group stays all g there good = record {
  kind = good.kind;
  version = good.version;
  flags = good.flags;
  id = good.id;
  some = some-length (filter stays g.entities) (and_parts _ _ there).0;
  entities = to_left stays all g.entities good.entities;
}

pub good_groups : (stays : ℕ → Bool) (all : List Item) (gs : List Group) → AllByRecursion (IsGoodGroup all) gs → AllByRecursion (IsGoodGroup (cut_items stays all)) (cut_groups stays gs)
good_groups stays all [] good = tt
good_groups stays all (g ∷ gs) good =
    elim (cases_Bool (group_stays stays g)) [
      | inl here ↦ rw here (good_group stays all g here good.0, good_groups stays all gs good.1)
      | inr gone ↦ rw gone (good_groups stays all gs good.1)
    ]

abbrev group_ids : List Group → List ℕ
group_ids gs = map (λ (g : Group). g.id) gs

groups_from : (stays : ℕ → Bool) (low : ℕ) (gs : List Group) → RisesFrom ◌<◌ low (group_ids gs) → RisesFrom ◌<◌ low (group_ids (cut_groups stays gs))
groups_from stays low [] rise = tt
groups_from stays low (g ∷ gs) rise =
    elim (cases_Bool (group_stays stays g)) [
      | inl here ↦ rw here (rise.0, groups_from stays g.id gs rise.1)
      | inr gone ↦ rw gone (rises_lower low g.id (group_ids (cut_groups stays gs)) (omega (arith, rise.0)) (groups_from stays g.id gs rise.1))
    ]

rises_any : (low : ℕ) (ids : List ℕ) → RisesFrom ◌<◌ low ids → Rises ◌<◌ ids
rises_any low [] rise = tt
rises_any low (x ∷ xs) rise = rise.1

pub groups_left : (stays : ℕ → Bool) (gs : List Group) → Rises ◌<◌ (group_ids gs) → Rises ◌<◌ (group_ids (cut_groups stays gs))
groups_left stays [] rise = tt
groups_left stays (g ∷ gs) rise =
    elim (cases_Bool (group_stays stays g)) [
      | inl here ↦ rw here (groups_from stays g.id gs rise)
      | inr gone ↦ rw gone (rises_any g.id (group_ids (cut_groups stays gs)) (groups_from stays g.id gs rise))
    ]

pub all_groups_left : (P : Group → Type 0) (stays : ℕ → Bool) (gs : List Group) → ((g : Group) → P g → P (cut_group stays g)) → AllByRecursion P gs → AllByRecursion P (cut_groups stays gs)
all_groups_left P stays [] each all = tt
all_groups_left P stays (g ∷ gs) each all =
    elim (cases_Bool (group_stays stays g)) [
      | inl here ↦ rw here (each g all.0, all_groups_left P stays gs each all.1)
      | inr gone ↦ rw gone (all_groups_left P stays gs each all.1)
    ]

pub group-sum-left : (f : Group → ℕ) (stays : ℕ → Bool) (gs : List Group) → ((g : Group) → f (cut_group stays g) ≤ f g) → sum_by f (cut_groups stays gs) ≤ sum_by f gs
group-sum-left f stays [] each = omega arith
group-sum-left f stays (g ∷ gs) each =
    let rest = group-sum-left f stays gs each in
    let all = sum_by-cons f g gs in
    elim (cases_Bool (group_stays stays g)) [
      | inl here ↦ rw here (omega (arith, rest, all, each g, sum_by-cons f (cut_group stays g) (cut_groups stays gs)))
      | inr gone ↦ rw gone (omega (arith, rest, all))
    ]
