-- Which items keep which, as pairs, and chains of them.
use Rattle.std.proofs.Common.{◌≡◌, ℕ, ◌<◌, Bool, true, false, not, ◌&&◌, cond, List, [], ◌∷◌, ◌++◌, length, map, refl, sym, ap, subst, arith, inl, inr}
use Rattle.std.specs.List.{flat_map}
use Rattle.std.proofs.lemmas.List.{length-map}
use Rattle.hf_links.specs.Kinds.{is_minor, is_need}
use Rattle.hf_order.proofs.Members.{in_all, in_map, from_map, in_front, in_back, in_joined}
use Rattle.hf_store.specs.Lists.{IsIn, RisesFrom}
use Rattle.hf_store.specs.Store.{Item, ItemStore, ids_of}
use Rattle.hf_store.specs.Valid.{IsGoodItem, IsGoodRef, Valid}
use Rattle.hf_deps.specs.Kept.{Keeps, IsChain, Kept, pairs_of, keeping, kept_ids, KeptAreTold, KeptIsLeast}
use Rattle.hf_deps.proofs.Among.{above}
use Rattle.hf_deps.proofs.Grown.{grown_sound, grown_has, grown_rises, grown_closed}

-- ---- lists

in_flat : {A B : Type 0} (f : A → List B) (xs : List A) (x : A) (y : B) → IsIn x xs → IsIn y (f x) → IsIn y (flat_map f xs)
in_flat f [] x y h k = absurd h
in_flat f (z ∷ zs) x y (inl e) k = in_front y (f z) (flat_map f zs) (subst (λ w. IsIn y (f w)) (sym e) k)
in_flat f (z ∷ zs) x y (inr h) k = in_back y (f z) (flat_map f zs) (in_flat f zs x y h k)

from_flat : {A B : Type 0} (f : A → List B) (xs : List A) (y : B) → IsIn y (flat_map f xs) → (x : A) × IsIn x xs × IsIn y (f x)
from_flat f [] y h = absurd h
from_flat f (z ∷ zs) y h = elim (in_joined y (f z) (flat_map f zs) h) [
  | inl here ↦ (z, inl refl, here)
  | inr later ↦ let rest = from_flat f zs y later in (rest.0, inr rest.1, rest.2)
]

-- ---- pairs

abbrev need_pairs : Bool → ℕ → List ℕ → List (ℕ × ℕ)
need_pairs need id ids = cond need (map (λ to. (to, id)) ids) []

abbrev minor_pairs : Bool → ℕ → List ℕ → List (ℕ × ℕ)
minor_pairs minor id ids = cond minor (map (λ to. (id, to)) ids) []

from_need : (need : Bool) (id : ℕ) (ids : List ℕ) (b a : ℕ) → IsIn (b, a) (need_pairs need id ids) → (need ≡ true) × (id ≡ a) × IsIn b ids
from_need true id ids b a h =
    let from = from_map (λ (to : ℕ). (to, id)) ids (b, a) h in
    (refl, ap (λ (pair : ℕ × ℕ). pair.1) from.2, subst (λ (n : ℕ). IsIn n ids) (ap (λ (pair : ℕ × ℕ). pair.0) from.2) from.1)
from_need false id ids b a h = absurd h

to_need : (need : Bool) (id : ℕ) (ids : List ℕ) (b : ℕ) → need ≡ true → IsIn b ids → IsIn (b, id) (need_pairs need id ids)
to_need true id ids b e h = in_map (λ (to : ℕ). (to, id)) ids b h
to_need false id ids b e h = absurd cc

from_minor : (minor bare : Bool) (id : ℕ) (ids : List ℕ) (b a : ℕ) → IsIn (b, a) (minor_pairs (minor && not bare) id ids)
    → (bare ≡ false) × (minor ≡ true) × (id ≡ b) × IsIn a ids
from_minor true false id ids b a h =
    let from = from_map (λ (to : ℕ). (id, to)) ids (b, a) h in
    (refl, refl, ap (λ (pair : ℕ × ℕ). pair.0) from.2, subst (λ (n : ℕ). IsIn n ids) (ap (λ (pair : ℕ × ℕ). pair.1) from.2) from.1)
from_minor true true id ids b a h = absurd h
from_minor false bare id ids b a h = absurd h

to_minor : (minor bare : Bool) (id : ℕ) (ids : List ℕ) (a : ℕ) → bare ≡ false → minor ≡ true → IsIn a ids
    → IsIn (id, a) (minor_pairs (minor && not bare) id ids)
to_minor true false id ids a e f h = in_map (λ (to : ℕ). (id, to)) ids a h
to_minor true true id ids a e f h = absurd cc
to_minor false bare id ids a e f h = absurd cc

abbrev item_pairs : Bool → Item → List (ℕ × ℕ)
item_pairs bare i = flat_map (pairs_of bare i.id) i.refs

pub keeps_pair : (s : ItemStore) (bare : Bool) (a b : ℕ) → Keeps s bare a b → IsIn (b, a) (keeping bare s.items)
unfolding keeping
keeps_pair s bare a b (inl h) =
    let i = h.0 in
    let r = h.1 in
    let first = to_need (is_need r.kind) i.id r.to b h.5 h.6 in
    let there : IsIn (b, i.id) (pairs_of bare i.id r) = in_front (b, i.id) (need_pairs (is_need r.kind) i.id r.to)
    (minor_pairs (is_minor r.kind && not bare) i.id r.to) first in
    subst (λ (n : ℕ). IsIn (b, n) (flat_map (item_pairs bare) s.items)) h.3
    (in_flat (item_pairs bare) s.items i (b, i.id) h.2 (in_flat (pairs_of bare i.id) i.refs r (b, i.id) h.4 there))
keeps_pair s bare a b (inr k) =
    let h = k.1 in
    let i = h.0 in
    let r = h.1 in
    let last = to_minor (is_minor r.kind) bare i.id r.to a k.0 h.5 h.6 in
    let there : IsIn (i.id, a) (pairs_of bare i.id r) = in_back (i.id, a) (need_pairs (is_need r.kind) i.id r.to)
    (minor_pairs (is_minor r.kind && not bare) i.id r.to) last in
    subst (λ (n : ℕ). IsIn (n, a) (flat_map (item_pairs bare) s.items)) h.3
    (in_flat (item_pairs bare) s.items i (i.id, a) h.2 (in_flat (pairs_of bare i.id) i.refs r (i.id, a) h.4 there))

pub pair_keeps : (s : ItemStore) (bare : Bool) (a b : ℕ) → IsIn (b, a) (keeping bare s.items) → Keeps s bare a b
unfolding keeping
pair_keeps s bare a b h =
    let item = from_flat (item_pairs bare) s.items (b, a) h in
    let i = item.0 in
    let list = from_flat (pairs_of bare i.id) i.refs (b, a) item.2 in
    let r = list.0 in
    elim (in_joined (b, a) (need_pairs (is_need r.kind) i.id r.to) (minor_pairs (is_minor r.kind && not bare) i.id r.to) list.2) [
      | inl first ↦ let need = from_need (is_need r.kind) i.id r.to b a first in inl (i, r, item.1, need.1, list.1, need.0, need.2)
      | inr last ↦ let minor = from_minor (is_minor r.kind) bare i.id r.to b a last in inr (minor.0, (i, r, item.1, minor.2, list.1, minor.1, minor.3))
    ]

-- ---- chains

chain_push : (s : ItemStore) (bare : Bool) (rest : List ℕ) (first last next : ℕ) → IsChain s bare first rest last → Keeps s bare last next
    → IsChain s bare first (rest ++ next ∷ []) next
chain_push s bare [] first last next e keeps = (subst (λ (n : ℕ). Keeps s bare n next) (sym e) keeps, refl)
chain_push s bare (x ∷ xs) first last next chain keeps = (chain.0, chain_push s bare xs x last next chain.1 keeps)

pub kept_first : (s : ItemStore) (bare : Bool) → Kept s bare s.primary
kept_first s bare = ([], refl)

pub kept_next : (s : ItemStore) (bare : Bool) (a b : ℕ) → Kept s bare a → Keeps s bare a b → Kept s bare b
kept_next s bare a b kept keeps = (kept.0 ++ b ∷ [], chain_push s bare kept.0 s.primary a b kept.1 keeps)

along : (P : ℕ → Type 0) (s : ItemStore) (bare : Bool) → ((a b : ℕ) → P a → Keeps s bare a b → P b) → (rest : List ℕ) (first last : ℕ) → P first
    → IsChain s bare first rest last → P last
along P s bare step [] first last p e = subst P e p
along P s bare step (x ∷ xs) first last p chain = along P s bare step xs x last (step first x p chain.0) chain.1

-- what holds of the primary item, and with an item of each that it keeps, holds of all that are kept
pub each_kept : (P : ℕ → Type 0) (s : ItemStore) (bare : Bool) → P s.primary → ((a b : ℕ) → P a → Keeps s bare a b → P b) → (id : ℕ) → Kept s bare id → P id
each_kept P s bare first step id kept = along P s bare step kept.0 s.primary id first kept.1

pub kept_is_least : KeptIsLeast
kept_is_least s bare has first step id kept = each_kept (λ (n : ℕ). has n ≡ true) s bare first step id kept

-- ---- what is told

-- ids rise, the primary item is one of the items, and so is each item that one keeps
pub record IsLinked (s : ItemStore) (bare : Bool) : Type 0 where
  pub rises : RisesFrom ◌<◌ 0 (ids_of s.items)
  pub primary : IsIn s.primary (ids_of s.items)
  pub ends : (a b : ℕ) → Keeps s bare a b → IsIn b (ids_of s.items)

valid_ends : (s : ItemStore) (bare : Bool) (a b : ℕ) → Valid s → Keeps s bare a b → IsIn b (ids_of s.items)
valid_ends s bare a b valid (inl h) =
    let good = in_all (IsGoodItem s.items) s.items valid.items h.0 h.2 in
    let list = in_all (IsGoodRef s.items) h.0.refs good.refs h.1 h.4 in
    in_all (λ (id : ℕ). IsIn id (ids_of s.items)) h.1.to list.to b h.6
valid_ends s bare a b valid (inr k) =
    let h = k.1 in
    subst (λ (n : ℕ). IsIn n (ids_of s.items)) h.3 (in_map (λ (i : Item). i.id) s.items h.0 h.2)

pub valid_linked : (s : ItemStore) (bare : Bool) → Valid s → IsLinked s bare
valid_linked s bare valid = record { rises = valid.ids_rise; primary = valid.primary; ends = λ a b keeps. valid_ends s bare a b valid keeps }

pub told_kept : (s : ItemStore) (bare : Bool) (id : ℕ) → IsIn id (kept_ids bare s) → Kept s bare id
unfolding kept_ids
told_kept s bare id h =
    grown_sound (Kept s bare) (keeping bare s.items) (ids_of s.items) (λ a b kept pair. kept_next s bare a b kept (pair_keeps s bare a b pair))
    (length s.items) (s.primary ∷ [])
    (λ x there. elim there [ inl e ↦ subst (Kept s bare) e (kept_first s bare) | inr none ↦ absurd none ]) id h

module _ (s : ItemStore) (bare : Bool) (linked : IsLinked s bare) where
  pub kept_ids_first : IsIn s.primary (kept_ids bare s)
  unfolding kept_ids
  kept_ids_first = grown_has (keeping bare s.items) (ids_of s.items) (length s.items) (s.primary ∷ []) s.primary linked.primary (inl refl)

  pub kept_ids_closed : (a b : ℕ) → IsIn a (kept_ids bare s) → IsIn (b, a) (keeping bare s.items) → IsIn b (kept_ids bare s)
  unfolding kept_ids
  kept_ids_closed =
      grown_closed (keeping bare s.items) (ids_of s.items) (λ a b pair. linked.ends a b (pair_keeps s bare a b pair)) (length s.items) s.primary linked.primary
      (omega (arith, length-map s.items (λ (i : Item). i.id)))

  pub kept_told : (id : ℕ) → Kept s bare id → IsIn id (kept_ids bare s)
  kept_told = each_kept (λ (n : ℕ). IsIn n (kept_ids bare s)) s bare kept_ids_first (λ a b h keeps. kept_ids_closed a b h (keeps_pair s bare a b keeps))

  pub kept_there : (id : ℕ) → Kept s bare id → IsIn id (ids_of s.items)
  kept_there = each_kept (λ (n : ℕ). IsIn n (ids_of s.items)) s bare linked.primary (λ a b h keeps. linked.ends a b keeps)

  pub kept_ids_rise : RisesFrom ◌<◌ 0 (kept_ids bare s)
  unfolding kept_ids
  kept_ids_rise = grown_rises (keeping bare s.items) (ids_of s.items) (length s.items) 0 (s.primary ∷ []) linked.rises
      (above 0 s.primary (ids_of s.items) linked.rises linked.primary, tt)

pub kept_are_told : KeptAreTold
kept_are_told s bare id valid = (told_kept s bare id, kept_told s bare (valid_linked s bare valid) id)
