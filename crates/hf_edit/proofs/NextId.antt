-- The greatest id of a store, whose ids rise.
use Rattle.std.proofs.Common.{◌≡◌, ℕ, zero, suc, ◌+◌, ◌-◌, ◌<◌, List, [], ◌∷◌, length, map, refl, sym, ap, ◌∙◌, arith, cond, Bool, true, false, inl, inr, Option, Some, None}
use Rattle.std.specs.Prelude.{◌==◌, ◌^◌, SomeIff, fold, max, slice_get}
use Rattle.std.proofs.lemmas.Bool.{cases_lt, eq-eqb}
use Rattle.std.proofs.lemmas.List.{length-map}
use Rattle.std.proofs.lemmas.List.Sums.{fold-append}
use Rattle.hf_store.specs.Lists.{RisesFrom, Rises}
use Rattle.hf_store.specs.Store.{Group, Item, ItemStore, ids_of}
use Rattle.hf_store.specs.Valid.{Valid}
use Rattle.hf_store.proofs.Spots.{get_map, id_here, some_is}
use Rattle.hf_edit.specs.Additions.{greatest_id, next_id_of}
use Rattle.hf_edit.proofs.Named.{differ}

last_is : (a y : ℕ) (ys : List ℕ) (k x : ℕ) → RisesFrom ◌<◌ y ys → slice_get (y ∷ ys) k ≡ Some x → k ≡ length ys → fold max (max a y) ys ≡ max a x
last_is a y [] zero x rises here end = ap (max a) (some_is here)
last_is a y [] (suc k) x rises here end = absurd cc
last_is a y (z ∷ zs) zero x rises here end = absurd (omega (arith, end))
last_is a y (z ∷ zs) (suc k) x rises here end =
    let higher : max (max a y) z ≡ max a z = omega (arith, rises.0) in
    ap (λ (b : ℕ). fold max b zs) higher ∙ last_is a z zs k x rises.1 here (omega (arith, end))

greatest_is : (a : ℕ) (xs : List ℕ) (k x : ℕ) → Rises ◌<◌ xs → slice_get xs k ≡ Some x → k ≡ length xs - 1 → fold max a xs ≡ max a x
greatest_is a [] k x rises here end = absurd cc
greatest_is a (y ∷ ys) k x rises here end = last_is a y ys k x rises here (omega (arith, end))

rises_from : (low : ℕ) (xs : List ℕ) → RisesFrom ◌<◌ low xs → Rises ◌<◌ xs
rises_from low [] rises = tt
rises_from low (x ∷ xs) rises = rises.1

no_more : (a : ℕ) (gs : List Group) → length gs ≡ 0 → fold max a (map (λ (g : Group). g.id) gs) ≡ a
no_more a [] none = refl
no_more a (g ∷ gs) none = absurd (omega (arith, none))

module _ (s : ItemStore) (valid : Valid s) (i : Item) (n : ℕ) (at : slice_get s.items n ≡ Some i) (end : n ≡ length s.items - 1) where
  greatest_item : fold max 0 (ids_of s.items) ≡ i.id
  greatest_item =
      greatest_is 0 (ids_of s.items) n i.id (rises_from 0 (ids_of s.items) valid.ids_rise) (id_here s.items n i at)
      (omega (arith, end, length-map s.items (λ (j : Item). j.id)))
      ∙ omega arith

  greatest-parts : greatest_id s ≡ fold max i.id (map (λ (g : Group). g.id) s.groups)
  greatest-parts =
      fold-append max 0 (ids_of s.items) (map (λ (g : Group). g.id) s.groups)
      ∙ ap (λ (a : ℕ). fold max a (map (λ (g : Group). g.id) s.groups)) greatest_item

  pub greatest_without : length s.groups ≡ 0 → i.id ≡ greatest_id s
  greatest_without none = sym (greatest-parts ∙ no_more i.id s.groups none)

  pub greatest_with : (g : Group) (m : ℕ) → slice_get s.groups m ≡ Some g → m ≡ length s.groups - 1 → max i.id g.id ≡ greatest_id s
  greatest_with g m there last =
      sym (greatest-parts ∙ greatest_is i.id (map (λ (h : Group). h.id) s.groups) m g.id valid.groups_rise
      (get_map (λ (h : Group). h.id) s.groups m g there) (omega (arith, last, length-map s.groups (λ (h : Group). h.id))))

pub next_is : (s : ItemStore) (n : ℕ) (next : Option ℕ) → n ≡ greatest_id s → SomeIff next (n + 1 < 2 ^ 32) (n + 1) → n < 2 ^ 32 → next ≡ next_id_of s
unfolding next_id_of
next_is s n None is over small =
    let last : n ≡ 4294967295 = elim (cases_lt (n + 1) 4294967296) [ inl below ↦ absurd (over below) | inr past ↦ omega (arith, past, small) ] in
    let top : (greatest_id s == 4294967295) ≡ true = eq-eqb (greatest_id s) 4294967295 (omega (arith, is, last)) in
    ap (λ (b : Bool). cond b None (Some (greatest_id s + 1))) (sym top)
next_is s n (Some id) is fits small =
    let below : (greatest_id s == 4294967295) ≡ false = differ (greatest_id s) 4294967295 (λ e. omega (arith, is, fits.0, e)) in
    ap Some (fits.1 ∙ ap (λ (m : ℕ). m + 1) is) ∙ ap (λ (b : Bool). cond b None (Some (greatest_id s + 1))) (sym below)
