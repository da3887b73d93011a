-- The reference lists that are computed for an item are those that a store keeps.
use Rattle.std.proofs.Common.{◌≡◌, ◌≢◌, ℕ, Bool, true, false, not, ◌&&◌, eqb, List, [], ◌∷◌, ◌++◌, map, refl, sym, ap, subst, ◌∙◌, inl, inr, ◌⊎◌}
use Rattle.std.specs.List.{filter, fold}
use Rattle.std.specs.Ordering.{nat_cmp, is_lt}
use Rattle.std.specs.declared.cmp.Ordering.{Ordering}
use Rattle.std.specs.declared.cmp.Ordering.TheVariants.{Less, Equal, Greater}
use Rattle.std.specs.Cmp.Lexicographic.{slice_cmp}
use Rattle.std.proofs.lemmas.Bool.{cases_Bool, and_parts, eq-eqb}
use Rattle.hf_base.specs.Entries.{has_id}
use Rattle.hf_base.specs.Members.{IsIn, RisesFrom, Rises}
use Rattle.hf_base.specs.declared.four.FourCc.{FourCc}
use Rattle.hf_base.specs.declared.kinds.TheConstants.{ILOC}
use Rattle.hf_base.specs.declared.loc.RefBox.{RefBox}
use Rattle.hf_box.specs.Walk.{is_kind}
use Rattle.hf_box.proofs.SameKinds.{same_kind, is_same_kind}
use Rattle.hf_order.proofs.Members.{in_map, from_map, in_filter, in_joined, in_has, all_from}
use Rattle.hf_store.specs.Lists.{not_empty}
use Rattle.hf_store.specs.declared.item.RefList.{RefList}
use Rattle.hf_store.specs.References.{joined, kinds_of, IsKept, KeepsRefs}
use Rattle.hf_store.specs.Valid.{IsBelow}
use Rattle.hf_store.proofs.References.{below_transitive, below_total}
use Rattle.hf_read.specs.Kept.{is_below, with_kind, is_kept_link, kept_kinds, kept_list, kept_refs}
use Rattle.hf_read.proofs.Filters.{some_length, passes, passed}

-- ---- a type in its place

pub is_less : (o : Ordering) → is_lt o ≡ true → o ≡ Less
is_less Less e = refl
is_less Equal e = absurd cc
is_less Greater e = absurd cc

above : (k kind : FourCc) → is_kind k kind ≡ false → is_below kind k ≡ false → IsBelow k kind
above k kind f ge = elim (below_total k kind) [
  | inl e ↦ let t = same_kind k kind e in let both : true ≡ false = sym t ∙ f in absurd cc
  | inr (inl lt) ↦ lt
  | inr (inr gt) ↦ let t : is_below kind k ≡ true = ap is_lt gt in let both : true ≡ false = sym t ∙ ge in absurd cc
]

-- where a type goes
data Place (kind k : FourCc) (ks : List FourCc) : Type 0 where
  There : k ≡ kind → with_kind (k ∷ ks) kind ≡ k ∷ ks → Place kind k ks
  First : IsBelow kind k → with_kind (k ∷ ks) kind ≡ kind ∷ k ∷ ks → Place kind k ks
  Later : IsBelow k kind → with_kind (k ∷ ks) kind ≡ k ∷ with_kind ks kind → Place kind k ks

place : (kind k : FourCc) (ks : List FourCc) → Place kind k ks
place kind k ks = elim (cases_Bool (is_kind k kind)) [
  | inl t ↦ There (is_same_kind k kind t) (rw t refl)
  | inr f ↦ elim (cases_Bool (is_below kind k)) [
    | inl lt ↦ First (is_less (slice_cmp nat_cmp kind.0 k.0) lt) (rw (f, lt) refl)
    | inr ge ↦ Later (above k kind f ge) (rw (f, ge) refl)
  ]
]

from_with : (z kind : FourCc) (ks : List FourCc) → IsIn z (with_kind ks kind) → (kind ≡ z) ⊎ IsIn z ks
from_with z kind [] (inl e) = inl e
from_with z kind [] (inr h) = absurd h
from_with z kind (k ∷ ks) h = elim (place kind k ks) [
  | There e is ↦ inr (subst (λ (l : List FourCc). IsIn z l) is h)
  | First lt is ↦ let k' : IsIn z (kind ∷ k ∷ ks) = subst (λ (l : List FourCc). IsIn z l) is h in elim k' [ inl e ↦ inl e | inr old ↦ inr old ]
  | Later gt is ↦
      let k' : IsIn z (k ∷ with_kind ks kind) = subst (λ (l : List FourCc). IsIn z l) is h in
      elim k' [ inl e ↦ inr (inl e) | inr more ↦ elim (from_with z kind ks more) [ inl e ↦ inl e | inr old ↦ inr (inr old) ] ]
]

in_with : (z kind : FourCc) (ks : List FourCc) → (kind ≡ z) ⊎ IsIn z ks → IsIn z (with_kind ks kind)
in_with z kind [] (inl e) = inl e
in_with z kind [] (inr h) = absurd h
in_with z kind (k ∷ ks) h = elim (place kind k ks) [
  | There same is ↦ subst (λ (l : List FourCc). IsIn z l) (sym is) (elim h [ inl e ↦ inl (same ∙ e) | inr old ↦ old ])
  | First lt is ↦ subst (λ (l : List FourCc). IsIn z l) (sym is) (elim h [ inl e ↦ inl e | inr old ↦ inr old ])
  | Later gt is ↦
      let k' : IsIn z (k ∷ with_kind ks kind) = elim h [ inl e ↦ inr (in_with z kind ks (inl e)) | inr old ↦ elim old [ inl e ↦ inl e | inr more ↦ inr (in_with z kind ks (inr more)) ] ] in
      subst (λ (l : List FourCc). IsIn z l) (sym is) k'
]

rises_above : (low kind : FourCc) (ks : List FourCc) → IsBelow low kind → RisesFrom IsBelow low ks → RisesFrom IsBelow low (with_kind ks kind)
rises_above low kind [] below up = (below, tt)
rises_above low kind (k ∷ ks) below up = elim (place kind k ks) [
  | There same is ↦ subst (λ (l : List FourCc). RisesFrom IsBelow low l) (sym is) up
  | First lt is ↦ subst (λ (l : List FourCc). RisesFrom IsBelow low l) (sym is) (below, (lt, up.1))
  | Later gt is ↦ subst (λ (l : List FourCc). RisesFrom IsBelow low l) (sym is) (up.0, rises_above k kind ks gt up.1)
]

rises_with : (kind : FourCc) (ks : List FourCc) → Rises IsBelow ks → Rises IsBelow (with_kind ks kind)
rises_with kind [] up = tt
rises_with kind (k ∷ ks) up = elim (place kind k ks) [
  | There same is ↦ subst (λ (l : List FourCc). Rises IsBelow l) (sym is) up
  | First lt is ↦ subst (λ (l : List FourCc). Rises IsBelow l) (sym is) (lt, up)
  | Later gt is ↦ subst (λ (l : List FourCc). Rises IsBelow l) (sym is) (rises_above k kind ks gt up)
]

-- ---- the types of an item

fold_from : (z : FourCc) (earlier ks : List FourCc) → IsIn z (fold with_kind earlier ks) → IsIn z earlier ⊎ IsIn z ks
fold_from z earlier [] h = inl h
fold_from z earlier (k ∷ ks) h = elim (fold_from z (with_kind earlier k) ks h) [
  | inl there ↦ elim (from_with z k earlier there) [ inl e ↦ inr (inl e) | inr old ↦ inl old ]
  | inr more ↦ inr (inr more)
]

fold_in : (z : FourCc) (earlier ks : List FourCc) → IsIn z earlier ⊎ IsIn z ks → IsIn z (fold with_kind earlier ks)
fold_in z earlier [] (inl h) = h
fold_in z earlier [] (inr h) = absurd h
fold_in z earlier (k ∷ ks) (inl h) = fold_in z (with_kind earlier k) ks (inl (in_with z k earlier (inr h)))
fold_in z earlier (k ∷ ks) (inr (inl e)) = fold_in z (with_kind earlier k) ks (inl (in_with z k earlier (inl e)))
fold_in z earlier (k ∷ ks) (inr (inr h)) = fold_in z (with_kind earlier k) ks (inr h)

fold_rises : (earlier ks : List FourCc) → Rises IsBelow earlier → Rises IsBelow (fold with_kind earlier ks)
fold_rises earlier [] up = up
fold_rises earlier (k ∷ ks) up = fold_rises (with_kind earlier k) ks (rises_with k earlier up)

-- a type that is kept is that of a box
pub kind_box : (from : ℕ) (links : List RefBox) (kind : FourCc) → IsIn kind (kept_kinds from links) → (b : RefBox) × IsIn b links × (b.kind ≡ kind) × (is_kept_link from b ≡ true)
kind_box from links kind h = elim (fold_from kind [] (map (λ (r : RefBox). r.kind) (filter (is_kept_link from) links)) h) [
  | inl none ↦ absurd none
  | inr there ↦
      let p = from_map (λ (r : RefBox). r.kind) (filter (is_kept_link from) links) kind there in
      (p.0, in_filter (is_kept_link from) links p.0 p.1, p.2, passed (is_kept_link from) links p.0 p.1)
]

box_kind : (from : ℕ) (links : List RefBox) (b : RefBox) → IsIn b links → is_kept_link from b ≡ true → IsIn b.kind (kept_kinds from links)
box_kind from links b among kept =
    fold_in b.kind [] (map (λ (r : RefBox). r.kind) (filter (is_kept_link from) links)) (inr (in_map (λ (r : RefBox). r.kind) (filter (is_kept_link from) links) b (passes (is_kept_link from) links b among kept)))

pub not_iloc : (from : ℕ) (b : RefBox) → is_kept_link from b ≡ true → b.kind ≢ ILOC
not_iloc from b kept e =
    let p = and_parts (eqb b.from from) (not (is_kind b.kind ILOC)) kept in
    let t = same_kind b.kind ILOC e in
    let none : not (is_kind b.kind ILOC) ≡ false = rw t refl in
    let both : true ≡ false = sym p.1 ∙ none in
    cc

-- ---- the lists

abbrev some_to : RefList → Bool
some_to r = not_empty r.to

lower : (low k : FourCc) (ks : List FourCc) → IsBelow low k → RisesFrom IsBelow k ks → RisesFrom IsBelow low ks
lower low k [] below up = tt
lower low k (x ∷ xs) below up = (below_transitive low k x below up.0, up.1)

lists_above : (list : FourCc → RefList) → ((k : FourCc) → (list k).kind ≡ k) → (low : FourCc) (ks : List FourCc) → RisesFrom IsBelow low ks → RisesFrom IsBelow low (kinds_of (filter some_to (map list ks)))
lists_above list own low [] up = tt
lists_above list own low (k ∷ ks) up = elim (cases_Bool (some_to (list k))) [
  | inl t ↦
      let whole : filter some_to (map list (k ∷ ks)) ≡ list k ∷ filter some_to (map list ks) = rw t refl in
      let below : IsBelow low (list k).kind = subst (λ (x : FourCc). IsBelow low x) (sym (own k)) up.0 in
      let more : RisesFrom IsBelow (list k).kind (kinds_of (filter some_to (map list ks))) = subst (λ (x : FourCc). RisesFrom IsBelow x (kinds_of (filter some_to (map list ks)))) (sym (own k)) (lists_above list own k ks up.1) in
      subst (λ (l : List RefList). RisesFrom IsBelow low (kinds_of l)) (sym whole) (below, more)
  | inr f ↦
      let rest : filter some_to (map list (k ∷ ks)) ≡ filter some_to (map list ks) = rw f refl in
      subst (λ (l : List RefList). RisesFrom IsBelow low (kinds_of l)) (sym rest) (lower low k (kinds_of (filter some_to (map list ks))) up.0 (lists_above list own k ks up.1))
]

rises_later : (k : FourCc) (ks : List FourCc) → RisesFrom IsBelow k ks → Rises IsBelow ks
rises_later k [] up = tt
rises_later k (x ∷ xs) up = up.1

lists_rise : (list : FourCc → RefList) → ((k : FourCc) → (list k).kind ≡ k) → (ks : List FourCc) → Rises IsBelow ks → Rises IsBelow (kinds_of (filter some_to (map list ks)))
lists_rise list own [] up = tt
lists_rise list own (k ∷ ks) up = elim (cases_Bool (some_to (list k))) [
  | inl t ↦
      let whole : filter some_to (map list (k ∷ ks)) ≡ list k ∷ filter some_to (map list ks) = rw t refl in
      let more : RisesFrom IsBelow (list k).kind (kinds_of (filter some_to (map list ks))) = subst (λ (x : FourCc). RisesFrom IsBelow x (kinds_of (filter some_to (map list ks)))) (sym (own k)) (lists_above list own k ks up) in
      subst (λ (l : List RefList). Rises IsBelow (kinds_of l)) (sym whole) more
  | inr f ↦
      let rest : filter some_to (map list (k ∷ ks)) ≡ filter some_to (map list ks) = rw f refl in
      subst (λ (l : List RefList). Rises IsBelow (kinds_of l)) (sym rest) (lists_rise list own ks (rises_later k ks up))
]

empty_or_not : (xs : List ℕ) → (xs ≡ []) ⊎ (not_empty xs ≡ true)
empty_or_not [] = inl refl
empty_or_not (x ∷ xs) = inr refl

-- a list that is computed is that of a type that is kept, and has some ids
pub list_kind : (ids : List ℕ) (links : List RefBox) (from : ℕ) (r : RefList) → IsIn r (kept_refs ids links from) → (kind : FourCc) × IsIn kind (kept_kinds from links) × (kept_list ids links from kind ≡ r) × (not_empty r.to ≡ true)
unfolding kept_refs
list_kind ids links from r h =
    let p = from_map (kept_list ids links from) (kept_kinds from links) r (in_filter some_to (map (kept_list ids links from) (kept_kinds from links)) r h) in
    (p.0, p.1, p.2, passed some_to (map (kept_list ids links from) (kept_kinds from links)) r h)

is_kept : (ids : List ℕ) (links : List RefBox) (from : ℕ) (r : RefList) → IsIn r (kept_refs ids links from) → IsKept (λ to. has_id to ids) links from r
is_kept ids links from r h =
    let p = list_kind ids links from r h in
    let b = kind_box from links p.0 p.1 in
    let kind : b.0.kind ≡ r.kind = b.2 ∙ ap (λ (x : RefList). x.kind) p.2 in
    record {
      not_iloc = λ e. not_iloc from b.0 b.3 (kind ∙ e);
      some = some_length r.to p.3;
      to = subst (λ (x : RefList). x.to ≡ joined (λ to. has_id to ids) x.kind from links) p.2 refl;
    }

covers : (ids : List ℕ) (links : List RefBox) (from : ℕ) (b : RefBox) → IsIn b links → b.from ≡ from
    → (b.kind ≡ ILOC) ⊎ ((joined (λ to. has_id to ids) b.kind from links ≡ []) ⊎ IsIn b.kind (kinds_of (kept_refs ids links from)))
unfolding kept_refs
covers ids links from b among own = elim (cases_Bool (is_kind b.kind ILOC)) [
  | inl t ↦ inl (is_same_kind b.kind ILOC t)
  | inr f ↦
      let here = eq-eqb b.from from own in
      let kept : is_kept_link from b ≡ true = rw (here, f) refl in
      let list = kept_list ids links from in
      let there : IsIn (list b.kind) (map list (kept_kinds from links)) = in_map list (kept_kinds from links) b.kind (box_kind from links b among kept) in
      elim (empty_or_not (joined (λ to. has_id to ids) b.kind from links)) [
        | inl none ↦ inr (inl none)
        | inr some ↦ inr (inr (in_map (λ (r : RefList). r.kind) (filter some_to (map list (kept_kinds from links))) (list b.kind) (passes some_to (map list (kept_kinds from links)) (list b.kind) there some)))
      ]
]

refs_rise : (ids : List ℕ) (links : List RefBox) (from : ℕ) → Rises IsBelow (kinds_of (kept_refs ids links from))
unfolding kept_refs
refs_rise ids links from = lists_rise (kept_list ids links from) (λ k. refl) (kept_kinds from links) (fold_rises [] (map (λ (r : RefBox). r.kind) (filter (is_kept_link from) links)) tt)

pub refs_are_kept : (ids : List ℕ) (links : List RefBox) (from : ℕ) → KeepsRefs (λ to. has_id to ids) links from (kept_refs ids links from)
refs_are_kept ids links from = record {
  rise = refs_rise ids links from;
  each = all_from (IsKept (λ to. has_id to ids) links from) (kept_refs ids links from) (is_kept ids links from);
  all = all_from (λ (b : RefBox). b.from ≡ from → (b.kind ≡ ILOC) ⊎ ((joined (λ to. has_id to ids) b.kind from links ≡ []) ⊎ IsIn b.kind (kinds_of (kept_refs ids links from)))) links (covers ids links from);
}

-- ---- ids that pass

pub joined_passes : (ids : List ℕ) (kind : FourCc) (from : ℕ) (links : List RefBox) (x : ℕ) → IsIn x (joined (λ to. has_id to ids) kind from links) → IsIn x ids
joined_passes ids kind from [] x h = absurd h
joined_passes ids kind from (b ∷ bs) x h = elim (cases_Bool (eqb b.from from && is_kind kind b.kind)) [
  | inl t ↦
      let whole : joined (λ to. has_id to ids) kind from (b ∷ bs) ≡ filter (λ to. has_id to ids) b.to ++ joined (λ to. has_id to ids) kind from bs = rw t refl in
      elim (in_joined x (filter (λ to. has_id to ids) b.to) (joined (λ to. has_id to ids) kind from bs) (subst (λ (l : List ℕ). IsIn x l) whole h)) [
        | inl here ↦ in_has x ids (passed (λ to. has_id to ids) b.to x here)
        | inr there ↦ joined_passes ids kind from bs x there
      ]
  | inr f ↦
      let rest : joined (λ to. has_id to ids) kind from (b ∷ bs) ≡ joined (λ to. has_id to ids) kind from bs = rw f refl in
      joined_passes ids kind from bs x (subst (λ (l : List ℕ). IsIn x l) rest h)
]
