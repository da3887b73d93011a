-- Which items are kept where others go.
use Rattle.std.proofs.Common.{◌≡◌, ℕ, ◌<◌, Bool, true, false, List, [], ◌∷◌, ◌++◌, map, filter, refl, sym, ap, subst, ◌∙◌, arith, inl, inr}
use Rattle.std.specs.Prelude.{IsTrue}
use Rattle.hf_base.specs.declared.four.FourCc.{FourCc}
use Rattle.hf_links.specs.Kinds.{is_minor, is_need}
use Rattle.hf_order.proofs.Members.{in_all, in_map, from_map, in_filter, in_front, in_joined}
use Rattle.hf_store.specs.Changes.{added, cut_list, cut_refs, cut_item, cut_items, cut}
use Rattle.hf_store.specs.Lists.{IsIn, RisesFrom, not_empty}
use Rattle.hf_store.specs.Store.{Item, ItemStore, ids_of}
use Rattle.hf_store.specs.declared.item.RefList.{RefList}
use Rattle.hf_store.proofs.Cuts.{ids_left, in_left}
use Rattle.hf_deps.specs.Kept.{Keeps, Kept, kept_ids}
use Rattle.hf_deps.specs.Redacted.{bared, all_bared, KeepNothing}
use Rattle.hf_deps.proofs.Among.{passes, same_members, to_filter}
use Rattle.hf_deps.proofs.Chains.{IsLinked, each_kept, kept_first, kept_next, kept_told, kept_ids_rise, told_kept}

-- ---- the references that are left

-- item a has a reference of a type that passes to b
abbrev Refers : (FourCc → Bool) → ItemStore → ℕ → ℕ → Type 0
Refers of s a b = (i : Item) × (r : RefList) × IsIn i s.items × (i.id ≡ a) × IsIn r i.refs × IsTrue (of r.kind) × IsIn b r.to

from_cut : (stays : ℕ → Bool) (is : List Item) (j : Item) → IsIn j (cut_items stays is) → (i : Item) × IsIn i is × (stays i.id ≡ true) × (cut_item stays i ≡ j)
from_cut stays is j h =
    let test : Item → Bool = λ i. stays i.id in
    let from = from_map (cut_item stays) (filter test is) j h in
    (from.0, in_filter test is from.0 from.1, passes test is from.0 from.1, from.2)

to_cut : (stays : ℕ → Bool) (is : List Item) (i : Item) → IsIn i is → stays i.id ≡ true → IsIn (cut_item stays i) (cut_items stays is)
to_cut stays is i h here = let test : Item → Bool = λ j. stays j.id in in_map (cut_item stays) (filter test is) i (to_filter test is i here h)

from_cut_refs : (stays : ℕ → Bool) (rs : List RefList) (q : RefList) → IsIn q (cut_refs stays rs) → (r : RefList) × IsIn r rs × (cut_list stays r ≡ q)
from_cut_refs stays rs q h =
    let test : RefList → Bool = λ r. not_empty r.to in
    from_map (cut_list stays) rs q (in_filter test (map (cut_list stays) rs) q h)

has_some : (x : ℕ) (xs : List ℕ) → IsIn x xs → not_empty xs ≡ true
has_some x [] h = absurd h
has_some x (y ∷ ys) h = refl

to_cut_refs : (stays : ℕ → Bool) (rs : List RefList) (r : RefList) (b : ℕ) → IsIn r rs → IsIn b (filter stays r.to)
    → IsIn (cut_list stays r) (cut_refs stays rs)
to_cut_refs stays rs r b h left =
    let test : RefList → Bool = λ q. not_empty q.to in
    to_filter test (map (cut_list stays) rs) (cut_list stays r) (has_some b (filter stays r.to) left) (in_map (cut_list stays) rs r h)

refers_left : (of : FourCc → Bool) (stays : ℕ → Bool) (s : ItemStore) (a b : ℕ) → Refers of (cut stays s) a b
    → Refers of s a b × (stays a ≡ true) × (stays b ≡ true)
unfolding cut
refers_left of stays s a b h =
    let item = from_cut stays s.items h.0 h.2 in
    let i = item.0 in
    let id : i.id ≡ a = ap (λ (j : Item). j.id) item.3 ∙ h.3 in
    let among : IsIn h.1 (cut_refs stays i.refs) = subst (λ (j : Item). IsIn h.1 j.refs) (sym item.3) h.4 in
    let list = from_cut_refs stays i.refs h.1 among in
    let r = list.0 in
    let kind : IsTrue (of r.kind) = ap (λ (q : RefList). of q.kind) list.2 ∙ h.5 in
    let left : IsIn b (filter stays r.to) = subst (λ (q : RefList). IsIn b q.to) (sym list.2) h.6 in
    ((i, r, item.1, id, list.1, kind, in_filter stays r.to b left), ap stays (sym id) ∙ item.2, passes stays r.to b left)

refers_still : (of : FourCc → Bool) (stays : ℕ → Bool) (s : ItemStore) (a b : ℕ) → Refers of s a b → stays a ≡ true → stays b ≡ true
    → Refers of (cut stays s) a b
unfolding cut
refers_still of stays s a b h here there =
    let left : IsIn b (filter stays h.1.to) = to_filter stays h.1.to b there h.6 in
    (cut_item stays h.0, cut_list stays h.1, to_cut stays s.items h.0 h.2 (ap stays h.3 ∙ here), h.3, to_cut_refs stays h.0.refs h.1 b h.4 left, h.5, left)

keeps_left : (stays : ℕ → Bool) (s : ItemStore) (bare : Bool) (a b : ℕ) → Keeps (cut stays s) bare a b → Keeps s bare a b × (stays b ≡ true)
keeps_left stays s bare a b (inl h) = let left = refers_left is_need stays s a b h in (inl left.0, left.2)
keeps_left stays s bare a b (inr k) = let left = refers_left is_minor stays s b a k.1 in (inr (k.0, left.0), left.1)

keeps_still : (stays : ℕ → Bool) (s : ItemStore) (bare : Bool) (a b : ℕ) → Keeps s bare a b → stays a ≡ true → stays b ≡ true → Keeps (cut stays s) bare a b
keeps_still stays s bare a b (inl h) here there = inl (refers_still is_need stays s a b h here there)
keeps_still stays s bare a b (inr k) here there = inr (k.0, refers_still is_minor stays s b a k.1 there here)

-- ---- two stores that keep the same

-- what one keeps the other keeps
pub record KeepsTheSame (s t : ItemStore) (bare : Bool) : Type 0 where
  pub there : (id : ℕ) → Kept s bare id → Kept t bare id
  pub back : (id : ℕ) → Kept t bare id → Kept s bare id

pub same_ids : (s t : ItemStore) (bare : Bool) → IsLinked s bare → IsLinked t bare → KeepsTheSame s t bare → kept_ids bare s ≡ kept_ids bare t
same_ids s t bare one other same =
    same_members 0 (kept_ids bare s) (kept_ids bare t) (kept_ids_rise s bare one) (kept_ids_rise t bare other)
    (λ x h. kept_told t bare other x (same.there x (told_kept s bare x h)))
    (λ x h. kept_told s bare one x (same.back x (told_kept t bare x h)))

module _ (stays : ℕ → Bool) (s : ItemStore) (bare : Bool) (all : (id : ℕ) → Kept s bare id → stays id ≡ true) where
  cut_first : (cut stays s).primary ≡ s.primary
  unfolding cut
  cut_first = refl

  pub cut_kept : KeepsTheSame (cut stays s) s bare
  cut_kept = record {
    there = each_kept (Kept s bare) (cut stays s) bare (subst (Kept s bare) (sym cut_first) (kept_first s bare))
        (λ a b kept keeps. kept_next s bare a b kept (keeps_left stays s bare a b keeps).0);
    back = λ id kept.
        (each_kept (λ (n : ℕ). Kept s bare n × Kept (cut stays s) bare n) s bare
        (kept_first s bare, subst (Kept (cut stays s) bare) cut_first (kept_first (cut stays s) bare))
        (λ a b both keeps.
        let next = kept_next s bare a b both.0 keeps in
        (next, kept_next (cut stays s) bare a b both.1 (keeps_still stays s bare a b keeps (all a both.0) (all b next))))
        id kept).1;
  }

  pub cut_linked : IsLinked s bare → IsLinked (cut stays s) bare
  unfolding cut
  cut_linked linked = record {
    rises = ids_left stays 0 s.items linked.rises;
    primary = in_left stays s.primary s.items (all s.primary (kept_first s bare)) linked.primary;
    ends = λ a b keeps. let left = keeps_left stays s bare a b keeps in in_left stays b s.items left.1 (linked.ends a b left.0);
  }

-- ---- names and properties

refers_bared : (of : FourCc → Bool) (s : ItemStore) (a b : ℕ) → Refers of (all_bared s) a b → Refers of s a b
refers_bared of s a b h =
    let from = from_map bared s.items h.0 h.2 in
    (from.0, h.1, from.1, ap (λ (i : Item). i.id) from.2 ∙ h.3, subst (λ (i : Item). IsIn h.1 i.refs) (sym from.2) h.4, h.5, h.6)

bared_refers : (of : FourCc → Bool) (s : ItemStore) (a b : ℕ) → Refers of s a b → Refers of (all_bared s) a b
bared_refers of s a b h = (bared h.0, h.1, in_map bared s.items h.0 h.2, h.3, h.4, h.5, h.6)

keeps_bared : (s : ItemStore) (bare : Bool) (a b : ℕ) → Keeps (all_bared s) bare a b → Keeps s bare a b
keeps_bared s bare a b (inl h) = inl (refers_bared is_need s a b h)
keeps_bared s bare a b (inr k) = inr (k.0, refers_bared is_minor s b a k.1)

bared_keeps : (s : ItemStore) (bare : Bool) (a b : ℕ) → Keeps s bare a b → Keeps (all_bared s) bare a b
bared_keeps s bare a b (inl h) = inl (bared_refers is_need s a b h)
bared_keeps s bare a b (inr k) = inr (k.0, bared_refers is_minor s b a k.1)

pub bared_kept : (s : ItemStore) (bare : Bool) → KeepsTheSame (all_bared s) s bare
bared_kept s bare = record {
  there = each_kept (Kept s bare) (all_bared s) bare (kept_first s bare) (λ a b kept keeps. kept_next s bare a b kept (keeps_bared s bare a b keeps));
  back = each_kept (Kept (all_bared s) bare) s bare (kept_first (all_bared s) bare)
      (λ a b kept keeps. kept_next (all_bared s) bare a b kept (bared_keeps s bare a b keeps));
}

ids-bared : (is : List Item) → ids_of (map bared is) ≡ ids_of is
ids-bared [] = refl
ids-bared (i ∷ is) = ap (λ (ids : List ℕ). i.id ∷ ids) (ids-bared is)

pub bared_linked : (s : ItemStore) (bare : Bool) → IsLinked s bare → IsLinked (all_bared s) bare
bared_linked s bare linked =
    let same = sym (ids-bared s.items) in
    record {
      rises = subst (RisesFrom ◌<◌ 0) same linked.rises;
      primary = subst (IsIn s.primary) same linked.primary;
      ends = λ a b keeps. subst (IsIn b) same (linked.ends a b (keeps_bared s bare a b keeps));
    }

-- ---- one more item, which keeps nothing

refers_added : (of : FourCc → Bool) (i : Item) (s : ItemStore) (a b : ℕ) → ((r : RefList) → IsIn r i.refs → of r.kind ≡ false) → Refers of (added i s) a b
    → Refers of s a b
refers_added of i s a b none h = elim (in_joined h.0 s.items (i ∷ []) h.2) [
  | inl old ↦ (h.0, h.1, old, h.3, h.4, h.5, h.6)
  | inr new ↦ elim new [
    | inl same ↦ absurd
        (let no : of h.1.kind ≡ false = none h.1 (subst (λ (j : Item). IsIn h.1 j.refs) (sym same) h.4) in let e : true ≡ false = sym h.5 ∙ no in cc)
    | inr out ↦ absurd out
  ]
]

added_refers : (of : FourCc → Bool) (i : Item) (s : ItemStore) (a b : ℕ) → Refers of s a b → Refers of (added i s) a b
added_refers of i s a b h = (h.0, h.1, in_front h.0 s.items (i ∷ []) h.2, h.3, h.4, h.5, h.6)

module _ (i : Item) (s : ItemStore) (bare : Bool) (nothing : KeepNothing i) where
  each : (r : RefList) → IsIn r i.refs → (is_need r.kind ≡ false) × (is_minor r.kind ≡ false)
  each = in_all (λ (r : RefList). (is_need r.kind ≡ false) × (is_minor r.kind ≡ false)) i.refs nothing

  keeps_added : (a b : ℕ) → Keeps (added i s) bare a b → Keeps s bare a b
  keeps_added a b (inl h) = inl (refers_added is_need i s a b (λ r among. (each r among).0) h)
  keeps_added a b (inr k) = inr (k.0, refers_added is_minor i s b a (λ r among. (each r among).1) k.1)

  added_keeps : (a b : ℕ) → Keeps s bare a b → Keeps (added i s) bare a b
  added_keeps a b (inl h) = inl (added_refers is_need i s a b h)
  added_keeps a b (inr k) = inr (k.0, added_refers is_minor i s b a k.1)

  pub added_kept : KeepsTheSame (added i s) s bare
  added_kept = record {
    there = each_kept (Kept s bare) (added i s) bare (kept_first s bare) (λ a b kept keeps. kept_next s bare a b kept (keeps_added a b keeps));
    back = each_kept (Kept (added i s) bare) s bare (kept_first (added i s) bare)
        (λ a b kept keeps. kept_next (added i s) bare a b kept (added_keeps a b keeps));
  }

  in_more : (x : ℕ) (is : List Item) → IsIn x (ids_of is) → IsIn x (ids_of (is ++ i ∷ []))
  in_more x [] h = absurd h
  in_more x (j ∷ js) (inl e) = inl e
  in_more x (j ∷ js) (inr h) = inr (in_more x js h)

  more_rise : (low : ℕ) (is : List Item) → low < i.id → ((id : ℕ) → IsIn id (ids_of is) → id < i.id) → RisesFrom ◌<◌ low (ids_of is)
      → RisesFrom ◌<◌ low (ids_of (is ++ i ∷ []))
  more_rise low [] first above up = (first, tt)
  more_rise low (j ∷ js) first above up = (up.0, more_rise j.id js (above j.id (inl refl)) (λ id h. above id (inr h)) up.1)

  pub added_linked : ((id : ℕ) → IsIn id (ids_of s.items) → id < i.id) → IsLinked s bare → IsLinked (added i s) bare
  added_linked above linked = record {
    rises = more_rise 0 s.items (let first = above s.primary linked.primary in omega (arith, first)) above linked.rises;
    primary = in_more s.primary s.items linked.primary;
    ends = λ a b keeps. in_more b s.items (linked.ends a b (keeps_added a b keeps));
  }
