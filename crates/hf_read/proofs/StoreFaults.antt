-- Parts over the items of a store that have no fault: what they say of it.
use Rattle.std.proofs.Common.{◌≡◌, ℕ, ◌≤◌, ◌<◌, Bool, true, false, ltb, List, [], ◌∷◌, length, map, Option, Some, None, Err, refl, sym, ap, subst, ◌∙◌, inl, inr}
use Rattle.std.specs.Prelude.{IsTrue, if◌then◌else◌}
use Rattle.std.proofs.lemmas.Bool.{cases_Bool, ltb-false, le-ltb}
use Rattle.hf_base.specs.EntryLaws.{refused_not}
use Rattle.hf_base.specs.LocationFaults.{refused}
use Rattle.hf_base.specs.Members.{IsIn, Rises}
use Rattle.hf_base.specs.Reading.{◌>>=◌}
use Rattle.hf_base.specs.ReadingLaws.{bind_ok}
use Rattle.hf_base.specs.declared.fault.ReadRefusal.{ReadRefusal}
use Rattle.hf_base.specs.declared.fault.ReadRefusal.TheVariants.{BadDerived, DeriveCycle, TooManyItems, TooManyLinks}
use Rattle.hf_base.specs.declared.limits.TheConstants as limits
use Rattle.hf_base.proofs.BytesLaws.{any_not}
use Rattle.hf_box.specs.Literals.{four}
use Rattle.hf_box.specs.Walk.{is_kind}
use Rattle.hf_derived.specs.Cycle.{AreAmong, IsLeastCycle}
use Rattle.hf_derived.specs.Derived.{fits}
use Rattle.hf_order.specs.Order.{IsEndless}
use Rattle.hf_order.proofs.Members.{all_from, in_map, from_map}
use Rattle.hf_store.specs.Derived.{inputs, input_pairs}
use Rattle.hf_store.specs.Store.{Item, ItemStore, ids_of}
use Rattle.hf_store.specs.declared.item.RefList.{RefList}
use Rattle.hf_store.specs.Valid.{meta_len}
use Rattle.hf_store.specs.LimitFaults.{first_item, too_many_items_fault, has_long_list, too_many_links_fault, meta_too_long_fault, limits_fault}
use Rattle.hf_read.specs.Faults.{is_misfit, bad_derived_fault, derive_cycle_fault, derived_fault}
use Rattle.hf_read.specs.Walks.{first_walker}
use Rattle.hf_read.proofs.FirstFaults.{fine}
use Rattle.hf_read.proofs.Filters.{not_false, any_none, from_flat}
use Rattle.hf_read.proofs.WalkLaws.{least_cycle}

-- ---- tests of items

item_passes : (why : ℕ → ReadRefusal) (has : Item → Bool) (items : List Item) → refused why (first_item has items) ≡ fine → (i : Item) → IsIn i items → has i ≡ false
item_passes why has [] clean i h = absurd h
item_passes why has (x ∷ xs) clean i h = elim (cases_Bool (has x)) [
  | inl t ↦ absurd (let e : refused why (first_item has (x ∷ xs)) ≡ Err (why x.id) = rw t refl in let other : Err (why x.id) ≡ fine = sym e ∙ clean in cc)
  | inr f ↦
      let e : first_item has (x ∷ xs) ≡ first_item has xs = rw f refl in
      elim h [ inl same ↦ ap has (sym same) ∙ f | inr k ↦ item_passes why has xs (ap (refused why) (sym e) ∙ clean) i k ]
]

items_pass : (why : ℕ → ReadRefusal) (has : Item → Bool) (items : List Item) → ((i : Item) → IsIn i items → has i ≡ false) → refused why (first_item has items) ≡ fine
items_pass why has [] each = refl
items_pass why has (x ∷ xs) each =
    let f = each x (inl refl) in
    let e : first_item has (x ∷ xs) ≡ first_item has xs = rw f refl in
    ap (refused why) e ∙ items_pass why has xs (λ i h. each i (inr h))

no_fault : (test : Bool) (e : ReadRefusal) → (if test then Err e else fine) ≡ fine → test ≡ false
no_fault true e h = absurd cc
no_fault false e h = refl

-- ---- derived items

pub each_fits : (items : List Item) → derived_fault items ≡ fine → (i : Item) → IsIn i items → IsTrue (fits i.kind i.bytes (length (inputs i.refs)))
unfolding derived_fault bad_derived_fault
each_fits items clean i h =
    let a = bind_ok (bad_derived_fault items) (λ fitting. derive_cycle_fault items) tt clean in
    not_false (fits i.kind i.bytes (length (inputs i.refs))) (item_passes (λ id. BadDerived id) is_misfit items a.1 i h)

none_refused : (why : ℕ → ReadRefusal) (o : Option ℕ) → refused why o ≡ fine → o ≡ None
none_refused why None h = refl
none_refused why (Some id) h = absurd cc

no_walker : (items : List Item) → derived_fault items ≡ fine → first_walker (input_pairs items) (ids_of items) ≡ None
unfolding derived_fault derive_cycle_fault
no_walker items clean =
    let a = bind_ok (bad_derived_fault items) (λ fitting. derive_cycle_fault items) tt clean in
    none_refused (λ id. DeriveCycle id) (first_walker (input_pairs items) (ids_of items)) a.2

-- references of items lead to items
abbrev pub LeadToItems : List Item → Type 0
LeadToItems items = (i : Item) (r : RefList) (x : ℕ) → IsIn i items → IsIn r i.refs → IsIn x r.to → IsIn x (ids_of items)

input_list : (refs : List RefList) (x : ℕ) → IsIn x (inputs refs) → (r : RefList) × IsIn r refs × IsIn x r.to
input_list [] x h = absurd h
input_list (r ∷ rs) x h = elim (cases_Bool (is_kind r.kind (four "dimg"))) [
  | inl t ↦
      let here : inputs (r ∷ rs) ≡ r.to = rw t refl in
      (r, inl refl, subst (λ (l : List ℕ). IsIn x l) here h)
  | inr f ↦
      let later : inputs (r ∷ rs) ≡ inputs rs = rw f refl in
      let p = input_list rs x (subst (λ (l : List ℕ). IsIn x l) later h) in
      (p.0, inr p.1, p.2)
]

pub pairs_among : (items : List Item) → LeadToItems items → AreAmong (ids_of items) (input_pairs items)
pairs_among items lead = all_from (λ (p : ℕ × ℕ). IsIn p.0 (ids_of items) × IsIn p.1 (ids_of items)) (input_pairs items) (λ p h.
    let f = from_flat (λ (i : Item). map (λ (to : ℕ). (i.id, to)) (inputs i.refs)) items p h in
    let m = from_map (λ (to : ℕ). (f.0.id, to)) (inputs f.0.refs) p f.2 in
    let l = input_list f.0.refs m.0 m.1 in
    let from : IsIn f.0.id (ids_of items) = in_map (λ (i : Item). i.id) items f.0 f.1 in
    subst (λ (q : ℕ × ℕ). IsIn q.0 (ids_of items) × IsIn q.1 (ids_of items)) m.2 (from, lead f.0 l.0 m.0 f.1 l.1 l.2))

pub walks_end : (items : List Item) → Rises ◌<◌ (ids_of items) → LeadToItems items → derived_fault items ≡ fine → (walk : ℕ → ℕ) → IsEndless (input_pairs items) walk → ⊥
walks_end items up lead clean walk endless =
    let least = least_cycle (input_pairs items) (ids_of items) up (pairs_among items lead) in
    let none : IsLeastCycle (input_pairs items) None = subst (λ (o : Option ℕ). IsLeastCycle (input_pairs items) o) (no_walker items clean) least in
    none walk endless

none_least : (why : ℕ → ReadRefusal) (pairs : List (ℕ × ℕ)) (o : Option ℕ) → IsLeastCycle pairs o → ((walk : ℕ → ℕ) → IsEndless pairs walk → ⊥) → refused why o ≡ fine
none_least why pairs None least ends = refl
none_least why pairs (Some id) least ends = absurd (ends least.0.0 least.0.2)

pub derived_fine : (items : List Item) → Rises ◌<◌ (ids_of items) → LeadToItems items → ((i : Item) → IsIn i items → IsTrue (fits i.kind i.bytes (length (inputs i.refs))))
    → ((walk : ℕ → ℕ) → IsEndless (input_pairs items) walk → ⊥) → derived_fault items ≡ fine
unfolding derived_fault bad_derived_fault derive_cycle_fault
derived_fine items up lead fit ends =
    let fitting : refused (λ id. BadDerived id) (first_item is_misfit items) ≡ fine = items_pass (λ id. BadDerived id) is_misfit items (λ i h. let t = fit i h in rw t refl) in
    let ending : refused (λ id. DeriveCycle id) (first_walker (input_pairs items) (ids_of items)) ≡ fine = none_least (λ id. DeriveCycle id) (input_pairs items) (first_walker (input_pairs items) (ids_of items)) (least_cycle (input_pairs items) (ids_of items) up (pairs_among items lead)) ends in
    rw fitting ending

-- ---- the limits of a store

-- it keeps the limits
pub record KeepsLimits (s : ItemStore) : Type 0 where
  pub count : length s.items ≤ limits.ITEMS
  pub links : (i : Item) (r : RefList) → IsIn i s.items → IsIn r i.refs → length r.to ≤ limits.LINKS
  pub meta : meta_len s ≤ limits.META

pub limits_kept : (s : ItemStore) → limits_fault s ≡ fine → KeepsLimits s
unfolding limits_fault too_many_items_fault too_many_links_fault meta_too_long_fault
limits_kept s clean =
    let a = bind_ok (too_many_items_fault s.items) (λ count. too_many_links_fault s.items >>= λ links. meta_too_long_fault s) tt clean in
    let b = bind_ok (too_many_links_fault s.items) (λ links. meta_too_long_fault s) tt a.2 in
    record {
      count = ltb-false limits.ITEMS (length s.items) (refused_not (ltb limits.ITEMS (length s.items)) (TooManyItems (length s.items)) tt a.1);
      links = λ i r h k. ltb-false limits.LINKS (length r.to) (any_not (λ (x : RefList). ltb limits.LINKS (length x.to)) i.refs r (item_passes (λ id. TooManyLinks id) has_long_list s.items b.1 i h) k);
      meta = ltb-false limits.META (meta_len s) (no_fault (ltb limits.META (meta_len s)) _ b.2);
    }

pub limits_fine : (s : ItemStore) → KeepsLimits s → limits_fault s ≡ fine
unfolding limits_fault too_many_items_fault too_many_links_fault meta_too_long_fault
limits_fine s kept =
    let count = le-ltb limits.ITEMS (length s.items) kept.count in
    let links : refused (λ id. TooManyLinks id) (first_item has_long_list s.items) ≡ fine =
    items_pass (λ id. TooManyLinks id) has_long_list s.items (λ i h. any_none (λ (x : RefList). ltb limits.LINKS (length x.to)) i.refs (λ r k. le-ltb limits.LINKS (length r.to) (kept.links i r h k)))
    in
    let meta = le-ltb limits.META (meta_len s) kept.meta in
    rw (count, links, meta) refl
