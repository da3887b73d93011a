-- The length of `meta` is the one that is measured.
use Rattle.std.proofs.Common.{◌≡◌, ℕ, zero, suc, ◌+◌, ◌<◌, Bool, ltb, List, [], ◌∷◌, length, get_or, map, take, refl, sym, ap, ◌∙◌, arith, inl, inr, Some}
use Rattle.std.specs.Prelude.{slice_get}
use Rattle.std.specs.List.{sum_by}
use Rattle.std.proofs.Math.ListN.{get_or-map}
use Rattle.std.proofs.lemmas.Bool.{cases_lt, lt-ltb, le-ltb}
use Rattle.std.proofs.lemmas.List.{length-map}
use Rattle.hf_store.specs.Capped.{capped, capped_inner}
use Rattle.hf_store.specs.Counts.{counts_of}
use Rattle.hf_store.specs.Layout.{own, is_wide}
use Rattle.hf_store.specs.Sizes.{Inner, infes_size, links_size, props_size, groups_size, short_links, inner_of, meta_size_by, AllRefs, IsShortList}
use Rattle.hf_store.specs.Store.{Prop, Held, ItemStore}
use Rattle.hf_store.specs.Table.{table_of}
use Rattle.hf_store.specs.Valid.{meta_len}
use Rattle.hf_table.specs.Held.{props_in, all_props}
use Rattle.hf_table.specs.Numbered.{Stands, IsFirst, IsTableOf}
use Rattle.hf_table.specs.Table.{table}
use Rattle.hf_table.specs.declared.table.Table.{Table}
use Rattle.hf_store.proofs.CountsAre.{counts_are}
use Rattle.hf_store.proofs.Mapped.{here_at}
use Rattle.hf_store.proofs.ShortBoxes.{links_are_counted}
use Rattle.hf_store.proofs.Sizes.{meta-counted}
use Rattle.hf_store.proofs.Spots.{at_or, get_map, some_is, within_at}
use Rattle.hf_store.proofs.Tallied.{sum-next}

-- a sum over what the elements stand for goes on
pub view-next : {A B : Type 0} (view : A → B) (f : B → ℕ) (xs : List A) (k : ℕ) (x : A) (sum size new : ℕ) → k < length xs → x ≡ get_or xs k x → sum ≡ capped (sum_by f (take k (map view xs))) → size ≡ capped (f (view x)) → new ≡ capped (sum + size) → new ≡ capped (sum_by f (take (k + 1) (map view xs)))
view-next view f xs k x sum size new within here so_far part is =
    let next = sum-next f (map view xs) k (view x) sum (omega (arith, within, length-map xs view)) (ap view here ∙ sym (get_or-map view xs k x)) so_far in
    omega (arith, next, is, part)

-- and so does one over elements
pub sum-next-at : {A : Type 0} (f : A → ℕ) (xs : List A) (k : ℕ) (x : A) (sum size new : ℕ) → slice_get xs k ≡ Some x → sum ≡ capped (sum_by f (take k xs)) → size ≡ capped (f x) → new ≡ capped (sum + size) → new ≡ capped (sum_by f (take (k + 1) xs))
sum-next-at f xs k x sum size new here so_far part is =
    let next = sum-next f xs k x sum (within_at xs k x here) (sym (at_or xs k x x here)) so_far in
    omega (arith, next, is, part)

-- there is something at each place
pub some_at : {A : Type 0} (xs : List A) (k : ℕ) → k < length xs → (x : A) × (slice_get xs k ≡ Some x)
some_at [] k within = absurd (omega arith)
some_at (x ∷ xs) zero within = (x, refl)
some_at (x ∷ xs) (suc k) within = some_at xs k (omega arith)

-- ---- a property that stands at a place of the lists

-- the k-th property of the table stands where it is first used
pub first_stands : (lists : List (List Prop)) (t : Table) (k : ℕ) (where_it_is : ℕ × ℕ) → IsTableOf lists t → k < length (table (all_props lists))
    → ((ls : List (List Prop)) (p : Prop) → IsTableOf ls t → slice_get (table (all_props ls)) k ≡ Some p → IsFirst ls (all_props ls) where_it_is p)
    → (p : Prop) × (slice_get (table (all_props lists)) k ≡ Some p) × Stands lists where_it_is.0 where_it_is.1 p
first_stands lists t k where_it_is is within first =
    let there = some_at (table (all_props lists)) k within in
    (there.0, there.1, (first lists there.0 is there.1).stands)

module _ (lists : List (List Prop)) (i j : ℕ) (p : Prop) (stands : Stands lists i j p) where
  pub item_there : i < length lists
  item_there = within_at lists i stands.props stands.at

  module _ (held : List Held) (at : slice_get lists i ≡ Some (props_in held)) where
    same : stands.props ≡ props_in held
    same = some_is (sym stands.at ∙ at)

    pub prop_there : j < length held
    prop_there = omega (arith, within_at stands.props j p stands.held, ap length same, length-map held (λ (h : Held). h.prop))

    prop_is : (h : Held) → h ≡ get_or held j h → p ≡ h.prop
    prop_is h here = some_is (sym stands.held ∙ ap (λ ps. slice_get ps j) same ∙ get_map (λ (g : Held). g.prop) held j h (here_at held j h prop_there here))

    pub body_is : (h : Held) → h ≡ get_or held j h → length p.body ≡ length (get_or held j h).prop.body
    body_is h here = ap (λ (q : Prop). length q.body) (prop_is h here) ∙ ap (λ (g : Held). length g.prop.body) here

-- ---- the whole

positive-capped : (n : ℕ) → ltb 0 (capped n) ≡ ltb 0 n
positive-capped n =
    elim (cases_lt 0 n) [
      | inl some ↦ lt-ltb 0 (capped n) (omega arith) ∙ sym (lt-ltb 0 n some)
      | inr none ↦ le-ltb 0 (capped n) (omega arith) ∙ sym (le-ltb 0 n none)
    ]

pub wide-capped : (s : ItemStore) (wide : ℕ) → wide ≡ capped (counts_of s).wide → ltb 0 wide ≡ is_wide s.items
wide-capped s wide is = ap (ltb 0) is ∙ positive-capped (counts_of s).wide ∙ (counts_are s).wide

-- the boxes inside others, measured or counted
pub inner-measured : (s : ItemStore) (wide : Bool) (inner : Inner) → wide ≡ is_wide s.items → AllRefs IsShortList s.items
    → inner.infes ≡ capped (infes_size wide s.items) → inner.links ≡ capped (short_links wide (counts_of s)) → inner.props ≡ capped (props_size (table_of s))
    → inner.groups ≡ capped (groups_size s.groups) → inner ≡ capped_inner (inner_of s)
unfolding inner_of
inner-measured s wide inner is short infes links props groups =
    let lists : inner.links ≡ capped (links_size (is_wide s.items) s.items) = links ∙ ap (λ w. capped (short_links w (counts_of s))) is ∙ ap capped (sym (links_are_counted s (is_wide s.items) short)) in
    let entries : inner.infes ≡ capped (infes_size (is_wide s.items) s.items) = infes ∙ ap (λ w. capped (infes_size w s.items)) is in
    λ j. record { infes = entries j; links = lists j; props = props j; groups = groups j }

pub meta-measured : (s : ItemStore) (wide : Bool) (kinds size : ℕ) → wide ≡ is_wide s.items → kinds ≡ length (table_of s)
    → size ≡ capped (meta_size_by wide 8 kinds (counts_of s) (inner_of s)) → size ≡ capped (meta_len s)
unfolding meta_len
meta-measured s wide kinds size is count told =
    told ∙ ap (λ w. capped (meta_size_by w 8 kinds (counts_of s) (inner_of s))) is
    ∙ ap (λ n. capped (meta_size_by (is_wide s.items) 8 n (counts_of s) (inner_of s))) count ∙ ap capped (sym (meta-counted s own 8 0))
