-- What is said of an item by its id, where it stands at a place among rising ids.
use Rattle.std.proofs.Common.{◌≡◌, ◌≢◌, ℕ, zero, suc, ◌<◌, ◌≤◌, Bool, true, false, not, ◌&&◌, ◌||◌, cond, List, [], ◌∷◌, map, refl, sym, ap, ◌∙◌, arith, inl, inr, eqb-true, Some}
use Rattle.std.specs.Prelude.{◌==◌, slice_get}
use Rattle.std.specs.List.{list_any}
use Rattle.std.proofs.lemmas.Bool.{cases_Bool, eq-eqb}
use Rattle.hf_store.specs.Changes.{changed_at}
use Rattle.hf_store.specs.Lists.{IsIn, RisesFrom}
use Rattle.hf_store.specs.Store.{Item, ItemStore, ids_of}
use Rattle.hf_store.proofs.Finds.{found, finds}
use Rattle.hf_store.proofs.Spots.{id_here, in_at, some_is}
use Rattle.hf_edit.specs.Edits.{is_absent, with_item}

pub differ : (x y : ℕ) → x ≢ y → (x == y) ≡ false
differ x y other = elim (cases_Bool (x == y)) [ inl e ↦ absurd (other (eqb-true x y e)) | inr e ↦ e ]

-- ---- whether an item has the id

pub is_there : (s : ItemStore) (id k : ℕ) → slice_get (ids_of s.items) k ≡ Some id → is_absent id s ≡ false
is_there s id k here = ap not (finds id (ids_of s.items) (in_at (ids_of s.items) k id here))

pub is_nowhere : (s : ItemStore) (id : ℕ) → (IsIn id (ids_of s.items) → ⊥) → is_absent id s ≡ true
is_nowhere s id none =
    elim (cases_Bool (list_any (λ x. x == id) (ids_of s.items))) [ inl e ↦ absurd (none (found id (ids_of s.items) e)) | inr e ↦ ap not e ]

pub is_somewhere : (s : ItemStore) (id : ℕ) → is_absent id s ≡ false → IsIn id (ids_of s.items)
is_somewhere s id e =
    elim (cases_Bool (list_any (λ x. x == id) (ids_of s.items))) [
      | inl there ↦ found id (ids_of s.items) there
      | inr none ↦ absurd (let no : is_absent id s ≡ true = ap not none in cc)
    ]

-- ---- the item with the id

pub or-false : (b : Bool) → (b || false) ≡ b
or-false true = refl
or-false false = refl

pub above : (low k id : ℕ) (is : List Item) → RisesFrom ◌<◌ low (ids_of is) → slice_get (ids_of is) k ≡ Some id → low < id
above low k id [] rises here = absurd cc
above low zero id (i ∷ is) rises here = let same : i.id ≡ id = some_is here in omega (arith, rises.0, same)
above low (suc k) id (i ∷ is) rises here = omega (arith, rises.0, above i.id k id is rises.1 here)

pub none_later : (test : Item → Bool) (id low : ℕ) (is : List Item) → id ≤ low → RisesFrom ◌<◌ low (ids_of is)
    → list_any (λ (i : Item). (i.id == id) && test i) is ≡ false
none_later test id low [] le rises = refl
none_later test id low (i ∷ is) le rises =
    let other : (i.id == id) ≡ false = differ i.id id (λ e. omega (arith, le, rises.0, e)) in
    rw other (none_later test id i.id is (omega (arith, le, rises.0)) rises.1)

-- it passes a test where what stands at the place does
pub item_here : (test : Item → Bool) (low k : ℕ) (i : Item) (is : List Item) → RisesFrom ◌<◌ low (ids_of is) → slice_get is k ≡ Some i
    → list_any (λ (j : Item). (j.id == i.id) && test j) is ≡ test i
item_here test low k i [] rises here = absurd cc
item_here test low zero i (j ∷ js) rises here =
    let same : j ≡ i = some_is here in
    let ids : j.id ≡ i.id = ap (λ (x : Item). x.id) same in
    let first : (j.id == i.id) ≡ true = eq-eqb j.id i.id ids in
    let none = none_later test i.id j.id js (omega (arith, ids)) rises.1 in
    rw (first, none) (or-false (test j) ∙ ap test same)
item_here test low (suc k) i (j ∷ js) rises here =
    let lower = above j.id k i.id js rises.1 (id_here js k i here) in
    let other : (j.id == i.id) ≡ false = differ j.id i.id (λ e. omega (arith, lower, e)) in
    rw other (item_here test j.id k i js rises.1 here)

abbrev changed : ℕ → (Item → Item) → Item → Item
changed id change i = cond (i.id == id) (change i) i

none_changed : (change : Item → Item) (id low : ℕ) (is : List Item) → id ≤ low → RisesFrom ◌<◌ low (ids_of is) → map (changed id change) is ≡ is
none_changed change id low [] le rises = refl
none_changed change id low (i ∷ is) le rises =
    let other : (i.id == id) ≡ false = differ i.id id (λ e. omega (arith, le, rises.0, e)) in
    rw other (ap (λ (js : List Item). i ∷ js) (none_changed change id i.id is (omega (arith, le, rises.0)) rises.1))

one_changed : (change : Item → Item) (id low k : ℕ) (is : List Item) → RisesFrom ◌<◌ low (ids_of is) → slice_get (ids_of is) k ≡ Some id
    → map (changed id change) is ≡ changed_at change k is
one_changed change id low k [] rises here = absurd cc
one_changed change id low zero (i ∷ is) rises here =
    let same : i.id ≡ id = some_is here in
    let first : (i.id == id) ≡ true = eq-eqb i.id id same in
    rw first (ap (λ (js : List Item). change i ∷ js) (none_changed change id i.id is (omega (arith, same)) rises.1))
one_changed change id low (suc k) (i ∷ is) rises here =
    let lower = above i.id k id is rises.1 here in
    let other : (i.id == id) ≡ false = differ i.id id (λ e. omega (arith, lower, e)) in
    rw other (ap (λ (js : List Item). i ∷ js) (one_changed change id i.id k is rises.1 here))

-- the item with the id is the one at the place
pub with_item_at : (change : Item → Item) (s : ItemStore) (id k : ℕ) → RisesFrom ◌<◌ 0 (ids_of s.items) → slice_get (ids_of s.items) k ≡ Some id
    → record s { items = changed_at change k s.items } ≡ with_item id change s
with_item_at change s id k rises here =
    let made : List Item → ItemStore = λ is. record s { items = is } in
    ap made (sym (one_changed change id 0 k s.items rises here))
