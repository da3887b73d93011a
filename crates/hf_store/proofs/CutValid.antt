-- What is left of a valid store where items go is valid, where the primary stays and no item that stays loses an input.
use Rattle.std.proofs.Common.{◌≡◌, ◌≢◌, ℕ, suc, ◌<◌, ◌≤◌, Bool, true, false, not, List, [], ◌∷◌, length, filter, refl, ap, ◌∙◌, arith, inl, inr, eqb-true}
use Rattle.std.specs.Prelude.{◌==◌}
use Rattle.std.specs.List.{AllByRecursion}
use Rattle.std.proofs.lemmas.Bool.{cases_Bool, eq-eqb}
use Rattle.hf_box.specs.Literals.{four}
use Rattle.hf_box.specs.Walk.{is_kind}
use Rattle.hf_store.specs.Changes.{is_other, cut_refs, cut_item, cut_items, cut, removed}
use Rattle.hf_store.specs.Derived.{inputs}
use Rattle.hf_store.specs.Lists.{IsIn, not_empty}
use Rattle.hf_store.specs.Store.{RefList, Item, ItemStore}
use Rattle.hf_store.specs.Table.{table_of}
use Rattle.hf_store.specs.Valid.{body_sum, IsGoodItem, IsGoodRef, Valid}
use Rattle.hf_store.proofs.Cuts.{KeepsInputs, ids_left, in_left, good_items, pairs_left, groups_left, good_groups, sum-left, filter-le}
use Rattle.hf_store.proofs.CutSizes.{meta_left}
use Rattle.hf_store.proofs.CutTables.{less_left}
use Rattle.hf_store.proofs.Spots.{at_in, holds_here}
use Rattle.std.proofs.lemmas.List.{length-map}

count_left : (stays : ℕ → Bool) (is : List Item) → length (cut_items stays is) ≤ length is
count_left stays is = omega (arith, length-map (filter (λ (i : Item). stays i.id) is) (cut_item stays), filter-le (λ (i : Item). stays i.id) is)

pub valid_cut : (stays : ℕ → Bool) (s : ItemStore) → Valid s → stays s.primary ≡ true → KeepsInputs stays s.items → Valid (cut stays s)
unfolding cut table_of body_sum
valid_cut stays s valid primary keeps = record {
  brands = valid.brands;
  ids_rise = ids_left stays 0 s.items valid.ids_rise;
  primary = in_left stays s.primary s.items primary valid.primary;
  items = good_items stays s.items s.items keeps valid.items;
  groups_rise = groups_left stays s.groups valid.groups_rise;
  groups = good_groups stays s.items s.groups valid.groups;
  ends = λ walk endless. valid.ends walk (λ n. pairs_left stays s.items (walk n, walk (suc n)) keeps (endless n));
  count = omega (arith, count_left stays s.items, valid.count);
  kinds = omega (arith, (less_left stays s.items).kinds, valid.kinds);
  body = omega (arith, sum-left (λ (i : Item). length i.bytes) stays s.items (λ i. omega arith), valid.body);
  meta = omega (arith, meta_left stays s valid keeps, valid.meta);
}

-- ---- an item of which no other one is made

abbrev pub dimg : RefList → Bool
dimg r = is_kind r.kind (four "dimg")

pub lacks : (id : ℕ) (ids : List ℕ) → (IsIn id ids → ⊥) → filter (is_other id) ids ≡ ids
lacks id [] none = refl
lacks id (x ∷ xs) none =
    elim (cases_Bool (x == id)) [
      | inl same ↦ absurd (none (inl (eqb-true x id same)))
      | inr other ↦ rw other (ap (λ ys. x ∷ ys) (lacks id xs (λ h. none (inr h))))
    ]

pub some-there : (xs : List ℕ) → 0 < length xs → not_empty xs ≡ true
some-there [] some = absurd (omega arith)
some-there (x ∷ xs) some = refl

inputs_stay : (id : ℕ) (all : List Item) (rs : List RefList) → AllByRecursion (IsGoodRef all) rs → ((r : RefList) → IsIn r rs → dimg r ≡ true → IsIn id r.to → ⊥) → inputs (cut_refs (is_other id) rs) ≡ inputs rs
inputs_stay id all [] good none = refl
inputs_stay id all (r ∷ rs) good none =
    let rest = inputs_stay id all rs good.1 (λ q h. none q (inr h)) in
    elim (cases_Bool (dimg r)) [
      | inl input ↦
          let same : filter (is_other id) r.to ≡ r.to = lacks id r.to (none r (inl refl) input) in
          let some : not_empty (filter (is_other id) r.to) ≡ true = ap not_empty same ∙ some-there r.to good.0.some in
          rw (some, input) same
      | inr other ↦ elim (cases_Bool (not_empty (filter (is_other id) r.to))) [ inl some ↦ rw (some, other) rest | inr gone ↦ rw (gone, other) rest ]
    ]

all_in : {A : Type 0} (P : A → Type 0) (xs : List A) → ((x : A) → IsIn x xs → P x) → AllByRecursion P xs
all_in P [] each = tt
all_in P (x ∷ xs) each = (each x (inl refl), all_in P xs (λ y h. each y (inr h)))

not-same : (x id : ℕ) → is_other id x ≡ true → x ≢ id
not-same x id other same = let no : not (x == id) ≡ false = ap not (eq-eqb x id same) in cc

-- no other one of these items has a reference of type `dimg` to the one with the id
abbrev pub IsNoInput : ℕ → List Item → Type 0
IsNoInput id is = (i : Item) (r : RefList) → IsIn i is → i.id ≢ id → IsIn r i.refs → dimg r ≡ true → IsIn id r.to → ⊥

keeps_inputs : (id : ℕ) (s : ItemStore) → Valid s → IsNoInput id s.items → KeepsInputs (is_other id) s.items
keeps_inputs id s valid none =
    all_in (λ (i : Item). is_other id i.id ≡ true → inputs (cut_refs (is_other id) i.refs) ≡ inputs i.refs) s.items
    (λ i there other.
    let at = at_in i s.items there in
    let good : IsGoodItem s.items i = holds_here (IsGoodItem s.items) s.items at.0 i valid.items at.1 in
    inputs_stay id s.items i.refs good.refs (λ r has input leads. none i r there (not-same i.id id other) has input leads))

pub valid_removed : (s : ItemStore) (id : ℕ) → Valid s → (s.primary == id) ≡ false → IsNoInput id s.items → Valid (removed id s)
valid_removed s id valid shown none = valid_cut (is_other id) s valid (ap not shown) (keeps_inputs id s valid none)
