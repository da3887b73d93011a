-- What a store that is sound has of its limits, and which of them is passed first.
use Rattle.std.proofs.Common.{◌≡◌, ℕ, ◌<◌, ◌≤◌, Bool, false, ◌||◌, cond, List, [], ◌∷◌, length, refl, sym, ap, ◌∙◌, arith, inl, inr, true≢false, Option, Some, None}
use Rattle.std.specs.Prelude.{find, nat_lt, Ok, Err, option_map}
use Rattle.std.specs.List.{AllByRecursion, list_any}
use Rattle.std.proofs.lemmas.Bool.{lt-ltb, le-ltb, ltb-false, cases_Bool}
use Rattle.hf_base.specs.declared.limits.TheConstants as limits
use Rattle.hf_base.specs.declared.fault.ReadRefusal.TheVariants.{TooManyItems, TooManyLinks, MetaTooLong}
use Rattle.hf_store.specs.Capped.{capped}
use Rattle.hf_store.specs.LimitFaults.{first_item, has_long_list, too_many_items_fault, too_many_links_fault, meta_too_long_fault, limits_fault}
use Rattle.hf_store.specs.Measured.{IsMeasurable}
use Rattle.hf_store.specs.Sizes.{AllRefs, IsFourItem, IsFourList, IsFourGroup, IsShortList, AreFours}
use Rattle.hf_store.specs.Store.{Held, RefList, Item, ItemStore}
use Rattle.hf_store.specs.Table.{table_of}
use Rattle.hf_store.specs.Valid.{IsFour, IsGoodRefWithin, IsGoodItemWithin, IsGoodGroup, ValidWithin, meta_len, Valid}
use Rattle.hf_store.proofs.MetaCounts.{four_table}

-- ---- which limit is passed first

pub many_items : (s : ItemStore) → limits.ITEMS < length s.items → limits_fault s ≡ Err (TooManyItems (length s.items))
unfolding limits_fault too_many_items_fault
many_items s many = rw (lt-ltb limits.ITEMS (length s.items) many) refl

pub many_links : (s : ItemStore) (id : ℕ) → length s.items ≤ limits.ITEMS → first_item has_long_list s.items ≡ Some id → limits_fault s ≡ Err (TooManyLinks id)
unfolding limits_fault too_many_items_fault too_many_links_fault
many_links s id few found = rw (le-ltb limits.ITEMS (length s.items) few, found) refl

pub long_meta : (s : ItemStore) → length s.items ≤ limits.ITEMS → first_item has_long_list s.items ≡ None → limits.META < meta_len s
    → limits_fault s ≡ Err (MetaTooLong (capped (meta_len s)))
unfolding limits_fault too_many_items_fault too_many_links_fault meta_too_long_fault
long_meta s few none long = rw (le-ltb limits.ITEMS (length s.items) few, none, lt-ltb limits.META (meta_len s) long) refl

pub none_passed : (s : ItemStore) → length s.items ≤ limits.ITEMS → first_item has_long_list s.items ≡ None → meta_len s ≤ limits.META → limits_fault s ≡ Ok tt
unfolding limits_fault too_many_items_fault too_many_links_fault meta_too_long_fault
none_passed s few none short = rw (le-ltb limits.ITEMS (length s.items) few, none, le-ltb limits.META (meta_len s) short) refl

-- ---- no list is long where none is told

abbrev IsFew : RefList → Type 0
IsFew r = length r.to ≤ limits.LINKS

few_lists : (rs : List RefList) → list_any (λ (r : RefList). nat_lt limits.LINKS (length r.to)) rs ≡ false → AllByRecursion IsFew rs
few_lists [] none = tt
few_lists (r ∷ rs) none =
    elim (cases_Bool (nat_lt limits.LINKS (length r.to))) [
      | inl long ↦ absurd (true≢false (sym (ap (λ b. b || list_any (λ (q : RefList). nat_lt limits.LINKS (length q.to)) rs) long) ∙ none))
      | inr few ↦ (ltb-false limits.LINKS (length r.to) few, few_lists rs (sym (ap (λ b. b || list_any (λ (q : RefList). nat_lt limits.LINKS (length q.to)) rs) few) ∙ none))
    ]

few_links : (is : List Item) → first_item has_long_list is ≡ None → AllRefs IsFew is
few_links [] none = tt
few_links (i ∷ is) none =
    let told : Bool → Option ℕ = λ b. option_map (λ (j : Item). j.id) (cond b (Some i) (find has_long_list is)) in
    elim (cases_Bool (has_long_list i)) [
      | inl long ↦ absurd (some-none i.id (sym (ap told long) ∙ none))
      | inr few ↦ (few_lists i.refs few, few_links is (sym (ap told few) ∙ none))
    ]
  where
    some-none : (n : ℕ) → Some n ≡ None → ⊥
    some-none n e = cc

-- ---- a sound store within its limits is valid

all_both : {A : Type 0} (P Q R : A → Type 0) (xs : List A) → AllByRecursion P xs → AllByRecursion Q xs → ((x : A) → P x → Q x → R x) → AllByRecursion R xs
all_both P Q R [] some more each = tt
all_both P Q R (x ∷ xs) some more each = (each x some.0 more.0, all_both P Q R xs some.1 more.1 each)

all_of : {A : Type 0} (P Q : A → Type 0) (xs : List A) → AllByRecursion P xs → ((x : A) → P x → Q x) → AllByRecursion Q xs
all_of P Q xs all each = all_both P P Q xs all all (λ x p q. each x p)

module _ (most fewer : ℕ) (is : List Item) where
  fewer_refs : (r : RefList) → IsGoodRefWithin most is r → length r.to ≤ fewer → IsGoodRefWithin fewer is r
  fewer_refs r good few = record {
    kind = good.kind;
    not_iloc = good.not_iloc;
    some = good.some;
    links = few;
    to = good.to;
  }

  fewer_links : (i : Item) → IsGoodItemWithin most is i → AllByRecursion (λ (r : RefList). length r.to ≤ fewer) i.refs → IsGoodItemWithin fewer is i
  fewer_links i good few = record {
    id = good.id;
    kind = good.kind;
    name = good.name;
    content = good.content;
    encoding = good.encoding;
    uri = good.uri;
    only_mime = good.only_mime;
    only_uri = good.only_uri;
    props = good.props;
    prop_kinds = good.prop_kinds;
    refs = all_both (IsGoodRefWithin most is) (λ (r : RefList). length r.to ≤ fewer) (IsGoodRefWithin fewer is) i.refs good.refs few fewer_refs;
    kinds_rise = good.kinds_rise;
    fits = good.fits;
  }

module _ (most_items most_links most_bytes : ℕ) (s : ItemStore) (sound : ValidWithin most_items most_links most_bytes s) where
  pub sound_fours : AreFours s
  sound_fours = record {
    items = all_of (IsGoodItemWithin most_links s.items) IsFourItem s.items sound.items (λ i good. good.kind);
    lists = all_of (IsGoodItemWithin most_links s.items) (λ (i : Item). AllByRecursion IsFourList i.refs) s.items sound.items
        (λ i good. all_of (IsGoodRefWithin most_links s.items) IsFourList i.refs good.refs (λ r ref. ref.kind));
    props = all_of (IsGoodItemWithin most_links s.items) (λ (i : Item). AllByRecursion (λ (h : Held). IsFour h.prop.kind) i.props) s.items sound.items (λ i good. good.prop_kinds);
    groups = all_of (IsGoodGroup s.items) IsFourGroup s.groups sound.groups (λ g good. good.kind);
  }

  pub few_props : AllByRecursion (λ (i : Item). length i.props ≤ limits.PROPS) s.items
  few_props = all_of (IsGoodItemWithin most_links s.items) (λ (i : Item). length i.props ≤ limits.PROPS) s.items sound.items (λ i good. good.props)

  module _ (none : first_item has_long_list s.items ≡ None) where
    short_lists : AllRefs IsShortList s.items
    short_lists =
        all_both (λ (i : Item). AllByRecursion IsFourList i.refs) (λ (i : Item). AllByRecursion IsFew i.refs) (λ (i : Item). AllByRecursion IsShortList i.refs) s.items sound_fours.lists (few_links s.items none)
        (λ i fours few. all_both IsFourList IsFew IsShortList i.refs fours few (λ r four lists. (four, omega (arith, lists))))

    pub measurable : IsMeasurable s.items s.groups
    unfolding table_of
    measurable = record {
      items = sound_fours.items;
      lists = short_lists;
      props = four_table s sound_fours;
      kinds = sound.kinds;
      groups = sound_fours.groups;
    }

    pub valid_within : length s.items ≤ limits.ITEMS → meta_len s ≤ limits.META → Valid s
    valid_within few short = record {
      brands = sound.brands;
      ids_rise = sound.ids_rise;
      primary = sound.primary;
      items = all_both (IsGoodItemWithin most_links s.items) (λ (i : Item). AllByRecursion IsFew i.refs) (IsGoodItemWithin limits.LINKS s.items) s.items sound.items (few_links s.items none)
          (fewer_links most_links limits.LINKS s.items);
      groups_rise = sound.groups_rise;
      groups = sound.groups;
      ends = sound.ends;
      count = few;
      kinds = sound.kinds;
      body = sound.body;
      meta = short;
    }

-- what is no `Some` is none
pub none_told : (o : Option ℕ) → ((id : ℕ) → o ≡ Some id → ⊥) → o ≡ None
none_told None never = refl
none_told (Some id) never = absurd (never id refl)
