-- A valid store stays valid where an item gets the properties that a turn, a mirror or a window leaves it, as far as the
-- limits are kept.
use Rattle.std.proofs.Common.{◌≡◌, ◌≤◌, ◌+◌, ◌-◌, ◌%◌, ◌&&◌, ℕ, Bool, true, false, cond, List, [], ◌∷◌, ◌++◌, length, map, refl, sym, subst, inl, inr, Option, Some, None}
use Rattle.std.specs.Prelude.{◌==◌, nat_lt}
use Rattle.std.specs.List.{AllByRecursion}
use Rattle.std.proofs.lemmas.Bool.{cases_Bool, cond-false, cond-true, ltb-false}
use Rattle.hf_base.specs.declared.limits.TheConstants as limits
use Rattle.hf_prop.specs.Views.{mirror_at, turn_by, window_at}
use Rattle.hf_store.specs.Lists.{IsIn}
use Rattle.hf_store.specs.Store.{Held, Item, ItemStore, Prop}
use Rattle.hf_store.specs.Table.{table_of}
use Rattle.hf_store.specs.Valid.{IsFour, IsGoodItem, meta_len, Valid}
use Rattle.hf_edit.specs.Edits.{item_is, reshaped, with_item}
use Rattle.hf_edit.specs.Pictures.{all_but_last, cropped, cropped_in, essential, last_axis, last_turn, mirrored, mirrored_behind, picture_size_of, rotated, rotated_behind, turn_unless_none}
use Rattle.hf_order.proofs.Members.{in_all, in_map}
use Rattle.hf_edit.proofs.Alike.{IsAlike, valid_alike}
use Rattle.hf_edit.proofs.Goods.{AreGoodProps}
use Rattle.hf_edit.proofs.Members.{all_append, all_take, none_passes}

-- ---- the types of the properties have four bytes

abbrev pub IsFourHeld : Held → Type 0
IsFourHeld h = IsFour h.prop.kind

abbrev AreFourHeld : List Held → Type 0
AreFourHeld hs = AllByRecursion IsFourHeld hs

with_one : (p : Prop) (hs : List Held) → IsFour p.kind → AreFourHeld hs → AreFourHeld (hs ++ essential p ∷ [])
with_one p hs four all = all_append IsFourHeld hs (essential p ∷ []) all (four, tt)

front : (hs : List Held) → AreFourHeld hs → AreFourHeld (all_but_last hs)
front hs all = all_take IsFourHeld (length hs - 1) hs all

turn_or_none : (quarters : ℕ) → AreFourHeld (turn_unless_none quarters)
turn_or_none quarters = elim (quarters == 0) as (λ b. AreFourHeld (cond b [] (essential (turn_by quarters) ∷ []))) [ true ↦ tt | false ↦ (refl, tt) ]

four_behind : (last : Option ℕ) (quarters : ℕ) (hs : List Held) → AreFourHeld hs → AreFourHeld (rotated_behind last quarters hs)
four_behind None quarters hs all = with_one (turn_by quarters) hs refl all
four_behind (Some turn) quarters hs all =
    let sum = (turn + quarters) % 4 in
    all_append IsFourHeld (all_but_last hs) (turn_unless_none sum) (front hs all) (turn_or_none sum)

pub four_rotated : (quarters : ℕ) (hs : List Held) → AreFourHeld hs → AreFourHeld (rotated quarters hs)
unfolding rotated
four_rotated quarters hs all = four_behind (last_turn hs) quarters hs all

four_across : (last : Option ℕ) (axis : ℕ) (hs : List Held) → AreFourHeld hs → AreFourHeld (mirrored_behind last axis hs)
four_across None axis hs all = with_one (mirror_at axis) hs refl all
four_across (Some other) axis hs all =
    elim (other == axis) as (λ b. AreFourHeld (cond b (all_but_last hs) (hs ++ essential (mirror_at axis) ∷ []))) [
      | true ↦ front hs all
      | false ↦ with_one (mirror_at axis) hs refl all
    ]

pub four_mirrored : (axis : ℕ) (hs : List Held) → AreFourHeld hs → AreFourHeld (mirrored axis hs)
unfolding mirrored
four_mirrored axis hs all = four_across (last_axis hs) axis hs all

four_within : (size : Option (ℕ × ℕ)) (x y w h : ℕ) (hs : List Held) → AreFourHeld hs → AreFourHeld (cropped_in size x y w h hs)
four_within None x y w h hs all = all
four_within (Some size) x y w h hs all = with_one (window_at x y w h size.0 size.1) hs refl all

pub four_cropped : (x y w h : ℕ) (i : Item) → AreFourHeld i.props → AreFourHeld (cropped x y w h i)
unfolding cropped
four_cropped x y w h i all = four_within (picture_size_of i) x y w h i.props all

-- ---- the store

abbrev is_full : Item → Bool
is_full i = nat_lt limits.PROPS (length i.props)

-- an item that has the id has few properties, where none with the id has many
few_props : (has : Bool) (n : ℕ) → has ≡ true → (has && nat_lt limits.PROPS n) ≡ false → n ≤ limits.PROPS
few_props true n same none = ltb-false limits.PROPS n none
few_props false n same none = absurd cc

module _ (s : ItemStore) (id : ℕ) (props : Item → List Held) (valid : Valid s) where
  abbrev new : Item → Item
  new i = cond (i.id == id) (reshaped props i) i

  alike : (i : Item) → IsAlike i (new i)
  alike i = elim (i.id == id) as (λ b. IsAlike i (cond b (reshaped props i) i)) [ true ↦ record { same = refl } | false ↦ record { same = refl } ]

  module _ (four : (i : Item) → AreFourHeld i.props → AreFourHeld (props i)) (room : item_is is_full id (with_item id (reshaped props) s) ≡ false) where
    good_props : (i : Item) → IsIn i s.items → AreGoodProps (new i).props
    good_props i there =
        let good = in_all (IsGoodItem s.items) s.items valid.items i there in
        elim (cases_Bool (i.id == id)) [
          | inl same ↦
              let is : new i ≡ reshaped props i = cond-true (i.id == id) (reshaped props i) i same in
              let now = subst (λ (j : Item). IsIn j (map new s.items)) is (in_map new s.items i there) in
              let passes = none_passes (λ (j : Item). (j.id == id) && is_full j) (map new s.items) (reshaped props i) room now in
              let few = few_props (i.id == id) (length (props i)) same passes in
              subst (λ (j : Item). AreGoodProps j.props) (sym is) (record { few = few; kinds = four i good.prop_kinds })
          | inr other ↦
              let is : new i ≡ i = cond-false (i.id == id) (reshaped props i) i other in
              subst (λ (j : Item). AreGoodProps j.props) (sym is) (record { few = good.props; kinds = good.prop_kinds })
        ]

    pub valid_reshaped : nat_lt limits.KINDS (length (table_of (with_item id (reshaped props) s))) ≡ false
        → nat_lt limits.META (meta_len (with_item id (reshaped props) s)) ≡ false
        → Valid (with_item id (reshaped props) s)
    valid_reshaped kinds meta = valid_alike new alike s valid good_props (ltb-false limits.KINDS _ kinds) (ltb-false limits.META _ meta)
