-- The entries of a valid store name items and properties that are there.
use Rattle.std.proofs.Common.{◌≡◌, ◌<◌, ◌≤◌, ℕ, suc, cond, List, [], ◌∷◌, length, map, true, false, refl, sym, ap, subst, ◌∙◌, arith}
use Rattle.std.specs.List.{AllByRecursion, filter}
use Rattle.hf_base.specs.Members.{IsIn, Rises}
use Rattle.hf_base.specs.declared.loc.RefBox.{RefBox}
use Rattle.hf_info.specs.Iinf.{info_ids}
use Rattle.hf_order.proofs.Members.{in_all, all_from, from_map}
use Rattle.hf_prop.specs.declared.assoc.Assoc.{Assoc}
use Rattle.hf_prop.specs.declared.assoc.Pick.{Pick}
use Rattle.hf_store.specs.Layout.{infos_of, item_boxes, all_boxes, has_props, assoc_of, iprp_of}
use Rattle.hf_store.specs.Picks.{pick_of}
use Rattle.hf_store.specs.Store.{Prop, Held, Item, ItemStore, ids_of}
use Rattle.hf_store.specs.Table.{same_prop, table_of, number_of}
use Rattle.hf_store.specs.declared.item.RefList.{RefList}
use Rattle.hf_store.specs.Valid.{IsGoodRef, IsGoodItem, Valid}
use Rattle.hf_read.specs.Denotes.{NeedsAreItems, PicksAreProps}
use Rattle.hf_read.specs.Tables.{infos_by_id, item_ids}
use Rattle.hf_read.proofs.Filters.{from_flat}
use Rattle.hf_canon.proofs.Rising.{rises_all, rising_same}

pub all_map : {A B : Type 0} (P : B → Type 0) (f : A → B) (xs : List A) → AllByRecursion (λ (x : A). P (f x)) xs → AllByRecursion P (map f xs)
all_map P f [] all = tt
all_map P f (x ∷ xs) all = (all.0, all_map P f xs all.1)

-- ---- items

pub good_item : (s : ItemStore) → Valid s → (i : Item) → IsIn i s.items → IsGoodItem s.items i
good_item s valid i among = in_all (IsGoodItem s.items) s.items valid.items i among

pub good_ref : (s : ItemStore) → Valid s → (i : Item) (r : RefList) → IsIn i s.items → IsIn r i.refs → IsGoodRef s.items r
good_ref s valid i r among listed = in_all (IsGoodRef s.items) i.refs (good_item s valid i among).refs r listed

-- what holds of each list of each item holds of each box that is written
pub each_box : (P : RefBox → Type 0) (is : List Item)
    → ((i : Item) (r : RefList) → IsIn i is → IsIn r i.refs → P (record { kind = r.kind; from = i.id; to = r.to }))
    → (b : RefBox) → IsIn b (all_boxes is) → P b
each_box P is each b h =
    let at = from_flat (λ (i : Item). item_boxes i.id i.refs) is b h in
    let made : RefList → RefBox = λ r. record { kind = r.kind; from = at.0.id; to = r.to } in
    let list = from_map made at.0.refs b at.2 in
    subst P list.2 (each at.0 list.0 at.1 list.1)

-- ---- the entries of `iinf` rise

pub ids_of_infos : (is : List Item) → info_ids (infos_of is) ≡ ids_of is
ids_of_infos [] = refl
ids_of_infos (i ∷ is) = ap (λ (l : List ℕ). i.id ∷ l) (ids_of_infos is)

pub infos_stay : (s : ItemStore) → Valid s → infos_by_id (infos_of s.items) ≡ infos_of s.items
infos_stay s valid =
    let rises = rises_all 0 (ids_of s.items) valid.ids_rise in
    rising_same (λ i. i.id) (infos_of s.items) (subst (λ (ids : List ℕ). Rises ◌<◌ ids) (sym (ids_of_infos s.items)) rises)

pub item_ids-are : (s : ItemStore) → Valid s → item_ids (infos_of s.items) ≡ ids_of s.items
item_ids-are s valid = ap info_ids (infos_stay s valid) ∙ ids_of_infos s.items

-- ---- references, and associations

pub needs_are : (s : ItemStore) → Valid s → NeedsAreItems (item_ids (infos_of s.items)) (all_boxes s.items)
needs_are s valid r among here need =
    let Leads : RefBox → Type 0 = λ b. AllByRecursion (λ to. IsIn to (ids_of s.items)) b.to in
    let leads = each_box Leads s.items (λ i l item listed. (good_ref s valid i l item listed).to) r among in
    subst (λ (l : List ℕ). AllByRecursion (λ to. IsIn to l) r.to) (sym (item_ids-are s valid)) leads

number_of-le : (p : Prop) (table : List Prop) → number_of p table ≤ length table
number_of-le p [] = omega arith
number_of-le p (q ∷ qs) =
    let rest = number_of-le p qs in
    elim (same_prop p q) as (λ b. cond b 1 (suc (number_of p qs)) ≤ suc (length qs)) [ true ↦ omega arith | false ↦ omega (arith, rest) ]

pub picks_are : (s : ItemStore) → PicksAreProps (item_ids (infos_of s.items)) (iprp_of s)
picks_are s a among here =
    let table = table_of s in
    let at = from_map (assoc_of table) (filter has_props s.items) a among in
    let numbers = all_from (λ (h : Held). number_of h.prop table ≤ length table) at.0.props (λ h k. number_of-le h.prop table) in
    let picks = all_map (λ (p : Pick). p.index ≤ length table) (pick_of table) at.0.props numbers in
    subst (λ (b : Assoc). AllByRecursion (λ (p : Pick). p.index ≤ length table) b.picks) at.2 picks
