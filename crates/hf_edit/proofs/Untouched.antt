-- What an edit leaves of the items, and what comes.
use Rattle.std.proofs.Common.{◌≡◌, ◌+◌, ℕ, Bool, true, false, not, cond, List, [], ◌∷◌, ◌++◌, map, filter, refl, sym, ap, ◌∙◌, subst, inl, inr, eqb-true, Option, Some, None}
use Rattle.std.specs.Prelude.{◌==◌}
use Rattle.std.proofs.lemmas.Bool.{cases_Bool}
use Rattle.std.proofs.lemmas.List.{append-nil, map-append}
use Rattle.hf_order.proofs.Members.{from_map, in_back, in_filter, in_front, in_joined, in_map}
use Rattle.hf_store.specs.Changes.{cut, cut_item, cut_refs, hide, is_other, lacking}
use Rattle.hf_store.specs.Lists.{IsIn, not_empty}
use Rattle.hf_store.specs.Store.{Held, Item, ItemStore, ids_of}
use Rattle.hf_store.specs.declared.item.RefList.{RefList}
use Rattle.hf_edit.specs.Additions.{greatest_id, primary_item}
use Rattle.hf_edit.specs.Edits.{Edit, Remove, AddExif, AddXmp, Thumb, Primary, Rotate, Mirror, Crop, Hide, Show, Drop, reshaped, step, with_thumbnail}
use Rattle.hf_edit.specs.Left.{AddedItemsCome, AreGroupsLeft, AreLeft, IsLeft, IsPrimaryLeft, Marks, NoItemComes, Reshapes, RestStays, Takes, UntouchedItemsStay, coming, ids_without, refs_without, thumbnail_coming}
use Rattle.hf_edit.specs.Pictures.{cropped, mirrored, rotated}
use Rattle.hf_edit.proofs.Members.{passing_in}
use Rattle.hf_edit.proofs.Named.{differ}

-- ---- references

refs-cut : (id : ℕ) (rs : List RefList) → cut_refs (is_other id) rs ≡ refs_without id rs
refs-cut id [] = refl
refs-cut id (r ∷ rs) =
    elim (cases_Bool (not_empty (ids_without id r.to))) [
      | inl some ↦ rw some (ap (λ qs. record r { to = ids_without id r.to } ∷ qs) (refs-cut id rs))
      | inr none ↦ rw none (refs-cut id rs)
    ]

-- ---- what is left of an item

whole_left : (e : Edit) (i : Item) → AreLeft e i.refs i.refs → IsLeft e i i
whole_left e i refs = record {
  id = refl;
  kind = refl;
  name = refl;
  content = refl;
  encoding = refl;
  uri = refl;
  bytes = refl;
  mark = λ no. refl;
  props = λ no. refl;
  refs = refs;
}

cut_left : (id : ℕ) (i : Item) → IsLeft (Remove id) i (cut_item (is_other id) i)
cut_left id i = record {
  id = refl;
  kind = refl;
  name = refl;
  content = refl;
  encoding = refl;
  uri = refl;
  bytes = refl;
  mark = λ no. refl;
  props = λ no. refl;
  refs = refs-cut id i.refs;
}

marked_left : (e : Edit) (hidden : Bool) (i : Item) → Marks e i.id → AreLeft e i.refs i.refs → IsLeft e i (hide hidden i)
marked_left e hidden i marks refs = record {
  id = refl;
  kind = refl;
  name = refl;
  content = refl;
  encoding = refl;
  uri = refl;
  bytes = refl;
  mark = λ no. absurd (no marks);
  props = λ no. refl;
  refs = refs;
}

reshaped_left : (e : Edit) (props : Item → List Held) (i : Item) → Reshapes e i.id → AreLeft e i.refs i.refs → IsLeft e i (reshaped props i)
reshaped_left e props i reshapes refs = record {
  id = refl;
  kind = refl;
  name = refl;
  content = refl;
  encoding = refl;
  uri = refl;
  bytes = refl;
  mark = λ no. refl;
  props = λ no. absurd (no reshapes);
  refs = refs;
}

abbrev changed : ℕ → (Item → Item) → Item → Item
changed id change i = cond (i.id == id) (change i) i

changed_left : (e : Edit) (id : ℕ) (change : Item → Item) (i : Item) → (i.id ≡ id → IsLeft e i (change i)) → IsLeft e i i → IsLeft e i (changed id change i)
changed_left e id change i there other =
    elim (cases_Bool (i.id == id)) [
      | inl same ↦ subst (λ b. IsLeft e i (cond b (change i) i)) (sym same) (there (eqb-true i.id id same))
      | inr differs ↦ subst (λ b. IsLeft e i (cond b (change i) i)) (sym differs) other
    ]

-- other properties of the item with the id
props_left : (e : Edit) (id : ℕ) (props : Item → List Held) (i : Item) → (i.id ≡ id → Reshapes e i.id) → AreLeft e i.refs i.refs
    → IsLeft e i (changed id (reshaped props) i)
props_left e id props i reshapes refs = changed_left e id (reshaped props) i (λ same. reshaped_left e props i (reshapes same) refs) (whole_left e i refs)

-- and its mark
mark_left : (e : Edit) (id : ℕ) (hidden : Bool) (i : Item) → (i.id ≡ id → Marks e i.id) → AreLeft e i.refs i.refs
    → IsLeft e i (changed id (hide hidden) i)
mark_left e id hidden i marks refs = changed_left e id (hide hidden) i (λ same. marked_left e hidden i (marks same) refs) (whole_left e i refs)

-- what an edit makes of each item that it does not take away
abbrev left : Edit → Item → Item
left (Remove id) i = cut_item (is_other id) i
left (AddExif id tiff) i = i
left (AddXmp id text) i = i
left (Thumb id donor) i = i
left (Primary id) i = i
left (Rotate id quarters) i = changed id (reshaped (λ (j : Item). rotated quarters j.props)) i
left (Mirror id axis) i = changed id (reshaped (λ (j : Item). mirrored axis j.props)) i
left (Crop id x y w h) i = changed id (reshaped (cropped x y w h)) i
left (Hide id) i = changed id (hide true) i
left (Show id) i = changed id (hide false) i
left (Drop id kind) i = changed id (lacking kind) i

is_left : (e : Edit) (i : Item) → IsLeft e i (left e i)
is_left (Remove id) i = cut_left id i
is_left (AddExif id tiff) i = whole_left (AddExif id tiff) i refl
is_left (AddXmp id text) i = whole_left (AddXmp id text) i refl
is_left (Thumb id donor) i = whole_left (Thumb id donor) i refl
is_left (Primary id) i = whole_left (Primary id) i refl
is_left (Rotate id quarters) i = props_left (Rotate id quarters) id (λ (j : Item). rotated quarters j.props) i (λ same. same) refl
is_left (Mirror id axis) i = props_left (Mirror id axis) id (λ (j : Item). mirrored axis j.props) i (λ same. same) refl
is_left (Crop id x y w h) i = props_left (Crop id x y w h) id (cropped x y w h) i (λ same. same) refl
is_left (Hide id) i = mark_left (Hide id) id true i (λ same. same) refl
is_left (Show id) i = mark_left (Show id) id false i (λ same. same) refl
is_left (Drop id kind) i = props_left (Drop id kind) id (λ (j : Item). (lacking kind j).props) i (λ same. same) refl

-- ---- the items after an edit

abbrev staying : Edit → List Item → List Item
staying (Remove id) is = filter (λ (i : Item). is_other id i.id) is
staying _ is = is

map-same : (is : List Item) → map (λ (i : Item). i) is ≡ is
map-same [] = refl
map-same (i ∷ is) = ap (λ js. i ∷ js) (map-same is)

with_none : (is : List Item) → is ≡ is ++ []
with_none is = sym (append-nil is)

all_with : (is more : List Item) → is ++ more ≡ map (λ (i : Item). i) is ++ more
all_with is more = ap (λ js. js ++ more) (sym (map-same is))

with_coming : (picture : Option Item) (id : ℕ) (s : ItemStore)
    → (with_thumbnail picture id s).items ≡ map (λ (i : Item). i) s.items ++ thumbnail_coming picture id (greatest_id s + 1)
with_coming None id s = sym (append-nil (map (λ (i : Item). i) s.items) ∙ map-same s.items)
with_coming (Some picture) id s = all_with s.items _

items-step : (s : ItemStore) (e : Edit) → (step s e).items ≡ map (left e) (staying e s.items) ++ coming s e
unfolding cut
items-step s (Remove id) = with_none (map (left (Remove id)) (staying (Remove id) s.items))
items-step s (AddExif id tiff) = all_with s.items _
items-step s (AddXmp id text) = all_with s.items _
items-step s (Thumb id donor) = with_coming (primary_item donor) id s
items-step s (Primary id) = sym (append-nil (map (λ (i : Item). i) s.items) ∙ map-same s.items)
items-step s (Rotate id quarters) = with_none (map (left (Rotate id quarters)) s.items)
items-step s (Mirror id axis) = with_none (map (left (Mirror id axis)) s.items)
items-step s (Crop id x y w h) = with_none (map (left (Crop id x y w h)) s.items)
items-step s (Hide id) = with_none (map (left (Hide id)) s.items)
items-step s (Show id) = with_none (map (left (Show id)) s.items)
items-step s (Drop id kind) = with_none (map (left (Drop id kind)) s.items)

-- an item stays that is not taken
in_staying : (e : Edit) (i : Item) (is : List Item) → IsIn i is → (Takes e i.id → ⊥) → IsIn i (staying e is)
in_staying (Remove id) i is there stays =
    let other : is_other id i.id ≡ true = ap not (differ i.id id stays) in
    passing_in (λ (j : Item). is_other id j.id) i is other there
in_staying (AddExif id tiff) i is there stays = there
in_staying (AddXmp id text) i is there stays = there
in_staying (Thumb id donor) i is there stays = there
in_staying (Primary id) i is there stays = there
in_staying (Rotate id quarters) i is there stays = there
in_staying (Mirror id axis) i is there stays = there
in_staying (Crop id x y w h) i is there stays = there
in_staying (Hide id) i is there stays = there
in_staying (Show id) i is there stays = there
in_staying (Drop id kind) i is there stays = there

staying_in : (e : Edit) (i : Item) (is : List Item) → IsIn i (staying e is) → IsIn i is
staying_in (Remove id) i is there = in_filter (λ (j : Item). is_other id j.id) is i there
staying_in (AddExif id tiff) i is there = there
staying_in (AddXmp id text) i is there = there
staying_in (Thumb id donor) i is there = there
staying_in (Primary id) i is there = there
staying_in (Rotate id quarters) i is there = there
staying_in (Mirror id axis) i is there = there
staying_in (Crop id x y w h) i is there = there
staying_in (Hide id) i is there = there
staying_in (Show id) i is there = there
staying_in (Drop id kind) i is there = there

-- ---- the laws

pub untouched_items_stay : UntouchedItemsStay
untouched_items_stay s e i there stays =
    let kept = map (left e) (staying e s.items) in
    let front = in_front (left e i) kept (coming s e) (in_map (left e) (staying e s.items) i (in_staying e i s.items there stays)) in
    (left e i, subst (IsIn (left e i)) (sym (items-step s e)) front, is_left e i)

pub added_items_come : AddedItemsCome
added_items_come s e j there = subst (IsIn j) (sym (items-step s e)) (in_back j (map (left e) (staying e s.items)) (coming s e) there)

pub no_item_comes : NoItemComes
no_item_comes s e j there =
    elim (in_joined j (map (left e) (staying e s.items)) (coming s e) (subst (IsIn j) (items-step s e) there)) [
      | inl old ↦
          let from = from_map (left e) (staying e s.items) j old in
          inl (from.0, staying_in e from.0 s.items from.1, subst (IsLeft e from.0) from.2 (is_left e from.0))
      | inr new ↦ inr new
    ]

-- ---- the rest

ids-filter : (stays : ℕ → Bool) (is : List Item) → ids_of (filter (λ (i : Item). stays i.id) is) ≡ filter stays (ids_of is)
ids-filter stays [] = refl
ids-filter stays (i ∷ is) =
    elim (cases_Bool (stays i.id)) [
      | inl here ↦ rw here (ap (λ ids. i.id ∷ ids) (ids-filter stays is))
      | inr gone ↦ rw gone (ids-filter stays is)
    ]

ids-left : (e : Edit) (is : List Item) → ids_of (map (left e) is) ≡ ids_of is
ids-left e [] = refl
ids-left e (i ∷ is) = ap (λ id. id ∷ ids_of (map (left e) is)) (is_left e i).id ∙ ap (λ ids. i.id ∷ ids) (ids-left e is)

-- the ids of the items that stay, and of those that come
ids-step : (s : ItemStore) (e : Edit) → ids_of (step s e).items ≡ ids_of (staying e s.items) ++ ids_of (coming s e)
ids-step s e =
    ap ids_of (items-step s e) ∙ map-append (λ (i : Item). i.id) (map (left e) (staying e s.items)) (coming s e)
    ∙ ap (λ ids. ids ++ ids_of (coming s e)) (ids-left e (staying e s.items))

thumbnail_rest : (picture : Option Item) (id : ℕ) (s : ItemStore) (e : Edit) → IsPrimaryLeft e s.primary s.primary → AreGroupsLeft e s.groups s.groups
    → let t = with_thumbnail picture id s in (t.brands ≡ s.brands) × IsPrimaryLeft e s.primary t.primary × AreGroupsLeft e s.groups t.groups
thumbnail_rest None id s e primary groups = (refl, primary, groups)
thumbnail_rest (Some picture) id s e primary groups = (refl, primary, groups)

pub rest_stays : RestStays
unfolding cut
rest_stays s (Remove id) = record {
  brands = refl;
  primary = refl;
  ids = (ids_without id (ids_of s.items), refl, ids-step s (Remove id) ∙ ap (λ ids. ids ++ []) (ids-filter (is_other id) s.items));
  groups = refl;
}
rest_stays s (AddExif id tiff) = record { brands = refl; primary = refl; ids = (ids_of s.items, refl, ids-step s (AddExif id tiff)); groups = refl }
rest_stays s (AddXmp id text) = record { brands = refl; primary = refl; ids = (ids_of s.items, refl, ids-step s (AddXmp id text)); groups = refl }
rest_stays s (Thumb id donor) =
    let rest = thumbnail_rest (primary_item donor) id s (Thumb id donor) refl refl in
    record { brands = rest.0; primary = rest.1; ids = (ids_of s.items, refl, ids-step s (Thumb id donor)); groups = rest.2 }
rest_stays s (Primary id) = record { brands = refl; primary = refl; ids = (ids_of s.items, refl, ids-step s (Primary id)); groups = refl }
rest_stays s (Rotate id quarters) = record { brands = refl; primary = refl; ids = (ids_of s.items, refl, ids-step s (Rotate id quarters)); groups = refl }
rest_stays s (Mirror id axis) = record { brands = refl; primary = refl; ids = (ids_of s.items, refl, ids-step s (Mirror id axis)); groups = refl }
rest_stays s (Crop id x y w h) = record { brands = refl; primary = refl; ids = (ids_of s.items, refl, ids-step s (Crop id x y w h)); groups = refl }
rest_stays s (Hide id) = record { brands = refl; primary = refl; ids = (ids_of s.items, refl, ids-step s (Hide id)); groups = refl }
rest_stays s (Show id) = record { brands = refl; primary = refl; ids = (ids_of s.items, refl, ids-step s (Show id)); groups = refl }
rest_stays s (Drop id kind) = record { brands = refl; primary = refl; ids = (ids_of s.items, refl, ids-step s (Drop id kind)); groups = refl }
