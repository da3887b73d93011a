-- The properties of a plan and of its store.
use Rattle.std.proofs.Common.{◌≡◌, ℕ, zero, suc, ◌^◌, ◌<◌, ◌≤◌, Bool, true, cond, ltb, List, [], ◌∷◌, ◌++◌, length, length-append, map, refl, sym, ap, ◌∙◌, arith, inl, inr, Some}
use Rattle.std.specs.Prelude.{slice_get}
use Rattle.std.specs.List.{flat_map, filter}
use Rattle.std.proofs.lemmas.Bool.{cases_Bool, lt-ltb}
use Rattle.hf_base.specs.declared.limits.TheConstants as limits
use Rattle.hf_box.specs.Head.{box, box_head}
use Rattle.hf_base.specs.Number.{num}
use Rattle.std.proofs.lemmas.List.{length-map}
use Rattle.hf_box.specs.Written.{id_width}
use Rattle.hf_box.specs.Literals.{four}
use Rattle.hf_prop.specs.Iprp.{is_long_table, ipco_body}
use Rattle.hf_prop.specs.Ipma.{association, ipma_entry}
use Rattle.hf_table.specs.Numbered.{Stands}
use Rattle.hf_store.specs.Layout.{has_props, assoc_of, assocs_of}
use Rattle.hf_store.specs.Picks.{pick_of}
use Rattle.hf_store.specs.Store.{Prop, Held, Item, ItemStore}
use Rattle.hf_store.specs.Table.{number_of, props_of, lists_of, table_of}
use Rattle.hf_store.specs.Valid.{Valid}
use Rattle.hf_store.proofs.Spots.{within_at, get_map, some_is, holds_here}
use Rattle.hf_plan.specs.Lay.{IsWrittenNumber}
use Rattle.hf_plan.specs.Plan.{Planned, IsNumber, HasNumber, IsPlan}
use Rattle.hf_plan.proofs.Readers.{plan_tells_all}
use Rattle.hf_write.specs.Entries.{prop_box, picks_text, assoc_if_any}
use Rattle.hf_write.proofs.Sized.{ipco_few}
use Rattle.hf_write.proofs.Fits.{part-le, item_fits}

-- what stands at a place of a list that is made of another one
get_unmap : {A B : Type 0} (f : A → B) (xs : List A) (k : ℕ) (y : B) → slice_get (map f xs) k ≡ Some y → (x : A) × (slice_get xs k ≡ Some x) × (f x ≡ y)
get_unmap f [] k y e = absurd cc
get_unmap f (x ∷ xs) zero y e = (x, refl, some_is e)
get_unmap f (x ∷ xs) (suc k) y e = get_unmap f xs k y e

-- the k-th box of `ipco`, and where its property stands
pub record FirstStands (s : ItemStore) (k : ℕ) (place : ℕ × ℕ) : Type 0 where
  pub prop : Prop
  pub boxed : slice_get (table_of s) k ≡ Some prop
  pub item : Item
  pub here : slice_get s.items place.0 ≡ Some item
  pub held : slice_get (props_of item) place.1 ≡ Some prop

pub first_stands : (s : ItemStore) (p : Planned) (k : ℕ) (place : ℕ × ℕ) → IsPlan s p → slice_get p.firsts k ≡ Some place → FirstStands s k place
first_stands s p k place plan first =
    let told = (plan_tells_all s p plan).first k place first in
    let stands = told.2.stands in
    let item = get_unmap props_of s.items place.0 stands.props stands.at in
    record { prop = told.0; boxed = told.1; item = item.0; here = item.1; held = ap (λ ps. slice_get ps place.1) item.2 ∙ stands.held }

-- the item at that place has so many properties
pub first_within : (s : ItemStore) (k : ℕ) (place : ℕ × ℕ) (item : Item) → FirstStands s k place → slice_get s.items place.0 ≡ Some item → place.1 < length item.props
first_within s k place item first here =
    let same = ap (λ (i : Item). slice_get (props_of i) place.1) (some_is (sym here ∙ first.here)) in
    let held = get_unmap (λ (h : Held). h.prop) item.props place.1 first.prop (same ∙ first.held) in
    within_at item.props place.1 held.0 held.1

-- and what it holds there is the property of the box
pub first_is : (s : ItemStore) (k : ℕ) (place : ℕ × ℕ) (item : Item) (h : Held) → FirstStands s k place → slice_get s.items place.0 ≡ Some item → slice_get item.props place.1 ≡ Some h → slice_get (table_of s) k ≡ Some h.prop
first_is s k place item h first here there =
    let same = ap (λ (i : Item). slice_get (props_of i) place.1) (some_is (sym here ∙ first.here)) in
    first.boxed ∙ sym (same ∙ first.held) ∙ get_map (λ (g : Held). g.prop) item.props place.1 h there

-- the body of a property is short
pub prop_few : (s : ItemStore) (k : ℕ) (p : Prop) → Valid s → slice_get (table_of s) k ≡ Some p → length p.body ≤ limits.META
unfolding ipco_body box
prop_few s k p valid here =
    let body = flat_map prop_box (table_of s) in
    omega (arith, part-le prop_box (table_of s) k p here, length-append (box_head p.kind (length p.body)) p.body, length-append (box_head (four "ipco") (length body)) body, ipco_few s valid)

-- ---- associations

stands_at : (s : ItemStore) (i j : ℕ) (item : Item) (h : Held) → slice_get s.items i ≡ Some item → slice_get item.props j ≡ Some h → Stands (lists_of s) i j h.prop
stands_at s i j item h here there = record { props = props_of item; at = get_map props_of s.items i item here; held = get_map (λ (g : Held). g.prop) item.props j h there }

pub has_number : (s : ItemStore) (p : Planned) (i j : ℕ) (item : Item) (h : Held) → IsPlan s p → slice_get s.items i ≡ Some item → slice_get item.props j ≡ Some h → HasNumber p i j
has_number s p i j item h plan here there =
    (number_of h.prop (table_of s), ((plan_tells_all s p plan).number i j h.prop (stands_at s i j item h here there)).0)

number_one : (p : Planned) (i j m n : ℕ) → IsNumber p i j m → IsNumber p i j n → m ≡ n
number_one p i j m n a b =
    let lists = some_is (sym a.item ∙ b.item) in
    some_is (sym a.number ∙ ap (λ ns. slice_get ns j) lists ∙ b.number)

-- the number that is read is that of the property
pub number_is : (s : ItemStore) (p : Planned) (i j : ℕ) (item : Item) (h : Held) (n : ℕ) → IsPlan s p → slice_get s.items i ≡ Some item → slice_get item.props j ≡ Some h → IsNumber p i j n → n ≡ number_of h.prop (table_of s)
number_is s p i j item h n plan here there is =
    number_one p i j n (number_of h.prop (table_of s)) is ((plan_tells_all s p plan).number i j h.prop (stands_at s i j item h here there)).0

-- and fits
pub number_fits : (s : ItemStore) (long : Bool) (i j : ℕ) (item : Item) (h : Held) (n : ℕ) → Valid s → long ≡ is_long_table (table_of s) → slice_get s.items i ≡ Some item → slice_get item.props j ≡ Some h
    → n ≡ number_of h.prop (table_of s) → n < cond long (2 ^ 15) (2 ^ 7)
number_fits s long i j item h n valid e here there is =
    rw (e, is) (holds_here (IsWrittenNumber (table_of s)) item.props j h (item_fits s i item valid here).numbers there)

-- the association that is given is that of the property
pub pick_is : (s : ItemStore) (long : Bool) (h : Held) (n : ℕ) → n ≡ number_of h.prop (table_of s) → association long (record { essential = h.essential; index = n }) ≡ association long (pick_of (table_of s) h)
pick_is s long h n e = ap (λ (k : ℕ). association long (record { essential = h.essential; index = k })) e

-- the entry of an item that has properties
pub assoc_whole : (wide v long : Bool) (table : List Prop) (i : Item) (count : ℕ) → v ≡ wide → count ≡ length i.props → has_props i ≡ true
    → (num i.id (id_width v) ++ num count 1) ++ picks_text long table i ≡ assoc_if_any wide long table i
unfolding ipma_entry
assoc_whole wide v long table i count e f some =
    let picks = picks_text long table i in
    let counted : count ≡ length (map (pick_of table) i.props) = f ∙ sym (length-map i.props (pick_of table)) in
    ap (λ (w : Bool). (num i.id (id_width w) ++ num count 1) ++ picks) e ∙ ap (λ (n : ℕ). (num i.id (id_width wide) ++ num n 1) ++ picks) counted
    ∙ ap (λ (b : Bool). cond b (ipma_entry wide long (assoc_of table i)) []) (sym some)

pub no_assoc : (wide long : Bool) (table : List Prop) (i : Item) → length i.props ≡ 0 → [] ≡ assoc_if_any wide long table i
no_assoc wide long table i none = ap (λ (n : ℕ). cond (ltb 0 n) (ipma_entry wide long (assoc_of table i)) []) (sym none)

pub some_props : (i : Item) (n : ℕ) → n ≡ length i.props → (n ≡ 0 → ⊥) → has_props i ≡ true
some_props i zero e some = absurd (some refl)
some_props i (suc n) e some = lt-ltb 0 (length i.props) (omega (arith, e))

-- entries of items that have properties are the entries of all
pub assocs_are : (wide long : Bool) (table : List Prop) (is : List Item) → flat_map (assoc_if_any wide long table) is ≡ flat_map (ipma_entry wide long) (assocs_of table is)
assocs_are wide long table [] = refl
assocs_are wide long table (i ∷ is) =
    let rest = assocs_are wide long table is in
    let one = ipma_entry wide long (assoc_of table i) in
    let before : Bool → List ℕ = λ b. cond b one [] ++ flat_map (assoc_if_any wide long table) is in
    let after : Bool → List ℕ = λ b. flat_map (ipma_entry wide long) (map (assoc_of table) (cond b (i ∷ filter has_props is) (filter has_props is))) in
    elim (cases_Bool (has_props i)) [
      | inl some ↦ ap before some ∙ ap (λ (l : List ℕ). one ++ l) rest ∙ ap after (sym some)
      | inr none ↦ ap before none ∙ rest ∙ ap after (sym none)
    ]
