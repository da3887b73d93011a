-- The items and groups that a layout denotes are those of its store.
use Rattle.std.proofs.Common.{◌≡◌, ◌<◌, ◌≤◌, ℕ, Bool, true, false, not, ◌||◌, List, [], ◌∷◌, ◌++◌, length, map, Option}
use Rattle.std.proofs.Common.{refl, sym, ap, subst, ◌∙◌, append-nil, arith, inl, inr}
use Rattle.std.specs.Prelude.{◌==◌, nat_lt}
use Rattle.std.specs.List.{AllByRecursion, AllZip, filter}
use Rattle.std.proofs.lemmas.Bool.{cases_Bool, and_from, ne_eqb, eq-eqb, ltb-false}
use Rattle.hf_base.specs.Entries.{has_id}
use Rattle.hf_base.specs.Members.{IsIn, RisesFrom}
use Rattle.hf_box.specs.Boxes.{BoxAt}
use Rattle.hf_links.specs.Grpl.{Group}
use Rattle.hf_info.specs.Infe.{Info}
use Rattle.hf_order.proofs.Members.{in_all, in_map, has_in}
use Rattle.hf_prop.specs.declared.held.Held.{Held}
use Rattle.hf_prop.specs.declared.assoc.Pick.{Pick}
use Rattle.hf_prop.specs.declared.prop.Prop.{Prop}
use Rattle.hf_store.specs.Layout.{info_of, infos_of, all_boxes, has_props, assocs_of, iprp_of}
use Rattle.hf_store.specs.Lists.{not_empty}
use Rattle.hf_store.specs.Picks.{pick_of, Selects}
use Rattle.hf_store.specs.References.{is_id}
use Rattle.hf_store.specs.Store.{Item, ItemStore, ids_of}
use Rattle.hf_store.specs.Table.{table_of}
use Rattle.hf_store.specs.Valid.{IsGoodGroup, Valid}
use Rattle.hf_store.specs.declared.item.RefList.{RefList}
use Rattle.hf_store.proofs.References.{references_come_back, references_once}
use Rattle.hf_store.proofs.Tables.{numbers_select, selects_once}
use Rattle.hf_plan.specs.Lay.{Lay}
use Rattle.hf_read.specs.Denotes.{IsItemOf}
use Rattle.hf_read.specs.Kept.{left_of, is_kept_group, kept_groups, picks_of, kept_props, kept_refs}
use Rattle.hf_read.specs.Reading.{item_of}
use Rattle.hf_read.specs.Tables.{Tables, infos_by_id, item_ids, items_in}
use Rattle.hf_read.proofs.KeptProps.{props_are_selected}
use Rattle.hf_read.proofs.KeptRefs.{refs_are_kept}
use Rattle.hf_canon.proofs.Bytes.{above, body_of, IsIdat, located_has}
use Rattle.hf_canon.proofs.LaidOut.{tables_of}
use Rattle.hf_canon.proofs.Naming.{infos_stay, item_ids-are, picks_are}
use Rattle.hf_canon.proofs.Rising.{rising_same}

-- ---- lists

filter_all : {A : Type 0} (test : A → Bool) (xs : List A) → ((x : A) → IsIn x xs → test x ≡ true) → filter test xs ≡ xs
filter_all test [] each = refl
filter_all {A = A} test (x ∷ xs) each =
    let here = each x (inl refl) in
    rw here (ap (λ (l : List A). x ∷ l) (filter_all test xs (λ y h. each y (inr h))))

map_self : {A : Type 0} (f : A → A) (xs : List A) → ((x : A) → IsIn x xs → f x ≡ x) → map f xs ≡ xs
map_self f [] each = refl
map_self {A = A} f (x ∷ xs) each =
    ap (λ (y : A). y ∷ map f xs) (each x (inl refl)) ∙ ap (λ (l : List A). x ∷ l) (map_self f xs (λ y h. each y (inr h)))

-- ---- properties

no_props : (hs : List Held) → nat_lt 0 (length hs) ≡ false → hs ≡ []
no_props [] e = refl
no_props (h ∷ hs) e = absurd (omega (arith, ltb-false 0 (length (h ∷ hs)) e))

other_picks : (table : List Prop) (id low : ℕ) (is : List Item) → id ≤ low → RisesFrom ◌<◌ low (ids_of is)
    → picks_of id (assocs_of table is) ≡ []
other_picks table id low [] le rises = refl
other_picks table id low (j ∷ js) le rises =
    let rest = other_picks table id j.id js (omega (arith, le, rises.0)) rises.1 in
    let other = ne_eqb j.id id (λ e. omega (arith, e, le, rises.0)) in
    elim (cases_Bool (has_props j)) [ inl some ↦ rw (some, other) rest | inr none ↦ rw none rest ]

-- the associations that are written for an item
own_picks : (table : List Prop) (low : ℕ) (is : List Item) (i : Item) → RisesFrom ◌<◌ low (ids_of is) → IsIn i is
    → picks_of i.id (assocs_of table is) ≡ map (pick_of table) i.props
own_picks table low [] i rises among = absurd among
own_picks table low (j ∷ js) i rises (inl e) =
    let rest = other_picks table j.id j.id js (omega arith) rises.1 in
    let picks = map (pick_of table) j.props in
    let here : picks_of j.id (assocs_of table (j ∷ js)) ≡ picks = elim (cases_Bool (has_props j)) [
      | inl some ↦ rw (some, eq-eqb j.id j.id refl) (ap (λ (l : List Pick). picks ++ l) rest ∙ append-nil picks)
      | inr none ↦ rw none (rest ∙ sym (ap (map (pick_of table)) (no_props j.props none)))
    ] in
    subst (λ (k : Item). picks_of k.id (assocs_of table (j ∷ js)) ≡ map (pick_of table) k.props) e here
own_picks table low (j ∷ js) i rises (inr h) =
    let rest = own_picks table j.id js i rises.1 h in
    let other = ne_eqb j.id i.id (λ e. omega (arith, e, above j.id js i rises.1 h)) in
    elim (cases_Bool (has_props j)) [ inl some ↦ rw (some, other) rest | inr none ↦ rw none rest ]

id_there : (s : ItemStore) (i : Item) → Valid s → IsIn i s.items → IsIn i.id (item_ids (infos_of s.items))
id_there s i valid among =
    subst (λ (ids : List ℕ). IsIn i.id ids) (sym (item_ids-are s valid)) (in_map (λ (j : Item). j.id) s.items i among)

props_come_back : (s : ItemStore) (i : Item) → Valid s → IsIn i s.items → i.props ≡ kept_props (iprp_of s) i.id
props_come_back s i valid among =
    let table = table_of s in
    let props = kept_props (iprp_of s) i.id in
    let kept = props_are_selected (item_ids (infos_of s.items)) (iprp_of s) i.id (picks_are s) (id_there s i valid among) in
    let selected = subst (λ (ps : List Pick). Selects table ps props) (own_picks table 0 s.items i valid.ids_rise among) kept in
    selects_once table (map (pick_of table) i.props) i.props props (numbers_select s i among) selected

-- ---- references

refs_come_back : (s : ItemStore) (i : Item) → Valid s → IsIn i s.items → i.refs ≡ kept_refs (item_ids (infos_of s.items)) (all_boxes s.items) i.id
refs_come_back s i valid among =
    let links = all_boxes s.items in
    let ids = ids_of s.items in
    references_once (is_id s.items) links i.id i.refs (kept_refs ids links i.id) (references_come_back s i valid among) (refs_are_kept ids links i.id)
    ∙ ap (λ (l : List ℕ). kept_refs l links i.id) (sym (item_ids-are s valid))

-- ---- items

item_is : (s : ItemStore) (end : ℕ) (i : Item) → Valid s → IsIn i s.items → i ≡ item_of (tables_of end s) (info_of i) i.bytes
item_is s end i valid among =
    let made : List Held → List RefList → Item = λ props refs. record i { props = props; refs = refs } in
    ap (λ (props : List Held). made props i.refs) (props_come_back s i valid among)
    ∙ ap (made (kept_props (iprp_of s) i.id)) (refs_come_back s i valid among)

zip_infos : (F : List ℕ) (idat : Option (List ℕ)) (t : Tables) (is : List Item)
    → ((i : Item) → IsIn i is → IsItemOf F idat t (info_of i) i) → AllZip (IsItemOf F idat t) (infos_of is) is
zip_infos F idat t [] each = tt
zip_infos F idat t (i ∷ is) each = (each i (inl refl), zip_infos F idat t is (λ j h. each j (inr h)))

pub items_are : (s : ItemStore) (w : ℕ) (F : List ℕ) (o : Option BoxAt) → Valid s → Lay s w F → IsIdat s o
    → AllZip (IsItemOf F (body_of o) (tables_of (length F) s)) (infos_by_id (infos_of s.items)) s.items
items_are s w F o valid lay has =
    let t = tables_of (length F) s in
    let each : (i : Item) → IsIn i s.items → IsItemOf F (body_of o) t (info_of i) i = λ i among.
    let there = located_has s w F o valid lay has (items_in t) i among in
    record {
      placed = record { here = there.here; known = there.known; whole = there.whole; bytes = i.bytes; are = there.are };
      is = item_is s (length F) i valid among;
    }
    in
    let zipped = zip_infos F (body_of o) t s.items each in
    subst (λ (infos : List Info). AllZip (IsItemOf F (body_of o) t) infos s.items) (sym (infos_stay s valid)) zipped

-- ---- groups

some_there : (xs : List ℕ) → 0 < length xs → not_empty xs ≡ true
some_there [] some = absurd (omega (arith, some))
some_there (x ∷ xs) some = refl

-- a group of items stays as it is
entities_left : (ids : List ℕ) (g : Group) → AllByRecursion (λ id. IsIn id ids) g.entities → (left_of ids g).entities ≡ g.entities
entities_left ids g all =
    filter_all (λ id. has_id id ids) g.entities (λ id h. has_in id ids (in_all (λ x. IsIn x ids) g.entities all id h))

is_kept : (ids : List ℕ) (g : Group) → 0 < length g.entities → AllByRecursion (λ id. IsIn id ids) g.entities → is_kept_group ids g ≡ true
is_kept ids g some all =
    let left = (left_of ids g).entities in
    let same = entities_left ids g all in
    let there : not_empty left ≡ true = ap not_empty same ∙ some_there g.entities some in
    let equal = eq-eqb (length left) (length g.entities) (ap length same) in
    and_from (not_empty left) ((length left == length g.entities) || not (not_empty g.tail)) there (rw equal refl)

pub groups_come_back : (s : ItemStore) → Valid s → s.groups ≡ kept_groups (item_ids (infos_of s.items)) s.groups
unfolding kept_groups
groups_come_back s valid =
    let ids = ids_of s.items in
    let good : (g : Group) → IsIn g s.groups → IsGoodGroup s.items g = in_all (IsGoodGroup s.items) s.groups valid.groups in
    let kept = filter_all (is_kept_group ids) s.groups (λ g h. is_kept ids g (good g h).some (good g h).entities) in
    let left = map_self (left_of ids) s.groups (λ g h. ap (λ (es : List ℕ). record g { entities = es }) (entities_left ids g (good g h).entities)) in
    let rising = rising_same (λ (g : Group). g.id) s.groups valid.groups_rise in
    sym (ap (λ (l : List ℕ). kept_groups l s.groups) (item_ids-are s valid) ∙ rw (kept, left) rising)
