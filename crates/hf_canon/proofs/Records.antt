-- The records of a layout have the tables of its store.
use Rattle.std.proofs.Common.{◌≡◌, ◌^◌, ◌<◌, ◌≤◌, ◌⊎◌, ℕ, Bool, true, false, cond, List, [], ◌∷◌, ◌++◌, length, map, Option, Some, None}
use Rattle.std.proofs.Common.{refl, sym, ap, subst, ◌∙◌, length-append, arith, inl, inr}
use Rattle.std.specs.List.{AllByRecursion, filter, flat_map, fold, list_any}
use Rattle.std.proofs.lemmas.Bool.{cases_Bool}
use Rattle.std.proofs.lemmas.List.{length-map}
use Rattle.std.proofs.lemmas.List.Concat.{flat_map-cons}
use Rattle.hf_base.specs.Entries.{are_distinct}
use Rattle.hf_base.specs.Members.{IsIn, RisesFrom}
use Rattle.hf_base.specs.declared.four.FourCc.{FourCc}
use Rattle.hf_base.specs.declared.kinds.TheConstants.{IINF, INFE}
use Rattle.hf_base.specs.declared.limits.TheConstants.{BOXES}
use Rattle.hf_base.specs.declared.loc.RefBox.{RefBox}
use Rattle.hf_box.specs.Boxes.{BoxAt}
use Rattle.hf_box.specs.Literals.{four}
use Rattle.hf_box.specs.Written.{bit, id_width}
use Rattle.hf_info.specs.Infe.{Info, IsGoodInfo, infe_body, infe_box, IsWritable as IsWritableInfo}
use Rattle.hf_info.specs.Iinf.{IsIinf, iinf_body}
use Rattle.hf_info.proofs.IinfWritten.{iinf_written}
use Rattle.hf_links.specs.Grpl.{group_ids, group_body, group_box, grpl_body, IsWritable as IsWritableGroup}
use Rattle.hf_links.specs.Iref.{iref_body, IsWritable as IsWritableRef}
use Rattle.hf_loc.specs.Iloc.{Entry, loc_of, IsIloc, iloc_body, IsWritten as IsWrittenEntry}
use Rattle.hf_loc.proofs.WrittenLemmas as iloc_laws
use Rattle.hf_order.proofs.Members.{in_all, all_from, from_map, in_filter, all_push}
use Rattle.hf_prop.specs.declared.assoc.Pick.{Pick}
use Rattle.hf_prop.specs.Ipma.{assoc_ids, IsWritable as IsWritableAssoc}
use Rattle.hf_prop.specs.Iprp.{is_long_table, iprp_body}
use Rattle.hf_store.specs.Layout.{own, is_wide, info_of, infos_of, all_boxes, has_props, assoc_of, assocs_of, iprp_of, has_bytes, in_idat, entry_of, entries_of}
use Rattle.hf_store.specs.Layout.{box_if_any, meta_front}
use Rattle.hf_store.specs.Picks.{pick_of}
use Rattle.hf_store.specs.Store.{Prop, Held, Item, Group, ItemStore, ids_of}
use Rattle.hf_store.specs.Table.{same_prop, props_of, with_prop, table_of}
use Rattle.hf_store.specs.Valid.{IsGoodItem, IsGoodGroup, Valid}
use Rattle.hf_store.proofs.BoxLengths.{le-box, le-box_len}
use Rattle.hf_store.proofs.FieldLengths.{length-meta_front}
use Rattle.hf_store.proofs.Lengths.{meta_body_len}
use Rattle.hf_plan.specs.Lay.{IsWrittenRef, IsWrittenItem, IsWrittenGroup, IsWrittenExtent, Lay}
use Rattle.hf_plan.proofs.Lengths.{file_len, length-LayBy}
use Rattle.hf_read.specs.Tables.{AreLocs, AreLinks, AreProps, AreGroups}
use Rattle.hf_read.proofs.Filters.{from_flat}
use Rattle.hf_canon.proofs.LaidOut.{HasBody, HasBodyIfAny}
use Rattle.hf_canon.proofs.Boxes.{has_size, behind_few}
use Rattle.hf_canon.proofs.Naming.{all_map, good_item, good_ref, each_box, ids_of_infos}
use Rattle.hf_canon.proofs.Rising.{distinct_from, distinct_rises, some_rise}
use Rattle.hf_canon.proofs.Written.{HasFour, refs_stand, groups_stand, props_stand}

-- some of them are no more than all
length-some : {A : Type 0} (test : A → Bool) (xs : List A) → length (filter test xs) ≤ length xs
length-some test [] = omega arith
length-some test (x ∷ xs) =
    let rest = length-some test xs in
    elim (cases_Bool (test x)) [ inl here ↦ rw here (omega (arith, rest)) | inr not_here ↦ rw not_here (omega (arith, rest)) ]

-- ---- how long the bodies are

record AreShort (s : ItemStore) : Type 0 where
  iinf : length (iinf_body (is_wide s.items) (infos_of s.items)) < 256 ^ 8
  iref : length (box_if_any (four "iref") (iref_body (is_wide s.items)) (all_boxes s.items)) < 256 ^ 8
  iprp : length (iprp_body (is_wide s.items) (iprp_of s)) < 256 ^ 8
  grpl : length (box_if_any (four "grpl") grpl_body s.groups) < 256 ^ 8

front_few : (s : ItemStore) (w : ℕ) (F : List ℕ) → Lay s w F → length (meta_front s) < 256 ^ 8
unfolding file_len meta_body_len
front_few s w F lay = omega (arith, length-LayBy own s w F lay, lay.numbers.size, le-box_len (meta_body_len w s))

are_short : (s : ItemStore) (w : ℕ) (F : List ℕ) → Lay s w F → AreShort s
are_short s w F lay =
    let few = front_few s w F lay in
    let sum = length-meta_front s in
    let iinf = le-box_len (length (iinf_body (is_wide s.items) (infos_of s.items))) in
    let iprp = le-box_len (length (iprp_body (is_wide s.items) (iprp_of s))) in
    record { iinf = omega (arith, few, sum, iinf); iref = omega (arith, few, sum); iprp = omega (arith, few, sum, iprp); grpl = omega (arith, few, sum) }

-- what stands in a box that is there where something is listed in it
any_is : {A : Type 0} (kind : FourCc) (body : List A → List ℕ) (P : Option BoxAt → List A → Type 0) (xs : List A) → P None []
    → (length (body xs) < 256 ^ 8 → (b : BoxAt) → b.body ≡ body xs → P (Some b) xs) → length (box_if_any kind body xs) < 256 ^ 8
    → (o : Option BoxAt) → HasBodyIfAny body xs o → P o xs
unfolding box_if_any
any_is kind body P [] none some few o e = subst (λ (p : Option BoxAt). P p []) (sym e) none
any_is kind body P (x ∷ xs) none some few o (b, e, is) =
    subst (λ (p : Option BoxAt). P p (x ∷ xs)) (sym e) (some (omega (arith, few, le-box kind (body (x ∷ xs)))) b is)

-- ---- iinf

good_info : (all : List Item) (i : Item) → IsGoodItem all i → 0 < i.id → IsGoodInfo (info_of i)
good_info all i good some = record {
  some = some;
  id = good.id;
  kind = good.kind;
  name = good.name;
  content = good.content;
  encoding = good.encoding;
  uri = good.uri;
  only_mime = good.only_mime;
  only_uri = good.only_uri;
}

infos_written : (wide : Bool) (table : List Prop) (all is : List Item) (low : ℕ) → AllByRecursion (IsGoodItem all) is
    → AllByRecursion (IsWrittenItem wide table) is → RisesFrom ◌<◌ low (ids_of is) → length (flat_map (infe_box wide) (infos_of is)) < 256 ^ 8
    → AllByRecursion (IsWritableInfo wide) (infos_of is)
infos_written wide table all [] low good written rises few = tt
infos_written wide table all (i ∷ is) low good written rises few =
    let box = infe_box wide in
    let sum = ap length (flat_map-cons box (info_of i) (infos_of is)) ∙ length-append (box (info_of i)) (flat_map box (infos_of is)) in (
      record {
        good = good_info all i good.0 (omega (arith, rises.0));
        id_fits = written.0.id;
        size = has_size INFE (infe_body wide (info_of i)) refl (omega (arith, few, sum));
      },
      infos_written wide table all is i.id good.1 written.1 rises.1 (omega (arith, few, sum)),
    )

entries_few : (wide : Bool) (infos : List Info) → length (iinf_body wide infos) < 256 ^ 8 → length (flat_map (infe_box wide) infos) < 256 ^ 8
unfolding iinf_body
entries_few wide infos few = behind_few _ (flat_map (infe_box wide) infos) few

-- what stands in a body stands in a box with that body, whatever its type
stands_there : (b : BoxAt) (body : List ℕ) (infos : List Info) → b.body ≡ body
    → IsIinf (record { kind = IINF; at = b.at; head = b.head; body = body }) infos → IsIinf b infos
stands_there b body infos is stands = record {
  version = stands.version;
  flags = stands.flags;
  flags_fit = stands.flags_fit;
  width = stands.width;
  versioned = stands.versioned;
  count_fits = stands.count_fits;
  inner = stands.inner;
  is = is ∙ stands.is;
  boxes = stands.boxes;
  framed = stands.framed;
  entries = stands.entries;
  distinct = stands.distinct;
}

-- ---- the parts of other entries

bit_small : (b : Bool) → bit b < 16
bit_small true = omega arith
bit_small false = omega arith

ids_of_entries : (end : ℕ) (all is : List Item) → map (λ (e : Entry). e.id) (map (entry_of own end all) is) ≡ ids_of is
ids_of_entries end all [] = refl
ids_of_entries end all (i ∷ is) = ap (λ (l : List ℕ). i.id ∷ l) (ids_of_entries end all is)

ids_of_assocs : (table : List Prop) (is : List Item) → assoc_ids (map (assoc_of table) is) ≡ ids_of is
ids_of_assocs table [] = refl
ids_of_assocs table (i ∷ is) = ap (λ (l : List ℕ). i.id ∷ l) (ids_of_assocs table is)

groups_written : (all : List Item) (gs : List Group) → AllByRecursion (IsGoodGroup all) gs → AllByRecursion IsWrittenGroup gs
    → length (flat_map group_box gs) < 256 ^ 8 → AllByRecursion IsWritableGroup gs
groups_written all [] good written few = tt
groups_written all (g ∷ gs) good written few =
    let sum = ap length (flat_map-cons group_box g gs) ∙ length-append (group_box g) (flat_map group_box gs) in (
      record {
        kind = good.0.kind;
        version = good.0.version;
        flags = good.0.flags;
        id = good.0.id;
        count = written.0.count;
        entities = written.0.entities;
        size = has_size g.kind (group_body g) good.0.kind (omega (arith, few, sum));
      },
      groups_written all gs good.1 written.1 (omega (arith, few, sum)),
    )

-- what holds of all properties holds of those of their table
all_with : (P : Prop → Type 0) (earlier : List Prop) (p : Prop) → AllByRecursion P earlier → P p → AllByRecursion P (with_prop earlier p)
all_with P earlier p all here =
    let pushed = all_push P earlier p all here in
    elim (list_any (same_prop p) earlier) as (λ b. AllByRecursion P (cond b earlier (earlier ++ p ∷ []))) [ true ↦ all | false ↦ pushed ]

all_folded : (P : Prop → Type 0) (earlier ps : List Prop) → AllByRecursion P earlier → AllByRecursion P ps
    → AllByRecursion P (fold with_prop earlier ps)
all_folded P earlier [] all more = all
all_folded P earlier (p ∷ ps) all more = all_folded P (with_prop earlier p) ps (all_with P earlier p all more.0) more.1

kinds_are : (s : ItemStore) → Valid s → AllByRecursion HasFour (table_of s)
unfolding table_of
kinds_are s valid =
    let used = flat_map props_of s.items in
    let each : (p : Prop) → IsIn p used → HasFour p = λ p h.
    let at = from_flat props_of s.items p h in
    let held = from_map (λ (k : Held). k.prop) at.0.props p at.2 in
    subst HasFour held.2 (in_all (λ (k : Held). HasFour k.prop) at.0.props (good_item s valid at.0 at.1).prop_kinds held.0 held.1)
    in
    all_folded HasFour [] used tt (all_from HasFour used each)

-- ---- the records of a layout

module _ (s : ItemStore) (w : ℕ) (F : List ℕ) (valid : Valid s) (lay : Lay s w F) where
  abbrev wide : Bool
  wide = is_wide s.items

  abbrev links : List RefBox
  links = all_boxes s.items

  abbrev entries : List Entry
  entries = entries_of own (length F) s.items

  written_item : (i : Item) → IsIn i s.items → IsWrittenItem wide (table_of s) i
  written_item i among = in_all (IsWrittenItem wide (table_of s)) s.items lay.numbers.items i among

  -- the ids of those that pass are distinct
  distinct_some : (test : Item → Bool) → are_distinct (ids_of (filter test s.items)) ≡ true
  distinct_some test = distinct_from 0 (ids_of (filter test s.items)) (some_rise (λ (i : Item). i.id) test 0 0 s.items (omega arith) valid.ids_rise)

  pub infos_are : (b : BoxAt) → b.body ≡ iinf_body wide (infos_of s.items) → IsIinf b (infos_of s.items)
  infos_are b is =
      let count : length (infos_of s.items) ≡ length s.items = length-map s.items info_of in
      let small = entries_few wide (infos_of s.items) (are_short s w F lay).iinf in
      let each = infos_written wide (table_of s) s.items s.items 0 valid.items lay.numbers.items valid.ids_rise small in
      let distinct = ap are_distinct (ids_of_infos s.items) ∙ distinct_from 0 (ids_of s.items) valid.ids_rise in
      let fits : length (infos_of s.items) < 256 ^ id_width wide = omega (arith, count, lay.numbers.count) in
      let few : length (infos_of s.items) ≤ BOXES = omega (arith, count, valid.count) in
      stands_there b (iinf_body wide (infos_of s.items)) (infos_of s.items) is (iinf_written wide b.at b.head (infos_of s.items) each distinct fits few).0

  pub locs_are : (w ≡ 4) ⊎ (w ≡ 8) → (o : Option BoxAt) → HasBody (iloc_body wide w entries) o → AreLocs o (map loc_of entries)
  locs_are width o (b, e, is) =
      let entry = entry_of own (length F) s.items in
      let IsFit : Item → Type 0 = λ i. IsWrittenEntry wide w (entry i) in
      let has : Item → Bool = λ i. has_bytes i.bytes in
      let count : length entries ≡ length (filter has s.items) = length-map (filter has s.items) entry in
      let fewer = length-some has s.items in
      let each : AllByRecursion IsFit (filter has s.items) = all_from IsFit (filter has s.items) (λ i h. (
      let extent = in_all (IsWrittenExtent own w (length F) s.items) (filter has s.items) lay.numbers.extents i h in
      let item = written_item i (in_filter has s.items i h) in
      record { id = item.id; method = bit_small (in_idat i); offset = extent.offset; length = extent.length }
      )) in
      let all = all_map (IsWrittenEntry wide w) entry (filter has s.items) each in
      let distinct = ap are_distinct (ids_of_entries (length F) s.items (filter has s.items)) ∙ distinct_some has in
      let stands = iloc_laws.written_is wide w entries width (omega (arith, count, fewer, lay.numbers.count)) all distinct in
      subst (λ (p : Option BoxAt). AreLocs p (map loc_of entries)) (sym e) (subst (λ (l : List ℕ). IsIloc l (map loc_of entries)) (sym is) stands)

  pub links_are : (o : Option BoxAt) → HasBodyIfAny (iref_body wide) links o → AreLinks o links
  links_are =
      let each : AllByRecursion (IsWritableRef wide) links = all_from (IsWritableRef wide) links (each_box (IsWritableRef wide) s.items (λ i r among listed. (
      let item = written_item i among in
      let good = good_ref s valid i r among listed in
      record { kind = good.kind; from = item.id; count = good.links; to = (in_all (IsWrittenRef wide) i.refs item.refs r listed).1 }
      ))) in
      any_is (four "iref") (iref_body wide) AreLinks links refl (λ few b is. refs_stand b wide links is each few) (are_short s w F lay).iref

  pub props_are : (o : Option BoxAt) → HasBody (iprp_body wide (iprp_of s)) o → AreProps o (iprp_of s)
  props_are o (b, e, is) =
      let table = table_of s in
      let held = filter has_props s.items in
      let long = is_long_table table in
      let IsFit : Item → Type 0 = λ i. IsWritableAssoc wide long (assoc_of table i) in
      let count : length (assocs_of table s.items) ≡ length held = length-map held (assoc_of table) in
      let few = length-some has_props s.items in
      let each : AllByRecursion IsFit held = all_from IsFit held (λ i h. (
      let item = written_item i (in_filter has_props s.items i h) in
      record {
        item = item.id;
        count = omega (arith, item.props, length-map i.props (pick_of table));
        picks = all_map (λ (p : Pick). p.index < cond long (2 ^ 15) (2 ^ 7)) (pick_of table) i.props item.numbers;
      }
      )) in
      let stands = props_stand b wide (iprp_of s) is (record {
        kinds = kinds_are s valid;
        each = all_map (IsWritableAssoc wide long) (assoc_of table) held each;
        count = omega (arith, count, few, valid.count);
        distinct = ap are_distinct (ids_of_assocs table held) ∙ distinct_some has_props;
        size = (are_short s w F lay).iprp;
      }) in
      subst (λ (p : Option BoxAt). AreProps p (iprp_of s)) (sym e) stands

  pub groups_are : (o : Option BoxAt) → HasBodyIfAny grpl_body s.groups o → AreGroups o s.groups
  unfolding grpl_body
  groups_are =
      let distinct = distinct_rises (group_ids s.groups) valid.groups_rise in
      let each = groups_written s.items s.groups valid.groups lay.numbers.groups in
      any_is (four "grpl") grpl_body AreGroups s.groups refl (λ few b is. groups_stand b s.groups is (each few) distinct) (are_short s w F lay).grpl
