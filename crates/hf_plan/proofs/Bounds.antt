-- The numbers of a valid store fit the widths that they are written in.
use Rattle.std.proofs.Common.{◌≡◌, ℕ, suc, ◌+◌, ◌^◌, ◌<◌, ◌≤◌, Bool, true, false, not, ◌&&◌, cond, leb, ltb, List, [], ◌∷◌, length, length-append, refl, sym, ap, arith, inl, inr, subst}
use Rattle.std.specs.Prelude.{◌==◌}
use Rattle.std.specs.List.{AllByRecursion, list_any, flat_map, filter}
use Rattle.std.proofs.lemmas.Bool.{cases_lt, cases_Bool, or_parts, and_parts, and_from, leb-false, lt-ltb, le-ltb, eq-eqb}
use Rattle.std.proofs.lemmas.List.{length-map}
use Rattle.std.proofs.lemmas.List.Concat.{length-flat_map}
use Rattle.hf_base.specs.NumberLaws.{length-num}
use Rattle.hf_base.specs.declared.four.FourCc.{FourCc}
use Rattle.hf_base.specs.declared.limits.TheConstants as limits
use Rattle.hf_store.specs.Lists.{IsIn, RisesFrom}
use Rattle.hf_store.specs.Store.{Prop, Held, Item, Group, ItemStore, ids_of}
use Rattle.hf_store.specs.declared.item.RefList.{RefList}
use Rattle.hf_box.specs.Literals.{four}
use Rattle.hf_box.specs.Written.{id_width}
use Rattle.hf_head.specs.Ftyp.{ftyp_body}
use Rattle.hf_store.specs.Table.{same_prop, table_of, number_of}
use Rattle.hf_links.specs.Grpl.{group_body, group_box, grpl_body}
use Rattle.hf_store.specs.Layout.{Homes, own, is_wide, box_if_any, has_bytes, with_bytes, in_idat, is_data_item, bytes_in, mdat_body, idat_body, mdat_offset, idat_offset, meta_front, laid}
use Rattle.hf_store.specs.Valid.{body_sum, IsGoodRef, IsGoodItem, IsGoodGroup, Valid}
use Rattle.hf_store.proofs.BoxLengths.{le-box, le-box_len, box_len-le}
use Rattle.hf_store.proofs.FieldLengths.{length-ftyp_body, length-nums}
use Rattle.hf_store.proofs.Lengths.{meta_body_len, meta_len-is}
use Rattle.hf_plan.specs.Homes.{AreHomes}
use Rattle.hf_plan.specs.Lay.{IsWrittenRef, IsWrittenNumber, IsWrittenItem, IsWrittenGroup, IsWrittenExtent, IsWritten, LayBy}
use Rattle.hf_plan.proofs.Lengths.{file_len, length-laid}

-- ---- ids

abbrev AreBelow : ℕ → List ℕ → Type 0
AreBelow top ids = AllByRecursion (λ id. id < top) ids

narrow_below : (is : List Item) → is_wide is ≡ false → AreBelow (256 ^ 2) (ids_of is)
unfolding is_wide
narrow_below [] e = tt
narrow_below (i ∷ is) e =
    let parts = or_parts (leb (256 ^ 2) i.id) (list_any (λ (j : Item). leb (256 ^ 2) j.id) is) e in
    (leb-false _ _ parts.0, narrow_below is parts.1)

good_below : (all is : List Item) → AllByRecursion (IsGoodItem all) is → AreBelow (256 ^ 4) (ids_of is)
good_below all [] good = tt
good_below all (i ∷ is) good = (good.0.id, good_below all is good.1)

pub ids_below : (is : List Item) → AllByRecursion (IsGoodItem is) is → AreBelow (256 ^ id_width (is_wide is)) (ids_of is)
ids_below is good =
    elim (cases_Bool (is_wide is)) [
      | inl wide ↦ rw wide (good_below is is good)
      | inr narrow ↦ rw narrow (narrow_below is narrow)
    ]

pub in_below : (id top : ℕ) (ids : List ℕ) → IsIn id ids → AreBelow top ids → id < top
in_below id top [] h below = absurd h
in_below id top (x ∷ xs) (inl e) below = omega (arith, e, below.0)
in_below id top (x ∷ xs) (inr h) below = in_below id top xs h below.1

all_in_below : (top : ℕ) (ids xs : List ℕ) → AllByRecursion (λ x. IsIn x ids) xs → AreBelow top ids → AreBelow top xs
all_in_below top ids [] h below = tt
all_in_below top ids (x ∷ xs) h below = (in_below x top ids h.0 below, all_in_below top ids xs h.1 below)

-- ids that rise from above `low` and stay below `top` are few
few_ids : (low top : ℕ) (ids : List ℕ) → low < top → RisesFrom ◌<◌ low ids → AreBelow top ids → length ids + low < top
few_ids low top [] lt rises below = omega arith
few_ids low top (x ∷ xs) lt rises below = omega (arith, few_ids x top xs below.0 rises.1 below.1, rises.0)

pub count_fits : (s : ItemStore) → Valid s → length s.items < 256 ^ id_width (is_wide s.items)
count_fits s valid =
    elim (cases_Bool (is_wide s.items)) [
      | inl wide ↦ rw wide (omega (arith, valid.count))
      | inr narrow ↦ rw narrow (omega (arith, length-map s.items (λ (i : Item). i.id), few_ids 0 (256 ^ 2) (ids_of s.items) (omega arith) valid.ids_rise (narrow_below s.items narrow)))
    ]

-- ---- properties

number_of-le : (p : Prop) (table : List Prop) → number_of p table ≤ length table
number_of-le p [] = omega arith
number_of-le p (q ∷ qs) =
    elim (same_prop p q) as (λ b. cond b 1 (suc (number_of p qs)) ≤ suc (length qs)) [ true ↦ omega arith | false ↦ omega (arith, number_of-le p qs) ]

number_fits : (table : List Prop) (h : Held) → length table ≤ limits.KINDS → IsWrittenNumber table h
number_fits table h few =
    elim (cases_lt 127 (length table)) [
      | inl long ↦ rw (lt-ltb _ _ long) (omega (arith, few, number_of-le h.prop table))
      | inr short ↦ rw (le-ltb _ _ short) (omega (arith, number_of-le h.prop table))
    ]

numbers_fit : (table : List Prop) (hs : List Held) → length table ≤ limits.KINDS → AllByRecursion (IsWrittenNumber table) hs
numbers_fit table [] few = tt
numbers_fit table (h ∷ hs) few = (number_fits table h few, numbers_fit table hs few)

-- ---- references, items, groups

refs_fit : (wide : Bool) (all : List Item) (rs : List RefList) → AreBelow (256 ^ id_width wide) (ids_of all) → AllByRecursion (IsGoodRef all) rs → AllByRecursion (IsWrittenRef wide) rs
refs_fit wide all [] below good = tt
refs_fit wide all (r ∷ rs) below good =
    ((omega (arith, good.0.links), all_in_below (256 ^ id_width wide) (ids_of all) r.to good.0.to below), refs_fit wide all rs below good.1)

items_fit : (wide : Bool) (table : List Prop) (all is : List Item) → length table ≤ limits.KINDS → AreBelow (256 ^ id_width wide) (ids_of all) → AreBelow (256 ^ id_width wide) (ids_of is) → AllByRecursion (IsGoodItem all) is
    → AllByRecursion (IsWrittenItem wide table) is
items_fit wide table all [] few below mine good = tt
items_fit wide table all (i ∷ is) few below mine good = (
  record { id = mine.0; props = omega (arith, good.0.props); numbers = numbers_fit table i.props few; refs = refs_fit wide all i.refs below good.0.refs },
  items_fit wide table all is few below mine.1 good.1,
)

le-group_box : (g : Group) → length g.entities ≤ length (group_box g)
unfolding group_body
le-group_box g =
    let body : length g.entities ≤ length (group_body g) = simp (length-append, length-num, length-nums 4 g.entities) (omega arith) in
    omega (arith, body, le-box g.kind (group_body g))

groups_fit : (all : List Item) (gs : List Group) → AreBelow (256 ^ 4) (ids_of all) → length (grpl_body gs) < 256 ^ 4 → AllByRecursion (IsGoodGroup all) gs → AllByRecursion IsWrittenGroup gs
unfolding grpl_body
groups_fit all [] below few good = tt
groups_fit all (g ∷ gs) below few good =
    let sum = length-append (group_box g) (flat_map group_box gs) in (
      record {
        version = good.0.version;
        flags = good.0.flags;
        id = good.0.id;
        count = omega (arith, few, sum, le-group_box g);
        entities = all_in_below (256 ^ 4) (ids_of all) g.entities good.0.entities below;
      },
      groups_fit all gs below (omega (arith, few, sum)) good.1,
    )

-- ---- bytes

-- what more items pass, has no fewer bytes
pub bytes-more : (p q : Item → Bool) (is : List Item) → ((i : Item) → p i ≡ true → q i ≡ true) → length (bytes_in (filter p is)) ≤ length (bytes_in (filter q is))
unfolding bytes_in
bytes-more p q [] more = omega arith
bytes-more p q (i ∷ is) more =
    let rest = bytes-more p q is more in
    elim (cases_Bool (p i)) [
      | inl here ↦ rw (here, more i here) (simp length-append (omega (arith, rest)))
      | inr not_here ↦
          elim (cases_Bool (q i)) [
            | inl there ↦ rw (not_here, there) (simp length-append (omega (arith, rest)))
            | inr not_there ↦ rw (not_here, not_there) rest
          ]
    ]

-- the bytes of one that passes are among those of all that do
pub bytes-of_one : (p : Item → Bool) (is : List Item) (i : Item) → IsIn i is → p i ≡ true → length i.bytes ≤ length (bytes_in (filter p is))
unfolding bytes_in
bytes-of_one p [] i among passes = absurd among
bytes-of_one p (j ∷ js) i (inl e) passes =
    let here : p j ≡ true = subst (λ (k : Item). p k ≡ true) (sym e) passes in
    let same : length j.bytes ≡ length i.bytes = ap (λ (k : Item). length k.bytes) e in
    rw here (simp length-append (omega (arith, same)))
bytes-of_one p (j ∷ js) i (inr h) passes =
    let rest = bytes-of_one p js i h passes in
    elim (cases_Bool (p j)) [
      | inl here ↦ rw here (simp length-append (omega (arith, rest)))
      | inr not_here ↦ rw not_here rest
    ]

pub all_where : (P : Item → Type 0) (p : Item → Bool) (is : List Item) → ((i : Item) → IsIn i is → p i ≡ true → P i) → AllByRecursion P (filter p is)
all_where P p [] each = tt
all_where P p (i ∷ is) each =
    let rest = all_where P p is (λ j among. each j (inr among)) in
    elim (cases_Bool (p i)) [
      | inl here ↦ rw here (each i (inl refl) here, rest)
      | inr not_here ↦ rw not_here rest
    ]

-- each data item may be its own home
pub own_homes : AreHomes own
own_homes is i among data_item = record { at = i; among = among; data_item = data_item; itself = refl; found = refl; same = refl }

-- an item with bytes has them in idat or in mdat
bytes-placed : (home : Homes) → AreHomes home → (is : List Item) (i : Item) → IsIn i is → has_bytes i.bytes ≡ true → length i.bytes ≤ length (idat_body is) + length (mdat_body home is)
bytes-placed home homes is i among some =
    elim (cases_Bool (in_idat i)) [
      | inl here ↦ omega (arith, bytes-of_one in_idat is i among here)
      | inr not_here ↦
          let data_item : is_data_item i ≡ true = and_from (has_bytes i.bytes) (not (in_idat i)) some (ap not not_here) in
          let h = homes is i among data_item in
          let passes : (is_data_item h.at && (home is h.at == h.at.id)) ≡ true = and_from (is_data_item h.at) (home is h.at == h.at.id) h.data_item (eq-eqb _ _ h.itself) in
          omega (arith, ap length h.same, bytes-of_one (λ (j : Item). is_data_item j && (home is j == j.id)) is h.at h.among passes)
    ]

idat_offset-le : (is : List Item) (i : Item) → idat_offset is i ≤ length (idat_body is)
idat_offset-le is i = bytes-more (λ (j : Item). in_idat j && ltb j.id i.id) in_idat is (λ j e. (and_parts _ _ e).0)

extents_fit : (home : Homes) (w end : ℕ) (is : List Item) → end < 256 ^ w → length (idat_body is) ≤ end → ((i : Item) → IsIn i is → has_bytes i.bytes ≡ true → length i.bytes ≤ end)
    → AllByRecursion (IsWrittenExtent home w end is) (with_bytes is)
extents_fit home w end is fits inner each =
    all_where (IsWrittenExtent home w end is) (λ (i : Item). has_bytes i.bytes) is (λ i among some.
    let inner_fits : idat_offset is i < 256 ^ w = omega (arith, idat_offset-le is i, inner, fits) in
    let outer_fits : mdat_offset home end is i < 256 ^ w = omega (arith, fits) in
    record {
      offset = elim (in_idat i) as (λ b. cond b (idat_offset is i) (mdat_offset home end is i) < 256 ^ w) [ true ↦ inner_fits | false ↦ outer_fits ];
      length = omega (arith, fits, each i among some);
    })

-- ---- the whole

le-box_if_any : {A : Type 0} (kind : FourCc) (body : List A → List ℕ) (xs : List A) → body [] ≡ [] → length (body xs) ≤ length (box_if_any kind body xs)
unfolding box_if_any
le-box_if_any kind body [] none = rw none (omega arith)
le-box_if_any kind body (x ∷ xs) none = le-box kind (body (x ∷ xs))

idat-le-front : (s : ItemStore) → length (idat_body s.items) ≤ length (meta_front s)
unfolding meta_front
idat-le-front s = simp length-append (omega (arith, le-box_if_any (four "idat") bytes_in (filter in_idat s.items) (unfold bytes_in in refl)))

groups-le-front : (s : ItemStore) → length (grpl_body s.groups) ≤ length (meta_front s)
unfolding meta_front
groups-le-front s = simp length-append (omega (arith, le-box_if_any (four "grpl") grpl_body s.groups (unfold grpl_body in refl)))

groups-few : (s : ItemStore) → Valid s → length (grpl_body s.groups) < 256 ^ 4
unfolding meta_body_len
groups-few s valid = omega (arith, groups-le-front s, valid.meta, meta_len-is s, le-box_len (meta_body_len 8 s))

-- in a file that is long enough for the bytes of all items
pub written_valid : (home : Homes) → AreHomes home → (w end : ℕ) (s : ItemStore) → Valid s → end < 256 ^ w → end < 256 ^ 8 → length (idat_body s.items) + length (mdat_body home s.items) ≤ end
    → IsWritten home w end s
written_valid home homes w end s valid fits small room =
    let below = ids_below s.items valid.items in
    record {
      minor = valid.brands.minor;
      primary = in_below s.primary (256 ^ id_width (is_wide s.items)) (ids_of s.items) valid.primary below;
      count = count_fits s valid;
      items = items_fit (is_wide s.items) (table_of s) s.items s.items valid.kinds below below valid.items;
      groups = groups_fit s.items s.groups (good_below s.items s.items valid.items) (groups-few s valid) valid.groups;
      extents = extents_fit home w end s.items fits (omega (arith, room)) (λ i among some. omega (arith, room, bytes-placed home homes s.items i among some));
      size = small;
    }

pub lays : (home : Homes) → AreHomes home → (w : ℕ) (s : ItemStore) → Valid s → file_len home w s < 256 ^ w → file_len home w s < 256 ^ 8 → LayBy home s w (laid home w (file_len home w s) s)
unfolding file_len meta_body_len
lays home homes w s valid fits small =
    let len : length (laid home w (file_len home w s) s) ≡ file_len home w s = length-laid home w (file_len home w s) s in
    let room : length (idat_body s.items) + length (mdat_body home s.items) ≤ file_len home w s =
    omega (arith, idat-le-front s, le-box_len (meta_body_len w s), le-box_len (length (mdat_body home s.items)))
    in
    record {
      numbers = rw len (written_valid home homes w (file_len home w s) s valid fits small room);
      bytes = rw len refl;
    }

-- ---- the longest file

pub body_sum-is : (is : List Item) → body_sum is ≡ length (bytes_in is)
unfolding body_sum bytes_in
body_sum-is is = sym (length-flat_map (λ (i : Item). i.bytes) is)

bytes-part : (p : Item → Bool) (is : List Item) → length (bytes_in (filter p is)) ≤ length (bytes_in is)
unfolding bytes_in
bytes-part p [] = omega arith
bytes-part p (i ∷ is) =
    let rest = bytes-part p is in
    elim (cases_Bool (p i)) [
      | inl here ↦ rw here (simp length-append (omega (arith, rest)))
      | inr not_here ↦ rw not_here (simp length-append (omega (arith, rest)))
    ]

pub file_len-bound : (home : Homes) (s : ItemStore) → Valid s → file_len home 8 s < 2 ^ 63
unfolding file_len
file_len-bound home s valid =
    let payload : length (mdat_body home s.items) ≤ body_sum s.items =
    omega (arith, body_sum-is s.items, bytes-part (λ (i : Item). is_data_item i && (home s.items i == i.id)) s.items)
    in
    omega (arith, payload, meta_len-is s, valid.meta, valid.body, valid.brands.within, length-ftyp_body s.brands valid.brands.major, box_len-le (length (ftyp_body s.brands)), box_len-le (length (mdat_body home s.items)))
