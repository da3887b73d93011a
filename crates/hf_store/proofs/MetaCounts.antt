-- `meta` is within its limit exactly where it is so by the counts.
use Rattle.std.proofs.Common.{◌≡◌, ℕ, zero, suc, ◌+◌, ◌*◌, ◌^◌, ◌<◌, ◌≤◌, Bool, true, false, cond, List, [], ◌∷◌, ◌++◌, length, map, refl, sym, ap, ◌∙◌, arith, subst, inl, inr}
use Rattle.std.specs.Prelude.{◌==◌, fold}
use Rattle.std.specs.List.{AllByRecursion, sum_by, flat_map, list_any}
use Rattle.std.proofs.Math.Dec.{eqb-suc-zero}
use Rattle.std.proofs.lemmas.List.Sums.{sum_by-cons}
use Rattle.hf_base.specs.declared.limits.TheConstants as limits
use Rattle.hf_base.specs.declared.loc.RefBox.{RefBox}
use Rattle.hf_box.specs.Head.{box_len, box}
use Rattle.hf_box.specs.Literals.{four}
use Rattle.hf_box.specs.Written.{id_width}
use Rattle.hf_info.specs.Infe.{infe_body}
use Rattle.hf_links.specs.Grpl.{group_body}
use Rattle.hf_links.specs.Iref.{reference_body, reference_box}
use Rattle.hf_store.specs.Counts.{Counts, strings_of, targets_of, counts_of}
use Rattle.hf_store.specs.Layout.{own, is_wide, info_of, all_boxes}
use Rattle.hf_store.specs.Sizes.{infe_size, prop_box_size, group_size, AllRefs, AllProps, IsFourItem, IsFourList, IsFourProp, IsFourGroup, Inner, infes_size, links_size, props_size, groups_size, inner_of, short_props, short_links, short_groups, ipma_size, meta_size_by, AreSizes, IsShortItem, IsShortList, IsShortProp, IsShortGroup, AreFours, counted_inner, counted_meta, long_inner, MetaIsCounted, LongMetaIsCounted, ValidSizesAreCounted, AreBodySizes, ValidBodiesAreCounted}
use Rattle.hf_store.specs.Store.{Prop, Held, RefList, Item, Group, ItemStore}
use Rattle.hf_store.specs.Table.{same_prop, props_of, with_prop, table_of}
use Rattle.hf_store.specs.Valid.{IsFour, IsGoodRef, IsGoodItem, IsGoodGroup, meta_len, Valid}
use Rattle.hf_store.proofs.BoxLengths.{length-box, le-box_len}
use Rattle.hf_store.proofs.CountsAre.{counts_are, sum-zero, sum-one}
use Rattle.hf_store.proofs.FieldLengths.{length-reference_body}
use Rattle.hf_store.proofs.ShortBoxes.{ge-width, infe_body-size, group_body-size, links_size-cons, infes_are_counted, links_are_counted, props_are_counted, groups_are_counted}
use Rattle.hf_store.proofs.Sizes.{meta-counted, bodies_are_counted, sizes_are_counted}

-- ---- all boxes are short where they are few bytes

-- what holds of each where the sum of all has a bound
all_below : {A : Type 0} (f : A → ℕ) (Q P : A → Type 0) (top : ℕ) (xs : List A) → AllByRecursion Q xs → sum_by f xs ≤ top → ((x : A) → Q x → f x ≤ top → P x)
    → AllByRecursion P xs
all_below f Q P top [] good sum each = tt
all_below f Q P top (x ∷ xs) good sum each =
    let both = sum_by-cons f x xs in
    (each x good.0 (omega (arith, both, sum)), all_below f Q P top xs good.1 (omega (arith, both, sum)) each)

pub infes_are_short : (s : ItemStore) → AllByRecursion IsFourItem s.items → 22 + (counts_of s).strings < 256 ^ 4
    → AllByRecursion IsShortItem s.items
unfolding counts_of
infes_are_short s fours few =
    all_below strings_of IsFourItem IsShortItem (sum_by strings_of s.items) s.items fours (omega arith) (λ i kind le. (kind, omega (arith, le, few)))

abbrev FourRefs : Item → Type 0
FourRefs i = AllByRecursion IsFourList i.refs

abbrev ShortRefs : Item → Type 0
ShortRefs i = AllByRecursion IsShortList i.refs

pub links_are_short : (s : ItemStore) → AllRefs IsFourList s.items
    → 14 + (counts_of s).targets * 4 < 256 ^ 4
    → AllRefs IsShortList s.items
unfolding counts_of
links_are_short s fours few =
    let top = sum_by (λ (i : Item). targets_of i.refs) s.items in
    let lists : (rs : List RefList) → AllByRecursion IsFourList rs → targets_of rs ≤ top → AllByRecursion IsShortList rs = λ rs kinds le.
    all_below (λ (r : RefList). length r.to) IsFourList IsShortList top rs kinds le (λ r kind less. (kind, omega (arith, less, few)))
    in
    all_below (λ (i : Item). targets_of i.refs) FourRefs ShortRefs top s.items fours (omega arith) (λ i. lists i.refs)

pub props_are_short : (ps : List Prop) → AllByRecursion IsFourProp ps → short_props ps < 256 ^ 4 → AllByRecursion IsShortProp ps
props_are_short ps fours few =
    all_below (λ (p : Prop). 8 + length p.body) IsFourProp IsShortProp (short_props ps) ps fours (omega arith) (λ p kind le. (kind, omega (arith, le, few)))

abbrev group_bytes : Group → ℕ
group_bytes g = 20 + length g.entities * 4 + length g.tail

group_bytes-sum : (gs : List Group)
    → sum_by group_bytes gs ≡ length gs * 20 + sum_by (λ (g : Group). length g.entities) gs * 4 + sum_by (λ (g : Group). length g.tail) gs
group_bytes-sum [] = omega arith
group_bytes-sum (g ∷ gs) =
    let entities = sum_by-cons (λ (h : Group). length h.entities) g gs in
    omega (arith, sum_by-cons group_bytes g gs, entities, sum_by-cons (λ (h : Group). length h.tail) g gs, group_bytes-sum gs)

pub groups_are_short : (s : ItemStore) → AllByRecursion IsFourGroup s.groups → short_groups (counts_of s) < 256 ^ 4
    → AllByRecursion IsShortGroup s.groups
unfolding counts_of
groups_are_short s fours few =
    let top = sum_by group_bytes s.groups in
    let small : top < 256 ^ 4 = omega (arith, few, group_bytes-sum s.groups, sum-zero s.items, sum-one s.groups) in
    all_below group_bytes IsFourGroup IsShortGroup top s.groups fours (omega arith) (λ g kind le. (kind, omega (arith, le, small)))

-- ---- the same by the boxes as they are laid

infe_fits : (wide : Bool) (i : Item) (top : ℕ) → IsFour i.kind → infe_size wide i ≤ top → 4 + top < 256 ^ 4 → IsShortItem i
infe_fits wide i top kind le small =
    let n = length (infe_body wide (info_of i)) in
    let size = length-box (four "infe") (infe_body wide (info_of i)) refl in
    (kind, omega (arith, le, small, size, le-box_len n, infe_body-size wide i kind, ge-width wide))

infes_fit : (wide : Bool) (is : List Item) (top : ℕ) → AllByRecursion IsFourItem is → infes_size wide is ≤ top → 4 + top < 256 ^ 4
    → AllByRecursion IsShortItem is
infes_fit wide is top fours sum small =
    all_below (infe_size wide) IsFourItem IsShortItem top is fours sum (λ i kind le. infe_fits wide i top kind le small)

-- twice what stands in a reference box has room for ids of four bytes
twice : (wide : Bool) (n : ℕ) → n * 4 ≤ 2 * (n * id_width wide)
twice true n = omega arith
twice false n = omega arith

link_fits : (wide : Bool) (from : ℕ) (r : RefList) (top : ℕ) → IsFour r.kind → length (box r.kind (reference_body wide from r.to)) ≤ top
    → 14 + 2 * top < 256 ^ 4 → IsShortList r
link_fits wide from r top kind le small =
    let n = length (reference_body wide from r.to) in
    let size = length-box r.kind (reference_body wide from r.to) kind in
    (kind, omega (arith, le, small, size, le-box_len n, length-reference_body wide from r.to, twice wide (length r.to)))

links_fit : (wide : Bool) (is : List Item) (top : ℕ) → AllRefs IsFourList is
    → links_size wide is ≤ top → 14 + 2 * top < 256 ^ 4
    → AllRefs IsShortList is
links_fit wide [] top fours sum small = tt
links_fit wide (i ∷ is) top fours sum small =
    let size = links_size-cons wide i is in
    let link : RefList → ℕ = λ r. length (box r.kind (reference_body wide i.id r.to)) in (
      all_below link IsFourList IsShortList top i.refs fours.0 (omega (arith, size, sum)) (λ r kind le. link_fits wide i.id r top kind le small),
      links_fit wide is top fours.1 (omega (arith, size, sum)) small,
    )

props_fit : (ps : List Prop) (top : ℕ) → AllByRecursion IsFourProp ps → props_size ps ≤ top → top < 256 ^ 4 → AllByRecursion IsShortProp ps
props_fit ps top fours sum small =
    all_below prop_box_size IsFourProp IsShortProp top ps fours sum
    (λ p kind le. (kind, omega (arith, le, small, length-box p.kind p.body kind, le-box_len (length p.body))))

groups_fit : (gs : List Group) (top : ℕ) → AllByRecursion IsFourGroup gs → groups_size gs ≤ top → top < 256 ^ 4
    → AllByRecursion IsShortGroup gs
groups_fit gs top fours sum small =
    all_below group_size IsFourGroup IsShortGroup top gs fours sum
    (λ g kind le. (kind, omega (arith, le, small, length-box g.kind (group_body g) kind, le-box_len (length (group_body g)), group_body-size g)))

-- ---- types

pub all_append : {A : Type 0} (P : A → Type 0) (xs ys : List A) → AllByRecursion P xs → AllByRecursion P ys → AllByRecursion P (xs ++ ys)
all_append P [] ys some more = more
all_append P (x ∷ xs) ys some more = (some.0, all_append P xs ys some.1 more)

-- what holds of the properties of all items holds of the table
all_with : (P : Prop → Type 0) (earlier : List Prop) (p : Prop) → AllByRecursion P earlier → P p → AllByRecursion P (with_prop earlier p)
all_with P earlier p all this =
    elim (list_any (same_prop p) earlier) as (λ b. AllByRecursion P (cond b earlier (earlier ++ p ∷ []))) [
      | true ↦ all
      | false ↦ all_append P earlier (p ∷ []) all (this, tt)
    ]

all_folded : (P : Prop → Type 0) (earlier ps : List Prop) → AllByRecursion P earlier → AllByRecursion P ps → AllByRecursion P (fold with_prop earlier ps)
all_folded P earlier [] all more = all
all_folded P earlier (p ∷ ps) all more = all_folded P (with_prop earlier p) ps (all_with P earlier p all more.0) more.1

all_held : (P : Prop → Type 0) (hs : List Held) → AllByRecursion (λ (h : Held). P h.prop) hs → AllByRecursion P (map (λ (h : Held). h.prop) hs)
all_held P [] all = tt
all_held P (h ∷ hs) all = (all.0, all_held P hs all.1)

all_props : (P : Prop → Type 0) (is : List Item) → AllProps P is
    → AllByRecursion P (flat_map props_of is)
all_props P [] all = tt
all_props P (i ∷ is) all = all_append P (props_of i) (flat_map props_of is) (all_held P i.props all.0) (all_props P is all.1)

pub all_in_table : (P : Prop → Type 0) (s : ItemStore) → AllProps P s.items
    → AllByRecursion P (table_of s)
unfolding table_of
all_in_table P s all = all_folded P [] (flat_map props_of s.items) tt (all_props P s.items all)

pub four_table : (s : ItemStore) → AreFours s → AllByRecursion IsFourProp (table_of s)
four_table s fours = all_in_table IsFourProp s fours.props

all_of : {A : Type 0} (Q P : A → Type 0) (xs : List A) → AllByRecursion Q xs → ((x : A) → Q x → P x) → AllByRecursion P xs
all_of Q P [] good each = tt
all_of Q P (x ∷ xs) good each = (each x good.0, all_of Q P xs good.1 each)

-- of items that are good, and groups whose types are
pub good_fours : (s : ItemStore) → AllByRecursion (IsGoodItem s.items) s.items → AllByRecursion IsFourGroup s.groups → AreFours s
good_fours s good groups = record {
  items = all_of (IsGoodItem s.items) IsFourItem s.items good (λ i item. item.kind);
  lists = all_of (IsGoodItem s.items) FourRefs s.items good (λ i item. all_of (IsGoodRef s.items) IsFourList i.refs item.refs (λ r ref. ref.kind));
  props = all_of (IsGoodItem s.items) (λ (i : Item). AllByRecursion (λ (h : Held). IsFour h.prop.kind) i.props) s.items good (λ i item. item.prop_kinds);
  groups = groups;
}

pub valid_fours : (s : ItemStore) → Valid s → AreFours s
valid_fours s valid = good_fours s valid.items (all_of (IsGoodGroup s.items) IsFourGroup s.groups valid.groups (λ g good. good.kind))

-- the lists of items that are good in all else are short
pub lists_are_short : (s : ItemStore) → AllByRecursion (IsGoodItem s.items) s.items → AllRefs IsShortList s.items
lists_are_short s good =
    all_of (IsGoodItem s.items) ShortRefs s.items good
    (λ i item. all_of (IsGoodRef s.items) IsShortList i.refs item.refs (λ r ref. (ref.kind, omega (arith, ref.links))))

-- ---- meta

pub box_holds : (total n : ℕ) → total ≡ box_len n → n ≤ total
box_holds total n e = omega (arith, e, le-box_len n)

-- what stands in a box that is absent where nothing is listed
pub le-if_any : (count n body : ℕ) → n ≤ body → (count ≡ 0 → n ≡ 0) → n ≤ cond (count == 0) 0 (box_len body)
le-if_any zero n body le none = omega (arith, none refl)
le-if_any (suc count) n body le none = subst (λ (b : Bool). n ≤ cond b 0 (box_len body)) (sym (eqb-suc-zero count)) (omega (arith, le, le-box_len body))

-- the boxes inside others are no longer than `meta`
pub record AreWithin (inner : Inner) (top : ℕ) : Type 0 where
  pub infes : inner.infes ≤ top
  pub links : inner.links ≤ top
  pub props : inner.props ≤ top
  pub groups : inner.groups ≤ top

pub within-meta : (wide : Bool) (n : ℕ) (c : Counts) (b : Inner) (total : ℕ) → total ≡ meta_size_by wide 8 n c b → (c.links ≡ 0 → b.links ≡ 0)
    → (c.groups ≡ 0 → b.groups ≡ 0) → AreWithin b total
within-meta wide n c b total is no_links no_groups =
    let meta = box_holds total _ is in
    let iinf = le-box_len (4 + id_width wide + b.infes) in
    let iref = le-if_any c.links b.links (4 + b.links) (omega arith) no_links in
    let ipco = le-box_len b.props in
    let iprp = le-box_len (box_len b.props + ipma_size wide n c) in
    let grpl = le-if_any c.groups b.groups b.groups (omega arith) no_groups in
    record {
      infes = omega (arith, meta, iinf);
      links = omega (arith, meta, iref);
      props = omega (arith, meta, ipco, iprp);
      groups = omega (arith, meta, grpl);
    }

-- ---- nothing where nothing is listed

sum-none : {A : Type 0} (f : A → ℕ) (xs : List A) → length xs ≡ 0 → sum_by f xs ≡ 0
sum-none f [] none = refl
sum-none f (x ∷ xs) none = absurd (omega (arith, none))

no_targets : (is : List Item) → sum_by (λ (i : Item). length i.refs) is ≡ 0 → sum_by (λ (i : Item). targets_of i.refs) is ≡ 0
no_targets [] none = refl
no_targets (i ∷ is) none =
    let links = sum_by-cons (λ (j : Item). length j.refs) i is in
    let here = sum-none (λ (r : RefList). length r.to) i.refs (omega (arith, links, none)) in
    omega (arith, sum_by-cons (λ (j : Item). targets_of j.refs) i is, here, no_targets is (omega (arith, links, none)))

no_links-laid : (s : ItemStore) (wide : Bool) → (counts_of s).links ≡ 0 → links_size wide s.items ≡ 0
no_links-laid s wide none = sum-none (λ (b : RefBox). length (reference_box wide b)) (all_boxes s.items) (omega (arith, none, (counts_are s).links))

no_groups-laid : (s : ItemStore) → (counts_of s).groups ≡ 0 → groups_size s.groups ≡ 0
no_groups-laid s none = sum-none group_size s.groups (omega (arith, none, (counts_are s).groups))

pub no_links-counted : (s : ItemStore) (wide : Bool) → (counts_of s).links ≡ 0 → short_links wide (counts_of s) ≡ 0
unfolding counts_of
no_links-counted s wide none =
    let zero_sum = sum-zero s.groups in
    let of_items = no_targets s.items (omega (arith, none)) in
    let targets : sum_by (λ (i : Item). targets_of i.refs) s.items + sum_by (λ (g : Group). 0) s.groups ≡ 0 = omega (arith, zero_sum, of_items) in
    ap (λ n. n * (10 + id_width wide) + (counts_of s).targets * id_width wide) none ∙ ap (λ n. 0 * (10 + id_width wide) + n * id_width wide) targets
    ∙ omega arith

pub no_groups-counted : (s : ItemStore) → (counts_of s).groups ≡ 0 → short_groups (counts_of s) ≡ 0
unfolding counts_of
no_groups-counted s none =
    let empty : length s.groups ≡ 0 = omega (arith, none, sum-zero s.items, sum-one s.groups) in
    omega (arith, none, sum-zero s.items, sum-none (λ (g : Group). length g.entities) s.groups empty, sum-none (λ (g : Group). length g.tail) s.groups empty)

-- ---- the whole

-- the boxes inside others are short
record AreShort (s : ItemStore) : Type 0 where
  infes : AllByRecursion IsShortItem s.items
  links : AllRefs IsShortList s.items
  props : AllByRecursion IsShortProp (table_of s)
  groups : AllByRecursion IsShortGroup s.groups

inner_is_counted : (s : ItemStore) → AreShort s → inner_of s ≡ counted_inner s
unfolding inner_of
inner_is_counted s short =
    let wide = is_wide s.items in
    let infes = infes_are_counted s wide short.infes in
    let links = links_are_counted s wide short.links in
    rw (infes, links, props_are_counted (table_of s) short.props, groups_are_counted s short.groups) refl

short_as_laid : (s : ItemStore) → AreFours s → meta_len s ≤ limits.META → AreShort s
unfolding inner_of meta_len
short_as_laid s fours small =
    let wide = is_wide s.items in
    let meta = meta-counted s own 8 0 in
    let within = within-meta wide (length (table_of s)) (counts_of s) (inner_of s) (meta_len s) meta (no_links-laid s wide) (no_groups-laid s) in
    record {
      infes = infes_fit wide s.items limits.META fours.items (omega (arith, within.infes, small)) (omega arith);
      links = links_fit wide s.items limits.META fours.lists (omega (arith, within.links, small)) (omega arith);
      props = props_fit (table_of s) limits.META (four_table s fours) (omega (arith, within.props, small)) (omega arith);
      groups = groups_fit s.groups limits.META fours.groups (omega (arith, within.groups, small)) (omega arith);
    }

few_targets : (wide : Bool) (links targets : ℕ) → links * (10 + id_width wide) + targets * id_width wide ≤ limits.META → 14 + targets * 4 < 256 ^ 4
few_targets true links targets few = omega (arith, few)
few_targets false links targets few = omega (arith, few)

short_as_counted : (s : ItemStore) → AreFours s → counted_meta s ≤ limits.META → AreShort s
short_as_counted s fours small =
    let wide = is_wide s.items in
    let c = counts_of s in
    let within = within-meta wide (length (table_of s)) c (counted_inner s) (counted_meta s) refl (no_links-counted s wide) (no_groups-counted s) in
    record {
      infes = infes_are_short s fours.items (omega (arith, within.infes, small));
      links = links_are_short s fours.lists (few_targets wide c.links c.targets (omega (arith, within.links, small)));
      props = props_are_short (table_of s) (four_table s fours) (omega (arith, within.props, small));
      groups = groups_are_short s fours.groups (omega (arith, within.groups, small));
    }

meta_where_short : (s : ItemStore) → AreShort s → (inner_of s ≡ counted_inner s) × (meta_len s ≡ counted_meta s)
unfolding meta_len
meta_where_short s short =
    let inner = inner_is_counted s short in
    (inner, meta-counted s own 8 0 ∙ ap (λ (b : Inner). meta_size_by (is_wide s.items) 8 (length (table_of s)) (counts_of s) b) inner)

pub meta_is_counted : MetaIsCounted
meta_is_counted s fours (inl small) = meta_where_short s (short_as_laid s fours small)
meta_is_counted s fours (inr small) = meta_where_short s (short_as_counted s fours small)

pub long_meta_is_counted : LongMetaIsCounted
unfolding inner_of
long_meta_is_counted s lists props home w file_len =
    let wide = is_wide s.items in
    let inner : inner_of s ≡ long_inner s = rw (links_are_counted s wide lists, props_are_counted (table_of s) (all_in_table IsShortProp s props)) refl in
    meta-counted s home w file_len ∙ ap (λ (b : Inner). meta_size_by wide w (length (table_of s)) (counts_of s) b) inner

pub valid_bodies_are_counted : ValidBodiesAreCounted
valid_bodies_are_counted s valid =
    let inner = (meta_is_counted s (valid_fours s valid) (inl valid.meta)).0 in
    subst (λ (b : Inner). AreBodySizes s (is_wide s.items) (length (table_of s)) (counts_of s) b) inner (bodies_are_counted s)

pub valid_sizes_are_counted : ValidSizesAreCounted
valid_sizes_are_counted s valid =
    let inner = (meta_is_counted s (valid_fours s valid) (inl valid.meta)).0 in
    subst (λ (b : Inner). AreSizes s (is_wide s.items) (length (table_of s)) (counts_of s) b) inner (sizes_are_counted s)
