-- How long the boxes of a canonical file are, told by counts.
use Rattle.std.specs.Prelude.{◌≡◌, ◌⊎◌, ◌+◌, ◌*◌, ◌^◌, ◌<◌, ◌≤◌, ◌==◌, ℕ, Bool, List, length, filter, nat_lt, if◌then◌else◌}
use Rattle.std.specs.List.{AllByRecursion, sum_by}
use Rattle.hf_base.specs.declared.limits.TheConstants as limits
use Rattle.hf_base.specs.declared.loc.RefBox.{RefBox}
use Rattle.hf_box.specs.Head.{box_len, box}
use Rattle.hf_box.specs.Literals.{four}
use Rattle.hf_box.specs.Written.{bit, id_width}
use Rattle.hf_head.specs.Ftyp.{Brands, ftyp_body}
use Rattle.hf_info.specs.Infe.{infe_box}
use Rattle.hf_info.specs.Iinf.{iinf_body}
use Rattle.hf_links.specs.Grpl.{group_box, grpl_body}
use Rattle.hf_links.specs.Iref.{reference_box, iref_body}
use Rattle.hf_loc.specs.Iloc.{iloc_body}
use Rattle.hf_prop.specs.Ipma.{ipma_body}
use Rattle.hf_prop.specs.Iprp.{is_long_table, ipco_body, iprp_body}
use Rattle.hf_store.specs.Counts.{Counts, strings_of, counts_of}
use Rattle.hf_store.specs.Layout.{Homes, own, is_wide, info_of, infos_of, all_boxes, assocs_of, iprp_of, in_idat, bytes_in, idat_body, entries_of, box_if_any, mdat_body, meta_body, laid}
use Rattle.hf_store.specs.Store.{Prop, Held, RefList, Item, Group, ItemStore}
use Rattle.hf_store.specs.Table.{table_of}
use Rattle.hf_store.specs.Valid.{IsFour, meta_len, Valid}
-- the bytes of the boxes inside `iinf`, `iref`, `ipco` and `grpl`, headers included
pub use Rattle.hf_store.specs.declared.size.Inner.{Inner}

-- ---- the boxes inside others

abbrev pub infe_size : Bool → Item → ℕ
infe_size wide i = length (infe_box wide (info_of i))

abbrev pub infes_size : Bool → List Item → ℕ
infes_size wide is = sum_by (infe_size wide) is

abbrev pub links_size : Bool → List Item → ℕ
links_size wide is = sum_by (λ (b : RefBox). length (reference_box wide b)) (all_boxes is)

abbrev pub prop_box_size : Prop → ℕ
prop_box_size p = length (box p.kind p.body)

abbrev pub props_size : List Prop → ℕ
props_size ps = sum_by prop_box_size ps

abbrev pub group_size : Group → ℕ
group_size g = length (group_box g)

abbrev pub groups_size : List Group → ℕ
groups_size gs = sum_by group_size gs

-- those of a store, as they are laid, whatever their headers
unfoldable pub inner_of : ItemStore → Inner
inner_of s = record {
  infes = infes_size (is_wide s.items) s.items;
  links = links_size (is_wide s.items) s.items;
  props = props_size (table_of s);
  groups = groups_size s.groups;
}

-- the bytes of the boxes of these properties, where each has a header of eight bytes
abbrev pub short_props : List Prop → ℕ
short_props ps = sum_by (λ (p : Prop). 8 + length p.body) ps

abbrev pub short_infes : Bool → Counts → ℕ
short_infes wide c = c.items * (18 + id_width wide) + c.strings

abbrev pub short_links : Bool → Counts → ℕ
short_links wide c = c.links * (10 + id_width wide) + c.targets * id_width wide

abbrev pub short_groups : Counts → ℕ
short_groups c = c.groups * 20 + c.entities * 4 + c.tails

-- the same by counts, and by the bytes of the boxes of properties, where each inner box has a header of eight bytes
abbrev pub short_inner : Bool → ℕ → Counts → Inner
short_inner wide props c = record {
  infes = short_infes wide c;
  links = short_links wide c;
  props = props;
  groups = short_groups c;
}

-- ---- the boxes of the file

-- `wide`: ids take four bytes; n: distinct properties; w: bytes of offsets and lengths
abbrev pub iinf_body_size : Bool → Inner → ℕ
iinf_body_size wide inner = 4 + id_width wide + inner.infes

abbrev pub iinf_size : Bool → Inner → ℕ
iinf_size wide inner = box_len (iinf_body_size wide inner)

abbrev pub iref_body_size : Inner → ℕ
iref_body_size inner = 4 + inner.links

-- absent without references
abbrev pub iref_size : Counts → Inner → ℕ
iref_size c inner = if c.links == 0 then 0 else box_len (iref_body_size inner)

abbrev pub ipco_size : Inner → ℕ
ipco_size inner = box_len inner.props

-- associations take two bytes where more than 127 properties are distinct
abbrev pub ipma_body_size : Bool → ℕ → Counts → ℕ
ipma_body_size wide n c = 8 + c.holders * (1 + id_width wide) + c.picks * (1 + bit (nat_lt 127 n))

abbrev pub ipma_size : Bool → ℕ → Counts → ℕ
ipma_size wide n c = box_len (ipma_body_size wide n c)

abbrev pub iprp_body_size : Bool → ℕ → Counts → Inner → ℕ
iprp_body_size wide n c inner = ipco_size inner + ipma_size wide n c

abbrev pub iprp_size : Bool → ℕ → Counts → Inner → ℕ
iprp_size wide n c inner = box_len (iprp_body_size wide n c inner)

-- absent without groups
abbrev pub grpl_size : Counts → Inner → ℕ
grpl_size c inner = if c.groups == 0 then 0 else box_len inner.groups

-- absent without bytes
abbrev pub idat_size : Counts → ℕ
idat_size c = if c.idat == 0 then 0 else box_len c.idat

abbrev pub iloc_body_size : Bool → ℕ → Counts → ℕ
iloc_body_size wide w c = 6 + id_width wide + c.located * (6 + id_width wide + (w + w))

abbrev pub iloc_size : Bool → ℕ → Counts → ℕ
iloc_size wide w c = box_len (iloc_body_size wide w c)

-- version and flags, `hdlr`, `pitm`, and the others
abbrev pub meta_body_size : Bool → ℕ → ℕ → Counts → Inner → ℕ
meta_body_size wide w n c inner =
    (4 + 33 + (12 + id_width wide))
    + iinf_size wide inner
    + iref_size c inner
    + iprp_size wide n c inner
    + grpl_size c inner
    + idat_size c
    + iloc_size wide w c

abbrev pub meta_size_by : Bool → ℕ → ℕ → Counts → Inner → ℕ
meta_size_by wide w n c inner = box_len (meta_body_size wide w n c inner)

abbrev pub mdat_size : Counts → ℕ
mdat_size c = box_len c.mdat

abbrev pub ftyp_size : Brands → ℕ
ftyp_size b = box_len (8 + length b.compatible)

-- the whole file
abbrev pub file_size_by : Bool → ℕ → ℕ → Brands → Counts → Inner → ℕ
file_size_by wide w n brands c inner = ftyp_size brands + meta_size_by wide w n c inner + mdat_size c

-- ---- laws

-- these are the lengths of the boxes that are laid
pub record AreSizes (s : ItemStore) (wide : Bool) (n : ℕ) (c : Counts) (b : Inner) : Type 0 where
  pub iinf : length (box (four "iinf") (iinf_body wide (infos_of s.items))) ≡ iinf_size wide b
  pub iref : length (box_if_any (four "iref") (iref_body wide) (all_boxes s.items)) ≡ iref_size c b
  pub ipco : length (box (four "ipco") (ipco_body (table_of s))) ≡ ipco_size b
  pub ipma : length (box (four "ipma") (ipma_body wide (is_long_table (table_of s)) (assocs_of (table_of s) s.items))) ≡ ipma_size wide n c
  pub iprp : length (box (four "iprp") (iprp_body wide (iprp_of s))) ≡ iprp_size wide n c b
  pub grpl : length (box_if_any (four "grpl") grpl_body s.groups) ≡ grpl_size c b
  pub idat : length (box_if_any (four "idat") bytes_in (filter in_idat s.items)) ≡ idat_size c
  pub iloc : (home : Homes) (w file_len : ℕ) → length (box (four "iloc") (iloc_body wide w (entries_of home file_len s.items))) ≡ iloc_size wide w c
  pub meta : (home : Homes) (w file_len : ℕ) → length (box (four "meta") (meta_body home w file_len s)) ≡ meta_size_by wide w n c b
  pub mdat : length (box (four "mdat") (mdat_body own s.items)) ≡ mdat_size c
  pub ftyp : IsFour s.brands.major → length (box (four "ftyp") (ftyp_body s.brands)) ≡ ftyp_size s.brands
  pub file : (w file_len : ℕ) → IsFour s.brands.major → length (laid own w file_len s) ≡ file_size_by wide w n s.brands c b

-- and these those of their bodies
pub record AreBodySizes (s : ItemStore) (wide : Bool) (n : ℕ) (c : Counts) (b : Inner) : Type 0 where
  pub iinf : length (iinf_body wide (infos_of s.items)) ≡ iinf_body_size wide b
  pub iref : length (iref_body wide (all_boxes s.items)) ≡ iref_body_size b
  pub ipco : length (ipco_body (table_of s)) ≡ b.props
  pub ipma : length (ipma_body wide (is_long_table (table_of s)) (assocs_of (table_of s) s.items)) ≡ ipma_body_size wide n c
  pub iprp : length (iprp_body wide (iprp_of s)) ≡ iprp_body_size wide n c b
  pub grpl : length (grpl_body s.groups) ≡ b.groups
  pub idat : length (idat_body s.items) ≡ c.idat
  pub iloc : (home : Homes) (w file_len : ℕ) → length (iloc_body wide w (entries_of home file_len s.items)) ≡ iloc_body_size wide w c
  pub meta : (home : Homes) (w file_len : ℕ) → length (meta_body home w file_len s) ≡ meta_body_size wide w n c b
  pub mdat : length (mdat_body own s.items) ≡ c.mdat
  pub ftyp : IsFour s.brands.major → length (ftyp_body s.brands) ≡ 8 + length s.brands.compatible

-- of any store, valid or not, whatever the headers of the boxes inside others
abbrev pub SizesAreCounted : Type 0
SizesAreCounted = (s : ItemStore) → AreSizes s (is_wide s.items) (length (table_of s)) (counts_of s) (inner_of s)

abbrev pub BodiesAreCounted : Type 0
BodiesAreCounted = (s : ItemStore) → AreBodySizes s (is_wide s.items) (length (table_of s)) (counts_of s) (inner_of s)

-- ---- what holds of all

-- of the reference lists of these items
abbrev pub AllRefs : (RefList → Type 0) → List Item → Type 0
AllRefs P is = AllByRecursion (λ (i : Item). AllByRecursion P i.refs) is

-- of their properties
abbrev pub AllProps : (Prop → Type 0) → List Item → Type 0
AllProps P is = AllByRecursion (λ (i : Item). AllByRecursion (λ (h : Held). P h.prop) i.props) is

abbrev pub IsFourItem : Item → Type 0
IsFourItem i = IsFour i.kind

abbrev pub IsFourList : RefList → Type 0
IsFourList r = IsFour r.kind

abbrev pub IsFourProp : Prop → Type 0
IsFourProp p = IsFour p.kind

abbrev pub IsFourGroup : Group → Type 0
IsFourGroup g = IsFour g.kind

-- ---- inner boxes with headers of eight bytes

-- whether ids take two bytes or four
abbrev pub IsShortItem : Item → Type 0
IsShortItem i = IsFour i.kind × (22 + strings_of i < 256 ^ 4)

abbrev pub IsShortList : RefList → Type 0
IsShortList r = IsFour r.kind × (14 + length r.to * 4 < 256 ^ 4)

abbrev pub IsShortProp : Prop → Type 0
IsShortProp p = IsFour p.kind × (8 + length p.body < 256 ^ 4)

abbrev pub IsShortGroup : Group → Type 0
IsShortGroup g = IsFour g.kind × (20 + length g.entities * 4 + length g.tail < 256 ^ 4)

-- each sum follows from the counts where its boxes are short, whatever the others are
abbrev pub InfesAreCounted : Type 0
InfesAreCounted = (s : ItemStore) (wide : Bool) → AllByRecursion IsShortItem s.items → infes_size wide s.items ≡ short_infes wide (counts_of s)

abbrev pub LinksAreCounted : Type 0
LinksAreCounted =
    (s : ItemStore) (wide : Bool) → AllRefs IsShortList s.items → links_size wide s.items ≡ short_links wide (counts_of s)

abbrev pub PropsAreCounted : Type 0
PropsAreCounted = (ps : List Prop) → AllByRecursion IsShortProp ps → props_size ps ≡ short_props ps

abbrev pub GroupsAreCounted : Type 0
GroupsAreCounted = (s : ItemStore) → AllByRecursion IsShortGroup s.groups → groups_size s.groups ≡ short_groups (counts_of s)

-- the types of items, references, properties and groups have four bytes
pub record AreFours (s : ItemStore) : Type 0 where
  pub items : AllByRecursion IsFourItem s.items
  pub lists : AllRefs IsFourList s.items
  pub props : AllProps IsFourProp s.items
  pub groups : AllByRecursion IsFourGroup s.groups

-- those of a store, by its counts
abbrev pub counted_inner : ItemStore → Inner
counted_inner s = short_inner (is_wide s.items) (short_props (table_of s)) (counts_of s)

-- and the length of its `meta` with offsets of eight bytes
abbrev pub counted_meta : ItemStore → ℕ
counted_meta s = meta_size_by (is_wide s.items) 8 (length (table_of s)) (counts_of s) (counted_inner s)

-- where `meta` is within its limit, as it is or by the counts, all of them are short, and so it is both or neither
abbrev pub MetaIsCounted : Type 0
MetaIsCounted =
    (s : ItemStore) → AreFours s → (meta_len s ≤ limits.META) ⊎ (counted_meta s ≤ limits.META) → (inner_of s ≡ counted_inner s) × (meta_len s ≡ counted_meta s)

-- the same for a longer `meta`: entries of `iinf` and groups as they are, the others by the counts
abbrev pub long_inner : ItemStore → Inner
long_inner s = record {
  infes = infes_size (is_wide s.items) s.items;
  links = short_links (is_wide s.items) (counts_of s);
  props = short_props (table_of s);
  groups = groups_size s.groups;
}

-- its length, where all reference lists and properties are short
abbrev pub LongMetaIsCounted : Type 0
LongMetaIsCounted =
    (s : ItemStore) → AllRefs IsShortList s.items → AllProps IsShortProp s.items
    → (home : Homes) (w file_len : ℕ)
    → length (box (four "meta") (meta_body home w file_len s)) ≡ meta_size_by (is_wide s.items) w (length (table_of s)) (counts_of s) (long_inner s)

-- in a valid store all lengths follow from the counts, the number of distinct properties, and the bytes of their
-- boxes
abbrev pub ValidSizesAreCounted : Type 0
ValidSizesAreCounted = (s : ItemStore) → Valid s → AreSizes s (is_wide s.items) (length (table_of s)) (counts_of s) (counted_inner s)

abbrev pub ValidBodiesAreCounted : Type 0
ValidBodiesAreCounted = (s : ItemStore) → Valid s → AreBodySizes s (is_wide s.items) (length (table_of s)) (counts_of s) (counted_inner s)

-- each count of a valid store is within the limits of bytes
pub record AreFew (c : Counts) : Type 0 where
  pub items : c.items ≤ limits.ITEMS
  pub located : c.located ≤ limits.ITEMS
  pub wide : c.wide ≤ limits.ITEMS
  pub holders : c.holders ≤ limits.ITEMS
  pub strings : c.strings ≤ limits.META
  pub links : c.links ≤ limits.META
  pub targets : c.targets ≤ limits.META
  pub picks : c.picks ≤ limits.META
  pub idat : c.idat ≤ limits.META
  pub body : c.idat + c.mdat ≤ limits.BODY
  pub groups : c.groups ≤ limits.META
  pub entities : c.entities ≤ limits.META
  pub tails : c.tails ≤ limits.META

-- and so are the bytes of the boxes of its properties
abbrev pub CountsAreFew : Type 0
CountsAreFew = (s : ItemStore) → Valid s → AreFew (counts_of s) × (short_props (table_of s) ≤ limits.META)
