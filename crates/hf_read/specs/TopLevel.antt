-- The boxes of a file, and those of its `meta` (ISO/IEC 14496-12: FileTypeBox, MetaBox). Which files are accepted, and
-- the order in which faults are told, is this project's own rule.
use Rattle.std.specs.Prelude.{◌≡◌, ℕ, Bool, false, not, ◌&&◌, ◌||◌, List, [], ◌∷◌, ◌++◌, take, Option, Some, None, Result, Ok, Err, if◌then◌else◌}
use Rattle.std.specs.List.{list_any, find}
use Rattle.std.specs.Option.{option_to_list}
use Rattle.std.specs.Str.{bytes_eq}
use Rattle.hf_base.specs.Entries.{refuse_if}
use Rattle.hf_base.specs.Reading.{◌>>=◌}
use Rattle.hf_base.specs.declared.four.FourCc.{FourCc}
use Rattle.hf_base.specs.declared.fault.ReadRefusal.{ReadRefusal}
use Rattle.hf_base.specs.declared.fault.ReadRefusal.TheVariants.{NoFtyp, NotMif1, Movie, NoMeta, Double, ProtectionBox, Xml, Missing}
use Rattle.hf_base.specs.declared.kinds.TheConstants.{FTYP, META, HDLR, PITM, MOOV, MOOF, IINF, ILOC, IREF, IPRP, GRPL, IDAT, IPRO, XML, BXML, MIF1}
use Rattle.hf_box.specs.Boxes.{BoxAt}
use Rattle.hf_box.specs.Tables.{of_kind}
use Rattle.hf_box.specs.Walk.{children_at, is_kind}
use Rattle.hf_head.specs.Ftyp.{Brands, ftyp_at}

abbrev pub has_kind : FourCc → List BoxAt → Bool
has_kind kind boxes = list_any (λ (b : BoxAt). is_kind b.kind kind) boxes

-- the first box of a type
abbrev pub first_of : FourCc → List BoxAt → Option BoxAt
first_of kind boxes = find (λ (b : BoxAt). is_kind b.kind kind) boxes

-- the type is one of these
abbrev pub is_among : List FourCc → FourCc → Bool
is_among kinds kind = list_any (λ (k : FourCc). is_kind kind k) kinds

abbrev pub found : {A : Type 0} → ReadRefusal → Option A → Result A ReadRefusal
found fault None = Err fault
found fault (Some x) = Ok x

-- the fault of the first box that has one, given the boxes before it
unfoldable pub first_fault : (List BoxAt → BoxAt → Result (Unit {0}) ReadRefusal) → List BoxAt → List BoxAt → Result (Unit {0}) ReadRefusal
first_fault fault before [] = Ok tt
first_fault fault before (b ∷ bs) = do
  none ← fault before b
  first_fault fault (before ++ b ∷ []) bs

-- a box of a type that stands there already, where it may stand once
abbrev pub double_fault : List FourCc → List BoxAt → BoxAt → Result (Unit {0}) ReadRefusal
double_fault once before b = refuse_if (is_among once b.kind && has_kind b.kind before) (Double b.kind b.at)

-- ---- the top level

-- the first box is the only `ftyp`, there is one `meta`, and no `moov` or `moof`
pub record IsTopLevel (boxes : List BoxAt) (ftyp meta : BoxAt) : Type 0 where
  pub first : take 1 boxes ≡ ftyp ∷ []
  pub one_ftyp : of_kind FTYP boxes ≡ ftyp ∷ []
  pub one_meta : of_kind META boxes ≡ meta ∷ []
  pub no_moov : of_kind MOOV boxes ≡ []
  pub no_moof : of_kind MOOF boxes ≡ []

-- the types of which a file has one box
abbrev pub top_once : List FourCc
top_once = FTYP ∷ META ∷ []

abbrev pub movie_fault : BoxAt → Result (Unit {0}) ReadRefusal
movie_fault b = refuse_if (is_kind b.kind MOOV || is_kind b.kind MOOF) (Movie b.at)

-- a box of the top level behind those before it: a movie, or a second `ftyp` or `meta`
abbrev pub top_box_fault : List BoxAt → BoxAt → Result (Unit {0}) ReadRefusal
top_box_fault before b = do
  none ← movie_fault b
  double_fault top_once before b

-- the first box, which must be `ftyp`
abbrev pub ftyp_of : List BoxAt → Result BoxAt ReadRefusal
ftyp_of [] = Err NoFtyp
ftyp_of (b ∷ bs) = if is_kind b.kind FTYP then Ok b else Err NoFtyp

-- a brand is among those that take four bytes each
unfoldable pub has_brand : List ℕ → List ℕ → Bool
has_brand brand (a ∷ b ∷ c ∷ d ∷ rest) = bytes_eq (a ∷ b ∷ c ∷ d ∷ []) brand || has_brand brand rest
has_brand brand _ = false

-- `mif1` is the major or a compatible brand
abbrev pub has_mif1 : Brands → Bool
has_mif1 b = is_kind b.major MIF1 || has_brand MIF1.0 b.compatible

-- the brands of the file
unfoldable pub brands_at : List BoxAt → Result Brands ReadRefusal
brands_at boxes = do
  ftyp ← ftyp_of boxes
  brands ← ftyp_at ftyp.at ftyp.body
  named ← refuse_if (not (has_mif1 brands)) NotMif1
  Ok brands

-- the brands, and the `meta`
unfoldable pub top_of : List BoxAt → Result (Brands × BoxAt) ReadRefusal
top_of boxes = do
  brands ← brands_at boxes
  once ← first_fault top_box_fault [] boxes
  meta ← found NoMeta (first_of META boxes)
  Ok (brands, meta)

-- the `meta`, of boxes whose first one is good
unfoldable pub meta_of : List BoxAt → Result BoxAt ReadRefusal
meta_of boxes = do
  once ← first_fault top_box_fault [] boxes
  found NoMeta (first_of META boxes)

-- ---- the boxes of meta

-- the boxes of `meta` that are read
pub record Parts : Type 0 where
  pub hdlr : BoxAt
  pub pitm : BoxAt
  pub iinf : BoxAt
  pub iloc : Option BoxAt
  pub iref : Option BoxAt
  pub iprp : Option BoxAt
  pub grpl : Option BoxAt
  pub idat : Option BoxAt

-- one `hdlr`, `pitm` and `iinf`, at most one of each other box that is read, and no `ipro`, `xml ` or `bxml`
pub record AreParts (children : List BoxAt) (parts : Parts) : Type 0 where
  pub hdlr : of_kind HDLR children ≡ parts.hdlr ∷ []
  pub pitm : of_kind PITM children ≡ parts.pitm ∷ []
  pub iinf : of_kind IINF children ≡ parts.iinf ∷ []
  pub iloc : of_kind ILOC children ≡ option_to_list parts.iloc
  pub iref : of_kind IREF children ≡ option_to_list parts.iref
  pub iprp : of_kind IPRP children ≡ option_to_list parts.iprp
  pub grpl : of_kind GRPL children ≡ option_to_list parts.grpl
  pub idat : of_kind IDAT children ≡ option_to_list parts.idat
  pub no_ipro : of_kind IPRO children ≡ []
  pub no_xml : of_kind XML children ≡ []
  pub no_bxml : of_kind BXML children ≡ []

-- the types of which `meta` has at most one box
abbrev pub once : List FourCc
once = HDLR ∷ PITM ∷ IINF ∷ ILOC ∷ IREF ∷ IPRP ∷ GRPL ∷ IDAT ∷ []

abbrev pub banned_fault : BoxAt → Result (Unit {0}) ReadRefusal
banned_fault b = do
  protection ← refuse_if (is_kind b.kind IPRO) (ProtectionBox b.at)
  refuse_if (is_kind b.kind XML || is_kind b.kind BXML) (Xml b.at)

-- a box in `meta` behind those before it: one that is not accepted, or a second one
abbrev pub child_fault : List BoxAt → BoxAt → Result (Unit {0}) ReadRefusal
child_fault before b = do
  none ← banned_fault b
  double_fault once before b

-- the boxes in `meta` that are read: the fault of the first that has one, then a box that is missing
unfoldable pub parts_of : List BoxAt → Result Parts ReadRefusal
parts_of children = do
  none ← first_fault child_fault [] children
  hdlr ← found (Missing HDLR) (first_of HDLR children)
  pitm ← found (Missing PITM) (first_of PITM children)
  iinf ← found (Missing IINF) (first_of IINF children)
  Ok (record {
    hdlr = hdlr;
    pitm = pitm;
    iinf = iinf;
    iloc = first_of ILOC children;
    iref = first_of IREF children;
    iprp = first_of IPRP children;
    grpl = first_of GRPL children;
    idat = first_of IDAT children;
  })

-- these boxes of the types that `meta` must have, and the others of its boxes that are read
abbrev pub parts_with : List BoxAt → BoxAt → BoxAt → BoxAt → Parts
parts_with children hdlr pitm iinf = record {
  hdlr = hdlr;
  pitm = pitm;
  iinf = iinf;
  iloc = first_of ILOC children;
  iref = first_of IREF children;
  iprp = first_of IPRP children;
  grpl = first_of GRPL children;
  idat = first_of IDAT children;
}

-- the boxes that are read of the `meta` among boxes whose first one is good
unfoldable pub inner_parts : List BoxAt → Result Parts ReadRefusal
inner_parts boxes = do
  meta ← meta_of boxes
  children ← children_at meta
  parts_of children
