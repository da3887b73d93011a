-- `infe`: ItemInfoEntry of ISO/IEC 14496-12, versions 2 and 3.
use Rattle.std.specs.Prelude.{◌≡◌, ◌≢◌, ◌⊎◌, ◌<◌, ◌^◌, ◌%◌, ◌+◌, ℕ, Bool, not, List, [], ◌++◌, length, map, ◌==◌, Result, Ok, if◌then◌else◌}
use Rattle.hf_base.specs.Number.{num}
use Rattle.hf_base.specs.Reading.{◌>>=◌, front, front_four, front_full, full}
use Rattle.hf_base.specs.Entries.{HasNoZero, IsIdWidth, id_width_at, refuse_if}
use Rattle.hf_base.specs.declared.four.FourCc.{FourCc}
use Rattle.hf_base.specs.declared.fault.ReadRefusal.{ReadRefusal}
use Rattle.hf_base.specs.declared.fault.ReadRefusal.TheVariants.{BadRecord, BadVersion, ZeroId, Protected}
use Rattle.hf_base.specs.declared.kinds.TheConstants.{INFE, MIME, URI}
use Rattle.hf_box.specs.Head.{box}
use Rattle.hf_box.specs.Walk.{is_kind}
use Rattle.hf_box.specs.Written.{bit, id_width, zero_ended}
use Rattle.hf_info.specs.Texts.{IsText, AreTwoTexts, text_at, behind_text, zero_ended_if_any}
use Rattle.hf_info.specs.declared.infe.Info.{Info as InfoView}

-- what an `infe` says of its item
pub record Info : Type 0 where
  pub id : ℕ
  pub kind : FourCc
  pub hidden : Bool
  pub name : List ℕ
  pub content : List ℕ
  pub encoding : List ℕ
  pub uri : List ℕ

-- the entry that a view shows
abbrev pub info_of : InfoView → Info
info_of i = record {
  id = i.id;
  kind = i.kind;
  hidden = i.hidden;
  name = i.name.now;
  content = i.content.now;
  encoding = i.encoding.now;
  uri = i.uri.now;
}

abbrev pub infos_of : List InfoView → List Info
infos_of infos = map info_of infos

-- content type and content encoding stand behind the name of a `mime`, and of no other type
abbrev pub IsMime : Info → List ℕ → Type 0
IsMime info bytes =
    ((info.kind ≡ MIME) × AreTwoTexts bytes info.content info.encoding)
    ⊎ ((info.kind ≢ MIME) × (info.content ≡ []) × (info.encoding ≡ []))

-- the URI type stands behind the name of a `uri `, and of no other type
abbrev pub IsUri : Info → List ℕ → Type 0
IsUri info bytes =
    ((info.kind ≡ URI) × (rest : List ℕ) × IsText bytes info.uri rest)
    ⊎ ((info.kind ≢ URI) × (info.uri ≡ []))

-- the body says this of an item: the id takes two bytes in version 2 and four in version 3, the protection index is 0,
-- flag 1 is the hidden mark of ISO/IEC 23008-12; the other flags, and what follows the strings, are free
pub record IsInfe (body : List ℕ) (info : Info) : Type 0 where
  pub version : ℕ
  pub flags : ℕ
  pub flags_fit : flags < 256 ^ 3
  pub width : ℕ
  pub versioned : IsIdWidth 2 version width
  pub strings : List ℕ
  pub is : body ≡ full version flags ++ (num info.id width ++ (num 0 2 ++ (info.kind.0 ++ strings)))
  pub hidden : info.hidden ≡ (flags % 2 == 1)
  pub some : 0 < info.id
  pub id_fits : info.id < 256 ^ width
  pub kind : length info.kind.0 ≡ 4
  pub more : List ℕ
  pub name : IsText strings info.name more
  pub mime : IsMime info more
  pub uri : IsUri info more

-- what an entry can say: an id that is not 0, strings without a zero byte, and only the strings that its type has
pub record IsGoodInfo (info : Info) : Type 0 where
  pub some : 0 < info.id
  pub id : info.id < 256 ^ 4
  pub kind : length info.kind.0 ≡ 4
  pub name : HasNoZero info.name
  pub content : HasNoZero info.content
  pub encoding : HasNoZero info.encoding
  pub uri : HasNoZero info.uri
  pub only_mime : (info.kind ≡ MIME) ⊎ ((info.content ≡ []) × (info.encoding ≡ []))
  pub only_uri : (info.kind ≡ URI) ⊎ (info.uri ≡ [])

-- ---- the same, read from left to right

-- an entry with these flags, this id and this type, and these bytes behind its type
abbrev pub info_with : ℕ → ℕ → FourCc → List ℕ → Info
info_with flags id kind strings = record {
  id = id;
  kind = kind;
  hidden = flags % 2 == 1;
  name = text_at strings;
  content = if is_kind kind MIME then text_at (behind_text strings) else [];
  encoding = if is_kind kind MIME then text_at (behind_text (behind_text strings)) else [];
  uri = if is_kind kind URI then text_at (behind_text strings) else [];
}

-- the fields behind the version and these flags, with an id of this width
abbrev pub fields_at : ℕ → ℕ → ℕ → List ℕ → Result Info ReadRefusal
fields_at at flags width bytes = do
  id ← front width (BadRecord INFE at) bytes
  protection ← front 2 (BadRecord INFE at) id.1
  kind ← front_four (BadRecord INFE at) protection.1
  some ← refuse_if (id.0 == 0) (ZeroId at)
  open_bytes ← refuse_if (not (protection.0 == 0)) (Protected id.0)
  Ok (info_with flags id.0 kind.0 kind.1)

-- what a body says of its item, or its fault, in a box at this place
unfoldable pub infe_at : ℕ → List ℕ → Result Info ReadRefusal
infe_at at body = do
  version ← front_full (BadRecord INFE at) body
  width ← id_width_at 2 (BadVersion INFE at) version.0.0
  fields_at at version.0.1 width version.1

-- ---- the body as it is written

-- the versions that have ids of this width
abbrev pub infe_version : Bool → ℕ
infe_version wide = if wide then 3 else 2

-- the strings of a `mime` behind its name
abbrev pub content_text : Info → List ℕ
content_text info = if is_kind info.kind MIME then zero_ended info.content ++ zero_ended_if_any info.encoding else []

-- the URI of a `uri ` behind its name
abbrev pub uri_text : Info → List ℕ
uri_text info = if is_kind info.kind URI then zero_ended info.uri else []

-- flag 1 is the hidden mark
unfoldable pub infe_body : Bool → Info → List ℕ
infe_body wide info =
    full (infe_version wide) (bit info.hidden)
    ++ num info.id (id_width wide)  -- item_ID
    ++ num 0 2  -- item_protection_index
    ++ info.kind.0  -- item_type
    ++ zero_ended info.name  -- item_name
    ++ content_text info  -- content_type, content_encoding
    ++ uri_text info  -- item_uri_type

abbrev pub infe_box : Bool → Info → List ℕ
infe_box wide info = box INFE (infe_body wide info)

-- the header of a box of this size, and the fields in front of the strings
unfoldable pub infe_front : Bool → ℕ → Info → List ℕ
infe_front wide size info =
    num size 4
    ++ INFE.0
    ++ full (infe_version wide) (bit info.hidden)
    ++ num info.id (id_width wide)  -- item_ID
    ++ num 0 2  -- item_protection_index
    ++ info.kind.0  -- item_type

-- the entry can be written with ids of this width
pub record IsWritable (wide : Bool) (info : Info) : Type 0 where
  pub good : IsGoodInfo info
  pub id_fits : info.id < 256 ^ id_width wide
  pub size : 16 + length (infe_body wide info) < 256 ^ 8
