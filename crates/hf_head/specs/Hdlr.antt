-- `hdlr`: HandlerBox of ISO/IEC 14496-12.
use Rattle.std.specs.Prelude.{◌≡◌, ◌<◌, ◌^◌, ℕ, List, [], ◌++◌, length, Result, Ok, Err, if◌then◌else◌}
use Rattle.hf_base.specs.declared.four.FourCc.{FourCc}
use Rattle.hf_base.specs.declared.fault.ReadRefusal.{ReadRefusal}
use Rattle.hf_base.specs.declared.fault.ReadRefusal.TheVariants.{BadRecord, NotPicture}
use Rattle.hf_base.specs.declared.kinds.TheConstants.{HDLR, PICT}
use Rattle.hf_base.specs.Number.{num}
use Rattle.hf_base.specs.Reading.{◌>>=◌, front, front_four, front_full, full}
use Rattle.hf_box.specs.Literals.{four}
use Rattle.hf_box.specs.Walk.{is_kind}
use Rattle.hf_box.specs.Written.{zero_ended}

-- the fields of the body in front of its name
pub record Fields : Type 0 where
  pub version : ℕ
  pub flags : ℕ
  pub pre_defined : ℕ
  pub reserved_0 : ℕ
  pub reserved_1 : ℕ
  pub reserved_2 : ℕ

pub record Fit (f : Fields) : Type 0 where
  pub version : f.version < 256 ^ 1
  pub flags : f.flags < 256 ^ 3
  pub pre_defined : f.pre_defined < 256 ^ 4
  pub reserved_0 : f.reserved_0 < 256 ^ 4
  pub reserved_1 : f.reserved_1 < 256 ^ 4
  pub reserved_2 : f.reserved_2 < 256 ^ 4

-- the body has a handler of this type; the fields besides, and the name, are free
abbrev pub HasHandler : List ℕ → FourCc → Type 0
HasHandler body handler =
    (f : Fields) × (name : List ℕ) × Fit f × (length handler.0 ≡ 4)
    × (body ≡ full f.version f.flags ++ (num f.pre_defined 4 ++ (handler.0 ++ (num f.reserved_0 4 ++ (num f.reserved_1 4 ++ (num f.reserved_2 4 ++ name))))))

-- the body has the handler of pictures (ISO/IEC 23008-12)
abbrev pub IsHdlr : List ℕ → Type 0
IsHdlr body = HasHandler body PICT

-- the handler type that a body gives, read from left to right, or its fault, in a box at this place
unfoldable pub handler_at : ℕ → List ℕ → Result FourCc ReadRefusal
handler_at at body = do
  version ← front_full (BadRecord HDLR at) body
  pre_defined ← front 4 (BadRecord HDLR at) version.1
  handler ← front_four (BadRecord HDLR at) pre_defined.1
  reserved_0 ← front 4 (BadRecord HDLR at) handler.1
  reserved_1 ← front 4 (BadRecord HDLR at) reserved_0.1
  reserved_2 ← front 4 (BadRecord HDLR at) reserved_1.1
  Ok handler.0

-- whether a body has the handler of pictures, or its fault
unfoldable pub hdlr_at : ℕ → List ℕ → Result (Unit {0}) ReadRefusal
hdlr_at at body = do
  handler ← handler_at at body
  if is_kind handler PICT then Ok tt else Err NotPicture

-- the body as it is written
unfoldable pub hdlr_body : List ℕ
hdlr_body =
    full 0 0
    ++ num 0 4  -- pre_defined
    ++ (four "pict").0  -- handler_type
    ++ num 0 4  -- reserved
    ++ num 0 4  -- reserved
    ++ num 0 4  -- reserved
    ++ zero_ended []  -- name
