-- `ftyp`: FileTypeBox of ISO/IEC 14496-12.
use Rattle.std.specs.Prelude.{◌≡◌, ◌%◌, ◌<◌, ◌^◌, ◌==◌, ℕ, List, ◌++◌, length, Result, Ok, Err, if◌then◌else◌}
use Rattle.hf_base.specs.declared.four.FourCc.{FourCc}
use Rattle.hf_base.specs.declared.fault.ReadRefusal.{ReadRefusal}
use Rattle.hf_base.specs.declared.fault.ReadRefusal.TheVariants.{BadRecord}
use Rattle.hf_base.specs.declared.kinds.TheConstants.{FTYP}
use Rattle.hf_base.specs.Number.{num}
use Rattle.hf_base.specs.Reading.{◌>>=◌, front, front_four}
use Rattle.hf_head.specs.declared.ftyp.Brands.{Brands as BrandsView}

-- the brands of a file: the compatible ones take four bytes each
pub record Brands : Type 0 where
  pub major : FourCc
  pub minor : ℕ
  pub compatible : List ℕ

-- the brands that a view shows
abbrev pub brands_of : BrandsView → Brands
brands_of b = record { major = b.major; minor = b.minor; compatible = b.compatible.now }

-- the body is these brands: the major brand, the minor version, and compatible brands of four bytes each to the end
abbrev pub IsFtyp : List ℕ → Brands → Type 0
IsFtyp body b =
    (length b.major.0 ≡ 4) × (b.minor < 256 ^ 4) × (length b.compatible % 4 ≡ 0)
    × (body ≡ b.major.0 ++ (num b.minor 4 ++ b.compatible))

-- the brands that a body gives, read from left to right, or its fault, in a box at this place
unfoldable pub ftyp_at : ℕ → List ℕ → Result Brands ReadRefusal
ftyp_at at body = do
  major ← front_four (BadRecord FTYP at) body
  minor ← front 4 (BadRecord FTYP at) major.1
  if length minor.1 % 4 == 0 then Ok (record { major = major.0; minor = minor.0; compatible = minor.1 }) else Err (BadRecord FTYP at)

-- the body as it is written
unfoldable pub ftyp_body : Brands → List ℕ
ftyp_body b =
    b.major.0  -- major_brand
    ++ num b.minor 4  -- minor_version
    ++ b.compatible  -- compatible_brands
