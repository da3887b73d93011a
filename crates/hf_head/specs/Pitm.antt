-- `pitm`: PrimaryItemBox of ISO/IEC 14496-12.
use Rattle.std.specs.Prelude.{◌≡◌, ◌⊎◌, ◌<◌, ◌^◌, ℕ, zero, suc, Bool, List, ◌++◌, Result, Ok, Err}
use Rattle.hf_base.specs.declared.fault.ReadRefusal.{ReadRefusal}
use Rattle.hf_base.specs.declared.fault.ReadRefusal.TheVariants.{BadRecord, BadVersion}
use Rattle.hf_base.specs.declared.kinds.TheConstants.{PITM}
use Rattle.hf_base.specs.Number.{num}
use Rattle.hf_base.specs.Reading.{◌>>=◌, front, front_full, full}
use Rattle.hf_box.specs.Written.{id_width, id_version}

-- the body names this item: its id takes two bytes in version 0 and four in version 1; the flags, and what follows, are free
abbrev pub IsPitm : List ℕ → ℕ → Type 0
IsPitm body id =
    (flags : ℕ) × (rest : List ℕ) × (flags < 256 ^ 3)
    × (((id < 256 ^ 2) × (body ≡ full 0 flags ++ (num id 2 ++ rest))) ⊎ ((id < 256 ^ 4) × (body ≡ full 1 flags ++ (num id 4 ++ rest))))

-- the id that the bytes behind a version and flags give, or their fault, in a box at this place
unfoldable pub id_at : ℕ → ℕ → List ℕ → Result ℕ ReadRefusal
id_at zero at bytes = do
  id ← front 2 (BadRecord PITM at) bytes
  Ok id.0
id_at (suc zero) at bytes = do
  id ← front 4 (BadRecord PITM at) bytes
  Ok id.0
id_at (suc (suc version)) at bytes = Err (BadVersion PITM at)

-- the id that a body gives, read from left to right, or its fault, in a box at this place
unfoldable pub pitm_at : ℕ → List ℕ → Result ℕ ReadRefusal
pitm_at at body = do
  version ← front_full (BadRecord PITM at) body
  id_at version.0.0 at version.1

-- the body as it is written
unfoldable pub pitm_body : Bool → ℕ → List ℕ
pitm_body wide id =
    full (id_version wide) 0
    ++ num id (id_width wide)  -- item_ID
