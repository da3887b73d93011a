-- Items whose bytes are where their places say.
use Rattle.std.specs.Prelude.{◌≡◌, ◌≤◌, ℕ, false, List, length, map, sum, Option, Some}
use Rattle.hf_base.specs.declared.limits.TheConstants.{BODY, PIECES}
use Rattle.hf_base.specs.Located.{Located}
use Rattle.hf_base.specs.Members.{IsIn}
use Rattle.hf_base.specs.BytesOf.{bytes_of}
use Rattle.hf_base.specs.Counts.{leaves_of, size_of, inner_size}
use Rattle.hf_base.specs.LocationFaults.{is_external, has_bad_method, has_zero_length}

-- the item has bytes, in this file and by a known method, and no zero length but that of a whole source
pub record IsPlaced (F : List ℕ) (idat : Option (List ℕ)) (items : List Located) (r : Located) : Type 0 where
  pub here : is_external r ≡ false
  pub known : has_bad_method r ≡ false
  pub whole : has_zero_length r ≡ false
  pub bytes : List ℕ
  pub are : bytes_of F idat items r ≡ Some bytes

-- each item has bytes, and the limits of leaves and of bytes are kept
pub record ArePlaced (F : List ℕ) (idat : Option (List ℕ)) (items : List Located) : Type 0 where
  pub each : (r : Located) → IsIn r items → IsPlaced F idat items r
  pub few : sum (map (leaves_of items) items) ≤ PIECES
  pub small : sum (map (size_of (length F) (inner_size idat) items) items) ≤ BODY
