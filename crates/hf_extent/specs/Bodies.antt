-- The bytes of items, as pieces.
use Rattle.std.specs.Prelude.{◌≡◌, ℕ, List, map, Option, Some}
use Rattle.hf_base.specs.Located.{Located}
use Rattle.hf_base.specs.BytesOf.{bytes_of}
use Rattle.hf_pieces.specs.Bytes.{joined}

-- each item has its bytes, in the order of the items
abbrev pub AreBytesOf : List ℕ → Option (List ℕ) → List Located → List (List (List ℕ)) → Type 0
AreBytesOf F idat items bodies = map (bytes_of F idat items) items ≡ map (λ (pieces : List (List ℕ)). Some (joined pieces)) bodies
