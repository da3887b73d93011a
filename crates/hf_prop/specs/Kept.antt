-- What the private part of a body stands for.
use Rattle.std.specs.Prelude.{ℕ, ◌≤◌, List, take}
use Rattle.hf_prop.specs.declared.body.Kept.{Kept}
use Rattle.hf_prop.specs.declared.body.Kept.TheVariants.{Lent, Small}

-- its bytes
abbrev pub bytes_of : Kept → List ℕ
bytes_of (Lent bytes) = bytes.now
bytes_of (Small bytes len) = take len bytes

-- a body of its own has no more bytes than there is room for
abbrev pub IsWithin : Kept → Type 0
IsWithin (Lent bytes) = Unit {0}
IsWithin (Small bytes len) = len ≤ 32
