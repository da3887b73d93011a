-- Fields that are left out.
use Rattle.std.proofs.Common.{◌≡◌, ℕ, false, length, ltb, List, Result, Ok, Err, refl, arith}
use Rattle.std.proofs.lemmas.Bool.{le-ltb}
use Rattle.std.specs.Borrow.{Bor}
use Rattle.hf_base.specs.declared.fault.ReadRefusal.{ReadRefusal}
use Rattle.hf_base.specs.Number.{number}
use Rattle.hf_base.specs.Reading.{Reads, front}
use Rattle.hf_loc.specs.declared.widths.Width.{Width}
use Rattle.hf_loc.specs.declared.widths.Width.TheVariants.{Zero, Four, Eight}
use Rattle.hf_loc.specs.Iloc.{index_at}
use Rattle.hf_loc.specs.Views.{width_of}

-- a field of no bytes is 0
pub front_none : (short : ReadRefusal) (bytes : List ℕ) → front 0 short bytes ≡ Ok (0, bytes)
unfolding front number
front_none short bytes =
    let none : ltb (length bytes) 0 ≡ false = le-ltb _ _ (omega arith) in
    rw none refl

-- an index of no bytes is 1
pub index_none : (short : ReadRefusal) (bytes : List ℕ) → index_at short 0 bytes ≡ Ok (1, bytes)
unfolding index_at
index_none short bytes = rw (front_none short bytes) refl

abbrev View : Type 0
View = ℕ × Bor (List ℕ)

-- another index is the number of its field
pub index_some : (width : Width) (short : ReadRefusal) (bytes : List ℕ) (r : Result View ReadRefusal) → (width ≡ Zero → ⊥)
    → Reads (λ (x : View). (x.0, x.1.now)) r (front (width_of width) short bytes) → Reads (λ (x : View). (x.0, x.1.now)) r (index_at short (width_of width) bytes)
unfolding index_at
index_some Zero short bytes r other read = absurd (other refl)
index_some Four short bytes (Ok x) other read = rw read refl
index_some Four short bytes (Err e) other read = rw read refl
index_some Eight short bytes (Ok x) other read = rw read refl
index_some Eight short bytes (Err e) other read = rw read refl
