-- Files that are read one after the other.
use Rattle.std.specs.Prelude.{◌≡◌, ℕ, List, Some, true, Result, Ok, Err, IfErr, IfSome}
use Rattle.hf_desk.specs.Outside.{Outside, Files}
use Rattle.hf_desk.specs.Calls.{Rose}
use Rattle.hf_desk.specs.declared.read.ReadStop.{ReadStop}
use Rattle.hf_desk.specs.declared.read.ReadStop.TheVariants as stops
use Rattle.hf_app.specs.Sources.{Source, Whole, Long, IsReadable, read_of}
use Rattle.hf_app.specs.declared.sources.Unread.{Unread}

-- the first of these files that is not read whole is the one with this number
abbrev pub StopsReading : Outside → List Source → ℕ → ReadStop → Outside → Type 0
StopsReading old sources n stops.TooLong new = IfSome old.files (λ files. read_of (Some files) sources ≡ Long n)
StopsReading old sources n stops.Fault new = Rose old.read_faults new.read_faults
StopsReading old sources n stops.NoMemory new = Unit {0}

-- these files were read whole and gave P, or why the first one that was not was not
abbrev pub AreRead : {X : Type 0} → Outside → List Source → (Files → X → Type 0) → Result X Unread → Outside → Type 0
AreRead old sources P (Ok x) new = IfSome old.files (λ files. (read_of (Some files) sources ≡ Whole) × P files x)
AreRead old sources P (Err unread) new = StopsReading old sources unread.source unread.why new

-- over a steady desk that has all of them no read fails
abbrev pub ReadSteadily : {X : Type 0} → Outside → List Source → Result X Unread → Type 0
ReadSteadily old sources result =
    old.steady ≡ true → (files : Files) → old.files ≡ Some files → IsReadable (read_of (Some files) sources)
    → IfErr result (λ unread. unread.why ≡ stops.Fault → ⊥)
