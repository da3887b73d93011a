-- What an undisturbed run answers, makes and says.
use Rattle.std.specs.Prelude.{◌≡◌, ◌⊎◌, ℕ, Bool, true, false, List, [], map, Option, Some, None, Result, Ok, Err}
use Rattle.hf_base.specs.declared.fault.ReadRefusal.{ReadRefusal}
use Rattle.hf_box.specs.declared.view.BoxRow.{BoxRow}
use Rattle.hf_box.specs.Walk.{walk_at}
use Rattle.hf_deps.specs.Redacted.{redacted}
use Rattle.hf_desk.specs.Outside.{Files}
use Rattle.hf_plan.specs.Canon.{Canon}
use Rattle.hf_read.specs.Denotes.{Denotes}
use Rattle.hf_read.specs.Reading.{fault_of}
use Rattle.hf_store.specs.Lists.{IsIn}
use Rattle.hf_store.specs.Store.{Item, ItemStore, ids_of}
use Rattle.hf_store.specs.declared.reason.Reason.{Reason}
use Rattle.hf_text.specs.Listing.{listing_text}
use Rattle.hf_text.specs.Answers.{check_text, trial_text}
use Rattle.hf_text.specs.Texts.{rows_text}
use Rattle.hf_text.specs.Words.{Command, Boxes, ListFile, CheckFile, Extract, EditFile, Redact, Trial}
use Rattle.hf_text.specs.declared.outcome.Outcome.{Outcome}
use Rattle.hf_text.specs.declared.outcome.Outcome.TheVariants.{Done, Usage, Unfit, Refused, NoSuchItem, TooLong}
use Rattle.hf_app.specs.Edits.{AreAccepted, AreRefused, AreUnfit}
use Rattle.hf_app.specs.Opening.{IsOpened}
use Rattle.hf_app.specs.Sources.{Sourced, Readable, Missing, Long, Whole, IsReadable, bytes_in, read_of, sourced, sources_of}
use Rattle.hf_app.specs.Trials.{AreTrialFiles, numbers_of}

pub record Due : Type 0 where
  pub outcome : Outcome
  -- the name of the file that is made, and its bytes
  pub makes : Option (List ℕ × List ℕ)
  pub says : List ℕ

-- an outcome other than Done: nothing is made, and nothing said
abbrev pub answered : Outcome → Due
answered outcome = record { outcome = outcome; makes = None; says = [] }

-- a text is said
abbrev pub said : List ℕ → Due
said text = record { outcome = Done; makes = None; says = text }

-- a file is made
abbrev pub made : List ℕ → List ℕ → Due
made out bytes = record { outcome = Done; makes = Some (out, bytes); says = [] }

-- a file is made, and a text is said
abbrev pub made_saying : List ℕ → List ℕ → List ℕ → Due
made_saying out bytes text = record { outcome = Done; makes = Some (out, bytes); says = text }

-- ---- what is due of the bytes of an input

-- the rows of the walk are said, or its fault is answered
abbrev pub due_of_rows : Result (List BoxRow) ReadRefusal → Due
due_of_rows (Ok rows) = said (rows_text rows)
due_of_rows (Err why) = answered (Unfit 0 why)

-- its fault is answered, or what is due of the store that it denotes
abbrev pub IsDueOfFile : (ItemStore → Due → Type 0) → List ℕ → Due → Type 0
IsDueOfFile Is file d =
    ((fault : ReadRefusal) × (fault_of file ≡ Some fault) × (d ≡ answered (Unfit 0 fault)))
    ⊎ ((s : ItemStore) × IsOpened file s × Is s d)

-- ---- what is due of the store that an input denotes

-- its listing is said
abbrev pub IsDueOfList : ItemStore → Due → Type 0
IsDueOfList s d = d ≡ said (listing_text s)

-- whether these bytes are its canonical file is said
abbrev pub IsDueOfCheck : List ℕ → ItemStore → Due → Type 0
IsDueOfCheck file s d = (Canon s file × (d ≡ said (check_text true))) ⊎ ((Canon s file → ⊥) × (d ≡ said (check_text false)))

-- a file of the bytes of the item with an id is made, or no item has it
abbrev pub IsDueOfExtract : ℕ → List ℕ → ItemStore → Due → Type 0
IsDueOfExtract id out s d =
    ((IsIn id (ids_of s.items) → ⊥) × (d ≡ answered (NoSuchItem id)))
    ⊎ ((i : Item) × IsIn i s.items × (i.id ≡ id) × (d ≡ made out i.bytes))

-- the canonical file of a store is made, which denotes it
abbrev pub IsDueOfCanon : List ℕ → ItemStore → Due → Type 0
IsDueOfCanon out s d = (bytes : List ℕ) × Canon s bytes × Denotes bytes s × (d ≡ made out bytes)

-- the canonical file of what is left after a redaction is made
abbrev pub IsDueOfRedact : Bool → List ℕ → ItemStore → Due → Type 0
IsDueOfRedact bare out s d = IsDueOfCanon out (redacted bare s) d

-- the canonical file after all edits is made, or the first edit is told whose file has a fault or that has a reason against
-- it; where both hold of one edit, its file is told
abbrev pub IsDueOfEdits : List Sourced → List ℕ → ItemStore → Due → Type 0
IsDueOfEdits edits out s d =
    ((n : ℕ) × (fault : ReadRefusal) × AreUnfit s edits n fault × (d ≡ answered (Unfit n fault)))
    ⊎ ((n : ℕ) × (reason : Reason) × AreRefused s edits n reason × (d ≡ answered (Refused n reason)))
    ⊎ ((after : ItemStore) × AreAccepted s edits after × IsDueOfCanon out after d)

-- ---- what is due of a command that reads no file

-- the canonical file of the trial is made, and its numbers are said, with those of what a redaction leaves of it
abbrev pub IsDueOfTrial : ℕ → ℕ → List ℕ → Due → Type 0
IsDueOfTrial seed n out d =
    (file : List ℕ) × (kept : List ℕ) × AreTrialFiles seed n file kept
    × (d ≡ made_saying out file (trial_text (numbers_of seed n file kept)))

-- ---- what is due of a command

-- where the files that it reads are read whole
abbrev pub IsDueOf : Command → Option Files → Due → Type 0
IsDueOf (Boxes input) files d = d ≡ due_of_rows (walk_at (bytes_in files input))
IsDueOf (ListFile input) files d = IsDueOfFile IsDueOfList (bytes_in files input) d
IsDueOf (CheckFile input) files d = IsDueOfFile (IsDueOfCheck (bytes_in files input)) (bytes_in files input) d
IsDueOf (Extract input id out) files d = IsDueOfFile (IsDueOfExtract id out) (bytes_in files input) d
IsDueOf (EditFile input out edits) files d = IsDueOfFile (IsDueOfEdits (map (sourced files) edits) out) (bytes_in files input) d
IsDueOf (Redact input out bare) files d = IsDueOfFile (IsDueOfRedact bare out) (bytes_in files input) d
IsDueOf (Trial seed n out) files d = IsDueOfTrial seed n out d

-- by whether they are
abbrev pub IsDueOfRead : Command → Option Files → Readable → Due → Type 0
IsDueOfRead command files Missing d = ⊥
IsDueOfRead command files (Long n) d = d ≡ answered (TooLong n)
IsDueOfRead command files Whole d = IsDueOf command files d

-- the name of the file that a command makes
abbrev pub out_of : Command → Option (List ℕ)
out_of (Boxes input) = None
out_of (ListFile input) = None
out_of (CheckFile input) = None
out_of (Extract input id out) = Some out
out_of (EditFile input out edits) = Some out
out_of (Redact input out bare) = Some out
out_of (Trial seed n out) = Some out

-- something is due: the words are no command, or no file that it reads is missing before one is too long
abbrev pub IsDefined : Result Command ℕ → Option Files → Type 0
IsDefined (Err at) files = Unit {0}
IsDefined (Ok command) files = IsReadable (read_of files (sources_of command))

-- and this is it
abbrev pub IsDue : Result Command ℕ → Option Files → Due → Type 0
IsDue (Err at) files d = d ≡ answered (Usage at)
IsDue (Ok command) files d = IsDueOfRead command files (read_of files (sources_of command)) d
