-- The files that a command reads. Their order, and their numbers, are this project's own rule.
use Rattle.std.specs.Prelude.{ℕ, ◌+◌, List, [], ◌∷◌, ◌++◌, length, Option, Some, None, nat_lt, if◌then◌else◌}
use Rattle.hf_base.specs.declared.limits.TheConstants.{FILE}
use Rattle.hf_desk.specs.Outside.{Files, file_of}
use Rattle.hf_text.specs.Words.{EditWord, Exif, Xmp, Thumb, Command, Boxes, ListFile, CheckFile, Extract, EditFile, Redact, Trial}

-- a file that is read: its number and its name
abbrev pub Source : Type 0
Source = ℕ × List ℕ

-- the file that the edit with this number reads, if it reads one
abbrev pub source_of : ℕ → EditWord → List Source
source_of n (Exif id file) = (n, file) ∷ []
source_of n (Xmp id file) = (n, file) ∷ []
source_of n (Thumb id file) = (n, file) ∷ []
source_of n _ = []

-- those of edits in order, which are numbered from n
abbrev pub sources_from : ℕ → List EditWord → List Source
sources_from n [] = []
sources_from n (w ∷ ws) = source_of n w ++ sources_from (n + 1) ws

-- the files that a command reads, in the order of its words: number 0 is the input, and the file of an edit has the number of
-- the edit, from 1
abbrev pub sources_of : Command → List Source
sources_of (Boxes input) = (0, input) ∷ []
sources_of (ListFile input) = (0, input) ∷ []
sources_of (CheckFile input) = (0, input) ∷ []
sources_of (Extract input id out) = (0, input) ∷ []
sources_of (EditFile input out edits) = (0, input) ∷ sources_from 1 edits
sources_of (Redact input out bare) = (0, input) ∷ []
sources_of (Trial seed n out) = []

-- the file with this name, where the files are told and it is there
abbrev pub file_in : Option Files → List ℕ → Option (List ℕ)
file_in None name = None
file_in (Some files) name = file_of files name

-- the bytes of a file; none of one that is not there
abbrev pub bytes_of : Option (List ℕ) → List ℕ
bytes_of None = []
bytes_of (Some file) = file

-- those of the file with this name
abbrev pub bytes_in : Option Files → List ℕ → List ℕ
bytes_in files name = bytes_of (file_in files name)

-- the bytes of the file that an edit reads; none where it reads none
abbrev pub content_of : Option Files → EditWord → List ℕ
content_of files (Exif id file) = bytes_in files file
content_of files (Xmp id file) = bytes_in files file
content_of files (Thumb id file) = bytes_in files file
content_of files _ = []

-- an edit, with these bytes
abbrev pub Sourced : Type 0
Sourced = EditWord × List ℕ

abbrev pub sourced : Option Files → EditWord → Sourced
sourced files w = (w, content_of files w)

-- whether files are read whole, from the first one on
pub data Readable : Type 0 where
  -- one is not there
  Missing : Readable
  -- the one with this number has more than FILE bytes
  Long : ℕ → Readable
  -- all are
  Whole : Readable

-- whether the file with this number is
abbrev pub readable : ℕ → Option (List ℕ) → Readable
readable n None = Missing
readable n (Some file) = if nat_lt FILE (length file) then Long n else Whole

-- files that are read, and then others
abbrev pub read_then : Readable → Readable → Readable
read_then Missing rest = Missing
read_then (Long n) rest = Long n
read_then Whole rest = rest

abbrev pub read_of : Option Files → List Source → Readable
read_of files [] = Whole
read_of files (s ∷ ss) = read_then (readable s.0 (file_in files s.1)) (read_of files ss)

-- no file is missing before one is too long
abbrev pub IsReadable : Readable → Type 0
IsReadable Missing = ⊥
IsReadable _ = Unit {0}
