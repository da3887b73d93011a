-- Commands as the code has them, where a file is named by the place of its word.
use Rattle.std.specs.Prelude.{◌≡◌, ◌<◌, ℕ, List, [], ◌∷◌, ◌++◌, length, get_or, map, Option, Some, None, Result, Ok, Err, IfOk, IsOk, codes}
use Rattle.std.specs.List.{All}
use Rattle.std.specs.Global.{Vec}
use Rattle.hf_base.specs.declared.fault.NoMemory.{NoMemory as NoRoom}
use Rattle.hf_text.specs.Words.{EditWord, Remove, Exif, Xmp, Thumb, Primary, Rotate, Mirror, Crop, Hide, Show, Drop, Command, Boxes, ListFile, CheckFile, Extract, EditFile, Redact, Trial, Form, with_id, with_number, with_four, with_kind, with_file}
use Rattle.hf_text.specs.declared.edits.EditName.{EditName}
use Rattle.hf_text.specs.declared.edits.EditName.TheVariants as names
use Rattle.hf_text.specs.declared.edits.EditWord.{EditWord as PlacedEdit}
use Rattle.hf_text.specs.declared.edits.EditWord.TheVariants as placed
use Rattle.hf_text.specs.declared.words.Command.{Command as PlacedCommand}
use Rattle.hf_text.specs.declared.words.Command.TheVariants as places
use Rattle.hf_text.specs.declared.words.WordsFault.{WordsFault}
use Rattle.hf_text.specs.declared.words.WordsFault.TheVariants.{Usage, NoMemory}

-- the word at a place
abbrev pub word_of : List (List ℕ) → ℕ → List ℕ
word_of words at = get_or words at []

-- the edit with the words that stand at its places
abbrev pub edit_of : List (List ℕ) → PlacedEdit → EditWord
edit_of words (placed.Remove id) = Remove id
edit_of words (placed.Exif id file) = Exif id (word_of words file)
edit_of words (placed.Xmp id file) = Xmp id (word_of words file)
edit_of words (placed.Thumb id file) = Thumb id (word_of words file)
edit_of words (placed.Primary id) = Primary id
edit_of words (placed.Rotate id quarters) = Rotate id quarters
edit_of words (placed.Mirror id axis) = Mirror id axis
edit_of words (placed.Crop id x y w h) = Crop id x y w h
edit_of words (placed.Hide id) = Hide id
edit_of words (placed.Show id) = Show id
edit_of words (placed.Drop id kind) = Drop id kind

-- the command with the words that stand at its places
abbrev pub command_of : List (List ℕ) → PlacedCommand → Command
command_of words (places.Boxes input) = Boxes (word_of words input)
command_of words (places.List input) = ListFile (word_of words input)
command_of words (places.Check input) = CheckFile (word_of words input)
command_of words (places.Extract input id out) = Extract (word_of words input) id (word_of words out)
command_of words (places.Edit input out edits) = EditFile (word_of words input) (word_of words out) (map (edit_of words) edits.items)
command_of words (places.Redact input out bare) = Redact (word_of words input) (word_of words out) bare
command_of words (places.Trial seed n out) = Trial seed n (word_of words out)

-- a word stands at each place of an edit
abbrev pub EditNamesWords : List (List ℕ) → PlacedEdit → Type 0
EditNamesWords words (placed.Exif id file) = file < length words
EditNamesWords words (placed.Xmp id file) = file < length words
EditNamesWords words (placed.Thumb id file) = file < length words
EditNamesWords words _ = Unit {0}

-- a word stands at each place of a command, those of its edits too
abbrev pub NamesWords : List (List ℕ) → PlacedCommand → Type 0
NamesWords words (places.Boxes input) = input < length words
NamesWords words (places.List input) = input < length words
NamesWords words (places.Check input) = input < length words
NamesWords words (places.Extract input id out) = (input < length words) × (out < length words)
NamesWords words (places.Edit input out edits) = (input < length words) × (out < length words) × All (EditNamesWords words) edits.items
NamesWords words (places.Redact input out bare) = (input < length words) × (out < length words)
NamesWords words (places.Trial seed n out) = out < length words

-- the command that is read, or its place of usage, or memory was refused where a command reads
abbrev pub IsRead : List (List ℕ) → Result Command ℕ → Result PlacedCommand WordsFault → Type 0
IsRead words read (Ok command) = read ≡ Ok (command_of words command)
IsRead words read (Err (Usage at)) = read ≡ Err at
IsRead words read (Err NoMemory) = IsOk read

-- the same of a command without edits, whose words take no memory
abbrev pub IsShortRead : List (List ℕ) → Result Command ℕ → Result PlacedCommand ℕ → Type 0
IsShortRead words read (Ok command) = read ≡ Ok (command_of words command)
IsShortRead words read (Err at) = read ≡ Err at

-- the same of edits
abbrev pub AreRead : List (List ℕ) → Result (List EditWord) ℕ → Result (Vec PlacedEdit) WordsFault → Type 0
AreRead words read (Ok edits) = read ≡ Ok (map (edit_of words) edits.items)
AreRead words read (Err (Usage at)) = read ≡ Err at
AreRead words read (Err NoMemory) = IsOk read

-- these edits, with words at their places
pub record Holds (words : List (List ℕ)) (held : Vec PlacedEdit) (edits : List EditWord) : Type 0 where
  pub same : map (edit_of words) held.items ≡ edits
  pub named : All (EditNamesWords words) held.items

-- these edits, or memory was refused
abbrev pub HasEdits : List (List ℕ) → Result (Vec PlacedEdit) NoRoom → List EditWord → Type 0
HasEdits words result edits = IfOk result (λ held. Holds words held edits)

-- whichever were held, one more is
abbrev pub IsPushed : Result (Vec PlacedEdit) NoRoom → PlacedEdit → Result (Vec PlacedEdit) NoRoom → Type 0
IsPushed old edit new =
    (words : List (List ℕ)) (edits : List EditWord) → HasEdits words old edits → EditNamesWords words edit
    → HasEdits words new (edits ++ edit_of words edit ∷ [])

-- the edit, or the place of usage
abbrev pub IsEditRead : List (List ℕ) → Result EditWord ℕ → Result PlacedEdit ℕ → Type 0
IsEditRead words read (Ok edit) = read ≡ Ok (edit_of words edit)
IsEditRead words read (Err at) = read ≡ Err at

-- the form of an edit with this name
abbrev pub form_of : EditName → Form EditWord
form_of names.Remove = with_id (codes "remove") Remove
form_of names.Exif = with_file (codes "exif") Exif
form_of names.Xmp = with_file (codes "xmp") Xmp
form_of names.Thumb = with_file (codes "thumb") Thumb
form_of names.Primary = with_id (codes "primary") Primary
form_of names.Rotate = with_number (codes "rotate") Rotate
form_of names.Mirror = with_number (codes "mirror") Mirror
form_of names.Crop = with_four (codes "crop") Crop
form_of names.Hide = with_id (codes "hide") Hide
form_of names.Show = with_id (codes "show") Show
form_of names.Drop = with_kind (codes "drop") Drop

-- what is read where the first word is this name, or no name of an edit
abbrev pub named_read : Option EditName → ℕ → List (List ℕ) → Result EditWord ℕ
named_read None at words = Err at
named_read (Some name) at words = (form_of name).read at words

-- the word at the place that is read
abbrev pub IsNameRead : List (List ℕ) → Result (List ℕ) ℕ → Result ℕ ℕ → Type 0
IsNameRead words read (Ok place) = read ≡ Ok (word_of words place)
IsNameRead words read (Err at) = read ≡ Err at
