-- Edits in order, and what they make of a file.
use Rattle.std.specs.Prelude.{◌≡◌, ◌⊎◌, ◌+◌, ℕ, List, [], ◌∷◌, map, take, slice_get, Option, Some, None, Result, Ok, Err}
use Rattle.std.specs.List.{AllZip, zip}
use Rattle.std.specs.Global.{Vec}
use Rattle.hf_base.specs.declared.fault.ReadRefusal.{ReadRefusal}
use Rattle.hf_store.specs.Store.{ItemStore}
use Rattle.hf_store.specs.declared.reason.Reason.{Reason}
use Rattle.hf_edit.specs.Edits.{Edit, Remove, AddExif, AddXmp, Thumb, Primary, Rotate, Mirror, Crop, Hide, Show, Drop, step, why}
use Rattle.hf_edit.specs.Seen.{edit_of as edit_seen}
use Rattle.hf_edit.specs.declared.edit.Edit.{Edit as CodeEdit}
use Rattle.hf_plan.specs.Canon.{Canon}
use Rattle.hf_plan.specs.Plan.{Planned}
use Rattle.hf_read.specs.Denotes.{Denotes}
use Rattle.hf_read.specs.Reading.{fault_of}
use Rattle.hf_text.specs.Commands.{edit_of}
use Rattle.hf_text.specs.Words.{EditWord}
use Rattle.hf_text.specs.Words as words
use Rattle.hf_text.specs.declared.edits.EditWord.{EditWord as PlacedEdit}
use Rattle.hf_app.specs.Opening.{IsOpened, IsPlanned}
use Rattle.hf_app.specs.Sources.{Sourced}
use Rattle.hf_app.specs.declared.stopping.Stop.{Stop}
use Rattle.hf_app.specs.declared.stopping.Stop.TheVariants.{Unfit, Refused, NoMemory}

-- ---- edits as they are meant

-- an edit with the bytes of its file means this edit of a store: those bytes are the metadata that is added, or denote the
-- store whose primary item becomes a thumbnail
abbrev pub IsMeant : EditWord → List ℕ → Edit → Type 0
IsMeant (words.Remove id) bytes e = e ≡ Remove id
IsMeant (words.Exif id file) bytes e = e ≡ AddExif id bytes
IsMeant (words.Xmp id file) bytes e = e ≡ AddXmp id bytes
IsMeant (words.Thumb id file) bytes e = (donor : ItemStore) × IsOpened bytes donor × (e ≡ Thumb id donor)
IsMeant (words.Primary id) bytes e = e ≡ Primary id
IsMeant (words.Rotate id quarters) bytes e = e ≡ Rotate id quarters
IsMeant (words.Mirror id axis) bytes e = e ≡ Mirror id axis
IsMeant (words.Crop id x y w h) bytes e = e ≡ Crop id x y w h
IsMeant (words.Hide id) bytes e = e ≡ Hide id
IsMeant (words.Show id) bytes e = e ≡ Show id
IsMeant (words.Drop id kind) bytes e = e ≡ Drop id kind

-- each means its own
abbrev pub AreMeant : List Sourced → List Edit → Type 0
AreMeant edits meant = AllZip (λ (w : Sourced) (e : Edit). IsMeant w.0 w.1 e) edits meant

-- an edit has no meaning, since the file that a thumbnail is to be taken from has a fault
abbrev pub IsUnfit : EditWord → List ℕ → ReadRefusal → Type 0
IsUnfit (words.Thumb id file) bytes fault = fault_of bytes ≡ Some fault
IsUnfit _ bytes fault = ⊥

-- ---- edits one after the other

-- the edit with this number is refused where there is a reason
abbrev pub unless : {A : Type 0} → ℕ → Option Reason → Result A (ℕ × Reason) → Result A (ℕ × Reason)
unless n None rest = rest
unless n (Some reason) rest = Err (n, reason)

-- the store after these edits in order, numbered from n, or the number of the first one that is refused, with its reason
unfoldable pub stepped : ℕ → ItemStore → List Edit → Result ItemStore (ℕ × Reason)
stepped n s [] = Ok s
stepped n s (e ∷ es) = unless n (why s e) (stepped (n + 1) (step s e) es)

-- all edits are accepted, and lead from the first store to the second
pub record AreAccepted (s : ItemStore) (edits : List Sourced) (after : ItemStore) : Type 0 where
  pub meant : List Edit
  pub are_meant : AreMeant edits meant
  pub steps : stepped 1 s meant ≡ Ok after

-- the edits before the one with this number are accepted, and it has this reason against it; those behind it may have no meaning
pub record AreRefused (s : ItemStore) (edits : List Sourced) (n : ℕ) (reason : Reason) : Type 0 where
  pub meant : List Edit
  pub are_meant : AreMeant (take n edits) meant
  pub steps : stepped 1 s meant ≡ Err (n, reason)

-- the edits before the one with this number are accepted, and the file that it reads has this fault
pub record AreUnfit (s : ItemStore) (edits : List Sourced) (n : ℕ) (fault : ReadRefusal) : Type 0 where
  pub before : ℕ
  pub number : n ≡ before + 1
  pub after : ItemStore
  pub accepted : AreAccepted s (take before edits) after
  pub edit : Sourced
  pub there : slice_get edits before ≡ Some edit
  pub unfit : IsUnfit edit.0 edit.1 fault

-- the file denotes a store, these bytes are the canonical file of that store after all edits in order, and they denote it
pub record IsEdited (file : List ℕ) (edits : List Sourced) (bytes : List ℕ) : Type 0 where
  pub store : ItemStore
  pub opened : IsOpened file store
  pub after : ItemStore
  pub accepted : AreAccepted store edits after
  pub canonical : Canon after bytes
  pub again : Denotes bytes after

-- ---- what the calls answer

-- edits as the code has them, each with the bytes of its file
abbrev pub with_files : List (List ℕ) → List PlacedEdit → List (Vec ℕ) → List Sourced
with_files words edits files = zip (map (edit_of words) edits) (map (λ (f : Vec ℕ). f.items) files)

-- what an edit with this number means, or why it has no meaning
abbrev pub Means : ℕ → EditWord → List ℕ → Result CodeEdit Stop → Type 0
Means n word bytes (Ok e) = IsMeant word bytes (edit_seen e)
Means n word bytes (Err (Unfit m fault)) = (m ≡ n) × IsUnfit word bytes fault
Means n word bytes (Err (Refused m reason)) = ⊥
Means n word bytes (Err NoMemory) = Unit {0}

-- one edit with this number was made, or why it was not
abbrev pub Makes : ℕ → ItemStore → EditWord → List ℕ → Result (Unit {0}) Stop → ItemStore → Type 0
Makes n old word bytes (Ok done) new = (e : Edit) × IsMeant word bytes e × (why old e ≡ None) × (new ≡ step old e)
Makes n old word bytes (Err (Unfit m fault)) new = (m ≡ n) × IsUnfit word bytes fault
Makes n old word bytes (Err (Refused m reason)) new = (m ≡ n) × ((e : Edit) × IsMeant word bytes e × (why old e ≡ Some reason))
Makes n old word bytes (Err NoMemory) new = Unit {0}

-- this edit, which has this number, was made, or why it was not
abbrev pub MakesMeant : ℕ → ItemStore → Edit → Result (Unit {0}) Stop → ItemStore → Type 0
MakesMeant n old e (Ok done) new = (why old e ≡ None) × (new ≡ step old e)
MakesMeant n old e (Err (Unfit m fault)) new = ⊥
MakesMeant n old e (Err (Refused m reason)) new = (m ≡ n) × (why old e ≡ Some reason)
MakesMeant n old e (Err NoMemory) new = Unit {0}

-- edits were made in order, or why the first one that was not was not
abbrev pub Steps : ItemStore → List Sourced → Result (Unit {0}) Stop → ItemStore → Type 0
Steps old edits (Ok done) new = AreAccepted old edits new
Steps old edits (Err (Unfit n fault)) new = AreUnfit old edits n fault
Steps old edits (Err (Refused n reason)) new = AreRefused old edits n reason
Steps old edits (Err NoMemory) new = Unit {0}

-- why the edits make nothing of a file
abbrev pub Stops : List ℕ → List Sourced → Stop → Type 0
Stops file edits (Unfit n fault) = ((n ≡ 0) × (fault_of file ≡ Some fault)) ⊎ ((s : ItemStore) × IsOpened file s × AreUnfit s edits n fault)
Stops file edits (Refused n reason) = (s : ItemStore) × IsOpened file s × AreRefused s edits n reason
Stops file edits NoMemory = Unit {0}

-- the store that is left of a file after the edits, with its plan
abbrev pub Edits : List ℕ → List Sourced → Result (ItemStore × Planned) Stop → Type 0
Edits file edits (Ok made) = IsPlanned made.0 made.1 × ((s : ItemStore) × IsOpened file s × AreAccepted s edits made.0)
Edits file edits (Err stop) = Stops file edits stop
