-- What it means that a command ends Done.
use Rattle.std.proofs.Common.{◌≡◌, ℕ, List, [], ◌∷◌, map, refl, sym, ap, ◌∙◌, subst, inl, inr, ◌⊎◌, Bool, true, false, Ok}
use Rattle.std.specs.Prelude.{Option, Some, None, IfSome}
use Rattle.hf_desk.specs.Calls.{IfTold, Said}
use Rattle.hf_desk.specs.Making.{IsMade, IsUnmade}
use Rattle.hf_desk.specs.Outside.{Outside, Files, file_of}
use Rattle.hf_plan.specs.Canon.{Canon}
use Rattle.hf_store.specs.Lists.{IsIn}
use Rattle.hf_store.specs.Store.{Item, ItemStore}
use Rattle.hf_text.specs.Answers.{check_text}
use Rattle.hf_text.specs.Listing.{listing_text}
use Rattle.hf_text.specs.Words.{Command, CheckFile, EditFile, EditWord, Extract, ListFile, Redact}
use Rattle.hf_text.specs.declared.outcome.Outcome.TheVariants.{Done}
use Rattle.hf_app.specs.Answers.{Answers, Ends, MadeDue, WhereTold}
use Rattle.hf_app.specs.Due.{Due, IsDue, IsDueOf, IsDueOfCheck, IsDueOfEdits, IsDueOfExtract, IsDueOfFile, IsDueOfList, IsDueOfRead, IsDueOfRedact}
use Rattle.hf_app.specs.Edits.{IsEdited}
use Rattle.hf_app.specs.Opening.{IsOpened}
use Rattle.hf_app.specs.Redactions.{IsRedacted}
use Rattle.hf_app.specs.Sources.{Source, Readable, Missing, Long, Whole, bytes_in, read_of, read_then, readable, sourced, sources_of}
use Rattle.hf_app.proofs.Reading.{bytes_there}

-- ---- what was done

-- the file that is read first is there
first_there : (files : Files) (n : ℕ) (name : List ℕ) (rest : Readable) (f : Option (List ℕ)) → file_of files name ≡ f → read_then (readable n f) rest ≡ Whole
    → (file : List ℕ) × (file_of files name ≡ Some file)
first_there files n name rest None is whole = absurd cc
first_there files n name rest (Some file) is whole = (file, is)

-- what was made and said is what is due of the files
abbrev WasDone : Command → Outside → Outside → Option Files → Type 0
WasDone command old new files = (d : Due) × IsDueOf command files d × (d.outcome ≡ Done) × MadeDue d.makes old new × Said old d.says new

done_whole : (command : Command) (old new : Outside) (files : Option Files) (r : Readable) (d : Due) → IsDueOfRead command files r d → d.outcome ≡ Done
    → MadeDue d.makes old new × Said old d.says new → (r ≡ Whole) × WasDone command old new files
done_whole command old new files Missing d due is both = absurd due
done_whole command old new files (Long n) d due is both = let o = ap (λ (d : Due). d.outcome) due in absurd cc
done_whole command old new files Whole d due is both = (refl, (d, due, is, both.0, both.1))

module _ (command : Command) (input : List ℕ) (ss : List Source) (reads : sources_of command ≡ (0, input) ∷ ss) (old new : Outside) (P : Option Files
    → List ℕ → Type 0)
    (each : (files : Files) (file : List ℕ) → bytes_in (Some files) input ≡ file → read_of (Some files) (sources_of command) ≡ Whole
    → WasDone command old new (Some files) → P (Some files) file) where
  done_in : (fs : Option Files) → WhereTold fs (sources_of command) (Answers (IsDue (Ok command) fs) Done old new)
      → IfSome fs (λ files. (file : List ℕ) × (file_of files input ≡ Some file) × P fs file)
  done_in None ends = tt
  done_in (Some files) (d, due, is, both) =
      let done = done_whole command old new (Some files) (read_of (Some files) (sources_of command)) d due is both in
      let whole : read_of (Some files) ((0, input) ∷ ss) ≡ Whole = ap (λ (all : List Source). read_of (Some files) all) (sym reads) ∙ done.0 in
      let f = first_there files 0 input (read_of (Some files) ss) (file_of files input) refl whole in
      (f.0, f.1, each files f.0 (bytes_there files input f.0 f.1) done.0 done.1)

  pub done_told : Ends command Done old new → IfTold old input (λ file. P old.files file)
  done_told ends = done_in old.files ends

-- a file that is Done denotes a store
done_of_store : (Is : ItemStore → Due → Type 0) (bytes file : List ℕ) (d : Due) → bytes ≡ file → IsDueOfFile Is bytes d → d.outcome ≡ Done
    → (s : ItemStore) × IsOpened file s × Is s d
done_of_store Is bytes file d same (inl (fault, is, e)) done = let o = ap (λ (d : Due). d.outcome) e in absurd cc
done_of_store Is bytes file d same (inr (s, opened, due)) done = (s, subst (λ (b : List ℕ). IsOpened b s) same opened, due)

-- ---- each command

pub list_done : (input : List ℕ) (old new : Outside) → Ends (ListFile input) Done old new
    → IfTold old input (λ file. (s : ItemStore) × IsOpened file s × IsUnmade old new × Said old (listing_text s) new)
list_done input old new =
    done_told (ListFile input) input [] refl old new (λ (fs : Option Files) (file : List ℕ). (s : ItemStore) × IsOpened file s × IsUnmade old new
    × Said old (listing_text s) new)
    (λ files file same whole was.
    let of = done_of_store IsDueOfList (bytes_in (Some files) input) file was.0 same was.1 was.2 in
    (of.0, of.1, subst (λ (d : Due). MadeDue d.makes old new) of.2 was.3, subst (λ (d : Due). Said old d.says new) of.2 was.4))

abbrev CheckSaid : List ℕ → ItemStore → Outside → Outside → Type 0
CheckSaid file s old new = (Canon s file × Said old (check_text true) new) ⊎ ((Canon s file → ⊥) × Said old (check_text false) new)

check_said : (bytes file : List ℕ) (s : ItemStore) (d : Due) (old new : Outside) → bytes ≡ file → IsDueOfCheck bytes s d → MadeDue d.makes old new
    → Said old d.says new
    → IsUnmade old new × CheckSaid file s old new
check_said bytes file s d old new same (inl (is, e)) makes says =
    (subst (λ (d : Due). MadeDue d.makes old new) e makes, inl (subst (Canon s) same is, subst (λ (d : Due). Said old d.says new) e says))
check_said bytes file s d old new same (inr (not, e)) makes says =
    (subst (λ (d : Due). MadeDue d.makes old new) e makes, inr ((λ is. not (subst (Canon s) (sym same) is)), subst (λ (d : Due). Said old d.says new) e says))

pub check_done : (input : List ℕ) (old new : Outside) → Ends (CheckFile input) Done old new
    → IfTold old input (λ file. (s : ItemStore) × IsOpened file s × IsUnmade old new × CheckSaid file s old new)
check_done input old new =
    done_told (CheckFile input) input [] refl old new (λ (fs : Option Files) (file : List ℕ). (s : ItemStore) × IsOpened file s × IsUnmade old new
    × CheckSaid file s old new)
    (λ files file same whole was.
    let bytes = bytes_in (Some files) input in
    let of = done_of_store (IsDueOfCheck bytes) bytes file was.0 same was.1 was.2 in
    let told = check_said bytes file of.0 was.0 old new same of.2 was.3 was.4 in
    (of.0, of.1, told.0, told.1))

abbrev ItemMade : ItemStore → ℕ → List ℕ → Outside → Outside → Type 0
ItemMade s id out old new = (i : Item) × IsIn i s.items × (i.id ≡ id) × IsMade old out i.bytes new

item_made : (id : ℕ) (out : List ℕ) (s : ItemStore) (d : Due) (old new : Outside) → IsDueOfExtract id out s d → d.outcome ≡ Done → MadeDue d.makes old new
    → ItemMade s id out old new
item_made id out s d old new (inl (none, e)) done makes = let o = ap (λ (d : Due). d.outcome) e in absurd cc
item_made id out s d old new (inr (i, there, is, e)) done makes = (i, there, is, subst (λ (d : Due). MadeDue d.makes old new) e makes)

pub extract_done : (input : List ℕ) (id : ℕ) (out : List ℕ) (old new : Outside) → Ends (Extract input id out) Done old new
    → IfTold old input (λ file. (s : ItemStore) × IsOpened file s × ItemMade s id out old new)
extract_done input id out old new =
    done_told (Extract input id out) input [] refl old new (λ (fs : Option Files) (file : List ℕ). (s : ItemStore) × IsOpened file s
    × ItemMade s id out old new)
    (λ files file same whole was.
    let of = done_of_store (IsDueOfExtract id out) (bytes_in (Some files) input) file was.0 same was.1 was.2 in
    (of.0, of.1, item_made id out of.0 was.0 old new of.2 was.2 was.3))

edits_made : (file out : List ℕ) (edits : List EditWord) (files : Option Files) (s : ItemStore) (d : Due) (old new : Outside) → IsOpened file s
    → IsDueOfEdits (map (sourced files) edits) out s d → d.outcome ≡ Done → MadeDue d.makes old new
    → (bytes : List ℕ) × IsEdited file (map (sourced files) edits) bytes × IsMade old out bytes new
edits_made file out edits files s d old new opened (inl (n, fault, is, e)) done makes = let o = ap (λ (d : Due). d.outcome) e in absurd cc
edits_made file out edits files s d old new opened (inr (inl (n, reason, is, e))) done makes = let o = ap (λ (d : Due). d.outcome) e in absurd cc
edits_made file out edits files s d old new opened (inr (inr (after, accepted, (bytes, canonical, again, e)))) done makes = (
  bytes,
  record { store = s; opened = opened; after = after; accepted = accepted; canonical = canonical; again = again },
  subst (λ
      (d : Due). MadeDue d.makes old new) e makes,
)

pub edit_done : (input out : List ℕ) (edits : List EditWord) (old new : Outside) → Ends (EditFile input out edits) Done old new
    → IfTold old input (λ file. (bytes : List ℕ) × (read_of old.files (sources_of (EditFile input out edits)) ≡ Whole)
    × IsEdited file (map (sourced old.files) edits) bytes × IsMade old out bytes new)
edit_done input out edits old new =
    let command = EditFile input out edits in
    done_told command input _ refl old new (λ (fs : Option Files) (file : List ℕ). (bytes : List ℕ) × (read_of fs (sources_of command) ≡ Whole)
    × IsEdited file (map (sourced fs) edits) bytes × IsMade old out bytes new)
    (λ files file same whole was.
    let of = done_of_store (IsDueOfEdits (map (sourced (Some files)) edits) out) (bytes_in (Some files) input) file was.0 same was.1 was.2 in
    let is = edits_made file out edits (Some files) of.0 was.0 old new of.1 of.2 was.2 was.3 in
    (is.0, whole, is.1, is.2))

pub redact_done : (input out : List ℕ) (bare : Bool) (old new : Outside) → Ends (Redact input out bare) Done old new
    → IfTold old input (λ file. (bytes : List ℕ) × IsRedacted file bare bytes × IsMade old out bytes new)
redact_done input out bare old new =
    done_told (Redact input out bare) input [] refl old new (λ (fs : Option Files) (file : List ℕ). (bytes : List ℕ) × IsRedacted file bare bytes
    × IsMade old out bytes new)
    (λ files file same whole was.
    let of = done_of_store (IsDueOfRedact bare out) (bytes_in (Some files) input) file was.0 same was.1 was.2 in
    let due = of.2 in
    (due.0, record { store = of.0; opened = of.1; canonical = due.1; again = due.2 }, subst (λ (d : Due). MadeDue d.makes old new) due.3 was.3))
