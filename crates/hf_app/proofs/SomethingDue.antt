-- Something is due of all files.
use Rattle.std.proofs.Common.{◌≡◌, ℕ, zero, suc, ◌+◌, ◌<◌, ◌≤◌, List, [], ◌∷◌, length, map, take, get_or, refl, sym, ◌∙◌, subst, inl, inr, ◌⊎◌, arith, rules, true, false, Result, Ok, Err}
use Rattle.std.specs.Prelude.{Option, Some, None, slice_get}
use Rattle.std.specs.Str.{bytes_eq}
use Rattle.std.proofs.lemmas.Bool.{cases_Bool, cases_lt}
use Rattle.std.proofs.lemmas.List.{take_all}
use Rattle.std.proofs.lemmas.Option.{get_or_from_slice_get, slice_get-get_or}
use Rattle.std.proofs.lemmas.Slice.Eq.{bytes_eq-Decides}
use Rattle.hf_base.specs.Number.{IsBytes}
use Rattle.hf_base.specs.declared.fault.ReadRefusal.{ReadRefusal}
use Rattle.hf_base.specs.declared.limits.TheConstants.{FILE}
use Rattle.hf_box.specs.Walk.{walk_at}
use Rattle.hf_canon.proofs.Denoting.{canon_denotes}
use Rattle.hf_deps.specs.Redacted.{redacted}
use Rattle.hf_deps.proofs.Redactions.{redaction_keeps_validity}
use Rattle.hf_desk.specs.Outside.{Files, file_of}
use Rattle.hf_edit.specs.Edits.{Edit, Remove, AddExif, AddXmp, Thumb, Primary, Rotate, Mirror, Crop, Hide, Show, Drop, step, why}
use Rattle.hf_edit.specs.Left.{IsGoodEdit}
use Rattle.hf_edit.proofs.Steps.{steps_keep_validity}
use Rattle.hf_plan.specs.Canon.{Canon}
use Rattle.hf_plan.proofs.OneFile.{has_canon, one_canon}
use Rattle.hf_read.specs.Reading.{fault_of}
use Rattle.hf_read.proofs.ReadingLaws.{no_fault_denotes}
use Rattle.hf_store.specs.Lists.{IsIn}
use Rattle.hf_store.specs.Store.{Item, ItemStore, ids_of}
use Rattle.hf_store.specs.Valid.{Valid}
use Rattle.hf_store.specs.declared.reason.Reason.{Reason}
use Rattle.hf_text.specs.Answers.{check_text}
use Rattle.hf_text.specs.Listing.{listing_text}
use Rattle.hf_text.specs.Words.{EditWord, Command, Boxes, ListFile, CheckFile, Extract, EditFile, Redact, Trial, IsCommand}
use Rattle.hf_text.specs.Words as words
use Rattle.hf_text.specs.declared.outcome.Outcome.TheVariants.{Usage, Unfit, Refused, NoSuchItem, TooLong}
use Rattle.hf_app.specs.Due.{Due, IsDefined, IsDue, IsDueOf, IsDueOfCanon, IsDueOfCheck, IsDueOfEdits, IsDueOfExtract, IsDueOfFile, IsDueOfList, IsDueOfRead, IsDueOfRedact, answered, due_of_rows, made, said}
use Rattle.hf_app.specs.Edits.{AreAccepted, IsMeant, IsUnfit}
use Rattle.hf_app.specs.Opening.{IsOpened}
use Rattle.hf_app.specs.Sources.{Readable, Missing, Long, Whole, IsReadable, Sourced, bytes_in, bytes_of, content_of, file_in, read_of, read_then, readable, source_of, sourced, sources_from, sources_of}
use Rattle.hf_app.specs.declared.stopping.Stop.TheVariants as stops
use Rattle.hf_app.proofs.EditChain.{one_more, one_stops, stepped-none}
use Rattle.hf_app.proofs.Reading.{readable_long, read_of-append}
use Rattle.hf_app.proofs.Trials.{trial_due}

-- ---- a store is written

canon_due : (out : List ℕ) (s : ItemStore) → Valid s → (d : Due) × IsDueOfCanon out s d
canon_due out s valid = let F = has_canon s valid in (made out F.0, (F.0, F.1, canon_denotes s F.0 valid F.1, refl))

check_due : (file : List ℕ) (s : ItemStore) → Valid s → (d : Due) × IsDueOfCheck file s d
check_due file s valid =
    let F = has_canon s valid in
    let same = bytes_eq-Decides F.0 file in
    elim (cases_Bool (bytes_eq F.0 file)) [
      | inl equal ↦ (said (check_text true), inl (subst (Canon s) (same.0 equal) F.1, refl))
      | inr unequal ↦ (said (check_text false), inr ((λ is. let equal = same.1 (one_canon s F.0 file F.1 is) in absurd cc), refl))
    ]

-- ---- an item is there, or is not

other : (x id : ℕ) (xs : List Item) → (x ≡ id → ⊥) → (IsIn id (ids_of xs) → ⊥) → IsIn id (x ∷ ids_of xs) → ⊥
other x id xs not none (inl same) = not same
other x id xs not none (inr there) = none there

found : (id : ℕ) (is : List Item) → ((i : Item) × IsIn i is × (i.id ≡ id)) ⊎ (IsIn id (ids_of is) → ⊥)
found id [] = inr (λ there. there)
found id (x ∷ xs) =
    elim (found id xs) [
      | inl there ↦ inl (there.0, inr there.1, there.2)
      | inr none ↦ elim (cases_lt x.id id) [
        | inl less ↦ inr (λ there. other x.id id xs (λ same. omega (arith, less, same)) none there)
        | inr le ↦ elim (cases_lt id x.id) [
          | inl less ↦ inr (λ there. other x.id id xs (λ same. omega (arith, less, same)) none there)
          | inr also ↦ inl (x, inl refl, omega (arith, le, also))
        ]
      ]
    ]

extract_due : (id : ℕ) (out : List ℕ) (s : ItemStore) → (d : Due) × IsDueOfExtract id out s d
extract_due id out s =
    elim (found id s.items) [
      | inl there ↦ (made out there.0.bytes, inr (there.0, there.1, there.2, refl))
      | inr none ↦ (answered (NoSuchItem id), inl (none, refl))
    ]

-- ---- edits end in some way

-- the bytes of a file are bytes, and no more than are read
abbrev IsGood : List ℕ → Type 0
IsGood bytes = IsBytes bytes × (length bytes ≤ FILE)

by_fault : (bytes : List ℕ) → IsGood bytes → (o : Option ReadRefusal) → fault_of bytes ≡ o
    → ((fault : ReadRefusal) × (fault_of bytes ≡ Some fault)) ⊎ ((s : ItemStore) × IsOpened bytes s)
by_fault bytes good (Some fault) is = inl (fault, is)
by_fault bytes good None is = let p = (no_fault_denotes bytes good.0 good.1).0 is in inr (p.0, record { denoted = p.1.0; sound = is })

opened_or : (bytes : List ℕ) → IsGood bytes → ((fault : ReadRefusal) × (fault_of bytes ≡ Some fault)) ⊎ ((s : ItemStore) × IsOpened bytes s)
opened_or bytes good = by_fault bytes good (fault_of bytes) refl

meaning : (w : EditWord) (bytes : List ℕ) → IsGood bytes → ((fault : ReadRefusal) × IsUnfit w bytes fault) ⊎ ((e : Edit) × IsMeant w bytes e × IsGoodEdit e)
meaning (words.Remove id) bytes good = inr (Remove id, refl, tt)
meaning (words.Exif id file) bytes good = inr (AddExif id bytes, refl, tt)
meaning (words.Xmp id file) bytes good = inr (AddXmp id bytes, refl, tt)
meaning (words.Thumb id file) bytes good =
    elim (opened_or bytes good) [
      | inl fault ↦ inl fault
      | inr there ↦ inr (Thumb id there.0, (there.0, there.1, refl), there.1.denoted.valid)
    ]
meaning (words.Primary id) bytes good = inr (Primary id, refl, tt)
meaning (words.Rotate id quarters) bytes good = inr (Rotate id quarters, refl, tt)
meaning (words.Mirror id axis) bytes good = inr (Mirror id axis, refl, tt)
meaning (words.Crop id x y w h) bytes good = inr (Crop id x y w h, refl, tt)
meaning (words.Hide id) bytes good = inr (Hide id, refl, tt)
meaning (words.Show id) bytes good = inr (Show id, refl, tt)
meaning (words.Drop id kind) bytes good = inr (Drop id kind, refl, tt)

module _ (out : List ℕ) (s : ItemStore) (edits : List Sourced) (good : (i : ℕ) (w : Sourced) → slice_get edits i ≡ Some w → IsGood w.1) where
  abbrev SomeDue : Type 0
  SomeDue = (d : Due) × IsDueOfEdits edits out s d

  -- the edit at a place is made, or is refused
  by_reason : (i : ℕ) (mid : ItemStore) → Valid mid → AreAccepted s (take i edits) mid → i < length edits → (w : Sourced) → get_or edits i w ≡ w
      → (e : Edit) → IsMeant w.0 w.1 e → IsGoodEdit e → ((new : ItemStore) → Valid new → AreAccepted s (take (i + 1) edits) new → SomeDue)
      → (o : Option Reason) → why mid e ≡ o → SomeDue
  by_reason i mid valid before less w is_there e is fine next None none =
      next (step mid e) (steps_keep_validity mid e valid fine none) (one_more s mid edits i w less is_there before (i + 1) refl w.1 refl (step mid e)
      (e, is, none, refl))
  by_reason i mid valid before less w is_there e is fine next (Some reason) some = (
    answered (Refused (i + 1) reason),
    inr (inl (
      i + 1,
      reason,
      one_stops s mid edits i w less is_there before (i + 1) refl w.1 refl (stops.Refused (i + 1) reason) mid mid (
        refl,
        (e, is, some),
      ),
      refl,
    )),
  )

  -- what comes behind the edits before a place, which are accepted
  walk : (left i : ℕ) (mid : ItemStore) → i + left ≡ length edits → Valid mid → AreAccepted s (take i edits) mid → SomeDue
  walk zero i mid all valid before =
      let accepted : AreAccepted s edits mid = subst (λ (ws : List Sourced). AreAccepted s ws mid) (take_all i edits (omega (arith, all))) before in
      let d = canon_due out mid valid in
      (d.0, inr (inr (mid, accepted, d.1)))
  walk (suc left) i mid all valid before =
      let less : i < length edits = omega (arith, all) in
      let w = get_or edits i (words.Remove 0, []) in
      let there : slice_get edits i ≡ Some w = slice_get-get_or edits i (words.Remove 0, []) less in
      let is_there : get_or edits i w ≡ w = get_or_from_slice_get edits i w w there in
      elim (meaning w.0 w.1 (good i w there)) [
        | inl unfit ↦ (
          answered (Unfit (i + 1) unfit.0),
          inl (
            i + 1,
            unfit.0,
            one_stops s mid edits i w less is_there before (i + 1) refl w.1 refl (stops.Unfit (i + 1) unfit.0) mid mid
                (refl, unfit.1),
            refl,
          ),
        )
        | inr meant ↦ by_reason i mid valid before less w is_there meant.0 meant.1 meant.2
            (λ new also more. walk left (i + 1) new (omega (arith, all)) also more) (why mid meant.0) refl
      ]

  edits_due : Valid s → SomeDue
  edits_due valid = walk (length edits) 0 s (omega arith) valid (record { meant = []; are_meant = tt; steps = stepped-none 1 s })

-- ---- the files that are read

due_of_file : (Is : ItemStore → Due → Type 0) → ((s : ItemStore) → Valid s → (d : Due) × Is s d) → (bytes : List ℕ) → IsGood bytes → (d : Due)
    × IsDueOfFile Is bytes d
due_of_file Is each bytes good =
    elim (opened_or bytes good) [
      | inl fault ↦ (answered (Unfit 0 fault.0), inl (fault.0, fault.1, refl))
      | inr there ↦ let d = each there.0 there.1.denoted.valid in (d.0, inr (there.0, there.1, d.1))
    ]

no_bytes : IsBytes []
no_bytes = search rules

first_whole : (r rest : Readable) → read_then r rest ≡ Whole → r ≡ Whole
first_whole Missing rest is = is
first_whole (Long n) rest is = absurd cc
first_whole Whole rest is = refl

rest_whole : (r rest : Readable) → read_then r rest ≡ Whole → rest ≡ Whole
rest_whole Missing rest is = absurd cc
rest_whole (Long n) rest is = absurd cc
rest_whole Whole rest is = is

small_of : (n : ℕ) (f : Option (List ℕ)) → readable n f ≡ Whole → length (bytes_of f) ≤ FILE
small_of n None is = absurd cc
small_of n (Some file) is = elim (cases_lt FILE (length file)) [
  | inl over ↦ let long = readable_long n file over in absurd cc
  | inr few ↦ few
]

bytes_in_file : (told : Files) (name : List ℕ) → ((file : List ℕ) → file_of told name ≡ Some file → IsBytes file) → (f : Option (List ℕ))
    → file_of told name ≡ f → IsBytes (bytes_of f)
bytes_in_file told name each None is = no_bytes
bytes_in_file told name each (Some file) is = each file is

bytes_in_files : (files : Option Files) → ((told : Files) (name file : List ℕ) → files ≡ Some told → file_of told name ≡ Some file → IsBytes file)
    → (name : List ℕ) → IsBytes (bytes_in files name)
bytes_in_files None each name = no_bytes
bytes_in_files (Some told) each name = bytes_in_file told name (λ file is. each told name file refl is) (file_of told name) refl

module _ (files : Option Files) (bytes : (told : Files) (name file : List ℕ) → files ≡ Some told → file_of told name ≡ Some file → IsBytes file) where
  good_first : (n : ℕ) (name : List ℕ) (rest : Readable) → read_then (readable n (file_in files name)) rest ≡ Whole → IsGood (bytes_in files name)
  good_first n name rest whole = (bytes_in_files files bytes name, small_of n (file_in files name) (first_whole (readable n (file_in files name)) rest whole))

  good_nothing : IsGood []
  good_nothing = (no_bytes, omega arith)

  good_content : (n : ℕ) (w : EditWord) → read_of files (source_of n w) ≡ Whole → IsGood (content_of files w)
  good_content n (words.Remove id) whole = good_nothing
  good_content n (words.Exif id file) whole = good_first n file Whole whole
  good_content n (words.Xmp id file) whole = good_first n file Whole whole
  good_content n (words.Thumb id file) whole = good_first n file Whole whole
  good_content n (words.Primary id) whole = good_nothing
  good_content n (words.Rotate id quarters) whole = good_nothing
  good_content n (words.Mirror id axis) whole = good_nothing
  good_content n (words.Crop id x y w h) whole = good_nothing
  good_content n (words.Hide id) whole = good_nothing
  good_content n (words.Show id) whole = good_nothing
  good_content n (words.Drop id kind) whole = good_nothing

  good_contents : (ws : List EditWord) (n : ℕ) → read_of files (sources_from n ws) ≡ Whole → (i : ℕ) (w : Sourced)
      → slice_get (map (sourced files) ws) i ≡ Some w → IsGood w.1
  good_contents [] n whole i w there = absurd cc
  good_contents (v ∷ vs) n whole zero w there =
      let parts = sym (read_of-append files (source_of n v) (sources_from (n + 1) vs)) ∙ whole in
      let same : sourced files v ≡ w = cc in
      subst (λ (w : Sourced). IsGood w.1) same (good_content n v (first_whole (read_of files (source_of n v)) (read_of files (sources_from (n + 1) vs)) parts))
  good_contents (v ∷ vs) n whole (suc i) w there =
      let parts = sym (read_of-append files (source_of n v) (sources_from (n + 1) vs)) ∙ whole in
      good_contents vs (n + 1) (rest_whole (read_of files (source_of n v)) (read_of files (sources_from (n + 1) vs)) parts) i w there

  due_of : (command : Command) → IsCommand command → read_of files (sources_of command) ≡ Whole → (d : Due) × IsDueOf command files d
  due_of (Boxes input) is whole = (due_of_rows (walk_at (bytes_in files input)), refl)
  due_of (ListFile input) is whole = due_of_file IsDueOfList (λ s valid. (said (listing_text s), refl)) (bytes_in files input) (good_first 0 input Whole whole)
  due_of (CheckFile input) is whole = due_of_file (IsDueOfCheck (bytes_in files input)) (check_due (bytes_in files input)) (bytes_in files input)
      (good_first 0 input Whole whole)
  due_of (Extract input id out) is whole = due_of_file (IsDueOfExtract id out) (λ s valid. extract_due id out s) (bytes_in files input)
      (good_first 0 input Whole whole)
  due_of (EditFile input out edits) is whole =
      let rest = read_of files (sources_from 1 edits) in
      let first = readable 0 (file_in files input) in
      due_of_file (IsDueOfEdits (map (sourced files) edits) out)
      (λ s valid. edits_due out s (map (sourced files) edits) (good_contents edits 1 (rest_whole first rest whole)) valid)
      (bytes_in files input) (good_first 0 input rest whole)
  due_of (Redact input out bare) is whole =
      due_of_file (IsDueOfRedact bare out) (λ s valid. canon_due out (redacted bare s) (redaction_keeps_validity s bare valid)) (bytes_in files input)
      (good_first 0 input Whole whole)
  due_of (Trial seed n out) is whole = trial_due seed n out is.1.0 is.1.1

  due_of_read : (command : Command) → IsCommand command → (r : Readable) → read_of files (sources_of command) ≡ r → IsReadable r
      → (d : Due) × IsDueOfRead command files r d
  due_of_read command is Missing found readable = absurd readable
  due_of_read command is (Long n) found readable = (answered (TooLong n), refl)
  due_of_read command is Whole found readable = due_of command is found

  pub something_due : (read : Result Command ℕ) → ((command : Command) → read ≡ Ok command → IsCommand command) → IsDefined read files
      → (d : Due) × IsDue read files d
  something_due (Err at) is defined = (answered (Usage at), refl)
  something_due (Ok command) is defined = due_of_read command (is command refl) (read_of files (sources_of command)) refl defined
