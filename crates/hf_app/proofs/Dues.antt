-- What is due of the files that a command read, and what it answered.
use Rattle.std.proofs.Common.{◌≡◌, ℕ, ◌<◌, ◌≤◌, List, [], ◌∷◌, length, map, refl, sym, ap, ◌∙◌, inl, inr, ◌⊎◌, subst, true, Result, Ok, Err}
use Rattle.std.specs.Prelude.{Option, Some, None}
use Rattle.hf_base.specs.declared.limits.TheConstants.{FILE}
use Rattle.hf_desk.specs.Outside.{Outside, Files}
use Rattle.hf_desk.specs.Calls.{IfTold, HasFile, ReadsOnly, Rose, Said}
use Rattle.hf_desk.specs.Making.{IsMade, IsUnmade, IsMadeInPart}
use Rattle.hf_desk.proofs.Writing.{said_none}
use Rattle.hf_desk.specs.declared.read.ReadStop.{ReadStop}
use Rattle.hf_desk.specs.declared.read.ReadStop.TheVariants as reads
use Rattle.hf_text.specs.Words.{Command, EditFile, EditWord}
use Rattle.hf_text.specs.declared.outcome.Outcome.{Outcome}
use Rattle.hf_text.specs.declared.outcome.Outcome.TheVariants.{Done, Usage, Unfit, Refused, NoSuchItem, TooLong, ReadFault, WriteFault, NoMemory}
use Rattle.hf_app.specs.Answers.{Answers, Ends, ForDue, HasCause, IfTells, IsDueOrNoMemory, IsSteady, NoFault, OutIsFree, WhereTold}
use Rattle.hf_app.specs.Due.{Due, IsDefined, IsDue, IsDueOf, IsDueOfEdits, IsDueOfFile, IsDueOfRead, answered}
use Rattle.hf_app.specs.Sources.{Source, Sourced, Readable, Long, Whole, IsReadable, bytes_in, read_of, sourced, sources_from, sources_of}
use Rattle.hf_app.specs.Stops.{outcome_of_read}
use Rattle.hf_app.proofs.Reading.{bytes_there, has_first, long_first, told_of, whole_first}

-- ---- answers

pub wider : (Is Js : Due → Type 0) (r : Outcome) (old now : Outside) → ((d : Due) → Is d → Js d) → Answers Is r old now → Answers Js r old now
wider Is Js Done old now f (d, is, same, both) = (d, f d is, same, both)
wider Is Js WriteFault old now f (d, is, same, both) = (d, f d is, same, both)
wider Is Js ReadFault old now f a = tt
wider Is Js NoMemory old now f a = tt
wider Is Js (Usage at) old now f (d, is, same, t) = (d, f d is, same, t)
wider Is Js (Unfit source why) old now f (d, is, same, t) = (d, f d is, same, t)
wider Is Js (Refused edit why) old now f (d, is, same, t) = (d, f d is, same, t)
wider Is Js (NoSuchItem id) old now f (d, is, same, t) = (d, f d is, same, t)
wider Is Js (TooLong source) old now f (d, is, same, t) = (d, f d is, same, t)

pub tells : (r : Outcome) (P : Type 0) → P → IfTells r P
tells Done P p = p
tells WriteFault P p = p
tells ReadFault P p = tt
tells NoMemory P p = tt
tells (Usage at) P p = p
tells (Unfit source why) P p = p
tells (Refused edit why) P p = p
tells (NoSuchItem id) P p = p
tells (TooLong source) P p = p

where_told : (fs : Option Files) (s : Source) (ss : List Source) (P : Option Files → Type 0) → ((files : Files) → fs ≡ Some files → P (Some files))
    → WhereTold fs (s ∷ ss) (P fs)
where_told None s ss P each = tt
where_told (Some files) s ss P each = each files refl

-- a command that reads a file ends so, where the answer is due of whether its files are read
module _ (command : Command) (s : Source) (ss : List Source) (is : sources_of command ≡ s ∷ ss) (r : Outcome) (old now : Outside) where
  pub ends_read : ((files : Files) → old.files ≡ Some files
      → (found : Readable) × (read_of (Some files) (s ∷ ss) ≡ found) × Answers (IsDueOfRead command (Some files) found) r old now) → Ends command r old now
  ends_read each =
      tells r (WhereTold old.files (sources_of command) (Answers (IsDue (Ok command) old.files) r old now))
      (subst (λ (all : List Source). WhereTold old.files all (Answers (IsDue (Ok command) old.files) r old now)) (sym is)
      (where_told old.files s ss (λ (fs : Option Files). Answers (IsDue (Ok command) fs) r old now) (λ files some.
      let f = each files some in
      let whole : read_of (Some files) (sources_of command) ≡ f.0 = ap (λ (all : List Source). read_of (Some files) all) is ∙ f.1 in
      wider (IsDueOfRead command (Some files) f.0) (IsDue (Ok command) (Some files)) r old now
      (λ d due. subst (λ (found : Readable). IsDueOfRead command (Some files) found d) (sym whole) due) f.2)))

-- ---- a file was not read whole

-- this one was the first
pub ends_long : (command : Command) (s : Source) (ss : List Source) → sources_of command ≡ s ∷ ss → (old now : Outside) (n : ℕ) (why : ReadStop)
    → (why ≡ reads.TooLong → (files : Files) → old.files ≡ Some files → read_of (Some files) (s ∷ ss) ≡ Long n) → Ends command (outcome_of_read n why) old now
ends_long command s ss is old now n reads.TooLong long =
    ends_read command s ss is (TooLong n) old now (λ files some. (Long n, long refl files some, (answered (TooLong n), refl, refl, tt)))
ends_long command s ss is old now n reads.Fault long = tt
ends_long command s ss is old now n reads.NoMemory long = tt

module _ (command : Command) (input : List ℕ) (ss : List Source) (is : sources_of command ≡ (0, input) ∷ ss) (old now : Outside) where
  -- the input was it
  pub ends_stopped : (why : ReadStop) → (why ≡ reads.TooLong → IfTold old input (λ file. FILE < length file)) → Ends command (outcome_of_read 0 why) old now
  ends_stopped why long = ends_long command (0, input) ss is old now 0 why (λ e files some.
      let f = told_of old input (λ (file : List ℕ). FILE < length file) files some (long e) in
      long_first files 0 input f.0 ss f.1 f.2)

  pub steady_stopped : (why : ReadStop) → (old.steady ≡ true → HasFile old input → why ≡ reads.Fault → ⊥) → IsSteady command (outcome_of_read 0 why) old
  steady_stopped reads.TooLong never = λ steady free defined. tt
  steady_stopped reads.NoMemory never = λ steady free defined. tt
  steady_stopped reads.Fault never = λ steady free defined.
      absurd (never steady (has_first old.files 0 input ss (subst (λ (all : List Source). IsReadable (read_of old.files all)) is defined)) refl)

-- ---- all were

-- a command that reads its input alone
module _ (command : Command) (input : List ℕ) (is : sources_of command ≡ (0, input) ∷ []) (D : List ℕ → Due → Type 0)
    (of : (files : Option Files) (d : Due) → D (bytes_in files input) d → IsDueOf command files d) where
  pub ends_one : (old now : Outside) (bytes : List ℕ) → IfTold old input (λ file. bytes ≡ file) → length bytes ≤ FILE → (r : Outcome)
      → Answers (D bytes) r old now → Ends command r old now
  ends_one old now bytes told few r a = ends_read command (0, input) [] is r old now (λ files some.
      let f = told_of old input (λ (file : List ℕ). bytes ≡ file) files some told in
      let whole : read_of (Some files) ((0, input) ∷ []) ≡ Whole = whole_first files 0 input f.0 [] f.1 (subst (λ (b : List ℕ). length b ≤ FILE) f.2 few) in
      let same : bytes ≡ bytes_in (Some files) input = f.2 ∙ sym (bytes_there files input f.0 f.1) in
      (Whole, whole, wider (D bytes) (IsDueOf command (Some files)) r old now (λ d due. of (Some files) d (subst (λ (b : List ℕ). D b d) same due)) a))

-- edits, which read others
module _ (input out : List ℕ) (edits : List EditWord) (old now : Outside) (bytes : List ℕ) (told : IfTold old input (λ file. bytes ≡ file))
    (few : length bytes ≤ FILE) where
  -- the first that was not read whole was one of those
  pub ends_unread : (n : ℕ) (why : ReadStop) → (why ≡ reads.TooLong → (files : Files) → old.files ≡ Some files
      → read_of (Some files) (sources_from 1 edits) ≡ Long n)
      → Ends (EditFile input out edits) (outcome_of_read n why) old now
  ends_unread n why long = ends_long (EditFile input out edits) (0, input) (sources_from 1 edits) refl old now n why (λ e files some.
      let f = told_of old input (λ (file : List ℕ). bytes ≡ file) files some told in
      whole_first files 0 input f.0 (sources_from 1 edits) f.1 (subst (λ (b : List ℕ). length b ≤ FILE) f.2 few) ∙ long e files some)

  pub ends_edits : (with : List Sourced) → ((files : Files) → old.files ≡ Some files → (read_of (Some files) (sources_from 1 edits) ≡ Whole)
      × (with ≡ map (sourced (Some files)) edits))
      → (r : Outcome) → Answers (IsDueOfFile (IsDueOfEdits with out) bytes) r old now → Ends (EditFile input out edits) r old now
  ends_edits with read r a = ends_read (EditFile input out edits) (0, input) (sources_from 1 edits) refl r old now (λ files some.
      let f = told_of old input (λ (file : List ℕ). bytes ≡ file) files some told in
      let rest = read files some in
      let whole : read_of (Some files) ((0, input) ∷ sources_from 1 edits) ≡ Whole =
      whole_first files 0 input f.0 (sources_from 1 edits) f.1 (subst (λ (b : List ℕ). length b ≤ FILE) f.2 few) ∙ rest.0 in
      let same : bytes ≡ bytes_in (Some files) input = f.2 ∙ sym (bytes_there files input f.0 f.1) in (
        Whole,
        whole,
        wider (IsDueOfFile (IsDueOfEdits with out) bytes) (IsDueOf (EditFile input out edits) (Some files)) r old now
            (λ d due. subst (λ (b : List ℕ). IsDueOfFile (IsDueOfEdits (map (sourced (Some files)) edits) out) b d) same
            (subst (λ (ws : List Sourced). IsDueOfFile (IsDueOfEdits ws out) bytes d) rest.1 due)) a,
      ))

-- what was made after a read was made
module _ {old mid now : Outside} {out : List ℕ} (only : ReadsOnly old mid) where
  pub made_along : {bytes : List ℕ} → IsMade mid out bytes now → IsMade old out bytes now
  made_along is = record {
    creating = is.creating;
    made = rw only.made at is.made;
    mark = rw only.mark at (rw only.made at is.mark);
  }

  pub made_along_in_part : {bytes : List ℕ} → IsUnmade mid now ⊎ IsMadeInPart mid out bytes now → IsUnmade old now ⊎ IsMadeInPart old out bytes now
  made_along_in_part (inl is) = inl (record { creating = is.creating ∙ only.creating; made = is.made ∙ only.made; mark = is.mark ∙ only.mark })
  made_along_in_part (inr is) = inr (record { front = is.front; rest = is.rest; whole = is.whole; made = made_along is.made })

-- nothing was said
pub unsaid : (old now : Outside) → now.said ≡ old.said → Said old [] now
unsaid old now same = let none = said_none old in record { said = same ∙ none.said }

-- ---- the words

-- where something is due, the files are told if any is read
told_where : (fs : Option Files) (ss : List Source) (P : Type 0) → IsReadable (read_of fs ss) → WhereTold fs ss P → P
told_where None [] P is p = p
told_where None (s ∷ ss) P is p = absurd is
told_where (Some files) ss P is p = p

due_in : (command : Command) (r : Outcome) (old now : Outside) → Ends command r old now → IsDefined (Ok command) old.files
    → Answers (IsDue (Ok command) old.files) r old now
due_in command Done old now ends defined = told_where old.files (sources_of command) _ defined ends
due_in command WriteFault old now ends defined = told_where old.files (sources_of command) _ defined ends
due_in command ReadFault old now ends defined = tt
due_in command NoMemory old now ends defined = tt
due_in command (Usage at) old now ends defined = told_where old.files (sources_of command) _ defined ends
due_in command (Unfit source why) old now ends defined = told_where old.files (sources_of command) _ defined ends
due_in command (Refused edit why) old now ends defined = told_where old.files (sources_of command) _ defined ends
due_in command (NoSuchItem id) old now ends defined = told_where old.files (sources_of command) _ defined ends
due_in command (TooLong source) old now ends defined = told_where old.files (sources_of command) _ defined ends

-- where neither a read nor a write failed, the answer is due
due_or : (Is : Due → Type 0) (r : Outcome) (old now : Outside) → NoFault r → Answers Is r old now → IsDueOrNoMemory Is r
due_or Is Done old now none (d, is, same, both) = inr (d, is, same, tt)
due_or Is WriteFault old now none a = absurd none
due_or Is ReadFault old now none a = absurd none
due_or Is NoMemory old now none a = inl refl
due_or Is (Usage at) old now none a = inr a
due_or Is (Unfit source why) old now none a = inr a
due_or Is (Refused edit why) old now none a = inr a
due_or Is (NoSuchItem id) old now none a = inr a
due_or Is (TooLong source) old now none a = inr a

no_fault : (r : Outcome) (old now : Outside) → HasCause r old now → (Rose old.read_faults now.read_faults → ⊥) → (Rose old.write_faults now.write_faults
    → ⊥) → NoFault r
no_fault Done old now cause reads writes = tt
no_fault WriteFault old now cause reads writes = absurd (writes cause)
no_fault ReadFault old now cause reads writes = absurd (reads cause)
no_fault NoMemory old now cause reads writes = tt
no_fault (Usage at) old now cause reads writes = tt
no_fault (Unfit source why) old now cause reads writes = tt
no_fault (Refused edit why) old now cause reads writes = tt
no_fault (NoSuchItem id) old now cause reads writes = tt
no_fault (TooLong source) old now cause reads writes = tt

-- the words are a command that ended so
module _ (read : Result Command ℕ) (command : Command) (is : read ≡ Ok command) (r : Outcome) (old now : Outside) (ends : Ends command r old now) where
  pub due_of_words : ForDue read old (λ Is. Answers Is r old now)
  due_of_words = subst (λ (read : Result Command ℕ). ForDue read old (λ Is. Answers Is r old now)) (sym is) (due_in command r old now ends)

  pub steady_of_words : IsSteady command r old → old.steady ≡ true → OutIsFree read old → ForDue read old (λ Is. IsDueOrNoMemory Is r)
  steady_of_words steady still free = subst (λ (read : Result Command ℕ). ForDue read old (λ Is. IsDueOrNoMemory Is r)) (sym is) (λ defined.
      due_or (IsDue (Ok command) old.files) r old now (steady still (subst (λ (read : Result Command ℕ). OutIsFree read old) is free) defined)
      (due_in command r old now ends defined))

  pub complete_of_words : HasCause r old now → (Rose old.read_faults now.read_faults → ⊥) → (Rose old.write_faults now.write_faults → ⊥)
      → ForDue read old (λ Is. IsDueOrNoMemory Is r)
  complete_of_words cause reads writes defined = due_or (IsDue read old.files) r old now (no_fault r old now cause reads writes) (due_of_words defined)

  -- and no other
  pub one_command : (other : Command) → read ≡ Ok other → Ends other r old now
  one_command other also =
      let same : command ≡ other = let both : Ok command ≡ Ok other = sym is ∙ also in cc in
      subst (λ (command : Command). Ends command r old now) same ends

-- words that are no command
pub usage_due : (read : Result Command ℕ) (old now : Outside) (at : ℕ) → read ≡ Err at → ForDue read old (λ Is. Answers Is (Usage at) old now)
usage_due read old now at e = subst (λ (read : Result Command ℕ). ForDue read old (λ Is. Answers Is (Usage at) old now)) (sym e) (λ defined. (
  answered
      (Usage at),
  refl,
  refl,
  tt,
))
