-- The files of edits, read one after the other.
use Rattle.std.proofs.Common.{◌≡◌, ℕ, ◌+◌, ◌<◌, ◌≤◌, List, [], ◌∷◌, ◌++◌, length, map, take, drop, get_or, refl, sym, ap, ◌∙◌, subst, arith, length-take, true}
use Rattle.std.specs.Prelude.{Option, Some, None, IfSome}
use Rattle.std.specs.Global.{Vec}
use Rattle.std.specs.List.{zip}
use Rattle.std.proofs.lemmas.List.{drop_more, map-append, take-append-drop, take_more}
use Rattle.hf_base.specs.declared.limits.TheConstants.{FILE}
use Rattle.hf_desk.specs.Calls.{IfTold, ReadsOnly, Rose}
use Rattle.hf_desk.specs.Outside.{Outside, Files}
use Rattle.hf_desk.specs.declared.read.ReadStop.{ReadStop}
use Rattle.hf_desk.specs.declared.read.ReadStop.TheVariants as stops
use Rattle.hf_text.specs.Commands.{edit_of}
use Rattle.hf_text.specs.Words.{EditFile, EditWord}
use Rattle.hf_text.specs.declared.edits.EditWord.{EditWord as PlacedEdit}
use Rattle.hf_app.specs.Answers.{IsSteady, NoFault}
use Rattle.hf_app.specs.Edits.{with_files}
use Rattle.hf_app.specs.Reads.{StopsReading}
use Rattle.hf_app.specs.Sources.{Source, Sourced, Readable, Long, Whole, IsReadable, content_of, read_of, read_then, source_of, sourced, sources_from}
use Rattle.hf_app.specs.Stops.{outcome_of_read}
use Rattle.hf_app.specs.declared.sources.Unread.{Unread}
use Rattle.hf_app.proofs.Reading.{at, long_at, readable_at, told_of, whole_first}

-- what holds of each value that there may be
pub each_some : {A : Type 0} (o : Option A) (P : A → Type 0) → ((x : A) → o ≡ Some x → P x) → IfSome o P
each_some None P each = tt
each_some (Some x) P each = each x refl

pub some_is : {A : Type 0} (o : Option A) (P : A → Type 0) → IfSome o P → (x : A) → o ≡ Some x → P x
some_is {A = A} o P all x is = subst (λ (o : Option A). IfSome o P) is all

rose_later : (a b c : ℕ) → a ≤ b → Rose b c → Rose a c
rose_later a b c le r = omega arith

-- the edit at a place, behind those whose files were read whole
module _ (told : Files) (ws : List EditWord) (i : ℕ) (w : EditWord) (less : i < length ws) (is_there : get_or ws i w ≡ w) (n : ℕ) (number : n ≡ i + 1)
    (before : read_of (Some told) (sources_from 1 (take i ws)) ≡ Whole) where
  whole : take i ws ++ w ∷ drop (i + 1) ws ≡ ws
  whole =
      ap (λ (v : EditWord). take i ws ++ v ∷ drop (i + 1) ws) (sym is_there)
      ∙ ap (λ (vs : List EditWord). take i ws ++ vs) (sym (drop_more ws i w less))
      ∙ take-append-drop i ws

  more : take i ws ++ w ∷ [] ≡ take (i + 1) ws
  more = ap (λ (v : EditWord). take i ws ++ v ∷ []) (sym is_there) ∙ sym (take_more ws i w less)

  placed : n ≡ 1 + length (take i ws)
  placed = omega (arith, number, less, length-take i ws)

  pub whole_more : read_of (Some told) (source_of n w) ≡ Whole → read_of (Some told) (sources_from 1 (take (i + 1) ws)) ≡ Whole
  whole_more one =
      ap (λ (vs : List EditWord). read_of (Some told) (sources_from 1 vs)) (sym more)
      ∙ at (Some told) (take i ws) [] w n placed before
      ∙ ap (λ (r : Readable). read_then r Whole) one

  pub long_now : (m : ℕ) → read_of (Some told) (source_of n w) ≡ Long m → read_of (Some told) (sources_from 1 ws) ≡ Long m
  long_now m long = ap (λ (vs : List EditWord). read_of (Some told) (sources_from 1 vs)) (sym whole)
      ∙ long_at (Some told) (take i ws) (drop (i + 1) ws) w n placed before m long

  pub readable_now : IsReadable (read_of (Some told) (sources_from 1 ws)) → IsReadable (read_of (Some told) (source_of n w))
  readable_now is = readable_at (Some told) (take i ws) (drop (i + 1) ws) w n placed before (subst (λ (vs : List EditWord). IsReadable (read_of (Some told)
      (sources_from 1 vs))) (sym whole) is)

  -- its bytes stand behind theirs
  pub content_more : (bytes : List ℕ) (all : List (List ℕ)) → bytes ≡ content_of (Some told) w → all ≡ map (content_of (Some told)) (take i ws)
      → all ++ bytes ∷ [] ≡ map (content_of (Some told)) (take (i + 1) ws)
  content_more bytes all one those =
      ap (λ (front : List (List ℕ)). front ++ bytes ∷ []) those
      ∙ ap (λ (b : List ℕ). map (content_of (Some told)) (take i ws) ++ b ∷ []) one
      ∙ sym (map-append (content_of (Some told)) (take i ws) (w ∷ []))
      ∙ ap (λ (vs : List EditWord). map (content_of (Some told)) vs) more

-- the first that is not read whole stops all
pub stops_now : (old mid new : Outside) (ws : List EditWord) (i : ℕ) (w : EditWord) → i < length ws → get_or ws i w ≡ w → (n : ℕ) → n ≡ i + 1
    → ReadsOnly old mid
    → ((told : Files) → old.files ≡ Some told → read_of (Some told) (sources_from 1 (take i ws)) ≡ Whole)
    → (m : ℕ) (why : ReadStop) → StopsReading mid (source_of n w) m why new → StopsReading old (sources_from 1 ws) m why new
stops_now old mid new ws i w less is_there n number only before m stops.TooLong is =
    each_some old.files (λ (told : Files). read_of (Some told) (sources_from 1 ws) ≡ Long m) (λ told some.
    long_now told ws i w less is_there n number (before told some) m (some_is mid.files (λ (told : Files). read_of (Some told)
    (source_of n w) ≡ Long m) is told (only.files ∙ some)))
stops_now old mid new ws i w less is_there n number only before m stops.Fault is = rose_later old.read_faults mid.read_faults new.read_faults only.later is
stops_now old mid new ws i w less is_there n number only before m stops.NoMemory is = tt

-- ---- a command of edits, behind its input

-- the files were told before
pub unread_long : (mid new : Outside) (ss : List Source) (n : ℕ) (why : ReadStop) (old : Outside) → mid.files ≡ old.files → StopsReading mid ss n why new
    → why ≡ stops.TooLong → (told : Files) → old.files ≡ Some told → read_of (Some told) ss ≡ Long n
unread_long mid new ss n stops.TooLong old same is e told some = some_is mid.files (λ (told : Files). read_of (Some told) ss ≡ Long n) is told (same ∙ some)
unread_long mid new ss n stops.Fault old same is e told some = absurd cc
unread_long mid new ss n stops.NoMemory old same is e told some = absurd cc

-- edits with the bytes of their files
zip-map : (f : EditWord → List ℕ) (ws : List EditWord) → zip ws (map f ws) ≡ map (λ (w : EditWord). (w, f w)) ws
zip-map f [] = refl
zip-map f (w ∷ ws) = ap (λ (rest : List Sourced). (w, f w) ∷ rest) (zip-map f ws)

pub sourced_files : (texts : List (List ℕ)) (edits : List PlacedEdit) (files : List (Vec ℕ)) (old mid : Outside) → mid.files ≡ old.files
    → IfSome mid.files (λ told. (read_of (Some told) (sources_from 1 (map (edit_of texts) edits)) ≡ Whole)
    × (map (λ (f : Vec ℕ). f.items) files ≡ map (content_of (Some told)) (map (edit_of texts) edits)))
    → (told : Files) → old.files ≡ Some told
    → (read_of (Some told) (sources_from 1 (map (edit_of texts) edits)) ≡ Whole)
    × (with_files texts edits files ≡ map (sourced (Some told)) (map (edit_of texts) edits))
sourced_files texts edits files old mid same read told some =
    let ws = map (edit_of texts) edits in
    let r = some_is mid.files (λ (told : Files). (read_of (Some told) (sources_from 1 ws) ≡ Whole)
    × (map (λ (f : Vec ℕ). f.items) files ≡ map (content_of (Some told)) ws)) read told (same ∙ some) in
    (r.0, ap (λ (contents : List (List ℕ)). zip ws contents) r.1 ∙ zip-map (content_of (Some told)) ws)

-- where a file is read and something is due, the files are told
told_some : (fs : Option Files) (n : ℕ) (name : List ℕ) (ss : List Source) → IsReadable (read_of fs ((n, name) ∷ ss)) → (told : Files) × (fs ≡ Some told)
told_some None n name ss is = absurd is
told_some (Some files) n name ss is = (files, refl)

no_fault_of : (n : ℕ) (why : ReadStop) → (why ≡ stops.Fault → ⊥) → NoFault (outcome_of_read n why)
no_fault_of n stops.TooLong never = tt
no_fault_of n stops.Fault never = absurd (never refl)
no_fault_of n stops.NoMemory never = tt

-- no read of a file that is there fails
pub steady_unread : (input out : List ℕ) (ws : List EditWord) (old mid : Outside) (bytes : List ℕ) → IfTold old input (λ file. bytes ≡ file)
    → length bytes ≤ FILE
    → ReadsOnly old mid → (unread : Unread)
    → (mid.steady ≡ true → (told : Files) → mid.files ≡ Some told → IsReadable (read_of (Some told) (sources_from 1 ws)) → unread.why ≡ stops.Fault → ⊥)
    → IsSteady (EditFile input out ws) (outcome_of_read unread.source unread.why) old
steady_unread input out ws old mid bytes told few only unread never = λ steady free defined.
    let f = told_some old.files 0 input (sources_from 1 ws) defined in
    no_fault_of unread.source unread.why (λ is.
    let file = told_of old input (λ (file : List ℕ). bytes ≡ file) f.0 f.1 told in
    let rest : read_of (Some f.0) ((0, input) ∷ sources_from 1 ws) ≡ read_of (Some f.0) (sources_from 1 ws) =
    whole_first f.0 0 input file.0 (sources_from 1 ws) file.1 (subst (λ (b : List ℕ). length b ≤ FILE) file.2 few) in
    never (only.steady ∙ steady) f.0 (only.files ∙ f.1)
    (subst IsReadable rest (subst (λ (fs : Option Files). IsReadable (read_of fs ((0, input) ∷ sources_from 1 ws))) f.1 defined)) is)
