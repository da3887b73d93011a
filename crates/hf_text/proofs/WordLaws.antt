-- The words of a command, and where others stop to be one.
use Rattle.std.proofs.Common.{◌≡◌, ◌≤◌, ◌<◌, ◌+◌, ℕ, suc, Bool, true, false, List, [], ◌∷◌, ◌++◌, length, take, drop, map, get_or, refl, sym, ap, subst, ◌∙◌, arith, length-append, length-take-le}
use Rattle.std.specs.Prelude.{Result, Ok, Err, codes, decimal, is_ok}
use Rattle.std.specs.List.{flat_map, AllByRecursion}
use Rattle.std.proofs.lemmas.List.{take_at, take-append-drop}
use Rattle.hf_base.specs.declared.limits.TheConstants.{EDITS}
use Rattle.hf_text.specs.Words.{EditWord, Command, Boxes, ListFile, CheckFile, Extract, EditFile, Redact, Trial, Form, IsCommand, words_of_edit, words_of, Reads, Begins, IsUsageAt, ◌and_then◌, edit_form, edits_read, end_in, extract_form, operand, redact_form, short_forms, trial_form, with_input, command_read}
use Rattle.hf_text.specs.Commands.{AreRead, IsRead}
use Rattle.hf_text.specs.declared.words.WordsFault.{WordsFault}
use Rattle.hf_text.specs.declared.words.WordsFault.TheVariants.{Usage, NoMemory}
use Rattle.hf_text.proofs.Fronts.{Fronts, Fronts-drop, Fronts-more, StopsAt}
use Rattle.hf_text.proofs.EditLaws.{EditsBegin, edits_read-words, edits_reads, edits_stop}
use Rattle.hf_text.proofs.Operands.{numbers, counts, names, bares, operand_back, end_back}
use Rattle.hf_text.proofs.Readers.{IsForm, IsReader, Starts, Stops, ends, ends_or, one_more, starts_own, stop_at, words_reads, words_stop}

-- ---- the forms of commands

abbrev IsCommandForm : Form Command → Type 0
IsCommandForm = IsForm IsCommand words_of Reads

abbrev Reader : List (List ℕ) → (ℕ → List (List ℕ) → Result Command ℕ) → Type 0
Reader = IsReader IsCommand words_of Reads

-- no word stands behind those of a command
command_ends : (command : Command) (i : ℕ) → IsCommand command → length (words_of command) ≡ i
    → Reader (words_of command) (λ at words. end_in at words i and_then λ end. Ok command)
command_ends command i fits here = ends IsCommand words_of Reads command (words_of command) fits refl (fits, refl) i here

input_form : (name : List ℕ) (make : List ℕ → Command) → ((input : List ℕ) → IsCommand (make input))
    → ((input : List ℕ) → words_of (make input) ≡ name ∷ input ∷ []) → IsCommandForm (with_input name make)
input_form name make fits is =
    one_more names (name ∷ []) (λ input a.
    ends IsCommand words_of Reads (make input) (name ∷ input ∷ []) (fits input) (is input) (fits input, sym (is input)) 2 refl)
    1 refl

extracts : IsCommandForm extract_form
extracts =
    one_more names (codes "extract" ∷ []) (λ input a.
    one_more numbers (codes "extract" ∷ input ∷ []) (λ id b.
    one_more names (codes "extract" ∷ input ∷ decimal id ∷ []) (λ out c. command_ends (Extract input id out) 4 b refl)
    3 refl) 2 refl) 1 refl

trials : IsCommandForm trial_form
trials =
    one_more numbers (codes "trial" ∷ []) (λ seed a.
    one_more counts (codes "trial" ∷ decimal seed ∷ []) (λ n b.
    one_more names (codes "trial" ∷ decimal seed ∷ decimal n ∷ []) (λ out c. command_ends (Trial seed n out) 4 (a, b) refl)
    3 refl) 2 refl) 1 refl

bare_ends : (input out : List ℕ) (bare : Bool) → bare ≡ true
    → Reader (codes "redact" ∷ input ∷ out ∷ codes "bare" ∷ []) (λ at words. end_in at words 4 and_then λ end. Ok (Redact input out bare))
bare_ends input out true is = command_ends (Redact input out true) 4 tt refl
bare_ends input out false is = absurd (cc)

-- the words end, or go on with `bare`
redacts : IsCommandForm redact_form
redacts =
    one_more names (codes "redact" ∷ []) (λ input a.
    one_more names (codes "redact" ∷ input ∷ []) (λ out b.
    ends_or IsCommand words_of Reads (Redact input out false) (codes "redact" ∷ input ∷ out ∷ []) tt refl (tt, refl) _
    (one_more bares (codes "redact" ∷ input ∷ out ∷ []) (bare_ends input out) 3 refl) 3 refl)
    2 refl) 1 refl

-- edits stand behind the files
module _ (input out : List ℕ) where
  abbrev front : List (List ℕ)
  front = codes "edit" ∷ input ∷ out ∷ []

  abbrev pub all_edits : Result (List EditWord) ℕ → Result Command ℕ
  all_edits read = read and_then λ edits. Ok (EditFile input out edits)

  front_first : (words rest : List (List ℕ)) → words ≡ front ++ rest → words ≡ front ++ drop 3 words
  front_first words rest here = here ∙ ap (λ (l : List (List ℕ)). front ++ l) (sym (ap (drop 3) here))

  edits_read_so : (place : ℕ) (words rest : List (List ℕ)) (command : Command) (read : Result (List EditWord) ℕ) → words ≡ front ++ rest
      → edits_read EDITS place (drop 3 words) ≡ read → all_edits read ≡ Ok command
      → Reads words command
  edits_read_so place words rest command (Err at) here r e = absurd (cc)
  edits_read_so place words rest command (Ok edits) here r e =
      let same : EditFile input out edits ≡ command = cc in
      let all = edits_reads EDITS place (drop 3 words) edits r in
      subst (Reads words) same ((all.fits, all.few), front_first words rest here ∙ ap (λ (l : List (List ℕ)). front ++ l) all.whole)

  begin_edits : (words rest : List (List ℕ)) (k : ℕ) → words ≡ front ++ rest → EditsBegin EDITS (drop 3 words) k → Starts IsCommand words_of words (3 + k)
  begin_edits words rest k here b = record {
    value = EditFile input out b.edits;
    fits = (b.fits, b.few);
    fronts =
        let f : Fronts (3 + k) (front ++ drop 3 words) (front ++ flat_map words_of_edit b.edits) = Fronts-more front b.fronts in
        subst (λ (l : List (List ℕ)). Fronts (3 + k) l (front ++ flat_map words_of_edit b.edits)) (sym (front_first words rest here)) f;
  }

  -- no edits go on as these words do
  edits_refused : (place k : ℕ) (words others : List (List ℕ)) (command : Command) (read : Result (List EditWord) ℕ)
      → ((j : ℕ) → EditsBegin EDITS (drop 3 words) j → j ≤ k) → Fronts (suc (3 + k)) words others
      → edits_read EDITS place (drop 3 others) ≡ read → all_edits read ≡ Ok command → ⊥
  edits_refused place k words others command (Err at) most f r e = absurd (cc)
  edits_refused place k words others command (Ok edits) most f r e =
      let all = edits_reads EDITS place (drop 3 others) edits r in
      let one : suc (3 + k) ≡ 3 + suc k = omega arith in
      let behind = Fronts-drop 3 (suc k) words others (subst (λ (n : ℕ). Fronts n words others) one f) in
      let small = most (suc k) (record { edits = edits; fits = all.fits; few = all.few; fronts = subst (Fronts (suc k) (drop 3 words)) all.whole behind }) in
      absurd (omega (arith, small))

  edits_stop_so : (at p : ℕ) (words rest : List (List ℕ)) (read : Result (List EditWord) ℕ) → words ≡ front ++ rest
      → edits_read EDITS (at + 3) (drop 3 words) ≡ read → all_edits read ≡ Err p
      → Stops IsCommand words_of (λ (l : List (List ℕ)). all_edits (edits_read EDITS (at + 3) (drop 3 l))) (length front) words at p
  edits_stop_so at p words rest (Ok edits) here r e = absurd (cc)
  edits_stop_so at p words rest (Err q) here r e =
      let s = edits_stop EDITS (at + 3) q (drop 3 words) r in
      let same : q ≡ p = cc in
      record {
        k = 3 + s.k;
        past = omega arith;
        place = omega (arith, same, s.place);
        starts = begin_edits words rest s.k here s.begins;
        refused = λ others x f read. edits_refused (at + 3) s.k words others x (edits_read EDITS (at + 3) (drop 3 others)) s.most f refl read;
      }

  edits_behind : Reader front (λ at words. all_edits (edits_read EDITS (at + 3) (drop 3 words)))
  edits_behind = record {
    some = starts_own front (EditFile input out []) (tt, omega arith) refl;
    reads = λ at words rest command here e. edits_read_so (at + 3) words rest command (edits_read EDITS (at + 3) (drop 3 words)) here refl e;
    stops = λ at p words rest here e. edits_stop_so at p words rest (edits_read EDITS (at + 3) (drop 3 words)) here refl e;
  }

edit_files : IsCommandForm edit_form
edit_files = one_more names (codes "edit" ∷ []) (λ input a. one_more names (codes "edit" ∷ input ∷ []) (λ out b. edits_behind input out) 2 refl) 1 refl

boxes_form : IsCommandForm (with_input (codes "boxes") Boxes)
boxes_form = input_form (codes "boxes") Boxes (λ input. tt) (λ input. refl)

list_form : IsCommandForm (with_input (codes "list") ListFile)
list_form = input_form (codes "list") ListFile (λ input. tt) (λ input. refl)

check_form : IsCommandForm (with_input (codes "check") CheckFile)
check_form = input_form (codes "check") CheckFile (λ input. tt) (λ input. refl)

are_forms : AllByRecursion IsCommandForm (edit_form ∷ short_forms)
are_forms = (edit_files, (boxes_form, (list_form, (check_form, (extracts, (redacts, (trials, tt)))))))

-- ---- from the command to its words

input_back : (name input : List ℕ) (make : List ℕ → Command) → (with_input name make).read 0 (name ∷ input ∷ []) ≡ Ok (make input)
input_back name input make = rw (operand_back names 0 (name ∷ []) input [] tt, end_back 0 2 (name ∷ input ∷ []) (omega arith)) refl

pub words-command : (command : Command) → IsCommand command → command_read (words_of command) ≡ Ok command
words-command (Boxes input) fits = input_back (codes "boxes") input Boxes
words-command (ListFile input) fits = input_back (codes "list") input ListFile
words-command (CheckFile input) fits = input_back (codes "check") input CheckFile
words-command (Extract input id out) fits =
    let words : List (List ℕ) = words_of (Extract input id out) in
    rw (
      operand_back names 0 (codes "extract" ∷ []) input (decimal id ∷ out ∷ []) tt,
      operand_back numbers 0 (codes "extract" ∷ input ∷ []) id (out ∷ []) fits,
      operand_back names 0 (codes "extract" ∷ input ∷ decimal id ∷ []) out [] tt,
      end_back 0 4 words (omega arith),
    ) refl
words-command (EditFile input out edits) fits =
    let rest : List (List ℕ) = flat_map words_of_edit edits in
    rw (
      operand_back names 0 (codes "edit" ∷ []) input (out ∷ rest) tt,
      operand_back names 0
          (codes "edit" ∷ input ∷ []) out rest tt,
      edits_read-words EDITS 3 edits fits.0 fits.1,
    ) refl
words-command (Redact input out false) fits =
    rw (operand_back names 0 (codes "redact" ∷ []) input (out ∷ []) tt, operand_back names 0 (codes "redact" ∷ input ∷ []) out [] tt) refl
words-command (Redact input out true) fits =
    let words : List (List ℕ) = words_of (Redact input out true) in
    rw (
      operand_back names 0 (codes "redact" ∷ []) input (out ∷ codes "bare" ∷ []) tt,
      operand_back names 0 (codes "redact" ∷ input ∷ []) out (codes "bare" ∷ []) tt,
      operand_back bares 0 (codes "redact" ∷ input ∷ out ∷ []) true [] refl,
      end_back 0 4 words (omega arith),
    ) refl
words-command (Trial seed n out) fits =
    let words : List (List ℕ) = words_of (Trial seed n out) in
    rw (
      operand_back numbers 0 (codes "trial" ∷ []) seed (decimal n ∷ out ∷ []) fits.0,
      operand_back counts 0 (codes "trial" ∷ decimal seed ∷ []) n (out ∷ []) fits.1,
      operand_back names 0 (codes "trial" ∷ decimal seed ∷ decimal n ∷ []) out [] tt,
      end_back 0 4 words (omega arith),
    ) refl

pub reads-command : (words : List (List ℕ)) (command : Command) → Reads words command → command_read words ≡ Ok command
reads-command words command r = ap command_read r.1 ∙ words-command command r.0

-- and back

pub command-reads : (words : List (List ℕ)) (command : Command) → command_read words ≡ Ok command → Reads words command
command-reads words command e = words_reads IsCommand words_of Reads (edit_form ∷ short_forms) 0 words command are_forms e

-- ---- where no command reads

abbrev CommandBegins : List (List ℕ) → ℕ → Type 0
CommandBegins = Starts IsCommand words_of

from_begins : (words : List (List ℕ)) (k : ℕ) → Begins words k → CommandBegins words k
from_begins words k (command, fits, rest, e, within) =
    let len : length (take k words) ≡ k = length-take-le k words within in
    record {
      value = command;
      fits = fits;
      fronts = record {
        same = sym (take_at (take k words) rest k len) ∙ ap (take k) e;
        within = within;
        short = omega (arith, ap length e, length-append (take k words) rest);
      };
    }

to_begins : (words : List (List ℕ)) (k : ℕ) → CommandBegins words k → Begins words k
to_begins words k b =
    let whole : List (List ℕ) = words_of b.value in
    (b.value, b.fits, drop k whole, ap (λ (l : List (List ℕ)). l ++ drop k whole) b.fronts.same ∙ take-append-drop k whole, b.fronts.within)

command_stop : (words : List (List ℕ)) (p : ℕ) → command_read words ≡ Err p → StopsAt (CommandBegins words) 0 p
command_stop words p e = stop_at command_read words 0 p words-command (words_stop IsCommand words_of Reads (Boxes []) tt
    (edit_form ∷ short_forms) 0 p words are_forms e)

pub usage-at : (words : List (List ℕ)) (p : ℕ) → command_read words ≡ Err p → IsUsageAt words p
usage-at words p e =
    let s = command_stop words p e in
    let same : s.k ≡ p = omega (arith, s.place) in
    subst (IsUsageAt words) same (record { begins = to_begins words s.k s.begins; most = λ j b. s.most j (from_begins words j b) })

pub usage-none : (words : List (List ℕ)) (p : ℕ) → command_read words ≡ Err p → (command : Command) → Reads words command → ⊥
usage-none words p e command r = let read = reads-command words command r in absurd (cc)

pub at-usage : (words : List (List ℕ)) (p : ℕ) (read : Result Command ℕ) → command_read words ≡ read → ((command : Command) → Reads words command → ⊥)
    → IsUsageAt words p → read ≡ Err p
at-usage words p (Ok command) e none is = absurd (none command (command-reads words command e))
at-usage words p (Err q) e none is =
    let other = usage-at words q e in
    let same : q ≡ p = omega (arith, is.most q other.begins, other.most p is.begins) in
    ap Err same

-- ---- the words of `edit` as they are read

module _ {X : Type 0} (f : X → List ℕ) where
  pub edit_short : (xs : List X) → 1 ≤ length xs → length xs < 3 → edit_form.read 0 (map f xs) ≡ Err (length xs)
  unfolding operand
  edit_short [] some few = absurd (omega arith)
  edit_short (x ∷ []) some few = refl
  edit_short (x ∷ y ∷ []) some few = refl
  edit_short (x ∷ y ∷ z ∷ xs) some few = absurd (omega arith)

  pub edit_long : (xs : List X) → 3 ≤ length xs
      → edit_form.read 0 (map f xs) ≡ all_edits (get_or (map f xs) 1 []) (get_or (map f xs) 2 []) (edits_read EDITS 3 (drop 3 (map f xs)))
  unfolding operand
  edit_long [] long = absurd (omega arith)
  edit_long (x ∷ []) long = absurd (omega arith)
  edit_long (x ∷ y ∷ []) long = absurd (omega arith)
  edit_long (x ∷ y ∷ z ∷ xs) long = refl

-- what is answered of edits that are not read
pub edits_fault : (words : List (List ℕ)) (input out : List ℕ) (whole : Result Command ℕ) (read : Result (List EditWord) ℕ) (fault : WordsFault)
    → whole ≡ all_edits input out read → AreRead words read (Err fault)
    → IsRead words whole (Err fault)
edits_fault words input out whole read (Usage at) is e = is ∙ ap (all_edits input out) e
edits_fault words input out whole (Ok edits) NoMemory is e = ap is_ok is
edits_fault words input out whole (Err at) NoMemory is e = absurd (cc)
