-- Edits that are read one after the other.
use Rattle.std.proofs.Common.{◌≡◌, ◌≤◌, ◌<◌, ◌≢◌, ◌+◌, ◌-◌, ℕ, suc, List, [], ◌∷◌, ◌++◌, length, drop, map, get_or, refl, sym, ap, ◌∙◌, arith, append_assoc, add-one, drop-cons, length-append, length-drop}
use Rattle.std.specs.Prelude.{Result, Ok, Err}
use Rattle.std.specs.Global.{Vec}
use Rattle.std.proofs.lemmas.Result.{IfOk-at_ok}
use Rattle.std.proofs.lemmas.List.{append-nil, drop-drop, drop_all, get_or-map, length-map}
use Rattle.hf_base.specs.declared.limits.TheConstants.{EDITS}
use Rattle.hf_base.specs.declared.fault.NoMemory.{NoMemory as NoRoom}
use Rattle.hf_text.specs.declared.edits.EditWord.{EditWord as PlacedEdit}
use Rattle.hf_text.specs.Words.{EditWord, words_of_edit, edit_forms, edit_read, edit_then, edits_from, edits_read, form_read}
use Rattle.hf_text.specs.Commands.{EditNamesWords, edit_of, HasEdits, Holds, IsPushed}
use Rattle.hf_text.proofs.Forms.{edit_reads}
use Rattle.hf_text.proofs.EditLaws.{edits_read-none, edits_read-some, edits_read-full}

-- the word at a place stands before those behind it
pub word_at : {X : Type 0} (f : X → List ℕ) (xs : List X) (at : ℕ) (word : X) → at < length xs → word ≡ get_or xs at word
    → drop at (map f xs) ≡ f word ∷ drop (at + 1) (map f xs)
word_at f xs at word less is =
    rw add-one (drop-cons (map f xs) at (f word) (omega (arith, less, length-map xs f)) ∙ ap (λ (w : List ℕ). w ∷ drop (suc at) (map f xs))
    (get_or-map f xs at word (f word) less ∙ ap f (sym is)))

-- the edit with the name that stands at a place
pub edit_named : {X : Type 0} (f : X → List ℕ) (xs : List X) (at : ℕ) (word : X) → at < length xs → word ≡ get_or xs at word
    → edit_read at (drop at (map f xs)) ≡ form_read edit_forms at (f word) (drop at (map f xs))
edit_named f xs at word less is =
    let here = word_at f xs at word less is in
    ap (edit_read at) here ∙ ap (form_read edit_forms at (f word)) (sym here)

-- edits before others
pub edits_before : List EditWord → Result (List EditWord) ℕ → Result (List EditWord) ℕ
edits_before edits (Ok more) = Ok (edits ++ more)
edits_before edits (Err at) = Err at

before_none : (read : Result (List EditWord) ℕ) → read ≡ edits_before [] read
unfolding edits_before
before_none (Ok edits) = refl
before_none (Err at) = refl

before_then : (edits : List EditWord) (edit : EditWord) (read : Result (List EditWord) ℕ)
    → edits_before edits (edit_then edit read) ≡ edits_before (edits ++ edit ∷ []) read
unfolding edits_before
before_then edits edit (Ok more) = ap Ok (sym (append_assoc edits (edit ∷ []) more))
before_then edits edit (Err at) = refl

all_read : List (List ℕ) → Result (List EditWord) ℕ
all_read words = edits_read EDITS 3 (drop 3 words)

-- these edits are held, unless memory was refused, and the words from `at` on give the others
pub record Progress (words : List (List ℕ)) (at count : ℕ) (held : Result (Vec PlacedEdit) NoRoom) : Type 0 where
  pub edits : List EditWord
  pub has : HasEdits words held edits
  pub few : count ≤ EDITS
  pub read : edits_read EDITS 3 (drop 3 words) ≡ edits_before edits (edits_read (EDITS - count) at (drop at words))

pub progress_start : (words : List (List ℕ)) (held : Result (Vec PlacedEdit) NoRoom) → HasEdits words held [] → Progress words 3 0 held
progress_start words held has = record { edits = []; has = has; few = omega arith; read = before_none _ }

module _ (words : List (List ℕ)) (at count : ℕ) (held : Result (Vec PlacedEdit) NoRoom) (p : Progress words at count held) where
  some_left : at < length words → 0 < length (drop at words)
  some_left less = omega (arith, length-drop at words)

  pub progress_full : at < length words → count ≡ EDITS → edits_read EDITS 3 (drop 3 words) ≡ Err at
  unfolding edits_before
  progress_full less full =
      let none : EDITS - count ≡ 0 = omega (arith, full) in
      p.read ∙ ap (edits_before p.edits) (ap (λ (n : ℕ). edits_read n at (drop at words)) none ∙ edits_read-full at (drop at words) (some_left less))

  step : at < length words → count ≢ EDITS
      → edits_read (EDITS - count) at (drop at words)
      ≡ edits_from (edit_read at (drop at words)) (λ (n : ℕ). edits_read (EDITS - (count + 1)) (at + n) (drop n (drop at words)))
  step less room =
      let one : EDITS - count ≡ suc (EDITS - (count + 1)) = omega (arith, p.few, room) in
      ap (λ (n : ℕ). edits_read n at (drop at words)) one ∙ edits_read-some (EDITS - (count + 1)) at (drop at words) (some_left less)

  pub progress_refused : (place : ℕ) → at < length words → count ≢ EDITS → edit_read at (drop at words) ≡ Err place
      → edits_read EDITS 3 (drop 3 words) ≡ Err place
  unfolding edits_before
  progress_refused place less room e =
      p.read ∙ ap (edits_before p.edits) (step less room ∙ ap (λ (r : Result EditWord ℕ). edits_from r
      (λ (n : ℕ). edits_read (EDITS - (count + 1)) (at + n) (drop n (drop at words)))) e)

  pub progress_more : (edit : PlacedEdit) (new : Result (Vec PlacedEdit) NoRoom) → at < length words → count ≢ EDITS
      → edit_read at (drop at words) ≡ Ok (edit_of words edit) → EditNamesWords words edit → IsPushed held edit new
      → Progress words (at + length (words_of_edit (edit_of words edit))) (count + 1) new
  progress_more edit new less room e named pushed =
      let n : ℕ = length (words_of_edit (edit_of words edit)) in
      let one : edits_read (EDITS - count) at (drop at words) ≡ edit_then (edit_of words edit)
      (edits_read (EDITS - (count + 1)) (at + n) (drop n (drop at words))) = step less room
      ∙ ap (λ (r : Result EditWord ℕ). edits_from r (λ (n : ℕ). edits_read (EDITS - (count + 1)) (at + n) (drop n (drop at words)))) e in
      record {
        edits = p.edits ++ edit_of words edit ∷ [];
        has = pushed words p.edits p.has named;
        few = omega (arith, p.few, room);
        read = p.read ∙ ap (edits_before p.edits) one ∙ before_then p.edits (edit_of words edit) _
            ∙ ap (λ (l : List (List ℕ)). edits_before (p.edits ++ edit_of words edit ∷ []) (edits_read (EDITS - (count + 1)) (at + n) l))
            (drop-drop n at words);
      }

  pub progress_end : length words ≤ at → edits_read EDITS 3 (drop 3 words) ≡ Ok p.edits
  unfolding edits_before
  progress_end past =
      p.read ∙ ap (edits_before p.edits) (ap (edits_read (EDITS - count) at) (drop_all at words past) ∙ edits_read-none (EDITS - count) at)
      ∙ ap Ok (append-nil p.edits)

-- an edit has no more words than there are
pub edit_within : (words : List (List ℕ)) (at : ℕ) (edit : EditWord) → at ≤ length words → edit_read at (drop at words) ≡ Ok edit
    → at + length (words_of_edit edit) ≤ length words
edit_within words at edit within e =
    let own = edit_reads at (drop at words) edit e in
    omega (arith, ap length own.whole, length-append (words_of_edit edit) (drop (length (words_of_edit edit)) (drop at words)), length-drop at words)

-- where memory was not refused they are held
pub held_edits : (words : List (List ℕ)) (held : Result (Vec PlacedEdit) NoRoom) (vec : Vec PlacedEdit) (edits : List EditWord) → held ≡ Ok vec
    → HasEdits words held edits → Holds words vec edits
held_edits words held vec edits is has = IfOk-at_ok (λ (v : Vec PlacedEdit). Holds words v edits) is has
