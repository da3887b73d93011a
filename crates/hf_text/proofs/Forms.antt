-- The words of one edit.
use Rattle.std.proofs.Common.{◌≡◌, ℕ, List, [], ◌∷◌, ◌++◌, length, drop, refl, sym, ap, ◌∙◌, arith}
use Rattle.std.specs.Prelude.{Ok, Err, codes, decimal}
use Rattle.std.specs.List.{AllByRecursion}
use Rattle.std.proofs.lemmas.List.{append-nil, drop_at}
use Rattle.hf_base.specs.declared.four.FourCc.{FourCc}
use Rattle.hf_text.specs.Words.{EditWord, Remove, Exif, Xmp, Thumb, Primary, Rotate, Mirror, Crop, Hide, Show, Drop, Form, IsEdit, IsNumber, IsKind, edit_forms, edit_read, words_of_edit, with_id, with_number, with_four, with_kind, with_file}
use Rattle.hf_text.proofs.Fronts.{StopsAt}
use Rattle.hf_text.proofs.Operands.{numbers, kinds, names, operand_back}
use Rattle.hf_text.proofs.Readers.{IsForm, IsReader, Starts, gives, one_more, stop_at, words_reads, words_stop}

-- the first k words are those of an edit
abbrev pub EditBegins : List (List ℕ) → ℕ → Type 0
EditBegins = Starts IsEdit words_of_edit

-- the words of the edit stand first
pub record EditReads (words : List (List ℕ)) (edit : EditWord) : Type 0 where
  pub fits : IsEdit edit
  pub whole : words ≡ words_of_edit edit ++ drop (length (words_of_edit edit)) words

first_words : (own words rest : List (List ℕ)) → words ≡ own ++ rest → words ≡ own ++ drop (length own) words
first_words own words rest is = is ∙ ap (λ (l : List (List ℕ)). own ++ l) (sym (drop_at own rest (length own) refl) ∙ sym (ap (drop (length own)) is))

-- no more words are read
edit_gives : (edit : EditWord) (front : List (List ℕ)) → IsEdit edit → words_of_edit edit ≡ front
    → IsReader IsEdit words_of_edit EditReads front (λ at words. Ok edit)
edit_gives edit front fits own =
    gives IsEdit words_of_edit EditReads edit front fits own (λ words rest here. record {
      fits = fits;
      whole = first_words (words_of_edit edit) words rest
          (here ∙ ap (λ (l : List (List ℕ)). l ++ rest) (sym own));
    })

abbrev IsEditForm : Form EditWord → Type 0
IsEditForm = IsForm IsEdit words_of_edit EditReads

module _ (name : List ℕ) where
  id_form : (make : ℕ → EditWord) → ((id : ℕ) → IsNumber id → IsEdit (make id)) → ((id : ℕ) → words_of_edit (make id) ≡ name ∷ decimal id ∷ [])
      → IsEditForm (with_id name make)
  id_form make fits is = one_more numbers (name ∷ []) (λ id small. edit_gives (make id) _ (fits id small) (is id)) 1 refl

  number_form : (make : ℕ → ℕ → EditWord) → ((id n : ℕ) → IsNumber id → IsNumber n → IsEdit (make id n))
      → ((id n : ℕ) → words_of_edit (make id n) ≡ name ∷ decimal id ∷ decimal n ∷ []) → IsEditForm (with_number name make)
  number_form make fits is =
      one_more numbers (name ∷ []) (λ id a.
      one_more numbers (name ∷ decimal id ∷ []) (λ n b. edit_gives (make id n) _ (fits id n a b) (is id n)) 2 refl) 1 refl

  kind_form : (make : ℕ → FourCc → EditWord) → ((id : ℕ) (kind : FourCc) → IsNumber id → IsKind kind → IsEdit (make id kind))
      → ((id : ℕ) (kind : FourCc) → words_of_edit (make id kind) ≡ name ∷ decimal id ∷ kind.0 ∷ []) → IsEditForm (with_kind name make)
  kind_form make fits is =
      one_more numbers (name ∷ []) (λ id a.
      one_more kinds (name ∷ decimal id ∷ []) (λ kind b. edit_gives (make id kind) _ (fits id kind a b) (is id kind)) 2 refl) 1 refl

  file_form : (make : ℕ → List ℕ → EditWord) → ((id : ℕ) (file : List ℕ) → IsNumber id → IsEdit (make id file))
      → ((id : ℕ) (file : List ℕ) → words_of_edit (make id file) ≡ name ∷ decimal id ∷ file ∷ []) → IsEditForm (with_file name make)
  file_form make fits is =
      one_more numbers (name ∷ []) (λ id a.
      one_more names (name ∷ decimal id ∷ []) (λ file b. edit_gives (make id file) _ (fits id file a) (is id file)) 2 refl) 1 refl

crops : IsEditForm (with_four (codes "crop") Crop)
crops =
    one_more numbers (codes "crop" ∷ []) (λ id a.
    one_more numbers (codes "crop" ∷ decimal id ∷ []) (λ x b.
    one_more numbers (codes "crop" ∷ decimal id ∷ decimal x ∷ []) (λ y c.
    one_more numbers (codes "crop" ∷ decimal id ∷ decimal x ∷ decimal y ∷ []) (λ w d.
    one_more numbers (codes "crop" ∷ decimal id ∷ decimal x ∷ decimal y ∷ decimal w ∷ []) (λ h e.
    edit_gives (Crop id x y w h) _ (a, b, c, d, e) refl)
    5 refl) 4 refl) 3 refl) 2 refl) 1 refl

removes : IsEditForm (with_id (codes "remove") Remove)
removes = id_form (codes "remove") Remove (λ id a. a) (λ id. refl)

exifs : IsEditForm (with_file (codes "exif") Exif)
exifs = file_form (codes "exif") Exif (λ id file a. a) (λ id file. refl)

xmps : IsEditForm (with_file (codes "xmp") Xmp)
xmps = file_form (codes "xmp") Xmp (λ id file a. a) (λ id file. refl)

thumbs : IsEditForm (with_file (codes "thumb") Thumb)
thumbs = file_form (codes "thumb") Thumb (λ id file a. a) (λ id file. refl)

primaries : IsEditForm (with_id (codes "primary") Primary)
primaries = id_form (codes "primary") Primary (λ id a. a) (λ id. refl)

rotates : IsEditForm (with_number (codes "rotate") Rotate)
rotates = number_form (codes "rotate") Rotate (λ id n a b. (a, b)) (λ id n. refl)

mirrors : IsEditForm (with_number (codes "mirror") Mirror)
mirrors = number_form (codes "mirror") Mirror (λ id n a b. (a, b)) (λ id n. refl)

hides : IsEditForm (with_id (codes "hide") Hide)
hides = id_form (codes "hide") Hide (λ id a. a) (λ id. refl)

shows : IsEditForm (with_id (codes "show") Show)
shows = id_form (codes "show") Show (λ id a. a) (λ id. refl)

drops : IsEditForm (with_kind (codes "drop") Drop)
drops = kind_form (codes "drop") Drop (λ id kind a b. (a, b)) (λ id kind. refl)

are_forms : AllByRecursion IsEditForm edit_forms
are_forms = (removes, (exifs, (xmps, (thumbs, (primaries, (rotates, (mirrors, (crops, (hides, (shows, (drops, tt)))))))))))

pub edit_reads : (at : ℕ) (words : List (List ℕ)) (edit : EditWord) → edit_read at words ≡ Ok edit → EditReads words edit
edit_reads at words edit e = words_reads IsEdit words_of_edit EditReads edit_forms at words edit are_forms e

-- ---- from the edit to its words

-- each word is read where it stands
pub edit_read-words : (at : ℕ) (edit : EditWord) (rest : List (List ℕ)) → IsEdit edit → edit_read at (words_of_edit edit ++ rest) ≡ Ok edit
edit_read-words at (Remove id) rest fits = rw (operand_back numbers at (codes "remove" ∷ []) id rest fits) refl
edit_read-words at (Exif id file) rest fits =
    rw (
      operand_back numbers at (codes "exif" ∷ []) id (file ∷ rest) fits,
      operand_back names at (codes "exif" ∷ decimal id ∷ []) file rest tt,
    ) refl
edit_read-words at (Xmp id file) rest fits =
    rw (
      operand_back numbers at (codes "xmp" ∷ []) id (file ∷ rest) fits,
      operand_back names at (codes "xmp" ∷ decimal id ∷ []) file rest tt,
    ) refl
edit_read-words at (Thumb id file) rest fits =
    rw (
      operand_back numbers at (codes "thumb" ∷ []) id (file ∷ rest) fits,
      operand_back names at (codes "thumb" ∷ decimal id ∷ []) file rest tt,
    ) refl
edit_read-words at (Primary id) rest fits = rw (operand_back numbers at (codes "primary" ∷ []) id rest fits) refl
edit_read-words at (Rotate id n) rest fits =
    rw (
      operand_back numbers at (codes "rotate" ∷ []) id (decimal n ∷ rest) fits.0,
      operand_back numbers at (codes "rotate" ∷ decimal id ∷ []) n rest fits.1,
    ) refl
edit_read-words at (Mirror id n) rest fits =
    rw (
      operand_back numbers at (codes "mirror" ∷ []) id (decimal n ∷ rest) fits.0,
      operand_back numbers at (codes "mirror" ∷ decimal id ∷ []) n rest fits.1,
    ) refl
edit_read-words at (Crop id x y w h) rest fits =
    rw (
      operand_back numbers at (codes "crop" ∷ []) id (decimal x ∷ decimal y ∷ decimal w ∷ decimal h ∷ rest) fits.0,
      operand_back numbers at (codes "crop" ∷ decimal id ∷ []) x (decimal y ∷ decimal w ∷ decimal h ∷ rest) fits.1,
      operand_back numbers at (codes "crop" ∷ decimal id ∷ decimal x ∷ []) y (decimal w ∷ decimal h ∷ rest) fits.2,
      operand_back numbers at (codes "crop" ∷ decimal id ∷ decimal x ∷ decimal y ∷ []) w (decimal h ∷ rest) fits.3,
      operand_back numbers at (codes "crop" ∷ decimal id ∷ decimal x ∷ decimal y ∷ decimal w ∷ []) h rest fits.4,
    ) refl
edit_read-words at (Hide id) rest fits = rw (operand_back numbers at (codes "hide" ∷ []) id rest fits) refl
edit_read-words at (Show id) rest fits = rw (operand_back numbers at (codes "show" ∷ []) id rest fits) refl
edit_read-words at (Drop id kind) rest fits =
    rw (
      operand_back numbers at (codes "drop" ∷ []) id (kind.0 ∷ rest) fits.0,
      operand_back kinds at (codes "drop" ∷ decimal id ∷ []) kind rest fits.1,
    ) refl

edit_back : (at : ℕ) (edit : EditWord) → IsEdit edit → edit_read at (words_of_edit edit) ≡ Ok edit
edit_back at edit fits = ap (edit_read at) (sym (append-nil (words_of_edit edit))) ∙ edit_read-words at edit [] fits

pub edit_stops : (at p : ℕ) (words : List (List ℕ)) → edit_read at words ≡ Err p → StopsAt (EditBegins words) at p
edit_stops at p words e =
    let s = words_stop IsEdit words_of_edit EditReads (Remove 0) (omega arith) edit_forms at p words are_forms e in
    stop_at (edit_read at) words at p (edit_back at) s
