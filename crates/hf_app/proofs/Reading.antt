-- Files that are read from the first one on.
use Rattle.std.proofs.Common.{◌≡◌, ℕ, ◌+◌, ◌<◌, ◌≤◌, List, [], ◌∷◌, ◌++◌, length, refl, sym, ap, ◌∙◌, subst, arith, append_assoc, true, false, Bool}
use Rattle.std.specs.Prelude.{Option, Some, None, IsSome, IsSomeAnd, IfSome, nat_lt, if◌then◌else◌}
use Rattle.std.proofs.lemmas.Bool.{lt-ltb, le-ltb}
use Rattle.hf_base.specs.declared.limits.TheConstants.{FILE}
use Rattle.hf_desk.specs.Outside.{Outside, Files, file_of}
use Rattle.hf_text.specs.Words.{EditWord}
use Rattle.hf_app.specs.Sources.{Source, Readable, Missing, Long, Whole, IsReadable, bytes_in, bytes_of, file_in, read_of, read_then, readable, source_of, sources_from}

-- ---- one file

pub readable_whole : (n : ℕ) (file : List ℕ) → length file ≤ FILE → readable n (Some file) ≡ Whole
readable_whole n file few =
    let no : nat_lt FILE (length file) ≡ false = le-ltb FILE (length file) few in
    ap (λ (b : Bool). if b then Long n else Whole) no

pub readable_long : (n : ℕ) (file : List ℕ) → FILE < length file → readable n (Some file) ≡ Long n
readable_long n file over =
    let yes : nat_lt FILE (length file) ≡ true = lt-ltb FILE (length file) over in
    ap (λ (b : Bool). if b then Long n else Whole) yes

-- what is told of a file that is there
pub told_of : (o : Outside) (name : List ℕ) (P : List ℕ → Type 0) (files : Files) → o.files ≡ Some files
    → IfSome o.files (λ files. (file : List ℕ) × (file_of files name ≡ Some file) × P file) → (file : List ℕ) × (file_of files name ≡ Some file) × P file
told_of o name P files is told = subst (λ (fs : Option Files). IfSome fs (λ files. (file : List ℕ) × (file_of files name ≡ Some file) × P file)) is told

-- a file that is read whole, and others
pub whole_first : (files : Files) (n : ℕ) (name file : List ℕ) (ss : List Source) → file_of files name ≡ Some file → length file ≤ FILE
    → read_of (Some files) ((n, name) ∷ ss) ≡ read_of (Some files) ss
whole_first files n name file ss there few =
    let one : readable n (file_of files name) ≡ Whole = ap (readable n) there ∙ readable_whole n file few in
    ap (λ (r : Readable). read_then r (read_of (Some files) ss)) one

-- the first one is too long
pub long_first : (files : Files) (n : ℕ) (name file : List ℕ) (ss : List Source) → file_of files name ≡ Some file → FILE < length file
    → read_of (Some files) ((n, name) ∷ ss) ≡ Long n
long_first files n name file ss there over =
    let one : readable n (file_of files name) ≡ Long n = ap (readable n) there ∙ readable_long n file over in
    ap (λ (r : Readable). read_then r (read_of (Some files) ss)) one

pub bytes_there : (files : Files) (name file : List ℕ) → file_of files name ≡ Some file → bytes_in (Some files) name ≡ file
bytes_there files name file there = ap bytes_of there

-- where something is due, the first file is there
some_first : (n : ℕ) (f : Option (List ℕ)) (rest : Readable) → IsReadable (read_then (readable n f) rest) → IsSome f
some_first n None rest is = absurd is
some_first n (Some file) rest is = refl

pub has_first : (fs : Option Files) (n : ℕ) (name : List ℕ) (ss : List Source) → IsReadable (read_of fs ((n, name) ∷ ss))
    → IsSomeAnd fs (λ files. IsSome (file_of files name))
has_first None n name ss is = absurd is
has_first (Some files) n name ss is = some_first n (file_of files name) (read_of (Some files) ss) is

-- and the others, if it is read whole
pub readable_rest : (r rest : Readable) → r ≡ Whole → IsReadable (read_then r rest) → IsReadable rest
readable_rest r rest whole is = subst (λ (r : Readable). IsReadable (read_then r rest)) whole is

-- ---- several files

readable_front : (r rest : Readable) → IsReadable (read_then r rest) → IsReadable r
readable_front Missing rest is = absurd is
readable_front (Long m) rest is = tt
readable_front Whole rest is = tt

read_then-assoc : (a b c : Readable) → read_then (read_then a b) c ≡ read_then a (read_then b c)
read_then-assoc Missing b c = refl
read_then-assoc (Long n) b c = refl
read_then-assoc Whole b c = refl

pub read_of-append : (fs : Option Files) (xs ys : List Source) → read_of fs (xs ++ ys) ≡ read_then (read_of fs xs) (read_of fs ys)
read_of-append fs [] ys = refl
read_of-append fs (s ∷ ss) ys =
    let first = readable s.0 (file_in fs s.1) in
    ap (λ (r : Readable). read_then first r) (read_of-append fs ss ys) ∙ sym (read_then-assoc first (read_of fs ss) (read_of fs ys))

pub sources_from-append : (n : ℕ) (xs ys : List EditWord) → sources_from n (xs ++ ys) ≡ sources_from n xs ++ sources_from (n + length xs) ys
sources_from-append n [] ys = ap (λ (k : ℕ). sources_from k ys) (omega arith)
sources_from-append n (w ∷ ws) ys =
    let more : n + 1 + length ws ≡ n + length (w ∷ ws) = omega arith in
    ap (λ (ss : List Source). source_of n w ++ ss) (sources_from-append (n + 1) ws ys ∙ ap (λ (k : ℕ). sources_from (n + 1) ws ++ sources_from k ys) more)
    ∙ sym (append_assoc (source_of n w) (sources_from (n + 1) ws) (sources_from (n + length (w ∷ ws)) ys))

-- the file of the edit at a place, behind those of the edits before it, and before the others
module _ (fs : Option Files) (front behind : List EditWord) (w : EditWord) (n : ℕ) (number : n ≡ 1 + length front)
    (before : read_of fs (sources_from 1 front) ≡ Whole) where
  pub at : read_of fs (sources_from 1 (front ++ w ∷ behind)) ≡ read_then (read_of fs (source_of n w)) (read_of fs (sources_from (n + 1) behind))
  at =
      ap (λ (ss : List Source). read_of fs ss) (sources_from-append 1 front (w ∷ behind))
      ∙ read_of-append fs (sources_from 1 front) (sources_from (1 + length front) (w ∷ behind))
      ∙ ap (λ (r : Readable). read_then r (read_of fs (sources_from (1 + length front) (w ∷ behind)))) before
      ∙ ap (λ (k : ℕ). read_of fs (sources_from k (w ∷ behind))) (sym number)
      ∙ read_of-append fs (source_of n w) (sources_from (n + 1) behind)

  -- it is the first that is too long
  pub long_at : (m : ℕ) → read_of fs (source_of n w) ≡ Long m → read_of fs (sources_from 1 (front ++ w ∷ behind)) ≡ Long m
  long_at m long = at ∙ ap (λ (r : Readable). read_then r (read_of fs (sources_from (n + 1) behind))) long

  -- where something is due, it is there
  pub readable_at : IsReadable (read_of fs (sources_from 1 (front ++ w ∷ behind))) → IsReadable (read_of fs (source_of n w))
  readable_at is = readable_front (read_of fs (source_of n w)) (read_of fs (sources_from (n + 1) behind)) (subst IsReadable at is)
