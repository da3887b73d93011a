-- Reading boxes one after the other, as a loop does.
use Rattle.std.proofs.Common.{◌≡◌, ℕ, suc, ◌<◌, Bool, List, [], ◌∷◌, ◌++◌, length, Result, Ok, Err, refl, sym, ap, ◌∙◌, append_assoc, arith}
use Rattle.std.proofs.lemmas.List.{append-nil}
use Rattle.hf_base.specs.declared.fault.ReadRefusal.{ReadRefusal}
use Rattle.hf_base.specs.declared.fault.ReadRefusal.TheVariants.{TooManyBoxes}
use Rattle.hf_base.specs.Reading.{◌>>=◌}
use Rattle.hf_box.specs.Boxes.{end_of, BoxAt}
use Rattle.hf_box.specs.Framing.{box_at, frames_within}

-- what was read before, and what is still read
abbrev pub with_front : List BoxAt → Result (List BoxAt) ReadRefusal → Result (List BoxAt) ReadRefusal
with_front front read = read >>= λ x. Ok (front ++ x)

regroup : (front : List BoxAt) (b : BoxAt) (read : Result (List BoxAt) ReadRefusal) → with_front front (read >>= λ x. Ok (b ∷ x)) ≡ with_front (front ++ b ∷ []) read
regroup front b (Ok x) = ap (λ (bs : List BoxAt). Ok bs) (simp append_assoc)
regroup front b (Err e) = refl

-- one more box
one_more : (n : ℕ) (top : Bool) (at : ℕ) (bytes : List ℕ) (b : BoxAt) (after : List ℕ) → 0 < length bytes → box_at top at bytes ≡ Ok (b, after)
    → frames_within (suc n) top at bytes ≡ (frames_within n top (end_of b) after >>= λ x. Ok (b ∷ x))
unfolding frames_within
one_more n top at [] b after some h = absurd (omega arith)
one_more n top at (x ∷ xs) b after some h = rw h refl

pub goes_on : (front : List BoxAt) (limit n : ℕ) (top : Bool) (at next : ℕ) (bytes : List ℕ) (b : BoxAt) (after : List ℕ) (total : Result (List BoxAt) ReadRefusal)
    → 0 < length bytes → limit ≡ suc n → next ≡ end_of b → box_at top at bytes ≡ Ok (b, after)
    → with_front front (frames_within limit top at bytes) ≡ total → with_front (front ++ b ∷ []) (frames_within n top next after) ≡ total
goes_on front limit n top at next bytes b after total some k e h so_far =
    let one : with_front front (frames_within limit top at bytes) ≡ with_front (front ++ b ∷ []) (frames_within n top next after) = rw (k, one_more n top at bytes b after some h, e) (regroup front b (frames_within n top (end_of b) after)) in
    sym one ∙ so_far

pub fails : (front : List BoxAt) (limit n : ℕ) (top : Bool) (at : ℕ) (bytes : List ℕ) (e : ReadRefusal) (total : Result (List BoxAt) ReadRefusal)
    → 0 < length bytes → limit ≡ suc n → box_at top at bytes ≡ Err e → with_front front (frames_within limit top at bytes) ≡ total → total ≡ Err e
unfolding frames_within
fails front limit n top at [] e total some k h so_far = absurd (omega arith)
fails front limit n top at (x ∷ xs) e total some k h so_far =
    let one : with_front front (frames_within limit top at (x ∷ xs)) ≡ Err e = rw (k, h) refl in
    sym so_far ∙ one

pub is_full : (front : List BoxAt) (limit : ℕ) (top : Bool) (at : ℕ) (bytes : List ℕ) (total : Result (List BoxAt) ReadRefusal)
    → 0 < length bytes → limit ≡ 0 → with_front front (frames_within limit top at bytes) ≡ total → total ≡ Err (TooManyBoxes at)
unfolding frames_within
is_full front limit top at [] total some k so_far = absurd (omega arith)
is_full front limit top at (x ∷ xs) total some k so_far =
    let one : with_front front (frames_within limit top at (x ∷ xs)) ≡ Err (TooManyBoxes at) = rw k refl in
    sym so_far ∙ one

pub is_done : (front : List BoxAt) (limit : ℕ) (top : Bool) (at : ℕ) (bytes : List ℕ) (total : Result (List BoxAt) ReadRefusal)
    → length bytes ≡ 0 → with_front front (frames_within limit top at bytes) ≡ total → total ≡ Ok front
unfolding frames_within
is_done front limit top at [] total none so_far = sym so_far ∙ ap (λ (bs : List BoxAt). Ok bs) (append-nil front)
is_done front limit top at (x ∷ xs) total none so_far = absurd (omega arith)
