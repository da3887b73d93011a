-- The header of a box that is written.
use Rattle.std.proofs.Common.{◌≡◌, ℕ, ◌+◌, ◌^◌, ◌<◌, ◌≤◌, Bool, true, false, ◌&&◌, List, ◌∷◌, ◌++◌, length, take, drop, ltb, refl, sym, ap, ◌∙◌, append_assoc, arith, inl, inr}
use Rattle.std.proofs.lemmas.Bool.{lt-ltb, le-ltb, cases_lt}
use Rattle.std.proofs.lemmas.List.{take_at, drop_at, drop-drop, length-append}
use borrow.Rule.Slice.PartMut.{put_mid}
use Rattle.hf_base.specs.Number.{num}
use Rattle.hf_base.specs.NumberLaws.{length-num}
use Rattle.hf_base.specs.declared.four.FourCc.{FourCc}
use Rattle.hf_box.specs.Head.{box_len, box_head, box, head_len, written_at}
use Rattle.hf_box.specs.Boxes.{BoxAt, compact, long, is_nil, IsSpelling, IsBoxes}
use Rattle.hf_box.proofs.Spelled.{two_parts, three_parts}

pub front_is : (x s k out : List ℕ) → x ≡ s ++ drop 4 out → length s ≡ 4 → put_mid 4 4 x k ≡ (s ++ k) ++ drop 8 out
front_is x s k out e len =
    let a : take 4 x ≡ s = ap (take 4) e ∙ take_at s (drop 4 out) 4 len in
    let b : drop 4 x ≡ drop 4 out = ap (drop 4) e ∙ drop_at s (drop 4 out) 4 len in
    let c : drop 4 (drop 4 x) ≡ drop 8 out = ap (drop 4) b ∙ drop-drop 4 4 out in
    ap (λ (l : List ℕ). l ++ (k ++ drop 4 (drop 4 x))) a ∙ ap (λ (l : List ℕ). s ++ (k ++ l)) c ∙ sym (append_assoc s k (drop 8 out))

pub short_head : (kind : FourCc) (body : ℕ) (out rest : List ℕ) → length kind.0 ≡ 4 → body + 8 < 256 ^ 4 → out ≡ (num (body + 8) 4 ++ kind.0) ++ rest → take 8 out ≡ box_head kind body
unfolding box_head
short_head kind body out rest four lt e =
    let t : ltb (8 + body) (256 ^ 4) ≡ true = lt-ltb _ _ (omega arith) in
    let n : body + 8 ≡ 8 + body = omega arith in
    let len : length (num (body + 8) 4 ++ kind.0) ≡ 8 = omega (arith, length-append (num (body + 8) 4) kind.0, length-num 4 (body + 8)) in
    ap (take 8) e ∙ take_at (num (body + 8) 4 ++ kind.0) rest 8 len ∙ rw (t, n) refl

pub long_head : (kind : FourCc) (body : ℕ) (mid out rest after : List ℕ) → length kind.0 ≡ 4 → 256 ^ 4 ≤ body + 8 → mid ≡ (num 1 4 ++ kind.0) ++ rest → out ≡ (take 8 mid ++ num (body + 16) 8) ++ after → take 16 out ≡ box_head kind body
unfolding box_head
long_head kind body mid out rest after four le e f =
    let t : ltb (8 + body) (256 ^ 4) ≡ false = le-ltb _ _ (omega arith) in
    let n : body + 16 ≡ 16 + body = omega arith in
    let len : length (num 1 4 ++ kind.0) ≡ 8 = omega (arith, length-append (num 1 4) kind.0, length-num 4 1) in
    let front : take 8 mid ≡ num 1 4 ++ kind.0 = ap (take 8) e ∙ take_at (num 1 4 ++ kind.0) rest 8 len in
    let all : length ((num 1 4 ++ kind.0) ++ num (body + 16) 8) ≡ 16 = omega (arith, length-append (num 1 4 ++ kind.0) (num (body + 16) 8), length-num 8 (body + 16)) in
    ap (take 16) f ∙ ap (λ (l : List ℕ). take 16 ((l ++ num (body + 16) 8) ++ after)) front ∙ take_at ((num 1 4 ++ kind.0) ++ num (body + 16) 8) after 16 all ∙ rw (t, n) refl

-- a box is its header and its body
pub boxed : (kind : FourCc) (body : ℕ) (front content : List ℕ) → front ≡ box_head kind body → length content ≡ body → front ++ content ≡ box kind content
unfolding box
boxed kind body front content e len =
    ap (λ (l : List ℕ). l ++ content) (e ∙ ap (box_head kind) (sym len))

-- ---- a box is the shortest spelling

pub box-compact : (kind : FourCc) (body : List ℕ) → 8 + length body < 256 ^ 4 → box kind body ≡ compact kind body
unfolding box box_head
box-compact kind body lt =
    let t : ltb (8 + length body) (256 ^ 4) ≡ true = lt-ltb _ _ lt in
    rw t refl

pub box-long : (kind : FourCc) (body : List ℕ) → 256 ^ 4 ≤ 8 + length body → box kind body ≡ long kind body
unfolding box box_head
box-long kind body le =
    let t : ltb (8 + length body) (256 ^ 4) ≡ false = le-ltb _ _ le in
    rw t refl

box_len-compact : (body : ℕ) → 8 + body < 256 ^ 4 → box_len body ≡ 8 + body
unfolding box_len
box_len-compact body lt = let t : ltb (8 + body) (256 ^ 4) ≡ true = lt-ltb _ _ lt in rw t refl

box_len-long : (body : ℕ) → 256 ^ 4 ≤ 8 + body → box_len body ≡ 16 + body
unfolding box_len
box_len-long body le = let t : ltb (8 + body) (256 ^ 4) ≡ false = le-ltb _ _ le in rw t refl

pub length-box : (kind : FourCc) (body : List ℕ) → length kind.0 ≡ 4 → length (box kind body) ≡ box_len (length body)
length-box kind body four = elim (cases_lt (8 + length body) (256 ^ 4)) [
  | inl lt ↦ ap length (box-compact kind body lt) ∙ two_parts (num (8 + length body) 4) kind.0 body (length-num 4 (8 + length body)) four ∙ sym (box_len-compact (length body) lt)
  | inr le ↦ ap length (box-long kind body le) ∙ three_parts (num 1 4) kind.0 (num (16 + length body) 8) body (length-num 4 1) four (length-num 8 (16 + length body)) ∙ sym (box_len-long (length body) le)
]

-- ---- a box that is written is read

head_len-compact : (body : ℕ) → 8 + body < 256 ^ 4 → head_len body ≡ 8
unfolding head_len
head_len-compact body lt = let t : ltb (8 + body) (256 ^ 4) ≡ true = lt-ltb _ _ lt in rw t refl

head_len-long : (body : ℕ) → 256 ^ 4 ≤ 8 + body → head_len body ≡ 16
unfolding head_len
head_len-long body le = let t : ltb (8 + body) (256 ^ 4) ≡ false = le-ltb _ _ le in rw t refl

pub box-spells : (last : Bool) (place : ℕ) (kind : FourCc) (body : List ℕ) → 16 + length body < 256 ^ 8 → IsSpelling last (written_at place kind body) (box kind body)
box-spells last place kind body fits = elim (cases_lt (8 + length body) (256 ^ 4)) [
  | inl lt ↦ inl (head_len-compact (length body) lt, lt, box-compact kind body lt)
  | inr le ↦ inr (inl (head_len-long (length body) le, fits, box-long kind body le))
]

pub boxes-written : (bytes : List ℕ) (origin : ℕ) (top : Bool) (kind : FourCc) (body rest : List ℕ) (others : List BoxAt) → bytes ≡ box kind body ++ rest → length kind.0 ≡ 4 → 16 + length body < 256 ^ 8
    → IsBoxes rest (origin + length (box kind body)) top others → IsBoxes bytes origin top (written_at origin kind body ∷ others)
boxes-written bytes origin top kind body rest others whole four fits more =
    (box kind body, rest, whole, refl, four, box-spells (top && is_nil others) origin kind body fits, more)
