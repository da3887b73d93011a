-- The length of an entry that is written, and its parts.
use Rattle.std.proofs.Common.{◌≡◌, ◌≤◌, ℕ, ◌+◌, ◌-◌, ◌<◌, ◌^◌, min, Bool, true, false, List, [], ◌∷◌, ◌++◌, length, ltb, refl, sym, ap, subst, ◌∙◌, append_assoc, length-append, arith, inl, inr}
use Rattle.std.proofs.lemmas.Bool.{lt-ltb, le-ltb, cases_lt}
use Rattle.std.proofs.lemmas.List.{append-nil}
use Rattle.hf_base.specs.declared.kinds.TheConstants.{INFE}
use Rattle.hf_base.specs.Number.{num}
use Rattle.hf_base.specs.NumberLaws.{length-num}
use Rattle.hf_base.specs.Reading.{full}
use Rattle.hf_box.specs.Head.{box_len}
use Rattle.hf_box.specs.Written.{bit, id_width, zero_ended}
use Rattle.hf_box.proofs.HeadLemmas.{box-compact, length-box}
use Rattle.hf_info.specs.Infe.{Info, infe_version, content_text, uri_text, infe_body, infe_box, infe_front}

pub length-zero_ended : (text : List ℕ) → length text + 1 ≡ length (zero_ended text)
length-zero_ended text = omega (arith, length-append text (num 0 1), length-num 1 0)

length-full : (version flags : ℕ) → length (full version flags) ≡ 4
length-full version flags = omega (arith, length-append (num version 1) (num flags 3), length-num 1 version, length-num 3 flags)

lengths : (a b c d e f g : List ℕ) → length ((((((a ++ b) ++ c) ++ d) ++ e) ++ f) ++ g) ≡ length a + length b + length c + length d + length e + length f + length g
lengths a b c d e f g = simp length-append refl

pub length-infe_body : (wide : Bool) (i : Info) → length (infe_body wide i) ≡ 6 + id_width wide + length i.kind.0 + length (zero_ended i.name) + length (content_text i) + length (uri_text i)
unfolding infe_body
length-infe_body wide i =
    let first = full (infe_version wide) (bit i.hidden) in
    let id = num i.id (id_width wide) in
    let all = lengths first id (num 0 2) i.kind.0 (zero_ended i.name) (content_text i) (uri_text i) in
    let a : length first ≡ 4 = length-full (infe_version wide) (bit i.hidden) in
    let b : length id ≡ id_width wide = length-num (id_width wide) i.id in
    let c : length (num 0 2) ≡ 2 = length-num 2 0 in
    sums (length (infe_body wide i)) (length first) (length id) (length (num 0 2)) (length i.kind.0) (id_width wide) (length (zero_ended i.name)) (length (content_text i)) (length (uri_text i)) all a b c
  where
    sums : (n a b c d w e f g : ℕ) → n ≡ a + b + c + d + e + f + g → a ≡ 4 → b ≡ w → c ≡ 2 → n ≡ 6 + w + d + e + f + g
    sums n a b c d w e f g all p q r = omega arith

-- numbers that stop at 2^64 - 1
pub capped_sum : (fields name content uri c first second third : ℕ) → c ≡ min content (2 ^ 64 - 1) → first ≡ min (fields + name) (2 ^ 64 - 1) → second ≡ min (first + c) (2 ^ 64 - 1) → third ≡ min (second + uri) (2 ^ 64 - 1)
    → third ≡ min (fields + name + content + uri) (2 ^ 64 - 1)
capped_sum fields name content uri c first second third e f g h = omega arith

pub capped_small : (body len : ℕ) → len ≡ min body (2 ^ 64 - 1) → len < 4294967288 → len + 8 ≡ min (box_len body) (2 ^ 64 - 1)
unfolding box_len
capped_small body len e lt = let t : ltb (8 + body) (256 ^ 4) ≡ true = lt-ltb _ _ (omega arith) in rw t (omega arith)

pub capped_large : (body len size : ℕ) → len ≡ min body (2 ^ 64 - 1) → 4294967288 ≤ len → size ≡ min (len + 16) (2 ^ 64 - 1) → size ≡ min (box_len body) (2 ^ 64 - 1)
unfolding box_len
capped_large body len size e le f = let t : ltb (8 + body) (256 ^ 4) ≡ false = le-ltb _ _ (omega arith) in rw t (omega arith)

pub length-infe_box : (wide : Bool) (i : Info) → length (infe_box wide i) ≡ box_len (length (infe_body wide i))
length-infe_box wide i = length-box INFE (infe_body wide i) refl

-- ---- the bytes

mark_is : (hidden : Bool) → num (bit hidden) 3 ≡ 0 ∷ 0 ∷ bit hidden ∷ []
unfolding num
mark_is true = refl
mark_is false = refl

pub narrow_front_is : (size : ℕ) (i : Info) → infe_front false size i ≡ num size 4 ++ INFE.0 ++ (num 2 1 ++ (0 ∷ 0 ∷ bit i.hidden ∷ [])) ++ num i.id 2 ++ num 0 2 ++ (i.kind.0 ++ [])
unfolding infe_front
narrow_front_is size i = rw (mark_is i.hidden, append-nil i.kind.0) refl

pub wide_front_is : (size : ℕ) (i : Info) → infe_front true size i ≡ num size 4 ++ INFE.0 ++ (num 3 1 ++ (0 ∷ 0 ∷ bit i.hidden ∷ [])) ++ num i.id 4 ++ num 0 2 ++ (i.kind.0 ++ [])
unfolding infe_front
wide_front_is size i = rw (mark_is i.hidden, append-nil i.kind.0) refl

parts : (size kind a b c d e f g : List ℕ) → ((((((size ++ kind) ++ a) ++ b) ++ c) ++ d) ++ (e ++ (f ++ g))) ≡ (size ++ kind) ++ ((((((a ++ b) ++ c) ++ d) ++ e) ++ f) ++ g)
parts size kind a b c d e f g = simp append_assoc refl

small_body : (body : ℕ) → box_len body ≤ 2 ^ 30 → 8 + body < 256 ^ 4
unfolding box_len
small_body body le = elim (cases_lt (8 + body) (256 ^ 4)) [
  | inl lt ↦ lt
  | inr more ↦
      let t : ltb (8 + body) (256 ^ 4) ≡ false = le-ltb _ _ more in
      let long : 16 + body ≤ 2 ^ 30 = rw t at le in
      absurd (omega arith)
]

small_size : (body size : ℕ) → box_len body ≤ 2 ^ 30 → size ≡ min (box_len body) (2 ^ 64 - 1) → size ≡ 8 + body
unfolding box_len
small_size body size le e =
    let t : ltb (8 + body) (256 ^ 4) ≡ true = lt-ltb _ _ (small_body body le) in
    let short : 8 + body ≤ 2 ^ 30 = rw t at le in
    let is : size ≡ min (8 + body) (2 ^ 64 - 1) = rw t at e in
    omega arith

-- the box is its front and its strings
pub front_whole : (wide : Bool) (size : ℕ) (i : Info) → length (infe_box wide i) ≤ 2 ^ 30 → size ≡ min (length (infe_box wide i)) (2 ^ 64 - 1)
    → infe_front wide size i ++ (zero_ended i.name ++ (content_text i ++ uri_text i)) ≡ infe_box wide i
unfolding infe_front infe_body
front_whole wide size i le e =
    let body = infe_body wide i in
    let len = length-infe_box wide i in
    let within : box_len (length body) ≤ 2 ^ 30 = subst (λ (n : ℕ). n ≤ 2 ^ 30) len le in
    let is : size ≡ 8 + length body = small_size (length body) size within (e ∙ ap (λ (n : ℕ). min n (2 ^ 64 - 1)) len) in
    let grouped = parts (num size 4) INFE.0 (full (infe_version wide) (bit i.hidden)) (num i.id (id_width wide)) (num 0 2) i.kind.0 (zero_ended i.name) (content_text i) (uri_text i) in
    grouped ∙ ap (λ (n : ℕ). (num n 4 ++ INFE.0) ++ body) is ∙ sym (box-compact INFE body (small_body (length body) within))
