-- One box: what is read at the front is spelled there, and what is spelled there is read.
use Rattle.std.proofs.Common.{◌≡◌, ℕ, ◌-◌, ◌+◌, ◌^◌, ◌≤◌, ◌<◌, Bool, true, false, cond, List, [], ◌++◌, length, take, drop, Result, Ok, Err, refl, sym, ap, subst, ◌∙◌, append_assoc, arith, inl, inr, ◌⊎◌}
use Rattle.std.proofs.lemmas.List.{take-append-drop, length-append, length-take-le, length-drop, take_at, drop_at, take-take, drop-take, drop-drop, append-nil, drop_all}
use Rattle.hf_base.specs.declared.four.FourCc.{FourCc}
use Rattle.hf_base.specs.declared.fault.ReadRefusal.{ReadRefusal}
use Rattle.hf_base.specs.declared.fault.ReadRefusal.TheVariants.{OpenSize}
use Rattle.hf_base.specs.Number.{IsBytes, num, number}
use Rattle.hf_base.specs.NumberLaws.{num-number, number-num, length-num, number-below}
use Rattle.hf_base.specs.Reading.{four_at}
use Rattle.hf_base.specs.ReadingLaws.{IsBytes-drop}
use Rattle.hf_box.specs.Boxes.{BoxAt, compact, long, open_ended, IsSpelling}
use Rattle.hf_box.specs.Framing.{cut, box_at}
use Rattle.hf_box.proofs.Box.{Cuts, cut_box, cut_ok, cut_again, Way, few, half, opened, longer, plain, way, open_at, long_at, compact_at}

-- ---- what is read is spelled

-- the text of n bytes, cut after four and eight
cut_text : (n : ℕ) (bytes : List ℕ) → 8 ≤ n → n ≤ length bytes → take n bytes ≡ (take 4 bytes ++ take 4 (drop 4 bytes)) ++ drop 8 (take n bytes)
cut_text n bytes low high =
    let t : List ℕ = take n bytes in
    let m : n ≡ 4 + (n - 4) = omega arith in
    let first : take 4 t ≡ take 4 bytes = take-take 4 n bytes (omega arith) in
    let behind : drop 4 t ≡ take (n - 4) (drop 4 bytes) = ap (λ (k : ℕ). drop 4 (take k bytes)) m ∙ drop-take 4 (n - 4) bytes in
    let second : take 4 (drop 4 t) ≡ take 4 (drop 4 bytes) = ap (take 4) behind ∙ take-take 4 (n - 4) (drop 4 bytes) (omega arith) in
    let third : drop 4 (drop 4 t) ≡ drop 8 t = drop-drop 4 4 t in
    sym (take-append-drop 4 t)
    ∙ ap (λ (r : List ℕ). take 4 t ++ r) (sym (take-append-drop 4 (drop 4 t)))
    ∙ sym (append_assoc (take 4 t) (take 4 (drop 4 t)) (drop 4 (drop 4 t)))
    ∙ ap (λ (r : List ℕ). (take 4 t ++ take 4 (drop 4 t)) ++ r) third
    ∙ ap (λ (r : List ℕ). (r ++ take 4 (drop 4 t)) ++ drop 8 t) first
    ∙ ap (λ (r : List ℕ). (take 4 bytes ++ r) ++ drop 8 t) second

-- the same, cut once more after sixteen
cut_longer : (n : ℕ) (bytes : List ℕ) → 16 ≤ n → n ≤ length bytes
    → take n bytes ≡ ((take 4 bytes ++ take 4 (drop 4 bytes)) ++ take 8 (drop 8 bytes)) ++ drop 16 (take n bytes)
cut_longer n bytes low high =
    let t : List ℕ = take n bytes in
    let m : n ≡ 8 + (n - 8) = omega arith in
    let behind : drop 8 t ≡ take (n - 8) (drop 8 bytes) = ap (λ (k : ℕ). drop 8 (take k bytes)) m ∙ drop-take 8 (n - 8) bytes in
    let third : take 8 (drop 8 t) ≡ take 8 (drop 8 bytes) = ap (take 8) behind ∙ take-take 8 (n - 8) (drop 8 bytes) (omega arith) in
    let last : drop 8 (drop 8 t) ≡ drop 16 t = drop-drop 8 8 t in
    let front : List ℕ = take 4 bytes ++ take 4 (drop 4 bytes) in
    cut_text n bytes (omega arith) high
    ∙ ap (λ (r : List ℕ). front ++ r) (sym (take-append-drop 8 (drop 8 t)))
    ∙ sym (append_assoc front (take 8 (drop 8 t)) (drop 8 (drop 8 t)))
    ∙ ap (λ (r : List ℕ). (front ++ take 8 (drop 8 t)) ++ r) last
    ∙ ap (λ (r : List ℕ). (front ++ r) ++ drop 16 t) third

size_is : (n : ℕ) (bytes : List ℕ) → IsBytes bytes → 8 ≤ length bytes → number 4 bytes ≡ n → take 4 bytes ≡ num n 4
size_is n bytes fits len is = sym (num-number 4 bytes fits (omega arith)) ∙ ap (λ (k : ℕ). num k 4) is

-- what was read from the front
pub record Takes (top : Bool) (at : ℕ) (bytes : List ℕ) (x : BoxAt × List ℕ) : Type 0 where
  pub text : List ℕ
  pub whole : bytes ≡ text ++ x.1
  pub place : x.0.at ≡ at
  pub four : length x.0.kind.0 ≡ 4
  pub spelled : IsSpelling false x.0 text ⊎ ((x.1 ≡ []) × IsSpelling top x.0 text)
  pub ends : x.0.at + x.0.head + length x.0.body ≡ at + length text
  pub some : 0 < length text

kind_len : (bytes : List ℕ) → 8 ≤ length bytes → length (four_at 4 bytes).0 ≡ 4
kind_len bytes len = length-take-le 4 (drop 4 bytes) (omega (arith, length-drop 4 bytes))

takes_plain : (top : Bool) (at n : ℕ) (bytes : List ℕ) (x : BoxAt × List ℕ) → IsBytes bytes → 8 ≤ length bytes → number 4 bytes ≡ n → Cuts 8 n at bytes x → Takes top at bytes x
takes_plain top at n bytes x fits len is c =
    let t : List ℕ = take n bytes in
    let t-len : length t ≡ n = length-take-le n bytes c.high in
    let size : 8 + length (drop 8 t) ≡ n = omega (arith, length-drop 8 t, c.low) in
    let spelled : t ≡ compact (four_at 4 bytes) (drop 8 t) = cut_text n bytes c.low c.high ∙ ap (λ (f : List ℕ). (f ++ take 4 (drop 4 bytes)) ++ drop 8 t) (size_is n bytes fits len is ∙ ap (λ (k : ℕ). num k 4) (sym size)) in
    let below : n < 256 ^ 4 = subst (λ (k : ℕ). k < 256 ^ 4) is (number-below 4 bytes fits) in
    let made : Takes top at bytes (cut_box 8 n at bytes, drop n bytes) = record {
      text = t;
      whole = sym (take-append-drop n bytes);
      place = refl;
      four = kind_len bytes len;
      spelled = inl (inl (refl, omega arith, spelled));
      ends = omega arith;
      some = omega (arith, c.low);
    } in
    subst (λ (b : BoxAt). Takes top at bytes (b, x.1)) c.box (subst (λ (r : List ℕ). Takes top at bytes (cut_box 8 n at bytes, r)) c.rest made)

takes_long : (top : Bool) (at n : ℕ) (bytes : List ℕ) (x : BoxAt × List ℕ) → IsBytes bytes → 16 ≤ length bytes → number 4 bytes ≡ 1 → number 8 (drop 8 bytes) ≡ n → Cuts 16 n at bytes x → Takes top at bytes x
takes_long top at n bytes x fits len is sized c =
    let t : List ℕ = take n bytes in
    let t-len : length t ≡ n = length-take-le n bytes c.high in
    let size : 16 + length (drop 16 t) ≡ n = omega (arith, length-drop 16 t, c.low) in
    let fits8 : IsBytes (drop 8 bytes) = IsBytes-drop 8 bytes fits in
    let one : take 4 bytes ≡ num 1 4 = size_is 1 bytes fits (omega arith) is in
    let eight : take 8 (drop 8 bytes) ≡ num (16 + length (drop 16 t)) 8 = sym (num-number 8 (drop 8 bytes) fits8 (omega (arith, length-drop 8 bytes))) ∙ ap (λ (k : ℕ). num k 8) (sized ∙ sym size) in
    let spelled : t ≡ long (four_at 4 bytes) (drop 16 t) =
    cut_longer n bytes c.low c.high
    ∙ ap (λ (f : List ℕ). ((f ++ take 4 (drop 4 bytes)) ++ take 8 (drop 8 bytes)) ++ drop 16 t) one
    ∙ ap (λ (f : List ℕ). ((num 1 4 ++ take 4 (drop 4 bytes)) ++ f) ++ drop 16 t) eight in
    let below : n < 256 ^ 8 = subst (λ (k : ℕ). k < 256 ^ 8) sized (number-below 8 (drop 8 bytes) fits8) in
    let made : Takes top at bytes (cut_box 16 n at bytes, drop n bytes) = record {
      text = t;
      whole = sym (take-append-drop n bytes);
      place = refl;
      four = kind_len bytes (omega arith);
      spelled = inl (inr (inl (refl, omega arith, spelled)));
      ends = omega arith;
      some = omega (arith, c.low);
    } in
    subst (λ (b : BoxAt). Takes top at bytes (b, x.1)) c.box (subst (λ (r : List ℕ). Takes top at bytes (cut_box 16 n at bytes, r)) c.rest made)

takes_open : (at : ℕ) (bytes : List ℕ) (x : BoxAt × List ℕ) → IsBytes bytes → 8 ≤ length bytes → number 4 bytes ≡ 0 → Cuts 8 (length bytes) at bytes x → Takes true at bytes x
takes_open at bytes x fits len is c =
    let n = length bytes in
    let t : List ℕ = take n bytes in
    let t-len : length t ≡ n = length-take-le n bytes c.high in
    let spelled : t ≡ open_ended (four_at 4 bytes) (drop 8 t) = cut_text n bytes c.low c.high ∙ ap (λ (f : List ℕ). (f ++ take 4 (drop 4 bytes)) ++ drop 8 t) (size_is 0 bytes fits len is) in
    let made : Takes true at bytes (cut_box 8 n at bytes, drop n bytes) = record {
      text = t;
      whole = sym (take-append-drop n bytes);
      place = refl;
      four = kind_len bytes len;
      spelled = inr (drop_all n bytes (omega arith), inr (inr (refl, refl, spelled)));
      ends = omega (arith, length-drop 8 t);
      some = omega (arith, c.low);
    } in
    subst (λ (b : BoxAt). Takes true at bytes (b, x.1)) c.box (subst (λ (r : List ℕ). Takes true at bytes (cut_box 8 n at bytes, r)) c.rest made)

opened_takes : (top : Bool) (at : ℕ) (bytes : List ℕ) (x : BoxAt × List ℕ) → IsBytes bytes → 8 ≤ length bytes → number 4 bytes ≡ 0 → cond top (cut 8 (length bytes) at bytes) (Err (OpenSize at)) ≡ Ok x → Takes top at bytes x
opened_takes true at bytes x fits len is e = takes_open at bytes x fits len is (cut_ok 8 (length bytes) at bytes x e)
opened_takes false at bytes x fits len is e = absurd cc

way_takes : (top : Bool) (at : ℕ) (bytes : List ℕ) (x : BoxAt × List ℕ) → IsBytes bytes → box_at top at bytes ≡ Ok x → Way top at bytes → Takes top at bytes x
way_takes top at bytes x fits e (few short is) = absurd cc
way_takes top at bytes x fits e (half len one short is) = absurd cc
way_takes top at bytes x fits e (opened len none is) = opened_takes top at bytes x fits len none (sym is ∙ e)
way_takes top at bytes x fits e (longer len one is) = takes_long top at (number 8 (drop 8 bytes)) bytes x fits len one refl (cut_ok 16 (number 8 (drop 8 bytes)) at bytes x (sym is ∙ e))
way_takes top at bytes x fits e (plain len two is) = takes_plain top at (number 4 bytes) bytes x fits len refl (cut_ok 8 (number 4 bytes) at bytes x (sym is ∙ e))

pub box_takes : (top : Bool) (at : ℕ) (bytes : List ℕ) (x : BoxAt × List ℕ) → IsBytes bytes → box_at top at bytes ≡ Ok x → Takes top at bytes x
box_takes top at bytes x fits e = way_takes top at bytes x fits e (way top at bytes)

-- ---- what is spelled is read

four_again : (bytes s more : List ℕ) (kind : FourCc) → bytes ≡ s ++ (kind.0 ++ more) → length s ≡ 4 → length kind.0 ≡ 4 → four_at 4 bytes ≡ kind
four_again bytes s more kind e s-len k-len =
    let four : List ℕ → FourCc = λ l. record { 0 = l } in
    let inner : take 4 (drop 4 bytes) ≡ kind.0 = ap (λ (r : List ℕ). take 4 (drop 4 r)) e ∙ ap (take 4) (drop_at s (kind.0 ++ more) 4 s-len) ∙ take_at kind.0 more 4 k-len in
    ap four inner

-- a size of four bytes, as it reads whatever follows
abbrev Reads4 : List ℕ → ℕ → Type 0
Reads4 s n = (length s ≡ 4) × ((more : List ℕ) → number 4 (s ++ more) ≡ n)

reads4 : (n : ℕ) → n < 256 ^ 4 → Reads4 (num n 4) n
reads4 n lt = (length-num 4 n, λ more. number-num 4 n more lt)

again8 : (top : Bool) (at n : ℕ) (s body rest : List ℕ) (kind : FourCc) → Reads4 s n → length kind.0 ≡ 4 → n ≡ 8 + length body
    → box_at top at (((s ++ kind.0) ++ body) ++ rest) ≡ Ok (record { kind = kind; at = at; head = 8; body = body }, rest)
again8 top at n s body rest kind size k-len is =
    let bytes : List ℕ = ((s ++ kind.0) ++ body) ++ rest in
    let flat : bytes ≡ s ++ (kind.0 ++ (body ++ rest)) = append_assoc (s ++ kind.0) body rest ∙ append_assoc s kind.0 (body ++ rest) in
    let front : length (s ++ kind.0) ≡ 8 = omega (arith, length-append s kind.0, size.0) in
    let len : length bytes ≡ 8 + length body + length rest = omega (arith, length-append (s ++ kind.0) body, length-append ((s ++ kind.0) ++ body) rest) in
    let num-is : number 4 bytes ≡ n = ap (number 4) flat ∙ size.1 (kind.0 ++ (body ++ rest)) in
    compact_at top at bytes (omega arith) (omega arith)
    ∙ ap (λ (k : ℕ). cut 8 k at bytes) num-is
    ∙ cut_again 8 n at bytes (s ++ kind.0) body rest kind refl front is (four_again bytes s (body ++ rest) kind flat size.0 k-len)

again16 : (top : Bool) (at n : ℕ) (s w body rest : List ℕ) (kind : FourCc) → Reads4 s 1 → length w ≡ 8 → ((more : List ℕ) → number 8 (w ++ more) ≡ n) → length kind.0 ≡ 4 → n ≡ 16 + length body
    → box_at top at ((((s ++ kind.0) ++ w) ++ body) ++ rest) ≡ Ok (record { kind = kind; at = at; head = 16; body = body }, rest)
again16 top at n s w body rest kind size w-len w-is k-len is =
    let bytes : List ℕ = (((s ++ kind.0) ++ w) ++ body) ++ rest in
    let after : bytes ≡ (s ++ kind.0) ++ (w ++ (body ++ rest)) = append_assoc ((s ++ kind.0) ++ w) body rest ∙ append_assoc (s ++ kind.0) w (body ++ rest) in
    let flat : bytes ≡ s ++ (kind.0 ++ (w ++ (body ++ rest))) = after ∙ append_assoc s kind.0 (w ++ (body ++ rest)) in
    let front : length (s ++ kind.0) ≡ 8 = omega (arith, length-append s kind.0, size.0) in
    let head : length ((s ++ kind.0) ++ w) ≡ 16 = omega (arith, length-append (s ++ kind.0) w) in
    let len : length bytes ≡ 16 + length body + length rest = omega (arith, length-append ((s ++ kind.0) ++ w) body, length-append (((s ++ kind.0) ++ w) ++ body) rest) in
    let one-is : number 4 bytes ≡ 1 = ap (number 4) flat ∙ size.1 (kind.0 ++ (w ++ (body ++ rest))) in
    let n-is : number 8 (drop 8 bytes) ≡ n = ap (λ (r : List ℕ). number 8 (drop 8 r)) after ∙ ap (number 8) (drop_at (s ++ kind.0) (w ++ (body ++ rest)) 8 front) ∙ w-is (body ++ rest) in
    long_at top at bytes (omega arith) one-is
    ∙ ap (λ (k : ℕ). cut 16 k at bytes) n-is
    ∙ cut_again 16 n at bytes ((s ++ kind.0) ++ w) body rest kind refl head is (four_again bytes s (w ++ (body ++ rest)) kind flat size.0 k-len)

again0 : (at : ℕ) (s body : List ℕ) (kind : FourCc) → Reads4 s 0 → length kind.0 ≡ 4
    → box_at true at (((s ++ kind.0) ++ body) ++ []) ≡ Ok (record { kind = kind; at = at; head = 8; body = body }, [])
again0 at s body kind size k-len =
    let bytes : List ℕ = ((s ++ kind.0) ++ body) ++ [] in
    let flat : bytes ≡ s ++ (kind.0 ++ (body ++ [])) = append_assoc (s ++ kind.0) body [] ∙ append_assoc s kind.0 (body ++ []) in
    let front : length (s ++ kind.0) ≡ 8 = omega (arith, length-append s kind.0, size.0) in
    let len : length bytes ≡ 8 + length body = ap length (append-nil ((s ++ kind.0) ++ body)) ∙ length-append (s ++ kind.0) body ∙ omega arith in
    let num-is : number 4 bytes ≡ 0 = ap (number 4) flat ∙ size.1 (kind.0 ++ (body ++ [])) in
    open_at true at bytes (omega arith) num-is
    ∙ cut_again 8 (length bytes) at bytes (s ++ kind.0) body [] kind refl front len (four_again bytes s (body ++ []) kind flat size.0 k-len)

abbrev is_read : BoxAt → List ℕ → Result (BoxAt × List ℕ) ReadRefusal
is_read b rest = Ok (b, rest)

made_at : (b : BoxAt) (rest : List ℕ) (h : ℕ) → b.head ≡ h → is_read (record { kind = b.kind; at = b.at; head = h; body = b.body }) rest ≡ is_read b rest
made_at b rest h e = let mk : ℕ → BoxAt = λ k. record { kind = b.kind; at = b.at; head = k; body = b.body } in ap (λ (k : ℕ). is_read (mk k) rest) (sym e)

open_again : (top : Bool) (b : BoxAt) (rest : List ℕ) → length b.kind.0 ≡ 4 → top ≡ true → rest ≡ [] → b.head ≡ 8 → box_at top b.at (open_ended b.kind b.body ++ rest) ≡ Ok (b, rest)
open_again top b rest four t r h =
    let base : box_at true b.at (open_ended b.kind b.body ++ []) ≡ Ok (b, []) = again0 b.at (num 0 4) b.body b.kind (reads4 0 (omega arith)) four ∙ made_at b [] 8 h in
    subst (λ (o : Bool). box_at o b.at (open_ended b.kind b.body ++ rest) ≡ Ok (b, rest)) (sym t) (subst (λ (l : List ℕ). box_at true b.at (open_ended b.kind b.body ++ l) ≡ Ok (b, l)) (sym r) base)

pub spelled_reads : (top last : Bool) (b : BoxAt) (text rest : List ℕ) → IsSpelling last b text → length b.kind.0 ≡ 4 → (last ≡ true → (top ≡ true) × (rest ≡ []))
    → box_at top b.at (text ++ rest) ≡ Ok (b, rest)
spelled_reads top last b text rest (inl p) four end =
    let n = 8 + length b.body in
    ap (λ (t : List ℕ). box_at top b.at (t ++ rest)) p.2 ∙ again8 top b.at n (num n 4) b.body rest b.kind (reads4 n p.1) four refl ∙ made_at b rest 8 p.0
spelled_reads top last b text rest (inr (inl p)) four end =
    let n = 16 + length b.body in
    ap (λ (t : List ℕ). box_at top b.at (t ++ rest)) p.2 ∙ again16 top b.at n (num 1 4) (num n 8) b.body rest b.kind (reads4 1 (omega arith)) (length-num 8 n) (λ more. number-num 8 n more p.1) four refl ∙ made_at b rest 16 p.0
spelled_reads top last b text rest (inr (inr p)) four end =
    ap (λ (t : List ℕ). box_at top b.at (t ++ rest)) p.2 ∙ open_again top b rest four (end p.0).0 (end p.0).1 p.1

pub two_parts : (s k body : List ℕ) → length s ≡ 4 → length k ≡ 4 → length ((s ++ k) ++ body) ≡ 8 + length body
two_parts s k body a b = omega (arith, length-append (s ++ k) body, length-append s k)

pub three_parts : (s k w body : List ℕ) → length s ≡ 4 → length k ≡ 4 → length w ≡ 8 → length (((s ++ k) ++ w) ++ body) ≡ 16 + length body
three_parts s k w body a b c = omega (arith, length-append ((s ++ k) ++ w) body, length-append (s ++ k) w, length-append s k)

-- how long a spelling is
pub length_spelling : (last : Bool) (b : BoxAt) (text : List ℕ) → IsSpelling last b text → length b.kind.0 ≡ 4 → (length text ≡ b.head + length b.body) × (0 < length text)
length_spelling last b text (inl p) four =
    let n = 8 + length b.body in
    let e : length text ≡ 8 + length b.body = ap length p.2 ∙ two_parts (num n 4) b.kind.0 b.body (length-num 4 n) four in
    (omega (arith, p.0), omega arith)
length_spelling last b text (inr (inl p)) four =
    let n = 16 + length b.body in
    let e : length text ≡ 16 + length b.body = ap length p.2 ∙ three_parts (num 1 4) b.kind.0 (num n 8) b.body (length-num 4 1) four (length-num 8 n) in
    (omega (arith, p.0), omega arith)
length_spelling last b text (inr (inr p)) four =
    let e : length text ≡ 8 + length b.body = ap length p.2 ∙ two_parts (num 0 4) b.kind.0 b.body (length-num 4 0) four in
    (omega (arith, p.1), omega arith)

-- a spelling that another box may follow is one anywhere
pub anywhere : (last : Bool) (b : BoxAt) (text : List ℕ) → IsSpelling false b text → IsSpelling last b text
anywhere last b text (inl p) = inl p
anywhere last b text (inr (inl p)) = inr (inl p)
anywhere last b text (inr (inr p)) = absurd cc
