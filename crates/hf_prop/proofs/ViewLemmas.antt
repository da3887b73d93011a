-- A view of what a maker made gives its numbers.
use Rattle.std.proofs.Common.{◌≡◌, ℕ, ◌+◌, ◌*◌, ◌/◌, ◌%◌, ◌≤◌, ◌<◌, ◌^◌, true, List, ◌++◌, length, take, drop, ltb, Some, refl, sym, ap, ◌∙◌, append_assoc, length-append, arith}
use Rattle.std.specs.Prelude.{slice_index}
use Rattle.std.proofs.lemmas.Bool.{lt-ltb}
use Rattle.std.proofs.lemmas.List.{drop_at, take_all}
use Rattle.hf_base.specs.Number.{num, number, number_at}
use Rattle.hf_base.specs.NumberLaws.{number-num, length-num}
use Rattle.hf_prop.specs.Views.{turn_in, axis_in, side_of, sides_in, window_in, turn_by, mirror_at, signed_difference, window_body, window_at}

pub turn_again : (quarters : ℕ) → quarters < 4 → turn_in (turn_by quarters) ≡ Some quarters
unfolding num
turn_again quarters less =
    let low : slice_index (num quarters 1) 0 % 4 ≡ quarters = grind (arith, less) in
    ap (λ (n : ℕ). Some n) low

pub axis_again : (axis : ℕ) → axis < 2 → axis_in (mirror_at axis) ≡ Some axis
unfolding num
axis_again axis less =
    let low : slice_index (num axis 1) 0 % 2 ≡ axis = grind (arith, less) in
    ap (λ (n : ℕ). Some n) low

-- four numbers of four bytes, one behind the other
record AreRead (text : List ℕ) (a b c d : ℕ) : Type 0 where
  first : number_at 4 0 text ≡ a
  second : number_at 4 4 text ≡ b
  third : number_at 4 8 text ≡ c
  fourth : number_at 4 12 text ≡ d

four_read : (a b c d : ℕ) (rest : List ℕ) → a < 256 ^ 4 → b < 256 ^ 4 → c < 256 ^ 4 → d < 256 ^ 4 → AreRead (num a 4 ++ (num b 4 ++ (num c 4 ++ (num d 4 ++ rest)))) a b c d
four_read a b c d rest fa fb fc fd =
    let r3 = num d 4 ++ rest in
    let r2 = num c 4 ++ r3 in
    let r1 = num b 4 ++ r2 in
    let p2 = num a 4 ++ num b 4 in
    let p3 = p2 ++ num c 4 in
    let l2 : length p2 ≡ 8 = omega (arith, length-append (num a 4) (num b 4), length-num 4 a, length-num 4 b) in
    let l3 : length p3 ≡ 12 = omega (arith, length-append p2 (num c 4), length-num 4 c, l2) in
    let at_4 : drop 4 (num a 4 ++ r1) ≡ r1 = drop_at (num a 4) r1 4 (length-num 4 a) in
    let at_8 : drop 8 (num a 4 ++ r1) ≡ r2 = ap (drop 8) (sym (append_assoc (num a 4) (num b 4) r2)) ∙ drop_at p2 r2 8 l2 in
    let at_12 : drop 12 (num a 4 ++ r1) ≡ r3 = ap (drop 12) (sym (append_assoc p2 (num c 4) r3 ∙ append_assoc (num a 4) (num b 4) r2)) ∙ drop_at p3 r3 12 l3 in
    record {
      first = number-num 4 a r1 fa;
      second = ap (number 4) at_4 ∙ number-num 4 b r2 fb;
      third = ap (number 4) at_8 ∙ number-num 4 c r3 fc;
      fourth = ap (number 4) at_12 ∙ number-num 4 d rest fd;
    }

side_again : (n : ℕ) → 1 ≤ n → side_of n 1 ≡ Some n
side_again n least =
    let rest : n % 1 ≡ 0 = grind arith in
    let whole : n / 1 ≡ n = grind arith in
    let some : ltb 0 n ≡ true = lt-ltb 0 n least in
    rw (rest, whole, some) refl

length-window : (x y w h width height : ℕ) → length (window_body x y w h width height) ≡ 32
unfolding window_body
length-window x y w h width height = simp (length-append, length-num) refl

window_parts : (x y w h width height : ℕ) → window_body x y w h width height
    ≡ num w 4 ++ (num 1 4 ++ (num h 4 ++ (num 1 4 ++ (num (signed_difference (2 * x + w) width) 4 ++ (num 2 4 ++ (num (signed_difference (2 * y + h) height) 4 ++ num 2 4))))))
unfolding window_body
window_parts x y w h width height = simp append_assoc

sides_again : (x y w h width height : ℕ) → 1 ≤ w → w < 256 ^ 4 → 1 ≤ h → h < 256 ^ 4 → sides_in (window_body x y w h width height) ≡ Some (w, h)
sides_again x y w h width height w_least w_fits h_least h_fits =
    let rest = num (signed_difference (2 * x + w) width) 4 ++ (num 2 4 ++ (num (signed_difference (2 * y + h) height) 4 ++ num 2 4)) in
    let r = four_read w 1 h 1 rest w_fits (omega arith) h_fits (omega arith) in
    ap sides_in (window_parts x y w h width height) ∙ rw (r.first, r.second, r.third, r.fourth, side_again w w_least, side_again h h_least) refl

pub window_again : (x y w h width height : ℕ) → 1 ≤ w → w < 256 ^ 4 → 1 ≤ h → h < 256 ^ 4 → window_in (window_at x y w h width height) ≡ Some (w, h)
window_again x y w h width height w_least w_fits h_least h_fits =
    rw (length-window x y w h width height) (sides_again x y w h width height w_least w_fits h_least h_fits)

-- nothing is cut off
pub whole_window : (x y w h width height : ℕ) → take 32 (window_body x y w h width height) ≡ window_body x y w h width height
whole_window x y w h width height = take_all 32 (window_body x y w h width height) (omega (arith, length-window x y w h width height))
