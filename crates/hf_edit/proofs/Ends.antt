-- What is made of the end of a list of properties.
use Rattle.std.proofs.Common.{◌≡◌, ◌≢◌, ℕ, ◌+◌, ◌-◌, ◌<◌, Bool, true, false, cond, List, [], ◌∷◌, ◌++◌, length, take, sym, ap, ◌∙◌, subst, inl, inr, Option, Some, None}
use Rattle.std.specs.Prelude.{◌==◌, ◌%◌, ◌&&◌, nat_lt}
use Rattle.std.specs.Option.{option_and_then}
use Rattle.std.proofs.Math.Seq.{take-length}
use Rattle.std.proofs.lemmas.List.{append-nil}
use Rattle.std.proofs.lemmas.Bool.{and_parts, cases_Bool, eq-eqb, ltb-true}
use Rattle.std.specs.Prelude.{fold}
use Rattle.hf_prop.specs.Views.{mirror_at, turn_by, window_at}
use Rattle.hf_prop.specs.declared.prop.Prop.{Prop}
use Rattle.hf_store.specs.Store.{Held, Item}
use Rattle.hf_edit.specs.Pictures.{all_but_last, are_sides, cropped, cropped_in, essential, first_size, last_axis, last_turn, mirrored, mirrored_behind, picture_size_of, rotated, rotated_behind, sized_by, turn_unless_none, when_sides}
use Rattle.hf_edit.specs.Seen.{more_of}
use Rattle.hf_edit.proofs.Named.{differ}

behind_all : (hs more : List Held) → take (length hs) hs ++ more ≡ hs ++ more
behind_all hs more = ap (λ (front : List Held). front ++ more) (take-length hs)

-- ---- turns

pub turned_once : (quarters : ℕ) (hs : List Held) (p : Prop) → None ≡ last_turn hs → p ≡ turn_by quarters
    → take (length hs) hs ++ more_of (Some p) ≡ rotated quarters hs
unfolding rotated
turned_once quarters hs p none is =
    behind_all hs (more_of (Some p)) ∙ ap (λ (q : Prop). hs ++ more_of (Some q)) is ∙ ap (λ (turn : Option ℕ). rotated_behind turn quarters hs) none

pub turned_more : (quarters turn : ℕ) (hs : List Held) (more : Option Prop) → Some turn ≡ last_turn hs
    → more_of more ≡ turn_unless_none ((turn + quarters) % 4) → take (length hs - 1) hs ++ more_of more ≡ rotated quarters hs
unfolding rotated
turned_more quarters turn hs more some is =
    ap (λ (end : List Held). all_but_last hs ++ end) is ∙ ap (λ (turn : Option ℕ). rotated_behind turn quarters hs) some

-- ---- mirrors

pub mirrored_once : (axis : ℕ) (hs : List Held) (p : Prop) → None ≡ last_axis hs → p ≡ mirror_at axis
    → take (length hs) hs ++ more_of (Some p) ≡ mirrored axis hs
unfolding mirrored
mirrored_once axis hs p none is =
    behind_all hs (more_of (Some p)) ∙ ap (λ (q : Prop). hs ++ more_of (Some q)) is ∙ ap (λ (last : Option ℕ). mirrored_behind last axis hs) none

pub mirrored_back : (axis before : ℕ) (hs : List Held) → Some before ≡ last_axis hs → before ≡ axis
    → take (length hs - 1) hs ++ more_of None ≡ mirrored axis hs
unfolding mirrored
mirrored_back axis before hs some same =
    let both : (before == axis) ≡ true = eq-eqb before axis same in
    append-nil (all_but_last hs)
    ∙ ap (λ (b : Bool). cond b (all_but_last hs) (hs ++ essential (mirror_at axis) ∷ [])) (sym both)
    ∙ ap (λ (last : Option ℕ). mirrored_behind last axis hs) some

pub mirrored_other : (axis before : ℕ) (hs : List Held) (p : Prop) → Some before ≡ last_axis hs → before ≢ axis → p ≡ mirror_at axis
    → take (length hs) hs ++ more_of (Some p) ≡ mirrored axis hs
unfolding mirrored
mirrored_other axis before hs p some other is =
    let neither : (before == axis) ≡ false = differ before axis other in
    behind_all hs (more_of (Some p)) ∙ ap (λ (q : Prop). hs ++ more_of (Some q)) is
    ∙ ap (λ (b : Bool). cond b (all_but_last hs) (hs ++ essential (mirror_at axis) ∷ [])) (sym neither)
    ∙ ap (λ (last : Option ℕ). mirrored_behind last axis hs) some

-- ---- windows

small_sides : (o : Option (ℕ × ℕ)) (size : ℕ × ℕ) → option_and_then when_sides o ≡ Some size → (size.0 < 2147483648) × (size.1 < 2147483648)
small_sides None size e = absurd cc
small_sides (Some found) size e =
    elim (cases_Bool (are_sides found)) [
      | inl are ↦
          let same : Some found ≡ Some size = ap (λ (b : Bool). cond b (Some found) None) (sym are) ∙ e in
          let it : found ≡ size = cc in
          let fourth = and_parts (nat_lt 0 found.0 && nat_lt found.0 2147483648 && nat_lt 0 found.1) (nat_lt found.1 2147483648) are in
          let third = and_parts (nat_lt 0 found.0 && nat_lt found.0 2147483648) (nat_lt 0 found.1) fourth.0 in
          let second = and_parts (nat_lt 0 found.0) (nat_lt found.0 2147483648) third.0 in
          subst (λ (x : ℕ × ℕ). (x.0 < 2147483648) × (x.1 < 2147483648)) it (ltb-true found.0 2147483648 second.1, ltb-true found.1 2147483648 fourth.1)
      | inr not ↦ absurd (let none : None ≡ Some size = ap (λ (b : Bool). cond b (Some found) None) (sym not) ∙ e in cc)
    ]

pub sides_are_small : (i : Item) (size : ℕ × ℕ) → picture_size_of i ≡ Some size → (size.0 < 2147483648) × (size.1 < 2147483648)
unfolding picture_size_of
sides_are_small i size e = small_sides (fold sized_by (first_size i.props) i.props) size e

pub cropped_once : (x y w h : ℕ) (i : Item) (size : ℕ × ℕ) (p : Prop) → picture_size_of i ≡ Some size → p ≡ window_at x y w h size.0 size.1
    → take (length i.props) i.props ++ more_of (Some p) ≡ cropped x y w h i
unfolding cropped
cropped_once x y w h i size p some is =
    behind_all i.props (more_of (Some p)) ∙ ap (λ (q : Prop). i.props ++ more_of (Some q)) is
    ∙ ap (λ (found : Option (ℕ × ℕ)). cropped_in found x y w h i.props) (sym some)
