-- The size of a picture is that of its properties as a whole.
use Rattle.std.proofs.Common.{◌≡◌, ◌+◌, ◌^◌, ◌%◌, ◌⊎◌, ℕ, Bool, true, false, not, cond, List, [], ◌∷◌, ◌++◌, fold, refl, sym, ap, ◌∙◌, subst, arith, inl, inr, Option, Some, None}
use Rattle.std.specs.Prelude.{◌==◌, slice_get, option_map, IsTrue, nat_lt}
use Rattle.std.specs.List.{AllByRecursion}
use Rattle.std.specs.Option.{option_and_then}
use Rattle.std.proofs.lemmas.Bool.{and_from, and_parts, cases_Bool, cond-false, cond-true, eq-eqb, eqb-false, eqb-true, lt-ltb, ltb-true, ne_eqb}
use Rattle.std.proofs.lemmas.List.Sums.{fold-append, sum_by-cons}
use Rattle.hf_base.specs.declared.kinds.TheConstants.{CLAP, IROT, ISPE}
use Rattle.hf_box.proofs.SameKinds.{is_same_kind}
use Rattle.hf_box.specs.Walk.{is_kind}
use Rattle.hf_prop.specs.Views.{size_in, turn_in, window_in}
use Rattle.hf_store.specs.Lists.{IsIn}
use Rattle.hf_store.specs.Store.{Held, Item, Prop}
use Rattle.hf_table.specs.Held.{is_of, of_kind}
use Rattle.hf_edit.specs.Pictures.{are_sides, first_size, picture_size_of, sized_by, swapped, turned, when_sides}
use Rattle.hf_edit.specs.PictureSize.{AreSides, AreWithin, FirstStates, HasView, IsBase, IsPictureSize, LacksSize, NoExtents, BadExtents, BadTurn, BadWindow, BadSides, PictureSizeIsTold, is_odd, odd_turns}

cases_Option : {A : Type 0} (o : Option A) → (o ≡ None) ⊎ ((x : A) × (o ≡ Some x))
cases_Option None = inl refl
cases_Option (Some x) = inr (x, refl)

-- ---- the first property of a type

first_none : (hs : List Held) → of_kind ISPE hs ≡ [] → first_size hs ≡ None
first_none [] none = refl
first_none (h ∷ hs) none =
    elim (cases_Bool (is_of ISPE h)) [
      | inl here ↦ absurd (let some : h.prop ∷ of_kind ISPE hs ≡ [] = rw here at none in cc)
      | inr other ↦ rw other (first_none hs (rw other at none))
    ]

first_some : (hs : List Held) (p : Prop) → slice_get (of_kind ISPE hs) 0 ≡ Some p → first_size hs ≡ size_in p
first_some [] p first = absurd cc
first_some (h ∷ hs) p first =
    elim (cases_Bool (is_of ISPE h)) [
      | inl here ↦ let same : Some h.prop ≡ Some p = rw here at first in let is : h.prop ≡ p = cc in cond-true (is_of ISPE h) _ _ here ∙ ap size_in is
      | inr other ↦ rw other (first_some hs p (rw other at first))
    ]

none_first : (ps : List Prop) → slice_get ps 0 ≡ None → ps ≡ []
none_first [] none = refl
none_first (p ∷ ps) none = absurd cc

-- ---- one property

no_turn : (h : Held) → is_of IROT h ≡ false → turn_in h.prop ≡ None
no_turn h other = rw other refl

clap_is_no_irot : (h : Held) → is_of CLAP h ≡ true → is_of IROT h ≡ false
clap_is_no_irot h clap = ap (λ kind. is_kind kind IROT) (is_same_kind h.prop.kind CLAP clap)

window_is_clap : (h : Held) (sides : ℕ × ℕ) → window_in h.prop ≡ Some sides → is_of CLAP h ≡ true
window_is_clap h sides window =
    elim (cases_Bool (is_of CLAP h)) [ inl clap ↦ clap | inr other ↦ absurd (let none : None ≡ Some sides = rw other at window in cc) ]

-- a `clap` sets the sides
sized-window : (size sides : ℕ × ℕ) (h : Held) → window_in h.prop ≡ Some sides → sized_by (Some size) h ≡ Some sides
sized-window size sides h window =
    let clap = window_is_clap h sides window in
    cond-false (is_of IROT h) _ _ (clap_is_no_irot h clap) ∙ cond-true (is_of CLAP h) _ _ clap ∙ window

abbrev turned_by : Option ℕ → ℕ × ℕ → ℕ × ℕ
turned_by turn size = cond (is_odd turn) (swapped size) size

sized-turn : (size : ℕ × ℕ) (h : Held) → HasView h → is_of CLAP h ≡ false → sized_by (Some size) h ≡ Some (turned_by (turn_in h.prop) size)
sized-turn size h view no_clap =
    elim (cases_Bool (is_of IROT h)) [
      | inl turns ↦
          let told = view.turn turns in
          cond-true (is_of IROT h) _ _ turns ∙ ap (option_map (turned size)) told.1 ∙ ap (λ turn. Some (turned_by turn size)) (sym told.1)
      | inr other ↦
          cond-false (is_of IROT h) _ _ other ∙ cond-false (is_of CLAP h) _ _ no_clap ∙ ap (λ turn. Some (turned_by turn size)) (sym (no_turn h other))
    ]

-- with a view there are sides again
sized-some : (size : ℕ × ℕ) (h : Held) → HasView h → (sides : ℕ × ℕ) × (sized_by (Some size) h ≡ Some sides)
sized-some size h view =
    elim (cases_Bool (is_of CLAP h)) [
      | inl clap ↦ let told = view.window clap in (told.0, sized-window size told.0 h told.1)
      | inr other ↦ (turned_by (turn_in h.prop) size, sized-turn size h view other)
    ]

bad_turn : (h : Held) → IsTrue (is_of IROT h) → turn_in h.prop ≡ None → (size : ℕ × ℕ) → sized_by (Some size) h ≡ None
bad_turn h turns none size = cond-true (is_of IROT h) _ _ turns ∙ ap (option_map (turned size)) none

bad_window : (h : Held) → IsTrue (is_of CLAP h) → window_in h.prop ≡ None → (size : ℕ × ℕ) → sized_by (Some size) h ≡ None
bad_window h clap none size = cond-false (is_of IROT h) _ _ (clap_is_no_irot h clap) ∙ cond-true (is_of CLAP h) _ _ clap ∙ none

-- ---- many

fold-none : (hs : List Held) → fold sized_by None hs ≡ None
fold-none [] = refl
fold-none (h ∷ hs) = fold-none hs

fold-some : (size : ℕ × ℕ) (hs : List Held) → AllByRecursion HasView hs → (sides : ℕ × ℕ) × (fold sized_by (Some size) hs ≡ Some sides)
fold-some size [] views = (size, refl)
fold-some size (h ∷ hs) views =
    let here = sized-some size h views.0 in
    let rest = fold-some here.0 hs views.1 in
    (rest.0, ap (λ o. fold sized_by o hs) here.1 ∙ rest.1)

fold-bad : (o : Option (ℕ × ℕ)) (h : Held) (hs : List Held) → IsIn h hs → ((size : ℕ × ℕ) → sized_by (Some size) h ≡ None) → fold sized_by o hs ≡ None
fold-bad o h [] there bad = absurd there
fold-bad None h (g ∷ hs) there bad = fold-none hs
fold-bad (Some size) h (g ∷ hs) (inl same) bad =
    ap (λ o. fold sized_by o hs) (ap (λ (x : Held). sized_by (Some size) x) same ∙ bad size) ∙ fold-none hs
fold-bad (Some size) h (g ∷ hs) (inr there) bad = fold-bad (sized_by (Some size) g) h hs there bad

odd-suc : (n : ℕ) → ((1 + n) % 2 == 1) ≡ not (n % 2 == 1)
odd-suc n =
    elim (cases_Bool (n % 2 == 1)) [
      | inl odd ↦ rw odd (ne_eqb ((1 + n) % 2) 1 (λ e. omega (arith, eqb-true (n % 2) 1 odd, e)))
      | inr even ↦ rw even (eq-eqb ((1 + n) % 2) 1 (omega (arith, eqb-false (n % 2) 1 even)))
    ]

turned-suc : (size : ℕ × ℕ) (n : ℕ) → turned (swapped size) n ≡ turned size (1 + n)
turned-suc size n =
    let other = odd-suc n in
    rw other (elim (n % 2 == 1) as (λ b. cond b (swapped (swapped size)) (swapped size) ≡ cond (not b) (swapped size) size) [ true ↦ refl | false ↦ refl ])

turned-more : (odd : Bool) (size : ℕ × ℕ) (n : ℕ) → turned (cond odd (swapped size) size) n ≡ turned size (cond odd 1 0 + n)
turned-more true size n = turned-suc size n
turned-more false size n = ap (turned size) (omega arith)

none_behind : (h : Held) (hs : List Held) → of_kind CLAP (h ∷ hs) ≡ [] → (is_of CLAP h ≡ false) × (of_kind CLAP hs ≡ [])
none_behind h hs none =
    elim (cases_Bool (is_of CLAP h)) [
      | inl clap ↦ absurd (let some : h.prop ∷ of_kind CLAP hs ≡ [] = rw clap at none in cc)
      | inr other ↦ (other, rw other at none)
    ]

-- without a `clap` the odd turns are counted
fold-turns : (size : ℕ × ℕ) (hs : List Held) → AllByRecursion HasView hs → of_kind CLAP hs ≡ []
    → fold sized_by (Some size) hs ≡ Some (turned size (odd_turns hs))
fold-turns size [] views none = refl
fold-turns size (h ∷ hs) views none =
    let parts = none_behind h hs none in
    let odd : Held → Bool = λ g. is_odd (turn_in g.prop) in
    ap (λ o. fold sized_by o hs) (sized-turn size h views.0 parts.0)
    ∙ fold-turns (turned_by (turn_in h.prop) size) hs views.1 parts.1
    ∙ ap Some (turned-more (odd h) size (odd_turns hs) ∙ ap (turned size) (sym (sum_by-cons (λ g. cond (odd g) 1 0) h hs)))

views_before : (before : List Held) (h : Held) (behind : List Held) → AllByRecursion HasView (before ++ h ∷ behind)
    → AllByRecursion HasView before × AllByRecursion HasView behind
views_before [] h behind views = (tt, views.1)
views_before (g ∷ before) h behind views = let rest = views_before before h behind views.1 in ((views.0, rest.0), rest.1)

-- the sides in the end
fold-sides : (hs : List Held) (size : ℕ × ℕ) → AreSides hs size → fold sized_by (first_size hs) hs ≡ Some size
fold-sides hs size are =
    let stated = first_some hs are.first.0 are.first.1 ∙ are.first.2 in
    ap (λ o. fold sized_by o hs) stated
    ∙ elim are.base.from [
      | inl all ↦
          ap (λ (gs : List Held). fold sized_by (Some are.stated) gs) (sym all.0)
          ∙ fold-turns are.stated are.behind (subst (AllByRecursion HasView) (sym all.0) are.views) are.base.last
          ∙ ap (λ (sides : ℕ × ℕ). Some (turned sides (odd_turns are.behind))) (sym all.1)
          ∙ ap Some (sym are.turns)
      | inr cut ↦
          let before = cut.0 in
          let h = cut.1 in
          let views = views_before before h are.behind (subst (AllByRecursion HasView) cut.2 are.views) in
          let front = fold-some are.stated before views.0 in
          ap (fold sized_by (Some are.stated)) cut.2
          ∙ fold-append sized_by (Some are.stated) before (h ∷ are.behind)
          ∙ ap (λ o. fold sized_by o (h ∷ are.behind)) front.1
          ∙ ap (λ o. fold sized_by o are.behind) (sized-window front.0 are.sides h cut.3)
          ∙ fold-turns are.sides are.behind views.1 are.base.last
          ∙ ap Some (sym are.turns)
    ]

-- ---- whether the sides are within

within : (size : ℕ × ℕ) → are_sides size ≡ true → AreWithin size
within size all =
    let c = and_parts _ (nat_lt size.1 (2 ^ 31)) all in
    let b = and_parts _ (nat_lt 0 size.1) c.0 in
    let a = and_parts (nat_lt 0 size.0) (nat_lt size.0 (2 ^ 31)) b.0 in
    record {
      some_width = ltb-true 0 size.0 a.0;
      width = omega (arith, ltb-true size.0 (2 ^ 31) a.1);
      some_height = ltb-true 0 size.1 b.1;
      height = omega (arith, ltb-true size.1 (2 ^ 31) c.1);
    }

are_within : (size : ℕ × ℕ) → AreWithin size → are_sides size ≡ true
are_within size w =
    let wide = and_from (nat_lt 0 size.0) (nat_lt size.0 (2 ^ 31)) (lt-ltb 0 size.0 w.some_width) (lt-ltb size.0 (2 ^ 31) (omega (arith, w.width))) in
    let some = and_from _ (nat_lt 0 size.1) wide (lt-ltb 0 size.1 w.some_height) in
    and_from _ (nat_lt size.1 (2 ^ 31)) some (lt-ltb size.1 (2 ^ 31) (omega (arith, w.height)))

-- ---- the description gives the size

size_of-sides : (i : Item) (size : ℕ × ℕ) → AreSides i.props size → picture_size_of i ≡ when_sides size
unfolding picture_size_of
size_of-sides i size are = ap (option_and_then when_sides) (fold-sides i.props size are)

size_of-none : (i : Item) → fold sized_by (first_size i.props) i.props ≡ None → picture_size_of i ≡ None
unfolding picture_size_of
size_of-none i none = ap (option_and_then when_sides) none

told_size : (i : Item) (size : ℕ × ℕ) → AreSides i.props size → AreWithin size → picture_size_of i ≡ Some size
told_size i size are w = let all = are_within size w in size_of-sides i size are ∙ rw all refl

told_none : (i : Item) → LacksSize i.props → picture_size_of i ≡ None
told_none i (NoExtents none) = size_of-none i (ap (λ o. fold sized_by o i.props) (first_none i.props none) ∙ fold-none i.props)
told_none i (BadExtents p first none) = size_of-none i (ap (λ o. fold sized_by o i.props) (first_some i.props p first ∙ none) ∙ fold-none i.props)
told_none i (BadTurn h there turns none) = size_of-none i (fold-bad (first_size i.props) h i.props there (bad_turn h turns none))
told_none i (BadWindow h there clap none) = size_of-none i (fold-bad (first_size i.props) h i.props there (bad_window h clap none))
told_none i (BadSides size are out) =
    size_of-sides i size are
    ∙ elim (cases_Bool (are_sides size)) [ inl all ↦ absurd (out (within size all)) | inr some ↦ rw some refl ]

-- ---- each list has a description

abbrev IsBad : Held → Type 0
IsBad h = (IsTrue (is_of IROT h) × (turn_in h.prop ≡ None)) ⊎ (IsTrue (is_of CLAP h) × (window_in h.prop ≡ None))

-- a view of one kind, or none of it
seen : {A : Type 0} (test : Bool) (o : Option A) → (IsTrue test → (x : A) × (o ≡ Some x)) ⊎ (IsTrue test × (o ≡ None))
seen true None = inr (refl, refl)
seen true (Some x) = inl (λ yes. (x, refl))
seen false o = inl (λ yes. absurd cc)

look : (h : Held) → HasView h ⊎ IsBad h
look h =
    elim (seen (is_of IROT h) (turn_in h.prop)) [
      | inl turn ↦ elim (seen (is_of CLAP h) (window_in h.prop)) [ inl window ↦ inl (record { turn = turn; window = window }) | inr bad ↦ inr (inr bad) ]
      | inr bad ↦ inr (inl bad)
    ]

look_all : (hs : List Held) → AllByRecursion HasView hs ⊎ ((h : Held) × IsIn h hs × IsBad h)
look_all [] = inl tt
look_all (h ∷ hs) =
    elim (look h) [
      | inl view ↦ elim (look_all hs) [ inl views ↦ inl (view, views) | inr bad ↦ inr (bad.0, inr bad.1, bad.2) ]
      | inr bad ↦ inr (h, inl refl, bad)
    ]

record Base (stated : ℕ × ℕ) (hs : List Held) : Type 0 where
  sides : ℕ × ℕ
  behind : List Held
  is : IsBase stated hs sides behind

base : (stated : ℕ × ℕ) (hs : List Held) → AllByRecursion HasView hs → Base stated hs
base stated [] views = record { sides = stated; behind = []; is = record { last = refl; from = inl (refl, refl) } }
base stated (h ∷ hs) views =
    let rest = base stated hs views.1 in
    elim rest.is.from [
      | inl all ↦
          let none : of_kind CLAP hs ≡ [] = ap (of_kind CLAP) (sym all.0) ∙ rest.is.last in
          elim (cases_Bool (is_of CLAP h)) [
            | inl clap ↦
                let told = views.0.window clap in
                record { sides = told.0; behind = hs; is = record { last = none; from = inr ([], h, refl, told.1) } }
            | inr other ↦ record { sides = stated; behind = h ∷ hs; is = record { last = rw other none; from = inl (refl, refl) } }
          ]
      | inr cut ↦
          record {
            sides = rest.sides;
            behind = rest.behind;
            is = record { last = rest.is.last; from = inr (h ∷ cut.0, cut.1, ap (λ (gs : List Held). h ∷ gs) cut.2, cut.3) };
          }
    ]

abbrev IsDescribed : List Held → Type 0
IsDescribed hs = ((size : ℕ × ℕ) × AreSides hs size × AreWithin size) ⊎ LacksSize hs

described_bad : (hs : List Held) (h : Held) → IsIn h hs → IsBad h → LacksSize hs
described_bad hs h there (inl bad) = BadTurn h there bad.0 bad.1
described_bad hs h there (inr bad) = BadWindow h there bad.0 bad.1

described_sides : (hs : List Held) (size : ℕ × ℕ) → AreSides hs size → IsDescribed hs
described_sides hs size are =
    elim (cases_Bool (are_sides size)) [
      | inl all ↦ inl (size, are, within size all)
      | inr some ↦ inr (BadSides size are (λ w. absurd (let all = are_within size w in cc)))
    ]

described_views : (hs : List Held) (stated : ℕ × ℕ) → FirstStates hs stated → AllByRecursion HasView hs → IsDescribed hs
described_views hs stated first views =
    let b = base stated hs views in
    described_sides hs (turned b.sides (odd_turns b.behind))
    (record { stated = stated; first = first; views = views; sides = b.sides; behind = b.behind; base = b.is; turns = refl })

described : (hs : List Held) → IsDescribed hs
described hs =
    elim (cases_Option (slice_get (of_kind ISPE hs) 0)) [
      | inl none ↦ inr (NoExtents (none_first (of_kind ISPE hs) none))
      | inr first ↦ elim (cases_Option (size_in first.0)) [
        | inl none ↦ inr (BadExtents first.0 first.1 none)
        | inr stated ↦ elim (look_all hs) [
          | inl views ↦ described_views hs stated.0 (first.0, first.1, stated.1) views
          | inr bad ↦ inr (described_bad hs bad.0 bad.1 bad.2)
        ]
      ]
    ]

-- ---- the law

told : (i : Item) (answer : Option (ℕ × ℕ)) → IsPictureSize i.props answer → picture_size_of i ≡ answer
told i None lacks = told_none i lacks
told i (Some size) is = told_size i size is.0 is.1

is_told : (i : Item) → IsPictureSize i.props (picture_size_of i)
is_told i =
    elim (described i.props) [
      | inl has ↦ subst (IsPictureSize i.props) (sym (told_size i has.0 has.1 has.2)) (has.1, has.2)
      | inr lacks ↦ subst (IsPictureSize i.props) (sym (told_none i lacks)) lacks
    ]

pub picture_size_is_told : PictureSizeIsTold
picture_size_is_told i answer = (λ e. subst (IsPictureSize i.props) e (is_told i), told i answer)
