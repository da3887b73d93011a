-- Associations are read as they stand.
use Rattle.std.proofs.Common.{◌≡◌, ◌⊎◌, ℕ, ◌+◌, ◌*◌, ◌≤◌, ◌<◌, ◌^◌, ◌%◌, Bool, true, false, List, [], ◌∷◌, ◌++◌, length, ltb, eqb, Ok, refl, sym, ap, subst, ◌∙◌, append_assoc, arith, inl, inr}
use Rattle.std.specs.Prelude.{nat_le}
use Rattle.std.specs.List.{AllByRecursion, AllZip, flat_map}
use Rattle.std.proofs.lemmas.Bool.{ltb-false, le-ltb, cases_Bool}
use Rattle.std.proofs.lemmas.List.{append-nil}
use Rattle.hf_base.specs.declared.fault.ReadRefusal.{ReadRefusal}
use Rattle.hf_base.specs.declared.fault.ReadRefusal.TheVariants.{BadRecord, BadVersion, TooLarge, DoubleAssoc}
use Rattle.hf_base.specs.declared.kinds.TheConstants.{IPMA}
use Rattle.hf_base.specs.Number.{IsBytes, num}
use Rattle.hf_base.specs.Reading.{front, front_full, full, times}
use Rattle.hf_base.specs.ReadingLaws.{bind_ok, ok_is, Takes, Takes-then, front_takes, front_again, full_takes, full_again}
use Rattle.hf_base.specs.Entries.{has_id, refuse_if, IsIdWidth, id_width_at, entries_from}
use Rattle.hf_base.specs.EntryLaws.{EachGoes, TakesText, entries_again, entries_take, texts_again, texts_take, width_again, width_take, refused_not}
use Rattle.hf_base.specs.NewEntries.{IsFew, IsNew, Both}
use Rattle.hf_box.specs.Boxes.{BoxAt}
use Rattle.hf_box.specs.Tables.{boxes_from}
use Rattle.hf_box.specs.Written.{bit}
use Rattle.hf_prop.specs.declared.assoc.Assoc.{Assoc}
use Rattle.hf_prop.specs.declared.assoc.Pick.{Pick}
use Rattle.hf_prop.specs.Ipma.{pick_width, mark, IsPick, IsAssoc, assoc_ids, assoc_rows, IsIpma, pick_at, assoc_at, entry_at, counted_at, with_ipma}

abbrev pub id_of : Assoc → ℕ
id_of a = a.item

abbrev pub len_of : Assoc → ℕ
len_of a = length a.picks

-- one more has a new id, and is not too many
abbrev pub Goes : ℕ → List Assoc → Assoc → Type 0
Goes most = Both (IsNew id_of) (IsFew most len_of)

-- ---- an association, in one byte or two

abbrev pub Again : ℕ → Type 0
Again w = (short : ReadRefusal) (text rest : List ℕ) (p : Pick) → IsPick w text p → pick_at short w (text ++ rest) ≡ Ok (p, rest)

abbrev pub Taken : ℕ → Type 0
Taken w = (short : ReadRefusal) (bytes : List ℕ) (x : Pick × List ℕ) → IsBytes bytes → pick_at short w bytes ≡ Ok x → TakesText (IsPick w) bytes x

pick_is : (w : ℕ) (short : ReadRefusal) (text rest : List ℕ) (p : Pick) → text ≡ num (mark w * bit p.essential + p.index) w → mark w * bit p.essential + p.index < 256 ^ w
    → nat_le (mark w) (mark w * bit p.essential + p.index) ≡ p.essential → (mark w * bit p.essential + p.index) % mark w ≡ p.index → pick_at short w (text ++ rest) ≡ Ok (p, rest)
unfolding pick_at
pick_is w short text rest p is fits essential index =
    rw (is, front_again w (mark w * bit p.essential + p.index) short rest fits) (λ i. Ok (record { essential = essential i; index = index i }, rest))

-- the mark and the number are told apart
abbrev Facts : ℕ → Bool → ℕ → Type 0
Facts w e n = (mark w * bit e + n < 256 ^ w) × (nat_le (mark w) (mark w * bit e + n) ≡ e) × ((mark w * bit e + n) % mark w ≡ n)

facts_1 : (e : Bool) (n : ℕ) → n < mark 1 → Facts 1 e n
facts_1 true n h = (omega (arith, h), grind (arith, h), grind (arith, h))
facts_1 false n h = (omega (arith, h), grind (arith, h), grind (arith, h))

facts_2 : (e : Bool) (n : ℕ) → n < mark 2 → Facts 2 e n
facts_2 true n h = (omega (arith, h), grind (arith, h), grind (arith, h))
facts_2 false n h = (omega (arith, h), grind (arith, h), grind (arith, h))

again_1 : Again 1
again_1 short text rest p (fits, is) = let f = facts_1 p.essential p.index fits in pick_is 1 short text rest p is f.0 f.1 f.2

again_2 : Again 2
again_2 short text rest p (fits, is) = let f = facts_2 p.essential p.index fits in pick_is 2 short text rest p is f.0 f.1 f.2

split_1 : (n : ℕ) → n < 256 ^ 1 → n ≡ mark 1 * bit (nat_le (mark 1) n) + n % mark 1
split_1 n h = elim (cases_Bool (nat_le 128 n)) [ inl t ↦ rw t (grind (arith, t, h)) | inr f ↦ rw f (grind (arith, f, h)) ]

split_2 : (n : ℕ) → n < 256 ^ 2 → n ≡ mark 2 * bit (nat_le (mark 2) n) + n % mark 2
split_2 n h = elim (cases_Bool (nat_le 32768 n)) [ inl t ↦ rw t (grind (arith, t, h)) | inr f ↦ rw f (grind (arith, f, h)) ]

below_1 : (n : ℕ) → n % mark 1 < mark 1
below_1 n = grind arith

below_2 : (n : ℕ) → n % mark 2 < mark 2
below_2 n = grind arith

pick_take : (w : ℕ) → ((n : ℕ) → n < 256 ^ w → n ≡ mark w * bit (nat_le (mark w) n) + n % mark w) → ((n : ℕ) → n % mark w < mark w) → Taken w
unfolding pick_at
pick_take w split below short bytes x fits e =
    let n = bind_ok (front w short bytes) _ x e in
    let s = front_takes w short bytes n.0 fits n.1 in
    let made : Pick × List ℕ = (record { essential = nat_le (mark w) n.0.0; index = n.0.0 % mark w }, n.0.1) in
    subst (λ (y : Pick × List ℕ). TakesText (IsPick w) bytes y) (ok_is made x n.2) (num n.0.0 w, s.0, (below n.0.0, ap (λ (k : ℕ). num k w) (split n.0.0 s.1)))

width_cases : (flags : ℕ) → (pick_width flags ≡ 1) ⊎ (pick_width flags ≡ 2)
width_cases flags = elim (cases_Bool (eqb (flags % 2) 1)) [ inl t ↦ inr (rw t refl) | inr f ↦ inl (rw f refl) ]

again_at : (flags : ℕ) → Again (pick_width flags)
again_at flags = elim (width_cases flags) [ inl e ↦ subst Again (sym e) again_1 | inr e ↦ subst Again (sym e) again_2 ]

taken_at : (flags : ℕ) → Taken (pick_width flags)
taken_at flags = elim (width_cases flags) [ inl e ↦ subst Taken (sym e) (pick_take 1 split_1 below_1) | inr e ↦ subst Taken (sym e) (pick_take 2 split_2 below_2) ]

-- ---- an entry

assoc_again : (most at rows width w : ℕ) → Again w → (text rest : List ℕ) (a : Assoc) → IsAssoc width w text a → rows + 1 + length a.picks ≤ most → assoc_at most at rows width w (text ++ rest) ≡ Ok (a, rest)
unfolding assoc_at
assoc_again most at rows width w again text rest a h goes =
    let short = BadRecord IPMA at in
    let whole : text ++ rest ≡ num a.item width ++ (num (length a.picks) 1 ++ (h.parts ++ rest)) = ap (λ (t : List ℕ). t ++ rest) h.is ∙ simp append_assoc in
    let item = front_again width a.item short (num (length a.picks) 1 ++ (h.parts ++ rest)) h.item in
    let count = front_again 1 (length a.picks) short (h.parts ++ rest) h.count in
    let few : ltb most (rows + 1 + length a.picks) ≡ false = le-ltb _ _ goes in
    let picks = texts_again (pick_at short w) (IsPick w) (again short) a.picks h.parts rest h.picks in
    ap (assoc_at most at rows width w) whole ∙ rw (item, count, few, picks) refl

entry_again : (most at width w : ℕ) → Again w → (earlier : List Assoc) (text rest : List ℕ) (a : Assoc) → IsAssoc width w text a → Goes most earlier a → entry_at most at width w earlier (text ++ rest) ≡ Ok (a, rest)
unfolding entry_at
entry_again most at width w again earlier text rest a h goes =
    let new : has_id a.item (assoc_ids earlier) ≡ false = goes.0 in
    rw (assoc_again most at (assoc_rows earlier) width w again text rest a h goes.1, new) refl

abbrev TakesAssoc : ℕ → ℕ → ℕ → ℕ → List ℕ → Assoc × List ℕ → Type 0
TakesAssoc most rows width w bytes x = TakesText (IsAssoc width w) bytes x × (rows + 1 + length x.0.picks ≤ most)

assoc_take : (most at rows width w : ℕ) → Taken w → (bytes : List ℕ) (x : Assoc × List ℕ) → IsBytes bytes → assoc_at most at rows width w bytes ≡ Ok x → TakesAssoc most rows width w bytes x
unfolding assoc_at
assoc_take most at rows width w taken bytes x fits e =
    let short = BadRecord IPMA at in
    let i = bind_ok (front width short bytes) _ x e in
    let c = bind_ok (front 1 short i.0.1) _ x i.2 in
    let f = bind_ok (refuse_if (ltb most (rows + 1 + c.0.0)) (TooLarge IPMA at)) _ x c.2 in
    let t = bind_ok (times (pick_at short w) c.0.0 c.0.1) _ x f.2 in
    let s0 = front_takes width short bytes i.0 fits i.1 in
    let s1 = front_takes 1 short i.0.1 c.0 s0.0.fits c.1 in
    let u = texts_take (pick_at short w) (IsPick w) (taken short) c.0.0 c.0.1 t.0 s1.0.fits t.1 in
    let t1 = Takes-then i.0.1 (num c.0.0 1) c.0.1 u.0 t.0.1 s1.0 u.1 in
    let t0 = Takes-then bytes (num i.0.0 width) i.0.1 (num c.0.0 1 ++ u.0) t.0.1 s0.0 t1 in
    let few : rows + 1 + c.0.0 ≤ most = ltb-false _ _ (refused_not _ _ f.0 f.1) in
    let a : Assoc = record { item = i.0.0; picks = t.0.0 } in
    let stands : IsAssoc width w (num i.0.0 width ++ (num c.0.0 1 ++ u.0)) a = record {
      item = s0.1;
      count = subst (λ (k : ℕ). k < 256 ^ 1) (sym u.3) s1.1;
      parts = u.0;
      is = ap (λ (k : ℕ). num i.0.0 width ++ (num k 1 ++ u.0)) (sym {a = length t.0.0} u.3);
      picks = u.2;
    } in
    let made : Assoc × List ℕ = (a, t.0.1) in
    subst (λ (y : Assoc × List ℕ). TakesAssoc most rows width w bytes y) {x = made} (ok_is made x t.2) ((num i.0.0 width ++ (num c.0.0 1 ++ u.0), t0, stands), subst (λ (k : ℕ). rows + 1 + k ≤ most) (sym u.3) few)

entry_take : (most at width w : ℕ) → Taken w → (earlier : List Assoc) (bytes : List ℕ) (x : Assoc × List ℕ) → IsBytes bytes → entry_at most at width w earlier bytes ≡ Ok x → TakesText (IsAssoc width w) bytes x × Goes most earlier x.0
unfolding entry_at
entry_take most at width w taken earlier bytes x fits e =
    let a = bind_ok (assoc_at most at (assoc_rows earlier) width w bytes) _ x e in
    let n = bind_ok (refuse_if (has_id a.0.0.item (assoc_ids earlier)) (DoubleAssoc a.0.0.item)) _ x a.2 in
    let s = assoc_take most at (assoc_rows earlier) width w taken bytes a.0 fits a.1 in
    subst (λ (y : Assoc × List ℕ). TakesText (IsAssoc width w) bytes y × Goes most earlier y.0) (ok_is a.0 x n.2) (s.0, (refused_not _ _ n.0 n.1, s.1))

-- ---- a box

version_fits : (version width : ℕ) → IsIdWidth 0 version width → version < 256 ^ 1
version_fits version width (inl (v, w)) = omega (arith, v)
version_fits version width (inr (v, w)) = omega (arith, v)

counted_again : (at : ℕ) (body : List ℕ) (assocs : List Assoc) → (r : IsIpma body assocs) → counted_at at body ≡ Ok ((r.width, pick_width r.flags, length assocs), r.entries ++ r.rest)
unfolding counted_at
counted_again at body assocs r =
    let short = BadRecord IPMA at in
    let head = full_again r.version r.flags short (num (length assocs) 4 ++ (r.entries ++ r.rest)) (version_fits r.version r.width r.versioned) r.flags_fit in
    let width = width_again 0 (BadVersion IPMA at) r.version r.width r.versioned in
    let count = front_again 4 (length assocs) short (r.entries ++ r.rest) r.count in
    rw (r.is, head, width, count) refl

pub ipma_again : (most : ℕ) (earlier : List Assoc) (b : BoxAt) (assocs : List Assoc) → IsIpma b.body assocs → EachGoes (Goes most) earlier assocs → with_ipma most earlier b ≡ Ok (earlier ++ assocs)
unfolding with_ipma
ipma_again most earlier b assocs r goes =
    let w = pick_width r.flags in
    let entries = entries_again (entry_at most b.at r.width w) (IsAssoc r.width w) (Goes most) (entry_again most b.at r.width w (again_at r.flags)) earlier assocs r.entries r.rest r.texts goes in
    rw (counted_again b.at b.body assocs r, entries) refl

-- what stands in front of the entries
record TakesCount (body : List ℕ) (width w count : ℕ) (rest : List ℕ) : Type 0 where
  version : ℕ
  flags : ℕ
  flags_fit : flags < 256 ^ 3
  versioned : IsIdWidth 0 version width
  same : pick_width flags ≡ w
  fits : count < 256 ^ 4
  takes : Takes body (full version flags ++ num count 4) rest

counted_take : (at : ℕ) (body : List ℕ) (x : (ℕ × ℕ × ℕ) × List ℕ) → IsBytes body → counted_at at body ≡ Ok x → TakesCount body x.0.0 x.0.1 x.0.2 x.1
unfolding counted_at
counted_take at body x fits e =
    let short = BadRecord IPMA at in
    let v = bind_ok (front_full short body) _ x e in
    let w = bind_ok (id_width_at 0 (BadVersion IPMA at) v.0.0.0) _ x v.2 in
    let c = bind_ok (front 4 short v.0.1) _ x w.2 in
    let s0 = full_takes short body v.0 fits v.1 in
    let s1 = front_takes 4 short v.0.1 c.0 s0.0.fits c.1 in
    let stands : TakesCount body w.0 (pick_width v.0.0.1) c.0.0 c.0.1 = record {
      version = v.0.0.0;
      flags = v.0.0.1;
      flags_fit = s0.2;
      versioned = width_take 0 (BadVersion IPMA at) v.0.0.0 w.0 w.1;
      same = refl;
      fits = s1.1;
      takes = Takes-then body (full v.0.0.0 v.0.0.1) v.0.1 (num c.0.0 4) c.0.1 s0.0 s1.0;
    } in
    let made : (ℕ × ℕ × ℕ) × List ℕ = ((w.0, pick_width v.0.0.1, c.0.0), c.0.1) in
    subst (λ (y : (ℕ × ℕ × ℕ) × List ℕ). TakesCount body y.0.0 y.0.1 y.0.2 y.1) {x = made} (ok_is made x c.2) stands

pub ipma_take : (most : ℕ) (earlier : List Assoc) (b : BoxAt) (more : List Assoc) → IsBytes b.body → with_ipma most earlier b ≡ Ok more → (xs : List Assoc) × (more ≡ earlier ++ xs) × IsIpma b.body xs × EachGoes (Goes most) earlier xs
unfolding with_ipma
ipma_take most earlier b more fits e =
    let c = bind_ok (counted_at b.at b.body) _ more e in
    let t = bind_ok (entries_from (entry_at most b.at c.0.0.0 c.0.0.1) earlier c.0.0.2 c.0.1) _ more c.2 in
    let s = counted_take b.at b.body c.0 fits c.1 in
    let w = pick_width s.flags in
    let read : entries_from (entry_at most b.at c.0.0.0 w) earlier c.0.0.2 c.0.1 ≡ Ok t.0 = ap (λ (k : ℕ). entries_from (entry_at most b.at c.0.0.0 k) earlier c.0.0.2 c.0.1) s.same ∙ t.1 in
    let u = entries_take (entry_at most b.at c.0.0.0 w) (IsAssoc c.0.0.0 w) (Goes most) (entry_take most b.at c.0.0.0 w (taken_at s.flags)) earlier c.0.0.2 c.0.1 t.0 s.takes.fits read in
    let whole = (Takes-then b.body _ c.0.1 u.entries t.0.1 s.takes u.takes).parts in
    let is : b.body ≡ full s.version s.flags ++ (num (length u.xs) 4 ++ (u.entries ++ t.0.1)) = whole ∙ rw u.count (simp append_assoc) in
    let made : IsIpma b.body u.xs = record {
      version = s.version;
      flags = s.flags;
      flags_fit = s.flags_fit;
      width = c.0.0.0;
      versioned = s.versioned;
      count = subst (λ (m : ℕ). m < 256 ^ 4) (sym u.count) s.fits;
      entries = u.entries;
      rest = t.0.1;
      is = is;
      texts = u.texts;
    } in
    (u.xs, sym (ok_is t.0.0 more t.2) ∙ u.is, made, u.goes)

-- ---- several boxes

each_split : (most : ℕ) (earlier xs ys : List Assoc) → EachGoes (Goes most) earlier (xs ++ ys) → EachGoes (Goes most) earlier xs × EachGoes (Goes most) (earlier ++ xs) ys
each_split most earlier [] ys h = (tt, subst (λ (l : List Assoc). EachGoes (Goes most) l ys) (sym (append-nil earlier)) h)
each_split most earlier (x ∷ xs) ys h =
    let more = each_split most (earlier ++ x ∷ []) xs ys h.1 in
    ((h.0, more.0), subst (λ (l : List Assoc). EachGoes (Goes most) l ys) (append_assoc earlier (x ∷ []) xs) more.1)

each_append : (most : ℕ) (earlier xs ys : List Assoc) → EachGoes (Goes most) earlier xs → EachGoes (Goes most) (earlier ++ xs) ys → EachGoes (Goes most) earlier (xs ++ ys)
each_append most earlier [] ys h k = subst (λ (l : List Assoc). EachGoes (Goes most) l ys) (append-nil earlier) k
each_append most earlier (x ∷ xs) ys h k =
    (h.0, each_append most (earlier ++ x ∷ []) xs ys h.1 (subst (λ (l : List Assoc). EachGoes (Goes most) l ys) (sym (append_assoc earlier (x ∷ []) xs)) k))

abbrev pub flat : List (List Assoc) → List Assoc
flat ts = flat_map (λ t. t) ts

abbrev pub Is : BoxAt → List Assoc → Type 0
Is b t = IsIpma b.body t

abbrev pub AreBodies : List BoxAt → Type 0
AreBodies bs = AllByRecursion (λ (b : BoxAt). IsBytes b.body) bs

pub tables_again : (most : ℕ) (earlier : List Assoc) (bs : List BoxAt) (ts : List (List Assoc)) → AllZip Is bs ts → EachGoes (Goes most) earlier (flat ts) → boxes_from (with_ipma most) earlier bs ≡ Ok (earlier ++ flat ts)
unfolding boxes_from
tables_again most earlier [] [] each goes = ap (λ (l : List Assoc). Ok l) (sym (append-nil earlier))
tables_again most earlier [] (t ∷ ts) each goes = absurd each
tables_again most earlier (b ∷ bs) [] each goes = absurd each
tables_again most earlier (b ∷ bs) (t ∷ ts) each goes =
    let parts = each_split most earlier t (flat ts) goes in
    let first = ipma_again most earlier b t each.0 parts.0 in
    rw first (tables_again most (earlier ++ t) bs ts each.1 parts.1 ∙ ap (λ (l : List Assoc). Ok l) (append_assoc earlier t (flat ts)))

pub tables_take : (most : ℕ) (earlier all : List Assoc) (bs : List BoxAt) → AreBodies bs → boxes_from (with_ipma most) earlier bs ≡ Ok all
    → (ts : List (List Assoc)) × (all ≡ earlier ++ flat ts) × AllZip Is bs ts × EachGoes (Goes most) earlier (flat ts)
unfolding boxes_from
tables_take most earlier all [] fits e = ([], sym (ok_is earlier all e) ∙ sym (append-nil earlier), tt, tt)
tables_take most earlier all (b ∷ bs) fits e =
    let a = bind_ok (with_ipma most earlier b) (λ more. boxes_from (with_ipma most) more bs) all e in
    let s = ipma_take most earlier b a.0 fits.0 a.1 in
    let next : boxes_from (with_ipma most) (earlier ++ s.0) bs ≡ Ok all = ap (λ (l : List Assoc). boxes_from (with_ipma most) l bs) (sym s.1) ∙ a.2 in
    let t = tables_take most (earlier ++ s.0) all bs fits.1 next in
    (s.0 ∷ t.0, t.1 ∙ append_assoc earlier s.0 (flat t.0), (s.2, t.2), each_append most earlier s.0 (flat t.0) s.3 t.3)
