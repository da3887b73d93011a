-- The entries that are read stand there, and the entries that stand there are read.
use Rattle.std.proofs.Common.{◌≡◌, ℕ, ◌+◌, ◌≤◌, ◌<◌, ◌^◌, ◌%◌, true, false, List, [], ◌++◌, length, ltb, Result, Ok, Err, refl, sym, ap, subst, ◌∙◌, append_assoc, arith, inl, inr}
use Rattle.std.specs.Global.{Vec}
use Rattle.std.specs.Prelude.{IfOk}
use Rattle.std.proofs.lemmas.Bool.{ltb-false, le-ltb}
use Rattle.hf_base.specs.declared.fault.ReadRefusal.{ReadRefusal}
use Rattle.hf_base.specs.declared.fault.ReadRefusal.TheVariants.{BadRecord, BadVersion, BadWidth, TooLarge, DoubleLocation}
use Rattle.hf_base.specs.declared.fault.OpenFault.{OpenFault}
use Rattle.hf_base.specs.declared.fault.OpenFault.TheVariants.{Unfit, NoMemory}
use Rattle.hf_base.specs.declared.kinds.TheConstants.{ILOC}
use Rattle.hf_base.specs.declared.limits.TheConstants.{ROWS}
use Rattle.hf_base.specs.declared.loc.Extent.{Extent}
use Rattle.hf_base.specs.declared.loc.Loc.{Loc}
use Rattle.hf_base.specs.Number.{IsBytes, num}
use Rattle.hf_base.specs.Reading.{Gives, MatchOpen, front, front_full, full, times}
use Rattle.hf_base.specs.ReadingLaws.{bind_ok, ok_is, chosen, Takes, Takes-then, front_takes, front_again, full_takes, full_again}
use Rattle.hf_base.specs.Entries.{has_id, refuse_if, entries_from}
use Rattle.hf_base.specs.EntryLaws.{TakesText, entries_again, entries_take, texts_again, texts_take, refused_not}
use Rattle.hf_base.specs.NewEntries.{IsFew, few_each, each_few, IsNew, new_each, each_new, Both, each_both, both_first, both_second}
use Rattle.hf_loc.specs.Iloc.{Widths, widths_of, are_widths, index_of, IsExtent, IsEntry, loc_ids, loc_rows, IsIloc, index_at, extent_at, Fields, fields_at, loc_at, entry_at, widths_at, counted_at, iloc_within, iloc_at}

abbrev id_of : Loc → ℕ
id_of l = l.id

abbrev len_of : Loc → ℕ
len_of l = length l.extents

abbrev Goes : ℕ → List Loc → Loc → Type 0
Goes most = Both (IsNew id_of) (IsFew most len_of)

is_byte : (n : ℕ) → n < 256 ^ 1 → n < 256
is_byte n h = omega (arith, h)

-- ---- what stands there is read

index_again : (short : ReadRefusal) (w index : ℕ) (rest : List ℕ) → index < 256 ^ w → index_at short w (num index w ++ rest) ≡ Ok (index_of w index, rest)
unfolding index_at
index_again short w index rest fits = rw (front_again w index short rest fits) refl

extent_again : (short : ReadRefusal) (w : Widths) (text rest : List ℕ) (e : Extent) → IsExtent w text e → extent_at short w (text ++ rest) ≡ Ok (e, rest)
unfolding extent_at
extent_again short w text rest e h =
    let whole : text ++ rest ≡ num h.index w.index ++ (num e.offset w.offset ++ (num e.length w.length ++ rest)) = ap (λ (t : List ℕ). t ++ rest) h.is ∙ simp append_assoc in
    let first = index_again short w.index h.index (num e.offset w.offset ++ (num e.length w.length ++ rest)) h.index_fits in
    let second = front_again w.offset e.offset short (num e.length w.length ++ rest) h.offset in
    let third = front_again w.length e.length short rest h.length in
    ap (extent_at short w) whole ∙ rw (first, second, third) (ap (λ k. Ok (record { index = k; offset = e.offset; length = e.length }, rest)) (sym h.is_index))

abbrev fields_of : Loc → Fields
fields_of l = record { id = l.id; method = l.method; dref = l.dref; base = l.base; count = length l.extents }

fields_again : (short : ReadRefusal) (w : Widths) (text rest : List ℕ) (l : Loc) (h : IsEntry w text l) → fields_at short w (text ++ rest) ≡ Ok (fields_of l, h.parts ++ rest)
unfolding fields_at
fields_again short w text rest l h =
    let c = h.parts ++ rest in
    let b = num (length l.extents) 2 ++ c in
    let d = num l.base w.base ++ b in
    let m = num l.dref 2 ++ d in
    let i = num h.method w.method ++ m in
    let whole : text ++ rest ≡ num l.id w.id ++ i = ap (λ (t : List ℕ). t ++ rest) h.is ∙ simp append_assoc in
    let id = front_again w.id l.id short i h.id in
    let method = front_again w.method h.method short m h.method_fits in
    let dref = front_again 2 l.dref short d h.dref in
    let base = front_again w.base l.base short b h.base in
    let count = front_again 2 (length l.extents) short c h.count in
    ap (fields_at short w) whole ∙ rw (id, method, dref, base, count) (ap (λ k. Ok (record { id = l.id; method = k; dref = l.dref; base = l.base; count = length l.extents }, c)) (sym h.is_method))

entry_again : (most at : ℕ) (w : Widths) (earlier : List Loc) (text rest : List ℕ) (l : Loc) → IsEntry w text l → Goes most earlier l → entry_at most at w earlier (text ++ rest) ≡ Ok (l, rest)
unfolding entry_at loc_at
entry_again most at w earlier text rest l h goes =
    let fields = fields_again (BadRecord ILOC at) w text rest l h in
    let few : ltb most (loc_rows earlier + 1 + length l.extents) ≡ false = le-ltb _ _ goes.1 in
    let extents = texts_again (extent_at (BadRecord ILOC at) w) (IsExtent w) (extent_again (BadRecord ILOC at) w) l.extents h.parts rest h.extents in
    let new : has_id l.id (loc_ids earlier) ≡ false = goes.0 in
    rw (fields, few, extents, new) refl

widths_again : (bad : ReadRefusal) (version sizes bases : ℕ) → are_widths (widths_of version sizes bases) ≡ true → widths_at bad version sizes bases ≡ Ok (widths_of version sizes bases)
unfolding widths_at
widths_again bad version sizes bases h = rw h refl

counted_again : (at : ℕ) (body : List ℕ) (locs : List Loc) (r : IsIloc body locs) → counted_at at body ≡ Ok ((widths_of r.version r.sizes r.bases, length locs), r.entries ++ r.rest)
unfolding counted_at
counted_again at body locs r =
    let short = BadRecord ILOC at in
    let w = widths_of r.version r.sizes r.bases in
    let c = r.entries ++ r.rest in
    let b = num (length locs) w.id ++ c in
    let s = num r.bases 1 ++ b in
    let head = full_again r.version r.flags short (num r.sizes 1 ++ s) (omega (arith, r.known)) r.flags_fit in
    let known : ltb 2 r.version ≡ false = le-ltb _ _ r.known in
    let sizes = front_again 1 r.sizes short s (omega (arith, r.sizes_fit)) in
    let bases = front_again 1 r.bases short b (omega (arith, r.bases_fit)) in
    let count = front_again w.id (length locs) short c r.count in
    let widths = widths_again (BadWidth at) r.version r.sizes r.bases r.widths in
    ap (counted_at at) r.is ∙ rw (head, known, sizes, bases, count, widths) refl

pub iloc_again : (most at : ℕ) (body : List ℕ) (locs : List Loc) → IsIloc body locs → loc_rows locs ≤ most → iloc_within most at body ≡ Ok locs
unfolding iloc_within
iloc_again most at body locs r rows =
    let w = widths_of r.version r.sizes r.bases in
    let goes = each_both (IsNew id_of) (IsFew most len_of) [] locs (new_each id_of [] locs r.distinct) (few_each most len_of [] locs rows) in
    let entries = entries_again (entry_at most at w) (IsEntry w) (Goes most) (entry_again most at w) [] locs r.entries r.rest r.texts goes in
    rw (counted_again at body locs r, entries) refl

-- ---- what is read stands there

index_take : (short : ReadRefusal) (w : ℕ) (bytes : List ℕ) (x : ℕ × List ℕ) → IsBytes bytes → index_at short w bytes ≡ Ok x → (n : ℕ) × Takes bytes (num n w) x.1 × (n < 256 ^ w) × (x.0 ≡ index_of w n)
unfolding index_at
index_take short w bytes x fits e =
    let i = bind_ok (front w short bytes) (λ (n : ℕ × List ℕ). Ok (index_of w n.0, n.1)) x e in
    let s = front_takes w short bytes i.0 fits i.1 in
    let made : ℕ × List ℕ = (index_of w i.0.0, i.0.1) in
    subst (λ (y : ℕ × List ℕ). (n : ℕ) × Takes bytes (num n w) y.1 × (n < 256 ^ w) × (y.0 ≡ index_of w n)) (ok_is made x i.2) (i.0.0, s.0, s.1, refl)

extent_take : (short : ReadRefusal) (w : Widths) (bytes : List ℕ) (x : Extent × List ℕ) → IsBytes bytes → extent_at short w bytes ≡ Ok x → TakesText (IsExtent w) bytes x
unfolding extent_at
extent_take short w bytes x fits e =
    let i = bind_ok (index_at short w.index bytes) _ x e in
    let o = bind_ok (front w.offset short i.0.1) _ x i.2 in
    let l = bind_ok (front w.length short o.0.1) _ x o.2 in
    let s0 = index_take short w.index bytes i.0 fits i.1 in
    let s1 = front_takes w.offset short i.0.1 o.0 s0.1.fits o.1 in
    let s2 = front_takes w.length short o.0.1 l.0 s1.0.fits l.1 in
    let t1 = Takes-then i.0.1 (num o.0.0 w.offset) o.0.1 (num l.0.0 w.length) l.0.1 s1.0 s2.0 in
    let t0 = Takes-then bytes (num s0.0 w.index) i.0.1 _ l.0.1 s0.1 t1 in
    let text = num s0.0 w.index ++ (num o.0.0 w.offset ++ num l.0.0 w.length) in
    let extent : Extent = record { index = i.0.0; offset = o.0.0; length = l.0.0 } in
    let stands : IsExtent w text extent = record { index = s0.0; index_fits = s0.2; is_index = s0.3; offset = s1.1; length = s2.1; is = refl } in
    let made : Extent × List ℕ = (extent, l.0.1) in
    subst (λ (y : Extent × List ℕ). TakesText (IsExtent w) bytes y) {x = made} (ok_is made x l.2) (text, t0, stands)

-- the fields in front of the extents were taken from the front
record TakesFields (w : Widths) (bytes : List ℕ) (f : Fields) (rest : List ℕ) : Type 0 where
  method : ℕ
  method_fits : method < 256 ^ w.method
  is_method : f.method ≡ method % 16
  id : f.id < 256 ^ w.id
  dref : f.dref < 256 ^ 2
  base : f.base < 256 ^ w.base
  count : f.count < 256 ^ 2
  takes : Takes bytes (num f.id w.id ++ (num method w.method ++ (num f.dref 2 ++ (num f.base w.base ++ num f.count 2)))) rest

fields_take : (short : ReadRefusal) (w : Widths) (bytes : List ℕ) (x : Fields × List ℕ) → IsBytes bytes → fields_at short w bytes ≡ Ok x → TakesFields w bytes x.0 x.1
unfolding fields_at
fields_take short w bytes x fits e =
    let i = bind_ok (front w.id short bytes) _ x e in
    let m = bind_ok (front w.method short i.0.1) _ x i.2 in
    let d = bind_ok (front 2 short m.0.1) _ x m.2 in
    let b = bind_ok (front w.base short d.0.1) _ x d.2 in
    let c = bind_ok (front 2 short b.0.1) _ x b.2 in
    let s0 = front_takes w.id short bytes i.0 fits i.1 in
    let s1 = front_takes w.method short i.0.1 m.0 s0.0.fits m.1 in
    let s2 = front_takes 2 short m.0.1 d.0 s1.0.fits d.1 in
    let s3 = front_takes w.base short d.0.1 b.0 s2.0.fits b.1 in
    let s4 = front_takes 2 short b.0.1 c.0 s3.0.fits c.1 in
    let t3 = Takes-then d.0.1 (num b.0.0 w.base) b.0.1 (num c.0.0 2) c.0.1 s3.0 s4.0 in
    let tail = num b.0.0 w.base ++ num c.0.0 2 in
    let t2 = Takes-then m.0.1 (num d.0.0 2) d.0.1 tail c.0.1 s2.0 t3 in
    let t1 = Takes-then i.0.1 (num m.0.0 w.method) m.0.1 (num d.0.0 2 ++ tail) c.0.1 s1.0 t2 in
    let t0 = Takes-then bytes (num i.0.0 w.id) i.0.1 (num m.0.0 w.method ++ (num d.0.0 2 ++ tail)) c.0.1 s0.0 t1 in
    let f : Fields = record { id = i.0.0; method = m.0.0 % 16; dref = d.0.0; base = b.0.0; count = c.0.0 } in
    let stands : TakesFields w bytes f c.0.1 = record { method = m.0.0; method_fits = s1.1; is_method = refl; id = s0.1; dref = s2.1; base = s3.1; count = s4.1; takes = t0 } in
    let made : Fields × List ℕ = (f, c.0.1) in
    subst (λ (y : Fields × List ℕ). TakesFields w bytes y.0 y.1) {x = made} (ok_is made x c.2) stands

loc_take : (most at rows : ℕ) (w : Widths) (bytes : List ℕ) (x : Loc × List ℕ) → IsBytes bytes → loc_at most at rows w bytes ≡ Ok x → TakesText (IsEntry w) bytes x × (rows + 1 + length x.0.extents ≤ most)
unfolding loc_at
loc_take most at rows w bytes x fits e =
    let short = BadRecord ILOC at in
    let f = bind_ok (fields_at short w bytes) _ x e in
    let g = bind_ok (refuse_if (ltb most (rows + 1 + f.0.0.count)) (TooLarge ILOC at)) _ x f.2 in
    let t = bind_ok (times (extent_at short w) f.0.0.count f.0.1) _ x g.2 in
    let s = fields_take short w bytes f.0 fits f.1 in
    let u = texts_take (extent_at short w) (IsExtent w) (extent_take short w) f.0.0.count f.0.1 t.0 s.takes.fits t.1 in
    let few : rows + 1 + f.0.0.count ≤ most = ltb-false _ _ (refused_not _ _ g.0 g.1) in
    let l : Loc = record { id = f.0.0.id; method = f.0.0.method; dref = f.0.0.dref; base = f.0.0.base; extents = t.0.0 } in
    let front = num l.id w.id ++ (num s.method w.method ++ (num l.dref 2 ++ (num l.base w.base ++ num f.0.0.count 2))) in
    let text = front ++ u.0 in
    let same : num f.0.0.count 2 ≡ num (length t.0.0) 2 = ap (λ (k : ℕ). num k 2) (sym u.3) in
    let is : text ≡ num l.id w.id ++ (num s.method w.method ++ (num l.dref 2 ++ (num l.base w.base ++ (num (length t.0.0) 2 ++ u.0)))) = rw same (simp append_assoc) in
    let stands : IsEntry w text l = record {
      method = s.method;
      method_fits = s.method_fits;
      is_method = s.is_method;
      id = s.id;
      dref = s.dref;
      base = s.base;
      count = subst (λ (k : ℕ). k < 256 ^ 2) (sym u.3) s.count;
      parts = u.0;
      is = is;
      extents = u.2;
    } in
    let made : Loc × List ℕ = (l, t.0.1) in
    subst (λ (y : Loc × List ℕ). TakesText (IsEntry w) bytes y × (rows + 1 + length y.0.extents ≤ most)) {x = made} (ok_is made x t.2)
    ((text, Takes-then bytes front f.0.1 u.0 t.0.1 s.takes u.1, stands), subst (λ (k : ℕ). rows + 1 + k ≤ most) (sym u.3) few)

entry_take : (most at : ℕ) (w : Widths) (earlier : List Loc) (bytes : List ℕ) (x : Loc × List ℕ) → IsBytes bytes → entry_at most at w earlier bytes ≡ Ok x → TakesText (IsEntry w) bytes x × Goes most earlier x.0
unfolding entry_at
entry_take most at w earlier bytes x fits e =
    let l = bind_ok (loc_at most at (loc_rows earlier) w bytes) _ x e in
    let n = bind_ok (refuse_if (has_id l.0.0.id (loc_ids earlier)) (DoubleLocation l.0.0.id)) _ x l.2 in
    let s = loc_take most at (loc_rows earlier) w bytes l.0 fits l.1 in
    subst (λ (y : Loc × List ℕ). TakesText (IsEntry w) bytes y × Goes most earlier y.0) (ok_is l.0 x n.2) (s.0, (refused_not _ _ n.0 n.1, s.1))

abbrev StandsWithin : ℕ → List ℕ → List Loc → Type 0
StandsWithin most body locs = IsIloc body locs × (loc_rows locs ≤ most)

widths_take : (bad : ReadRefusal) (version sizes bases : ℕ) (w : Widths) → widths_at bad version sizes bases ≡ Ok w → (are_widths (widths_of version sizes bases) ≡ true) × (widths_of version sizes bases ≡ w)
unfolding widths_at
widths_take bad version sizes bases w e =
    elim (chosen (are_widths (widths_of version sizes bases)) (Ok (widths_of version sizes bases)) (Err bad) (Ok w) e) [
      | inl h ↦ (h.0, ok_is (widths_of version sizes bases) w h.1)
      | inr h ↦ absurd (let no = h.1 in cc)
    ]

-- the fields in front of the entries
record TakesCount (body : List ℕ) (w : Widths) (count : ℕ) (rest : List ℕ) : Type 0 where
  version : ℕ
  known : version ≤ 2
  flags : ℕ
  flags_fit : flags < 256 ^ 3
  sizes : ℕ
  sizes_fit : sizes < 256
  bases : ℕ
  bases_fit : bases < 256
  widths : are_widths (widths_of version sizes bases) ≡ true
  same : widths_of version sizes bases ≡ w
  fits : count < 256 ^ (widths_of version sizes bases).id
  takes : Takes body (full version flags ++ (num sizes 1 ++ (num bases 1 ++ num count (widths_of version sizes bases).id))) rest

counted_take : (at : ℕ) (body : List ℕ) (x : (Widths × ℕ) × List ℕ) → IsBytes body → counted_at at body ≡ Ok x → TakesCount body x.0.0 x.0.1 x.1
unfolding counted_at
counted_take at body x fits e =
    let short = BadRecord ILOC at in
    let v = bind_ok (front_full short body) _ x e in
    let k = bind_ok (refuse_if (ltb 2 v.0.0.0) (BadVersion ILOC at)) _ x v.2 in
    let a = bind_ok (front 1 short v.0.1) _ x k.2 in
    let b = bind_ok (front 1 short a.0.1) _ x a.2 in
    let w = widths_of v.0.0.0 a.0.0 b.0.0 in
    let c = bind_ok (front w.id short b.0.1) _ x b.2 in
    let g = bind_ok (widths_at (BadWidth at) v.0.0.0 a.0.0 b.0.0) _ x c.2 in
    let s0 = full_takes short body v.0 fits v.1 in
    let s1 = front_takes 1 short v.0.1 a.0 s0.0.fits a.1 in
    let s2 = front_takes 1 short a.0.1 b.0 s1.0.fits b.1 in
    let s3 = front_takes w.id short b.0.1 c.0 s2.0.fits c.1 in
    let tail = num b.0.0 1 ++ num c.0.0 w.id in
    let t2 = Takes-then a.0.1 (num b.0.0 1) b.0.1 (num c.0.0 w.id) c.0.1 s2.0 s3.0 in
    let t1 = Takes-then v.0.1 (num a.0.0 1) a.0.1 tail c.0.1 s1.0 t2 in
    let t0 = Takes-then body (full v.0.0.0 v.0.0.1) v.0.1 (num a.0.0 1 ++ tail) c.0.1 s0.0 t1 in
    let good = widths_take (BadWidth at) v.0.0.0 a.0.0 b.0.0 g.0 g.1 in
    let stands : TakesCount body g.0 c.0.0 c.0.1 = record {
      version = v.0.0.0;
      known = ltb-false _ _ (refused_not _ _ k.0 k.1);
      flags = v.0.0.1;
      flags_fit = s0.2;
      sizes = a.0.0;
      sizes_fit = is_byte a.0.0 s1.1;
      bases = b.0.0;
      bases_fit = is_byte b.0.0 s2.1;
      widths = good.0;
      same = good.1;
      fits = s3.1;
      takes = t0;
    } in
    let made : (Widths × ℕ) × List ℕ = ((g.0, c.0.0), c.0.1) in
    subst (λ (y : (Widths × ℕ) × List ℕ). TakesCount body y.0.0 y.0.1 y.1) {x = made} (ok_is made x g.2) stands

pub iloc_take : (most at : ℕ) (body : List ℕ) (locs : List Loc) → IsBytes body → iloc_within most at body ≡ Ok locs → StandsWithin most body locs
unfolding iloc_within
iloc_take most at body locs fits e =
    let top = bind_ok (counted_at at body) _ locs e in
    let t = bind_ok (entries_from (entry_at most at top.0.0.0) [] top.0.0.1 top.0.1) _ locs top.2 in
    let s = counted_take at body top.0 fits top.1 in
    let w = widths_of s.version s.sizes s.bases in
    let read : entries_from (entry_at most at w) [] top.0.0.1 top.0.1 ≡ Ok t.0 = ap (λ (y : Widths). entries_from (entry_at most at y) [] top.0.0.1 top.0.1) s.same ∙ t.1 in
    let u = entries_take (entry_at most at w) (IsEntry w) (Goes most) (entry_take most at w) [] top.0.0.1 top.0.1 t.0 s.takes.fits read in
    let rows : loc_rows u.xs ≤ most = each_few most len_of [] u.xs (omega arith) (both_second (IsNew id_of) (IsFew most len_of) [] u.xs u.goes) in
    let whole = (Takes-then body _ top.0.1 u.entries t.0.1 s.takes u.takes).parts in
    let is : body ≡ full s.version s.flags ++ (num s.sizes 1 ++ (num s.bases 1 ++ (num (length u.xs) w.id ++ (u.entries ++ t.0.1)))) =
    whole ∙ rw u.count (simp append_assoc) in
    let made : IsIloc body u.xs = record {
      version = s.version;
      known = s.known;
      flags = s.flags;
      flags_fit = s.flags_fit;
      sizes = s.sizes;
      sizes_fit = s.sizes_fit;
      bases = s.bases;
      bases_fit = s.bases_fit;
      widths = s.widths;
      count = subst (λ (m : ℕ). m < 256 ^ w.id) (sym u.count) s.fits;
      entries = u.entries;
      rest = t.0.1;
      is = is;
      texts = u.texts;
      distinct = each_new id_of [] u.xs refl (both_first (IsNew id_of) (IsFew most len_of) [] u.xs u.goes);
    } in
    subst (λ (l : List Loc). StandsWithin most body l) (sym u.is ∙ ok_is t.0.0 locs t.2) (made, rows)

-- a limit that both lists keep reads both
pub one_value : (body : List ℕ) (some other : List Loc) → IsIloc body some → IsIloc body other → some ≡ other
one_value body some other p q =
    let most = loc_rows some + loc_rows other in
    ok_is some other (sym (iloc_again most 0 body some p (omega arith)) ∙ iloc_again most 0 body other q (omega arith))

-- ---- what a function returned

abbrev pub Returned : Type 0
Returned = Result (Vec Loc) OpenFault

pub is_found : (at : ℕ) (body : List ℕ) (r : Returned) → IsBytes body → Gives (λ (v : Vec Loc). v.items) r (iloc_at at body) → IfOk r (λ v. IsIloc body v.items)
is_found at body (Ok v) fits given = (iloc_take ROWS at body v.items fits given).0
is_found at body (Err e) fits given = tt

pub is_few : (at : ℕ) (body : List ℕ) (r : Returned) → IsBytes body → Gives (λ (v : Vec Loc). v.items) r (iloc_at at body) → IfOk r (λ v. loc_rows v.items ≤ ROWS)
is_few at body (Ok v) fits given = (iloc_take ROWS at body v.items fits given).1
is_few at body (Err e) fits given = tt

pub is_only : (at : ℕ) (body : List ℕ) (r : Returned) (locs : List Loc) → Gives (λ (v : Vec Loc). v.items) r (iloc_at at body) → IsIloc body locs → loc_rows locs ≤ ROWS → MatchOpen r (λ v. v.items ≡ locs) (λ fault. ⊥)
is_only at body (Ok v) locs given h few = ok_is v.items locs (sym given ∙ iloc_again ROWS at body locs h few)
is_only at body (Err NoMemory) locs given h few = tt
is_only at body (Err (Unfit e)) locs given h few = let k = iloc_again ROWS at body locs h few in absurd cc
