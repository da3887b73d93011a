-- References are read as they stand, and as they are written.
use Rattle.std.proofs.Common.{◌≡◌, ℕ, ◌+◌, ◌-◌, ◌≤◌, ◌<◌, ◌^◌, Bool, true, false, List, [], ◌∷◌, ◌++◌, length, ltb, drop, length-drop, Result, Ok, Err, refl, sym, ap, subst, ◌∙◌, append_assoc, append-nil, length-append, arith, inl, inr}
use Rattle.std.specs.Prelude.{IfOk}
use Rattle.std.specs.Global.{Vec}
use Rattle.std.specs.List.{AllByRecursion, AllZip, flat_map}
use Rattle.std.proofs.lemmas.Bool.{ltb-false, le-ltb}
use Rattle.std.proofs.lemmas.List.Sums.{sum_by-cons}
use Rattle.hf_base.specs.declared.four.FourCc.{FourCc}
use Rattle.hf_base.specs.declared.fault.ReadRefusal.{ReadRefusal}
use Rattle.hf_base.specs.declared.fault.ReadRefusal.TheVariants.{BadRecord, BadVersion, TooLarge}
use Rattle.hf_base.specs.declared.fault.OpenFault.{OpenFault}
use Rattle.hf_base.specs.declared.fault.OpenFault.TheVariants as errors
use Rattle.hf_base.specs.declared.kinds.TheConstants.{IREF}
use Rattle.hf_base.specs.declared.limits.TheConstants.{BOXES, ROWS}
use Rattle.hf_base.specs.declared.loc.RefBox.{RefBox}
use Rattle.hf_base.specs.Number.{IsBytes, num, number}
use Rattle.hf_base.specs.NumberLaws.{length-num}
use Rattle.hf_base.specs.Reading.{◌>>=◌, front, front_full, times, Fails, Gives, MatchOpen}
use Rattle.hf_base.specs.ReadingLaws.{bind_ok, guard_ok, ok_is, front_takes, front_again, full_takes, full_again}
use Rattle.hf_base.specs.Entries.{IsNum, refuse_if, IsIdWidth, id_width_at}
use Rattle.hf_base.specs.EntryLaws.{texts_again, num_again, texts_take, num_take, width_again, width_take, refused_not}
use Rattle.hf_base.specs.NewEntries.{IsFew, few_each, each_few}
use Rattle.hf_box.specs.Boxes.{BoxAt, IsBoxes}
use Rattle.hf_box.specs.Framing.{frames}
use Rattle.hf_box.specs.Head.{written_at}
use Rattle.hf_box.specs.Written.{id_width, id_version}
use Rattle.hf_box.proofs.Lists.{boxes_read}
use Rattle.hf_box.proofs.BoxLaws.{boxes_iff_frames, same_boxes}
use Rattle.hf_box.proofs.TableLaws.{boxes_again, boxes_take, bodies}
use Rattle.hf_links.specs.Iref.{IsRefBox, link_rows, IsIref, IsIrefWithin, ref_box_at, with_ref_box, iref_at, reference_body, reference_box, iref_body, IsWritable}
use Rattle.hf_box.proofs.WrittenBoxes.{ids_written, length-ids, placed, HasSize, placed-framed, placed-each, length-placed}

-- one more is not too many
abbrev Goes : List RefBox → RefBox → Type 0
Goes earlier r = IsFew ROWS (λ (x : RefBox). length x.to) earlier r

-- ---- what stands there is read

ref_box_again : (width rows : ℕ) (b : BoxAt) (r : RefBox) → IsRefBox width b r → rows + 1 + length r.to ≤ ROWS → ref_box_at width rows b ≡ Ok r
unfolding ref_box_at
ref_box_again width rows b r h goes =
    let short = BadRecord IREF b.at in
    let from = front_again width r.from short (num (length r.to) 2 ++ (h.ids ++ h.rest)) h.from in
    let count = front_again 2 (length r.to) short (h.ids ++ h.rest) h.count in
    let few : ltb ROWS (rows + 1 + length r.to) ≡ false = le-ltb _ _ goes in
    let to = texts_again (front width short) (IsNum width) (num_again width short) r.to h.ids h.rest h.to in
    rw (h.is, from, count, few, to) (ap (λ k. Ok (record { kind = k; from = r.from; to = r.to })) (sym h.kind))

box_again : (width : ℕ) (earlier : List RefBox) (b : BoxAt) (r : RefBox) → IsRefBox width b r → Goes earlier r → with_ref_box width earlier b ≡ Ok (earlier ++ r ∷ [])
unfolding with_ref_box
box_again width earlier b r h goes = rw (ref_box_again width (link_rows earlier) b r h goes) refl

version_fits : (version width : ℕ) → IsIdWidth 0 version width → version < 256 ^ 1
version_fits version width (inl (v, w)) = omega (arith, v)
version_fits version width (inr (v, w)) = omega (arith, v)

pub iref_again : (b : BoxAt) (links : List RefBox) → IsIrefWithin b links → iref_at b ≡ Ok links
unfolding iref_at
iref_again b links (r, few, rows) =
    let short = BadRecord IREF b.at in
    let head = full_again r.version r.flags short r.inner (version_fits r.version r.width r.versioned) r.flags_fit in
    let width = width_again 0 (BadVersion IREF b.at) r.version r.width r.versioned in
    let framed = boxes_read BOXES false (b.at + b.head + 4) r.inner r.boxes r.framed few in
    let each = boxes_again (with_ref_box r.width) (IsRefBox r.width) Goes (box_again r.width) [] links r.boxes r.each (few_each ROWS (λ (x : RefBox). length x.to) [] links rows) in
    rw (r.is, head, width, framed) each

-- ---- what is read stands there

abbrev StandsThere : ℕ → ℕ → BoxAt → RefBox → Type 0
StandsThere width rows b r = IsRefBox width b r × (rows + 1 + length r.to ≤ ROWS)

ref_box_take : (width rows : ℕ) (b : BoxAt) (r : RefBox) → IsBytes b.body → ref_box_at width rows b ≡ Ok r → StandsThere width rows b r
unfolding ref_box_at
ref_box_take width rows b r fits e =
    let short = BadRecord IREF b.at in
    let a = bind_ok (front width short b.body) _ r e in
    let c = bind_ok (front 2 short a.0.1) _ r a.2 in
    let f = bind_ok (refuse_if (ltb ROWS (rows + 1 + c.0.0)) (TooLarge IREF b.at)) _ r c.2 in
    let t = bind_ok (times (front width short) c.0.0 c.0.1) _ r f.2 in
    let s1 = front_takes width short b.body a.0 fits a.1 in
    let s2 = front_takes 2 short a.0.1 c.0 s1.0.fits c.1 in
    let u = texts_take (front width short) (IsNum width) (num_take width short) c.0.0 c.0.1 t.0 s2.0.fits t.1 in
    let few : rows + 1 + c.0.0 ≤ ROWS = ltb-false _ _ (refused_not _ _ f.0 f.1) in
    let made : RefBox = record { kind = b.kind; from = a.0.0; to = t.0.0 } in
    let stands : IsRefBox width b made = record {
      kind = refl;
      from = s1.1;
      count = subst (λ (k : ℕ). k < 256 ^ 2) (sym u.3) s2.1;
      ids = u.0;
      rest = t.0.1;
      is = s1.0.parts ∙ ap (λ (l : List ℕ). num a.0.0 width ++ l) (s2.0.parts ∙ ap (λ (l : List ℕ). num c.0.0 2 ++ l) u.1.parts ∙ ap (λ (n : ℕ). num n 2 ++ (u.0 ++ t.0.1)) (sym u.3));
      to = u.2;
    } in
    subst (λ (x : RefBox). StandsThere width rows b x) (ok_is made r t.2) (stands, subst (λ (k : ℕ). rows + 1 + k ≤ ROWS) (sym u.3) few)

box_take : (width : ℕ) (earlier : List RefBox) (b : BoxAt) (more : List RefBox) → IsBytes b.body → with_ref_box width earlier b ≡ Ok more
    → (x : RefBox) × (more ≡ earlier ++ x ∷ []) × IsRefBox width b x × Goes earlier x
unfolding with_ref_box
box_take width earlier b more fits e =
    let a = bind_ok (ref_box_at width (link_rows earlier) b) _ more e in
    let s = ref_box_take width (link_rows earlier) b a.0 fits a.1 in
    (a.0, sym (ok_is (earlier ++ a.0 ∷ []) more a.2), s.0, s.1)

pub iref_take : (b : BoxAt) (links : List RefBox) → IsBytes b.body → iref_at b ≡ Ok links → IsIrefWithin b links
unfolding iref_at
iref_take b links fits e =
    let a = bind_ok (front_full (BadRecord IREF b.at) b.body) _ links e in
    let w = bind_ok (id_width_at 0 (BadVersion IREF b.at) a.0.0.0) _ links a.2 in
    let f = bind_ok (frames false (b.at + b.head + 4) a.0.1) _ links w.2 in
    let s = full_takes (BadRecord IREF b.at) b.body a.0 fits a.1 in
    let framed = (boxes_iff_frames a.0.1 (b.at + b.head + 4) false f.0 s.0.fits).1 f.1 in
    let t = boxes_take (with_ref_box w.0) (IsRefBox w.0) Goes (box_take w.0) [] links f.0 (bodies a.0.1 (b.at + b.head + 4) [] f.0 s.0.fits framed.0) f.2 in
    let made : IsIref b t.0 = record {
      version = a.0.0.0;
      flags = a.0.0.1;
      flags_fit = s.2;
      width = w.0;
      versioned = width_take 0 (BadVersion IREF b.at) a.0.0.0 w.0 w.1;
      inner = a.0.1;
      is = s.0.parts;
      boxes = f.0;
      framed = framed.0;
      each = t.2;
    } in
    let rows : link_rows t.0 ≤ ROWS = each_few ROWS (λ (x : RefBox). length x.to) [] t.0 (omega arith) t.3 in
    subst (λ (l : List RefBox). IsIrefWithin b l) (sym t.1) (made, framed.1, rows)

-- ---- reading, as a loop does

pub one_more : (width rows : ℕ) (earlier : List RefBox) (b : BoxAt) (r : RefBox) → rows ≡ link_rows earlier → ref_box_at width rows b ≡ Ok r → with_ref_box width earlier b ≡ Ok (earlier ++ r ∷ [])
unfolding with_ref_box
one_more width rows earlier b r same h = rw (← same, h) refl

pub stops : (width rows : ℕ) (earlier : List RefBox) (b : BoxAt) (fault : OpenFault) → rows ≡ link_rows earlier → Fails fault (ref_box_at width rows b) → Fails fault (with_ref_box width earlier b)
unfolding with_ref_box
stops width rows earlier b errors.NoMemory same h = tt
stops width rows earlier b (errors.Unfit e) same h = rw (← same, h) refl

-- how many bytes stand behind a field, and behind a version and flags
length-after : (width : ℕ) (short : ReadRefusal) (bytes : List ℕ) (x : ℕ × List ℕ) → front width short bytes ≡ Ok x → width + length x.1 ≡ length bytes
unfolding front
length-after width short bytes x e =
    let g = guard_ok (ltb (length bytes) width) short (number width bytes, drop width bytes) x e in
    let long : width ≤ length bytes = ltb-false _ _ g.0 in
    let rest : length x.1 ≡ length bytes - width = ap (λ (y : ℕ × List ℕ). length y.1) (sym g.1) ∙ length-drop width bytes in
    omega (arith, long, rest)

pub length-behind : (short : ReadRefusal) (bytes : List ℕ) (x : (ℕ × ℕ) × List ℕ) → front_full short bytes ≡ Ok x → 4 + length x.1 ≡ length bytes
unfolding front_full
length-behind short bytes x e =
    let a = bind_ok (front 1 short bytes) (λ version. front 3 short version.1 >>= λ flags. Ok ((version.0, flags.0), flags.1)) x e in
    let b = bind_ok (front 3 short a.0.1) (λ flags. Ok ((a.0.0, flags.0), flags.1)) x a.2 in
    let made : (ℕ × ℕ) × List ℕ = ((a.0.0, b.0.0), b.0.1) in
    let rest : length b.0.1 ≡ length x.1 = ap (λ (y : (ℕ × ℕ) × List ℕ). length y.1) (ok_is made x b.2) in
    omega (arith, length-after 1 short bytes a.0 a.1, length-after 3 short a.0.1 b.0 b.1, rest)

abbrev Read : Type 0
Read = Result (Vec RefBox) OpenFault

pub is_found : (b : BoxAt) (r : Read) → IsBytes b.body → Gives (λ links. links.items) r (iref_at b) → IfOk r (λ links. IsIrefWithin b links.items)
is_found b (Ok links) fits given = iref_take b links.items fits given
is_found b (Err e) fits given = tt

pub is_only : (b : BoxAt) (r : Read) (links : List RefBox) → Gives (λ links. links.items) r (iref_at b) → IsIrefWithin b links → MatchOpen r (λ read. read.items ≡ links) (λ fault. ⊥)
is_only b (Ok read) links given h = ok_is read.items links (sym given ∙ iref_again b links h)
is_only b (Err errors.NoMemory) links given h = tt
is_only b (Err (errors.Unfit e)) links given h = let f = iref_again b links h in absurd cc

-- ---- a box has one list of references at most

-- no box passes the limit of rows alone
one_link : (width : ℕ) (b : BoxAt) (r q : RefBox) → IsRefBox width b r → IsRefBox width b q → r ≡ q
one_link width b r q h k =
    ok_is r q (sym (ref_box_again width 0 b r h (omega (arith, h.count))) ∙ ref_box_again width 0 b q k (omega (arith, k.count)))

one_list : (width : ℕ) (bs : List BoxAt) (some others : List RefBox) → AllZip (IsRefBox width) bs some → AllZip (IsRefBox width) bs others → some ≡ others
one_list width [] [] [] p q = refl
one_list width [] (r ∷ rs) others p q = absurd p
one_list width [] [] (o ∷ os) p q = absurd q
one_list width (b ∷ bs) [] others p q = absurd p
one_list width (b ∷ bs) (r ∷ rs) [] p q = absurd q
one_list width (b ∷ bs) (r ∷ rs) (o ∷ os) p q =
    let first = one_link width b r o p.0 q.0 in
    let more = one_list width bs rs os p.1 q.1 in
    cc

abbrev Head : Type 0
Head = (ℕ × ℕ) × List ℕ

pub one_value : (b : BoxAt) (some others : List RefBox) → IsIref b some → IsIref b others → some ≡ others
one_value b some others p q =
    let short = BadRecord IREF b.at in
    let read_p = ap (front_full short) p.is ∙ full_again p.version p.flags short p.inner (version_fits p.version p.width p.versioned) p.flags_fit in
    let read_q = ap (front_full short) q.is ∙ full_again q.version q.flags short q.inner (version_fits q.version q.width q.versioned) q.flags_fit in
    let head_p : Head = ((p.version, p.flags), p.inner) in
    let head_q : Head = ((q.version, q.flags), q.inner) in
    let head : head_p ≡ head_q = ok_is head_p head_q (sym read_p ∙ read_q) in
    let version : p.version ≡ q.version = ap (λ (x : Head). x.0.0) head in
    let inner : q.inner ≡ p.inner = sym (ap (λ (x : Head). x.1) head) in
    let width_p = width_again 0 short p.version p.width p.versioned in
    let width_q = width_again 0 short q.version q.width q.versioned in
    let width : q.width ≡ p.width = ok_is q.width p.width (sym width_q ∙ ap (id_width_at 0 short) (sym version) ∙ width_p) in
    let framed : IsBoxes p.inner (b.at + b.head + 4) false q.boxes = subst (λ (l : List ℕ). IsBoxes l (b.at + b.head + 4) false q.boxes) inner q.framed in
    let boxes : q.boxes ≡ p.boxes = same_boxes p.inner (b.at + b.head + 4) false q.boxes p.boxes framed p.framed in
    let each : AllZip (IsRefBox p.width) q.boxes others = subst (λ (w : ℕ). AllZip (IsRefBox w) q.boxes others) width q.each in
    one_list p.width p.boxes some others p.each (subst (λ (bs : List BoxAt). AllZip (IsRefBox p.width) bs others) boxes each)

-- ---- what is written is read

abbrev kind_of : RefBox → FourCc
kind_of r = r.kind

abbrev body_of : Bool → RefBox → List ℕ
body_of wide r = reference_body wide r.from r.to

written_link : (wide : Bool) (place : ℕ) (r : RefBox) → IsWritable wide r → IsRefBox (id_width wide) (written_at place r.kind (body_of wide r)) r
unfolding reference_body
written_link wide place r w =
    let width = id_width wide in
    let ids = flat_map (λ id. num id width) r.to in
    record {
      kind = refl;
      from = w.from;
      count = omega (arith, w.count);
      ids = ids;
      rest = [];
      is = append_assoc (num r.from width) (num (length r.to) 2) ids ∙ ap (λ (l : List ℕ). num r.from width ++ (num (length r.to) 2 ++ l)) (sym (append-nil ids));
      to = ids_written width r.to w.to;
    }

has_size : (wide : Bool) (r : RefBox) → IsWritable wide r → HasSize kind_of (body_of wide) r
unfolding reference_body
has_size true r w = (w.kind, let few = w.count in simp (length-append, length-num, length-ids) (omega arith))
has_size false r w = (w.kind, let few = w.count in simp (length-append, length-num, length-ids) (omega arith))

each_has_size : (wide : Bool) (links : List RefBox) → AllByRecursion (IsWritable wide) links → AllByRecursion (HasSize kind_of (body_of wide)) links
each_has_size wide [] w = tt
each_has_size wide (r ∷ rs) w = (has_size wide r w.0, each_has_size wide rs w.1)

few_boxes : (links : List RefBox) → length links ≤ link_rows links
few_boxes [] = omega arith
few_boxes (r ∷ rs) = let more = few_boxes rs in let sum = sum_by-cons (λ (x : RefBox). 1 + length x.to) r rs in omega arith

pub written_stand : (b : BoxAt) (wide : Bool) (links : List RefBox) → b.body ≡ iref_body wide links → AllByRecursion (IsWritable wide) links → link_rows links ≤ ROWS → IsIrefWithin b links
unfolding iref_body
written_stand b wide links is w rows =
    let place = b.at + b.head + 4 in
    let boxes = placed kind_of (body_of wide) place links in
    let made : IsIref b links = record {
      version = id_version wide;
      flags = 0;
      flags_fit = omega arith;
      width = id_width wide;
      versioned = versioned wide;
      inner = flat_map (reference_box wide) links;
      is = is;
      boxes = boxes;
      framed = placed-framed kind_of (body_of wide) place links (each_has_size wide links w);
      each = placed-each kind_of (body_of wide) (IsRefBox (id_width wide)) (IsWritable wide) (written_link wide) place links w;
    } in
    (made, omega (arith, length-placed kind_of (body_of wide) place links, few_boxes links, rows), rows)
  where
    versioned : (wide : Bool) → IsIdWidth 0 (id_version wide) (id_width wide)
    versioned true = inr (refl, refl)
    versioned false = inl (refl, refl)
