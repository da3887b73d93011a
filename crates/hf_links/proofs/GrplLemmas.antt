-- Groups are read as they stand, and as they are written.
use Rattle.std.proofs.Common.{◌≡◌, ℕ, ◌+◌, ◌≤◌, ◌<◌, ◌^◌, false, List, [], ◌∷◌, ◌++◌, length, ltb, eqb, ◌||◌, Result, Ok, Err, refl, sym, ap, subst, ◌∙◌, append_assoc, arith, inl, inr}
use Rattle.std.specs.Prelude.{IsTrue, IfOk}
use Rattle.std.specs.Global.{Vec}
use Rattle.std.specs.List.{AllByRecursion, AllZip, flat_map}
use Rattle.std.proofs.lemmas.Bool.{ltb-false, le-ltb, cases_Bool}
use Rattle.std.proofs.lemmas.List.Sums.{sum_by-cons}
use Rattle.hf_base.specs.declared.four.FourCc.{FourCc}
use Rattle.hf_base.specs.declared.fault.ReadRefusal.{ReadRefusal}
use Rattle.hf_base.specs.declared.fault.ReadRefusal.TheVariants.{BadRecord, TooLarge, DoubleGroup}
use Rattle.hf_base.specs.declared.fault.OpenFault.{OpenFault}
use Rattle.hf_base.specs.declared.fault.OpenFault.TheVariants as errors
use Rattle.hf_base.specs.declared.kinds.TheConstants.{GRPL}
use Rattle.hf_base.specs.declared.limits.TheConstants.{BOXES, ROWS}
use Rattle.hf_base.specs.Number.{IsBytes, num}
use Rattle.hf_base.specs.Reading.{◌>>=◌, front, front_full, full, times, Fails, Gives, MatchOpen}
use Rattle.hf_base.specs.ReadingLaws.{bind_ok, ok_is, front_takes, front_again, full_takes, full_again}
use Rattle.hf_base.specs.Entries.{IsNum, has_id, are_distinct, refuse_if}
use Rattle.hf_base.specs.EntryLaws.{texts_again, num_again, texts_take, num_take, refused_not}
use Rattle.hf_base.specs.NewEntries.{IsFew, few_each, each_few, IsNew, new_each, each_new, Both, each_both, both_first, both_second}
use Rattle.hf_box.specs.Boxes.{BoxAt, IsBoxes}
use Rattle.hf_box.specs.Framing.{frames}
use Rattle.hf_box.specs.Head.{written_at}
use Rattle.hf_box.proofs.Lists.{boxes_read}
use Rattle.hf_box.proofs.BoxLaws.{boxes_iff_frames, same_boxes}
use Rattle.hf_box.proofs.TableLaws.{boxes_again, boxes_take, bodies}
use Rattle.hf_links.specs.declared.grpl.Group.{Group as GroupView}
use Rattle.hf_links.specs.Grpl.{Group, groups_of, IsGroup, group_ids, group_rows, IsGrpl, IsGrplWithin, group_at, new_group_at, with_group, grpl_at, group_body, grpl_body, IsWritable}
use Rattle.hf_box.proofs.WrittenBoxes.{ids_written, placed, HasSize, placed-framed, placed-each, length-placed}

abbrev id_of : Group → ℕ
id_of g = g.id

abbrev len_of : Group → ℕ
len_of g = length g.entities

-- one more has a new id, and is not too many
abbrev Goes : List Group → Group → Type 0
Goes = Both (IsNew id_of) (IsFew ROWS len_of)

-- ---- what stands there is read

-- a group without the limit of rows
abbrev any_group_at : BoxAt → Result Group ReadRefusal
any_group_at b =
    front_full (BadRecord GRPL b.at) b.body >>= λ version.
    front 4 (BadRecord GRPL b.at) version.1 >>= λ id.
    front 4 (BadRecord GRPL b.at) id.1 >>= λ count.
    times (front 4 (BadRecord GRPL b.at)) count.0 count.1 >>= λ entities.
    Ok (record { kind = b.kind; version = version.0.0; flags = version.0.1; id = id.0; entities = entities.0; tail = entities.1 })

-- what each field is read as
record Fields (b : BoxAt) (g : Group) (ids : List ℕ) : Type 0 where
  head : front_full (BadRecord GRPL b.at) (full g.version g.flags ++ (num g.id 4 ++ (num (length g.entities) 4 ++ (ids ++ g.tail)))) ≡ Ok ((g.version, g.flags), num g.id 4 ++ (num (length g.entities) 4 ++ (ids ++ g.tail)))
  id : front 4 (BadRecord GRPL b.at) (num g.id 4 ++ (num (length g.entities) 4 ++ (ids ++ g.tail))) ≡ Ok (g.id, num (length g.entities) 4 ++ (ids ++ g.tail))
  count : front 4 (BadRecord GRPL b.at) (num (length g.entities) 4 ++ (ids ++ g.tail)) ≡ Ok (length g.entities, ids ++ g.tail)
  entities : times (front 4 (BadRecord GRPL b.at)) (length g.entities) (ids ++ g.tail) ≡ Ok (g.entities, g.tail)

fields_again : (b : BoxAt) (g : Group) → (h : IsGroup b g) → Fields b g h.ids
fields_again b g h =
    let short = BadRecord GRPL b.at in
    record {
      head = full_again g.version g.flags short (num g.id 4 ++ (num (length g.entities) 4 ++ (h.ids ++ g.tail))) h.version h.flags;
      id = front_again 4 g.id short (num (length g.entities) 4 ++ (h.ids ++ g.tail)) h.id;
      count = front_again 4 (length g.entities) short (h.ids ++ g.tail) h.count;
      entities = texts_again (front 4 short) (IsNum 4) (num_again 4 short) g.entities h.ids g.tail h.entities;
    }

any_group_again : (b : BoxAt) (g : Group) → IsGroup b g → any_group_at b ≡ Ok g
any_group_again b g h =
    let f = fields_again b g h in
    rw (h.is, f.head, f.id, f.count, f.entities) (ap (λ k. Ok (record { kind = k; version = g.version; flags = g.flags; id = g.id; entities = g.entities; tail = g.tail })) (sym h.kind))

group_again : (rows : ℕ) (b : BoxAt) (g : Group) → IsGroup b g → rows + 1 + length g.entities ≤ ROWS → group_at rows b ≡ Ok g
unfolding group_at
group_again rows b g h goes =
    let f = fields_again b g h in
    let few : ltb ROWS (rows + 1 + length g.entities) ≡ false = le-ltb _ _ goes in
    rw (h.is, f.head, f.id, f.count, few, f.entities) (ap (λ k. Ok (record { kind = k; version = g.version; flags = g.flags; id = g.id; entities = g.entities; tail = g.tail })) (sym h.kind))

box_again : (earlier : List Group) (b : BoxAt) (g : Group) → IsGroup b g → Goes earlier g → with_group earlier b ≡ Ok (earlier ++ g ∷ [])
unfolding with_group
box_again earlier b g h goes =
    let new : has_id g.id (group_ids earlier) ≡ false = goes.0 in
    rw (group_again (group_rows earlier) b g h goes.1, new) refl

pub grpl_again : (b : BoxAt) (groups : List Group) → IsGrplWithin b groups → grpl_at b ≡ Ok groups
unfolding grpl_at
grpl_again b groups (r, few, rows) =
    let framed = boxes_read BOXES false (b.at + b.head) b.body r.boxes r.framed few in
    let goes = each_both (IsNew id_of) (IsFew ROWS len_of) [] groups (new_each id_of [] groups r.distinct) (few_each ROWS len_of [] groups rows) in
    let each = boxes_again with_group IsGroup Goes box_again [] groups r.boxes r.each goes in
    rw framed each

-- ---- what is read stands there

abbrev StandsThere : ℕ → BoxAt → Group → Type 0
StandsThere rows b g = IsGroup b g × (rows + 1 + length g.entities ≤ ROWS)

group_take : (rows : ℕ) (b : BoxAt) (g : Group) → IsBytes b.body → group_at rows b ≡ Ok g → StandsThere rows b g
unfolding group_at
group_take rows b g fits e =
    let short = BadRecord GRPL b.at in
    let v = bind_ok (front_full short b.body) _ g e in
    let a = bind_ok (front 4 short v.0.1) _ g v.2 in
    let c = bind_ok (front 4 short a.0.1) _ g a.2 in
    let f = bind_ok (refuse_if (ltb ROWS (rows + 1 + c.0.0)) (TooLarge GRPL b.at)) _ g c.2 in
    let t = bind_ok (times (front 4 short) c.0.0 c.0.1) _ g f.2 in
    let s0 = full_takes short b.body v.0 fits v.1 in
    let s1 = front_takes 4 short v.0.1 a.0 s0.0.fits a.1 in
    let s2 = front_takes 4 short a.0.1 c.0 s1.0.fits c.1 in
    let u = texts_take (front 4 short) (IsNum 4) (num_take 4 short) c.0.0 c.0.1 t.0 s2.0.fits t.1 in
    let few : rows + 1 + c.0.0 ≤ ROWS = ltb-false _ _ (refused_not _ _ f.0 f.1) in
    let made : Group = record { kind = b.kind; version = v.0.0.0; flags = v.0.0.1; id = a.0.0; entities = t.0.0; tail = t.0.1 } in
    let inner : a.0.1 ≡ num (length t.0.0) 4 ++ (u.0 ++ t.0.1) = s2.0.parts ∙ ap (λ (l : List ℕ). num c.0.0 4 ++ l) u.1.parts ∙ ap (λ (m : ℕ). num m 4 ++ (u.0 ++ t.0.1)) (sym u.3) in
    let stands : IsGroup b made = record {
      kind = refl;
      version = s0.1;
      flags = s0.2;
      id = s1.1;
      count = subst (λ (k : ℕ). k < 256 ^ 4) (sym u.3) s2.1;
      ids = u.0;
      is = s0.0.parts ∙ ap (λ (l : List ℕ). full v.0.0.0 v.0.0.1 ++ l) (s1.0.parts ∙ ap (λ (l : List ℕ). num a.0.0 4 ++ l) inner);
      entities = u.2;
    } in
    subst (λ (x : Group). StandsThere rows b x) (ok_is made g t.2) (stands, subst (λ (k : ℕ). rows + 1 + k ≤ ROWS) (sym u.3) few)

box_take : (earlier : List Group) (b : BoxAt) (more : List Group) → IsBytes b.body → with_group earlier b ≡ Ok more
    → (x : Group) × (more ≡ earlier ++ x ∷ []) × IsGroup b x × Goes earlier x
unfolding with_group
box_take earlier b more fits e =
    let a = bind_ok (group_at (group_rows earlier) b) _ more e in
    let n = bind_ok (refuse_if (has_id a.0.id (group_ids earlier)) (DoubleGroup a.0.id)) _ more a.2 in
    let s = group_take (group_rows earlier) b a.0 fits a.1 in
    (a.0, sym (ok_is (earlier ++ a.0 ∷ []) more n.2), s.0, (refused_not _ _ n.0 n.1, s.1))

pub grpl_take : (b : BoxAt) (groups : List Group) → IsBytes b.body → grpl_at b ≡ Ok groups → IsGrplWithin b groups
unfolding grpl_at
grpl_take b groups fits e =
    let f = bind_ok (frames false (b.at + b.head) b.body) _ groups e in
    let framed = (boxes_iff_frames b.body (b.at + b.head) false f.0 fits).1 f.1 in
    let t = boxes_take with_group IsGroup Goes box_take [] groups f.0 (bodies b.body (b.at + b.head) [] f.0 fits framed.0) f.2 in
    let rows : group_rows t.0 ≤ ROWS = each_few ROWS len_of [] t.0 (omega arith) (both_second (IsNew id_of) (IsFew ROWS len_of) [] t.0 t.3) in
    let made : IsGrpl b t.0 = record {
      boxes = f.0;
      framed = framed.0;
      each = t.2;
      distinct = each_new id_of [] t.0 refl (both_first (IsNew id_of) (IsFew ROWS len_of) [] t.0 t.3);
    } in
    subst (λ (l : List Group). IsGrplWithin b l) (sym t.1) (made, framed.1, rows)

-- ---- reading, as a loop does

-- ids were met as these groups have them
abbrev pub AreMet : List ℕ → List Group → Type 0
AreMet seen earlier = (q : ℕ) → has_id q seen ≡ has_id q (group_ids earlier)

module _ (rows : ℕ) (earlier : List Group) (seen : List ℕ) (b : BoxAt) (same : rows ≡ group_rows earlier) (met : AreMet seen earlier) where
  -- a new group is one more
  with_read : (r : Result Group ReadRefusal) → (r >>= λ g. refuse_if (has_id g.id (group_ids earlier)) (DoubleGroup g.id) >>= λ new. Ok (earlier ++ g ∷ []))
      ≡ ((r >>= λ g. refuse_if (has_id g.id seen) (DoubleGroup g.id) >>= λ new. Ok g) >>= λ g. Ok (earlier ++ g ∷ []))
  with_read (Err e) = refl
  with_read (Ok g) = rw (met g.id) (elim (cases_Bool (has_id g.id (group_ids earlier))) [ inl t ↦ rw t refl | inr f ↦ rw f refl ])

  with_new : with_group earlier b ≡ (new_group_at rows seen b >>= λ g. Ok (earlier ++ g ∷ []))
  unfolding with_group new_group_at
  with_new = rw (← same) (with_read (group_at rows b))

  pub one_more : (g : Group) → new_group_at rows seen b ≡ Ok g → with_group earlier b ≡ Ok (earlier ++ g ∷ [])
  one_more g h = with_new ∙ rw h refl

  pub stops : (fault : OpenFault) → Fails fault (new_group_at rows seen b) → Fails fault (with_group earlier b)
  stops errors.NoMemory h = tt
  stops (errors.Unfit e) h = with_new ∙ rw h refl

-- the ids of groups, with one more
pub has-push : (q : ℕ) (earlier : List Group) (g : Group) → has_id q (group_ids (earlier ++ g ∷ [])) ≡ (eqb g.id q || has_id q (group_ids earlier))
has-push q [] g = refl
has-push q (x ∷ xs) g = elim (cases_Bool (eqb x.id q)) [
  | inl t ↦ rw t (elim (cases_Bool (eqb g.id q)) [ inl a ↦ rw a refl | inr a ↦ rw a refl ])
  | inr f ↦ rw (f, has-push q xs g) refl
]

abbrev Read : Type 0
Read = Result (Vec GroupView) OpenFault

pub is_found : (b : BoxAt) (r : Read) → IsBytes b.body → Gives (λ groups. groups_of groups.items) r (grpl_at b) → IfOk r (λ groups. IsGrplWithin b (groups_of groups.items))
is_found b (Ok groups) fits given = grpl_take b (groups_of groups.items) fits given
is_found b (Err e) fits given = tt

pub is_only : (b : BoxAt) (r : Read) (groups : List Group) → Gives (λ groups. groups_of groups.items) r (grpl_at b) → IsGrplWithin b groups → MatchOpen r (λ read. groups_of read.items ≡ groups) (λ fault. ⊥)
is_only b (Ok read) groups given h = ok_is (groups_of read.items) groups (sym given ∙ grpl_again b groups h)
is_only b (Err errors.NoMemory) groups given h = tt
is_only b (Err (errors.Unfit e)) groups given h = let f = grpl_again b groups h in absurd cc

-- ---- a box has one list of groups at most

one_group : (b : BoxAt) (g o : Group) → IsGroup b g → IsGroup b o → g ≡ o
one_group b g o h k = ok_is g o (sym (any_group_again b g h) ∙ any_group_again b o k)

one_list : (bs : List BoxAt) (some others : List Group) → AllZip IsGroup bs some → AllZip IsGroup bs others → some ≡ others
one_list [] [] [] p q = refl
one_list [] (g ∷ gs) others p q = absurd p
one_list [] [] (o ∷ os) p q = absurd q
one_list (b ∷ bs) [] others p q = absurd p
one_list (b ∷ bs) (g ∷ gs) [] p q = absurd q
one_list (b ∷ bs) (g ∷ gs) (o ∷ os) p q =
    let first = one_group b g o p.0 q.0 in
    let more = one_list bs gs os p.1 q.1 in
    cc

pub one_value : (b : BoxAt) (some others : List Group) → IsGrpl b some → IsGrpl b others → some ≡ others
one_value b some others p q =
    let boxes : q.boxes ≡ p.boxes = same_boxes b.body (b.at + b.head) false q.boxes p.boxes q.framed p.framed in
    one_list p.boxes some others p.each (subst (λ (bs : List BoxAt). AllZip IsGroup bs others) boxes q.each)

-- ---- what is written is read

abbrev kind_of : Group → FourCc
kind_of g = g.kind

written_group : (place : ℕ) (g : Group) → IsWritable g → IsGroup (written_at place g.kind (group_body g)) g
unfolding group_body
written_group place g w =
    let ids = flat_map (λ id. num id 4) g.entities in
    record {
      kind = refl;
      version = w.version;
      flags = w.flags;
      id = w.id;
      count = w.count;
      ids = ids;
      is = simp append_assoc refl;
      entities = ids_written 4 g.entities w.entities;
    }

each_has_size : (groups : List Group) → AllByRecursion IsWritable groups → AllByRecursion (HasSize kind_of group_body) groups
each_has_size [] w = tt
each_has_size (g ∷ gs) w = ((w.0.kind, w.0.size), each_has_size gs w.1)

few_boxes : (groups : List Group) → length groups ≤ group_rows groups
few_boxes [] = omega arith
few_boxes (g ∷ gs) = let more = few_boxes gs in let sum = sum_by-cons (λ (x : Group). 1 + length x.entities) g gs in omega arith

pub written_stand : (b : BoxAt) (groups : List Group) → b.body ≡ grpl_body groups → AllByRecursion IsWritable groups → IsTrue (are_distinct (group_ids groups)) → group_rows groups ≤ ROWS → IsGrplWithin b groups
unfolding grpl_body
written_stand b groups is w distinct rows =
    let place = b.at + b.head in
    let framed = placed-framed kind_of group_body place groups (each_has_size groups w) in
    let made : IsGrpl b groups = record {
      boxes = placed kind_of group_body place groups;
      framed = subst (λ (l : List ℕ). IsBoxes l place false (placed kind_of group_body place groups)) (sym is) framed;
      each = placed-each kind_of group_body IsGroup IsWritable written_group place groups w;
      distinct = distinct;
    } in
    (made, omega (arith, length-placed kind_of group_body place groups, few_boxes groups, rows), rows)
