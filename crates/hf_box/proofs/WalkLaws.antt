-- Walking from left to right gives the rows, or the fault.
use Rattle.std.proofs.Common.{◌≡◌, ℕ, ◌+◌, true, false, List, [], ◌∷◌, ◌++◌, length, drop, map, Result, Ok, Err, refl, sym, ap, subst, ◌∙◌, inl, inr, ◌⊎◌}
use Rattle.std.specs.Prelude.{◌↔◌}
use Rattle.std.specs.List.{AllByRecursion}
use Rattle.std.specs.Global.{Vec}
use Rattle.std.proofs.lemmas.Bool.{le-ltb, lt-ltb, cases_Bool, cases_lt}
use Rattle.hf_base.specs.declared.four.FourCc.{FourCc}
use Rattle.hf_base.specs.declared.kinds.TheConstants.{META}
use Rattle.hf_base.specs.declared.fault.ReadRefusal.{ReadRefusal}
use Rattle.hf_base.specs.declared.fault.ReadRefusal.TheVariants.{BadRecord}
use Rattle.hf_base.specs.declared.fault.OpenFault.{OpenFault}
use Rattle.hf_base.specs.declared.fault.OpenFault.TheVariants as errors
use Rattle.hf_base.specs.Reading.{◌>>=◌, Gives, MatchOpen}
use Rattle.hf_box.specs.declared.view.BoxRow.{BoxRow}
use Rattle.hf_base.specs.declared.limits.TheConstants.{BOXES}
use Rattle.hf_box.specs.Boxes.{BoxAt, IsBoxes}
use Rattle.hf_box.specs.Walk.{row_of, IsNotMeta, AreChildren, IsChildrenFault, HasMeta, IsWalk, IsWalkFault, is_kind, children_at, rows_of, walk_at}
use Rattle.hf_box.proofs.SameKinds.{same_kind, other_kind, is_same_kind}
use Rattle.hf_box.proofs.Lists.{boxes_read}
use Rattle.hf_base.specs.Number.{IsBytes}
use Rattle.hf_base.specs.ReadingLaws.{IsBytes-drop, ok_is}
use Rattle.hf_box.proofs.BoxLaws.{fault_reads, boxes_or_fault, body_is_bytes}

children_read : (m : BoxAt) (children : List BoxAt) → AreChildren m children → children_at m ≡ Ok children
unfolding children_at
children_read m children h =
    let long = le-ltb (length m.body) 4 h.0 in
    rw long (boxes_read BOXES false (m.at + m.head + 4) (drop 4 m.body) children h.1 h.2)

children_refused : (m : BoxAt) (e : ReadRefusal) → IsChildrenFault m e → children_at m ≡ Err e
unfolding children_at
children_refused m e (inl p) = let short = lt-ltb (length m.body) 4 p.0 in rw short (ap (λ (r : ReadRefusal). Err r) (sym p.1))
children_refused m e (inr p) =
    let long = le-ltb (length m.body) 4 p.0 in
    rw long (fault_reads BOXES (drop 4 m.body) (m.at + m.head + 4) false e p.1)

plain_rows : (boxes : List BoxAt) → AllByRecursion IsNotMeta boxes → rows_of boxes ≡ Ok (map (row_of 0) boxes)
unfolding rows_of
plain_rows [] none = refl
plain_rows (b ∷ bs) none = let k = other_kind b.kind META none.0 in let more = plain_rows bs none.1 in rw (k, more) refl

abbrev with_children : List BoxAt → BoxAt → List BoxAt → Result (List BoxAt) ReadRefusal → Result (List BoxRow) ReadRefusal
with_children before m after children = children >>= λ ks. Ok ((map (row_of 0) (before ++ m ∷ []) ++ map (row_of 1) ks) ++ map (row_of 0) after)

behind : (b : BoxAt) (before : List BoxAt) (m : BoxAt) (after : List BoxAt) (children : Result (List BoxAt) ReadRefusal) → (with_children before m after children >>= λ rows. Ok (row_of 0 b ∷ rows)) ≡ with_children (b ∷ before) m after children
behind b before m after (Ok ks) = refl
behind b before m after (Err e) = refl

at_once : (m : BoxAt) (after : List BoxAt) (children : Result (List BoxAt) ReadRefusal) → (children >>= λ ks. Ok (row_of 0 m ∷ map (row_of 1) ks ++ map (row_of 0) after)) ≡ with_children [] m after children
at_once m after (Ok ks) = refl
at_once m after (Err e) = refl

meta_rows : (before : List BoxAt) (m : BoxAt) (after : List BoxAt) → AllByRecursion IsNotMeta before → m.kind ≡ META → rows_of (before ++ m ∷ after) ≡ with_children before m after (children_at m)
unfolding rows_of
meta_rows [] m after none is = let k = same_kind m.kind META is in rw k (at_once m after (children_at m))
meta_rows (b ∷ bs) m after none is =
    let k = other_kind b.kind META none.0 in
    let more = meta_rows bs m after none.1 is in
    rw (k, more) (behind b bs m after (children_at m))

pub walked : (file : List ℕ) (rows : List BoxRow) → IsWalk file rows → walk_at file ≡ Ok rows
unfolding walk_at
walked file rows (boxes, are, inl p) =
    let read = boxes_read BOXES true 0 file boxes are.0 are.1 in
    rw read (plain_rows boxes p.0 ∙ ap (λ (l : List BoxRow). Ok l) (sym p.1))
walked file rows (boxes, are, inr (before, after, children, m, has, in_meta, e)) =
    let read = boxes_read BOXES true 0 file boxes are.0 are.1 in
    let k = children_read m children in_meta in
    rw read (ap rows_of has.parts ∙ meta_rows before m after has.first has.is ∙ rw k (ap (λ (l : List BoxRow). Ok l) (sym e)))

pub walk_fails : (file : List ℕ) (e : ReadRefusal) → IsWalkFault file e → walk_at file ≡ Err e
unfolding walk_at
walk_fails file e (inl p) = let read = fault_reads BOXES file 0 true e p in rw read refl
walk_fails file e (inr (boxes, before, after, m, are, has, k)) =
    let read = boxes_read BOXES true 0 file boxes are.0 are.1 in
    let bad = children_refused m e k in
    rw read (ap rows_of has.parts ∙ meta_rows before m after has.first has.is ∙ rw bad refl)

pub exactly : (file : List ℕ) (r : Result (Vec BoxRow) OpenFault) → MatchOpen r (λ v. IsWalk file v.items) (λ fault. IsWalkFault file fault) → Gives (λ v. v.items) r (walk_at file)
exactly file (Ok v) h = walked file v.items h
exactly file (Err errors.NoMemory) h = tt
exactly file (Err (errors.Unfit e)) h = walk_fails file e h

-- ---- what walking answers is what the file has

kind_or_not : (a b : FourCc) → (a ≡ b) ⊎ (a ≡ b → ⊥)
kind_or_not a b = elim (cases_Bool (is_kind a b)) [
  | inl same ↦ inl (is_same_kind a b same)
  | inr differ ↦ inr (λ e. let t = same_kind a b e in absurd cc)
]

-- boxes have a first meta, or none
split_meta : (boxes : List BoxAt) → AllByRecursion IsNotMeta boxes ⊎ ((before : List BoxAt) × (m : BoxAt) × (after : List BoxAt) × HasMeta boxes before m after)
split_meta [] = inl tt
split_meta (b ∷ bs) = elim (kind_or_not b.kind META) [
  | inl is ↦ inr ([], b, bs, record { parts = refl; is = is; first = tt })
  | inr other ↦ elim (split_meta bs) [
    | inl none ↦ inl (other, none)
    | inr p ↦ inr (b ∷ p.0, p.1, p.2, record { parts = ap (λ (l : List BoxAt). b ∷ l) p.3.parts; is = p.3.is; first = (other, p.3.first) })
  ]
]

-- a meta has children, or they have a fault
children_or_fault : (m : BoxAt) → IsBytes m.body → ((children : List BoxAt) × AreChildren m children) ⊎ ((e : ReadRefusal) × IsChildrenFault m e)
children_or_fault m fits = elim (cases_lt (length m.body) 4) [
  | inl short ↦ inr (BadRecord META m.at, inl (short, refl))
  | inr enough ↦ elim (boxes_or_fault (drop 4 m.body) (m.at + m.head + 4) false (IsBytes-drop 4 m.body fits)) [
    | inl p ↦ inl (p.0, (enough, p.1, p.2))
    | inr q ↦ inr (q.0, inr (enough, q.1))
  ]
]

pub walk_or_fault : (file : List ℕ) → IsBytes file → ((rows : List BoxRow) × IsWalk file rows) ⊎ ((e : ReadRefusal) × IsWalkFault file e)
walk_or_fault file fits = elim (boxes_or_fault file 0 true fits) [
  | inl p ↦ elim (split_meta p.0) [
    | inl none ↦ inl (map (row_of 0) p.0, (p.0, (p.1, p.2), inl (none, refl)))
    | inr q ↦ elim (children_or_fault q.1 (body_is_bytes file 0 true q.0 q.1 q.2 fits (subst (λ (l : List BoxAt). IsBoxes file 0 true l) q.3.parts p.1))) [
      | inl c ↦ inl ((map (row_of 0) (q.0 ++ q.1 ∷ []) ++ map (row_of 1) c.0) ++ map (row_of 0) q.2, (p.0, (p.1, p.2), inr (q.0, q.2, c.0, q.1, q.3, c.1, refl)))
      | inr f ↦ inr (f.0, inr (p.0, q.0, q.2, q.1, (p.1, p.2), q.3, f.1))
    ]
  ]
  | inr e ↦ inr (e.0, inl e.1)
]

abbrev rows_are : List BoxRow → Result (List BoxRow) ReadRefusal
rows_are rows = Ok rows

abbrev fault_is : ReadRefusal → Result (List BoxRow) ReadRefusal
fault_is e = Err e

same_error : (c e : ReadRefusal) → fault_is c ≡ fault_is e → c ≡ e
same_error c e h = cc

never : {A : Type 0} (rows : List BoxRow) (e : ReadRefusal) → rows_are rows ≡ fault_is e → A
never rows e h = absurd cc

pub walk_spells : (file : List ℕ) (rows : List BoxRow) → IsBytes file → walk_at file ≡ Ok rows → IsWalk file rows
walk_spells file rows fits is = elim (walk_or_fault file fits) [
  | inl p ↦ subst (λ (l : List BoxRow). IsWalk file l) (ok_is p.0 rows (sym (walked file p.0 p.1) ∙ is)) p.1
  | inr q ↦ never rows q.0 (sym is ∙ walk_fails file q.0 q.1)
]

pub walk_faults : (file : List ℕ) (e : ReadRefusal) → IsBytes file → walk_at file ≡ Err e → IsWalkFault file e
walk_faults file e fits is = elim (walk_or_fault file fits) [
  | inl p ↦ never p.0 e (sym (walked file p.0 p.1) ∙ is)
  | inr q ↦ subst (λ (r : ReadRefusal). IsWalkFault file r) (same_error q.0 e (sym (walk_fails file q.0 q.1) ∙ is)) q.1
]

pub rows_iff_walk : (file : List ℕ) (rows : List BoxRow) → IsBytes file → IsWalk file rows ↔ (walk_at file ≡ Ok rows)
rows_iff_walk file rows fits = ((λ h. walked file rows h), (λ e. walk_spells file rows fits e))

pub fault_iff_walk : (file : List ℕ) (fault : ReadRefusal) → IsBytes file → IsWalkFault file fault ↔ (walk_at file ≡ Err fault)
fault_iff_walk file fault fits = ((λ h. walk_fails file fault h), (λ e. walk_faults file fault fits e))
