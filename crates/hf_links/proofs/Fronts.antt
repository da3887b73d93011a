-- The fields of a box that are written in front of its ids.
use Rattle.std.proofs.Common.{◌≡◌, ℕ, ◌+◌, ◌*◌, ◌^◌, ◌<◌, ◌≤◌, Bool, true, false, List, ◌++◌, length, length-append, append_assoc, replicate, refl, sym, ap, ◌∙◌, arith, inl, inr, drop, ltb}
use Rattle.std.specs.List.{flat_map}
use Rattle.std.proofs.lemmas.Bool.{cases_Bool, lt-ltb}
use borrow.Rule.Slice.PartMut.{put_mid}
use Rattle.hf_base.specs.Number.{num}
use Rattle.hf_base.specs.NumberLaws.{length-num}
use Rattle.hf_base.specs.Reading.{full}
use Rattle.hf_base.specs.declared.four.FourCc.{FourCc}
use Rattle.hf_base.specs.declared.limits.TheConstants.{LINKS}
use Rattle.hf_box.specs.Head.{box, box_len}
use Rattle.hf_box.specs.Written.{id_width}
use Rattle.hf_box.proofs.HeadLemmas.{box-compact}
use Rattle.hf_links.specs.Iref.{reference_body}
use Rattle.hf_links.specs.Grpl.{Group, group_body}
use Rattle.hf_box.proofs.WrittenBoxes.{length-ids}

length-narrow : (from : ℕ) (to : List ℕ) → length (reference_body false from to) ≡ 4 + length to * 2
unfolding reference_body
length-narrow from to = simp (length-append, length-num, length-ids) (omega arith)

length-wide : (from : ℕ) (to : List ℕ) → length (reference_body true from to) ≡ 6 + length to * 4
unfolding reference_body
length-wide from to = simp (length-append, length-num, length-ids) (omega arith)

-- a box of this size, whose body is fields and what stands behind them
pub boxed : (kind : FourCc) (size : ℕ) (fields behind body : List ℕ) → body ≡ fields ++ behind → size ≡ 8 + length body → size < 256 ^ 4 → ((num size 4 ++ kind.0) ++ fields) ++ behind ≡ box kind body
boxed kind size fields behind body parts same fits =
    let compact = box-compact kind body (omega (arith, fits, same)) in
    append_assoc (num size 4 ++ kind.0) fields behind ∙ ap (λ (l : List ℕ). (num size 4 ++ kind.0) ++ l) (sym parts) ∙ ap (λ (n : ℕ). (num n 4 ++ kind.0) ++ body) same ∙ sym compact

-- a type that is written behind the size
pub front_is : (size : ℕ) (kind some more : List ℕ) → put_mid 4 4 (num size 4 ++ replicate 4 0 ++ some ++ more) kind ≡ (num size 4 ++ kind) ++ (some ++ more)
unfolding num
front_is size kind some more = refl

body_is : (wide : Bool) (from : ℕ) (to : List ℕ) → reference_body wide from to ≡ (num from (id_width wide) ++ num (length to) 2) ++ flat_map (λ id. num id (id_width wide)) to
unfolding reference_body
body_is wide from to = refl

-- ids of two bytes
pub narrow_is : (kind : FourCc) (from : ℕ) (to : List ℕ) → length to ≤ LINKS
    → put_mid 4 4 (num (12 + 2 * length to) 4 ++ replicate 4 0 ++ num from 2 ++ num (length to) 2) kind.0 ++ flat_map (λ id. num id 2) to ≡ box kind (reference_body false from to)
narrow_is kind from to few =
    let size : 12 + 2 * length to ≡ 8 + length (reference_body false from to) = omega (arith, length-narrow from to) in
    let ids = flat_map (λ id. num id 2) to in
    ap (λ (l : List ℕ). l ++ ids) (front_is (12 + 2 * length to) kind.0 (num from 2) (num (length to) 2)) ∙ boxed kind (12 + 2 * length to) (num from 2 ++ num (length to) 2) ids (reference_body false from to) (body_is false from to) size (omega (arith, few))

-- ids of four bytes
pub wide_is : (kind : FourCc) (from : ℕ) (to : List ℕ) → length to ≤ LINKS
    → put_mid 4 4 (num (14 + 4 * length to) 4 ++ replicate 4 0 ++ num from 4 ++ num (length to) 2) kind.0 ++ flat_map (λ id. num id 4) to ≡ box kind (reference_body true from to)
wide_is kind from to few =
    let size : 14 + 4 * length to ≡ 8 + length (reference_body true from to) = omega (arith, length-wide from to) in
    let ids = flat_map (λ id. num id 4) to in
    ap (λ (l : List ℕ). l ++ ids) (front_is (14 + 4 * length to) kind.0 (num from 4) (num (length to) 2)) ∙ boxed kind (14 + 4 * length to) (num from 4 ++ num (length to) 2) ids (reference_body true from to) (body_is true from to) size (omega (arith, few))

least_len : (body : ℕ) → 8 + body ≤ box_len body
unfolding box_len
least_len body = elim (cases_Bool (ltb (8 + body) (256 ^ 4))) [ inl t ↦ rw t (omega arith) | inr f ↦ rw f (omega arith) ]

length-group : (g : Group) → length (group_body g) ≡ 12 + 4 * length g.entities + length g.tail
unfolding group_body
length-group g = simp (length-append, length-num, length-ids) (omega arith)

-- a group that is not too long is of this size
pub group_is_small : (g : Group) (most : ℕ) → 20 + 4 * length g.entities + length g.tail ≤ most → most < 256 ^ 4 → box_len (length (group_body g)) ≤ most
unfolding box_len
group_is_small g most le lt =
    let small : ltb (8 + length (group_body g)) (256 ^ 4) ≡ true = lt-ltb _ _ (omega (arith, length-group g)) in
    rw small (omega (arith, length-group g))

group_body_is : (g : Group) → group_body g ≡ (full g.version g.flags ++ (num g.id 4 ++ num (length g.entities) 4)) ++ (flat_map (λ id. num id 4) g.entities ++ g.tail)
unfolding group_body
group_body_is g = simp append_assoc refl

-- a group of this size is not too long
pub group_is_short : (g : Group) (most : ℕ) → box_len (length (group_body g)) ≤ most → 20 + 4 * length g.entities + length g.tail ≤ most
group_is_short g most le =
    let least : 8 + length (group_body g) ≤ box_len (length (group_body g)) = least_len (length (group_body g)) in
    omega (arith, length-group g, least, le)

-- a version that is written over the first byte of flags in four bytes
pub version_is : (size version flags id count : ℕ)
    → num size 4 ++ replicate 4 0 ++ num version 1 ++ drop 1 (num flags 4) ++ num id 4 ++ num count 4 ≡ num size 4 ++ replicate 4 0 ++ full version flags ++ (num id 4 ++ num count 4)
unfolding num
version_is size version flags id count = refl

pub group_is : (g : Group) (bytes : List ℕ) → bytes ≡ num (20 + 4 * length g.entities + length g.tail) 4 ++ replicate 4 0 ++ full g.version g.flags ++ (num g.id 4 ++ num (length g.entities) 4) → 20 + 4 * length g.entities + length g.tail < 256 ^ 4
    → put_mid 4 4 bytes g.kind.0 ++ flat_map (λ id. num id 4) g.entities ++ g.tail ≡ box g.kind (group_body g)
group_is g bytes is few =
    let size = 20 + 4 * length g.entities + length g.tail in
    let fields = full g.version g.flags ++ (num g.id 4 ++ num (length g.entities) 4) in
    let ids = flat_map (λ id. num id 4) g.entities in
    let front = ap (λ (l : List ℕ). put_mid 4 4 l g.kind.0) is ∙ front_is size g.kind.0 (full g.version g.flags) (num g.id 4 ++ num (length g.entities) 4) in
    ap (λ (l : List ℕ). (l ++ ids) ++ g.tail) front ∙ append_assoc ((num size 4 ++ g.kind.0) ++ fields) ids g.tail ∙ boxed g.kind size fields (ids ++ g.tail) (group_body g) (group_body_is g) (omega (arith, length-group g)) few
