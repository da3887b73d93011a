-- How long boxes are.
use Rattle.std.proofs.Common.{◌≡◌, ℕ, ◌+◌, ◌^◌, ◌<◌, ◌≤◌, List, ◌++◌, length, length-append, refl, arith, ◌⊎◌, inl, inr}
use Rattle.std.proofs.lemmas.Bool.{cases_lt, lt-ltb, le-ltb}
use Rattle.hf_base.specs.Number.{num}
use Rattle.hf_base.specs.NumberLaws.{length-num}
use Rattle.hf_base.specs.declared.four.FourCc.{FourCc}
use Rattle.hf_box.specs.Head.{box_len, box_head, box}

pub box_len-short : (body : ℕ) → 8 + body < 256 ^ 4 → box_len body ≡ 8 + body
unfolding box_len
box_len-short body h = rw (lt-ltb _ _ h) refl

pub box_len-long : (body : ℕ) → 256 ^ 4 ≤ 8 + body → box_len body ≡ 16 + body
unfolding box_len
box_len-long body h = rw (le-ltb _ _ h) refl

pub box_len-cases : (body : ℕ) → ((8 + body < 256 ^ 4) × (box_len body ≡ 8 + body)) ⊎ ((256 ^ 4 ≤ 8 + body) × (box_len body ≡ 16 + body))
box_len-cases body =
    elim (cases_lt (8 + body) (256 ^ 4)) [
      | inl h ↦ inl (h, box_len-short body h)
      | inr h ↦ inr (h, box_len-long body h)
    ]

pub box_len-lt : (a b : ℕ) → a < b → box_len a < box_len b
box_len-lt a b h =
    elim (box_len-cases a) [
      | inl p ↦ elim (box_len-cases b) [ inl q ↦ omega (arith, p.1, q.1) | inr q ↦ omega (arith, p.1, q.1) ]
      | inr p ↦ elim (box_len-cases b) [ inl q ↦ omega (arith, p.0, p.1, q.0, q.1) | inr q ↦ omega (arith, p.1, q.1) ]
    ]

pub box_len-le : (a : ℕ) → box_len a ≤ 16 + a
box_len-le a = elim (box_len-cases a) [ inl p ↦ omega (arith, p.1) | inr p ↦ omega (arith, p.1) ]

pub le-box_len : (a : ℕ) → 8 + a ≤ box_len a
le-box_len a = elim (box_len-cases a) [ inl p ↦ omega (arith, p.1) | inr p ↦ omega (arith, p.1) ]

head-short : (kind : FourCc) (body : ℕ) → 8 + body < 256 ^ 4 → box_head kind body ≡ num (8 + body) 4 ++ kind.0
unfolding box_head
head-short kind body h = rw (lt-ltb _ _ h) refl

head-long : (kind : FourCc) (body : ℕ) → 256 ^ 4 ≤ 8 + body → box_head kind body ≡ num 1 4 ++ kind.0 ++ num (16 + body) 8
unfolding box_head
head-long kind body h = rw (le-ltb _ _ h) refl

pub length-box_head : (kind : FourCc) (body : ℕ) → length kind.0 ≡ 4 → length (box_head kind body) + body ≡ box_len body
length-box_head kind body four =
    elim (cases_lt (8 + body) (256 ^ 4)) [
      | inl h ↦ rw (head-short kind body h, box_len-short body h) (simp (length-append, length-num) (omega (arith, four)))
      | inr h ↦ rw (head-long kind body h, box_len-long body h) (simp (length-append, length-num) (omega (arith, four)))
    ]

pub length-box : (kind : FourCc) (body : List ℕ) → length kind.0 ≡ 4 → length (box kind body) ≡ box_len (length body)
unfolding box
length-box kind body four = simp length-append (omega (arith, length-box_head kind (length body) four))

pub le-box : (kind : FourCc) (body : List ℕ) → length body ≤ length (box kind body)
unfolding box
le-box kind body = simp length-append (omega arith)

pub box_len-mono : (a b : ℕ) → a ≤ b → box_len a ≤ box_len b
box_len-mono a b h =
    elim (box_len-cases a) [
      | inl p ↦ elim (box_len-cases b) [ inl q ↦ omega (arith, p.1, q.1) | inr q ↦ omega (arith, p.1, q.1) ]
      | inr p ↦ elim (box_len-cases b) [ inl q ↦ absurd (omega (arith, p.0, q.0)) | inr q ↦ omega (arith, p.1, q.1) ]
    ]
