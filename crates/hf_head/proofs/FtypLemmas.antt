-- The brands that are read stand there, and the brands that stand there are read.
use Rattle.std.proofs.Common.{◌≡◌, ℕ, ◌%◌, ◌^◌, ◌<◌, Bool, true, false, cond, eqb, List, ◌++◌, length, replicate, length-append, ◌+◌, Result, Ok, Err, refl, sym, ap, subst, ◌∙◌, append_assoc, arith}
use Rattle.std.specs.Prelude.{IfOk, IsOkAnd}
use Rattle.std.proofs.lemmas.Bool.{eqb-true, eq-eqb}
use Rattle.hf_base.specs.declared.four.FourCc.{FourCc}
use Rattle.hf_base.specs.declared.fault.ReadRefusal.{ReadRefusal}
use Rattle.hf_base.specs.declared.fault.ReadRefusal.TheVariants.{BadRecord}
use Rattle.hf_base.specs.declared.kinds.TheConstants.{FTYP}
use borrow.Rule.Slice.PartMut.{put_mid}
use Rattle.hf_base.specs.Number.{IsBytes, num}
use Rattle.hf_base.specs.NumberLaws.{length-num}
use Rattle.hf_base.specs.Reading.{◌>>=◌, Reads, front, front_four}
use Rattle.hf_base.specs.ReadingLaws.{bind_ok, ok_is, front_takes, front_again, four_takes, four_again}
use Rattle.hf_box.specs.Head.{box}
use Rattle.hf_box.proofs.HeadLemmas.{box-compact}
use Rattle.hf_head.specs.declared.ftyp.Brands.{Brands as BrandsView}
use Rattle.hf_head.specs.Ftyp.{Brands, brands_of, IsFtyp, ftyp_at, ftyp_body}

kept : {A : Type 0} (b : Bool) (d : ReadRefusal) (x y : A) → cond b (Ok x) (Err d) ≡ Ok y → (b ≡ true) × (x ≡ y)
kept true d x y e = (refl, cc)
kept false d x y e = absurd cc

pub ftyp_found : (at : ℕ) (body : List ℕ) (b : Brands) → IsBytes body → ftyp_at at body ≡ Ok b → IsFtyp body b
unfolding ftyp_at
ftyp_found at body x fits e =
    let short = BadRecord FTYP at in
    let made : FourCc → ℕ × List ℕ → Brands = λ m n. record { major = m; minor = n.0; compatible = n.1 } in
    let a = bind_ok (front_four short body) (λ major. front 4 short major.1 >>= λ minor. cond (eqb (length minor.1 % 4) 0) (Ok (made major.0 minor)) (Err short)) x e in
    let b = bind_ok (front 4 short a.0.1) (λ minor. cond (eqb (length minor.1 % 4) 0) (Ok (made a.0.0 minor)) (Err short)) x a.2 in
    let g = kept (eqb (length b.0.1 % 4) 0) short (made a.0.0 b.0) x b.2 in
    let s = four_takes short body a.0 fits a.1 in
    let t = front_takes 4 short a.0.1 b.0 s.0.fits b.1 in
    subst (λ (y : Brands). IsFtyp body y) g.1 (s.1, t.1, eqb-true _ _ g.0, s.0.parts ∙ ap (λ (l : List ℕ). a.0.0.0 ++ l) t.0.parts)

pub ftyp_only : (at : ℕ) (body : List ℕ) (b : Brands) → IsFtyp body b → ftyp_at at body ≡ Ok b
unfolding ftyp_at
ftyp_only at body b (four, minor, fours, parts) =
    let short = BadRecord FTYP at in
    ap (ftyp_at at) parts ∙ rw (four_again short b.major (num b.minor 4 ++ b.compatible) four, front_again 4 b.minor short b.compatible minor, eq-eqb (length b.compatible % 4) 0 fours) refl

pub is_found : (at : ℕ) (body : List ℕ) (r : Result BrandsView ReadRefusal) → IsBytes body → Reads brands_of r (ftyp_at at body) → IfOk r (λ b. IsFtyp body (brands_of b))
is_found at body (Ok b) fits given = ftyp_found at body (brands_of b) fits given
is_found at body (Err e) fits given = tt

abbrev is_read : Brands → Result Brands ReadRefusal
is_read b = Ok b

pub is_only : (at : ℕ) (body : List ℕ) (r : Result BrandsView ReadRefusal) (b : Brands) → Reads brands_of r (ftyp_at at body) → IsFtyp body b → IsOkAnd r (λ x. brands_of x ≡ b)
is_only at body (Ok x) b given h = ok_is (brands_of x) b (sym given ∙ ftyp_only at body b h)
is_only at body (Err e) b given h = let f = ftyp_only at body b h in absurd cc

pub one_value : (body : List ℕ) (some other : Brands) → IsFtyp body some → IsFtyp body other → some ≡ other
one_value body some other p q = ok_is some other (sym (ftyp_only 0 body some p) ∙ ftyp_only 0 body other q)

pub written_is : (b : Brands) → length b.major.0 ≡ 4 → b.minor < 256 ^ 4 → length b.compatible % 4 ≡ 0 → IsFtyp (ftyp_body b) b
unfolding ftyp_body
written_is b four minor fours = (four, minor, fours, append_assoc b.major.0 (num b.minor 4) b.compatible)

-- ---- the box that is written

length-body : (b : Brands) → length b.major.0 ≡ 4 → length (ftyp_body b) ≡ 8 + length b.compatible
unfolding ftyp_body
length-body b four = simp (length-append, length-num) (omega (arith, four))

-- the sixteen bytes in front of the compatible brands
pub front_is : (major : FourCc) (minor : ℕ) (compatible : List ℕ) (len : ℕ) → length major.0 ≡ 4 → length compatible ≡ len → len + 16 < 256 ^ 4
    → put_mid 8 4 (num (len + 16) 4 ++ FTYP.0 ++ replicate 4 0 ++ num minor 4) major.0 ++ compatible ≡ box FTYP (ftyp_body (record { major = major; minor = minor; compatible = compatible }))
unfolding num ftyp_body
front_is major minor compatible len four same lt =
    let b : Brands = record { major = major; minor = minor; compatible = compatible } in
    let size : len + 16 ≡ 8 + length (ftyp_body b) = omega (arith, length-body b four, same) in
    rw size (sym (box-compact FTYP (ftyp_body b) (omega (arith, lt, size))))
