-- The id that is read stands there, and the id that stands there is read.
use Rattle.std.proofs.Common.{◌≡◌, ℕ, zero, suc, ◌^◌, ◌<◌, Bool, true, false, List, [], ◌++◌, Result, Ok, Err, refl, sym, ap, subst, ◌∙◌, arith, inl, inr, ◌⊎◌}
use Rattle.std.specs.Prelude.{IfOk}
use Rattle.std.proofs.lemmas.List.{append-nil}
use Rattle.hf_base.specs.declared.fault.ReadRefusal.{ReadRefusal}
use Rattle.hf_base.specs.declared.fault.ReadRefusal.TheVariants.{BadRecord}
use Rattle.hf_base.specs.declared.kinds.TheConstants.{PITM}
use Rattle.hf_base.specs.Number.{IsBytes, num}
use Rattle.hf_base.specs.Reading.{Reads, front, front_full, full}
use Rattle.hf_base.specs.ReadingLaws.{bind_ok, ok_is, front_takes, front_again, full_takes, full_again}
use Rattle.hf_box.specs.Written.{id_width}
use Rattle.hf_head.specs.Pitm.{IsPitm, id_at, pitm_at, pitm_body}

-- the rest of the body is the id of this version
abbrev HasId : ℕ → ℕ → List ℕ → Type 0
HasId version id bytes = (rest : List ℕ) × (((version ≡ 0) × (id < 256 ^ 2) × (bytes ≡ num id 2 ++ rest)) ⊎ ((version ≡ 1) × (id < 256 ^ 4) × (bytes ≡ num id 4 ++ rest)))

id_found : (version at : ℕ) (bytes : List ℕ) (id : ℕ) → IsBytes bytes → id_at version at bytes ≡ Ok id → HasId version id bytes
unfolding id_at
id_found zero at bytes id fits e =
    let a = bind_ok (front 2 (BadRecord PITM at) bytes) (λ x. Ok x.0) id e in
    let t = front_takes 2 (BadRecord PITM at) bytes a.0 fits a.1 in
    subst (λ (n : ℕ). HasId 0 n bytes) (ok_is a.0.0 id a.2) (a.0.1, inl (refl, t.1, t.0.parts))
id_found (suc zero) at bytes id fits e =
    let a = bind_ok (front 4 (BadRecord PITM at) bytes) (λ x. Ok x.0) id e in
    let t = front_takes 4 (BadRecord PITM at) bytes a.0 fits a.1 in
    subst (λ (n : ℕ). HasId 1 n bytes) (ok_is a.0.0 id a.2) (a.0.1, inr (refl, t.1, t.0.parts))
id_found (suc (suc version)) at bytes id fits e = absurd cc

pub pitm_found : (at : ℕ) (body : List ℕ) (id : ℕ) → IsBytes body → pitm_at at body ≡ Ok id → IsPitm body id
unfolding pitm_at
pitm_found at body id fits e =
    let a = bind_ok (front_full (BadRecord PITM at) body) (λ head. id_at head.0.0 at head.1) id e in
    let t = full_takes (BadRecord PITM at) body a.0 fits a.1 in
    let h = id_found a.0.0.0 at a.0.1 id t.0.fits a.2 in
    let flags = a.0.0.1 in (
      flags,
      h.0,
      t.2,
      elim h.1 [
        | inl p ↦ inl (p.1, t.0.parts ∙ ap (λ (v : ℕ). full v flags ++ a.0.1) p.0 ∙ ap (λ (r : List ℕ). full 0 flags ++ r) p.2)
        | inr p ↦ inr (p.1, t.0.parts ∙ ap (λ (v : ℕ). full v flags ++ a.0.1) p.0 ∙ ap (λ (r : List ℕ). full 1 flags ++ r) p.2)
      ],
    )

id_again : (at : ℕ) (id : ℕ) (rest : List ℕ) → id < 256 ^ 2 → id_at 0 at (num id 2 ++ rest) ≡ Ok id
unfolding id_at
id_again at id rest lt = rw (front_again 2 id (BadRecord PITM at) rest lt) refl

wide_again : (at : ℕ) (id : ℕ) (rest : List ℕ) → id < 256 ^ 4 → id_at 1 at (num id 4 ++ rest) ≡ Ok id
unfolding id_at
wide_again at id rest lt = rw (front_again 4 id (BadRecord PITM at) rest lt) refl

pub pitm_only : (at : ℕ) (body : List ℕ) (id : ℕ) → IsPitm body id → pitm_at at body ≡ Ok id
unfolding pitm_at
pitm_only at body id (flags, rest, lt, inl p) =
    ap (pitm_at at) p.1 ∙ rw (full_again 0 flags (BadRecord PITM at) (num id 2 ++ rest) (omega arith) lt, id_again at id rest p.0) refl
pitm_only at body id (flags, rest, lt, inr p) =
    ap (pitm_at at) p.1 ∙ rw (full_again 1 flags (BadRecord PITM at) (num id 4 ++ rest) (omega arith) lt, wide_again at id rest p.0) refl

pub is_found : (at : ℕ) (body : List ℕ) (r : Result ℕ ReadRefusal) → IsBytes body → Reads (λ id. id) r (pitm_at at body) → IfOk r (λ id. IsPitm body id)
is_found at body (Ok id) fits given = pitm_found at body id fits given
is_found at body (Err e) fits given = tt

pub is_only : (at : ℕ) (body : List ℕ) (r : Result ℕ ReadRefusal) (id : ℕ) → Reads (λ n. n) r (pitm_at at body) → IsPitm body id → r ≡ Ok id
is_only at body (Ok n) id given h = let e = pitm_only at body id h in ap (λ (k : ℕ). Ok k) (ok_is n id (sym given ∙ e))
is_only at body (Err e) id given h = let f = pitm_only at body id h in absurd cc

pub one_value : (body : List ℕ) (some other : ℕ) → IsPitm body some → IsPitm body other → some ≡ other
one_value body some other p q = ok_is some other (sym (pitm_only 0 body some p) ∙ pitm_only 0 body other q)

pub written_is : (wide : Bool) (id : ℕ) → id < 256 ^ id_width wide → IsPitm (pitm_body wide id) id
unfolding pitm_body
written_is false id fits = (0, [], omega arith, inl (fits, ap (λ (l : List ℕ). full 0 0 ++ l) (sym (append-nil (num id 2)))))
written_is true id fits = (0, [], omega arith, inr (fits, ap (λ (l : List ℕ). full 1 0 ++ l) (sym (append-nil (num id 4)))))
