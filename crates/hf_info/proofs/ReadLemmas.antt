-- How many bytes are left behind a field.
use Rattle.std.proofs.Common.{◌≡◌, ◌≤◌, ℕ, ◌+◌, ◌-◌, List, length, drop, ltb, Ok, sym, ap, ◌∙◌, arith, length-drop}
use Rattle.std.proofs.lemmas.Bool.{ltb-false}
use Rattle.hf_base.specs.declared.fault.ReadRefusal.{ReadRefusal}
use Rattle.hf_base.specs.Number.{number}
use Rattle.hf_base.specs.Reading.{◌>>=◌, front, front_full}
use Rattle.hf_base.specs.ReadingLaws.{bind_ok, guard_ok, ok_is}

pub front_len : (w : ℕ) (short : ReadRefusal) (bytes : List ℕ) (x : ℕ × List ℕ) → front w short bytes ≡ Ok x → length x.1 + w ≡ length bytes
unfolding front
front_len w short bytes x e =
    let g = guard_ok (ltb (length bytes) w) short (number w bytes, drop w bytes) x e in
    let long : w ≤ length bytes = ltb-false _ _ g.0 in
    let len : length x.1 ≡ length bytes - w = ap (λ (y : ℕ × List ℕ). length y.1) (sym g.1) ∙ length-drop w bytes in
    omega arith

pub full_len : (short : ReadRefusal) (bytes : List ℕ) (x : (ℕ × ℕ) × List ℕ) → front_full short bytes ≡ Ok x → length x.1 + 4 ≡ length bytes
unfolding front_full
full_len short bytes x e =
    let a = bind_ok (front 1 short bytes) (λ version. front 3 short version.1 >>= λ flags. Ok ((version.0, flags.0), flags.1)) x e in
    let b = bind_ok (front 3 short a.0.1) (λ flags. Ok ((a.0.0, flags.0), flags.1)) x a.2 in
    let first = front_len 1 short bytes a.0 a.1 in
    let second = front_len 3 short a.0.1 b.0 b.1 in
    let same : length b.0.1 ≡ length x.1 = ap (λ (y : (ℕ × ℕ) × List ℕ). length y.1) (ok_is ((a.0.0, b.0.0), b.0.1) x b.2) in
    omega arith
