-- Types are told apart by their bytes.
use Rattle.std.proofs.Common.{◌≡◌, ℕ, true, false, List, ap}
use Rattle.std.proofs.lemmas.Bool.{false_from_ne_true}
use Rattle.std.proofs.lemmas.Slice.Eq.{bytes_eq-Decides}
use Rattle.hf_base.specs.declared.four.FourCc.{FourCc}
use Rattle.hf_box.specs.Walk.{is_kind}

abbrev kind_of : List ℕ → FourCc
kind_of l = record { 0 = l }

pub same_kind : (a b : FourCc) → a ≡ b → is_kind a b ≡ true
same_kind a b e = (bytes_eq-Decides a.0 b.0).1 (ap (λ (k : FourCc). k.0) e)

pub is_same_kind : (a b : FourCc) → is_kind a b ≡ true → a ≡ b
is_same_kind a b t = ap kind_of ((bytes_eq-Decides a.0 b.0).0 t)

pub other_kind : (a b : FourCc) → (a ≡ b → ⊥) → is_kind a b ≡ false
other_kind a b ne = false_from_ne_true (is_kind a b) (λ t. ne (is_same_kind a b t))
