-- What is put, compared with a file.
use Rattle.std.proofs.Common.{◌≡◌, ◌≢◌, ℕ, Bor, List, [], ◌++◌, take, length, Option, Some, None, true, refl, sym, ap, ◌∙◌, subst, arith, Result, Ok, Err, OnOk, is_ok, ◌↔◌}
use Rattle.std.specs.Prelude.{option_copied, MatchOption}
use Rattle.std.proofs.lemmas.List.{take_all}
use Rattle.hf_desk.specs.Calls.{Puts}
use Rattle.hf_desk.specs.Mark.{Match, rest_after, rest_left, grown}
use Rattle.hf_desk.specs.Outside.{Outside}
use Rattle.hf_desk.proofs.Joined.{Wrote}
use Rattle.hf_desk.proofs.Matching.{rest_of_front, rest_is, matches_whole}
use Rattle.hf_store.specs.Store.{ItemStore}
use Rattle.hf_store.specs.Valid.{Valid}
use Rattle.hf_plan.specs.Canon.{Canon}
use Rattle.hf_plan.proofs.OneFile.{has_canon, one_canon}

none_left : (piece rest : List ℕ) → ((later : List ℕ) → rest ≢ piece ++ later) → (o : Option (List ℕ)) → rest_after piece rest ≡ o → o ≡ None
none_left piece rest differs None e = refl
none_left piece rest differs (Some later) e = absurd (differs later (rest_is piece rest later e))

rest_is_left : (piece rest : List ℕ) (r : Option (Bor (List ℕ))) → MatchOption r ((later : List ℕ) → rest ≢ piece ++ later) (λ x. rest ≡ piece ++ x.now) → rest_after piece rest ≡ option_copied r
rest_is_left piece rest None differs = none_left piece rest differs (rest_after piece rest) refl
rest_is_left piece rest (Some later) front = ap (rest_after piece) front ∙ rest_of_front piece later.now

-- what is left of a file behind a whole piece
pub left_is : (before after : Option (Bor (List ℕ))) (rest : Bor (List ℕ)) (piece : List ℕ) → before ≡ Some rest
    → MatchOption after ((later : List ℕ) → rest.now ≢ piece ++ later) (λ x. rest.now ≡ piece ++ x.now)
    → option_copied after ≡ rest_left (option_copied before) (take (length piece) piece)
left_is before after rest piece some cases =
    sym (ap (λ o. rest_left (option_copied o) (take (length piece) piece)) some ∙ ap (λ p. rest_after p rest.now) (take_all (length piece) piece (omega arith)) ∙ rest_is_left piece rest.now after cases)

at_ok : {T E P : Type 0} (r : Result T E) → is_ok r ≡ true → OnOk r P → P
at_ok (Ok x) fine p = p
at_ok (Err e) fine p = absurd (cc (fine))

-- the canonical file of a store, put over a steady desk that compares it with a file
module _ (s : ItemStore) (file : List ℕ) (old new : Outside) (r : Wrote) (valid : Valid s) (steady : old.steady ≡ true) (begun : old.mark ≡ Match (Some file))
    (puts : (F : List ℕ) → Canon s F → Puts old F r new) where
  there : (F : List ℕ) × Canon s F
  there = has_canon s valid

  put : Puts old there.0 r new
  put = puts there.0 there.1

  pub is_put : is_ok r ≡ true
  is_put = (put.steady steady tt).0

  mark_is : new.mark ≡ Match (rest_after there.0 file)
  mark_is = (at_ok r is_put put.ok).mark ∙ ap (λ m. grown m there.0) begun

  pub whole_is_canon : (new.mark ≡ Match (Some [])) ↔ Canon s file
  whole_is_canon = (
    (λ e. subst (λ (F : List ℕ). Canon s F) (sym ((matches_whole there.0 file).0 (sym mark_is ∙ e))) there.1),
    (λ canon. mark_is ∙ (matches_whole there.0 file).1 (one_canon s file there.0 canon there.1)),
  )
