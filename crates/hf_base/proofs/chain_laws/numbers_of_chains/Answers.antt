use Rattle.std.proofs.Common.{◌<◌, ◌^◌, ℕ, false, refl, None, arith, inl, inr}
use Rattle.std.proofs.lemmas.Bool.{cases_Bool}
use Rattle.std.specs.Prelude.{nat_lt, if◌then◌else◌}
use Rattle.std.proofs.lemmas.Nat.{pow_pos}
use Rattle.hf_base.proofs.DoublingLaws.{few_leaves, too_many_leaves, past_idat, file_there}
use Rattle.hf_base.proofs.chain_laws.numbers_of_chains.Goals as goal

some_bytes : (k : ℕ) → 0 < (if nat_lt k 39 then 2 ^ k else 1)
some_bytes k = let p = pow_pos k in elim (cases_Bool (nat_lt k 39)) [ inl low ↦ rw low p | inr high ↦ rw high (omega arith) ]

pub returns : goal.returns
returns c = record {
  twenty = λ F there. few_leaves F None false 20 refl (file_there F there) refl (omega arith);
  twenty_one = λ F there. too_many_leaves F None false (λ k. 2 ^ k) 21 (record { there = refl; in_file = file_there F there; some = λ k. pow_pos k }) refl (omega arith);
  twenty_five = λ F there. too_many_leaves F None false (λ k. 2 ^ k) 25 (record { there = refl; in_file = file_there F there; some = λ k. pow_pos k }) refl (omega arith);
  seventy = λ F there. too_many_leaves F None false (λ k. if nat_lt k 39 then 2 ^ k else 1) 70 (record { there = refl; in_file = file_there F there; some = some_bytes }) refl (omega arith);
  past_its_source = λ F there. too_many_leaves F None false (λ k. 18446744073709551615) 21 (record { there = refl; in_file = file_there F there; some = λ k. omega arith }) refl (omega arith);
  past_idat = λ F. past_idat F (λ k. 2 ^ k) 20 (λ k. pow_pos k);
}
