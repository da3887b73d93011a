use Rattle.std.proofs.Common.{Some, true, false, refl}
use Rattle.hf_base.proofs.DoublingLaws.{too_many_leaves, past_idat, file_there, idat_there}
use Rattle.hf_base.proofs.chain_laws.long_chains_are_too_scattered.Goals as goal

pub returns : goal.returns
returns c = record {
  in_file = λ F idat long n there some more. too_many_leaves F idat false long n (record { there = refl; in_file = file_there F there; some = some }) refl more;
  in_idat = λ F inner long n there some more. too_many_leaves F (Some inner) true long n (record { there = refl; in_file = refl; some = some }) (idat_there F inner there) more;
  out_of_idat = λ F long n some. past_idat F long n some;
}
