use Rattle.std.proofs.Common.{arith, inl, inr}
use Rattle.hf_store.proofs.BoxLengths.{box_len-cases}
use Rattle.hf_store.proofs.size.boxed.Goals as goal

pub returns-then-body-lt4294967288 : goal.returns-then-body-lt4294967288
returns-then-body-lt4294967288 c n is = elim (box_len-cases n) [ inl short ↦ omega (arith, is, short.1) | inr long ↦ absurd (omega (arith, is, long.0)) ]

pub returns-else-body-lt4294967288 : goal.returns-else-body-lt4294967288
returns-else-body-lt4294967288 c n is = elim (box_len-cases n) [ inl short ↦ absurd (omega (arith, is, short.0)) | inr long ↦ omega (arith, is, long.1) ]
