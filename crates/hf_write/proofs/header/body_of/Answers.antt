use Rattle.std.proofs.Common.{arith, inl, inr}
use Rattle.hf_store.proofs.BoxLengths.{box_len-cases}
use Rattle.hf_write.proofs.header.body_of.Goals as goal

pub returns-then-whole-clause-value : goal.returns-then-whole-clause-value
returns-then-whole-clause-value c = λ body e.
    elim (box_len-cases body) [ inl p ↦ omega (arith, e, p.1) | inr p ↦ absurd (omega (arith, e, p.0, p.1)) ]

pub returns-else-whole-clause-value : goal.returns-else-whole-clause-value
returns-else-whole-clause-value c = λ body e.
    elim (box_len-cases body) [ inl p ↦ absurd (omega (arith, e, p.0, p.1)) | inr p ↦ omega (arith, e, p.1) ]
