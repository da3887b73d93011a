use Rattle.std.proofs.Common.{◌+◌, ◌-◌, sym, ◌∙◌, length, arith}
use Rattle.hf_box.specs.Boxes.{box_of}
use Rattle.hf_box.proofs.InnerLemmas.{none_left, one_taken}
use Rattle.hf_box.proofs.inner.InnerBoxes.next.Goals as goal

pub returns-in_default-clause-none : goal.returns-in_default-clause-none
returns-in_default-clause-none c = sym c.self.view_is ∙ none_left c.self.inside.many c.self.inside.at c.self.inside.bytes.now c.in_default.field-0 c.self.invariant c.in_default.ensures.exact

pub overflow_sub-self-2 : goal.overflow_sub-self-2
overflow_sub-self-2 c =
    let s = c.self.inside in
    let o = c.in-Ok in
    (one_taken s.many s.at (s.at + (length s.bytes.now - length o.after.now)) s.bytes.now (box_of o.view) o.after.now c.self.invariant (omega (arith, o.ensures.shorter)) o.ensures.whole (omega (arith, o.ensures.whole, o.ensures.shorter)) o.ensures.exact).some

pub invariant_of-self : goal.invariant_of-self
invariant_of-self c =
    let s = c.self.inside in
    let o = c.in-Ok in
    (one_taken s.many s.at (s.at + (length s.bytes.now - length o.after.now)) s.bytes.now (box_of o.view) o.after.now c.self.invariant (omega (arith, o.ensures.shorter)) o.ensures.whole (omega (arith, o.ensures.whole, o.ensures.shorter)) o.ensures.exact).inner

pub returns-clause-some : goal.returns-clause-some
returns-clause-some c =
    let s = c.self.inside in
    let o = c.in-Ok in
    sym c.self.view_is ∙ (one_taken s.many s.at (s.at + (length s.bytes.now - length o.after.now)) s.bytes.now (box_of o.view) o.after.now c.self.invariant (omega (arith, o.ensures.shorter)) o.ensures.whole (omega (arith, o.ensures.whole, o.ensures.shorter)) o.ensures.exact).is

pub returns-in_default-clause-end : goal.returns-in_default-clause-end
returns-in_default-clause-end c = sym c.self.view_is ∙ none_left c.self.inside.many c.self.inside.at c.self.inside.bytes.now c.in_default.field-0 c.self.invariant c.in_default.ensures.exact
