use Rattle.std.proofs.Common.{◌+◌, ap, sym, ◌∙◌, string_bytes}
use Rattle.std.specs.Option.{ok_or}
use Rattle.std.proofs.lemmas.Bool.{ltb-false, ltb-true}
use Rattle.hf_text.specs.Words.{count_of}
use Rattle.hf_text.proofs.Operands.{operand-here, operand-past}
use Rattle.hf_text.proofs.places.read_count.Goals as goal

pub returns-in-Some : goal.returns-in-Some
returns-in-Some c =
    let there = c.in-Some.ensures.lookup in
    c.ok_or.ensures.value
    ∙ ap (λ o. ok_or o (c.args.at + c.args.i)) (c.count_of.ensures ∙ ap count_of c.as_str.ensures.value)
    ∙ sym (operand-here string_bytes c.args.words.now c.args.at c.args.i count_of c.in-Some.word.now (ltb-true _ _ (sym there.0)) there.1)

pub returns-in-None : goal.returns-in-None
returns-in-None c = sym (operand-past string_bytes c.args.words.now c.args.at c.args.i count_of (ltb-false _ _ (sym c.in-None.ensures.lookup.0)))
