use Rattle.std.proofs.Common.{◌≡◌, sym, ◌∙◌, ap, decimal}
use Rattle.std.proofs.lemmas.Slice.Eq.{bytes_eq-Decides}
use Rattle.hf_text.proofs.Operands.{parsed_number, unparsed_number}
use Rattle.hf_text.proofs.places.number_of.Goals as goal

pub returns-in-Ok : goal.returns-in-Ok
returns-in-Ok c =
    let same = (bytes_eq-Decides c.format.result.now c.args.word.now).0 (sym c.eq.ensures ∙ c.if-eq.true) in
    parsed_number c.args.word.now c.parse.result c.in-Ok.n c.parse.ensures.value.0 c.in-Ok.is (sym same ∙ c.format.ensures.text)

pub returns-in_default : goal.returns-in_default
returns-in_default c = unparsed_number c.args.word.now c.parse.result c.parse.ensures.value.0 (λ n is written.
    let same : n ≡ c.in-Ok.n = cc in
    let all = (bytes_eq-Decides c.format.result.now c.args.word.now).1 (c.format.ensures.text ∙ ap decimal (sym same) ∙ sym written) in
    absurd (cc))

pub returns-in_default-2 : goal.returns-in_default-2
returns-in_default-2 c = unparsed_number c.args.word.now c.parse.result c.parse.ensures.value.0 (λ n is written. absurd (cc))
