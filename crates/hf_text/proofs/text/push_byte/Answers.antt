use Rattle.std.proofs.Common.{◌∙◌, ap, arith, length, length-append, sym}
use Rattle.hf_text.proofs.Strings.{other_byte}
use Rattle.hf_text.proofs.text.push_byte.Goals as goal

pub returns : goal.returns
returns g c =
    let high = c.push-2.ensures.ascii c.hex_digit.ensures.ascii in
    let low = c.push-3.ensures.ascii c.hex_digit-2.ensures.ascii in
    record {
      bytes = other_byte _ _ _ _ c.args.byte _ _ (sym c.is_plain.ensures ∙ c.if-is_plain.false) c.push_str.ensures.bytes c.hex_digit.ensures.value c.hex_digit-2.ensures.value high low;
      short = omega (arith, c.push_str.ensures.len, simp length-append at (ap length high), simp length-append at (ap length low));
    }
