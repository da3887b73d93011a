use Rattle.std.proofs.Common.{◌++◌, ◌∙◌, ap}
use Rattle.hf_text.proofs.Strings.{after_space, after_space-length}
use Rattle.hf_text.proofs.text.push_number.Goals as goal

pub returns : goal.returns
returns g c = record {
  bytes = after_space _ _ _ _ c.push.ensures.ascii (c.push_str.ensures.bytes ∙ ap (λ l. c.push.new.self.bytes ++ l) c.format.ensures.text);
  short = after_space-length _ _ _ _ c.push.ensures.ascii c.push_str.ensures.bytes 20 c.format.ensures.fits;
}
