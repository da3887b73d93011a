use Rattle.std.proofs.Common.{◌∙◌, map, ap, subst}
use Rattle.std.specs.List.{AllZip}
use Rattle.hf_table.specs.Held.{all_props}
use Rattle.hf_table.specs.Numbered.{IsFirst}
use Rattle.hf_table.specs.Table.{number_of}
use Rattle.hf_table.proofs.making.Making.into_table.Goals as goal

pub returns : goal.returns
returns c = λ lists made starts. record {
  firsts = subst (λ ks. AllZip (IsFirst lists (all_props lists)) c.args.self.firsts.items ks) made.seen made.firsts;
  numbers = made.numbers ∙ ap (λ ks. map (λ p. number_of p ks) (all_props lists)) made.seen;
  count = starts.count;
  starts = starts.begin;
}
