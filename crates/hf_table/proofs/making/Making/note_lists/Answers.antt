use Rattle.std.proofs.Common.{◌≡◌, ◌++◌, ◌∙◌, length, take, sym, ap, subst, arith}
use Rattle.std.proofs.lemmas.List.{length-map}
use Rattle.std.proofs.lemmas.Grind.{common_steps}
use Rattle.std.proofs.Math.Seq.{take-length}
use Rattle.hf_base.specs.declared.limits.TheConstants.{KINDS}
use Rattle.hf_table.specs.Held.{props_in, all_props}
use Rattle.hf_table.specs.Making.{IsMade}
use Rattle.hf_table.specs.Numbered.{place_of}
use Rattle.hf_table.specs.Table.{number_of}
use Rattle.hf_table.proofs.Cuts.{all-more, few-kinds, starts-more}
use Rattle.hf_table.proofs.making.Making.note_lists.Goals as goal

pub note_all-requires : goal.note_all-requires
note_all-requires g c =
    few-kinds (g.S.PropLists.lists c.args.store.now) c.loop-i.i (props_in c.props_at.result.now) c.props_at.ensures c.loop-i.self.seen.keys KINDS
    c.loop-i.invariant.made.seen c.requires.few

pub loop-i-preserved : goal.loop-i-preserved
loop-i-preserved g c =
    let lists = g.S.PropLists.lists c.args.store.now in
    let i = c.loop-i.i in
    let props = props_in c.props_at.result.now in
    let m = c.loop-i.invariant.made in
    let so_far = all_props (take i lists) in
    let here : place_of lists i 0 ≡ length so_far = omega arith in
    let made : IsMade lists (so_far ++ props) c.note_all.new.self = c.in_ok-note_all.ensures lists so_far m here c.props_at.ensures in
    let counted : length c.loop-i.self.numbers.items ≡ length so_far = ap length m.numbers ∙ length-map so_far (λ p. number_of p c.loop-i.self.seen.keys) in
    let begins : c.len.result ≡ length so_far = grind (arith, common_steps) in
    record {
      made = subst (λ ps. IsMade lists ps c.note_all.new.self) (sym (all-more lists i props c.props_at.ensures)) made;
      count = grind (arith, common_steps);
      starts =
          starts-more c.loop-i.starts.items c.push.new.self.items i c.len.result (λ n. length (all_props (take n lists))) c.in_ok-push.ensures.items
          c.loop-i.invariant.count
          c.loop-i.invariant.starts begins;
    }

pub returns-clause-made : goal.returns-clause-made
returns-clause-made g c =
    let lists = g.S.PropLists.lists c.args.store.now in
    let end : c.loop-i.i ≡ length lists = omega (arith, c.loop-i-test.false, c.loop-i.auto.i-end) in
    let whole : take c.loop-i.i lists ≡ lists = ap (λ n. take n lists) end ∙ take-length lists in
    subst (λ ls. IsMade lists (all_props ls) c.loop-i.self) whole c.loop-i.invariant.made

pub returns-clause-starts : goal.returns-clause-starts
returns-clause-starts g c =
    let lists = g.S.PropLists.lists c.args.store.now in
    let end : c.loop-i.i ≡ length lists = omega (arith, c.loop-i-test.false, c.loop-i.auto.i-end) in
    record {
      count = c.loop-i.invariant.count ∙ end;
      begin = λ k h. c.loop-i.invariant.starts k (omega (arith, end));
    }
