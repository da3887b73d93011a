use Rattle.std.proofs.Common.{sym, ◌∙◌, arith}
use Rattle.std.proofs.lemmas.Grind.{common_steps}
use Rattle.hf_store.specs.Changes.{cut_list}
use Rattle.hf_store.specs.Stays.{stays_of}
use Rattle.hf_store.proofs.Mapped.{mapped-none, plain-next, mapped-all}
use Rattle.hf_store.proofs.cutting.cut_lists.Goals as goal

pub loop-i-init : goal.loop-i-init
loop-i-init c = sym (mapped-none (cut_list (stays_of c.args.stays.now)) c.args.lists.now.items)

pub loop-i-preserved : goal.loop-i-preserved
loop-i-preserved c =
    plain-next (cut_list (stays_of c.args.stays.now)) c.args.lists.now.items c.loop-i.lists.items c.loop-i.i c.index_mut.result.now c.cut_list.new.list (grind (arith, common_steps)) c.index_mut.ensures.value c.loop-i.invariant c.cut_list.ensures

pub returns : goal.returns
returns c = c.loop-i.invariant ∙ mapped-all (cut_list (stays_of c.args.stays.now)) c.args.lists.now.items c.loop-i.i (grind (arith, common_steps))
