use Rattle.std.proofs.Common.{refl}
use Rattle.hf_links.specs.Iref.{reference_box}
use Rattle.hf_store.specs.Layout.{item_boxes}
use Rattle.hf_store.specs.declared.item.RefList.{RefList}
use Rattle.hf_store.proofs.Spots.{get_map, holds_here}
use Rattle.hf_write.specs.Entries.{IsShortRef}
use Rattle.hf_write.proofs.Chains.{gives_next, gives_last}
use Rattle.hf_write.proofs.iref.give_refs.Goals as goal

pub give_ref-requires-clause-count : goal.give_ref-requires-clause-count
give_ref-requires-clause-count g c = (holds_here (IsShortRef c.args.wide) c.args.item.now.refs c.loop-i.i c.get-list.result.now c.requires.lists c.get-list.ensures).0

pub give_ref-requires-clause-fits : goal.give_ref-requires-clause-fits
give_ref-requires-clause-fits g c = (holds_here (IsShortRef c.args.wide) c.args.item.now.refs c.loop-i.i c.get-list.result.now c.requires.lists c.get-list.ensures).1

pub returns-in_err-give_ref : goal.returns-in_err-give_ref
returns-in_err-give_ref g c = gives_last (reference_box c.args.wide) (item_boxes c.args.item.now.id c.args.item.now.refs) c.loop-i.i (record { kind = c.get-list.result.now.kind; from = c.args.item.now.id; to = c.get-list.result.now.to }) (get_map (λ (r : RefList). record { kind = r.kind; from = c.args.item.now.id; to = r.to }) c.args.item.now.refs c.loop-i.i c.get-list.result.now c.get-list.ensures) refl c.from_residual.ensures.0 c.loop-i.invariant c.in_err-give_ref.ensures

pub loop-i-preserved : goal.loop-i-preserved
loop-i-preserved g c = gives_next (reference_box c.args.wide) (item_boxes c.args.item.now.id c.args.item.now.refs) c.loop-i.i (record { kind = c.get-list.result.now.kind; from = c.args.item.now.id; to = c.get-list.result.now.to }) (get_map (λ (r : RefList). record { kind = r.kind; from = c.args.item.now.id; to = r.to }) c.args.item.now.refs c.loop-i.i c.get-list.result.now c.get-list.ensures) c.loop-i.invariant c.in_ok-give_ref.ensures
