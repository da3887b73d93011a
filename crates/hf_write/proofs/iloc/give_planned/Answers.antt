use Rattle.std.proofs.Common.{◌≡◌, sym, ap, ◌∙◌}
use Rattle.hf_store.specs.Seen.{item_of}
use Rattle.hf_store.proofs.Spots.{some_is}
use Rattle.hf_write.specs.Entries.{planned_entry}
use Rattle.hf_desk.specs.Pages.{ByPut}
use Rattle.hf_desk.proofs.Paging.{gives_as, gives_nothing}
use Rattle.hf_write.proofs.Files.{entry_there, no_entry, entry_whole}
use Rattle.hf_write.proofs.Fits.{id_fits}
use Rattle.hf_write.proofs.iloc.give_planned.Goals as goal

pub give_entry-requires-clause-id : goal.give_entry-requires-clause-id
give_entry-requires-clause-id g c = id_fits c.args.store.now _ c.args.i (item_of c.at-item.result.now) c.valid.ensures (c.wide-wide.ensures ∙ c.requires.plan.wide) c.at-item.ensures

pub give_entry-requires-clause-offset : goal.give_entry-requires-clause-offset
give_entry-requires-clause-offset g c =
    let entry = entry_there c.args.store.now c.args.plan.now c.args.i (item_of c.at-item.result.now) c.in-Some.offset c.valid.ensures c.requires.plan c.at-item.ensures c.in-Some.ensures in
    rw c.long-long.ensures entry.offset

pub give_entry-requires-clause-length : goal.give_entry-requires-clause-length
give_entry-requires-clause-length g c =
    let entry = entry_there c.args.store.now c.args.plan.now c.args.i (item_of c.at-item.result.now) c.in-Some.offset c.valid.ensures c.requires.plan c.at-item.ensures c.in-Some.ensures in
    rw (c.long-long.ensures, c.len-len.ensures.count) entry.len

pub returns-in-Some : goal.returns-in-Some
returns-in-Some g c = λ item e.
    let i = item_of c.at-item.result.now in
    let entry = entry_there c.args.store.now c.args.plan.now c.args.i i c.in-Some.offset c.valid.ensures c.requires.plan c.at-item.ensures c.in-Some.ensures in
    let same : planned_entry c.args.store.now c.args.plan.now i ≡ planned_entry c.args.store.now c.args.plan.now item = ap (planned_entry c.args.store.now c.args.plan.now) (some_is (sym c.at-item.ensures ∙ e)) in
    gives_as (entry_whole c.args.store.now c.args.plan.now i _ _ _ c.in-Some.offset _ entry c.wide-wide.ensures c.long-long.ensures c.method_of-method.ensures.value c.len-len.ensures.count ∙ same) c.give_entry.ensures

pub returns-in-None : goal.returns-in-None
returns-in-None g c = λ item e. gives_as (no_entry c.args.store.now c.args.plan.now c.args.i item c.requires.plan e c.in-None.ensures) (gives_nothing ByPut _ _)
