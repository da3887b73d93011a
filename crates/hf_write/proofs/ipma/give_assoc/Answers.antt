use Rattle.std.proofs.Common.{◌≡◌, length, refl, sym, ap, ◌∙◌, arith}
use Rattle.hf_desk.specs.Pages.{ByPut}
use Rattle.hf_desk.proofs.Paging.{gives_as, gives_then, gives_stops, gives_nothing}
use Rattle.hf_store.specs.Seen.{item_of}
use Rattle.hf_store.specs.Store.{Item}
use Rattle.hf_store.specs.Table.{table_of}
use Rattle.hf_store.proofs.Spots.{some_is}
use Rattle.hf_write.specs.Entries.{assoc_if_any}
use Rattle.hf_write.proofs.Fits.{id_fits, item_fits}
use Rattle.hf_write.proofs.Props.{assoc_whole, no_assoc, some_props}
use Rattle.hf_write.proofs.ipma.give_assoc.Goals as goal

pub returns-then-count-eq0 : goal.returns-then-count-eq0
returns-then-count-eq0 g c = λ item e.
    let same = ap (λ (i : Item). i.props) (some_is (sym c.at-item.ensures ∙ e)) in
    gives_as (no_assoc c.args.plan.now.wide c.args.long (table_of c.args.store.now) item (ap (λ hs. length hs) (sym same) ∙ sym c.len-count.ensures ∙ omega (arith, c.if-count-eq0.true))) (gives_nothing ByPut _ _)

pub give_entry-requires-clause-id : goal.give_entry-requires-clause-id
give_entry-requires-clause-id g c = id_fits c.args.store.now _ c.args.i (item_of c.at-item.result.now) c.valid.ensures (c.wide-wide.ensures ∙ c.requires.plan.wide) c.at-item.ensures

pub give_entry-requires-clause-count : goal.give_entry-requires-clause-count
give_entry-requires-clause-count g c = omega (arith, c.len-count.ensures, (item_fits c.args.store.now c.args.i (item_of c.at-item.result.now) c.valid.ensures c.at-item.ensures).props)

pub returns-in_err-give_entry : goal.returns-in_err-give_entry
returns-in_err-give_entry g c = λ item e.
    let i = item_of c.at-item.result.now in
    let some = some_props i _ c.len-count.ensures (λ none. omega (arith, c.if-count-eq0.false, none)) in
    let same : assoc_if_any c.args.plan.now.wide c.args.long (table_of c.args.store.now) i ≡ assoc_if_any c.args.plan.now.wide c.args.long (table_of c.args.store.now) item = ap (assoc_if_any c.args.plan.now.wide c.args.long (table_of c.args.store.now)) (some_is (sym c.at-item.ensures ∙ e)) in
    gives_as (assoc_whole c.args.plan.now.wide _ c.args.long (table_of c.args.store.now) i _ c.wide-wide.ensures c.len-count.ensures some ∙ same) (gives_stops _ refl c.from_residual.ensures.0 c.in_err-give_entry.ensures)

pub returns : goal.returns
returns g c = λ item e.
    let i = item_of c.at-item.result.now in
    let some = some_props i _ c.len-count.ensures (λ none. omega (arith, c.if-count-eq0.false, none)) in
    let same : assoc_if_any c.args.plan.now.wide c.args.long (table_of c.args.store.now) i ≡ assoc_if_any c.args.plan.now.wide c.args.long (table_of c.args.store.now) item = ap (assoc_if_any c.args.plan.now.wide c.args.long (table_of c.args.store.now)) (some_is (sym c.at-item.ensures ∙ e)) in
    gives_as (assoc_whole c.args.plan.now.wide _ c.args.long (table_of c.args.store.now) i _ c.wide-wide.ensures c.len-count.ensures some ∙ same) (gives_then c.in_ok-give_entry.ensures (c.give_picks.ensures i c.at-item.ensures))
