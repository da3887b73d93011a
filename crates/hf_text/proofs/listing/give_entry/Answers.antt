use Rattle.std.proofs.Common.{refl}
use Rattle.hf_desk.proofs.Paging.{gives_as, gives_then, gives_stops, gives_more}
use Rattle.hf_store.specs.Seen.{item_of}
use Rattle.hf_text.proofs.Strings.{entry_is}
use Rattle.hf_text.proofs.listing.give_entry.Goals as goal

pub returns-in_err-give_text : goal.returns-in_err-give_text
returns-in_err-give_text g c = gives_as (entry_is (item_of c.args.item.now) _ _ c.words_of_item-words.ensures c.len.ensures.count) (gives_more _ c.from_residual.ensures.0 (gives_more _ c.from_residual.ensures.0 (gives_more _ c.from_residual.ensures.0 (gives_more _ c.from_residual.ensures.0 (gives_stops _ refl c.from_residual.ensures.0 c.in_err-give_text.ensures)))))

pub returns-in_err-give_string : goal.returns-in_err-give_string
returns-in_err-give_string g c = gives_as (entry_is (item_of c.args.item.now) _ _ c.words_of_item-words.ensures c.len.ensures.count) (gives_more _ c.from_residual-in_err-give_string.ensures.0 (gives_more _ c.from_residual-in_err-give_string.ensures.0 (gives_more _ c.from_residual-in_err-give_string.ensures.0 (gives_stops _ refl c.from_residual-in_err-give_string.ensures.0 (gives_then c.in_ok-give_text.ensures c.in_err-give_string.ensures)))))

pub returns-in_err-give_string-2 : goal.returns-in_err-give_string-2
returns-in_err-give_string-2 g c = gives_as (entry_is (item_of c.args.item.now) _ _ c.words_of_item-words.ensures c.len.ensures.count) (gives_more _ c.from_residual-in_err-give_string-2.ensures.0 (gives_more _ c.from_residual-in_err-give_string-2.ensures.0 (gives_stops _ refl c.from_residual-in_err-give_string-2.ensures.0 (gives_then (gives_then c.in_ok-give_text.ensures c.in_ok-give_string.ensures) c.in_err-give_string-2.ensures))))

pub returns-in_err-give_string-3 : goal.returns-in_err-give_string-3
returns-in_err-give_string-3 g c = gives_as (entry_is (item_of c.args.item.now) _ _ c.words_of_item-words.ensures c.len.ensures.count) (gives_more _ c.from_residual-in_err-give_string-3.ensures.0 (gives_stops _ refl c.from_residual-in_err-give_string-3.ensures.0 (gives_then (gives_then (gives_then c.in_ok-give_text.ensures c.in_ok-give_string.ensures) c.in_ok-give_string-2.ensures) c.in_err-give_string-3.ensures)))

pub returns-in_err-give_string-4 : goal.returns-in_err-give_string-4
returns-in_err-give_string-4 g c = gives_as (entry_is (item_of c.args.item.now) _ _ c.words_of_item-words.ensures c.len.ensures.count) (gives_stops _ refl c.from_residual-in_err-give_string-4.ensures.0 (gives_then (gives_then (gives_then (gives_then c.in_ok-give_text.ensures c.in_ok-give_string.ensures) c.in_ok-give_string-2.ensures) c.in_ok-give_string-3.ensures) c.in_err-give_string-4.ensures))

pub returns : goal.returns
returns g c = gives_as (entry_is (item_of c.args.item.now) _ _ c.words_of_item-words.ensures c.len.ensures.count) (gives_then (gives_then (gives_then (gives_then (gives_then c.in_ok-give_text.ensures c.in_ok-give_string.ensures) c.in_ok-give_string-2.ensures) c.in_ok-give_string-3.ensures) c.in_ok-give_string-4.ensures) c.give.ensures.gives)
