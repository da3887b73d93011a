use Rattle.std.proofs.Common.{refl}
use Rattle.hf_desk.proofs.Paging.{gives_as, gives_then, gives_stops}
use Rattle.hf_write.proofs.Files.{meta_whole}
use Rattle.hf_write.proofs.file.give_meta.Goals as goal

pub returns-in_err-give_meta_begin : goal.returns-in_err-give_meta_begin
returns-in_err-give_meta_begin g c = gives_as (meta_whole c.args.store.now c.args.plan.now c.requires.plan) (gives_stops _ refl c.from_residual.ensures.0 c.in_err-give_meta_begin.ensures)

pub returns-in_err-give_meta_lists : goal.returns-in_err-give_meta_lists
returns-in_err-give_meta_lists g c = gives_as (meta_whole c.args.store.now c.args.plan.now c.requires.plan) (gives_then c.in_ok-give_meta_begin.ensures (gives_stops _ refl c.from_residual-in_err-give_meta_lists.ensures.0 c.in_err-give_meta_lists.ensures))

pub returns : goal.returns
returns g c = gives_as (meta_whole c.args.store.now c.args.plan.now c.requires.plan) (gives_then c.in_ok-give_meta_begin.ensures (gives_then c.in_ok-give_meta_lists.ensures c.give_meta_places.ensures))
