use Rattle.std.proofs.Common.{refl}
use Rattle.hf_desk.proofs.Paging.{gives_as, gives_then, gives_stops}
use Rattle.hf_write.proofs.Files.{file_by}
use Rattle.hf_write.proofs.file.give_file.Goals as goal

pub returns-in_err-give_ftyp : goal.returns-in_err-give_ftyp
returns-in_err-give_ftyp g c = λ file canon. gives_as (file_by c.args.store.now c.args.plan.now _ file c.brands.ensures.value c.valid.ensures c.requires.plan canon) (gives_stops _ refl c.from_residual.ensures.0 c.in_err-give_ftyp.ensures)

pub returns-in_err-give_meta : goal.returns-in_err-give_meta
returns-in_err-give_meta g c = λ file canon. gives_as (file_by c.args.store.now c.args.plan.now _ file c.brands.ensures.value c.valid.ensures c.requires.plan canon) (gives_then c.in_ok-give_ftyp.ensures (gives_stops _ refl c.from_residual-in_err-give_meta.ensures.0 c.in_err-give_meta.ensures))

pub returns : goal.returns
returns g c = λ file canon. gives_as (file_by c.args.store.now c.args.plan.now _ file c.brands.ensures.value c.valid.ensures c.requires.plan canon) (gives_then c.in_ok-give_ftyp.ensures (gives_then c.in_ok-give_meta.ensures c.give_mdat.ensures))
