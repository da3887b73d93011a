use Rattle.std.proofs.Common.{refl}
use Rattle.hf_desk.proofs.Paging.{gives_as, gives_then, gives_stops}
use Rattle.hf_write.proofs.Files.{prop_whole}
use Rattle.hf_write.proofs.ipco.give_prop.Goals as goal

pub returns-in_err-give_head : goal.returns-in_err-give_head
returns-in_err-give_head g c = gives_as (prop_whole c.args.prop.now.kind _ _ c.as_slice-body.ensures) (gives_stops _ refl c.from_residual.ensures.0 c.in_err-give_head.ensures)

pub returns : goal.returns
returns g c = gives_as (prop_whole c.args.prop.now.kind _ _ c.as_slice-body.ensures) (gives_then c.in_ok-give_head.ensures c.give.ensures.gives)
