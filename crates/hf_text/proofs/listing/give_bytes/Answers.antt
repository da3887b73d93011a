use Rattle.std.proofs.Common.{ap, refl}
use Rattle.std.specs.List.{flat_map}
use Rattle.hf_desk.proofs.Paging.{gives_as}
use Rattle.hf_text.specs.Texts.{byte_text}
use Rattle.hf_text.proofs.Left.{leaves_less, leaves_stop, leaves_as, cut_rest, first_less, first_stop}
use Rattle.hf_text.proofs.Strings.{filled, run_then}
use Rattle.hf_text.proofs.listing.give_bytes.Goals as goal

pub returns-in_err-give : goal.returns-in_err-give
returns-in_err-give g c =
    leaves_stop _ _ _ (run_then c.loop-rest.rest.now c.plain_count-count.result c.plain_count-count.ensures.plain) refl c.from_residual.ensures.0 c.loop-rest.invariant c.in_err-give.ensures.gives

pub loop-rest-preserved-then-count-gt0 : goal.loop-rest-preserved-then-count-gt0
loop-rest-preserved-then-count-gt0 g c =
    leaves_as (ap (flat_map byte_text) (cut_rest c.plain_count-count.result c.loop-rest.rest.now))
    (leaves_less _ _ _ (run_then c.loop-rest.rest.now c.plain_count-count.result c.plain_count-count.ensures.plain) c.loop-rest.invariant c.in_ok-give.ensures.gives)

pub returns-in_err-give_text : goal.returns-in_err-give_text
returns-in_err-give_text g c =
    first_stop c.loop-rest.rest.now _ (filled c.loop-rest.rest.now c.is_empty.result c.is_empty.ensures c.loop-rest-test.true) refl c.from_residual-in_err-give_text.ensures.0 c.loop-rest.invariant (gives_as c.byte_text.ensures c.in_err-give_text.ensures)

pub loop-rest-preserved : goal.loop-rest-preserved
loop-rest-preserved g c =
    leaves_as (ap (flat_map byte_text) (cut_rest 1 c.loop-rest.rest.now))
    (first_less c.loop-rest.rest.now _ (filled c.loop-rest.rest.now c.is_empty.result c.is_empty.ensures c.loop-rest-test.true) c.loop-rest.invariant (gives_as c.byte_text.ensures c.in_ok-give_text.ensures))
