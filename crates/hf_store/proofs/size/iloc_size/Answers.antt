use Rattle.std.proofs.Common.{◌+◌, ◌*◌, ap, arith}
use Rattle.hf_box.specs.Written.{id_width}
use Rattle.hf_store.specs.Counts.{Counts}
use Rattle.hf_store.proofs.Capped.{times_capped, plus_exact}
use Rattle.hf_store.proofs.size.iloc_size.Goals as goal

pub returns : goal.returns
returns c k e =
    let w = id_width c.args.wide in
    let width = c.id_width-width.ensures in
    let entries = times_capped c.saturating_mul-entries.result k.located (6 + w + (8 + 8)) c.args.counts.now.located (22 + c.id_width-width.result) c.saturating_mul-entries.ensures (ap (λ (d : Counts). d.located) e) (omega (arith, width)) in
    let body = plus_exact c.saturating_add.result (k.located * (6 + w + (8 + 8))) (6 + w) c.saturating_mul-entries.result (6 + c.id_width-width.result) c.saturating_add.ensures entries (omega (arith, width)) in
    c.boxed.ensures (6 + w + k.located * (6 + w + (8 + 8))) (omega (arith, body))
