use Rattle.std.proofs.Common.{◌≡◌, ◌+◌, ◌*◌, ap, arith, ltb}
use Rattle.std.proofs.lemmas.Bool.{lt-ltb, le-ltb}
use Rattle.hf_box.specs.Head.{box_len}
use Rattle.hf_box.specs.Written.{bit, id_width}
use Rattle.hf_store.specs.Counts.{Counts}
use Rattle.hf_store.specs.Sizes.{ipma_size}
use Rattle.hf_store.proofs.Capped.{times_capped, plus_capped, plus_exact}
use Rattle.hf_store.proofs.size.iprp_size.Goals as goal
use Rattle.hf_store.proofs.size.iprp_size.Goals.{then-kinds-gt127, else-kinds-gt127}

pub returns : goal.returns
returns c k b e p =
    let w = id_width c.args.wide in
    let two = bit (ltb 127 c.args.kinds) in
    let pick : c.if-kinds-gt127.pick ≡ 1 + two = elim c.if-kinds-gt127.branch [
      | then-kinds-gt127 x ↦ omega (arith, x.pick-is, ap bit (lt-ltb 127 c.args.kinds x.if-kinds-gt127.true))
      | else-kinds-gt127 x ↦ omega (arith, x.pick-is, ap bit (le-ltb 127 c.args.kinds x.if-kinds-gt127.false))
    ] in
    let entries = times_capped c.saturating_mul-entries.result k.holders (1 + w) c.args.counts.now.holders (1 + c.id_width.result) c.saturating_mul-entries.ensures (ap (λ (d : Counts). d.holders) e) (omega (arith, c.id_width.ensures)) in
    let picks = times_capped c.saturating_mul-picks.result k.picks (1 + two) c.args.counts.now.picks c.if-kinds-gt127.pick c.saturating_mul-picks.ensures (ap (λ (d : Counts). d.picks) e) pick in
    let both = plus_capped c.saturating_add.result (k.holders * (1 + w)) (k.picks * (1 + two)) c.saturating_mul-entries.result c.saturating_mul-picks.result c.saturating_add.ensures entries picks in
    let body = plus_exact c.saturating_add-2.result (k.holders * (1 + w) + k.picks * (1 + two)) 8 c.saturating_add.result 8 c.saturating_add-2.ensures both (omega arith) in
    let ipma = c.boxed-ipma.ensures (8 + k.holders * (1 + w) + k.picks * (1 + two)) (omega (arith, body)) in
    let ipco = c.boxed.ensures b.props p in
    c.boxed-2.ensures (box_len b.props + ipma_size c.args.wide c.args.kinds k) (plus_capped c.saturating_add-3.result (box_len b.props) (ipma_size c.args.wide c.args.kinds k) c.boxed.result c.boxed-ipma.result c.saturating_add-3.ensures ipco ipma)
