use Rattle.hf_info.specs.Infe.{Info, info_of, infos_of}
use Rattle.hf_read.proofs.Gathered.{all_taken, part_at}
use Rattle.hf_info.specs.declared.infe.Info.{Info as View}
use Rattle.hf_info.specs.Iinf.{info_ids}
use Rattle.std.proofs.Common.{List, arith}
use Rattle.hf_read.proofs.tables.ids_of.Goals as goal

pub loop-info-preserved : goal.loop-info-preserved
loop-info-preserved c =
    let l = c.loop-info in
    let more = part_at info_of (λ (i : Info). i.id) c.args.infos.now l.info-index _ l.ids.items c.push.new.self.items in
    more c.loop-info-test.true l.invariant c.in_ok-push.ensures.items

pub returns : goal.returns
returns c =
    all_taken (λ (infos : List View). info_ids (infos_of infos)) c.args.infos.now c.loop-info.info-index c.loop-info.ids.items
    (omega (arith, c.loop-info-test.false, c.loop-info.auto.info-index-end)) c.loop-info.invariant
