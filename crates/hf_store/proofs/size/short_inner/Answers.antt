use Rattle.std.proofs.Common.{◌+◌, ◌*◌, ap, arith}
use Rattle.hf_box.specs.Written.{id_width}
use Rattle.hf_store.specs.Counts.{Counts}
use Rattle.hf_store.proofs.Capped.{times_capped, plus_capped}
use Rattle.hf_store.proofs.size.short_inner.Goals as goal

pub returns : goal.returns
returns c n k p e =
    let w = id_width c.args.wide in
    let width = c.id_width-width.ensures in
    let items = times_capped c.saturating_mul.result k.items (18 + w) c.args.counts.now.items (18 + c.id_width-width.result) c.saturating_mul.ensures (ap (λ (d : Counts). d.items) e) (omega (arith, width)) in
    let infes = plus_capped c.saturating_add.result (k.items * (18 + w)) k.strings c.saturating_mul.result c.args.counts.now.strings c.saturating_add.ensures items (ap (λ (d : Counts). d.strings) e) in
    let lists = times_capped c.saturating_mul-lists.result k.links (10 + w) c.args.counts.now.links (10 + c.id_width-width.result) c.saturating_mul-lists.ensures (ap (λ (d : Counts). d.links) e) (omega (arith, width)) in
    let targets = times_capped c.saturating_mul-targets.result k.targets w c.args.counts.now.targets c.id_width-width.result c.saturating_mul-targets.ensures (ap (λ (d : Counts). d.targets) e) width in
    let links = plus_capped c.saturating_add-2.result (k.links * (10 + w)) (k.targets * w) c.saturating_mul-lists.result c.saturating_mul-targets.result c.saturating_add-2.ensures lists targets in
    let some = times_capped c.saturating_mul-groups.result k.groups 20 c.args.counts.now.groups 20 c.saturating_mul-groups.ensures (ap (λ (d : Counts). d.groups) e) (omega arith) in
    let entities = times_capped c.saturating_mul-entities.result k.entities 4 c.args.counts.now.entities 4 c.saturating_mul-entities.ensures (ap (λ (d : Counts). d.entities) e) (omega arith) in
    let both = plus_capped c.saturating_add-3.result (k.groups * 20) (k.entities * 4) c.saturating_mul-groups.result c.saturating_mul-entities.result c.saturating_add-3.ensures some entities in
    let groups = plus_capped c.saturating_add-4.result (k.groups * 20 + k.entities * 4) k.tails c.saturating_add-3.result c.args.counts.now.tails c.saturating_add-4.ensures both (ap (λ (d : Counts). d.tails) e) in
    λ j. record { infes = infes j; links = links j; props = p j; groups = groups j }
