use Rattle.std.proofs.Common.{◌≡◌, refl, sym}
use Rattle.hf_box.specs.Written.{id_width}
use Rattle.hf_loc.specs.Iloc.{offset_width}
use Rattle.hf_loc.proofs.WrittenLemmas.{length-entry}
use Rattle.hf_loc.proofs.entry.entry_size.Goals.{then-wide, else-wide, then-long, else-long}
use Rattle.hf_loc.proofs.entry.entry_size.Goals as goal

pub returns : goal.returns
returns c = λ id method offset len.
    let wide : c.if-wide.id ≡ id_width c.args.wide = elim c.if-wide.branch [ then-wide w ↦ rw (w.id-is, w.if-wide.true) refl | else-wide w ↦ rw (w.id-is, w.if-wide.false) refl ] in
    let long : c.if-long.number ≡ offset_width c.args.long = elim c.if-long.branch [ then-long w ↦ rw (w.number-is, w.if-long.true) refl | else-long w ↦ rw (w.number-is, w.if-long.false) refl ] in
    rw (wide, long) (sym (length-entry c.args.wide (offset_width c.args.long) id method offset len))
