use Rattle.std.proofs.Common.{◌≡◌, length, refl, sym, ap, ◌∙◌, arith}
use Rattle.hf_box.specs.Literals.{four}
use Rattle.hf_info.specs.Infe.{infe_body}
use Rattle.hf_store.specs.Capped.{capped}
use Rattle.hf_store.specs.Layout.{info_of}
use Rattle.hf_store.specs.Seen.{item_of}
use Rattle.hf_store.proofs.BoxLengths.{length-box}
use Rattle.hf_store.proofs.ShortBoxes.{infe_body-size}
use Rattle.hf_store.proofs.measuring.infe_size.Goals as goal

pub returns : goal.returns
returns c kind =
    let i = item_of c.args.item.now in
    let body = infe_body c.args.wide (info_of i) in
    let size : c.saturating_add.result ≡ capped (length body) = omega (arith, c.saturating_add.ensures, c.strings_len.ensures, c.id_width.ensures, infe_body-size c.args.wide i kind) in
    c.boxed.ensures (length body) size ∙ ap capped (sym (length-box (four "infe") body refl))
