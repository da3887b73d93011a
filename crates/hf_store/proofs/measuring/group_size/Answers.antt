use Rattle.std.proofs.Common.{◌≡◌, length, sym, ap, ◌∙◌, arith}
use Rattle.hf_links.specs.Grpl.{group_of, group_body}
use Rattle.hf_store.specs.Capped.{capped}
use Rattle.hf_store.proofs.BoxLengths.{length-box}
use Rattle.hf_store.proofs.ShortBoxes.{group_body-size}
use Rattle.hf_store.proofs.measuring.group_size.Goals as goal

pub returns : goal.returns
returns c kind =
    let g = group_of c.args.group.now in
    let size : c.saturating_add-2.result ≡ capped (length (group_body g)) = omega (arith, c.saturating_add-2.ensures, c.saturating_add.ensures, c.saturating_mul-entities.ensures, c.len.ensures, group_body-size g) in
    c.boxed.ensures (length (group_body g)) size ∙ ap capped (sym (length-box g.kind (group_body g) kind))
