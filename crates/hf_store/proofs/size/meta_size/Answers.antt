use Rattle.std.proofs.Common.{◌+◌, ap, arith}
use Rattle.hf_box.specs.Written.{id_width}
use Rattle.hf_store.specs.Counts.{Counts}
use Rattle.hf_store.specs.Sizes.{Inner, iinf_size, iref_size, iprp_size, grpl_size, idat_size, iloc_size}
use Rattle.hf_store.proofs.Capped.{plus_capped, plus_exact}
use Rattle.hf_store.proofs.size.meta_size.Goals as goal

pub returns : goal.returns
returns c k b e f =
    let w = id_width c.args.wide in
    let wide = c.args.wide in
    let n = c.args.kinds in
    let width = c.id_width-width.ensures in
    let infes = plus_exact c.saturating_add.result b.infes (4 + w) c.args.inner.now.infes (4 + c.id_width-width.result) c.saturating_add.ensures (ap (λ (d : Inner). d.infes) f) (omega (arith, width)) in
    let iinf = c.boxed-iinf.ensures (4 + w + b.infes) (omega (arith, infes)) in
    let links = plus_exact c.saturating_add-2.result b.links 4 c.args.inner.now.links 4 c.saturating_add-2.ensures (ap (λ (d : Inner). d.links) f) (omega arith) in
    let iref = c.boxed_if_any-iref.ensures k.links (4 + b.links) (ap (λ (d : Counts). d.links) e) (omega (arith, links)) in
    let iprp = c.iprp_size-iprp.ensures k b e (ap (λ (d : Inner). d.props) f) in
    let grpl = c.boxed_if_any-grpl.ensures k.groups b.groups (ap (λ (d : Counts). d.groups) e) (ap (λ (d : Inner). d.groups) f) in
    let idat = c.boxed_if_any-idat.ensures k.idat k.idat (ap (λ (d : Counts). d.idat) e) (ap (λ (d : Counts). d.idat) e) in
    let iloc = c.iloc_size.ensures k e in
    let one = plus_capped c.saturating_add-3.result (iinf_size wide b) (iref_size k b) c.boxed-iinf.result c.boxed_if_any-iref.result c.saturating_add-3.ensures iinf iref in
    let two = plus_capped c.saturating_add-4.result (iinf_size wide b + iref_size k b) (iprp_size wide n k b) c.saturating_add-3.result c.iprp_size-iprp.result c.saturating_add-4.ensures one iprp in
    let three = plus_capped c.saturating_add-5.result (iinf_size wide b + iref_size k b + iprp_size wide n k b) (grpl_size k b) c.saturating_add-4.result c.boxed_if_any-grpl.result c.saturating_add-5.ensures two grpl in
    let four = plus_capped c.saturating_add-6.result (iinf_size wide b + iref_size k b + iprp_size wide n k b + grpl_size k b) (idat_size k) c.saturating_add-5.result c.boxed_if_any-idat.result c.saturating_add-6.ensures three idat in
    let front = plus_exact c.saturating_add-front.result (iinf_size wide b + iref_size k b + iprp_size wide n k b + grpl_size k b + idat_size k) (49 + w) c.saturating_add-6.result (49 + c.id_width-width.result) c.saturating_add-front.ensures four (omega (arith, width)) in
    let all = plus_capped c.saturating_add-7.result (iinf_size wide b + iref_size k b + iprp_size wide n k b + grpl_size k b + idat_size k + (49 + w)) (iloc_size wide 8 k) c.saturating_add-front.result c.iloc_size.result c.saturating_add-7.ensures front iloc in
    c.boxed.ensures (4 + 33 + (12 + w) + iinf_size wide b + iref_size k b + iprp_size wide n k b + grpl_size k b + idat_size k + iloc_size wide 8 k) (omega (arith, all))
