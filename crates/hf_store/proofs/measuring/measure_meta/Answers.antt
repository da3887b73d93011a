use Rattle.std.proofs.Common.{◌≡◌, ◌≤◌, length, ltb, refl, sym, ap, subst, ◌∙◌}
use Rattle.std.specs.List.{flat_map}
use Rattle.hf_base.specs.declared.limits.TheConstants as limits
use Rattle.hf_store.specs.Capped.{capped}
use Rattle.hf_store.specs.Counts.{Counts, counts_of}
use Rattle.hf_store.specs.Seen.{items_of}
use Rattle.hf_store.specs.Sizes.{Inner, infes_size, props_size, groups_size, AllRefs, IsShortList, inner_of}
use Rattle.hf_store.specs.Table.{props_of, table_of}
use Rattle.hf_table.specs.Table.{table}
use Rattle.hf_store.proofs.Measured.{wide-capped, inner-measured, meta-measured}
use Rattle.hf_store.proofs.Uses.{all-mapped}
use Rattle.hf_store.proofs.measuring.measure_meta.Goals as goal

pub make_table-requires : goal.make_table-requires
make_table-requires c κs = ((refl, tt), subst (λ ps. length (table ps) ≤ limits.KINDS) (sym (all-mapped (items_of c.args.items.now))) c.requires.kinds)

pub returns : goal.returns
unfolding table_of
returns c s items groups counts =
    let is = items_of c.args.items.now in
    let wide = ltb 0 c.args.counts.now.wide in
    let is_wide = wide-capped s c.args.counts.now.wide (ap (λ (k : Counts). k.wide) counts) in
    let props : c.props_size.result ≡ capped (props_size (table_of s)) = c.props_size.ensures ∙ ap (λ js. capped (props_size (table (flat_map props_of js)))) (sym items) in
    let short = c.short_inner.ensures (props_size (table_of s)) (counts_of s) props counts in
    let inner : Inner = record c.short_inner.result { infes = c.infes_size.result; groups = c.groups_size.result } in
    let measured = inner-measured s wide inner is_wide (subst (AllRefs IsShortList) (sym items) c.requires.lists)
    (c.infes_size.ensures ∙ ap (λ js. capped (infes_size wide js)) (sym items)) (ap (λ (b : Inner). b.links) short) (ap (λ (b : Inner). b.props) short)
    (c.groups_size.ensures ∙ ap (λ gs. capped (groups_size gs)) (sym groups))
    in
    let kinds : c.kinds.result ≡ length (table_of s) = c.kinds.ensures.table _ c.in_ok-table.ensures ∙ ap (λ ps. length (table ps)) (all-mapped is ∙ ap (flat_map props_of) (sym items)) in
    meta-measured s wide c.kinds.result c.meta_size.result is_wide kinds (c.meta_size.ensures (counts_of s) (inner_of s) counts measured)
