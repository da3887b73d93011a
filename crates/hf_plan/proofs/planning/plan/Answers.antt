use Rattle.std.proofs.Common.{◌^◌, ltb, false, refl, arith, ap, ◌∙◌}
use Rattle.std.specs.Prelude.{nat_le}
use Rattle.hf_store.specs.declared.tally.Counts.{Counts}
use Rattle.hf_store.proofs.CountsAre.{counts_are}
use Rattle.hf_loc.specs.Iloc.{offset_width}
use Rattle.hf_plan.proofs.CountedPlans.{total-told, room-counted}
use Rattle.hf_plan.proofs.Numbers.{kinds-few, firsts_are, numbers_are}
use Rattle.hf_plan.proofs.planning.plan.Goals as goal

pub starts_in-requires : goal.starts_in-requires
starts_in-requires c =
    let s = c.args.store.now in
    let valid = c.counts-wide.ensures.valid in
    let long = nat_le (2 ^ 32) c.file_size.result in
    let total = total-told long s _ _ valid c.sizes_with-sizes.ensures.value c.file_size-total.ensures in
    omega (arith, total, room-counted (offset_width long) s valid)

pub make_table-requires : goal.make_table-requires
make_table-requires c κs = ((refl, tt), kinds-few c.args.store.now c.counts-wide.ensures.valid)

pub returns : goal.returns
returns c =
    let s = c.args.store.now in
    let valid = c.counts-wide.ensures.valid in
    record {
      wide = ap (λ (k : Counts). ltb 0 k.wide) c.counts-wide.ensures.value ∙ (counts_are s).wide;
      long = ap (nat_le (2 ^ 32)) (total-told false s _ _ valid c.sizes_with.ensures.value c.file_size.ensures);
      total = total-told _ s _ _ valid c.sizes_with-sizes.ensures.value c.file_size-total.ensures;
      starts = c.in_ok-starts.ensures;
      sizes = c.sizes_with-sizes.ensures.value;
      firsts = firsts_are s c.in_ok-table.table c.in_ok-table.ensures;
      numbers = numbers_are s c.in_ok-table.table c.in_ok-table.ensures;
    }
