use Rattle.std.proofs.Common.{arith, ◌≡◌, ◌-◌, ◌^◌, ◌<◌, ◌≤◌, min, sum, map, length}
use Rattle.hf_base.specs.declared.fault.ReadRefusal.TheVariants.{TooManyBytes}
use Rattle.hf_base.specs.declared.limits.TheConstants.{BODY}
use Rattle.hf_base.specs.Counts.{size_of, inner_size}
use Rattle.hf_base.specs.LocationFaults.{too_many_bytes_fault}
use Rattle.hf_extent.proofs.TotalLaws.{limited_over, limited_within, counted, whole_sum}
use Rattle.hf_extent.proofs.sizes.too_many_bytes.Goals as goal

pub returns-then-sum-from : goal.returns-then-sum-from
unfolding too_many_bytes_fault
returns-then-sum-from c = λ F idat items are.
    let total : c.loop-size.sum ≡ min (sum (map (size_of (length F) (inner_size idat) items) items)) (2 ^ 128 - 1) =
    counted (size_of (length F) (inner_size idat) items) (2 ^ 128 - 1) items c.args.sizes.now c.loop-size.sum are (whole_sum c.args.sizes.now c.loop-size.size-index (2 ^ 128 - 1) c.loop-size.sum c.loop-size.invariant c.loop-size-test.false)
    in
    let told : c.short.result ≡ min (sum (map (size_of (length F) (inner_size idat) items) items)) (2 ^ 64 - 1) = omega (arith, total, c.short.ensures) in
    let over : BODY < c.short.result = omega (arith, c.short.ensures, c.from.ensures, c.if-sum-from.true) in
    limited_over BODY (sum (map (size_of (length F) (inner_size idat) items) items)) c.short.result (λ total. TooManyBytes total) told over

pub returns : goal.returns
unfolding too_many_bytes_fault
returns c = λ F idat items are.
    let total : c.loop-size.sum ≡ min (sum (map (size_of (length F) (inner_size idat) items) items)) (2 ^ 128 - 1) =
    counted (size_of (length F) (inner_size idat) items) (2 ^ 128 - 1) items c.args.sizes.now c.loop-size.sum are (whole_sum c.args.sizes.now c.loop-size.size-index (2 ^ 128 - 1) c.loop-size.sum c.loop-size.invariant c.loop-size-test.false)
    in
    let few : c.loop-size.sum ≤ BODY = omega (arith, c.from.ensures, c.if-sum-from.false) in
    let told : c.loop-size.sum ≡ min (sum (map (size_of (length F) (inner_size idat) items) items)) (2 ^ 64 - 1) = omega (arith, total, few) in
    limited_within BODY (sum (map (size_of (length F) (inner_size idat) items) items)) c.loop-size.sum (λ total. TooManyBytes total) told few (omega arith)
