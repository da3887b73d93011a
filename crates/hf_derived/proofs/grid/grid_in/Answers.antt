use Rattle.std.proofs.Common.{◌≡◌, ℕ, ◌+◌, drop, get_or, sym, ap, ◌∙◌, refl, arith}
use Rattle.hf_base.specs.Number.{number}
use Rattle.hf_derived.specs.Derived.{side}
use Rattle.hf_derived.proofs.Grids.{grid_short, version_fails, sides_fail, grid_is}
use Rattle.hf_derived.proofs.grid.grid_in.Goals as goal

pub returns-then-bytes-lt4 : goal.returns-then-bytes-lt4
returns-then-bytes-lt4 c = sym (grid_short c.args.bytes.now c.if-bytes-lt4.true)

pub returns-then-version-ne0 : goal.returns-then-version-ne0
returns-then-version-ne0 c = version_fails c.args.bytes.now (omega (arith, c.if-bytes-lt4.false)) c.if-version-ne0.true

pub returns-then-bytes-side : goal.returns-then-bytes-side
returns-then-bytes-side c =
    let s = c.side_of-side.ensures.value in
    let short = c.if-bytes-side.true in
    sides_fail c.args.bytes.now (omega (arith, c.if-bytes-lt4.false)) (omega (arith, s, short))

pub returns : goal.returns
returns c =
    let bytes = c.args.bytes.now in
    let s = c.side_of-side.ensures.value in
    let zero : get_or bytes 0 0 ≡ 0 = let z = c.if-version-ne0.false in omega (arith, z) in
    let room = c.if-bytes-side.false in
    grid_is bytes (get_or bytes 2 0 + 1) (get_or bytes 3 0 + 1) c.side_at.result c.side_at-2.result (omega (arith, c.if-bytes-lt4.false)) zero (omega (arith, s, room))
    refl refl c.side_at.ensures
    (c.side_at-2.ensures ∙ ap (λ (n : ℕ). number (side (get_or bytes 1 0)) (drop (4 + n) bytes)) s)
