use Rattle.std.proofs.Common.{◌≡◌, arith, true, false, sym, ap, ◌∙◌, ◌-◌, length, take, drop}
use Rattle.std.proofs.lemmas.List.{take_all, length-drop}
use Rattle.hf_read.specs.TopLevel.{has_brand}
use Rattle.std.specs.Str.{bytes_eq}
use Rattle.hf_base.specs.declared.four.FourCc.{FourCc}
use Rattle.hf_read.proofs.LoopLemmas.{brand_here, brand_on, brand_none}
use Rattle.hf_read.proofs.top_level.has_compatible.Goals as goal

pub returns-then-eq : goal.returns-then-eq
returns-then-eq c =
    let k = c.args.brand.0 in
    let rest = c.loop-rest.rest.now in
    let same : bytes_eq (take 4 rest) k ≡ true = ap (λ (f : FourCc). bytes_eq f.0 k) (sym c.four_at.ensures) ∙ sym c.eq.ensures ∙ c.if-eq.true in
    brand_here k rest _ c.loop-rest-test.true c.loop-rest.invariant same

pub loop-rest-preserved : goal.loop-rest-preserved
loop-rest-preserved c =
    let k = c.args.brand.0 in
    let rest = c.loop-rest.rest.now in
    let other : bytes_eq (take 4 rest) k ≡ false = ap (λ (f : FourCc). bytes_eq f.0 k) (sym c.four_at.ensures) ∙ sym c.eq.ensures ∙ c.if-eq.false in
    let whole : take (length rest - 4) (drop 4 rest) ≡ drop 4 rest = take_all (length rest - 4) (drop 4 rest) (omega (arith, length-drop 4 rest)) in
    ap (has_brand k) whole ∙ brand_on k rest _ c.loop-rest-test.true c.loop-rest.invariant other

pub returns : goal.returns
returns c = sym (brand_none c.args.brand.0 c.loop-rest.rest.now c.loop-rest-test.false) ∙ c.loop-rest.invariant
