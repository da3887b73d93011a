use Rattle.std.proofs.Common.{◌≡◌, true, false, refl, sym, ap, ◌∙◌}
use Rattle.std.specs.Prelude.{codes}
use Rattle.std.specs.Str.{bytes_eq}
use Rattle.hf_desk.proofs.Paging.{gives_as, gives_then, gives_stops}
use Rattle.hf_text.proofs.Strings.{string-none, string-hyphen, string-other}
use Rattle.hf_text.proofs.listing.give_string.Goals as goal

pub returns-then-is_empty : goal.returns-then-is_empty
returns-then-is_empty g c = gives_as (sym (string-none c.args.bytes.now (sym c.is_empty.ensures ∙ c.if-is_empty.true))) c.give.ensures.gives

pub returns-then-eq : goal.returns-then-eq
returns-then-eq g c =
    let is : bytes_eq c.args.bytes.now (codes "-") ≡ true = ap (bytes_eq c.args.bytes.now) (sym c.as_slice.ensures) ∙ sym c.eq.ensures ∙ c.if-eq.true in
    gives_as (sym (string-hyphen c.args.bytes.now is)) c.give-then-eq.ensures.gives

pub returns-in_err-give : goal.returns-in_err-give
returns-in_err-give g c =
    let some = sym c.is_empty.ensures ∙ c.if-is_empty.false in
    let other : bytes_eq c.args.bytes.now (codes "-") ≡ false = ap (bytes_eq c.args.bytes.now) (sym c.as_slice.ensures) ∙ sym c.eq.ensures ∙ c.if-eq.false in
    gives_as (sym (string-other c.args.bytes.now some other)) (gives_stops _ refl c.from_residual.ensures.0 c.in_err-give.ensures.gives)

pub returns : goal.returns
returns g c =
    let some = sym c.is_empty.ensures ∙ c.if-is_empty.false in
    let other : bytes_eq c.args.bytes.now (codes "-") ≡ false = ap (bytes_eq c.args.bytes.now) (sym c.as_slice.ensures) ∙ sym c.eq.ensures ∙ c.if-eq.false in
    gives_as (sym (string-other c.args.bytes.now some other)) (gives_then c.in_ok-give.ensures.gives c.give_bytes.ensures)
