use Rattle.std.proofs.Common.{◌≡◌, ℕ, ◌+◌, ◌*◌, length, drop, get_or, refl, sym, ap, ◌∙◌, arith}
use Rattle.std.proofs.lemmas.Bool.{leb-true}
use Rattle.hf_base.specs.Number.{number}
use Rattle.hf_derived.proofs.Overlays.{front_fails, version_fails, room_fails, sides_room, overlay_is}
use Rattle.hf_derived.proofs.overlay.overlay_in.Goals as goal

pub returns-then-front-lt2 : goal.returns-then-front-lt2
returns-then-front-lt2 c = λ bytes size e. front_fails c.args.inputs c.args.front.now bytes e c.if-front-lt2.true

pub returns-then-version-ne0 : goal.returns-then-version-ne0
returns-then-version-ne0 c = λ bytes size e. version_fails c.args.inputs c.args.front.now bytes e (omega (arith, c.if-front-lt2.false)) c.if-version-ne0.true

pub side_at-requires : goal.side_at-requires
side_at-requires c =
    let s = c.side_of-side.result in
    let long = leb-true _ c.args.len (sym c.has_room.ensures ∙ c.if-has_room.true) in
    let room = sides_room s (c.args.inputs * (2 * s)) c.args.len (length c.args.front.now) c.side_of-side.ensures.few long c.requires.size in
    let value = c.side_of-side.ensures.value in
    omega (arith, room, value)

pub side_at-requires-then-has_room : goal.side_at-requires-then-has_room
side_at-requires-then-has_room c =
    let s = c.side_of-side.result in
    let long = leb-true _ c.args.len (sym c.has_room.ensures ∙ c.if-has_room.true) in
    let room = sides_room s (c.args.inputs * (2 * s)) c.args.len (length c.args.front.now) c.side_of-side.ensures.few long c.requires.size in
    let value = c.side_of-side.ensures.value in
    omega (arith, room, value)

pub returns-then-has_room : goal.returns-then-has_room
returns-then-has_room c =
    let s = c.side_of-side.result in
    let value = c.side_of-side.ensures.value in
    let test = sym c.has_room.ensures ∙ c.if-has_room.true in
    let long = leb-true _ c.args.len test in
    let room = sides_room s (c.args.inputs * (2 * s)) c.args.len (length c.args.front.now) c.side_of-side.ensures.few long c.requires.size in
    let zero : get_or c.args.front.now 0 0 ≡ 0 = let z = c.if-version-ne0.false in omega (arith, z) in
    λ bytes size e. overlay_is c.args.inputs c.args.len s c.args.front.now bytes _ c.side_at.result c.side_at-then-has_room.result e size (omega (arith, c.if-front-lt2.false)) zero value test room c.side_of-side.ensures.few refl
    (c.side_at.ensures ∙ ap (λ (n : ℕ). number n (drop 10 c.args.front.now)) (sym value))
    (c.side_at-then-has_room.ensures ∙ ap (λ (n : ℕ). number n (drop (10 + s) c.args.front.now)) (sym value))

pub returns : goal.returns
returns c = λ bytes size e. room_fails c.args.inputs c.args.len c.side_of-side.result c.args.front.now bytes e size (omega (arith, c.if-front-lt2.false)) c.side_of-side.ensures.value (sym c.has_room.ensures ∙ c.if-has_room.false)
