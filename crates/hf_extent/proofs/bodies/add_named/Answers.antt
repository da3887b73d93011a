use Rattle.std.proofs.Common.{arith, subst, sym, ◌≡◌, ◌+◌, ◌≤◌, ◌^◌, ◌++◌, ℕ, List, Option, Some, length, map}
use Rattle.std.specs.Prelude.{IsSome, OnOk, IfSome}
use Rattle.std.specs.Option.{ForSome}
use Rattle.hf_base.specs.BytesOf.{piece_of}
use Rattle.hf_pieces.specs.Bytes.{joined}
use Rattle.hf_extent.specs.Known.{named_bytes}
use Rattle.hf_extent.specs.Seen.{item_seen}
use Rattle.hf_extent.proofs.BodyLaws.{body_at}
use Rattle.hf_extent.proofs.bodies.add_named.Goals as goal
use Rattle.hf_extent.proofs.bodies.add_named.Goals.{After-index-bodies-at, After-add_cut}

named : (c : After-index-bodies-at) → named_bytes c.args.ids.now (map joined c.args.bodies.now) (item_seen c.args.item.now) c.args.extent.now ≡ Some (joined c.index-bodies-at.result)
named c = body_at c.args.ids.now c.args.bodies.now (item_seen c.args.item.now) c.args.extent.now c.in-Some.at _ (sym c.in-Some.ensures.value) (omega (arith, c.in-Some.ensures.within, c.requires.known)) c.index-bodies-at.is

after_cut : (c : After-add_cut) → named_bytes c.args.ids.now (map joined c.args.bodies.now) (item_seen c.args.item.now) c.args.extent.now ≡ Some (joined c.index-bodies-at.result)
after_cut c = body_at c.args.ids.now c.args.bodies.now (item_seen c.args.item.now) c.args.extent.now c.in-Some.at _ (sym c.in-Some.ensures.value) (omega (arith, c.in-Some.ensures.within, c.requires.known)) c.index-bodies-at.is

pub add_cut-requires-clause-there : goal.add_cut-requires-clause-there
add_cut-requires-clause-there c = subst (λ (o : Option (List ℕ)). IsSome (piece_of c.args.item.now.base c.args.extent.now o)) (named c) c.requires.there

pub add_cut-requires-clause-room : goal.add_cut-requires-clause-room
add_cut-requires-clause-room c = subst (λ (o : Option (List ℕ)). ForSome (piece_of c.args.item.now.base c.args.extent.now o) (λ p. length (joined c.args.pieces.now) + length p ≤ 2 ^ 62)) (named c) c.requires.room

pub returns-in-Some : goal.returns-in-Some
returns-in-Some c = subst (λ (o : Option (List ℕ)). IfSome (piece_of c.args.item.now.base c.args.extent.now o) (λ p. OnOk c.add_cut.result (joined c.add_cut.new.pieces ≡ joined c.args.pieces.now ++ p))) (sym (after_cut c)) c.add_cut.ensures
