use Rattle.std.proofs.Common.{◌≡◌, ◌+◌, ◌++◌, ◌∙◌, [], ◌∷◌, map, sym, ap, subst, true, false}
use Rattle.std.specs.List.{AllZip, list_any}
use Rattle.std.proofs.lemmas.Bool.{not-true, not-false}
use Rattle.hf_table.specs.Making.{IsMade}
use Rattle.hf_table.specs.Numbered.{IsFirst}
use Rattle.hf_table.specs.Table.{same_prop, number_of, with_prop}
use Rattle.hf_table.specs.declared.making.Making.{Making}
use Rattle.hf_table.proofs.Makes.{seen-more, numbers-more, firsts-kept, firsts-more}
use Rattle.hf_table.proofs.making.Making.note.Goals as goal
use Rattle.hf_table.proofs.making.Making.note.Goals.{then-is_new+in_ok-push, else-is_new}

pub returns-clause-made : goal.returns-clause-made
returns-clause-made c lists ps m here at =
    let p = c.args.prop in
    let old = c.args.self.now in
    let e = c.in_ok-index.ensures in
    let index = c.in_ok-index.index in
    let seen = e.keys ∙ seen-more lists ps p old.seen.keys m.seen in
    let keys : c.insert_full.new.self.keys ≡ with_prop old.seen.keys p = e.keys in
    let numbers : c.if-is_new.self.numbers.items ≡ old.numbers.items
    → c.push-2.new.self.items ≡ map (λ q. number_of q c.insert_full.new.self.keys) (ps ++ p ∷ []) =
    λ same. c.in_ok-push-2.ensures.items ∙ ap (λ ns. ns ++ (index + 1) ∷ []) (same ∙ m.numbers)
    ∙ ap (λ n. map (λ q. number_of q old.seen.keys) ps ++ (n + 1) ∷ []) e.index
    ∙ numbers-more lists ps p old.seen.keys m.seen ∙ ap (λ ks. map (λ q. number_of q ks) (ps ++ p ∷ [])) (sym keys) in
    elim c.if-is_new.branch [
      | then-is_new+in_ok-push w ↦
          let absent : list_any (same_prop p) old.seen.keys ≡ false = not-true _ (sym e.added ∙ w.if-is_new.true) in
          let firsts : AllZip (IsFirst lists (ps ++ p ∷ [])) w.push.new.self.items c.insert_full.new.self.keys =
          subst (λ fs. AllZip (IsFirst lists (ps ++ p ∷ [])) fs c.insert_full.new.self.keys) (sym w.in_ok-push.ensures.items)
          (subst (λ ks. AllZip (IsFirst lists (ps ++ p ∷ [])) (old.firsts.items ++ (c.args.i, c.args.j) ∷ []) ks) (sym keys)
          (firsts-more lists ps p old.seen.keys m.seen old.firsts.items m.firsts c.args.i c.args.j here at absent)) in
          let P : Making → Type 0 = λ x. IsMade lists (ps ++ p ∷ []) (record { seen = x.seen; firsts = x.firsts; numbers = c.push-2.new.self }) in
          subst P (sym w.self-is) (record { seen = seen; firsts = firsts; numbers = numbers (ap (λ (x : Making). x.numbers.items) w.self-is) })
      | else-is_new w ↦
          let there : list_any (same_prop p) old.seen.keys ≡ true = not-false _ (sym e.added ∙ w.if-is_new.false) in
          let firsts : AllZip (IsFirst lists (ps ++ p ∷ [])) old.firsts.items c.insert_full.new.self.keys =
          subst (λ ks. AllZip (IsFirst lists (ps ++ p ∷ [])) old.firsts.items ks) (sym keys)
          (firsts-kept lists ps p old.seen.keys m.seen old.firsts.items m.firsts there) in
          let P : Making → Type 0 = λ x. IsMade lists (ps ++ p ∷ []) (record { seen = x.seen; firsts = x.firsts; numbers = c.push-2.new.self }) in
          subst P (sym w.self-is) (record { seen = seen; firsts = firsts; numbers = numbers (ap (λ (x : Making). x.numbers.items) w.self-is) })
    ]
