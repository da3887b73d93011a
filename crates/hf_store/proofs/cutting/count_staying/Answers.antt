use Rattle.std.proofs.Common.{◌≡◌, ℕ, ◌+◌, ◌<◌, Bool, true, false, cond, List, ◌∷◌, ◌++◌, [], length, take, filter, get_or, refl, sym, ap, ◌∙◌, arith, length-append}
use Rattle.std.proofs.lemmas.List.{take_more, take_all}
use Rattle.std.proofs.lemmas.List.Elements.{filter-append}
use Rattle.hf_store.specs.Stays.{stays_of}
use Rattle.hf_store.proofs.cutting.count_staying.Goals as goal
use Rattle.hf_store.proofs.cutting.count_staying.Goals.{then-is_there, else-is_there}

one : (b : Bool) (x : ℕ) → length (cond b (x ∷ []) []) ≡ cond b 1 0
one true x = refl
one false x = refl

counted : (p : ℕ → Bool) (xs : List ℕ) (k : ℕ) (b : Bool) → k < length xs → b ≡ p (get_or xs k 0) → length (filter p (take (k + 1) xs)) ≡ length (filter p (take k xs)) + cond b 1 0
counted p xs k b within is =
    let x = get_or xs k 0 in
    let split : filter p (take (k + 1) xs) ≡ filter p (take k xs) ++ cond (p x) (x ∷ []) [] = ap (filter p) (take_more xs k 0 within) ∙ filter-append p (take k xs) (x ∷ []) in
    ap length split ∙ length-append (filter p (take k xs)) (cond (p x) (x ∷ []) []) ∙ ap (λ n. length (filter p (take k xs)) + n) (one (p x) x ∙ ap (λ c. cond c 1 0) (sym is))

pub loop-id-preserved : goal.loop-id-preserved
loop-id-preserved c =
    let p = stays_of c.args.stays.now in
    let inv = c.loop-id.invariant in
    let next : (b : Bool) → b ≡ p (get_or c.args.ids.now c.loop-id.id-index 0) → length (filter p (take (c.loop-id.id-index + 1) c.args.ids.now)) ≡ length (filter p (take c.loop-id.id-index c.args.ids.now)) + cond b 1 0 = λ b e. counted p c.args.ids.now c.loop-id.id-index b c.loop-id-test.true e in
    elim c.if-is_there.branch [
      | then-is_there w ↦ record { few = omega arith; counted = λ able. let e = next true (sym w.if-is_there.true ∙ c.has-is_there.ensures able) in let so_far = inv.counted able in omega arith }
      | else-is_there w ↦ record { few = omega arith; counted = λ able. let e = next false (sym w.if-is_there.false ∙ c.has-is_there.ensures able) in let so_far = inv.counted able in omega arith }
    ]

pub returns : goal.returns
returns c able = c.loop-id.invariant.counted able ∙ ap (λ ids. length (filter (stays_of c.args.stays.now) ids)) (take_all c.loop-id.id-index c.args.ids.now c.loop-id-test.false)
