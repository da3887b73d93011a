-- What a change of some items does to the numbers of holders of all their properties. The items are of any type, and
-- props_of gives the properties of one.
use Rattle.std.proofs.Common.{◌≡◌, ℕ, zero, suc, ◌+◌, ◌<◌, ◌≤◌, Bool, true, false, not, cond, filter}
use Rattle.std.proofs.Common.{List, [], ◌∷◌, ◌++◌, length, get_or, set, remove, refl, sym, ap, ◌∙◌, arith}
use Rattle.std.specs.Prelude.{sum_by}
use Rattle.std.specs.List.{flat_map}
use Rattle.std.proofs.lemmas.List.{append-nil}
use Rattle.std.proofs.lemmas.List.Sums.{sum_by-cons, sum_by-remove}
use Rattle.std.proofs.lemmas.Grind.{flat_map-append}
use Rattle.hf_base.specs.declared.four.FourCc.{FourCc}
use Rattle.hf_prop.specs.declared.held.Held.{Held}
use Rattle.hf_prop.specs.declared.prop.Prop.{Prop}
use Rattle.hf_table.specs.Held.{props_in, is_of, of_kind, without_kind, is_among, listed, others, props_of_others}
use Rattle.hf_table.specs.Table.{same_prop, places_of}
use Rattle.hf_table.specs.Uses.{Use, Gains, Trades, Tallies, Holds}
use Rattle.hf_table.proofs.Tally.{places-append}

-- ---- properties of one type go
kind-step : (b : Bool) (q : Prop) (h : Held) (hs : List Held) (kind : FourCc)
    → places_of q (props_in hs) ≡ places_of q (of_kind kind hs) + places_of q (props_in (without_kind kind hs))
    → places_of q (h.prop ∷ props_in hs) ≡ places_of q (props_in (cond b (h ∷ filter (is_of kind) hs) (filter (is_of kind) hs))) + places_of q
    (props_in (cond (not b) (h ∷ without_kind kind hs) (without_kind kind hs)))
kind-step true q h hs kind e =
    let a = sum_by-cons (λ p. cond (same_prop q p) 1 0) h.prop (props_in hs) in
    let b = sum_by-cons (λ p. cond (same_prop q p) 1 0) h.prop (of_kind kind hs) in omega arith
kind-step false q h hs kind e =
    let a = sum_by-cons (λ p. cond (same_prop q p) 1 0) h.prop (props_in hs) in
    let b = sum_by-cons (λ p. cond (same_prop q p) 1 0) h.prop (props_in (without_kind kind hs)) in omega arith

places-kind : (q : Prop) (kind : FourCc) (hs : List Held)
    → places_of q (props_in hs) ≡ places_of q (of_kind kind hs) + places_of q (props_in (without_kind kind hs))
places-kind q kind [] = refl
places-kind q kind (h ∷ hs) = kind-step (is_of kind h) q h hs kind (places-kind q kind hs)

pub holds-kind : (us : List Use) (kind : FourCc) (hs : List Held) → Holds us (props_in hs) → Holds us (of_kind kind hs)
holds-kind us kind hs held q = let a = held q in let b = places-kind q kind hs in omega arith

-- what take_kind does is that the properties of an item give way to those of other types
pub trades-kind : (us new : List Use) (kind : FourCc) (hs : List Held) → Gains new (of_kind kind hs) us
    → Trades us (props_in hs) (props_in (without_kind kind hs)) new
trades-kind us new kind hs down = record { each = λ q. let d = down.each q in let b = places-kind q kind hs in omega arith }

module _ {A : Type 0} (props_of : A → List Prop) where
  -- ---- an item goes, comes or changes
  places-all : (q : Prop) (items : List A) → places_of q (flat_map props_of items) ≡ sum_by (λ i. places_of q (props_of i)) items
  places-all q [] = refl
  places-all q (i ∷ items) =
      places-append q (props_of i) (flat_map props_of items) ∙ ap (λ n. places_of q (props_of i) + n) (places-all q items)
      ∙ sym (sum_by-cons (λ j. places_of q (props_of j)) i items)

  places-removed : (q : Prop) (items : List A) (n : ℕ) (i : A) → n < length items → i ≡ get_or items n i
      → places_of q (flat_map props_of (remove items n)) + places_of q (props_of i) ≡ places_of q (flat_map props_of items)
  places-removed q items n i there at =
      let f : A → ℕ = λ j. places_of q (props_of j) in
      ap (λ m. m + f i) (places-all q (remove items n)) ∙ ap (λ j. sum_by f (remove items n) + f j) at ∙ sum_by-remove f items n i there
      ∙ sym (places-all q items)

  places-set : (q : Prop) (items : List A) (n : ℕ) (i new : A) → n < length items → i ≡ get_or items n i
      → places_of q (flat_map props_of (set items n new)) + places_of q (props_of i) ≡ places_of q (flat_map props_of items) + places_of q (props_of new)
  places-set q [] n i new there at = absurd (omega arith)
  places-set q (j ∷ items) zero i new there at =
      let a = places-append q (props_of new) (flat_map props_of items) in
      let b = places-append q (props_of j) (flat_map props_of items) in
      let c = ap (λ k. places_of q (props_of k)) at in
      omega arith
  places-set q (j ∷ items) (suc n) i new there at =
      let a = places-append q (props_of j) (flat_map props_of (set items n new)) in
      let b = places-append q (props_of j) (flat_map props_of items) in
      let c = places-set q items n i new (omega arith) at in
      omega arith

  places-pushed : (q : Prop) (items : List A) (i : A)
      → places_of q (flat_map props_of (items ++ i ∷ [])) ≡ places_of q (flat_map props_of items) + places_of q (props_of i)
  places-pushed q items i =
      ap (places_of q) (flat_map-append props_of items (i ∷ [])) ∙ places-append q (flat_map props_of items) (props_of i ++ [])
      ∙ ap (λ l. places_of q (flat_map props_of items) + places_of q l) (append-nil (props_of i))

  module _ (us : List Use) (items : List A) (t : Tallies us (flat_map props_of items)) where
    module _ (n : ℕ) (i : A) (there : n < length items) (at : i ≡ get_or items n i) where
      pub holds-at : Holds us (props_of i)
      holds-at q = let a = t.each q in let b = places-removed q items n i there at in omega arith

      pub tallies-removed : (new : List Use) → Gains new (props_of i) us → Tallies new (flat_map props_of (remove items n))
      tallies-removed new down = record { each = λ q. let a = t.each q in let b = places-removed q items n i there at in let d = down.each q in omega arith }

      pub tallies-set : (other : A) (new : List Use) → Trades us (props_of i) (props_of other) new → Tallies new (flat_map props_of (set items n other))
      tallies-set other new trade = record {
        each = λ q. let a = t.each q in let b = places-set q items n i other there at in
            let d = trade.each q in let e = places-removed q items n i there at in omega arith;
      }

      pub among-set : (other : A) (q : Prop) → places_of q (props_of other) ≤ places_of q (flat_map props_of (set items n other))
      among-set other q = let a = places-set q items n i other there at in let b = places-removed q items n i there at in omega arith

    pub tallies-pushed : (i : A) (new : List Use) → Gains us (props_of i) new → Tallies new (flat_map props_of (items ++ i ∷ []))
    tallies-pushed i new up = record { each = λ q. let a = t.each q in let b = places-pushed q items i in let d = up.each q in omega arith }

  pub among-pushed : (items : List A) (i : A) (q : Prop) → places_of q (props_of i) ≤ places_of q (flat_map props_of (items ++ i ∷ []))
  among-pushed items i q = let a = places-pushed q items i in omega arith

  -- ---- items go by their ids
  module _ (id_of : A → ℕ) (ids : List ℕ) where
    listed-step : (b : Bool) (q : Prop) (i : A) (items stay go : List A)
        → places_of q (flat_map props_of items) ≡ places_of q (flat_map props_of stay) + places_of q (flat_map props_of go)
        → places_of q (flat_map props_of (i ∷ items)) ≡ places_of q (flat_map props_of (cond b (i ∷ stay) stay)) + places_of q
        (flat_map props_of (cond (not b) (i ∷ go) go))
    listed-step true q i items stay go e =
        let a = places-append q (props_of i) (flat_map props_of items) in let b = places-append q (props_of i) (flat_map props_of stay) in omega arith
    listed-step false q i items stay go e =
        let a = places-append q (props_of i) (flat_map props_of items) in let b = places-append q (props_of i) (flat_map props_of go) in omega arith

    places-listed : (q : Prop) (items : List A)
        → places_of q (flat_map props_of items) ≡ places_of q (flat_map props_of (listed id_of ids items)) + places_of q
        (props_of_others id_of props_of ids items)
    places-listed q [] = refl
    places-listed q (i ∷ items) = listed-step (is_among ids (id_of i)) q i items (listed id_of ids items) (others id_of ids items) (places-listed q items)

    module _ (us : List Use) (items : List A) (t : Tallies us (flat_map props_of items)) where
      pub holds-others : Holds us (props_of_others id_of props_of ids items)
      holds-others q = let a = t.each q in let b = places-listed q items in omega arith

      pub tallies-listed : (new : List Use) → Gains new (props_of_others id_of props_of ids items) us → Tallies new (flat_map props_of (listed id_of ids items))
      tallies-listed new down = record { each = λ q. let a = t.each q in let b = places-listed q items in let d = down.each q in omega arith }
