-- What the reasons say of a store that has other properties, or one more item, by its counts.
use Rattle.std.proofs.Common.{◌≡◌, ℕ, ◌+◌, ◌<◌, ◌≤◌, true, false, List, [], ◌∷◌, length, take, map, refl, ap, ◌∙◌, arith, Some, None}
use Rattle.std.specs.Prelude.{min, nat_le, nat_lt, slice_get}
use Rattle.std.proofs.lemmas.Bool.{le-ltb, leb-false, leb-true, lt-ltb}
use Rattle.std.proofs.lemmas.List.{length-append, length-take}
use Rattle.std.proofs.lemmas.List.Sums.{sum_by-append, sum_by-cons}
use Rattle.hf_base.specs.declared.limits.TheConstants as limits
use Rattle.hf_store.specs.Changes.{added, with_props}
use Rattle.hf_store.specs.Room.{AreFourRefs, props_at, props_with}
use Rattle.hf_store.specs.Store.{Held, Item, ItemStore}
use Rattle.hf_store.specs.Table.{table_of}
use Rattle.hf_store.specs.Valid.{body_sum, meta_len}
use Rattle.hf_store.specs.declared.reason.Reason.TheVariants as reasons
use Rattle.hf_store.proofs.Spots.{at_or, get_map}
use Rattle.hf_edit.specs.Additions.{next_id_of, with_next}
use Rattle.hf_edit.specs.Room.{why_not_added, why_not_held}
use Rattle.hf_edit.specs.Seen.{draft_of}
use Rattle.hf_edit.specs.declared.additions.Draft.{Draft}
use Rattle.hf_edit.specs.declared.additions.Draft.TheVariants.{Exif, Xmp, Thumb}

-- ---- other properties

pub length-props_with : (kept k : ℕ) (more : List Held) (s : ItemStore) (i : Item) → slice_get s.items k ≡ Some i
    → length (props_with kept more k s) ≡ min kept (length i.props) + length more
length-props_with kept k more s i at =
    let held : props_at k s.items ≡ i.props = at_or (map (λ (j : Item). j.props) s.items) k i.props [] (get_map (λ (j : Item). j.props) s.items k i at) in
    length-append (take kept (props_at k s.items)) more
    ∙ ap (λ (n : ℕ). n + length more) (length-take kept (props_at k s.items) ∙ ap (λ (hs : List Held). min kept (length hs)) held)

module _ (k : ℕ) (held : List Held) (s : ItemStore) where
  pub props_full : limits.PROPS < length held → Some reasons.PropsFull ≡ why_not_held k held s
  props_full long = rw (lt-ltb limits.PROPS (length held) long) refl

  module _ (few : length held ≤ limits.PROPS) where
    pub kinds_full : limits.KINDS < length (table_of (with_props k held s)) → Some reasons.KindsFull ≡ why_not_held k held s
    kinds_full many = rw (le-ltb limits.PROPS (length held) few, lt-ltb limits.KINDS (length (table_of (with_props k held s))) many) refl

    module _ (some : length (table_of (with_props k held s)) ≤ limits.KINDS) where
      pub meta_full : nat_le (meta_len (with_props k held s)) limits.META ≡ false → Some reasons.MetaFull ≡ why_not_held k held s
      meta_full over =
          let past = lt-ltb limits.META (meta_len (with_props k held s)) (leb-false (meta_len (with_props k held s)) limits.META over) in
          rw (le-ltb limits.PROPS (length held) few, le-ltb limits.KINDS (length (table_of (with_props k held s))) some, past) refl

      pub room_left : nat_le (meta_len (with_props k held s)) limits.META ≡ true → None ≡ why_not_held k held s
      room_left within =
          let fits = le-ltb limits.META (meta_len (with_props k held s)) (leb-true (meta_len (with_props k held s)) limits.META within) in
          rw (le-ltb limits.PROPS (length held) few, le-ltb limits.KINDS (length (table_of (with_props k held s))) some, fits) refl

-- ---- one more item

pub four_refs : (d : Draft) (of id : ℕ) → AreFourRefs (draft_of d of id).refs
four_refs (Exif tiff) of id = (refl, tt)
four_refs (Xmp text) of id = (refl, tt)
four_refs (Thumb picture) of id = (refl, tt)

pub length-added : (i : Item) (s : ItemStore) → length (added i s).items ≡ length s.items + 1
length-added i s = length-append s.items (i ∷ [])

pub body_sum-added : (i : Item) (s : ItemStore) → body_sum (added i s).items ≡ body_sum s.items + length i.bytes
unfolding body_sum
body_sum-added i s =
    let count : Item → ℕ = λ j. length j.bytes in
    omega (arith, sum_by-append count s.items (i ∷ []), sum_by-cons count i [])

module _ (item : ℕ → Item) (s : ItemStore) (id : ℕ) (next : next_id_of s ≡ Some id) (some : length (table_of (with_next item s)) ≤ limits.KINDS)
    (count : length (with_next item s).items ≤ limits.ITEMS) where
  kinds_fit : nat_lt limits.KINDS (length (table_of (with_next item s))) ≡ false
  kinds_fit = le-ltb limits.KINDS (length (table_of (with_next item s))) some

  items_fit : nat_lt limits.ITEMS (length (with_next item s).items) ≡ false
  items_fit = le-ltb limits.ITEMS (length (with_next item s).items) count

  pub body_full : limits.BODY < body_sum (with_next item s).items → Some reasons.BodyFull ≡ why_not_added item s
  body_full many = rw (kinds_fit, items_fit, next, lt-ltb limits.BODY (body_sum (with_next item s).items) many) refl

  module _ (body : body_sum (with_next item s).items ≤ limits.BODY) where
    pub meta_full_added : nat_le (meta_len (with_next item s)) limits.META ≡ false → Some reasons.MetaFull ≡ why_not_added item s
    meta_full_added over =
        let past = lt-ltb limits.META (meta_len (with_next item s)) (leb-false (meta_len (with_next item s)) limits.META over) in
        rw (kinds_fit, items_fit, next, le-ltb limits.BODY (body_sum (with_next item s).items) body, past) refl

    pub room_left_added : nat_le (meta_len (with_next item s)) limits.META ≡ true → None ≡ why_not_added item s
    room_left_added within =
        let fits = le-ltb limits.META (meta_len (with_next item s)) (leb-true (meta_len (with_next item s)) limits.META within) in
        rw (kinds_fit, items_fit, next, le-ltb limits.BODY (body_sum (with_next item s).items) body, fits) refl
