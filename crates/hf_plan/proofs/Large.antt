-- Files about as long as four bytes can say.
use Rattle.std.proofs.Common.{◌≡◌, ℕ, ◌^◌, ◌<◌, true, List, length, length-append, refl, ◌∙◌, arith, inl, inr}
use Rattle.hf_store.specs.Store.{ItemStore}
use Rattle.hf_store.specs.Layout.{own, has_bytes, laid}
use Rattle.hf_store.proofs.Finds.{some_has}
use Rattle.hf_store.proofs.Lengths.{meta_body_len}
use Rattle.hf_worked.proofs.ValidStores.{layout}
use Rattle.hf_plan.specs.Lay.{IsWritten, Lay}
use Rattle.hf_worked.specs.LargeStores.{picture_of}
use Rattle.hf_plan.specs.Large.{picture_and_none, LongestNarrow, ShortestWide, NoneFits}
use Rattle.hf_plan.proofs.Lengths.{file_len, length-laid, length-LayBy}

narrow_len : (bytes : List ℕ) → has_bytes bytes ≡ true → length bytes ≡ 4294967105 → file_len own 4 (picture_of bytes) ≡ 4294967295
unfolding layout file_len meta_body_len picture_of
narrow_len bytes has len = simp (has, length-append, len) refl

narrow_over : (bytes : List ℕ) → has_bytes bytes ≡ true → length bytes ≡ 4294967106 → file_len own 4 (picture_of bytes) ≡ 4294967296
unfolding layout file_len meta_body_len picture_of
narrow_over bytes has len = simp (has, length-append, len) refl

wide_len : (bytes : List ℕ) → has_bytes bytes ≡ true → length bytes ≡ 4294967106 → file_len own 8 (picture_of bytes) ≡ 4294967304
unfolding layout file_len meta_body_len picture_of
wide_len bytes has len = simp (has, length-append, len) refl

none_len : (bytes : List ℕ) → has_bytes bytes ≡ true → length bytes ≡ 4294967200 → file_len own 4 (picture_and_none bytes) ≡ 4294967411
unfolding layout file_len meta_body_len picture_and_none
none_len bytes has len = simp (has, length-append, len) refl

written_picture : (w end : ℕ) (bytes : List ℕ) → has_bytes bytes ≡ true → end < 256 ^ w → length bytes < 256 ^ w → end < 256 ^ 8 → IsWritten own w end (picture_of bytes)
unfolding layout picture_of
written_picture w end bytes has fits few small =
    record {
      minor = omega arith;
      primary = omega arith;
      count = omega arith;
      items = search arith;
      groups = tt;
      extents = rw has (record { offset = omega (arith, fits); length = few }, tt);
      size = small;
    }

written_none : (bytes : List ℕ) → has_bytes bytes ≡ true → length bytes ≡ 4294967200 → IsWritten own 4 4294967411 (picture_and_none bytes)
unfolding layout picture_and_none
written_none bytes has len =
    record {
      minor = omega arith;
      primary = omega arith;
      count = omega arith;
      items = search arith;
      groups = tt;
      extents = rw has (record { offset = simp (has, length-append, len) (omega arith); length = omega (arith, len) }, tt);
      size = omega arith;
    }

lays_as : (w n : ℕ) (s : ItemStore) → file_len own w s ≡ n → IsWritten own w n s → Lay s w (laid own w n s)
lays_as w n s len numbers =
    let e : length (laid own w n s) ≡ n = length-laid own w n s ∙ len in
    record { numbers = rw e numbers; bytes = rw e refl }

pub longest_narrow : LongestNarrow
longest_narrow bytes len =
    let has = some_has bytes (omega (arith, len)) in
    let n = narrow_len bytes has len in
    let lay : Lay (picture_of bytes) 4 (laid own 4 4294967295 (picture_of bytes)) = lays_as 4 4294967295 (picture_of bytes) n (written_picture 4 4294967295 bytes has (omega arith) (omega (arith, len)) (omega arith)) in
    let all : length (laid own 4 4294967295 (picture_of bytes)) ≡ 4294967295 = length-laid own 4 4294967295 (picture_of bytes) ∙ n in
    (laid own 4 4294967295 (picture_of bytes), inl (lay, omega (arith, all)), lay, omega (arith, all))

pub shortest_wide : ShortestWide
shortest_wide bytes len =
    let has = some_has bytes (omega (arith, len)) in
    let over = narrow_over bytes has len in
    let n = wide_len bytes has len in
    let lay : Lay (picture_of bytes) 8 (laid own 8 4294967304 (picture_of bytes)) = lays_as 8 4294967304 (picture_of bytes) n (written_picture 8 4294967304 bytes has (omega arith) (omega (arith, len)) (omega arith)) in
    let all : length (laid own 8 4294967304 (picture_of bytes)) ≡ 4294967304 = length-laid own 8 4294967304 (picture_of bytes) ∙ n in
    (laid own 8 4294967304 (picture_of bytes), inr ((λ G narrow. omega (arith, over, length-LayBy own (picture_of bytes) 4 G narrow.0, narrow.1)), lay), lay, all)

pub none_fits : NoneFits
none_fits bytes len =
    let has = some_has bytes (omega (arith, len)) in
    let n = none_len bytes has len in
    let all : length (laid own 4 4294967411 (picture_and_none bytes)) ≡ 4294967411 = length-laid own 4 4294967411 (picture_and_none bytes) ∙ n in
    (laid own 4 4294967411 (picture_and_none bytes), lays_as 4 4294967411 (picture_and_none bytes) n (written_none bytes has len), all)
