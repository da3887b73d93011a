-- What is cut out of the bytes of a trial.
use Rattle.std.proofs.Common.{◌≡◌, ℕ, ◌+◌, ◌-◌, ◌*◌, ◌<◌, ◌≤◌, List, ◌∷◌, [], ◌++◌, length, length-append, take, drop, map, refl, sym, ap, ◌∙◌, arith}
use Rattle.std.specs.List.{flat_map, range_with_len}
use Rattle.std.proofs.Math.Seq.{take-append_seam, drop-append_seam}
use Rattle.std.proofs.lemmas.List.{map-append}
use Rattle.std.proofs.lemmas.List.FromFn.{map-range_with_len_more}
use Rattle.hf_store.specs.Seen.{item_of, items_of}
use Rattle.hf_store.specs.Store.{Item as Stated}
use Rattle.hf_store.specs.declared.item.Item.{Item}
use Rattle.hf_trial.specs.Bytes.{tile_ids, tile_size, tile_bytes, grid_bytes, exif_bytes, hvcc_body, ispe_body, trial_tail, trial_bytes}
use Rattle.hf_trial.specs.Shares.{tail_of, AreShares}
use Rattle.hf_trial.specs.Trial.{tile_of, tile}
use Rattle.hf_trial.specs.declared.shares.Shares.{Shares}
use Rattle.hf_trial.proofs.Parts.{same-ends}
use Rattle.hf_trial.proofs.Ranges.{flat_map-first}
use Rattle.hf_trial.proofs.Small.{length-tile_bytes, length-ispe_body, length-hvcc_body}
use Rattle.hf_trial.proofs.Valid.{length-trial_tail}

-- the first tile of those that are left
pub record IsCut (seed k n size : ℕ) (rest : List ℕ) : Type 0 where
  pub within : size ≤ length rest
  pub front : take size rest ≡ tile_bytes seed k
  pub back : drop size rest ≡ flat_map (tile_bytes seed) (range_with_len (k + 1) (n - 1))

pub cut-tile : (seed k n size : ℕ) (rest : List ℕ)
    → 0 < n → rest ≡ flat_map (tile_bytes seed) (range_with_len k n) → size ≡ tile_size seed k → IsCut seed k n size rest
cut-tile seed k n size rest some is e =
    let behind = flat_map (tile_bytes seed) (range_with_len (k + 1) (n - 1)) in
    let whole : rest ≡ tile_bytes seed k ++ behind = is ∙ flat_map-first (tile_bytes seed) k n some in
    let long : size ≡ length (tile_bytes seed k) = e ∙ sym (length-tile_bytes seed k) in
    record {
      within = omega (arith, long, ap length whole, length-append (tile_bytes seed k) behind);
      front = ap (λ (m : ℕ). take m rest) long ∙ ap (λ (xs : List ℕ). take (length (tile_bytes seed k)) xs) whole ∙ take-append_seam (tile_bytes seed k) behind;
      back = ap (λ (m : ℕ). drop m rest) long ∙ ap (λ (xs : List ℕ). drop (length (tile_bytes seed k)) xs) whole ∙ drop-append_seam (tile_bytes seed k) behind;
    }

-- one more tile
pub items-pushed : (seed k : ℕ) (now new : List Item) (i : Item) (bytes hvcc ispe : List ℕ)
    → items_of now ≡ map (tile seed) (range_with_len 1 k) → new ≡ now ++ i ∷ []
    → item_of i ≡ tile_of (k + 1) bytes hvcc ispe → bytes ≡ tile_bytes seed (k + 1) → hvcc ≡ hvcc_body seed → ispe ≡ ispe_body 64 64
    → items_of new ≡ map (tile seed) (range_with_len 1 (k + 1))
items-pushed seed k now new i bytes hvcc ispe before pushed is b h p =
    let same : item_of i ≡ tile seed (k + 1) = is ∙ (λ j. tile_of (k + 1) (b j) (h j) (p j)) in
    ap items_of pushed
    ∙ map-append item_of now (i ∷ [])
    ∙ ap (λ (is : List Stated). is ++ item_of i ∷ []) before
    ∙ ap (λ (s : Stated). map (tile seed) (range_with_len 1 k) ++ s ∷ []) same
    ∙ sym (map-range_with_len_more (tile seed) 1 k (k + 1) (omega arith))

-- ---- shares

pub trial_bytes_hold : (seed n : ℕ) → 56 ≤ length (trial_bytes seed n)
unfolding trial_bytes
trial_bytes_hold seed n = omega (arith, length-append (flat_map (tile_bytes seed) (tile_ids n)) (trial_tail seed n), length-trial_tail seed n)

-- the shares of a trial
pub record AreTrial (seed n : ℕ) (s : Shares) : Type 0 where
  pub tiles : s.tiles.now ≡ flat_map (tile_bytes seed) (tile_ids n)
  pub grid : s.grid.now ≡ grid_bytes n
  pub exif : s.exif.now ≡ exif_bytes
  pub hvcc : s.hvcc.now ≡ hvcc_body seed
  pub tile_ispe : s.tile_ispe.now ≡ ispe_body 64 64
  pub grid_ispe : s.grid_ispe.now ≡ ispe_body 1024 (64 * n)

length-exif_bytes : length exif_bytes ≡ 20
unfolding exif_bytes
length-exif_bytes = refl

length-tail_of : (s : Shares) (bytes : List ℕ) → AreShares s bytes → length (tail_of s) ≡ 56
length-tail_of s bytes shares = simp length-append (omega arith)

pub are_trial : (seed n : ℕ) (s : Shares) (bytes : List ℕ) → AreShares s bytes → bytes ≡ trial_bytes seed n → AreTrial seed n s
unfolding trial_bytes trial_tail
are_trial seed n s bytes shares is =
    let tiles = flat_map (tile_bytes seed) (tile_ids n) in
    let long = length-tail_of s bytes shares ∙ sym (length-trial_tail seed n) in
    let whole = same-ends s.tiles.now (tail_of s) tiles (trial_tail seed n) (sym shares.whole ∙ is) long in
    let four = same-ends _ s.grid_ispe.now _ (ispe_body 1024 (64 * n)) whole.1 (shares.grid_ispe ∙ sym (length-ispe_body 1024 (64 * n))) in
    let three = same-ends _ s.tile_ispe.now _ (ispe_body 64 64) four.0 (shares.tile_ispe ∙ sym (length-ispe_body 64 64)) in
    let two = same-ends _ s.hvcc.now _ (hvcc_body seed) three.0 (shares.hvcc ∙ sym (length-hvcc_body seed)) in
    let one = same-ends s.grid.now s.exif.now (grid_bytes n) exif_bytes two.0 (shares.exif ∙ sym length-exif_bytes) in
    record { tiles = whole.0; grid = one.0; exif = one.1; hvcc = two.1; tile_ispe = three.1; grid_ispe = four.1 }
