-- An order that is under way. This is the project's own.
use Rattle.std.specs.Prelude.{◌≡◌, ◌↔◌, ℕ, ◌+◌, ◌<◌, ◌≤◌, not, ◌&&◌, ◌==◌, List, length, take, slice_index, nat_lt, count_by}
use Rattle.hf_base.specs.Entries.{has_id}
use Rattle.hf_base.specs.Members.{IsIn}

-- how many of these pairs are of this node
unfoldable pub uses : ℕ → List (ℕ × ℕ) → ℕ
uses node users = count_by (λ (pair : ℕ × ℕ). pair.0 == node) users

-- how many pairs of a node need one that is not done
unfoldable pub waits : List ℕ → ℕ → List (ℕ × ℕ) → ℕ
waits done node pairs = count_by (λ (pair : ℕ × ℕ). (pair.0 == node) && not (has_id pair.1 done)) pairs

-- of the nodes below limit exactly those with nothing left, each once; the others, counted, are the rest
pub record AreReady (limit : ℕ) (left nodes : List ℕ) : Type 0 where
  pub within : (k : ℕ) → k < length nodes → slice_index nodes k < limit
  pub distinct : (k : ℕ) → k < length nodes → ¬ IsIn (slice_index nodes k) (take k nodes)
  pub zero : (a : ℕ) → a < limit → IsIn a nodes ↔ (slice_index left a ≡ 0)
  pub rest : length nodes + count_by (λ (n : ℕ). nat_lt 0 n) (take limit left) ≡ limit

-- the first nodes of an order are done, but for these pairs, which need the last of those
pub record IsUnderWay (pairs users : List (ℕ × ℕ)) (done : ℕ) (left order : List ℕ) : Type 0 where
  pub ready : AreReady (length left) left order
  pub reached : done ≤ length order
  pub counts : (a : ℕ) → a < length left → slice_index left a ≡ uses a users + waits (take done order) a pairs
  pub earlier : (k : ℕ) → k < length order → (b : ℕ) → IsIn (slice_index order k, b) pairs → IsIn b (take k order)
