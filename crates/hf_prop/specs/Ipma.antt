-- `ipma`: ItemPropertyAssociationBox of ISO/IEC 23008-12. The order in which faults are told, and the limit of rows, are
-- this project's own rule.
use Rattle.std.specs.Prelude.{◌≡◌, ◌<◌, ◌+◌, ◌-◌, ◌*◌, ◌%◌, ◌^◌, ℕ, Bool, List, ◌++◌, length, map, ◌==◌, nat_lt, nat_le, Result, Ok, if◌then◌else◌}
use Rattle.std.specs.List.{AllByRecursion, flat_map, sum_by}
use Rattle.hf_base.specs.Number.{num}
use Rattle.hf_base.specs.Reading.{◌>>=◌, front, front_full, full, times}
use Rattle.hf_base.specs.Entries.{AreTexts, IsIdWidth, id_width_at, has_id, refuse_if, entries_from}
use Rattle.hf_base.specs.declared.fault.ReadRefusal.{ReadRefusal}
use Rattle.hf_base.specs.declared.fault.ReadRefusal.TheVariants.{BadRecord, BadVersion, TooLarge, DoubleAssoc}
use Rattle.hf_base.specs.declared.kinds.TheConstants.{IPMA}
use Rattle.hf_box.specs.Boxes.{BoxAt}
use Rattle.hf_box.specs.Written.{bit, id_width, id_version}
use Rattle.hf_prop.specs.declared.assoc.Assoc.{Assoc}
use Rattle.hf_prop.specs.declared.assoc.Pick.{Pick}

-- ---- what stands in a body

-- an association takes two bytes where flag 1 is set, and otherwise one
abbrev pub pick_width : ℕ → ℕ
pick_width flags = if flags % 2 == 1 then 2 else 1

-- the essential mark: the bit in front of the 7 or 15 bits of the property's number
abbrev pub mark : ℕ → ℕ
mark w = 2 ^ (8 * w - 1)

-- the text is an association in w bytes
abbrev pub IsPick : ℕ → List ℕ → Pick → Type 0
IsPick w text p = (p.index < mark w) × (text ≡ num (mark w * bit p.essential + p.index) w)

-- the text is an entry, with an id of so many bytes and associations of w bytes
pub record IsAssoc (width w : ℕ) (text : List ℕ) (a : Assoc) : Type 0 where
  pub item : a.item < 256 ^ width
  pub count : length a.picks < 256 ^ 1
  pub parts : List ℕ
  pub is : text ≡ num a.item width ++ (num (length a.picks) 1 ++ parts)
  pub picks : AreTexts (IsPick w) parts a.picks

abbrev pub assoc_ids : List Assoc → List ℕ
assoc_ids assocs = map (λ (a : Assoc). a.item) assocs

-- entries and associations, counted
abbrev pub assoc_rows : List Assoc → ℕ
assoc_rows assocs = sum_by (λ (a : Assoc). 1 + length a.picks) assocs

-- the body has these entries: ids take two bytes in version 0 and four in version 1; the other flags, and what follows
-- the entries, are free
pub record IsIpma (body : List ℕ) (assocs : List Assoc) : Type 0 where
  pub version : ℕ
  pub flags : ℕ
  pub flags_fit : flags < 256 ^ 3
  pub width : ℕ
  pub versioned : IsIdWidth 0 version width
  pub count : length assocs < 256 ^ 4
  pub entries : List ℕ
  pub rest : List ℕ
  pub is : body ≡ full version flags ++ (num (length assocs) 4 ++ (entries ++ rest))
  pub texts : AreTexts (IsAssoc width (pick_width flags)) entries assocs

-- ---- the same, read from left to right

-- the association at the front
unfoldable pub pick_at : ReadRefusal → ℕ → List ℕ → Result (Pick × List ℕ) ReadRefusal
pick_at short w bytes = do
  n ← front w short bytes
  Ok (record { essential = nat_le (mark w) n.0; index = n.0 % mark w }, n.1)

-- the entry at the front, behind earlier rows; with the rows that its count states they are no more than so many
unfoldable pub assoc_at : ℕ → ℕ → ℕ → ℕ → ℕ → List ℕ → Result (Assoc × List ℕ) ReadRefusal
assoc_at most at rows width w bytes = do
  item ← front width (BadRecord IPMA at) bytes
  count ← front 1 (BadRecord IPMA at) item.1
  few ← refuse_if (nat_lt most (rows + 1 + count.0)) (TooLarge IPMA at)
  picks ← times (pick_at (BadRecord IPMA at) w) count.0 count.1
  Ok (record { item = item.0; picks = picks.0 }, picks.1)

-- the same behind earlier entries, of this `ipma` and of those before it, none of which has its id
unfoldable pub entry_at : ℕ → ℕ → ℕ → ℕ → List Assoc → List ℕ → Result (Assoc × List ℕ) ReadRefusal
entry_at most at width w earlier bytes = do
  assoc ← assoc_at most at (assoc_rows earlier) width w bytes
  new ← refuse_if (has_id assoc.0.item (assoc_ids earlier)) (DoubleAssoc assoc.0.item)
  Ok assoc

-- the bytes of an id, those of an association, and the count of the entries
unfoldable pub counted_at : ℕ → List ℕ → Result ((ℕ × ℕ × ℕ) × List ℕ) ReadRefusal
counted_at at body = do
  version ← front_full (BadRecord IPMA at) body
  width ← id_width_at 0 (BadVersion IPMA at) version.0.0
  count ← front 4 (BadRecord IPMA at) version.1
  Ok ((width, pick_width version.0.1, count.0), count.1)

-- the entries before, and those of a box, or its fault; with so many rows at most
unfoldable pub with_ipma : ℕ → List Assoc → BoxAt → Result (List Assoc) ReadRefusal
with_ipma most earlier b = do
  counted ← counted_at b.at b.body
  assocs ← entries_from (entry_at most b.at counted.0.0 counted.0.1) earlier counted.0.2 counted.1
  Ok assocs.0

-- ---- the body as it is written

-- the essential mark, and the property's number in 15 bits or in 7
abbrev pub association : Bool → Pick → List ℕ
association two_bytes p =
    if two_bytes
    then num (2 ^ 15 * bit p.essential + p.index) 2
    else num (2 ^ 7 * bit p.essential + p.index) 1

-- an entry
unfoldable pub ipma_entry : Bool → Bool → Assoc → List ℕ
ipma_entry wide two_bytes a =
    num a.item (id_width wide)  -- item_ID
    ++ num (length a.picks) 1  -- association_count
    ++ flat_map (association two_bytes) a.picks

-- the body with these entries, in order; flag 1 says that associations take two bytes
unfoldable pub ipma_body : Bool → Bool → List Assoc → List ℕ
ipma_body wide two_bytes assocs =
    full (id_version wide) (bit two_bytes)
    ++ num (length assocs) 4  -- entry_count
    ++ flat_map (ipma_entry wide two_bytes) assocs

-- what can be written of an entry: its id has this width, and its numbers 15 bits or 7
pub record IsWritable (wide two_bytes : Bool) (a : Assoc) : Type 0 where
  pub item : a.item < 256 ^ id_width wide
  pub count : length a.picks < 256
  pub picks : AllByRecursion (λ (p : Pick). p.index < (if two_bytes then 2 ^ 15 else 2 ^ 7)) a.picks
