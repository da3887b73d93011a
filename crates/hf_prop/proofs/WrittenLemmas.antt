-- The body that is written has its properties and its entries.
use Rattle.std.proofs.Common.{◌≡◌, ℕ, suc, ◌+◌, ◌≤◌, ◌<◌, ◌^◌, Bool, true, false, List, [], ◌∷◌, ◌++◌, length, map, Some, Ok, refl, sym, ap, ◌∙◌, append_assoc, append-nil, length-append, arith, inl, inr}
use Rattle.std.specs.Prelude.{if◌then◌else◌}
use Rattle.std.specs.List.{AllByRecursion, flat_map}
use Rattle.std.proofs.lemmas.List.Concat.{flat_map-cons}
use Rattle.std.proofs.lemmas.List.Sums.{sum_by-cons}
use Rattle.hf_base.specs.Entries.{AreTexts, IsIdWidth}
use Rattle.hf_base.specs.Number.{num}
use Rattle.hf_base.specs.Reading.{full}
use Rattle.hf_base.specs.declared.kinds.TheConstants.{IPCO, IPMA}
use Rattle.hf_base.specs.declared.limits.TheConstants.{ROWS}
use Rattle.hf_box.specs.Boxes.{BoxAt, IsBoxes}
use Rattle.hf_box.specs.Head.{box, box_head, written_at}
use Rattle.hf_box.specs.Written.{bit, id_width, id_version}
use Rattle.hf_box.proofs.HeadLemmas.{boxes-written}
use Rattle.hf_prop.specs.declared.assoc.Assoc.{Assoc}
use Rattle.hf_prop.specs.declared.assoc.Pick.{Pick}
use Rattle.hf_prop.specs.declared.iprp.Iprp.{Iprp}
use Rattle.hf_prop.specs.declared.prop.Prop.{Prop}
use Rattle.hf_prop.specs.Ipma.{pick_width, IsPick, IsAssoc, IsIpma, assoc_rows, association, ipma_entry, ipma_body, IsWritable}
use Rattle.hf_prop.specs.Iprp.{prop_of, IsIpco, IsIprp, IsIprpWithin, ipco_body, is_long_table, iprp_body, IsWritten, iprp_at}
use Rattle.hf_prop.proofs.IprpLemmas.{iprp_again}

-- ---- entries of `ipma`

abbrev wide_number : Bool → Pick → Type 0
wide_number two_bytes p = p.index < (if two_bytes then 2 ^ 15 else 2 ^ 7)

pick_is : (two_bytes : Bool) (p : Pick) → wide_number two_bytes p → IsPick (pick_width (bit two_bytes)) (association two_bytes p) p
pick_is true p h = (h, refl)
pick_is false p h = (h, refl)

picks_are : (two_bytes : Bool) (ps : List Pick) → AllByRecursion (wide_number two_bytes) ps → AreTexts (IsPick (pick_width (bit two_bytes))) (flat_map (association two_bytes) ps) ps
picks_are two_bytes [] h = refl
picks_are two_bytes (p ∷ ps) h = (association two_bytes p, flat_map (association two_bytes) ps, flat_map-cons (association two_bytes) p ps, pick_is two_bytes p h.0, picks_are two_bytes ps h.1)

entry_is : (wide two_bytes : Bool) (a : Assoc) → IsWritable wide two_bytes a → IsAssoc (id_width wide) (pick_width (bit two_bytes)) (ipma_entry wide two_bytes a) a
unfolding ipma_entry
entry_is wide two_bytes a h = record {
  item = h.item;
  count = h.count;
  parts = flat_map (association two_bytes) a.picks;
  is = append_assoc (num a.item (id_width wide)) (num (length a.picks) 1) (flat_map (association two_bytes) a.picks);
  picks = picks_are two_bytes a.picks h.picks;
}

entries_are : (wide two_bytes : Bool) (assocs : List Assoc) → AllByRecursion (IsWritable wide two_bytes) assocs → AreTexts (IsAssoc (id_width wide) (pick_width (bit two_bytes))) (flat_map (ipma_entry wide two_bytes) assocs) assocs
entries_are wide two_bytes [] h = refl
entries_are wide two_bytes (a ∷ more) h = (ipma_entry wide two_bytes a, flat_map (ipma_entry wide two_bytes) more, flat_map-cons (ipma_entry wide two_bytes) a more, entry_is wide two_bytes a h.0, entries_are wide two_bytes more h.1)

versioned : (wide : Bool) → IsIdWidth 0 (id_version wide) (id_width wide)
versioned true = inr (refl, refl)
versioned false = inl (refl, refl)

flags_fit : (b : Bool) → bit b < 256 ^ 3
flags_fit true = omega arith
flags_fit false = omega arith

pub ipma_is : (wide two_bytes : Bool) (assocs : List Assoc) → AllByRecursion (IsWritable wide two_bytes) assocs → length assocs < 256 ^ 4 → IsIpma (ipma_body wide two_bytes assocs) assocs
unfolding ipma_body
ipma_is wide two_bytes assocs h count =
    let head = full (id_version wide) (bit two_bytes) in
    let number = num (length assocs) 4 in
    let entries = flat_map (ipma_entry wide two_bytes) assocs in
    record {
      version = id_version wide;
      flags = bit two_bytes;
      flags_fit = flags_fit two_bytes;
      width = id_width wide;
      versioned = versioned wide;
      count = count;
      entries = entries;
      rest = [];
      is = append_assoc head number entries ∙ ap (λ (l : List ℕ). head ++ (number ++ l)) (sym (append-nil entries));
      texts = entries_are wide two_bytes assocs h;
    }

few_entries : (assocs : List Assoc) → length assocs ≤ assoc_rows assocs
few_entries [] = omega arith
few_entries (a ∷ more) = omega (arith, few_entries more, sum_by-cons (λ (x : Assoc). 1 + length x.picks) a more)

-- ---- properties of `ipco`

abbrev text : Prop → List ℕ
text p = box p.kind p.body

-- the boxes of these properties, from a place on
placed : ℕ → List Prop → List BoxAt
placed place [] = []
placed place (p ∷ ps) = written_at place p.kind p.body ∷ placed (place + length (text p)) ps

-- a box is longer than its body
body_within : (p : Prop) → length p.body ≤ length (text p)
unfolding box
body_within p = omega (arith, length-append (box_head p.kind (length p.body)) p.body)

abbrev IsKind : Prop → Type 0
IsKind p = length p.kind.0 ≡ 4

placed_framed : (place : ℕ) (ps : List Prop) → AllByRecursion IsKind ps → 16 + length (flat_map text ps) < 256 ^ 8 → IsBoxes (flat_map text ps) place false (placed place ps)
unfolding placed
placed_framed place [] kinds size = refl
placed_framed place (p ∷ ps) kinds size =
    let parts = flat_map-cons text p ps in
    let sum = ap length parts ∙ length-append (text p) (flat_map text ps) in
    let own = body_within p in
    boxes-written (flat_map text (p ∷ ps)) place false p.kind p.body (flat_map text ps) (placed (place + length (text p)) ps) parts kinds.0 (omega (arith, size, sum, own))
    (placed_framed (place + length (text p)) ps kinds.1 (omega (arith, size, sum)))

placed_props : (place : ℕ) (ps : List Prop) → ps ≡ map prop_of (placed place ps)
unfolding placed
placed_props place [] = refl
placed_props place (p ∷ ps) = ap (λ (l : List Prop). p ∷ l) (placed_props (place + length (text p)) ps)

length-placed : (place : ℕ) (ps : List Prop) → length (placed place ps) ≡ length ps
unfolding placed
length-placed place [] = refl
length-placed place (p ∷ ps) = ap suc (length-placed (place + length (text p)) ps)

-- ---- the body

abbrev ipco_at : Iprp → ℕ → BoxAt
ipco_at v place = written_at place IPCO (ipco_body v.props)

abbrev behind : Iprp → ℕ → ℕ
behind v place = place + length (box IPCO (ipco_body v.props))

abbrev ipma_of : Bool → Iprp → List ℕ
ipma_of wide v = ipma_body wide (is_long_table v.props) v.assocs

abbrev ipma_at : Bool → Iprp → ℕ → BoxAt
ipma_at wide v place = written_at (behind v place) IPMA (ipma_of wide v)

-- both boxes have a size
record Sizes (wide : Bool) (v : Iprp) : Type 0 where
  ipco : 16 + length (ipco_body v.props) < 256 ^ 8
  ipma : 16 + length (ipma_of wide v) < 256 ^ 8

sizes_of : (wide : Bool) (v : Iprp) → 16 + length (iprp_body wide v) < 256 ^ 8 → Sizes wide v
unfolding iprp_body box
sizes_of wide v size =
    let ipco = length-append (box_head IPCO (length (ipco_body v.props))) (ipco_body v.props) in
    let ipma = length-append (box_head IPMA (length (ipma_of wide v))) (ipma_of wide v) in
    let sum = length-append (box_head IPCO (length (ipco_body v.props)) ++ ipco_body v.props) (box_head IPMA (length (ipma_of wide v)) ++ ipma_of wide v) in
    record { ipco = omega (arith, size, sum, ipco, ipma); ipma = omega (arith, size, sum, ipco, ipma) }

body_framed : (place : ℕ) (wide : Bool) (v : Iprp) → Sizes wide v → IsBoxes (iprp_body wide v) place false (ipco_at v place ∷ ipma_at wide v place ∷ [])
unfolding iprp_body
body_framed place wide v s =
    let last = boxes-written (box IPMA (ipma_of wide v)) (behind v place) false IPMA (ipma_of wide v) [] [] (sym (append-nil (box IPMA (ipma_of wide v)))) refl s.ipma refl in
    boxes-written (box IPCO (ipco_body v.props) ++ box IPMA (ipma_of wide v)) place false IPCO (ipco_body v.props) (box IPMA (ipma_of wide v)) (ipma_at wide v place ∷ []) refl refl s.ipco last

ipco_is : (place : ℕ) (v : Iprp) → AllByRecursion IsKind v.props → 16 + length (ipco_body v.props) < 256 ^ 8 → (r : IsIpco (ipco_at v place) v.props) × (length r.boxes ≡ length v.props)
unfolding ipco_body
ipco_is place v kinds size =
    let inner = place + (ipco_at v place).head in
    (record { boxes = placed inner v.props; framed = placed_framed inner v.props kinds size; is = placed_props inner v.props }, length-placed inner v.props)

-- what is written stands in a box with this body
pub written_stand : (b : BoxAt) (wide : Bool) (v : Iprp) → b.body ≡ iprp_body wide v → IsWritten wide v → IsIprpWithin b v
written_stand b wide v is w =
    let place = b.at + b.head in
    let sizes = sizes_of wide v w.size in
    let ipco = ipco_is place v w.kinds sizes.ipco in
    let few = w.few in
    let rows = w.rows in
    let made : IsIprp b v = record {
      boxes = ipco_at v place ∷ ipma_at wide v place ∷ [];
      framed = rw is (body_framed place wide v sizes);
      ipco = Some (ipco_at v place);
      one = refl;
      props = ipco.0;
      tables = v.assocs ∷ [];
      entries = (ipma_is wide (is_long_table v.props) v.assocs w.each (omega (arith, rows, few_entries v.assocs)), tt);
      assocs = sym (append-nil v.assocs);
      distinct = w.distinct;
    } in
    record { stands = made; boxes = omega arith; ipco = omega (arith, ipco.1, few); rows = rows }

pub written_read : (b : BoxAt) (wide : Bool) (v : Iprp) → b.body ≡ iprp_body wide v → IsWritten wide v → iprp_at b ≡ Ok v
written_read b wide v is w = iprp_again ROWS b v (written_stand b wide v is w)
