-- What the whole file is made of.
use Rattle.std.proofs.Common.{◌≡◌, ℕ, ◌+◌, ◌*◌, ◌^◌, ◌<◌, Bool, true, false, cond, ltb, List, [], ◌∷◌, ◌++◌, length, map, refl, sym, ap, ◌∙◌, append_assoc, arith, inl, inr, Option, Some, None}
use Rattle.std.specs.Prelude.{slice_get, ◌==◌}
use Rattle.std.specs.List.{flat_map, filter}
use Rattle.std.proofs.lemmas.Bool.{cases_Bool, eq-eqb}
use Rattle.std.proofs.lemmas.List.{length-map}
use Rattle.std.proofs.lemmas.List.Concat.{flat_map-append}
use Rattle.hf_base.specs.Number.{num}
use Rattle.hf_base.specs.Reading.{full as full_box}
use Rattle.hf_base.specs.declared.four.FourCc.{FourCc}
use Rattle.hf_box.specs.Head.{box, box_head}
use Rattle.hf_box.specs.Literals.{four}
use Rattle.hf_box.specs.Written.{bit, id_width, id_version}
use Rattle.hf_head.specs.Ftyp.{Brands, ftyp_body}
use Rattle.hf_head.specs.Hdlr.{hdlr_body}
use Rattle.hf_head.specs.Pitm.{pitm_body}
use Rattle.hf_info.specs.Infe.{Info, infe_box}
use Rattle.hf_info.specs.Iinf.{iinf_body}
use Rattle.hf_links.specs.Grpl.{group_box, grpl_body}
use Rattle.hf_links.specs.Iref.{reference_box, iref_body}
use Rattle.hf_loc.specs.Iloc.{offset_width, iloc_entry, entry_text, iloc_version, iloc_body}
use Rattle.hf_prop.specs.Ipma.{ipma_body}
use Rattle.hf_prop.specs.Iprp.{is_long_table, ipco_body, iprp_body}
use Rattle.hf_store.specs.Counts.{counts_of}
use Rattle.hf_store.specs.Layout.{own, is_wide, has_bytes, with_bytes, in_idat, bytes_in, written, has_props, item_boxes, all_boxes, assoc_of, assocs_of, iprp_of, entry_of, entries_of, method_of, mdat_body, offset_of, box_if_any, meta_front, meta_body, laid}
use Rattle.hf_store.specs.Store.{Item, Group, ItemStore}
use Rattle.hf_store.specs.Table.{table_of}
use Rattle.hf_store.specs.Valid.{Valid}
use Rattle.hf_store.specs.declared.tally.Counts.{Counts}
use Rattle.hf_store.proofs.CountsAre.{counts_are}
use Rattle.hf_store.proofs.Spots.{get_map, some_is}
use Rattle.hf_plan.specs.Canon.{Canon}
use Rattle.hf_plan.specs.Plan.{start_of, Planned, IsPlan}
use Rattle.hf_plan.proofs.Plans.{plan_finds}
use Rattle.hf_plan.proofs.Readers.{plan_tells_all}
use Rattle.hf_write.specs.Entries.{entry_if_any, planned_entry, meta_begin, meta_lists, meta_places, bytes_if, refs_text, prop_box, assoc_if_any}
use Rattle.hf_write.proofs.Fits.{extent_fits}
use Rattle.hf_write.proofs.Props.{assocs_are}
use Rattle.hf_write.proofs.Sized.{present}

-- ---- counts

-- how many items have bytes, as it is counted
pub located_is : (s : ItemStore) (c : Counts) → c ≡ counts_of s → c.located ≡ length (with_bytes s.items)
located_is s c e = ap (λ (k : Counts). k.located) e ∙ (counts_are s).located

-- how many have properties
pub holders_is : (s : ItemStore) (c : Counts) → c ≡ counts_of s → c.holders ≡ length (filter has_props s.items)
holders_is s c e = ap (λ (k : Counts). k.holders) e ∙ (counts_are s).holders

-- whether associations take two bytes
pub long_is : (s : ItemStore) (p : Planned) (kinds : ℕ) → IsPlan s p → kinds ≡ length p.firsts → ltb 127 kinds ≡ is_long_table (table_of s)
long_is s p kinds plan e = ap (ltb 127) (e ∙ (plan_tells_all s p plan).kinds)

-- ---- boxes, from their parts

box_parts : (kind : FourCc) (body : List ℕ) → box_head kind (length body) ++ body ≡ box kind body
unfolding box
box_parts kind body = refl

pub iinf_whole : (wide w : Bool) (is : List Info) (count body : ℕ) → body ≡ length (iinf_body wide is) → count ≡ length is → w ≡ wide
    → box_head (four "iinf") body ++ ((full_box (id_version w) 0 ++ num count (id_width w)) ++ flat_map (infe_box w) is) ≡ box (four "iinf") (iinf_body wide is)
unfolding iinf_body
iinf_whole wide w is count body hbody hcount hw =
    ap (λ (v : Bool). box_head (four "iinf") body ++ ((full_box (id_version v) 0 ++ num count (id_width v)) ++ flat_map (infe_box v) is)) hw
    ∙ ap (λ (n : ℕ). box_head (four "iinf") body ++ ((full_box (id_version wide) 0 ++ num n (id_width wide)) ++ flat_map (infe_box wide) is)) hcount
    ∙ ap (λ (n : ℕ). box_head (four "iinf") n ++ ((full_box (id_version wide) 0 ++ num (length is) (id_width wide)) ++ flat_map (infe_box wide) is)) hbody
    ∙ box_parts (four "iinf") (iinf_body wide is)

entries_are : (wide : Bool) (w end : ℕ) (all is : List Item) → flat_map (entry_if_any wide w end all) is ≡ flat_map (entry_text wide w) (map (entry_of own end all) (with_bytes is))
entries_are wide w end all [] = refl
entries_are wide w end all (i ∷ is) =
    let rest = entries_are wide w end all is in
    let one = entry_text wide w (entry_of own end all i) in
    let before : Bool → List ℕ = λ b. cond b one [] ++ flat_map (entry_if_any wide w end all) is in
    let after : Bool → List ℕ = λ b. flat_map (entry_text wide w) (map (entry_of own end all) (cond b (i ∷ with_bytes is) (with_bytes is))) in
    elim (cases_Bool (has_bytes i.bytes)) [
      | inl some ↦ ap before some ∙ ap (λ (l : List ℕ). one ++ l) rest ∙ ap after (sym some)
      | inr none ↦ ap before none ∙ rest ∙ ap after (sym none)
    ]

pub iloc_whole : (s : ItemStore) (p : Planned) (v l : Bool) (count body : ℕ) → v ≡ p.wide → l ≡ p.long → count ≡ length (with_bytes s.items)
    → body ≡ length (iloc_body p.wide (offset_width p.long) (entries_of own p.total s.items))
    → box_head (four "iloc") body ++ ((full_box (iloc_version v) 0 ++ num (16 * offset_width l + offset_width l) 1 ++ num 0 1 ++ num count (id_width v)) ++ flat_map (planned_entry s p) s.items)
    ≡ box (four "iloc") (iloc_body p.wide (offset_width p.long) (entries_of own p.total s.items))
unfolding iloc_body
iloc_whole s p v l count body hv hl hcount hbody =
    let w = offset_width p.long in
    let front : Bool → ℕ → ℕ → List ℕ = λ v w n. full_box (iloc_version v) 0 ++ num (16 * w + w) 1 ++ num 0 1 ++ num n (id_width v) in
    let made : ℕ → List ℕ → List ℕ → List ℕ = λ n front entries. box_head (four "iloc") n ++ (front ++ entries) in
    let entries = entries_of own p.total s.items in
    let counted : count ≡ length entries = hcount ∙ sym (length-map (with_bytes s.items) (entry_of own p.total s.items)) in
    let fronts : front v (offset_width l) count ≡ front p.wide w (length entries) =
    ap (λ (x : Bool). front x (offset_width l) count) hv ∙ ap (λ (x : Bool). front p.wide (offset_width x) count) hl ∙ ap (front p.wide w) counted
    in
    ap (λ (n : ℕ). made n (front v (offset_width l) count) (flat_map (planned_entry s p) s.items)) hbody
    ∙ ap (λ (f : List ℕ). made (length (iloc_body p.wide w (entries_of own p.total s.items))) f (flat_map (planned_entry s p) s.items)) fronts
    ∙ ap (made (length (iloc_body p.wide w (entries_of own p.total s.items))) (front p.wide w (length entries))) (entries_are p.wide w p.total s.items s.items)
    ∙ box_parts (four "iloc") (iloc_body p.wide w (entries_of own p.total s.items))

-- ---- bytes

none_is : (bytes : List ℕ) → has_bytes bytes ≡ false → [] ≡ bytes
none_is [] e = refl
none_is (b ∷ bs) e = absurd cc

pub outer_are : (is : List Item) → flat_map (bytes_if false) is ≡ bytes_in (written own is)
unfolding bytes_in
outer_are [] = refl
outer_are (i ∷ is) =
    let rest = outer_are is in
    let self : (i.id == i.id) ≡ true = eq-eqb i.id i.id refl in
    elim (cases_Bool (has_bytes i.bytes)) [
      | inl some ↦ elim (cases_Bool (in_idat i)) [
        | inl inner ↦ rw (inner, some) rest
        | inr outer ↦ rw (outer, some, self) (ap (λ (l : List ℕ). i.bytes ++ l) rest)
      ]
      | inr none ↦ elim (cases_Bool (in_idat i)) [
        | inl inner ↦ rw (inner, none) rest
        | inr outer ↦ rw (outer, none) (ap (λ (l : List ℕ). l ++ flat_map (bytes_if false) is) (sym (none_is i.bytes none)) ∙ rest)
      ]
    ]

pub inner_are : (is : List Item) → flat_map (bytes_if true) is ≡ bytes_in (filter in_idat is)
unfolding bytes_in
inner_are [] = refl
inner_are (i ∷ is) =
    let rest = inner_are is in
    elim (cases_Bool (in_idat i)) [
      | inl inner ↦ rw inner (ap (λ (l : List ℕ). i.bytes ++ l) rest)
      | inr outer ↦ rw outer rest
    ]

pub mdat_whole : (s : ItemStore) → box_head (four "mdat") (length (mdat_body own s.items)) ++ flat_map (bytes_if false) s.items ≡ box (four "mdat") (mdat_body own s.items)
mdat_whole s = ap (λ (l : List ℕ). box_head (four "mdat") (length (mdat_body own s.items)) ++ l) (outer_are s.items) ∙ box_parts (four "mdat") (mdat_body own s.items)

pub idat_whole : (s : ItemStore) (size : ℕ) → size ≡ length (box_if_any (four "idat") bytes_in (filter in_idat s.items)) → (size ≡ 0 → ⊥)
    → box_head (four "idat") (length (bytes_in (filter in_idat s.items))) ++ flat_map (bytes_if true) s.items ≡ box_if_any (four "idat") bytes_in (filter in_idat s.items)
idat_whole s size is some =
    let body = bytes_in (filter in_idat s.items) in
    ap (λ (l : List ℕ). box_head (four "idat") (length body) ++ l) (inner_are s.items) ∙ box_parts (four "idat") body ∙ present (four "idat") bytes_in (filter in_idat s.items) size is some

-- ---- lists

grpl_parts : (gs : List Group) → box_head (four "grpl") (length (grpl_body gs)) ++ flat_map group_box gs ≡ box (four "grpl") (grpl_body gs)
unfolding grpl_body
grpl_parts gs = box_parts (four "grpl") (grpl_body gs)

pub grpl_whole : (s : ItemStore) (size : ℕ) → size ≡ length (box_if_any (four "grpl") grpl_body s.groups) → (size ≡ 0 → ⊥)
    → box_head (four "grpl") (length (grpl_body s.groups)) ++ flat_map group_box s.groups ≡ box_if_any (four "grpl") grpl_body s.groups
grpl_whole s size is some = grpl_parts s.groups ∙ present (four "grpl") grpl_body s.groups size is some

refs_are : (wide : Bool) (is : List Item) → flat_map (refs_text wide) is ≡ flat_map (reference_box wide) (all_boxes is)
refs_are wide [] = refl
refs_are wide (i ∷ is) = ap (λ (l : List ℕ). refs_text wide i ++ l) (refs_are wide is) ∙ sym (flat_map-append (reference_box wide) (item_boxes i.id i.refs) (all_boxes is))

iref_parts : (wide : Bool) (is : List Item) → box_head (four "iref") (length (iref_body wide (all_boxes is))) ++ (full_box (id_version wide) 0 ++ flat_map (refs_text wide) is) ≡ box (four "iref") (iref_body wide (all_boxes is))
unfolding iref_body
iref_parts wide is =
    ap (λ (l : List ℕ). box_head (four "iref") (length (iref_body wide (all_boxes is))) ++ (full_box (id_version wide) 0 ++ l)) (refs_are wide is) ∙ box_parts (four "iref") (iref_body wide (all_boxes is))

pub iref_whole : (s : ItemStore) (wide : Bool) (size : ℕ) (front : List ℕ) → wide ≡ is_wide s.items → front ≡ full_box (id_version wide) 0
    → size ≡ length (box_if_any (four "iref") (iref_body (is_wide s.items)) (all_boxes s.items)) → (size ≡ 0 → ⊥)
    → box_head (four "iref") (length (iref_body (is_wide s.items) (all_boxes s.items))) ++ (front ++ flat_map (refs_text wide) s.items) ≡ box_if_any (four "iref") (iref_body (is_wide s.items)) (all_boxes s.items)
iref_whole s wide size front e f is some =
    let n = length (iref_body (is_wide s.items) (all_boxes s.items)) in
    ap (λ (l : List ℕ). box_head (four "iref") n ++ (l ++ flat_map (refs_text wide) s.items)) f
    ∙ ap (λ (v : Bool). box_head (four "iref") n ++ (full_box (id_version v) 0 ++ flat_map (refs_text v) s.items)) e
    ∙ iref_parts (is_wide s.items) s.items ∙ present (four "iref") (iref_body (is_wide s.items)) (all_boxes s.items) size is some

-- ---- properties

pub prop_whole : (kind : FourCc) (slice body : List ℕ) → slice ≡ body → box_head kind (length slice) ++ slice ≡ box kind body
prop_whole kind slice body e = ap (λ (l : List ℕ). box_head kind (length l) ++ l) e ∙ box_parts kind body

pub version_cells : (wide : Bool) → id_version wide ∷ 0 ∷ 0 ∷ 0 ∷ [] ≡ full_box (id_version wide) 0
unfolding num
version_cells true = refl
version_cells false = refl

pub ipma_cells : (wide long : Bool) → id_version wide ∷ 0 ∷ 0 ∷ bit long ∷ [] ≡ full_box (id_version wide) (bit long)
unfolding num
ipma_cells true true = refl
ipma_cells true false = refl
ipma_cells false true = refl
ipma_cells false false = refl

pub ipco_whole : (s : ItemStore) → box_head (four "ipco") (length (ipco_body (table_of s))) ++ flat_map prop_box (table_of s) ≡ box (four "ipco") (ipco_body (table_of s))
unfolding ipco_body
ipco_whole s = box_parts (four "ipco") (ipco_body (table_of s))

pub ipma_whole : (s : ItemStore) (p : Planned) (wide long : Bool) (count : ℕ) (front : List ℕ) → wide ≡ p.wide → long ≡ is_long_table (table_of s) → count ≡ length (filter has_props s.items)
    → front ≡ full_box (id_version wide) (bit long) ++ num count 4
    → box_head (four "ipma") (length (ipma_body p.wide (is_long_table (table_of s)) (assocs_of (table_of s) s.items))) ++ (front ++ flat_map (assoc_if_any p.wide long (table_of s)) s.items)
    ≡ box (four "ipma") (ipma_body p.wide (is_long_table (table_of s)) (assocs_of (table_of s) s.items))
unfolding ipma_body
ipma_whole s p wide long count front hw hl hc hf =
    let table = table_of s in
    let assocs = assocs_of table s.items in
    let head = box_head (four "ipma") (length (ipma_body p.wide (is_long_table table) assocs)) in
    let counted : count ≡ length assocs = hc ∙ sym (length-map (filter has_props s.items) (assoc_of table)) in
    ap (λ (l : List ℕ). head ++ (l ++ flat_map (assoc_if_any p.wide long table) s.items)) hf
    ∙ ap (λ (v : Bool). head ++ ((full_box (id_version v) (bit long) ++ num count 4) ++ flat_map (assoc_if_any p.wide long table) s.items)) hw
    ∙ ap (λ (b : Bool). head ++ ((full_box (id_version p.wide) (bit b) ++ num count 4) ++ flat_map (assoc_if_any p.wide b table) s.items)) hl
    ∙ ap (λ (n : ℕ). head ++ ((full_box (id_version p.wide) (bit (is_long_table table)) ++ num n 4) ++ flat_map (assoc_if_any p.wide (is_long_table table) table) s.items)) counted
    ∙ ap (λ (l : List ℕ). head ++ ((full_box (id_version p.wide) (bit (is_long_table table)) ++ num (length assocs) 4) ++ l)) (assocs_are p.wide (is_long_table table) table s.items)
    ∙ box_parts (four "ipma") (ipma_body p.wide (is_long_table table) assocs)

pub iprp_whole : (s : ItemStore) (p : Planned) → IsPlan s p
    → box_head (four "iprp") (length (iprp_body p.wide (iprp_of s))) ++ (box (four "ipco") (ipco_body (table_of s)) ++ box (four "ipma") (ipma_body p.wide (is_long_table (table_of s)) (assocs_of (table_of s) s.items)))
    ≡ box (four "iprp") (iprp_body p.wide (iprp_of s))
unfolding iprp_body
iprp_whole s p plan = box_parts (four "iprp") (iprp_body p.wide (iprp_of s))

-- ---- entries of iloc

start_there : (s : ItemStore) (p : Planned) (k : ℕ) (i : Item) (start : Option ℕ) → IsPlan s p → slice_get s.items k ≡ Some i → slice_get p.starts k ≡ Some start → start_of own p.total s.items i ≡ start
start_there s p k i start plan here there =
    some_is (sym (get_map (start_of own p.total s.items) s.items k i here) ∙ ap (λ xs. slice_get xs k) (sym plan.starts) ∙ there)

some_start : (has : Bool) (at o : ℕ) → cond has (Some at) None ≡ Some o → (has ≡ true) × (at ≡ o)
some_start true at o e = (refl, some_is e)
some_start false at o e = absurd cc

no_start : (has : Bool) (at : ℕ) → cond has (Some at) None ≡ None → has ≡ false
no_start true at e = absurd cc
no_start false at e = refl

-- the offset and the length fit, and the two parts are the entry
pub record IsEntry (s : ItemStore) (p : Planned) (i : Item) (o : ℕ) : Type 0 where
  pub offset : o < 256 ^ offset_width p.long
  pub len : length i.bytes < 256 ^ offset_width p.long
  pub bytes : planned_entry s p i ≡ iloc_entry p.wide (offset_width p.long) i.id (method_of i) o (length i.bytes)

pub entry_there : (s : ItemStore) (p : Planned) (k : ℕ) (i : Item) (o : ℕ) → Valid s → IsPlan s p → slice_get s.items k ≡ Some i → slice_get p.starts k ≡ Some (Some o) → IsEntry s p i o
entry_there s p k i o valid plan here there =
    let w = offset_width p.long in
    let start = some_start (has_bytes i.bytes) (offset_of own p.total s.items i) o (start_there s p k i (Some o) plan here there) in
    let fits = extent_fits s p k i valid plan here start.0 in
    record {
      offset = omega (arith, start.1, fits.offset);
      len = fits.length;
      bytes = ap (λ b. cond b (entry_text p.wide w (entry_of own p.total s.items i)) []) start.0 ∙ ap (λ (n : ℕ). iloc_entry p.wide w i.id (method_of i) n (length i.bytes)) start.1;
    }

pub no_entry : (s : ItemStore) (p : Planned) (k : ℕ) (i : Item) → IsPlan s p → slice_get s.items k ≡ Some i → slice_get p.starts k ≡ Some None → [] ≡ planned_entry s p i
no_entry s p k i plan here there =
    let none = no_start (has_bytes i.bytes) (offset_of own p.total s.items i) (start_there s p k i None plan here there) in
    ap (λ b. cond b (entry_text p.wide (offset_width p.long) (entry_of own p.total s.items i)) []) (sym none)

pub entry_whole : (s : ItemStore) (p : Planned) (i : Item) (v l : Bool) (m o len : ℕ) → IsEntry s p i o → v ≡ p.wide → l ≡ p.long → m ≡ method_of i → len ≡ length i.bytes
    → iloc_entry v (offset_width l) i.id m o len ≡ planned_entry s p i
entry_whole s p i v l m o len entry hv hl hm hlen =
    let made : Bool → ℕ → ℕ → ℕ → List ℕ = λ v w m n. iloc_entry v w i.id m o n in
    ap (λ (x : Bool). made x (offset_width l) m len) hv ∙ ap (λ (x : Bool). made p.wide (offset_width x) m len) hl
    ∙ ap (λ (x : ℕ). made p.wide (offset_width p.long) x len) hm ∙ ap (made p.wide (offset_width p.long) (method_of i)) hlen ∙ sym entry.bytes

-- ---- meta

meta_parts : (s : ItemStore) (p : Planned) → IsPlan s p → (head begin : List ℕ) → begin ≡ full_box 0 0 ++ (box (four "hdlr") hdlr_body ++ box (four "pitm") (pitm_body (is_wide s.items) s.primary))
    → (head ++ begin) ++ (meta_lists s p ++ meta_places s p) ≡ head ++ meta_body own (offset_width p.long) p.total s
unfolding meta_body meta_front
meta_parts s p plan head begin e = rw (plan.wide, e) (simp (append_assoc) refl)

pub meta_whole : (s : ItemStore) (p : Planned) → IsPlan s p → meta_begin s p ++ (meta_lists s p ++ meta_places s p) ≡ box (four "meta") (meta_body own (offset_width p.long) p.total s)
meta_whole s p plan =
    let body = meta_body own (offset_width p.long) p.total s in
    let begin : Bool → List ℕ = λ v. full_box 0 0 ++ (box (four "hdlr") hdlr_body ++ box (four "pitm") (pitm_body v s.primary)) in
    meta_parts s p plan (box_head (four "meta") (length body)) (begin p.wide) (ap begin plan.wide) ∙ box_parts (four "meta") body

pub zeros : 0 ∷ 0 ∷ 0 ∷ 0 ∷ [] ≡ full_box 0 0
unfolding num
zeros = refl

-- ---- the file

pub file_whole : (s : ItemStore) (p : Planned) (F : List ℕ) → Valid s → IsPlan s p → Canon s F
    → box (four "ftyp") (ftyp_body s.brands) ++ (box (four "meta") (meta_body own (offset_width p.long) p.total s) ++ box (four "mdat") (mdat_body own s.items)) ≡ F
unfolding laid
file_whole s p F valid plan canon =
    let w = offset_width p.long in
    let found = plan_finds s p F valid plan canon in
    sym (append_assoc (box (four "ftyp") (ftyp_body s.brands)) (box (four "meta") (meta_body own w p.total s)) (box (four "mdat") (mdat_body own s.items)))
    ∙ ap (λ (n : ℕ). laid own w n s) (sym found.1) ∙ sym found.0.bytes

pub begin_is : (s : ItemStore) (p : Planned) (v : Bool) (id body : ℕ) → body ≡ length (meta_body own (offset_width p.long) p.total s) → v ≡ p.wide → id ≡ s.primary
    → box_head (four "meta") body ++ ((0 ∷ 0 ∷ 0 ∷ 0 ∷ []) ++ (box (four "hdlr") hdlr_body ++ box (four "pitm") (pitm_body v id))) ≡ meta_begin s p
begin_is s p v id body hbody hv hid =
    let made : ℕ → List ℕ → Bool → ℕ → List ℕ = λ n z v id. box_head (four "meta") n ++ (z ++ (box (four "hdlr") hdlr_body ++ box (four "pitm") (pitm_body v id))) in
    ap (λ (n : ℕ). made n (0 ∷ 0 ∷ 0 ∷ 0 ∷ []) v id) hbody ∙ ap (λ (z : List ℕ). made (length (meta_body own (offset_width p.long) p.total s)) z v id) zeros
    ∙ ap (λ (x : Bool). made (length (meta_body own (offset_width p.long) p.total s)) (full_box 0 0) x id) hv ∙ ap (made (length (meta_body own (offset_width p.long) p.total s)) (full_box 0 0) p.wide) hid

-- the same, with the brands that the code has
pub file_by : (s : ItemStore) (p : Planned) (b : Brands) (F : List ℕ) → b ≡ s.brands → Valid s → IsPlan s p → Canon s F
    → box (four "ftyp") (ftyp_body b) ++ (box (four "meta") (meta_body own (offset_width p.long) p.total s) ++ box (four "mdat") (mdat_body own s.items)) ≡ F
file_by s p b F e valid plan canon =
    ap (λ (x : Brands). box (four "ftyp") (ftyp_body x) ++ (box (four "meta") (meta_body own (offset_width p.long) p.total s) ++ box (four "mdat") (mdat_body own s.items))) e
    ∙ file_whole s p F valid plan canon
