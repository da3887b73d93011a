-- References, properties and groups stand as they are written, however many they are.
use Rattle.std.proofs.Common.{◌≡◌, ◌+◌, ◌^◌, ◌<◌, ℕ, Bool, true, false, List, [], ◌∷◌, ◌++◌, length, map, Some}
use Rattle.std.proofs.Common.{refl, sym, ap, subst, ◌∙◌, append_assoc, append-nil, length-append, arith, inl, inr}
use Rattle.std.specs.Prelude.{IsTrue}
use Rattle.std.specs.List.{AllByRecursion, AllZip, flat_map}
use Rattle.std.proofs.lemmas.List.Concat.{flat_map-cons}
use Rattle.hf_base.specs.Entries.{are_distinct, IsIdWidth}
use Rattle.hf_base.specs.Number.{num}
use Rattle.hf_base.specs.Reading.{full}
use Rattle.hf_base.specs.declared.four.FourCc.{FourCc}
use Rattle.hf_base.specs.declared.kinds.TheConstants.{IPCO, IPMA}
use Rattle.hf_base.specs.declared.loc.RefBox.{RefBox}
use Rattle.hf_box.specs.Boxes.{BoxAt, IsBoxes}
use Rattle.hf_box.specs.Head.{box, head_len, written_at}
use Rattle.hf_box.specs.Written.{id_width, id_version}
use Rattle.hf_box.proofs.WrittenBoxes.{ids_written, placed, HasSize, placed-framed, placed-each}
use Rattle.hf_links.specs.Grpl.{Group, IsGroup, group_ids, IsGrpl, group_body, grpl_body, IsWritable as IsWritableGroup}
use Rattle.hf_links.specs.Iref.{IsRefBox, IsIref, reference_body, reference_box, iref_body, IsWritable as IsWritableRef}
use Rattle.hf_prop.specs.declared.iprp.Iprp.{Iprp}
use Rattle.hf_prop.specs.declared.prop.Prop.{Prop}
use Rattle.hf_prop.specs.Ipma.{assoc_ids, ipma_body, IsWritable as IsWritableAssoc}
use Rattle.hf_prop.specs.Iprp.{prop_of, IsIprp, ipco_body, is_long_table, iprp_body}
use Rattle.hf_prop.proofs.WrittenLemmas.{ipma_is}
use Rattle.hf_canon.proofs.Boxes.{has_size, behind_few, then_box, last_box}

module _ {A : Type 0} (kind : A → FourCc) (body : A → List ℕ) where
  -- boxes have a size where all of them together have a length
  pub each_sized : (xs : List A) → AllByRecursion (λ (x : A). length (kind x).0 ≡ 4) xs
      → length (flat_map (λ (x : A). box (kind x) (body x)) xs) < 256 ^ 8 → AllByRecursion (HasSize kind body) xs
  each_sized [] four few = tt
  each_sized (x ∷ xs) four few =
      let text : A → List ℕ = λ y. box (kind y) (body y) in
      let sum = ap length (flat_map-cons text x xs) ∙ length-append (text x) (flat_map text xs) in
      ((four.0, has_size (kind x) (body x) four.0 (omega (arith, few, sum))), each_sized xs four.1 (omega (arith, few, sum)))

pub versioned : (wide : Bool) → IsIdWidth 0 (id_version wide) (id_width wide)
versioned true = inr (refl, refl)
versioned false = inl (refl, refl)

pub all_weaker : {A : Type 0} (P Q : A → Type 0) → ((x : A) → P x → Q x) → (xs : List A) → AllByRecursion P xs → AllByRecursion Q xs
all_weaker P Q weaker [] all = tt
all_weaker P Q weaker (x ∷ xs) all = (weaker x all.0, all_weaker P Q weaker xs all.1)

-- ---- iref

abbrev kind_of_ref : RefBox → FourCc
kind_of_ref r = r.kind

abbrev body_of_ref : Bool → RefBox → List ℕ
body_of_ref wide r = reference_body wide r.from r.to

ref_stands : (wide : Bool) (place : ℕ) (r : RefBox) → IsWritableRef wide r → IsRefBox (id_width wide) (written_at place r.kind (body_of_ref wide r)) r
unfolding reference_body
ref_stands wide place r w =
    let width = id_width wide in
    let from = num r.from width in
    let count = num (length r.to) 2 in
    let ids = flat_map (λ id. num id width) r.to in
    record {
      kind = refl;
      from = w.from;
      count = omega (arith, w.count);
      ids = ids;
      rest = [];
      is = append_assoc from count ids ∙ ap (λ (l : List ℕ). from ++ (count ++ l)) (sym (append-nil ids));
      to = ids_written width r.to w.to;
    }

pub refs_stand : (b : BoxAt) (wide : Bool) (links : List RefBox) → b.body ≡ iref_body wide links → AllByRecursion (IsWritableRef wide) links
    → length (iref_body wide links) < 256 ^ 8 → IsIref b links
unfolding iref_body
refs_stand b wide links is each few =
    let place = b.at + b.head + 4 in
    let four = all_weaker (IsWritableRef wide) (λ (r : RefBox). length r.kind.0 ≡ 4) (λ r w. w.kind) links each in
    let sized = each_sized kind_of_ref (body_of_ref wide) links four (behind_few (full (id_version wide) 0) (flat_map (reference_box wide) links) few) in
    record {
      version = id_version wide;
      flags = 0;
      flags_fit = omega arith;
      width = id_width wide;
      versioned = versioned wide;
      inner = flat_map (reference_box wide) links;
      is = is;
      boxes = placed kind_of_ref (body_of_ref wide) place links;
      framed = placed-framed kind_of_ref (body_of_ref wide) place links sized;
      each = placed-each kind_of_ref (body_of_ref wide) (IsRefBox (id_width wide)) (IsWritableRef wide) (ref_stands wide) place links each;
    }

-- ---- grpl

abbrev kind_of_group : Group → FourCc
kind_of_group g = g.kind

group_stands : (place : ℕ) (g : Group) → IsWritableGroup g → IsGroup (written_at place g.kind (group_body g)) g
unfolding group_body
group_stands place g w =
    record {
      kind = refl;
      version = w.version;
      flags = w.flags;
      id = w.id;
      count = w.count;
      ids = flat_map (λ id. num id 4) g.entities;
      is = simp append_assoc refl;
      entities = ids_written 4 g.entities w.entities;
    }

pub groups_stand : (b : BoxAt) (groups : List Group) → b.body ≡ grpl_body groups → AllByRecursion IsWritableGroup groups
    → IsTrue (are_distinct (group_ids groups)) → IsGrpl b groups
unfolding grpl_body
groups_stand b groups is each distinct =
    let place = b.at + b.head in
    let boxes = placed kind_of_group group_body place groups in
    let sized = all_weaker IsWritableGroup (HasSize kind_of_group group_body) (λ g w. (w.kind, w.size)) groups each in
    record {
      boxes = boxes;
      framed = subst (λ (l : List ℕ). IsBoxes l place false boxes) (sym is) (placed-framed kind_of_group group_body place groups sized);
      each = placed-each kind_of_group group_body IsGroup IsWritableGroup group_stands place groups each;
      distinct = distinct;
    }

-- ---- iprp

abbrev kind_of_prop : Prop → FourCc
kind_of_prop p = p.kind

abbrev pub HasFour : Prop → Type 0
HasFour p = length p.kind.0 ≡ 4

abbrev body_of_prop : Prop → List ℕ
body_of_prop p = p.body

props_again : (boxes : List BoxAt) (ps : List Prop) → AllZip (λ (b : BoxAt) (p : Prop). prop_of b ≡ p) boxes ps → ps ≡ map prop_of boxes
props_again [] [] same = refl
props_again [] (p ∷ ps) same = absurd same
props_again (b ∷ bs) [] same = absurd same
props_again (b ∷ bs) (p ∷ ps) same = ap (λ (q : Prop). q ∷ ps) (sym same.0) ∙ ap (λ (l : List Prop). prop_of b ∷ l) (props_again bs ps same.1)

-- what can be written of properties and associations, however many they are
pub record IsWrittenIprp (wide : Bool) (v : Iprp) : Type 0 where
  pub kinds : AllByRecursion HasFour v.props
  pub each : AllByRecursion (IsWritableAssoc wide (is_long_table v.props)) v.assocs
  pub count : length v.assocs < 256 ^ 4
  pub distinct : IsTrue (are_distinct (assoc_ids v.assocs))
  pub size : length (iprp_body wide v) < 256 ^ 8

pub props_stand : (b : BoxAt) (wide : Bool) (v : Iprp) → b.body ≡ iprp_body wide v → IsWrittenIprp wide v → IsIprp b v
unfolding iprp_body ipco_body
props_stand b wide v is w =
    let place = b.at + b.head in
    let ipco = ipco_body v.props in
    let ipma = ipma_body wide (is_long_table v.props) v.assocs in
    let behind = place + length (box IPCO ipco) in
    let second = written_at behind IPMA ipma ∷ [] in
    let boxes = written_at place IPCO ipco ∷ second in
    let few = w.size in
    let small : length (box IPCO ipco) < 256 ^ 8 = omega (arith, few, length-append (box IPCO ipco) (box IPMA ipma)) in
    let last = last_box false IPMA ipma behind refl (behind_few (box IPCO ipco) (box IPMA ipma) few) in
    let sized = each_sized kind_of_prop body_of_prop v.props w.kinds (omega (arith, has_size IPCO ipco refl small)) in
    let inner = place + head_len (length ipco) in
    let props = placed kind_of_prop body_of_prop inner v.props in
    let same = placed-each kind_of_prop body_of_prop (λ (c : BoxAt) (p : Prop). prop_of c ≡ p) HasFour (λ at p four. refl) inner v.props w.kinds in
    record {
      boxes = boxes;
      framed = subst (λ (l : List ℕ). IsBoxes l place false boxes) (sym is) (then_box false IPCO ipco (box IPMA ipma) place second refl few last);
      ipco = Some (written_at place IPCO ipco);
      one = refl;
      props = record {
        boxes = props;
        framed = placed-framed kind_of_prop body_of_prop inner v.props sized;
        is = props_again props v.props same;
      };
      tables = v.assocs ∷ [];
      entries = (ipma_is wide (is_long_table v.props) v.assocs w.each w.count, tt);
      assocs = sym (append-nil v.assocs);
      distinct = w.distinct;
    }
