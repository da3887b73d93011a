use Rattle.std.proofs.Common.{◌≡◌, ◌<◌, ℕ, List, Option, Err, sym, ap, subst, ◌∙◌}
use Rattle.std.proofs.lemmas.Result.{err_from_is_err_and}
use Rattle.hf_base.specs.LocationFaults.{locations_fault}
use Rattle.hf_base.specs.Members.{Rises}
use Rattle.hf_base.specs.Reading.{Fails, IfUnfit}
use Rattle.hf_derived.specs.Cycle.{AreAmong}
use Rattle.hf_head.specs.Ftyp.{brands_of}
use Rattle.hf_store.specs.Derived.{input_pairs}
use Rattle.hf_store.specs.Seen.{items_of, stated}
use Rattle.hf_store.specs.Store.{ids_of}
use Rattle.hf_store.specs.declared.item.Item.{Item}
use Rattle.hf_read.specs.Faults.{derived_fault}
use Rattle.hf_read.specs.Reading.{store_at}
use Rattle.hf_read.specs.Seen.{parts_seen}
use Rattle.hf_read.specs.Tables.{items_in}
use Rattle.hf_read.proofs.FirstFaults.{fine}
use Rattle.hf_read.proofs.OpeningLaws.{hdlr_told, pitm_told, tables_told, places_told, derived_told, is_store, items_rise, inputs_among}
use Rattle.hf_read.proofs.opening.sound_parts.Goals as goal

pub returns-in_err-read_hdlr : goal.returns-in_err-read_hdlr
returns-in_err-read_hdlr c =
    let p = err_from_is_err_and c.from_residual.result c.from_residual.ensures.1 in
    let told = hdlr_told c.args.file.now (brands_of c.args.brands) (parts_seen c.args.meta.now) in
    rw (p.1, p.2) (told c.in_err-read_hdlr.field-0.0 c.in_err-read_hdlr.ensures.exact)

pub returns-in_err-primary : goal.returns-in_err-primary
returns-in_err-primary c =
    let p = err_from_is_err_and c.from_residual-in_err-primary.result c.from_residual-in_err-primary.ensures.1 in
    let told = pitm_told c.args.file.now (brands_of c.args.brands) (parts_seen c.args.meta.now) c.in_ok-read_hdlr.ensures.exact in
    rw (p.1, p.2) (told c.in_err-primary.field-0.0 c.in_err-primary.ensures.exact)

pub returns-in_err-tables : goal.returns-in_err-tables
returns-in_err-tables c =
    let p = err_from_is_err_and c.from_residual-in_err-tables.result c.from_residual-in_err-tables.ensures.1 in
    let told = tables_told c.args.file.now (brands_of c.args.brands) (parts_seen c.args.meta.now) c.in_ok-read_hdlr.ensures.exact in
    rw (p.1, p.2) (told c.in_ok-primary.primary c.in_ok-primary.ensures.exact c.in_err-tables.field-0.0 c.in_err-tables.ensures.exact)

pub returns-in_err-parts : goal.returns-in_err-parts
returns-in_err-parts c =
    let F = c.args.file.now in
    let t = c.in_ok-tables.ensures.exact in
    let e = c.in_err-parts.field-0.0 in
    let p = err_from_is_err_and c.from_residual-in_err-parts.result c.from_residual-in_err-parts.ensures.1 in
    let fault = c.in_err-parts.ensures t.0 t.2 in
    let here = subst (λ (o : Option (List ℕ)). IfUnfit e (λ why. locations_fault F o (items_in t.0) ≡ Err why)) c.idat_in.ensures fault in
    let told = places_told F (brands_of c.args.brands) (parts_seen c.args.meta.now) c.in_ok-read_hdlr.ensures.exact in
    rw (p.1, p.2) (told c.in_ok-primary.primary c.in_ok-primary.ensures.exact t.0 t.1 e here)

pub check_derived-requires-clause-rises : goal.check_derived-requires-clause-rises
check_derived-requires-clause-rises c =
    let t = c.in_ok-tables.ensures.exact in
    let made = (c.in_ok-parts.ensures t.0 t.2).1 in
    let rise = items_rise c.args.file.now _ (brands_of c.args.brands) c.in_ok-primary.primary t.0 (stated c.in_ok-parts.parts) made in
    subst (λ (l : List Item). Rises ◌<◌ (ids_of (items_of l))) (sym c.as_slice.ensures)
    (rise c.in_ok-tables.tables.ids.items t.2.ids c.in_ok-tables.ensures.readable.ids)

pub check_derived-requires-clause-among : goal.check_derived-requires-clause-among
check_derived-requires-clause-among c =
    let t = c.in_ok-tables.ensures.exact in
    let made = (c.in_ok-parts.ensures t.0 t.2).1 in
    subst (λ (l : List Item). AreAmong (ids_of (items_of l)) (input_pairs (items_of l))) (sym c.as_slice.ensures)
    (inputs_among c.args.file.now _ (brands_of c.args.brands) c.in_ok-primary.primary t.0 (stated c.in_ok-parts.parts) made)

pub returns-in_err-check_derived : goal.returns-in_err-check_derived
returns-in_err-check_derived c =
    let F = c.args.file.now in
    let brands = brands_of c.args.brands in
    let primary = c.in_ok-primary.primary in
    let s = stated c.in_ok-parts.parts in
    let t = c.in_ok-tables.ensures.exact in
    let x = c.in_ok-parts.ensures t.0 t.2 in
    let placed = subst (λ (o : Option (List ℕ)). locations_fault F o (items_in t.0) ≡ fine) c.idat_in.ensures x.0 in
    let made = subst (λ (o : Option (List ℕ)). s ≡ store_at F o brands primary t.0) c.idat_in.ensures x.1 in
    let e = c.in_err-check_derived.field-0.0 in
    let derived = subst (λ (l : List Item). Fails e (derived_fault (items_of l))) c.as_slice.ensures c.in_err-check_derived.ensures in
    let p = err_from_is_err_and c.from_residual-in_err-check_derived.result c.from_residual-in_err-check_derived.ensures.1 in
    let told = derived_told F brands (parts_seen c.args.meta.now) c.in_ok-read_hdlr.ensures.exact primary c.in_ok-primary.ensures.exact in
    rw (p.1, p.2) (told t.0 t.1 placed s made e derived)

pub returns : goal.returns
returns c =
    let F = c.args.file.now in
    let brands = brands_of c.args.brands in
    let primary = c.in_ok-primary.primary in
    let s = stated c.in_ok-parts.parts in
    let t = c.in_ok-tables.ensures.exact in
    let x = c.in_ok-parts.ensures t.0 t.2 in
    let placed = subst (λ (o : Option (List ℕ)). locations_fault F o (items_in t.0) ≡ fine) c.idat_in.ensures x.0 in
    let made = subst (λ (o : Option (List ℕ)). s ≡ store_at F o brands primary t.0) c.idat_in.ensures x.1 in
    let derived = ap (λ (l : List Item). derived_fault (items_of l)) (sym c.as_slice.ensures) ∙ c.in_ok-check_derived.ensures in
    let store = is_store F brands (parts_seen c.args.meta.now) c.in_ok-read_hdlr.ensures.exact primary c.in_ok-primary.ensures.exact in
    store t.0 t.1 placed s made derived
