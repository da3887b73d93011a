use Rattle.std.proofs.Common.{arith}
use Rattle.std.proofs.lemmas.Result.{err_from_is_err_and}
use Rattle.hf_box.specs.Boxes.{boxes_of}
use Rattle.hf_head.specs.Ftyp.{brands_of}
use Rattle.hf_store.specs.Seen.{stated}
use Rattle.hf_read.specs.Seen.{parts_seen}
use Rattle.hf_read.proofs.OpeningLaws.{sound, fault_read, built, is_meta, meta_told}
use Rattle.hf_read.proofs.opening.store_of.Goals as goal

pub returns-in_err-meta : goal.returns-in_err-meta
returns-in_err-meta c =
    let p = err_from_is_err_and c.from_residual.result c.from_residual.ensures.1 in
    let told = meta_told c.args.file.now (boxes_of c.args.boxes.now) (brands_of c.args.brands) c.requires.framed c.requires.brands in
    rw (p.1, p.2) (told c.in_err-meta.field-0.0 c.in_err-meta.ensures.exact)

pub returns-in_err-parts : goal.returns-in_err-parts
returns-in_err-parts c =
    let F = c.args.file.now in
    let brands = brands_of c.args.brands in
    let parts = parts_seen c.in_ok-meta.meta in
    let m = is_meta F (boxes_of c.args.boxes.now) brands c.requires.framed c.requires.brands parts c.in_ok-meta.ensures.exact in
    let p = err_from_is_err_and c.from_residual-in_err-parts.result c.from_residual-in_err-parts.ensures.1 in
    rw (p.1, p.2) (fault_read F brands parts m c.in_err-parts.field-0.0 c.in_err-parts.ensures)

pub build-requires : goal.build-requires
build-requires c =
    let F = c.args.file.now in
    let brands = brands_of c.args.brands in
    let parts = parts_seen c.in_ok-meta.meta in
    let m = is_meta F (boxes_of c.args.boxes.now) brands c.requires.framed c.requires.brands parts c.in_ok-meta.ensures.exact in
    sound F brands parts (stated c.in_ok-parts.parts) (λ i. omega (arith, c.type_inv.file i)) c.requires.fits m c.in_ok-parts.ensures

pub returns : goal.returns
returns c =
    let F = c.args.file.now in
    let brands = brands_of c.args.brands in
    let parts = parts_seen c.in_ok-meta.meta in
    let m = is_meta F (boxes_of c.args.boxes.now) brands c.requires.framed c.requires.brands parts c.in_ok-meta.ensures.exact in
    built F brands parts (stated c.in_ok-parts.parts) m c.in_ok-parts.ensures c.build.result c.build.ensures
