use Rattle.std.proofs.Common.{◌≡◌, ◌≤◌, ◌+◌, ℕ, length, map, take}
use Rattle.std.specs.Prelude.{Some, string_bytes}
use Rattle.std.specs.Global.{Vec}
use Rattle.std.specs.List.{All}
use Rattle.hf_base.specs.declared.limits.TheConstants.{FILE}
use Rattle.hf_desk.specs.Calls.{ReadsOnly}
use Rattle.hf_desk.specs.Outside.{Files}
use Rattle.hf_text.specs.Commands.{edit_of}
use Rattle.hf_app.specs.Sources.{Whole, content_of, read_of, sources_from}
use Rattle.hf_app.proofs.sources.read_sources.Given as goal

abbrev pub invariant-loop-edit : goal.invariant-loop-edit
invariant-loop-edit g l =
    let ws = map (edit_of (map string_bytes l.words)) l.edits in
    record {
      number : l.number ≡ l.edit-index + 1;
      only : ReadsOnly (g.D.Desk.outside l.fn.desk) (g.D.Desk.outside l.desk);
      count : length l.files.items ≡ l.edit-index;
      within : All (λ (f : Vec ℕ). length f.items ≤ FILE) l.files.items;
      read : (told : Files) → (g.D.Desk.outside l.fn.desk).files ≡ Some told
          → (read_of (Some told) (sources_from 1 (take l.edit-index ws)) ≡ Whole)
          × (map (λ (f : Vec ℕ). f.items) l.files.items ≡ map (content_of (Some told)) (take l.edit-index ws));
    }
