-- Worked bodies of `iinf`.
use Prim.Native.String.{String as Text}
use Rattle.std.specs.Prelude.{ℕ, Bool, false, List, [], codes}
use Rattle.hf_base.specs.declared.kinds.TheConstants.{IINF}
use Rattle.hf_box.specs.Boxes.{BoxAt}
use Rattle.hf_box.specs.Literals.{four}
use Rattle.hf_info.specs.Infe.{Info}

-- an `iinf` at place 83, with a header of eight bytes: the boxes in it begin at 97 in version 0, and at 99 in version 1
abbrev pub iinf_of : List ℕ → BoxAt
iinf_of body = record { kind = IINF; at = 83; head = 8; body = body }

-- an entry of this type with a name
abbrev pub named : ℕ → Text → Bool → Text → Info
named id kind hidden name = record {
  id = id;
  kind = four kind;
  hidden = hidden;
  name = codes name;
  content = [];
  encoding = [];
  uri = [];
}

abbrev pub mime_named : ℕ → Bool → Text → Text → Text → Info
mime_named id hidden name content encoding = record {
  id = id;
  kind = four "mime";
  hidden = hidden;
  name = codes name;
  content = codes content;
  encoding = codes encoding;
  uri = [];
}

abbrev pub uri_named : ℕ → Text → Text → Info
uri_named id name uri = record {
  id = id;
  kind = four "uri ";
  hidden = false;
  name = codes name;
  content = [];
  encoding = [];
  uri = codes uri;
}
