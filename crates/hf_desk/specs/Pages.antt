-- Bytes that are gathered on a page, and written by the pageful. This is this project's own rule.
use Rattle.std.specs.Prelude.{◌≡◌, ℕ, List, [], ◌++◌, true, Result, OnOk, OnErr, ⊤}
use Rattle.hf_desk.specs.Outside.{Outside}
use Rattle.hf_desk.specs.Calls.{Puts, Says}
use Rattle.hf_desk.specs.declared.write.WriteFault.{WriteFault}

-- The two calls of a desk that write bytes.
pub data Call : Type 0 where
  -- into the file that is made
  ByPut : Call
  -- to what is said
  BySay : Call

-- When the call may be made.
abbrev pub MayWrite : Call → Outside → Type 0
MayWrite ByPut o = o.creating ≡ true
MayWrite BySay o = ⊤

-- A piece is put, or said.
abbrev pub Writes : Call → Outside → List ℕ → Result (Unit {0}) WriteFault → Outside → Type 0
Writes ByPut = Puts
Writes BySay = Says

-- Bytes are given to a page that holds some: a front of both, joined, is written, and the page is left with the rest;
-- after a fault, which ends the writing of that front, the page is left with nothing.
pub record Gives (call : Call) (old : Outside) (held bytes : List ℕ) (result : Result (Unit {0}) WriteFault) (new : Outside) (left : List ℕ) : Type 0 where
  pub front : List ℕ
  pub rest : List ℕ
  pub whole : front ++ rest ≡ held ++ bytes
  pub writes : Writes call old front result new
  pub ok : OnOk result (rest ≡ left)
  pub err : OnErr result (left ≡ [])
