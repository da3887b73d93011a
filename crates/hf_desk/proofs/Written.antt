-- Pieces written one behind the other, by either call.
use Rattle.std.proofs.Common.{ℕ, List, [], ◌++◌, Ok, IsErr}
use Rattle.hf_desk.specs.Outside.{Outside}
use Rattle.hf_desk.specs.Pages.{Call, ByPut, BySay, Writes}
use Rattle.hf_desk.proofs.Joined as put
use Rattle.hf_desk.proofs.Joined.{Wrote}
use Rattle.hf_desk.proofs.Spoken as say

-- nothing is written at first
pub writes_nothing : (call : Call) (o : Outside) → Writes call o [] (Ok tt) o
writes_nothing ByPut o = put.puts_nothing o
writes_nothing BySay o = say.says_nothing o

-- after a piece that was written, another is written
pub writes_then : (call : Call) (a b c : Outside) (x y : List ℕ) (s : Wrote) → Writes call a x (Ok tt) b → Writes call b y s c → Writes call a (x ++ y) s c
writes_then ByPut a b c x y s p q = put.puts_then p q
writes_then BySay a b c x y s p q = say.says_then p q

-- after a piece that wasn't written whole, nothing more is written
pub writes_more : (call : Call) (a b : Outside) (x y : List ℕ) (r : Wrote) → IsErr r → Writes call a x r b → Writes call a (x ++ y) r b
writes_more ByPut a b x y r ie p = put.puts_more y ie p
writes_more BySay a b x y r ie p = say.says_more y ie p

-- the exit of a `?`
pub writes_exit : (call : Call) (a b : Outside) (x : List ℕ) (r s : Wrote) → IsErr r → IsErr s → Writes call a x r b → Writes call a x s b
writes_exit ByPut a b x r s ie is p = put.puts_exit ie is p
writes_exit BySay a b x r s ie is p = say.says_exit ie is p
