-- Bytes given to a page one behind the other.
use Rattle.std.proofs.Common.{◌≡◌, ℕ, ◌<◌, ◌≤◌, ◌+◌, List, [], ◌++◌, length, take, drop, get_or, subst, Ok, Err, IsErr, refl, sym, ◌∙◌, ap, append-nil, append_assoc}
use Rattle.std.specs.List.{flat_map}
use Rattle.std.proofs.lemmas.List.{take-append-drop, take_more, take_all, flat_map_more}
use Rattle.std.proofs.lemmas.List.Concat.{flat_map-append}
use Rattle.hf_desk.specs.Outside.{Outside}
use Rattle.hf_desk.specs.Calls.{Puts, Says}
use Rattle.hf_desk.specs.Pages.{Call, ByPut, BySay, Writes, Gives}
use Rattle.hf_desk.proofs.Joined.{Wrote}
use Rattle.hf_desk.proofs.Written.{writes_nothing, writes_then, writes_more, writes_exit}

-- nothing is given at first
pub gives_nothing : (call : Call) (o : Outside) (held : List ℕ) → Gives call o held [] (Ok tt) o held
gives_nothing call o held = record { front = []; rest = held; whole = sym (append-nil held); writes = writes_nothing call o; ok = refl; err = tt }

-- a piece that fits is kept
pub gives_kept : (call : Call) (o : Outside) (held piece : List ℕ) → Gives call o held piece (Ok tt) o (held ++ piece)
gives_kept call o held piece = record { front = []; rest = held ++ piece; whole = refl; writes = writes_nothing call o; ok = refl; err = tt }

module _ (call : Call) (a b : Outside) (h x : List ℕ) where
  -- what the page held was not written whole
  pub gives_unwritten : (r s : Wrote) → IsErr r → IsErr s → Writes call a h r b → Gives call a h x s b []
  gives_unwritten r (Ok s) ie is p = absurd (cc (is))
  gives_unwritten r (Err e) ie is p = record { front = h; rest = x; whole = refl; writes = writes_exit call a b h r (Err e) ie is p; ok = tt; err = refl }

  -- what the page held was written, and the piece behind it
  pub gives_past : (c : Outside) (s : Wrote) → Writes call a h (Ok tt) b → Writes call b x s c → Gives call a h x s c []
  gives_past c (Ok s) p q = record { front = h ++ x; rest = []; whole = append-nil (h ++ x); writes = writes_then call a b c h x (Ok s) p q; ok = refl; err = tt }
  gives_past c (Err e) p q = record { front = h ++ x; rest = []; whole = append-nil (h ++ x); writes = writes_then call a b c h x (Err e) p q; ok = tt; err = refl }

module _ {call : Call} {a b : Outside} {h x m : List ℕ} where
  -- after bytes that were given, more are given
  pub gives_then : {c : Outside} {y n : List ℕ} {s : Wrote} → Gives call a h x (Ok tt) b m → Gives call b m y s c n → Gives call a h (x ++ y) s c n
  gives_then {c = c} {y = y} {s = s} p q =
      let first : p.front ++ m ≡ h ++ x = ap (λ (l : List ℕ). p.front ++ l) (sym p.ok) ∙ p.whole in
      let next : (p.front ++ q.front) ++ q.rest ≡ p.front ++ (m ++ y) = append_assoc p.front q.front q.rest ∙ ap (λ (l : List ℕ). p.front ++ l) q.whole in
      record {
        front = p.front ++ q.front;
        rest = q.rest;
        whole = next ∙ sym (append_assoc p.front m y) ∙ ap (λ (l : List ℕ). l ++ y) first ∙ append_assoc h x y;
        writes = writes_then call a b c p.front q.front s p.writes q.writes;
        ok = q.ok;
        err = q.err;
      }

  -- after bytes that were not given whole, no more are given
  pub gives_more : {r : Wrote} (y : List ℕ) → IsErr r → Gives call a h x r b m → Gives call a h (x ++ y) r b m
  gives_more {r = Ok r} y ie p = absurd (cc (ie))
  gives_more {r = Err e} y ie p = record {
    front = p.front;
    rest = p.rest ++ y;
    whole = sym (append_assoc p.front p.rest y) ∙ ap (λ (l : List ℕ). l ++ y) p.whole ∙ append_assoc h x y;
    writes = p.writes;
    ok = tt;
    err = p.err;
  }

  -- the exit of a `?`
  pub gives_exit : {r s : Wrote} → IsErr r → IsErr s → Gives call a h x r b m → Gives call a h x s b m
  gives_exit {r = Ok r} ie is p = absurd (cc (ie))
  gives_exit {r = Err e} {s = Ok s} ie is p = absurd (cc (is))
  gives_exit {r = Err e} {s = Err f} ie is p = record { front = p.front; rest = p.rest; whole = p.whole; writes = writes_exit call a b p.front (Err e) (Err f) refl refl p.writes; ok = tt; err = p.err }

-- the same, of bytes that are these
pub gives_as : {call : Call} {a b : Outside} {h x y m : List ℕ} {r : Wrote} → x ≡ y → Gives call a h x r b m → Gives call a h y r b m
gives_as {call = call} {a = a} {b = b} {h = h} {m = m} {r = r} e p = subst (λ (l : List ℕ). Gives call a h l r b m) e p

-- the exit of a `?` behind bytes that were not given whole, where more was to come
pub gives_stops : {call : Call} {a b : Outside} {h x m : List ℕ} {r s : Wrote} (rest : List ℕ) → IsErr r → IsErr s → Gives call a h x r b m → Gives call a h (x ++ rest) s b m
gives_stops rest ir is p = gives_exit ir is (gives_more rest ir p)

-- what is given to an empty page, which is then written, is written
gives_end : (call : Call) (a b c : Outside) (x m : List ℕ) (s : Wrote) → Gives call a [] x (Ok tt) b m → Writes call b m s c → Writes call a x s c
gives_end call a b c x m s p q =
    let whole : p.front ++ m ≡ x = ap (λ (l : List ℕ). p.front ++ l) (sym p.ok) ∙ p.whole in
    subst (λ (l : List ℕ). Writes call a l s c) whole (writes_then call a b c p.front m s p.writes q)

-- of what could not be given to an empty page a front was written
gives_stop : (call : Call) (a b : Outside) (x m : List ℕ) (r s : Wrote) → IsErr r → IsErr s → Gives call a [] x r b m → Writes call a x s b
gives_stop call a b x m r s ie is p =
    subst (λ (l : List ℕ). Writes call a l s b) p.whole (writes_more call a b p.front p.rest s is (writes_exit call a b p.front r s ie is p.writes))

module _ {a b : Outside} {x m : List ℕ} where
  pub put_end : {c : Outside} {s : Wrote} → Gives ByPut a [] x (Ok tt) b m → Puts b m s c → Puts a x s c
  put_end {c = c} {s = s} p q = gives_end ByPut a b c x m s p q

  pub put_stop : {r s : Wrote} → IsErr r → IsErr s → Gives ByPut a [] x r b m → Puts a x s b
  put_stop {r = r} {s = s} ie is p = gives_stop ByPut a b x m r s ie is p

  pub say_end : {c : Outside} {s : Wrote} → Gives BySay a [] x (Ok tt) b m → Says b m s c → Says a x s c
  say_end {c = c} {s = s} p q = gives_end BySay a b c x m s p q

  pub say_stop : {r s : Wrote} → IsErr r → IsErr s → Gives BySay a [] x r b m → Says a x s b
  say_stop {r = r} {s = s} ie is p = gives_stop BySay a b x m r s ie is p

-- one part for each element
module _ {call : Call} {X : Type 0} (f : X → List ℕ) (xs : List X) (i : ℕ) (d : X) (less : i < length xs) where
  pub gives_each : {a b c : Outside} {h m n : List ℕ} {s : Wrote} → Gives call a h (flat_map f (take i xs)) (Ok tt) b m → Gives call b m (f (get_or xs i d)) s c n → Gives call a h (flat_map f (take (i + 1) xs)) s c n
  gives_each p q =
      let more : flat_map f (take i xs) ++ f (get_or xs i d) ≡ flat_map f (take (i + 1) xs) = flat_map_more f [] (take i xs) (get_or xs i d) ∙ ap (λ (l : List X). flat_map f l) (sym (take_more xs i d less)) in
      gives_as more (gives_then p q)

  -- the part of this element could not be given
  pub gives_each_stop : {a b c : Outside} {h m n : List ℕ} {r s : Wrote} → IsErr r → IsErr s → Gives call a h (flat_map f (take i xs)) (Ok tt) b m → Gives call b m (f (get_or xs i d)) r c n → Gives call a h (flat_map f xs) s c n
  gives_each_stop ir is p q =
      let whole : flat_map f (take (i + 1) xs) ++ flat_map f (drop (i + 1) xs) ≡ flat_map f xs = sym (flat_map-append f (take (i + 1) xs) (drop (i + 1) xs)) ∙ ap (λ (l : List X). flat_map f l) (take-append-drop (i + 1) xs) in
      gives_as whole (gives_stops (flat_map f (drop (i + 1) xs)) ir is (gives_each p q))

-- the part of each element was given
pub gives_all : {call : Call} {X : Type 0} (f : X → List ℕ) (xs : List X) (i : ℕ) {a b : Outside} {h m : List ℕ} {s : Wrote} → length xs ≤ i → Gives call a h (flat_map f (take i xs)) s b m → Gives call a h (flat_map f xs) s b m
gives_all {X = X} f xs i all p = gives_as (ap (λ (l : List X). flat_map f l) (take_all i xs all)) p
