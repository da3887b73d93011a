-- Steps that are read one after the other may be taken together.
use Rattle.std.proofs.Common.{◌≡◌, Result, Ok, Err, refl}
use Rattle.hf_base.specs.Reading.{◌>>=◌}
use Rattle.hf_base.specs.declared.fault.ReadRefusal.{ReadRefusal}

pub joined : {A B C : Type 0} (r : Result A ReadRefusal) (f : A → Result B ReadRefusal) (g : B → Result C ReadRefusal) → ((r >>= f) >>= g) ≡ (r >>= λ x. f x >>= g)
joined (Ok x) f g = refl
joined (Err e) f g = refl

pub same_steps : {A B : Type 0} (r : Result A ReadRefusal) (f g : A → Result B ReadRefusal) → ((x : A) → f x ≡ g x) → (r >>= f) ≡ (r >>= g)
same_steps (Ok x) f g h = h x
same_steps (Err e) f g h = refl
