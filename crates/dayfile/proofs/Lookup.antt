-- Where an empty part of a file lies: at the file's first byte.
use Prim.Native.Nat.{ℕ, ◌+◌}
use mathlib.Core.List.{List}
use mathlib.Core.Path.{◌≡◌, sym, ap}
use native.Mathlib.Nat.{zero-add}
use denote.Ref.{Bor}

pub at_start : (file : Bor (List ℕ)) → file.ref_ptr ≡ (file.ref_ptr.0, 0 + file.ref_ptr.1)
at_start file = ap (λ (o : ℕ). (file.ref_ptr.0, o)) (sym (zero-add file.ref_ptr.1))
