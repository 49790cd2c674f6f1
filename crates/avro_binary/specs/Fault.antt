-- Why bytes begin with no value.
use Rattle.std.specs.Prelude.{◌≡◌, ℕ, ◌+◌, List, ◌++◌, length}

-- counted from the value's first byte
pub data Fault : Type 0 where
  -- the bytes end within the field at the first offset, which could be whole with the second number of bytes
  Lacks : ℕ → ℕ → Fault
  -- the field at this offset is whole, and is the first at fault
  Wrong : ℕ → Fault

abbrev pub shift : ℕ → Fault → Fault
shift n (Lacks at m) = Lacks (n + at) (n + m)
shift n (Wrong m) = Wrong (n + m)

-- a value, and after it a fault
pub record Behind {V : Type 0} (Spells : List ℕ → V → Type 0) (Faults : List ℕ → Fault → Type 0) (bytes : List ℕ) (f : Fault) : Type 0 where
  pub front : List ℕ
  pub rest : List ℕ
  pub value : V
  pub inner : Fault
  pub whole : bytes ≡ front ++ rest
  pub spelled : Spells front value
  pub fault : Faults rest inner
  pub shifted : f ≡ shift (length front) inner
