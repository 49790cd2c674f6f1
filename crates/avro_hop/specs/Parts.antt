-- Fields one after another, and values that may be missing.
use Rattle.std.specs.Prelude.{◌≡◌, ◌<◌, ℕ, List, ◌++◌, length, ◌⊎◌, Option, Some, None, ℤ, pos}
use Rattle.avro_binary.specs.Fault.{Fault, Lacks, Wrong, shift, Behind}
use Rattle.avro_binary.specs.Number.{IsInt, IntFault}

-- a value of one kind, and after it one of another
pub record IsPair {V W : Type 0} (First : List ℕ → V → Type 0) (Second : List ℕ → W → Type 0) (bytes : List ℕ) (v : V) (w : W) : Type 0 where
  pub front : List ℕ
  pub back : List ℕ
  pub whole : bytes ≡ front ++ back
  pub first : First front v
  pub second : Second back w

-- the first fault of the two
abbrev pub PairFault : {V : Type 0} → (List ℕ → V → Type 0) → (List ℕ → Fault → Type 0) → (List ℕ → Fault → Type 0) → List ℕ → Fault → Type 0
PairFault First FirstFault SecondFault bytes f = FirstFault bytes f ⊎ Behind First SecondFault bytes f

-- a union of null and a value: its index, and the value after index 1
abbrev pub IsOption : {V : Type 0} → (List ℕ → V → Type 0) → List ℕ → Option V → Type 0
IsOption Spells bytes None = IsInt bytes (pos 0)
IsOption Spells bytes (Some v) = IsPair IsInt Spells bytes (pos 1) v

pub data OptionFault (Faults : List ℕ → Fault → Type 0) (bytes : List ℕ) (f : Fault) : Type 0 where
  InIndex : IntFault bytes f → OptionFault Faults bytes f
  OtherIndex : (front rest : List ℕ) (z : ℤ) → bytes ≡ front ++ rest → IsInt front z → (z ≡ pos 0 → ⊥) → (z ≡ pos 1 → ⊥) → f ≡ Wrong 0 → OptionFault Faults bytes f
  InValue : (front rest : List ℕ) (inner : Fault) → bytes ≡ front ++ rest → IsInt front (pos 1) → Faults rest inner → f ≡ shift (length front) inner → OptionFault Faults bytes f

-- a value, and no byte after it
pub record Trailing {V : Type 0} (Spells : List ℕ → V → Type 0) (bytes : List ℕ) (f : Fault) : Type 0 where
  pub front : List ℕ
  pub rest : List ℕ
  pub value : V
  pub whole : bytes ≡ front ++ rest
  pub some : 0 < length rest
  pub spelled : Spells front value
  pub at : f ≡ Wrong (length front)

abbrev pub WholeFault : {V : Type 0} → (List ℕ → V → Type 0) → (List ℕ → Fault → Type 0) → List ℕ → Fault → Type 0
WholeFault Spells Faults bytes f = Faults bytes f ⊎ Trailing Spells bytes f

-- the first byte of the first field that isn't whole or is at fault
abbrev pub place : Fault → ℕ
place (Lacks at need) = at
place (Wrong at) = at
