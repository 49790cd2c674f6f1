-- What a reader answers.
use Rattle.std.specs.Prelude.{◌≡◌, ℕ, ◌+◌, ◌-◌, ◌≤◌, List, length, take, drop, Result, Ok, Err}
use Rattle.avro_binary.specs.declared.refused.ValueRefused.{ValueRefused}
use Rattle.avro_binary.specs.declared.refused.ValueRefused.TheVariants.{Short, Bad, TooLarge, NoMemory}
use Rattle.avro_binary.specs.Fault.{Fault, Lacks, Wrong}

-- the bytes from one offset to another
abbrev pub part : List ℕ → ℕ → ℕ → List ℕ
part bytes at end = take (end - at) (drop at bytes)

-- both offsets are within the bytes
abbrev pub IsPart : List ℕ → ℕ → ℕ → Type 0
IsPart bytes at end = (at ≤ end) × (end ≤ length bytes)

-- the first field that isn't whole, and the number of bytes that it needs
abbrev pub LacksAt : (List ℕ → Fault → Type 0) → List ℕ → ℕ → ℕ → ℕ → Type 0
LacksAt Faults bytes at field need = (p : ℕ) × (n : ℕ) × (field ≡ at + p) × (need ≡ at + n) × Faults (drop at bytes) (Lacks p n)

-- the first field at fault
abbrev pub WrongAt : (List ℕ → Fault → Type 0) → List ℕ → ℕ → ℕ → Type 0
WrongAt Faults bytes at field = (p : ℕ) × (field ≡ at + p) × Faults (drop at bytes) (Wrong p)

-- the answer is the fault of the bytes from the offset on; it takes no memory
abbrev pub IsFault : (List ℕ → Fault → Type 0) → List ℕ → ℕ → ValueRefused → Type 0
IsFault Faults bytes at (Short field need) = LacksAt Faults bytes at field need
IsFault Faults bytes at (Bad field) = WrongAt Faults bytes at field
IsFault Faults bytes at (TooLarge size end) = ⊥
IsFault Faults bytes at NoMemory = ⊥

-- a value and the offset after it, or the fault
abbrev pub Reads : {V X : Type 0} → (X → V) → (List ℕ → V → Type 0) → (List ℕ → Fault → Type 0) → List ℕ → ℕ → Result (X × ℕ) ValueRefused → Type 0
Reads view Spells Faults bytes at (Ok found) = IsPart bytes at found.1 × Spells (part bytes at found.1) (view found.0)
Reads view Spells Faults bytes at (Err e) = IsFault Faults bytes at e

-- where the content of a value begins and ends, which is where the value ends
abbrev pub ReadsContent : (List ℕ → List ℕ → Type 0) → (List ℕ → Fault → Type 0) → List ℕ → ℕ → Result (ℕ × ℕ) ValueRefused → Type 0
ReadsContent Spells Faults bytes at (Ok found) = (at ≤ found.0) × IsPart bytes found.0 found.1 × Spells (part bytes at found.1) (part bytes found.0 found.1)
ReadsContent Spells Faults bytes at (Err e) = IsFault Faults bytes at e

-- the offset after some value
abbrev pub ReadsOver : {V : Type 0} → (List ℕ → V → Type 0) → (List ℕ → Fault → Type 0) → List ℕ → ℕ → Result ℕ ValueRefused → Type 0
ReadsOver {V} Spells Faults bytes at (Ok end) = IsPart bytes at end × ((value : V) × Spells (part bytes at end) value)
ReadsOver Spells Faults bytes at (Err e) = IsFault Faults bytes at e
