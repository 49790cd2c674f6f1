-- Whole numbers (Avro specification, "Binary Encoding").
use Rattle.std.specs.Prelude.{◌≡◌, ℕ, ◌+◌, ◌*◌, ◌<◌, ◌≤◌, List, [], ◌∷◌, ◌++◌, length, ℤ, pos, negsuc}
use Rattle.std.specs.List.{AllByRecursion}
use Rattle.avro_binary.specs.Fault.{Fault, Lacks, Wrong}

-- Groups of seven bits, the lowest first. A byte below 128 is the last; one from 128 on has seven bits, and the bytes
-- after it stand for the rest, which may be 0.
abbrev pub IsGroups : List ℕ → ℕ → Type 0
IsGroups [] n = ⊥
IsGroups (b ∷ []) n = (b < 128) × (n ≡ b)
IsGroups (b ∷ c ∷ bytes) n = (128 ≤ b) × (b < 256) × (high : ℕ) × (n + 128 ≡ b + 128 * high) × IsGroups (c ∷ bytes) high

-- at most so many groups, and no greater number
pub record IsNumber (most max : ℕ) (bytes : List ℕ) (n : ℕ) : Type 0 where
  pub groups : IsGroups bytes n
  pub short : length bytes ≤ most
  pub fits : n ≤ max

-- numbers of both signs, those near 0 with few bits
abbrev pub zigzag : ℤ → ℕ
zigzag (pos n) = 2 * n
zigzag (negsuc n) = 2 * n + 1

abbrev pub max_int : ℕ
max_int = 0xffff_ffff

abbrev pub max_long : ℕ
max_long = 0xffff_ffff_ffff_ffff

abbrev pub IsInt : List ℕ → ℤ → Type 0
IsInt bytes z = IsNumber 5 max_int bytes (zigzag z)

abbrev pub IsLong : List ℕ → ℤ → Type 0
IsLong bytes z = IsNumber 10 max_long bytes (zigzag z)

-- each byte says that more follow
abbrev pub AllGoOn : List ℕ → Type 0
AllGoOn bytes = AllByRecursion (λ b. 128 ≤ b) bytes

-- why no such number is there
pub data NumberFault (most max : ℕ) (bytes : List ℕ) (f : Fault) : Type 0 where
  GoesOn : AllGoOn bytes → length bytes < most → f ≡ Lacks 0 (length bytes + 1) → NumberFault most max bytes f
  TooLong : (front rest : List ℕ) → bytes ≡ front ++ rest → AllGoOn front → length front ≡ most → f ≡ Wrong 0 → NumberFault most max bytes f
  TooWide : (front rest : List ℕ) (n : ℕ) → bytes ≡ front ++ rest → IsGroups front n → length front ≤ most → max < n → f ≡ Wrong 0 → NumberFault most max bytes f

abbrev pub IntFault : List ℕ → Fault → Type 0
IntFault bytes f = NumberFault 5 max_int bytes f

abbrev pub LongFault : List ℕ → Fault → Type 0
LongFault bytes f = NumberFault 10 max_long bytes f
