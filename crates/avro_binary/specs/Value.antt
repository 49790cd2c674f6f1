-- Values of one or two fields (Avro specification, "Binary Encoding").
use Rattle.std.specs.Prelude.{◌≡◌, ℕ, ◌+◌, ◌<◌, Bool, true, false, List, [], ◌∷◌, ◌++◌, length, pos, negsuc}
use Rattle.std.specs.Str.{IsUtf8}
use Rattle.avro_binary.specs.Fault.{Fault, Lacks, Wrong}
use Rattle.avro_binary.specs.Number.{IsLong, LongFault}

abbrev pub IsBoolean : List ℕ → Bool → Type 0
IsBoolean bytes true = bytes ≡ 1 ∷ []
IsBoolean bytes false = bytes ≡ 0 ∷ []

pub data BooleanFault (bytes : List ℕ) (f : Fault) : Type 0 where
  NoByte : bytes ≡ [] → f ≡ Lacks 0 1 → BooleanFault bytes f
  OtherByte : (b : ℕ) (rest : List ℕ) → bytes ≡ b ∷ rest → 1 < b → f ≡ Wrong 0 → BooleanFault bytes f

-- bytes after their length
pub record IsBytes (bytes content : List ℕ) : Type 0 where
  pub front : List ℕ
  pub whole : bytes ≡ front ++ content
  pub counted : IsLong front (pos (length content))

-- the length and the bytes are two fields
pub data BytesFault (bytes : List ℕ) (f : Fault) : Type 0 where
  InLength : LongFault bytes f → BytesFault bytes f
  Negative : (front rest : List ℕ) (n : ℕ) → bytes ≡ front ++ rest → IsLong front (negsuc n) → f ≡ Wrong 0 → BytesFault bytes f
  Cut : (front rest : List ℕ) (n : ℕ) → bytes ≡ front ++ rest → IsLong front (pos n) → length rest < n → f ≡ Lacks (length front) (length front + n) → BytesFault bytes f

pub record IsText (bytes text : List ℕ) : Type 0 where
  pub counted : IsBytes bytes text
  pub utf8 : IsUtf8 text

pub data TextFault (bytes : List ℕ) (f : Fault) : Type 0 where
  InBytes : BytesFault bytes f → TextFault bytes f
  NotUtf8 : (front content rest : List ℕ) → bytes ≡ front ++ (content ++ rest) → IsLong front (pos (length content)) → (IsUtf8 content → ⊥) → f ≡ Wrong (length front) → TextFault bytes f

abbrev pub IsFixed : List ℕ → List ℕ → Type 0
IsFixed bytes content = (bytes ≡ content) × (length content ≡ 16)

abbrev pub FixedFault : List ℕ → Fault → Type 0
FixedFault bytes f = (length bytes < 16) × (f ≡ Lacks 0 16)
