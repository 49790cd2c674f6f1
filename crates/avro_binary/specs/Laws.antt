-- What holds of all spellings.
use Rattle.std.specs.Prelude.{◌≡◌, ◌<◌, ◌≤◌, ◌^◌, ℕ, ◌*◌, Bool, List, ◌++◌, length, ℤ, FitsSigned, None}
use Rattle.std.specs.Int.{w32, w64}
use Rattle.std.specs.List.{AllByRecursion}
use Rattle.std.specs.Str.{IsUtf8}
use Rattle.event_core.specs.Content.{Header, Content, AreHeaders, size}
use Rattle.avro_binary.specs.Fault.{Fault}
use Rattle.avro_binary.specs.Number.{IsInt, IsLong}
use Rattle.avro_binary.specs.Value.{IsBoolean, IsBytes, IsText}
use Rattle.avro_binary.specs.Event.{IsEvent, IsBatch, first_large, max_size}
use Rattle.avro_binary.specs.Written.{written_number, written_boolean, written_bytes, written_event, written_batch}

-- No spelling begins another of its type, and each is of one value.
abbrev pub IsPrefixFree : {V : Type 0} → (List ℕ → V → Type 0) → Type 0
IsPrefixFree {V} Spells = (a b x y : List ℕ) (v w : V) → Spells a v → Spells b w → a ++ x ≡ b ++ y → (a ≡ b) × (v ≡ w)

-- Where a spelling stands there is no fault, whatever follows.
abbrev pub ExcludesFaults : {V : Type 0} → (List ℕ → V → Type 0) → (List ℕ → Fault → Type 0) → Type 0
ExcludesFaults {V} Spells Faults = (front rest : List ℕ) (value : V) (f : Fault) → Spells front value → Faults (front ++ rest) f → ⊥

-- What is at fault is at fault at one place.
abbrev pub HasOneFault : (List ℕ → Fault → Type 0) → Type 0
HasOneFault Faults = (bytes : List ℕ) (f g : Fault) → Faults bytes f → Faults bytes g → f ≡ g

-- What is written is a spelling.
abbrev pub IntsAreSpelled : Type 0
IntsAreSpelled = (z : ℤ) → FitsSigned w32 z → IsInt (written_number z) z

abbrev pub LongsAreSpelled : Type 0
LongsAreSpelled = (z : ℤ) → FitsSigned w64 z → IsLong (written_number z) z

abbrev pub BooleansAreSpelled : Type 0
BooleansAreSpelled = (b : Bool) → IsBoolean (written_boolean b) b

abbrev pub BytesAreSpelled : Type 0
BytesAreSpelled = (content : List ℕ) → length content < 2 ^ 63 → IsBytes (written_bytes content) content

abbrev pub TextsAreSpelled : Type 0
TextsAreSpelled = (text : List ℕ) → length text < 2 ^ 63 → IsUtf8 text → IsText (written_bytes text) text

-- an event that memory holds
abbrev pub IsShortHeader : Header → Type 0
IsShortHeader header = (length header.0 < 2 ^ 63) × (length header.1 < 2 ^ 63)

pub record FitsMemory (event : Content) : Type 0 where
  pub well_formed : AreHeaders event.headers
  pub few : length event.headers < 2 ^ 63
  pub short : AllByRecursion IsShortHeader event.headers
  pub body : length event.body < 2 ^ 63

abbrev pub EventsAreSpelled : Type 0
EventsAreSpelled = (event : Content) → FitsMemory event → IsEvent (written_event event) event

abbrev pub BatchesAreSpelled : Type 0
BatchesAreSpelled = (events : List Content) → length events < 2 ^ 63 → AllByRecursion FitsMemory events → IsBatch (written_batch events) events

-- No spelling is shorter than what is written.
abbrev pub IsShortest : {V : Type 0} → (List ℕ → V → Type 0) → (V → List ℕ) → Type 0
IsShortest {V} Spells written = (bytes : List ℕ) (value : V) → Spells bytes value → length (written value) ≤ length bytes

-- An event takes two bytes at least, and the end of a batch one.
abbrev pub EventsTakeBytes : Type 0
EventsTakeBytes = (bytes : List ℕ) (events : List Content) → IsBatch bytes events → 2 * length events < length bytes

-- no event is above the limit
abbrev pub AreSmall : List Content → Type 0
AreSmall events = AllByRecursion (λ event. size event ≤ max_size) events

-- There is no first event above the limit exactly where there is none.
abbrev pub NoneIsLarge : Type 0
NoneIsLarge = (events : List Content) → (AreSmall events → first_large events ≡ None) × (first_large events ≡ None → AreSmall events)
