-- Events and batches: the record AvroFlumeEvent, and an array of it.
use Rattle.std.specs.Prelude.{◌≡◌, ◌<◌, ◌≤◌, ℕ, List, [], ◌∷◌, ◌++◌, ◌⊎◌, Option, Some, None, Result, Ok, Err, fold, if◌then◌else◌, nat_lt}
use Rattle.event_core.specs.Content.{Header, Content, size, with_header}
use Rattle.avro_binary.specs.declared.refused.ValueRefused.{ValueRefused}
use Rattle.avro_binary.specs.declared.refused.ValueRefused.TheVariants.{Short, Bad, TooLarge, NoMemory}
use Rattle.avro_binary.specs.Fault.{Fault, Behind}
use Rattle.avro_binary.specs.Value.{IsBytes, BytesFault}
use Rattle.avro_binary.specs.Items.{IsItems, ItemsFault, IsMap, MapFault}
use Rattle.avro_binary.specs.Reading.{part, IsPart, LacksAt, WrongAt}

-- the headers that a map's entries make: the later of two equal keys wins
abbrev pub headers_of : List Header → List Header
headers_of entries = fold (λ headers entry. with_header headers entry.0 entry.1) [] entries

-- the headers, and after them the body
pub record IsEvent (bytes : List ℕ) (event : Content) : Type 0 where
  pub front : List ℕ
  pub back : List ℕ
  pub entries : List (List ℕ × List ℕ)
  pub whole : bytes ≡ front ++ back
  pub map : IsMap front entries
  pub headers : event.headers ≡ headers_of entries
  pub body : IsBytes back event.body

abbrev pub EventFault : List ℕ → Fault → Type 0
EventFault bytes f = MapFault bytes f ⊎ Behind IsMap BytesFault bytes f

abbrev pub IsBatch : List ℕ → List Content → Type 0
IsBatch bytes events = IsItems IsEvent 0 bytes events

abbrev pub BatchFault : List ℕ → Fault → Type 0
BatchFault bytes f = ItemsFault IsEvent EventFault 0 bytes f

-- the greatest size of an event
abbrev pub max_size : ℕ
max_size = 33_554_432

-- the size of the first event above it
abbrev pub first_large : List Content → Option ℕ
first_large [] = None
first_large (event ∷ events) = if nat_lt max_size (size event) then Some (size event) else first_large events

-- what a reader of an event answers; out of memory is free
abbrev pub ReadsEvent : List ℕ → ℕ → Result (Content × ℕ) ValueRefused → Type 0
ReadsEvent bytes at (Ok found) = IsPart bytes at found.1 × IsEvent (part bytes at found.1) found.0 × (size found.0 ≤ max_size)
ReadsEvent bytes at (Err (Short field need)) = LacksAt EventFault bytes at field need
ReadsEvent bytes at (Err (Bad field)) = WrongAt EventFault bytes at field
ReadsEvent bytes at (Err (TooLarge n end)) = (event : Content) × IsPart bytes at end × IsEvent (part bytes at end) event × (n ≡ size event) × (max_size < n)
ReadsEvent bytes at (Err NoMemory) = Unit {0}

abbrev pub ReadsBatch : List ℕ → ℕ → Result (List Content × ℕ) ValueRefused → Type 0
ReadsBatch bytes at (Ok found) = IsPart bytes at found.1 × IsBatch (part bytes at found.1) found.0 × (first_large found.0 ≡ None)
ReadsBatch bytes at (Err (Short field need)) = LacksAt BatchFault bytes at field need
ReadsBatch bytes at (Err (Bad field)) = WrongAt BatchFault bytes at field
ReadsBatch bytes at (Err (TooLarge n end)) = (events : List Content) × IsPart bytes at end × IsBatch (part bytes at end) events × (first_large events ≡ Some n)
ReadsBatch bytes at (Err NoMemory) = Unit {0}
