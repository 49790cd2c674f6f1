-- What the readers of a batch's parts answer.
use Rattle.std.specs.Prelude.{◌≡◌, ◌<◌, ◌≤◌, ℕ, List, [], ◌∷◌, ◌++◌, Option, None, Result, Ok, Err}
use Rattle.event_core.specs.Content.{Header, Content, size}
use Rattle.avro_binary.specs.declared.refused.ValueRefused.{ValueRefused}
use Rattle.avro_binary.specs.declared.refused.ValueRefused.TheVariants.{Short, Bad, TooLarge, NoMemory}
use Rattle.avro_binary.specs.declared.event.Found.{Found}
use Rattle.avro_binary.specs.declared.event.Found.TheVariants.{Event, Large}
use Rattle.avro_binary.specs.Fault.{Fault}
use Rattle.avro_binary.specs.Items.{IsMap, MapFault}
use Rattle.avro_binary.specs.Event.{IsEvent, EventFault, headers_of, first_large, max_size}
use Rattle.avro_binary.specs.Reading.{part, IsPart, LacksAt, WrongAt}

-- the first fault, or out of memory
abbrev pub IsRefusal : (List ℕ → Fault → Type 0) → List ℕ → ℕ → ValueRefused → Type 0
IsRefusal Faults bytes at (Short field need) = LacksAt Faults bytes at field need
IsRefusal Faults bytes at (Bad field) = WrongAt Faults bytes at field
IsRefusal Faults bytes at (TooLarge n end) = ⊥
IsRefusal Faults bytes at NoMemory = Unit {0}

abbrev pub ReadsHeaders : List ℕ → ℕ → Result (List Header × ℕ) ValueRefused → Type 0
ReadsHeaders bytes at (Ok found) = IsPart bytes at found.1 × ((entries : List Header) × IsMap (part bytes at found.1) entries × (found.0 ≡ headers_of entries))
ReadsHeaders bytes at (Err e) = IsRefusal MapFault bytes at e

-- what is known of the event
abbrev pub IsFound : Found → Content → Type 0
IsFound (Event found) event = (found ≡ event) × (size event ≤ max_size)
IsFound (Large n) event = (n ≡ size event) × (max_size < n)

abbrev pub FindsEvent : List ℕ → ℕ → Result (Found × ℕ) ValueRefused → Type 0
FindsEvent bytes at (Ok found) = IsPart bytes at found.1 × ((event : Content) × IsEvent (part bytes at found.1) event × IsFound found.0 event)
FindsEvent bytes at (Err e) = IsRefusal EventFault bytes at e

-- the events so far: the batch has all of them, unless one is too large
pub record Collects (events batch : List Content) (large : Option ℕ) : Type 0 where
  pub large_is : large ≡ first_large events
  pub all : large ≡ None → batch ≡ events

abbrev pub Keeps : List Content → Option ℕ → Found → List Content → Option ℕ → Type 0
Keeps batch large found batch' large' = (events : List Content) (event : Content) → Collects events batch large → IsFound found event → Collects (events ++ event ∷ []) batch' large'
