-- Rolled files: what one delivery does to a folder, and to what the sink keeps beside it.
use Rattle.std.specs.Prelude.{◌≡◌, ◌⊎◌, ℕ, ◌+◌, ◌-◌, ◌*◌, ◌^◌, ◌==◌, min, nat_le, List, [], ◌∷◌, ◌++◌, Option, Some, None, Bool, true, false, not, ◌&&◌, Result, Ok, Err, MatchResult}
use Rattle.std.specs.Fmt.{decimal}
use Rattle.event_core.specs.Content.{Content}
use Rattle.flume_host.specs.declared.names.Failed.{Failed}
use Rattle.flume_host.specs.Rolled.{Rolled, RollFile, IsNewName}
use Rattle.flume_host.specs.Told.{Tells}
use Rattle.roll_sink.specs.declared.sink.RollRefused.{RollRefused}
use Rattle.roll_sink.specs.declared.sink.RollRefused.TheVariants.{RollFault, NoMemory}

-- each body and a newline
abbrev pub roll_text : List Content → List ℕ
roll_text [] = []
roll_text (event ∷ batch) = event.body ++ 10 ∷ roll_text batch

-- the files, of which the last got these bytes
abbrev pub grow : List ℕ → List RollFile → List RollFile
grow bytes [] = []
grow bytes (file ∷ []) = record { name = file.name; bytes = file.bytes ++ bytes } ∷ []
grow bytes (file ∷ next ∷ files) = file ∷ grow bytes (next ∷ files)

-- all of these bytes were written
abbrev pub Grew : List ℕ → Rolled → Rolled → Type 0
Grew bytes old new = new.files ≡ grow bytes old.files

-- the last call failed, and a front of these bytes was written
pub record Stopped (bytes : List ℕ) (old new : Rolled) : Type 0 where
  pub failed : new.failed ≡ true
  pub front : List ℕ
  pub rest : List ℕ
  pub split : bytes ≡ front ++ rest
  pub files : new.files ≡ grow front old.files

-- all of these bytes were written, or the last call failed after a front of them
abbrev pub Writes : List ℕ → Result (Unit {0}) Failed → Option Rolled → Option Rolled → Type 0
Writes bytes result old new = MatchResult result (λ done. Tells old new (Grew bytes)) (λ failed. Tells old new (Stopped bytes))

-- What the sink keeps beside the folder.
pub record RollState : Type 0 where
  -- the seconds after which a file takes no further batch; 0 for never
  pub interval : ℕ
  -- the moment of the first delivery
  pub start : Option ℕ
  -- the number of the next file
  pub next : ℕ
  -- the moment at which the file was begun that takes the next batch
  pub begun : Option ℕ

-- a batch at this moment starts a file: there is none that takes it, or that one is too old
abbrev pub starts_file : ℕ → Option ℕ → ℕ → Bool
starts_file interval None moment = true
starts_file interval (Some begun) moment = not (interval == 0) && nat_le (begun + 1000 * interval) moment

abbrev pub start_of : Option ℕ → ℕ → ℕ
start_of None moment = moment
start_of (Some start) moment = start

-- the moment of the first delivery, and the file's number
abbrev pub file_name : ℕ → ℕ → List ℕ
file_name start number = decimal start ++ 45 ∷ decimal number

-- the files with a new one, which is empty
abbrev pub with_file : Bool → List ℕ → List RollFile → List RollFile
with_file false name files = files
with_file true name files = files ++ record { name = name; bytes = [] } ∷ []

abbrev pub IsFresh : Bool → List ℕ → List RollFile → Type 0
IsFresh false name files = Unit {0}
IsFresh true name files = IsNewName files name

abbrev pub with_files : Rolled → List RollFile → Rolled
with_files rolled files = record rolled { files = files }

-- a batch went whole to the folder's last file, which was begun for it or before, and was handed on
pub record Delivered (starts : Bool) (name text : List ℕ) (old new : Rolled) : Type 0 where
  pub fresh : IsFresh starts name old.files
  pub files : new.files ≡ grow text (with_file starts name old.files)
  pub flushed : new.flushed ≡ true

-- the last call failed: the file was not begun, or it was and a front of the batch went to it
pub record Faulted (starts : Bool) (name text : List ℕ) (old new : Rolled) : Type 0 where
  pub failed : new.failed ≡ true
  pub fault : ((starts ≡ true) × (new.files ≡ old.files)) ⊎ Stopped text (with_files old (with_file starts name old.files)) new

-- each file takes a number
abbrev pub number_after : Bool → ℕ → ℕ
number_after false next = next
number_after true next = min (next + 1) (2 ^ 64 - 1)

-- the moment at which the file was begun that took a batch
abbrev pub begun_after : Bool → Option ℕ → ℕ → Option ℕ
begun_after false begun moment = begun
begun_after true begun moment = Some moment

abbrev pub start_after : Bool → Option ℕ → ℕ → Option ℕ
start_after false start moment = start
start_after true start moment = Some (start_of start moment)

-- What the sink keeps after a delivery, for which a file was begun or not.
abbrev pub state_after : Bool → RollState → ℕ → Option ℕ → RollState
state_after starts s moment begun = record { interval = s.interval; start = start_after starts s.start moment; next = number_after starts s.next; begun = begun }

-- One delivery, for which a file is begun or not. Out of memory is that for a file's name, and changes nothing.
abbrev pub RollsBy : Bool → RollState → List Content → ℕ → Result (Unit {0}) RollRefused → RollState → Option Rolled → Option Rolled → Type 0
RollsBy starts s batch moment (Ok done) t old new =
    (t ≡ state_after starts s moment (begun_after starts s.begun moment)) × Tells old new (Delivered starts (file_name (start_of s.start moment) s.next) (roll_text batch))
RollsBy starts s batch moment (Err RollFault) t old new =
    (t ≡ state_after starts s moment None) × Tells old new (Faulted starts (file_name (start_of s.start moment) s.next) (roll_text batch))
RollsBy starts s batch moment (Err NoMemory) t old new = (starts ≡ true) × (t ≡ s) × (new ≡ old)

-- One delivery: a file is begun for it where there is none that takes it.
abbrev pub Rolls : RollState → List Content → ℕ → Result (Unit {0}) RollRefused → RollState → Option Rolled → Option Rolled → Type 0
Rolls s batch moment = RollsBy (starts_file s.interval s.begun moment) s batch moment
