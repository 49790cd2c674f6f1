-- What a piece does to the present pack.
use Rattle.std.specs.Prelude.{◌≡◌, ℕ, ◌≤◌, List, [], ◌++◌, length, take, Option, Some, None, Result, Ok, Err}
use Rattle.avro_frame.specs.declared.packs.Message.{Message}
use Rattle.avro_frame.specs.declared.packs.PackRefused.{PackRefused}
use Rattle.avro_frame.specs.declared.packs.PackRefused.TheVariants.{TooMany, TooLarge, NoMemory}
use Rattle.avro_frame.specs.Pack.{IsPack, IsPart, PassesCount, PassesSize, room_kept}

-- what contracts see of a stream of packs: the bytes of the present pack so far, or the refusal that ended it
pub data Packing : Type 0 where
  Holds : List ℕ → Packing
  Failed : PackRefused → Packing

abbrev pub packing : Option PackRefused → List ℕ → Packing
packing None bytes = Holds bytes
packing (Some e) bytes = Failed e

-- and how many bytes may be fed for which no memory is wanted, and how many bytes of memory are kept for this
pub record PackState : Type 0 where
  pub packing : Packing
  pub room : ℕ
  pub kept : ℕ

-- the bytes of the present pack, or of none
abbrev pub Refuses : List ℕ → List ℕ → PackRefused → Packing → Type 0
Refuses old piece (TooMany n) new = PassesCount (old ++ piece) n × (new ≡ Failed (TooMany n))
Refuses old piece (TooLarge n) new = PassesSize (old ++ piece) n × (new ≡ Failed (TooLarge n))
Refuses old piece NoMemory new = new ≡ Holds old

abbrev pub Gives : List ℕ → List ℕ → ℕ → Option Message → Packing → Type 0
Gives old piece n None new = (n ≡ length piece) × IsPart (old ++ piece) × (new ≡ Holds (old ++ piece))
Gives old piece n (Some m) new = (n ≤ length piece) × IsPack (old ++ take n piece) m.serial m.payload.items × (new ≡ Holds [])

abbrev pub FeedsBytes : List ℕ → List ℕ → Result (ℕ × Option Message) PackRefused → Packing → Type 0
FeedsBytes old piece (Ok found) new = Gives old piece found.0 found.1 new
FeedsBytes old piece (Err e) new = Refuses old piece e new

-- a piece goes after the present pack's bytes; after a refusal every piece meets it again
abbrev pub Feeds : Packing → List ℕ → Result (ℕ × Option Message) PackRefused → Packing → Type 0
Feeds (Holds old) piece result new = FeedsBytes old piece result new
Feeds (Failed e) piece result new = (result ≡ Err e) × (new ≡ Failed e)

-- after a pack, and after a refusal for good, little memory is kept
abbrev pub GivesBack : Result (ℕ × Option Message) PackRefused → ℕ → Type 0
GivesBack (Ok (n, None)) kept = Unit {0}
GivesBack (Ok (n, Some m)) kept = kept ≤ room_kept
GivesBack (Err (TooMany n)) kept = kept ≤ room_kept
GivesBack (Err (TooLarge n)) kept = kept ≤ room_kept
GivesBack (Err NoMemory) kept = Unit {0}

-- the same bytes taken, the same message and the same stream after it; out of memory may come in place of any
abbrev pub SameFeed : Result (ℕ × Option Message) PackRefused → Packing → Result (ℕ × Option Message) PackRefused → Packing → Type 0
SameFeed (Ok (j, None)) new (Ok (k, None)) new' = (j ≡ k) × (new ≡ new')
SameFeed (Ok (j, None)) new (Ok (k, Some n)) new' = ⊥
SameFeed (Ok (j, Some m)) new (Ok (k, None)) new' = ⊥
SameFeed (Ok (j, Some m)) new (Ok (k, Some n)) new' = (j ≡ k) × (m.serial ≡ n.serial) × (m.payload.items ≡ n.payload.items) × (new ≡ new')
SameFeed (Ok found) new (Err (TooMany k)) new' = ⊥
SameFeed (Ok found) new (Err (TooLarge k)) new' = ⊥
SameFeed (Ok found) new (Err NoMemory) new' = Unit {0}
SameFeed (Err (TooMany j)) new (Ok found) new' = ⊥
SameFeed (Err (TooMany j)) new (Err (TooMany k)) new' = (j ≡ k) × (new ≡ new')
SameFeed (Err (TooMany j)) new (Err (TooLarge k)) new' = ⊥
SameFeed (Err (TooMany j)) new (Err NoMemory) new' = Unit {0}
SameFeed (Err (TooLarge j)) new (Ok found) new' = ⊥
SameFeed (Err (TooLarge j)) new (Err (TooMany k)) new' = ⊥
SameFeed (Err (TooLarge j)) new (Err (TooLarge k)) new' = (j ≡ k) × (new ≡ new')
SameFeed (Err (TooLarge j)) new (Err NoMemory) new' = Unit {0}
SameFeed (Err NoMemory) new s new' = Unit {0}

-- A piece has one outcome, except when out of memory.
abbrev pub OneFeed : Type 0
OneFeed = (old : Packing) (piece : List ℕ) (r s : Result (ℕ × Option Message) PackRefused) (new new' : Packing) → Feeds old piece r new → Feeds old piece s new' → SameFeed r new s new'
