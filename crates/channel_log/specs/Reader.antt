-- A log file that is being read.
use Rattle.std.specs.Prelude.{◌≡◌, ◌⊎◌, ◌<◌, ◌≤◌, ◌+◌, ◌-◌, ◌^◌, ℕ, Bool, true, false, List, [], ◌∷◌, ◌++◌, length, take, drop, Option, Some, None, IsSome}
use Rattle.std.specs.List.{AllByRecursion}
use Rattle.flume_host.specs.declared.names.FileName.TheVariants.{Log}
use Rattle.flume_host.specs.Told.{Told, WhereTold}
use Rattle.record_form.specs.declared.record.Outline.{Outline}
use Rattle.record_form.specs.declared.record.Rec.{Rec}
use Rattle.record_form.specs.declared.record.Rec.TheVariants.{End}
use Rattle.record_form.specs.Outlines.{outline_of}
use Rattle.record_form.specs.Record.{record_length, spelling}
use Rattle.channel_log.specs.declared.loading.FrameRefused.{FrameRefused}
use Rattle.channel_log.specs.declared.loading.FrameRefused.TheVariants as refusals
use Rattle.channel_log.specs.declared.loading.Sought.{Sought}
use Rattle.channel_log.specs.declared.loading.Sought.TheVariants as soughts
use Rattle.channel_log.specs.Frames.{Content, Blank, BadHeader, Whole, BadFrame, IsBirth, header, IsFrame, IsFramed, Commits, Breaks, frame_bytes, opened, record_bytes}

-- the disk has the file, as far as it shows
abbrev pub IsThere : Option Told → ℕ → Type 0
IsThere told number = WhereTold told (λ t. IsSome (t.reads (Log number)))

-- The disk shows its contents, and this is the file's.
pub record HasFile (told : Option Told) (number : ℕ) (bytes : List ℕ) : Type 0 where
  pub tells : Told
  pub is : told ≡ Some tells
  pub reads : tells.reads (Log number) ≡ Some bytes

-- what was read so far is a front of the file from this offset on
abbrev pub IsFront : List ℕ → ℕ → List ℕ → Type 0
IsFront read from bytes = read ≡ take (length read) (drop from bytes)

-- The bytes have a frame, whose bytes are these, and the next commit byte after it.
pub record Opens (bytes : List ℕ) (held : List ℕ) : Type 0 where
  pub frame : List Rec
  pub is : IsFrame frame
  pub same : held ≡ frame_bytes frame
  pub gate : ℕ
  pub behind : List ℕ
  pub split : bytes ≡ frame_bytes frame ++ gate ∷ behind

-- no frame with a next commit byte is in front
abbrev pub OpensNone : List ℕ → Type 0
OpensNone bytes = (frame : List Rec) (gate : ℕ) (behind : List ℕ) → IsFrame frame → bytes ≡ frame_bytes frame ++ gate ∷ behind → ⊥

-- the bytes of a frame
abbrev pub IsFrameBytes : List ℕ → Type 0
IsFrameBytes held = (frame : List Rec) × IsFrame frame × (held ≡ frame_bytes frame)

-- this commit byte is open, and after it P
abbrev pub AfterOpen : List ℕ → (List ℕ → Type 0) → Type 0
AfterOpen bytes P = (rest : List ℕ) × (bytes ≡ 1 ∷ rest) × P rest

-- there is a commit byte, and it isn't open
abbrev pub IsClosed : List ℕ → Type 0
IsClosed bytes = (1 ≤ length bytes) × (AfterOpen bytes (λ rest. Unit {0}) → ⊥)

-- a frame of so many bytes, and the next commit byte after it
abbrev pub OpensAt : ℕ → List ℕ → Type 0
OpensAt size bytes = (size < length bytes) × Opens bytes (take size bytes)

-- what was read from a commit byte on, and whether it has a frame and a next commit byte, as far as it goes
abbrev pub IsSought : Sought → List ℕ → Type 0
IsSought (soughts.Found size) read = AfterOpen read (OpensAt size)
IsSought soughts.Closed read = IsClosed read
IsSought soughts.None read = AfterOpen read (λ rest. (more : List ℕ) → OpensNone (rest ++ more))
IsSought soughts.Unknown read = (read ≡ []) ⊎ AfterOpen read OpensNone

-- how long the frame after an open commit byte is, of what was read from that byte on
abbrev pub IsFound : Option ℕ → List ℕ → Type 0
IsFound (Some size) read = AfterOpen read (OpensAt size)
IsFound None read = IsClosed read

-- whether a frame was loaded, against the bytes from its commit byte on
abbrev pub IsLoaded : Bool → List ℕ → List ℕ → Type 0
IsLoaded true bytes held = AfterOpen bytes (λ rest. Opens rest held)
IsLoaded false bytes held = AfterOpen bytes (λ rest. Unit {0}) → ⊥

-- P of the file and the offset of a fault of the log
abbrev pub WhereBad : FrameRefused → (ℕ → ℕ → Type 0) → Type 0
WhereBad refusals.DiskFault P = Unit {0}
WhereBad (refusals.BadLog file at) P = P file at
WhereBad refusals.NoMemory P = Unit {0}

-- The reader of a file: its number and length, whether it drops, whether it counts as empty, the offset of the next byte
-- that is looked at, what is held of the present frame from there on, and what was read after that.
pub record Reader : Type 0 where
  pub file : ℕ
  pub size : ℕ
  pub drops : Bool
  pub blank : Bool
  pub at : ℕ
  pub held : List ℕ
  pub ahead : List ℕ

-- what was read ahead stands in the file after what is held
abbrev pub IsAhead : Reader → List ℕ → Type 0
IsAhead r bytes = IsFront r.ahead (r.at + length r.held) bytes

-- records with their offsets, from this one on
abbrev pub record_items : ℕ → List Rec → List (Rec × ℕ)
record_items at [] = []
record_items at (rec ∷ records) = (rec, at) ∷ record_items (at + record_length rec) records

-- the records of frames whose first commit byte is at this offset
abbrev pub frame_items : ℕ → List (List Rec) → List (Rec × ℕ)
frame_items gate [] = []
frame_items gate (frame ∷ frames) = record_items (gate + 1) frame ++ frame_items (gate + 1 + length (frame_bytes frame)) frames

-- the records of a file up to its first fault
abbrev pub content_items : Content → List (Rec × ℕ)
content_items Blank = []
content_items BadHeader = []
content_items (Whole birth frames) = frame_items 16 frames
content_items (BadFrame birth frames) = frame_items 16 frames

-- from a commit byte at this offset on, bytes have these frames, and then this fault
abbrev pub Goes : List ℕ → ℕ → List (List Rec) → Option ℕ → Type 0
Goes bytes gate frames fault = (Commits bytes frames × (fault ≡ None)) ⊎ (Breaks bytes frames × (fault ≡ Some (gate + length (opened frames))))

-- The reader stands before a commit byte.
pub record IsBetween (r : Reader) (bytes : List ℕ) (items : List (Rec × ℕ)) (fault : Option ℕ) : Type 0 where
  pub held : r.held ≡ []
  pub frames : List (List Rec)
  pub goes : Goes (drop r.at bytes) r.at frames fault
  pub items_are : items ≡ frame_items r.at frames

-- the bytes of records, and of the END of their frame
abbrev pub closing : List Rec → ℕ → List ℕ
closing records count = record_bytes records ++ spelling (End count)

-- so many records are told by an END
pub record IsCount (count : ℕ) : Type 0 where
  pub some : 1 ≤ count
  pub few : count < 2 ^ 32

-- The reader stands before a record of a frame.
pub record IsInside (r : Reader) (bytes : List ℕ) (items : List (Rec × ℕ)) (fault : Option ℕ) : Type 0 where
  pub records : List Rec
  pub count : ℕ
  pub each : AllByRecursion IsFramed records
  pub some : 1 ≤ length records
  pub counted : IsCount count
  pub held : r.held ≡ closing records count
  pub frames : List (List Rec)
  pub goes : Goes (drop (r.at + length r.held) bytes) (r.at + length r.held) frames fault
  pub items_are : items ≡ record_items r.at records ++ frame_items (r.at + length r.held) frames

-- nothing is given of a file that counts as empty
abbrev pub IsOver : Reader → List (Rec × ℕ) → Option ℕ → Type 0
IsOver r items fault = (r.blank ≡ true) × (r.held ≡ []) × (items ≡ []) × (fault ≡ None)

-- The file has this content, of which the reader has read ahead, and it has these records still to give, each with its
-- offset, and then this fault.
pub record Remains (r : Reader) (bytes : List ℕ) (items : List (Rec × ℕ)) (fault : Option ℕ) : Type 0 where
  pub long : length bytes ≡ r.size
  pub ahead : IsAhead r bytes
  pub stands : IsOver r items fault ⊎ ((r.blank ≡ false) × (IsBetween r bytes items fault ⊎ IsInside r bytes items fault))

-- what a call gives, of what remained
abbrev pub Gives : Option (Rec × ℕ) → Reader → List ℕ → List (Rec × ℕ) → Option ℕ → Type 0
Gives None new bytes [] fault = (fault ≡ None) × Remains new bytes [] fault
Gives None new bytes (item ∷ items) fault = ⊥
Gives (Some given) new bytes [] fault = ⊥
Gives (Some given) new bytes (item ∷ items) fault = (given ≡ item) × Remains new bytes items fault

-- what a call gives by the outline alone, of what remained
abbrev pub GivesOutline : Option (Outline × ℕ) → Reader → List ℕ → List (Rec × ℕ) → Option ℕ → Type 0
GivesOutline None new bytes items fault = Gives None new bytes items fault
GivesOutline (Some given) new bytes items fault = (rec : Rec) × (given.0 ≡ outline_of rec) × Gives (Some (rec, given.1)) new bytes items fault

-- records of a frame, and its END
abbrev pub AreRecords : List ℕ → Type 0
AreRecords held = (records : List Rec) × (count : ℕ) × AllByRecursion IsFramed records × (1 ≤ length records) × IsCount count × (held ≡ closing records count)

-- What is true of each reader, of whose frame the rest stands in what it read, from a place on up to a stop: that is nothing,
-- or records of a frame and its END, and offsets fit their type.
pub record IsReader (place stop at size : ℕ) (read piece : List ℕ) : Type 0 where
  pub within : place ≤ stop
  pub known : stop ≤ length read
  pub held : (place ≡ stop) ⊎ AreRecords (drop place (take stop read))
  pub fits : at + (stop - place) < 2 ^ 64
  pub low : size < 2 ^ 63
  pub some : 1 ≤ length piece

-- how far the next record is after this one: the END of the frame is passed with the last record
abbrev pub step : Rec → List Rec → ℕ
step first [] = record_length first + 5
step first (rec ∷ records) = record_length first

-- what is held after a record
abbrev pub kept : List Rec → ℕ → List ℕ
kept [] count = []
kept (rec ∷ records) count = closing (rec ∷ records) count

-- this record was given, and the reader stands after it
pub record IsGiven (old new : Reader) (given : Rec × ℕ) (first : Rec) (records : List Rec) (count : ℕ) : Type 0 where
  pub is : given ≡ (first, old.at)
  pub after : new ≡ record old { at = old.at + step first records; held = kept records count }

-- the reader holds a frame of the commit byte before which the old one stood
pub record IsEntered (old new : Reader) : Type 0 where
  pub is : new ≡ record old { at = old.at + 1; held = new.held; ahead = new.ahead }
  pub frame : IsFrameBytes new.held

abbrev pub IfTrue : Bool → Type 0 → Type 0
IfTrue true P = P
IfTrue false P = Unit {0}

-- it reads the same file
pub record IsSameFile (old new : Reader) : Type 0 where
  pub file : new.file ≡ old.file
  pub drops : new.drops ≡ old.drops

-- what remains, where the reader stands before a record, and else nothing
abbrev pub Stands : Bool → Reader → List ℕ → List (Rec × ℕ) → Option ℕ → Type 0
Stands true r bytes items fault = Remains r bytes items fault
Stands false r bytes items fault = (items ≡ []) × (fault ≡ None) × Remains r bytes items fault

-- the file has birth 1
abbrev pub IsBegun : Content → Type 0
IsBegun Blank = ⊥
IsBegun BadHeader = ⊥
IsBegun (Whole birth frames) = birth ≡ 1
IsBegun (BadFrame birth frames) = birth ≡ 1

-- the birth that the header names, where the file doesn't count as empty
abbrev pub IsBirthOf : Option ℕ → ℕ → List ℕ → Type 0
IsBirthOf None number bytes = length bytes ≤ 17
IsBirthOf (Some birth) number bytes = (17 < length bytes) × IsBirth birth × (take 16 bytes ≡ header birth number)
