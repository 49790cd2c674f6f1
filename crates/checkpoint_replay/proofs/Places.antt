-- The lines of a folder from a place on: those of its file, and those of the files after it.
use Rattle.std.proofs.Common.{◌≡◌, ◌<◌, ◌≤◌, ◌+◌, ℕ, List, length, Option, Some, None, IsSome, IsSomeAnd, refl, sym, ap, subst, arith}
use Rattle.flume_host.specs.Told.{Told, WhereTold}
use Rattle.flume_host.specs.declared.names.FileName.TheVariants.{Log}
use Rattle.channel_log.specs.Reader.{HasFile, IsThere}
use Rattle.channel_replay.specs.declared.line.Line.{Line}
use Rattle.channel_replay.specs.declared.refused.ReplayRefused.{ReplayRefused}
use Rattle.channel_replay.specs.Recover.{lines}
use Rattle.channel_replay.specs.Replay.{WhereBadLog, record_count}
use Rattle.channel_replay.proofs.Replaying.{log_maps, record_count-append}
use Rattle.ring_replay.specs.declared.indexing.Indexing.{Indexing}
use Rattle.ring_replay.specs.Indexing.{GoesThrough}
use Rattle.ring_replay.specs.Folder.{StopsIn}
use Rattle.ring_replay.proofs.Files.{applies_append}
use Rattle.checkpoint.specs.declared.place.Place.{Place}
use Rattle.checkpoint_recovery.specs.Reading.{HasFrom, IsInLog, LinesFrom}
use Rattle.checkpoint_replay.specs.Reading.{WhereBehind, WhereFrom, WhereLines}
use Rattle.checkpoint_replay.proofs.Folders.{stops_behind, stops_front}

-- the place's file is there
pub in_log : (told : Option Told) (place : Place) → WhereTold told (λ t. IsInLog t.reads place) → IsThere told place.file
in_log told place is t here = some (t.reads (Log place.file)) (is t here)
  where
    some : (file : Option (List ℕ)) → IsSomeAnd file (λ bytes. (16 ≤ place.at) × (place.at < length bytes)) → IsSome file
    some None is = absurd is
    some (Some bytes) is = refl

-- the file of the place, with the lines that it has from there on
record Own (told : Option Told) (place : Place) (own : List Line) : Type 0 where
  bytes : List ℕ
  has : HasFile told place.file bytes
  from : HasFrom place.file bytes place.at own

own_file : (told : Option Told) (place : Place) (t : Told) (found : List Line) → told ≡ Some t → (l : LinesFrom t.reads place found) → Own told place l.own
own_file told place t found is l = by_file (t.reads (Log place.file)) refl l.there
  where
    by_file : (file : Option (List ℕ)) → t.reads (Log place.file) ≡ file → IsSomeAnd file (λ bytes. HasFrom place.file bytes place.at l.own) → Own told place l.own
    by_file None same from = absurd from
    by_file (Some bytes) same from = record { bytes = bytes; has = record { tells = t; is = is; reads = same }; from = from }

-- all lines from a place on are applied, where those of its file and of the others are
pub all_go : (told : Option Told) (place : Place) (old mid new : Indexing) → WhereFrom told place.file place.at (λ own. GoesThrough own old mid) → WhereBehind told place.file (λ logs. GoesThrough (lines logs) mid new)
    → WhereLines told place (λ found. GoesThrough found old new)
all_go told place old mid new first rest t is found l =
    let o = own_file told place t found is l in
    subst (λ (x : List Line). GoesThrough x old new) (sym l.lines_are) (applies_append l.own (lines l.logs) old mid new (first o.bytes l.own o.has o.from) (rest t is l.logs l.behind))

-- a fault in the place's own file is the first fault
pub own_bad : (told : Option Told) (place : Place) (old : Indexing) (e : ReplayRefused) → WhereBadLog e (λ f a. WhereFrom told place.file place.at (λ own. StopsIn own old f a))
    → WhereBadLog e (λ f a. WhereLines told place (λ found. StopsIn found old f a))
own_bad told place old e bad =
    log_maps e (λ f a. WhereFrom told place.file place.at (λ own. StopsIn own old f a)) (λ f a. WhereLines told place (λ found. StopsIn found old f a))
    (λ f a stops. λ t is found l.
    let o = own_file told place t found is l in
    subst (λ (x : List Line). StopsIn x old f a) (sym l.lines_are) (stops_front l.own (lines l.logs) old f a (stops o.bytes l.own o.has o.from)))
    bad

-- a fault in a later file is the first one, where the place's own file had none
pub behind_bad : (told : Option Told) (place : Place) (old mid : Indexing) (f a : ℕ) → WhereFrom told place.file place.at (λ own. GoesThrough own old mid)
    → WhereBehind told place.file (λ logs. StopsIn (lines logs) mid f a) → WhereLines told place (λ found. StopsIn found old f a)
behind_bad told place old mid f a first stops t is found l =
    let o = own_file told place t found is l in
    subst (λ (x : List Line). StopsIn x old f a) (sym l.lines_are) (stops_behind l.own (lines l.logs) old mid f a (first o.bytes l.own o.has o.from) (stops t is l.logs l.behind))

-- its own file counts no more steps than all lines have records
pub own_few : (told : Option Told) (place : Place) (none steps : ℕ) → WhereFrom told place.file place.at (λ own. steps ≤ none + record_count own) → WhereLines told place (λ found. steps ≤ none + record_count found)
own_few told place none steps first t is found l =
    let o = own_file told place t found is l in
    omega (arith, first o.bytes l.own o.has o.from, ap record_count l.lines_are, record_count-append l.own (lines l.logs))

-- all files together count no more steps than all lines have records
pub all_few : (told : Option Told) (place : Place) (none mid steps : ℕ) → WhereFrom told place.file place.at (λ own. mid ≤ none + record_count own) → WhereBehind told place.file (λ logs. steps ≤ mid + record_count (lines logs))
    → WhereLines told place (λ found. steps ≤ none + record_count found)
all_few told place none mid steps first rest t is found l =
    let o = own_file told place t found is l in
    omega (arith, first o.bytes l.own o.has o.from, rest t is l.logs l.behind, ap record_count l.lines_are, record_count-append l.own (lines l.logs))
