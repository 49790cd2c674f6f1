-- A folder without a checkpoint is replayed from the front of its log.
use Rattle.std.proofs.Common.{◌≡◌, List, Some, None, refl, ◌∙◌, ap, subst, ◌^◌}
use Rattle.flume_host.specs.Folder.{Files}
use Rattle.channel_replay.specs.declared.line.Line.{Line}
use Rattle.channel_replay.specs.Recover.{IsBadFrom, StandsFrom, WhereLogs, empty_start, lines}
use Rattle.channel_replay.specs.Start.{Start}
use Rattle.channel_replay.proofs.OneList.{has_one_list, one_list}
use Rattle.checkpoint.specs.Newest.{IsNewest}
use Rattle.checkpoint_recovery.specs.Laws.{FrontIsBad, FrontRecovers}
use Rattle.checkpoint_recovery.specs.Recovers.{BeginsAt, From, Front}
use Rattle.checkpoint_recovery.proofs.Elsewhere.{one_newest}

-- what is true of the start and the lines of such a folder is true at the front of all its log files
at_front : (files : Files) (P : Start → List Line → Type 0) (start : Start) (found : List Line) → IsNewest files None → BeginsAt files start found → P start found → WhereLogs files (λ logs. P empty_start (lines logs))
at_front files P start found none (Front newest is all) holds logs are =
    let same : found ≡ lines logs = all.lines_are ∙ ap lines (one_list files 0 (2 ^ 32) all.logs logs all.are are) in
    subst (λ (s : Start). P s (lines logs)) is (subst (P start) same holds)
at_front files P start found none (From number c newest check from) holds logs are =
    let no : None ≡ Some number = one_newest files None (Some number) none newest in absurd (cc)

-- and conversely
from_front : (files : Files) (P : Start → List Line → Type 0) → IsNewest files None → WhereLogs files (λ logs. P empty_start (lines logs)) → (start : Start) × (found : List Line) × BeginsAt files start found × P start found
from_front files P none holds =
    let some = has_one_list files in
    (empty_start, lines some.0, Front none refl (record { logs = some.0; are = some.1; lines_are = refl }), holds some.0 some.1)

-- a folder without a checkpoint recovers to what its log files stand for, and to nothing else
pub front_recovers : FrontRecovers
front_recovers files left txn none = (
  λ r. at_front files (λ start found. StandsFrom start found left txn) r.start r.found none r.begins r.stands,
  λ r. let some = from_front files (λ start found. StandsFrom start found left txn) none r in record { start = some.0; found = some.1; begins = some.2; stands = some.3 },
)

-- its first fault is that of its log files
pub front_is_bad : FrontIsBad
front_is_bad files file at none = (
  λ r. at_front files (λ start found. IsBadFrom start found file at) r.start r.found none r.begins r.bad,
  λ r. let some = from_front files (λ start found. IsBadFrom start found file at) none r in record { start = some.0; found = some.1; begins = some.2; bad = some.3 },
)
