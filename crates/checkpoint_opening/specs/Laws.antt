-- Laws of what a folder recovers to: once only, and after it gained a log file.
use Rattle.std.specs.Prelude.{◌≡◌, ◌<◌, ◌≤◌, ◌^◌, ℕ, List, ◌++◌, length, None, Some, IsSomeAnd, false}
use Rattle.flume_host.specs.Folder.{Files, same_name}
use Rattle.flume_host.specs.declared.names.FileName.{FileName}
use Rattle.flume_host.specs.declared.names.FileName.TheVariants.{Log}
use Rattle.event_core.specs.Journal.{Base}
use Rattle.channel_log.specs.Frames.{Content, Holds}
use Rattle.channel_replay.specs.declared.line.Line.{Line}
use Rattle.channel_replay.specs.Recover.{file_lines}
use Rattle.channel_replay.specs.Start.{IsStart, Start}
use Rattle.checkpoint_recovery.specs.Recovers.{BeginsAt, RecoversTo}

-- A folder has what files had, and after their log files one more, which holds this.
pub record Grows (files folder : Files) (number : ℕ) (content : Content) : Type 0 where
  pub small : number < 2 ^ 32
  pub none : (n : ℕ) → number ≤ n → files (Log n) ≡ None
  pub holds : IsSomeAnd (folder (Log number)) (λ bytes. Holds number bytes content)
  pub others : (name : FileName) → same_name name (Log number) ≡ false → folder name ≡ files name

-- It begins where they did, and after their lines it has those of that file.
abbrev pub GrownBegins : Type 0
GrownBegins =
    (files folder : Files) (number : ℕ) (content : Content) (start : Start) (found : List Line) → Grows files folder number content → BeginsAt files start found
    → BeginsAt folder start (found ++ file_lines number content)

-- Where a folder begins numbers rise, each open transaction has done something, and takes are of earlier numbers.
abbrev pub BeginsAreStarts : Type 0
BeginsAreStarts = (files : Files) (start : Start) (found : List Line) → BeginsAt files start found → IsStart start

-- Numbers of log files and offsets in them fit their fields.
abbrev pub AreBounded : Files → Type 0
AreBounded files = (n : ℕ) (bytes : List ℕ) → files (Log n) ≡ Some bytes → (n < 2 ^ 32) × (length bytes < 2 ^ 64)

-- Such a folder recovers to one list and one next transaction number, of those whose numbers fit.
abbrev pub RecoversToOnce : Type 0
RecoversToOnce =
    (files : Files) (a b : Base) (x y : ℕ) → AreBounded files → RecoversTo files a x → RecoversTo files b y → a.first < 2 ^ 64 → b.first < 2 ^ 64 → x < 2 ^ 64 → y < 2 ^ 64
    → (a ≡ b) × (x ≡ y)
