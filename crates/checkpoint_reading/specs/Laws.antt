-- Laws of reading a checkpoint.
use Rattle.std.specs.Prelude.{◌≡◌, ℕ, List}
use Rattle.std.specs.List.{AllByRecursion}
use Rattle.flume_host.specs.Folder.{Files}
use Rattle.checkpoint.specs.Right.{IsRightText}
use Rattle.checkpoint.specs.Text.{CheckText, check_bytes}
use Rattle.checkpoint_reading.specs.Fields.{Bad, FitsFields, Gives, Good, Is32, Is64, Outcome}

-- The numbers of a text fit their fields.
pub record Fits (c : CheckText) : Type 0 where
  pub file : Is32 c.place.file
  pub at : Is64 c.place.at
  pub number : Is64 c.next.number
  pub txn : Is64 c.next.txn
  pub live : AllByRecursion (λ l. FitsFields l.1) c.live
  pub puts : AllByRecursion (λ o. AllByRecursion FitsFields o.1) c.puts
  pub takes : AllByRecursion (λ o. AllByRecursion Is64 o.1) c.takes

-- Bytes are read in one way.
abbrev pub HasOneOutcome : Type 0
HasOneOutcome = (files : Files) (bytes : List ℕ) (one other : Outcome) → Gives files one bytes → Gives files other bytes → one ≡ other

-- What is spelled and right is read, without a fault.
abbrev pub RightIsRead : Type 0
RightIsRead = (files : Files) (c : CheckText) → Fits c → IsRightText files c → Gives files (Good c) (check_bytes c)

-- What is read without a fault is spelled and right.
abbrev pub ReadIsRight : Type 0
ReadIsRight = (files : Files) (bytes : List ℕ) (c : CheckText) → Gives files (Good c) bytes → (bytes ≡ check_bytes c) × IsRightText files c

-- What has a fault is spelled by no text that is right.
abbrev pub FaultIsWrong : Type 0
FaultIsWrong = (files : Files) (c : CheckText) (rest : List ℕ) → Fits c → IsRightText files c → Gives files (Bad rest) (check_bytes c) → ⊥
