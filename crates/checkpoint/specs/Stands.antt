-- A checkpoint that was read, and what it stands for.
use Rattle.std.specs.Prelude.{◌≡◌, ◌≤◌, ◌+◌, ◌^◌, ◌<◌, ℕ, List, ◌∷◌, length, map, Some}
use Rattle.std.specs.List.{AllByRecursion}
use Rattle.flume_host.specs.Folder.{Files}
use Rattle.flume_host.specs.declared.names.FileName.TheVariants as names
use Rattle.event_core.specs.Content.{Content}
use Rattle.event_core.specs.Journal.{is_among}
use Rattle.event_core.specs.declared.journal.Entry.{Entry}
use Rattle.checkpoint.specs.declared.check.Check.{Check}
use Rattle.checkpoint.specs.Right.{AreApartFrom, AreOnceAmong, HasSome, IsRight, all_of, number_of}
use Rattle.checkpoint.specs.Says.{Says}
use Rattle.checkpoint.specs.Text.{CheckText, FitCounts, Rise, check_bytes}

-- Ring and table are just what a text says: its open takes are held, and nothing else.
pub record Keeps (check : Check) (c : CheckText) : Type 0 where
  pub says : Says check.place check.next check.ring check.table c
  pub held : AllByRecursion (λ l. l.held ≡ is_among (all_of c.takes) l.number) check.ring.live
  pub top : check.ring.top ≤ check.next.number
  pub many : length check.table ≡ length c.puts + length c.takes

-- What is right of a text whatever the folder has: numbers rise and are below the next ones, and open takes take what is left, each once.
pub record IsOrdered (c : CheckText) : Type 0 where
  pub numbers : Rise 0 c.next.number c.live
  pub next : 1 ≤ c.next.txn
  pub put_txns : Rise 1 c.next.txn c.puts
  pub take_txns : Rise 1 c.next.txn c.takes
  pub apart : AreApartFrom (map number_of c.puts) (map number_of c.takes)
  pub few : length c.puts + length c.takes ≤ 1024
  pub some_puts : AllByRecursion HasSome c.puts
  pub some_takes : AllByRecursion HasSome c.takes
  pub held : AreOnceAmong (map number_of c.live) (all_of c.takes)
  pub few_live : length c.live < 2 ^ 32
  pub puts_fit : FitCounts c.puts
  pub takes_fit : FitCounts c.takes

-- It keeps a text whose numbers are in order, also where a disk shows nothing.
pub record IsKept (check : Check) : Type 0 where
  pub c : CheckText
  pub keeps : Keeps check c
  pub ordered : IsOrdered c

-- The file of its number is this checkpoint and nothing after it, and is right for the folder, in which these events are left and this is open.
pub record Stands (files : Files) (check : Check) (left : List (ℕ × Content)) (opened : List (ℕ × Entry)) : Type 0 where
  pub c : CheckText
  pub keeps : Keeps check c
  pub spelled : files (names.Check check.number) ≡ Some (1 ∷ check_bytes c)
  pub right : IsRight files c left opened
