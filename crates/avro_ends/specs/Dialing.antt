-- What a sink shows of its dialer.
use Rattle.std.specs.Prelude.{ℕ, Option, Some, None}
use Rattle.flume_host.specs.Links.{LinkTold}
use Rattle.flume_host.specs.Listens.{Endpoint, LinksTold, kept_in}
use Rattle.avro_ends.specs.declared.open.Open.{Open}

-- For which address and port a sink's dialer was handed out, what the dialer shows of its links once the sink is closed, how often it has
-- failed, whether no link is open, and whether the dialer has each link back but the open one.
pub record DialTold (A : Type 0) : Type 1 where
  pub endpoint : A → Option Endpoint
  pub links : A → Option LinksTold
  pub faults : A → ℕ
  pub IsIdle : A → Type 0
  pub HasAllBack : A → Type 0

-- what a dialer shows once the open link has gone back to it
abbrev pub closed_links : {D L : Type 0} → (D → Option LinksTold) → (L → Option LinkTold) → D → Option (Open L) → Option LinksTold
closed_links links told dialer None = links dialer
closed_links links told dialer (Some open_link) = kept_in (links dialer) (told open_link.link)
