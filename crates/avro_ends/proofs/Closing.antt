-- A sink is closed.
use Rattle.std.proofs.Common.{◌≡◌, ℕ, Option, Some, None, ap}
use Rattle.flume_host.specs.Links.{LinkTold}
use Rattle.flume_host.specs.Listens.{LinksTold}
use Rattle.avro_ends.specs.Deliveries.{OpenWentBack, SinkLinks}
use Rattle.avro_ends.specs.Dialing.{closed_links}
use Rattle.avro_ends.specs.declared.open.Open.{Open}

module _ {D L : Type 0} (links : D → Option LinksTold) (troubles : D → ℕ) (told : L → Option LinkTold) (faults : L → ℕ) (dialer : D) where
  -- what the dialer shows of its links once the open one went back
  pub closed_tells : (opened : Option (Open L)) (new : SinkLinks D L) → OpenWentBack links troubles told faults dialer opened new → links new.dialer ≡ closed_links links told dialer opened
  closed_tells None new is = ap (λ (s : SinkLinks D L). links s.dialer) is
  closed_tells (Some open_link) new is = is.1

  -- taking the open link back counts no failure of the dialer
  pub closed_counts : (opened : Option (Open L)) (new : SinkLinks D L) → OpenWentBack links troubles told faults dialer opened new → troubles new.dialer ≡ troubles dialer
  closed_counts None new is = ap (λ (s : SinkLinks D L). troubles s.dialer) is
  closed_counts (Some open_link) new is = is.2
