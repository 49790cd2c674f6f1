-- What a run leaves of a worker's ports: each has the channel and the numbers of the pass that it was made with.
use Rattle.std.proofs.Common.{ℕ, List}
use Rattle.channel_face.specs.Faces.{Own}
use Rattle.channel_face.specs.Machine.{State}
use Rattle.selectors.specs.declared.selector.Selector.{Selector}
use Rattle.shared_channel.specs.Passes.{Known}
use Rattle.shared_channel.specs.Ports.{Later, later_none, later_then}
use Rattle.sink_runner.specs.declared.turn.Turn.{Turn}
use Rattle.sink_worker.specs.Rounds.{MendsOnce, Rounds as SinkRounds, Taking, Told, TurnsOnce}
use Rattle.source_put.specs.Chains.{Meaning}
use Rattle.source_put.specs.Into.{Into}
use Rattle.source_put.specs.declared.chain.HostNames.{HostNames}
use Rattle.netcat_source.specs.Into.{TakesLine}
use Rattle.source_worker.specs.Rounds.{MendsInto, Round, Rounds, Serving, Session}
use Rattle.source_worker.specs.declared.ends.SessionRules.{SessionRules}
use Rattle.line_session.specs.Handled.{Handled, TakesAll}
use Rattle.line_worker.specs.Turns.{Feeding, TakesTurn}
use Rattle.run_tracks.specs.Listening.{PortMends}
use Rattle.run_tracks.specs.Places.{Zips}
use Rattle.run_tracks.specs.Told.{IsFace, IsSteady, PortPuts, as_face}
use Rattle.run_tracks.proofs.Staying.{rounds_stay}
use Rattle.run_tracks.proofs.Tracking.{rounds_later}
use Rattle.run_working.proofs.Turning.{turns_stay}

module _ {F : Type 0} (pass : F → Known) (saw : F → List Own → State → Type 0) (kept : F → F → Type 0) (face : IsFace pass saw kept)
    (on_disk : F → Type 0) where
  abbrev pub IsLater : F → F → Type 0
  IsLater p q = Later (pass p) (pass q)

  self : (p : F) → IsLater p p
  self p = later_none (pass p)

  trans : (p q r : F) → IsLater p q → IsLater q r → IsLater p r
  trans p q r f g = later_then (pass p) (pass q) (pass r) f g

  -- of a sink
  pub sink_later : IsSteady kept on_disk → {S : Type 0} (sink : Told S) (batch : ℕ) (turns : List Turn) (a b : Taking F S)
      → SinkRounds (TurnsOnce (as_face pass saw kept) sink batch) (MendsOnce (as_face pass saw kept) on_disk) turns a b → IsLater a.from b.from
  sink_later steady sink batch turns a b ran = rounds_later pass saw kept face sink batch on_disk steady (on_disk a.from) turns a b ran

  module _ {B : Type 0} (Means : Meaning B) (selector : Selector) (host : HostNames) where
    -- of a listener
    pub listen_later : (rules : SessionRules) (rounds : List Round) (a b : Serving (Into F B))
        → Rounds (Session rules (PortPuts pass saw kept) selector Means host) (MendsInto (PortMends pass saw kept on_disk)) rounds a b
        → Zips IsLater a.into.route.ports b.into.route.ports
    listen_later rules rounds a b ran =
        rounds_stay IsLater self trans (PortPuts pass saw kept) (λ p q events result put. face.laters p q put.same) Means selector host rules
        (PortMends pass saw kept on_disk) (λ p q answer did. face.laters p q did.same) rounds a b ran

    -- of a worker of lines
    pub lines_later : (done : List Handled) (a b : Feeding (Into F B))
        → TakesAll (TakesTurn (TakesLine (PortPuts pass saw kept) selector Means host) (MendsInto (PortMends pass saw kept on_disk))) a done b
        → Zips IsLater a.into.route.ports b.into.route.ports
    lines_later done a b all = turns_stay pass saw kept on_disk IsLater self trans face.laters Means selector host done a b all
