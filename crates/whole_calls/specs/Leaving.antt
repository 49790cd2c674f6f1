-- Calls through a port that leave no transaction open.
use Rattle.std.specs.Prelude.{ℕ, List, Bool, Result, length}
use Rattle.agent_end.specs.Drains.{Drains, LooksOnce}
use Rattle.agent_end.specs.declared.draining.ChannelDrain.{ChannelDrain}
use Rattle.channel_face.specs.Faces.{Own}
use Rattle.channel_face.specs.Machine.{State}
use Rattle.channel_face.specs.declared.replies.FaceRefused.{FaceRefused}
use Rattle.event_core.specs.Content.{Content}
use Rattle.shared_channel.specs.Passes.{Known}
use Rattle.shared_channel.specs.Ports.{AreOwned}
use Rattle.sink_runner.specs.declared.turn.Turn.{Turn}
use Rattle.sink_worker.specs.Rounds.{Face, MendsOnce, Rounds, Taking, Told, TurnsOnce, face}
use Rattle.source_put.specs.Tries.{Giving, Puts}
use Rattle.whole_calls.specs.Over.{LeavesNone, SawRun}

-- Where a pass had left none open, it leaves none open later.
abbrev pub StaysOver : Known → Known → Type 0
StaysOver old new = (tells : Bool) → SawRun tells new.view → LeavesNone old.view → LeavesNone new.view

module _ {F : Type 0} (pass : F → Known) (saw : F → List Own → State → Type 0) (kept : F → F → Type 0) where
  -- what a port with this pass says of itself
  abbrev pub port_says : Face F
  port_says = face (λ p. AreOwned (pass p).view) saw (λ p. length (pass p).view.seen) kept

  -- a put through it
  abbrev pub PortPuts : Giving F
  PortPuts = Puts (λ p. AreOwned (pass p).view) saw (λ p. length (pass p).view.seen) kept

  -- so it is with the rounds of a sink
  abbrev pub RoundsAreOver : (F → Type 0) → {S : Type 0} → Told S → Type 0
  RoundsAreOver on_disk {S} sink =
      (batch : ℕ) (turns : List Turn) (old new : Taking F S)
      → Rounds (TurnsOnce port_says sink batch) (MendsOnce port_says on_disk) turns old new → StaysOver (pass old.from) (pass new.from)

  -- with the draining of a channel
  abbrev pub DrainsAreOver : {S : Type 0} → Told S → Type 0
  DrainsAreOver {S} sink =
      (batch : ℕ) (end : ChannelDrain) (old new : Taking F S)
      → Drains (TurnsOnce port_says sink batch) (LooksOnce port_says) end old new → StaysOver (pass old.from) (pass new.from)

  -- and with a transaction of puts
  abbrev pub PutsAreOver : Type 0
  PutsAreOver = (events : List Content) (result : Result ℕ FaceRefused) (old new : F) → PortPuts old new events result → StaysOver (pass old) (pass new)
