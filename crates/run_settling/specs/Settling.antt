-- What becomes of the channels of a run after its workers.
use Rattle.std.specs.Prelude.{List, Bool, Result, String}
use Rattle.std.specs.declared.alloc.Global.{Global}
use Rattle.agent_end.specs.declared.draining.ChannelDrain.{ChannelDrain}
use Rattle.channel_face.specs.declared.replies.Counts.{Counts}
use Rattle.channel_face.specs.declared.replies.OpenCause.{OpenCause}
use Rattle.shared_channel.specs.Passes.{Known}
use Rattle.sink_worker.specs.declared.worker.SinkWorker.{SinkWorker}
use Rattle.two_channels.specs.declared.shared.EitherClosed.{EitherClosed}
use Rattle.two_channels.specs.declared.shared.EitherShared.{EitherShared}
use Rattle.run_tracks.specs.Closes.{AreClosed}
use Rattle.run_tracks.specs.Stops.{AreCounted, AreKept, AreMended}
use Rattle.run_settling.specs.Draining.{AreDrained, EachGoesOn}
use Rattle.run_settling.specs.declared.at_home.AtHome.{AtHome}
use Rattle.run_settling.specs.declared.settling.Settled.{Settled}

-- Each channel was mended through its pass at home, and then counted.
pub record AreMendedAndCounted {Z : Type 0} (Mended : Z → Known → Result Bool OpenCause → Known → Type 0) (shares : List Z) (homes : List Known)
    (names : List (String Global × Counts)) (answers : List (Result Bool OpenCause)) (report : List (String Global × Counts)) (counted : List Known) : Type 0 where
  pub mended : List Known
  pub mends : AreMended Mended shares homes answers mended
  pub counts : AreCounted mended names report counted

-- Each sink emptied its channel, one after the other, through the passes at home; then each channel of which it is said so was kept once
-- more; then each was mended, then counted and closed, and is as all that its pass at home had seen.
pub record AreSettled {A B S C : Type 0}
    (Drained : SinkWorker AtHome S C → List Known → ChannelDrain → S → List Known → Type 0)
    (Kept : EitherShared A B → Known → Known → Type 0)
    (Mended : EitherShared A B → Known → Result Bool OpenCause → Known → Type 0)
    (Closed : EitherShared A B → Known → EitherClosed A B → Type 0)
    (shares : List (EitherShared A B)) (homes : List Known) (workers : List (SinkWorker AtHome S C))
    (closes : List Bool) (names : List (String Global × Counts)) (s : Settled S A B) : Type 0 where
  pub drained : List Known
  pub kept : List Known
  pub mended : List Known
  pub counted : List Known
  pub goes_on : EachGoesOn homes drained
  pub drains : AreDrained Drained workers homes s.ends.items s.sinks.items drained
  pub keeps : AreKept Kept shares closes drained kept
  pub mends : AreMended Mended shares kept s.mends.items mended
  pub counts : AreCounted mended names s.report.items counted
  pub closed : AreClosed Closed shares counted s.closed.items
