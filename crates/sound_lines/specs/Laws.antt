-- The laws of lines whose channels' histories are undisturbed.
use Rattle.std.specs.Prelude.{ℕ, List, Bool}
use Rattle.std.specs.List.{AllByRecursion}
use Rattle.selectors.specs.declared.selector.Selector.{Selector}
use Rattle.source_put.specs.Chains.{Meaning}
use Rattle.source_put.specs.Into.{Into}
use Rattle.source_put.specs.declared.chain.HostNames.{HostNames}
use Rattle.source_put.specs.declared.intake.Verdict.{Verdict}
use Rattle.netcat_source.specs.Into.{TakesLine}
use Rattle.netcat_source.specs.declared.lines.LineVerdict.{LineVerdict}
use Rattle.line_session.specs.Sessions.{Ends, Served}
use Rattle.line_session.specs.declared.session.SessionEnd.{SessionEnd}
use Rattle.line_worker.specs.Turns.{Feeding, TakesTurn}
use Rattle.run_tracks.specs.Tracks.{Gave, Track}
use Rattle.sound_lines.specs.Sound.{AreCalled, AreSound, HasEnded, IsCalm, IsSound}

-- A line that a source took, where the histories of its channels are undisturbed, has a sound verdict. Of the calls of its passes, these
-- were all up to then.
abbrev pub LineIsSound : {B : Type 0} → Meaning B → Type 0
LineIsSound {B} Means =
    (selector : Selector) (host : HostNames) (old new : Into Track B) (line : List ℕ) (verdict : Verdict)
    → TakesLine Gave selector Means host old line verdict new
    → AllByRecursion IsCalm new.route.ports → AllByRecursion HasEnded new.route.ports → IsSound old.route.ports verdict

-- So has each line of a whole session, whatever was called between two lines, as mends are.
abbrev pub LinesAreSound : {B : Type 0} → Meaning B → Type 0
LinesAreSound {B} Means =
    (max : ℕ) (ack : Bool) (stops : LineVerdict → Bool) (selector : Selector) (host : HostNames)
    (old new : Ends (Feeding (Into Track B))) (end : SessionEnd)
    → (session : Served max ack stops (TakesTurn (TakesLine Gave selector Means host) AreCalled) old new end)
    → AllByRecursion IsCalm new.store.into.route.ports → AllByRecursion HasEnded new.store.into.route.ports
    → AreSound (TakesLine Gave selector Means host) AreCalled old.store.into.route.ports session.done old.store new.store session.takes
