-- The lines of a dialogue where nothing failed in its channels.
use Rattle.std.proofs.Common.{◌<◌, ℕ, List, [], ◌∷◌, Bool, true, false, Option, length, map, refl}
use Rattle.std.specs.List.{AllByRecursion}
use Rattle.std.proofs.lemmas.List.Elements.{recursion_from_All}
use Rattle.shared_channel.specs.Passes.{Known}
use Rattle.source_put.specs.Chains.{Meaning}
use Rattle.source_put.specs.Into.{Into}
use Rattle.source_put.specs.declared.intake.Verdict.{Verdict}
use Rattle.source_worker.specs.Rounds.{Answer, Heard}
use Rattle.netcat_source.specs.declared.lines.LineVerdict.{LineVerdict}
use Rattle.line_session.specs.Handled.{Handled, TakesAll}
use Rattle.line_worker.specs.Turns.{Feeding, MendsWhere, TakesTurn}
use Rattle.line_worker.specs.Workers.{ends_session}
use Rattle.two_channels.specs.declared.shared.EitherShared.{EitherShared}
use Rattle.run_tracks.specs.Listening.{MendedInto, home_tracks}
use Rattle.run_tracks.specs.Tracks.{Track, ended}
use Rattle.sound_lines.specs.Laws.{LinesAreSound}
use Rattle.sound_lines.specs.Sound.{AreCalled, AreSound, HasEnded, IsCalm}
use Rattle.sound_lines.proofs.Lines.{mended_called}
use Rattle.sound_lines.proofs.Linked.{rounds_sound}
use Rattle.run_working.specs.Histories.{IsDiskOf, MendedOver}
use Rattle.sound_runs.specs.SoundRun.{AreUndisturbed, DialoguesAreSound, ListenersAreSound}

module _ {A B K : Type 0} (shares : List (EitherShared A B)) (channels : List ℕ) (share : EitherShared A B) (Takes : Into Track K → List ℕ → Verdict → Into Track K → Type 0) where
  where_called : (due : Bool) (a b : Into Track K) (answers : List Answer) → MendsWhere (MendedOver shares channels) due a answers b → MendsWhere AreCalled due a answers b
  where_called true a b answers is = mended_called (IsDiskOf shares channels share) a.route.ports answers b.route.ports (is share).2
  where_called false a b answers is = is

  turn_called : (a b : Feeding (Into Track K)) (line : List ℕ) (said : LineVerdict) → TakesTurn Takes (MendedOver shares channels) a line said b → TakesTurn Takes AreCalled a line said b
  turn_called a b line said t = record {
    first = t.first;
    last = t.last;
    verdict = t.verdict;
    before = t.before;
    behind = t.behind;
    again = where_called a.due a.into t.before t.first t.again;
    takes = t.takes;
    mends = where_called _ t.behind b.into t.last t.mends;
    due = t.due;
    answered = t.answered;
  }

  turns_called : (done : List Handled) (a b : Feeding (Into Track K)) → TakesAll (TakesTurn Takes (MendedOver shares channels)) a done b → TakesAll (TakesTurn Takes AreCalled) a done b
  turns_called [] a b same = same
  turns_called (h ∷ done) a b (next, one, others) = (next, turn_called a next h.line h.verdict one, turns_called done next b others)

  -- the verdicts are the same
  sound_called : (tracks : List Track) (done : List Handled) (a b : Feeding (Into Track K)) (takes : TakesAll (TakesTurn Takes (MendedOver shares channels)) a done b)
      → AreSound Takes AreCalled tracks done a b (turns_called done a b takes) → AreSound Takes (MendedOver shares channels) tracks done a b takes
  unfolding turns_called turn_called
  sound_called tracks [] a b none is = tt
  sound_called tracks (h ∷ done) a b (next, one, others) is = (is.0, sound_called tracks done next b others is.1)

module _ (finals : List Known) (calm : AreUndisturbed finals) where
  -- the histories of a worker's channels are undisturbed where those of all channels are
  pub ended_calm : (places : List ℕ) (passes : List Known) → AllByRecursion (λ (place : ℕ). place < length finals) places → AllByRecursion IsCalm (map ended (home_tracks (λ (p : Known). p) finals places passes))
  ended_calm [] passes below = tt
  ended_calm (place ∷ places) [] below = tt
  ended_calm (place ∷ places) (p ∷ passes) below = (calm place p below.0, ended_calm places passes below.1)

  -- all calls of a worker's passes were made once the run ended
  pub ended_all : (places : List ℕ) (passes : List Known) → AllByRecursion HasEnded (map ended (home_tracks (λ (p : Known). p) finals places passes))
  ended_all [] passes = tt
  ended_all (place ∷ places) [] = tt
  ended_all (place ∷ places) (p ∷ passes) = (refl, ended_all places passes)

-- each line of a dialogue has a sound verdict where nothing failed
pub dialogues_are_sound : (A B I O : Type 0) → {C K : Type 0} (Means : Meaning K) (moments : C → Option (ℕ → ℕ)) → LinesAreSound Means → DialoguesAreSound A B I O Means moments
dialogues_are_sound A B I O Means moments lines share shares finals job end old new d calm there =
    let served = d.served in
    let over = turns_called shares job.channels.items share _ served.done _ _ served.takes in
    sound_called shares job.channels.items share _ _ served.done _ _ served.takes
    (lines job.rules.max job.rules.ack ends_session job.selector job.host _ _ end
    (record { done = served.done; takes = over; each = served.each; rest = served.rest; read = served.read; sent = served.sent; wrote = served.wrote; ends = served.ends; at = served.at })
    (ended_calm finals calm job.channels.items job.ports.items (recursion_from_All (λ (place : ℕ). place < length finals) job.channels.items there))
    (ended_all finals calm job.channels.items job.ports.items))

-- each line of a listener's sessions has a sound verdict where nothing failed
pub listeners_are_sound : (A B : Type 0) → {N C K : Type 0} (Means : Meaning K) (moments : C → Option (ℕ → ℕ)) (heard : N → Heard) → ListenersAreSound A B Means moments heard
listeners_are_sound A B Means moments heard share shares finals job listener told calm there =
    rounds_sound Means job.selector job.host job.rules (MendedInto (IsDiskOf shares job.channels.items share))
    (λ a answers b is. mended_called (IsDiskOf shares job.channels.items share) a.route.ports answers b.route.ports is.2) told.made _ _ (told.rounds share)
    (ended_calm finals calm job.channels.items job.ports.items (recursion_from_All (λ (place : ℕ). place < length finals) job.channels.items there))
    (ended_all finals calm job.channels.items job.ports.items)
