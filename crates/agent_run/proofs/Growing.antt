-- What a worker's sink was handed in its rounds and its draining, by all calls of the worker.
use Rattle.std.proofs.Common.{◌≡◌, ◌∙◌, ℕ, List, [], ◌∷◌, ◌++◌, append-nil, append_assoc, Bool, true, false, Option, Result, length, get_or, refl, sym, ap, subst}
use Rattle.channel_face.specs.Faces.{Own}
use Rattle.channel_face.specs.History.{opening}
use Rattle.channel_face.specs.declared.replies.OpenCause.{OpenCause}
use Rattle.shared_channel.specs.Passes.{Known}
use Rattle.shared_channel.specs.Ports.{own_calls}
use Rattle.sink_runner.specs.declared.turn.Turn.{Turn}
use Rattle.sink_runner.specs.declared.turn.Turn.TheVariants.{Delivered}
use Rattle.sink_worker.specs.Answers.{needs_mend}
use Rattle.sink_worker.specs.Rounds.{MendsIf, Rounds, Taking, Told}
use Rattle.sink_worker.specs.declared.worker.SinkWorker.{SinkWorker}
use Rattle.two_channels.specs.declared.shared.EitherShared.{EitherShared}
use Rattle.two_channels.specs.Shares.{IsDisk}
use Rattle.agent_end.specs.Drains.{Deliveries, EndsDrain, RunsOnEvents}
use Rattle.agent_end.specs.declared.draining.ChannelDrain.{ChannelDrain}
use Rattle.agent_end.specs.declared.draining.ChannelDrain.TheVariants.{Emptied, Stopped}
use Rattle.run_tracks.specs.Drained.{Looked}
use Rattle.run_tracks.specs.Tracks.{Calls, Mended, Stood, Track, Turned, ended, track_of}
use Rattle.run_working.specs.Wholes.{IsSinkWhole, WorkedAndDrained}
use Rattle.agent_run.proofs.Ended.{ends_then, mend_ends, turn_ends}
use Rattle.agent_run.proofs.Handing.{Hands, hands_none, hands_then, mend_commits, turn_hands}
use Rattle.agent_run.proofs.Staged.{EachEnds}
use Rattle.agent_run.proofs.Tidying.{Tidy}

-- ---- what a sink was handed in its rounds and its draining

module _ {S : Type 0} (sink : Told S) (batch : ℕ) where
  -- the sink was handed so much by its worker's next calls
  record Grew (old new : Taking Track S) : Type 0 where
    pub more : List Own
    pub calls : Calls old.from new.from more
    pub hands : Hands sink.delivers (length old.from.whole) more old.sink new.sink
    pub ends : EachEnds (Stood old.from) (length old.from.whole) old.from.own more

  grew_same : (old new : Taking Track S) → new ≡ old → Grew old new
  grew_same old new same = subst (Grew old) (sym same) (record {
    more = [];
    calls = ap (λ (l : List Own). record old.from { own = l }) (sym (append-nil old.from.own));
    hands = hands_none sink.delivers (length old.from.whole) [] old.sink old.sink refl (λ e. refl);
    ends = tt;
  })

  grew_then : (a b c : Taking Track S) → Grew a b → Grew b c → Grew a c
  grew_then a b c f g = record {
    more = f.more ++ g.more;
    calls = g.calls ∙ ap (λ (t : Track). record t { own = t.own ++ g.more }) f.calls ∙ ap (λ (l : List Own). record a.from { own = l }) (append_assoc a.from.own f.more g.more);
    hands = hands_then sink.delivers (length a.from.whole) f.more g.more a.sink b.sink c.sink f.hands
        (subst (λ (n : ℕ). Hands sink.delivers n g.more b.sink c.sink) (ap (λ (t : Track). length t.whole) f.calls) g.hands);
    ends = ends_then (Stood a.from) (length a.from.whole) a.from.own f.more g.more f.ends (subst (λ (t : Track). EachEnds (Stood t) (length t.whole) t.own g.more) f.calls g.ends);
  }

  turn_grew : (old : Taking Track S) (turn : Turn) (new : Taking Track S) → Turned sink batch old turn new → Grew old new
  turn_grew old turn new is = record {
    more = is.1;
    calls = is.4;
    hands = turn_hands sink.delivers (Stood old.from) (length old.from.whole) batch is.0 old.sink new.sink turn old.from.own is.1 is.5;
    ends = turn_ends (Stood old.from) (length old.from.whole) sink.delivers batch is.0 old.sink turn new.sink old.from.own is.1 is.5;
  }

  mend_grew : (OnDisk : Type 0) (old : Taking Track S) (result : Result Bool OpenCause) (new : Taking Track S) → Mended OnDisk old result new → Grew old new
  mend_grew OnDisk old result new is = record {
    more = is.0;
    calls = is.2;
    hands = hands_none sink.delivers (length old.from.whole) is.0 old.sink new.sink (ap (λ (t : Taking Track S). t.sink) is.1)
        (λ e. mend_commits OnDisk (Stood old.from) (length old.from.whole) result old.from.own is.0 e is.3);
    ends = mend_ends (Stood old.from) (length old.from.whole) OnDisk result old.from.own is.0 is.3;
  }

  mends_if : (OnDisk : Type 0) (due : Bool) (old new : Taking Track S) → MendsIf (Mended OnDisk) due old new → Grew old new
  mends_if OnDisk true old new is = mend_grew OnDisk old is.0 new is.1
  mends_if OnDisk false old new is = grew_same old new is

  rounds_grew : (OnDisk : Type 0) (turns : List Turn) (old new : Taking Track S) → Rounds (Turned sink batch) (Mended OnDisk) turns old new → Grew old new
  rounds_grew OnDisk [] old new is = grew_same old new is
  rounds_grew OnDisk (turn ∷ turns) old new (next, (between, turned, mends), rest) =
      grew_then old next new (grew_then old between next (turn_grew old turn between turned) (mends_if OnDisk (needs_mend turn) between next mends)) (rounds_grew OnDisk turns next new rest)

  run_grew : (old : Taking Track S) (turn : Turn) (new : Taking Track S) → RunsOnEvents (Turned sink batch) Looked old turn new → Grew old new
  run_grew old turn new (size, between, some, looks, turns) = grew_then old between new (grew_same old between looks.0) (turn_grew between turn new turns)

  deliveries_grew : (counts : List ℕ) (old new : Taking Track S) → Deliveries (Turned sink batch) Looked counts old new → Grew old new
  deliveries_grew [] old new is = grew_same old new is
  deliveries_grew (count ∷ counts) old new (next, one, rest) = grew_then old next new (run_grew old (Delivered count) next one) (deliveries_grew counts next new rest)

  ends_grew : (end : ChannelDrain) (old new : Taking Track S) → EndsDrain (Turned sink batch) Looked end old new → Grew old new
  ends_grew Emptied old new is = grew_same old new is.0
  ends_grew (Stopped turn) old new is = run_grew old turn new is.1

  whole_grew : (OnDisk : Type 0) (turns : List Turn) (end : ChannelDrain) (old new : Taking Track S) → WorkedAndDrained sink batch OnDisk turns end old new → Grew old new
  whole_grew OnDisk turns end old new is =
      grew_then old is.between new (rounds_grew OnDisk turns old is.between is.rounds)
      (grew_then is.between is.drains.between new (deliveries_grew is.drains.counts is.between is.drains.between is.drains.deliveries) (ends_grew end is.drains.between new is.drains.ends))

module _ {A B S C : Type 0} (sink : Told S) (moments : C → Option (ℕ → ℕ)) (shares : List (EitherShared A B)) (homes : List Known) (job : SinkWorker Known S C)
    (end : ChannelDrain) (back : S) (is : IsSinkWhole sink moments shares homes job end back) (share : EitherShared A B) (home : Known) where
  -- the history that the pass at home has seen, with the number of its worker
  abbrev track : Track
  track = track_of (get_or homes job.channel home) job.port.number

  all_grew : Grew sink job.batch (record { from = track; sink = job.sink; moments = moments job.clock }) (record { from = ended track; sink = back; moments = (is.calls share home).0 })
  all_grew = whole_grew sink job.batch (IsDisk (get_or shares job.channel share)) is.turns end (record { from = track; sink = job.sink; moments = moments job.clock })
      (record { from = ended track; sink = back; moments = (is.calls share home).0 }) (is.calls share home).1

  -- by all calls of its worker a sink was handed so much
  pub whole_hands : let all = (get_or homes job.channel home).view in Hands sink.delivers (length all.seen) (own_calls (job.port.number ∷ []) (opening all.base) all.seen) job.sink back
  whole_hands = subst (λ (l : List Own). Hands sink.delivers (length track.whole) l job.sink back) (sym (ap (λ (t : Track). t.own) all_grew.calls)) all_grew.hands

  -- and each of their stages was settled or flushed
  pub whole_tidied : Tidy track (ended track)
  whole_tidied = (all_grew.more, all_grew.calls, all_grew.ends)
