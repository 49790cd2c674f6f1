-- What the workers of a run call is fair to other passes.
use Rattle.std.proofs.Common.{◌≡◌, ◌∷◌, [], ℕ, suc, List, length, Result, Bool, true, false, sym, ap, subst}
use Rattle.std.specs.List.{AllByRecursion}
use Rattle.event_core.specs.Content.{Content}
use Rattle.channel_face.specs.Faces.{Own}
use Rattle.channel_face.specs.declared.replies.FaceRefused.{FaceRefused}
use Rattle.channel_face.specs.declared.replies.CheckRefused.{CheckRefused}
use Rattle.channel_face.specs.declared.replies.PruneRefused.{PruneRefused}
use Rattle.selectors.specs.declared.selector.Selector.{Selector}
use Rattle.source_put.specs.Chains.{Meaning}
use Rattle.source_put.specs.Into.{Into}
use Rattle.source_put.specs.declared.chain.HostNames.{HostNames}
use Rattle.source_put.specs.declared.intake.Verdict.{Verdict}
use Rattle.netcat_source.specs.Into.{TakesLine}
use Rattle.netcat_source.specs.declared.lines.LineVerdict.{LineVerdict}
use Rattle.line_session.specs.Handled.{Handled, TakesAll}
use Rattle.line_worker.specs.Turns.{Feeding, MendsWhere, TakesTurn, is_due as is_line_due}
use Rattle.source_worker.specs.Rounds.{Answer, Makes, MendsIf, Round, Rounds, Serving, Session, any_refused, is_due}
use Rattle.source_worker.specs.declared.ends.SessionRules.{SessionRules}
use Rattle.sink_runner.specs.declared.turn.Turn.{Turn}
use Rattle.sink_runner.specs.declared.turn.Turn.TheVariants.{Delivered}
use Rattle.sink_worker.specs.Answers.{needs_mend}
use Rattle.sink_worker.specs.Rounds.{MendsIf as SinkMendsIf, Rounds as SinkRounds, Taking, Told}
use Rattle.keep_worker.specs.Answers.{needs_mend as needs_keep_mend}
use Rattle.keep_worker.specs.Rounds.{MendsIf as KeepMendsIf, RoundsBy}
use Rattle.keep_worker.specs.declared.keeping.Upkeep.{Upkeep}
use Rattle.agent_end.specs.Drains.{Deliveries, Drains, EndsDrain, RunsOnEvents}
use Rattle.agent_end.specs.declared.draining.ChannelDrain.{ChannelDrain}
use Rattle.agent_end.specs.declared.draining.ChannelDrain.TheVariants.{Emptied, Stopped}
use Rattle.run_tracks.specs.Drained.{Looked}
use Rattle.run_tracks.specs.Listening.{MendedEach, MendedInto, MendedPort}
use Rattle.run_tracks.specs.Places.{Zips}
use Rattle.run_tracks.specs.Tracks.{Calls, Gave, Mended, Stood, Track, Turned}
use Rattle.run_tracks.proofs.Staying.{into_same, line_stays, serves_stay, stay_then}
use Rattle.sound_lines.proofs.Fair.{AreFairOwn, batch_fair, fair_then, mend_fair}
use Rattle.sound_lines.proofs.Turns.{turn_fair}

-- the own calls so far are fair
abbrev pub IsFairTrack : Track → Type 0
IsFairTrack t = AreFairOwn [] t.own

-- so they stay
abbrev pub StaysFair : Track → Track → Type 0
StaysFair t u = IsFairTrack t → IsFairTrack u

self : (t : Track) → StaysFair t t
self t fair = fair

trans : (t u v : Track) → StaysFair t u → StaysFair u v → StaysFair t v
trans t u v f g fair = g (f fair)

-- a track stays fair when it makes fair calls
pub calls_stay : (t u : Track) (more : List Own) → Calls t u more → AreFairOwn [] more → StaysFair t u
calls_stay t u more calls fair = λ before. subst IsFairTrack (sym calls) (fair_then t.own more before fair)

gave_stays : (t u : Track) (events : List Content) (result : Result ℕ FaceRefused) → Gave t u events result → StaysFair t u
gave_stays t u events result (more, calls, batch) = calls_stay t u more calls (batch_fair (Stood t) (length t.whole) events result t.own more batch)

port_stays : (D : Type 0) (t u : Track) (answer : Answer) → MendedPort D t answer u → StaysFair t u
port_stays D t u answer (more, calls, mend) = calls_stay t u more calls (mend_fair D (Stood t) (length t.whole) answer t.own [] more mend)

-- where all were fair, all are
pub all_fair : (ts us : List Track) → Zips StaysFair ts us → AllByRecursion IsFairTrack ts → AllByRecursion IsFairTrack us
all_fair [] [] stay fair = tt
all_fair [] (u ∷ us) stay fair = absurd stay
all_fair (t ∷ ts) [] stay fair = absurd stay
all_fair (t ∷ ts) (u ∷ us) stay fair = (stay.0 fair.0, all_fair ts us stay.1 fair.1)

each_stays : (OnDisk : ℕ → Type 0) (ts : List Track) (answers : List Answer) (us : List Track) → MendedEach OnDisk ts answers us → Zips StaysFair ts us
each_stays OnDisk [] [] [] is = tt
each_stays OnDisk [] [] (u ∷ us) is = absurd is
each_stays OnDisk [] (answer ∷ answers) us is = absurd is
each_stays OnDisk (t ∷ ts) [] us is = absurd is
each_stays OnDisk (t ∷ ts) (answer ∷ answers) [] is = absurd is
each_stays OnDisk (t ∷ ts) (answer ∷ answers) (u ∷ us) is = (port_stays (OnDisk 0) t u answer is.0, each_stays (λ place. OnDisk (suc place)) ts answers us is.1)

module _ {B : Type 0} (Means : Meaning B) (selector : Selector) (host : HostNames) (OnDisk : ℕ → Type 0) where
  same_into : (a b : Into Track B) → b ≡ a → Zips StaysFair a.route.ports b.route.ports
  same_into = into_same StaysFair self trans Gave gave_stays Means selector host

  one_line : (a b : Into Track B) (line : List ℕ) (verdict : Verdict) → TakesLine Gave selector Means host a line verdict b → Zips StaysFair a.route.ports b.route.ports
  one_line = line_stays StaysFair self trans Gave gave_stays Means selector host

  then_ports : (ts us vs : List Track) → Zips StaysFair ts us → Zips StaysFair us vs → Zips StaysFair ts vs
  then_ports = stay_then StaysFair self trans

  -- ---- workers of lines

  mends_where : (due : Bool) (a b : Into Track B) (answers : List Answer) → MendsWhere (MendedInto OnDisk) due a answers b → Zips StaysFair a.route.ports b.route.ports
  mends_where true a b answers is = each_stays OnDisk a.route.ports answers b.route.ports is.2
  mends_where false a b answers is = same_into a b is.1

  one_turn : (a b : Feeding (Into Track B)) (line : List ℕ) (said : LineVerdict) → TakesTurn (TakesLine Gave selector Means host) (MendedInto OnDisk) a line said b → Zips StaysFair a.into.route.ports b.into.route.ports
  one_turn a b line said turn =
      then_ports a.into.route.ports turn.before.route.ports b.into.route.ports (mends_where a.due a.into turn.before turn.first turn.again)
      (then_ports turn.before.route.ports turn.behind.route.ports b.into.route.ports (one_line turn.before turn.behind line turn.verdict turn.takes)
      (mends_where (is_line_due (any_refused turn.first) turn.verdict) turn.behind b.into turn.last turn.mends))

  -- the lines of a session leave the calls of a source's passes fair
  pub turns_stay : (done : List Handled) (a b : Feeding (Into Track B)) → TakesAll (TakesTurn (TakesLine Gave selector Means host) (MendedInto OnDisk)) a done b → Zips StaysFair a.into.route.ports b.into.route.ports
  turns_stay [] a b same = same_into a.into b.into (ap (λ (x : Feeding (Into Track B)). x.into) same)
  turns_stay (h ∷ done) a b (next, one, others) = then_ports a.into.route.ports next.into.route.ports b.into.route.ports (one_turn a next h.line h.verdict one) (turns_stay done next b others)

  -- ---- listeners

  module _ (rules : SessionRules) where
    mends_if : (due : Bool) (a b : Into Track B) (answers : List Answer) → MendsIf (Session rules Gave selector Means host) (MendedInto OnDisk) due a answers b → Zips StaysFair a.route.ports b.route.ports
    mends_if true a b answers is = each_stays OnDisk a.route.ports answers b.route.ports is.2
    mends_if false a b answers is = same_into a b is.1

    one_round : (round : Round) (a b : Serving (Into Track B)) → Makes (Session rules Gave selector Means host) (MendedInto OnDisk) round a b → Zips StaysFair a.into.route.ports b.into.route.ports
    one_round round a b one =
        then_ports a.into.route.ports one.between.into.route.ports b.into.route.ports
        (serves_stay StaysFair self trans Gave gave_stays Means selector host rules round.found a one.between one.serves)
        (mends_if (is_due a.due round.found) one.between.into b.into round.mends one.mends)

    -- the rounds of a listener leave the calls of its passes fair
    pub rounds_stay : (rounds : List Round) (a b : Serving (Into Track B)) → Rounds (Session rules Gave selector Means host) (MendedInto OnDisk) rounds a b → Zips StaysFair a.into.route.ports b.into.route.ports
    rounds_stay [] a b same = same_into a.into b.into (ap (λ (x : Serving (Into Track B)). x.into) same)
    rounds_stay (round ∷ rounds) a b (next, one, others) = then_ports a.into.route.ports next.into.route.ports b.into.route.ports (one_round round a next one) (rounds_stay rounds next b others)

-- ---- sinks

module _ {S : Type 0} (sink : Told S) (batch : ℕ) where
  turned_stays : (a b : Taking Track S) (turn : Turn) → Turned sink batch a turn b → StaysFair a.from b.from
  turned_stays a b turn (moment, more, next, counts, calls, one) =
      calls_stay a.from b.from more calls (turn_fair (Stood a.from) (length a.from.whole) sink.delivers batch moment a.sink turn b.sink a.from.own [] more one)

  mended_stays : (D : Type 0) (due : Bool) (a b : Taking Track S) → SinkMendsIf (Mended D) due a b → StaysFair a.from b.from
  mended_stays D true a b (result, (more, same, calls, mend)) = calls_stay a.from b.from more calls (mend_fair D (Stood a.from) (length a.from.whole) result a.from.own [] more mend)
  mended_stays D false a b same = λ fair. subst IsFairTrack (ap (λ (x : Taking Track S). x.from) (sym same)) fair

  -- the rounds of a sink leave the calls of its pass fair
  pub sink_stays : (D : Type 0) (turns : List Turn) (a b : Taking Track S) → SinkRounds (Turned sink batch) (Mended D) turns a b → StaysFair a.from b.from
  sink_stays D [] a b same = λ fair. subst IsFairTrack (ap (λ (x : Taking Track S). x.from) (sym same)) fair
  sink_stays D (turn ∷ turns) a b (next, (between, one, due), others) =
      λ fair. sink_stays D turns next b others (mended_stays D (needs_mend turn) between next due (turned_stays a between turn one fair))

  looked_stays : (a b : Taking Track S) (size : ℕ) → Looked a size b → StaysFair a.from b.from
  looked_stays a b size (same, found) = λ fair. subst IsFairTrack (ap (λ (x : Taking Track S). x.from) (sym same)) fair

  run_stays : (a b : Taking Track S) (turn : Turn) → RunsOnEvents (Turned sink batch) Looked a turn b → StaysFair a.from b.from
  run_stays a b turn (size, between, some, looked, turned) = λ fair. turned_stays between b turn turned (looked_stays a between size looked fair)

  deliveries_stay : (counts : List ℕ) (a b : Taking Track S) → Deliveries (Turned sink batch) Looked counts a b → StaysFair a.from b.from
  deliveries_stay [] a b same = λ fair. subst IsFairTrack (ap (λ (x : Taking Track S). x.from) (sym same)) fair
  deliveries_stay (count ∷ counts) a b (next, one, others) = λ fair. deliveries_stay counts next b others (run_stays a next (Delivered count) one fair)

  end_stays : (end : ChannelDrain) (a b : Taking Track S) → EndsDrain (Turned sink batch) Looked end a b → StaysFair a.from b.from
  end_stays Emptied a b looked = looked_stays a b 0 looked
  end_stays (Stopped turn) a b (none, run) = run_stays a b turn run

  -- the draining of a sink's channel leaves the calls of its pass fair
  pub drain_stays : (end : ChannelDrain) (a b : Taking Track S) → Drains (Turned sink batch) Looked end a b → StaysFair a.from b.from
  drain_stays end a b d = λ fair. end_stays end d.between b d.ends (deliveries_stay d.counts a d.between d.deliveries fair)

-- ---- workers of channels

module _ (Checks : Track → Result (Unit {0}) CheckRefused → Track → Type 0) (Prunes : Track → Result ℕ PruneRefused → Track → Type 0) (D : Type 0)
    (checks : (t : Track) (reply : Result (Unit {0}) CheckRefused) (u : Track) → Checks t reply u → StaysFair t u)
    (prunes : (t : Track) (reply : Result ℕ PruneRefused) (u : Track) → Prunes t reply u → StaysFair t u) where
  keep_mended : (due : Bool) (t u : Track) → KeepMendsIf Checks Prunes (MendedPort D) due t u → StaysFair t u
  keep_mended true t u (result, mend) = port_stays D t u result mend
  keep_mended false t u same = λ fair. subst IsFairTrack (sym same) fair

  -- the rounds of a channel's keeper leave the calls of its pass fair
  pub keep_stays : (upkeeps : List Upkeep) (t u : Track) → RoundsBy Checks Prunes (MendedPort D) upkeeps t u → StaysFair t u
  keep_stays [] t u same = λ fair. subst IsFairTrack (sym same) fair
  keep_stays (upkeep ∷ upkeeps) t u (next, (between, (middle, check, prune), due), others) =
      λ fair. keep_stays upkeeps next u others
      (keep_mended (needs_keep_mend upkeep.checked upkeep.pruned) between next due (prunes middle upkeep.pruned between prune (checks t upkeep.checked middle check fair)))
