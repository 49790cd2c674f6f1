-- Each stage of a run's workers was settled or flushed, in the tracks of their passes.
use Rattle.std.proofs.Common.{◌≡◌, ◌∙◌, ◌<◌, ◌++◌, ℕ, suc, List, [], ◌∷◌, All, append-nil, append_assoc, Bool, true, false, Option, Result, length, map, flat_map, get_or, sym, ap, subst}
use Rattle.std.specs.List.{AllByRecursion}
use Rattle.std.proofs.lemmas.List.{get_or_default}
use Rattle.std.proofs.lemmas.List.Elements.{All-head, All-tail}
use Rattle.event_core.specs.Content.{Content}
use Rattle.channel_face.specs.Faces.{Own}
use Rattle.channel_face.specs.History.{opening}
use Rattle.channel_face.specs.declared.replies.FaceRefused.{FaceRefused}
use Rattle.flume_host.specs.Links.{LinkTold}
use Rattle.keep_worker.specs.Answers.{needs_mend as keep_needs_mend}
use Rattle.keep_worker.specs.Rounds.{MendsIf as KeepMends, RoundBy as KeepRound, RoundsBy as KeepRounds}
use Rattle.keep_worker.specs.declared.keeping.Upkeep.{Upkeep}
use Rattle.keep_worker.specs.declared.worker.KeepWorker.{KeepWorker}
use Rattle.selectors.specs.declared.selector.Selector.{Selector}
use Rattle.shared_channel.specs.Passes.{Known}
use Rattle.shared_channel.specs.Ports.{own_calls}
use Rattle.source_put.specs.Chains.{Meaning}
use Rattle.source_put.specs.Into.{Into}
use Rattle.source_put.specs.declared.chain.HostNames.{HostNames}
use Rattle.netcat_source.specs.Into.{TakesLine}
use Rattle.netcat_source.specs.declared.lines.LineVerdict.{LineVerdict}
use Rattle.source_worker.specs.Rounds.{Answer, Heard, MendsEach, MendsIf, MendsInto, Round, Rounds, Serving, Session, any_refused, is_due as is_round_due}
use Rattle.source_worker.specs.declared.ends.LinkEnd.{LinkEnd}
use Rattle.source_worker.specs.declared.worker.ListenWorker.{ListenWorker}
use Rattle.line_session.specs.Handled.{Handled, TakesAll}
use Rattle.line_worker.specs.Turns.{Feeding, MendsWhere, TakesTurn, is_due}
use Rattle.line_worker.specs.Workers.{Talk}
use Rattle.line_worker.specs.declared.worker.LineWorker.{LineWorker}
use Rattle.two_channels.specs.Shares.{IsDisk}
use Rattle.two_channels.specs.declared.shared.EitherShared.{EitherShared}
use Rattle.run_tracks.specs.Dealt.{Owner}
use Rattle.run_tracks.specs.Listening.{MendedEach, MendedInto, MendedPort, home_tracks}
use Rattle.run_tracks.specs.Places.{Zips}
use Rattle.run_tracks.specs.Tracks.{Calls, Gave, Stood, Track, ended, track_of}
use Rattle.run_tracks.proofs.Staying.{into_same, line_stays, rounds_stay, stay_then}
use Rattle.run_working.specs.Histories.{Checked, IsDiskOf, IsKeepTold, IsLineTold, IsListenTold, Pruned}
use Rattle.run_staff.specs.Jobs.{owners_at}
use Rattle.run_staff.specs.declared.workers.LineEnded.{LineEnded}
use Rattle.agent_run.proofs.Ended.{batch_ends, check_ends, ends_then, mend_ends, prune_ends}
use Rattle.run_working.proofs.Owners.{keep_owners}
use Rattle.agent_run.proofs.Staged.{EachEnds, EndsOf}

-- its next calls are these, and each of their stages was settled or flushed
abbrev pub Tidy : Track → Track → Type 0
Tidy old new = (more : List Own) × Calls old new more × EachEnds (Stood old) (length old.whole) old.own more

tidy_self : (t : Track) → Tidy t t
tidy_self t = ([], ap (λ (l : List Own). record t { own = l }) (sym (append-nil t.own)), tt)

tidy_then : (p q r : Track) → Tidy p q → Tidy q r → Tidy p r
tidy_then p q r f g = (
  f.0 ++ g.0,
  g.1 ∙ ap (λ (t : Track). record t { own = t.own ++ g.0 }) f.1 ∙ ap (λ (l : List Own). record p { own = l }) (append_assoc p.own f.0 g.0),
  ends_then (Stood p) (length p.whole) p.own f.0 g.0 f.2 (subst (λ (t : Track). EachEnds (Stood t) (length t.whole) t.own g.0) f.1 g.2),
)

tidy_put : (old new : Track) (events : List Content) (result : Result ℕ FaceRefused) → Gave old new events result → Tidy old new
tidy_put old new events result is = (is.0, is.1, batch_ends (Stood old) (length old.whole) events result old.own is.0 is.2)

tidy_mend : (D : Type 0) (old : Track) (answer : Answer) (new : Track) → MendedPort D old answer new → Tidy old new
tidy_mend D old answer new is = (is.0, is.1, mend_ends (Stood old) (length old.whole) D answer old.own is.0 is.2)

abbrev TidyMend : Track → Answer → Track → Type 0
TidyMend old answer new = Tidy old new

tidy_each : (D : ℕ → Type 0) (olds : List Track) (answers : List Answer) (news : List Track) → MendedEach D olds answers news → MendsEach TidyMend olds answers news × Zips Tidy olds news
tidy_each D [] [] [] none = (tt, tt)
tidy_each D [] [] (t ∷ news) none = absurd none
tidy_each D [] (answer ∷ answers) news none = absurd none
tidy_each D (t ∷ olds) [] news none = absurd none
tidy_each D (t ∷ olds) (answer ∷ answers) [] none = absurd none
tidy_each D (t ∷ olds) (answer ∷ answers) (u ∷ news) (one, others) =
    let first = tidy_mend (D 0) t answer u one in
    let rest = tidy_each (λ place. D (suc place)) olds answers news others in
    ((first, rest.0), (first, rest.1))

-- ---- listeners

module _ {B : Type 0} (Served : Into Track B → Option LinkTold → LinkEnd → Into Track B → Option LinkTold → Type 0) (D : ℕ → Type 0) where
  mends_as : (due : Bool) (a : Into Track B) (answers : List Answer) (b : Into Track B) → MendsIf Served (MendedInto D) due a answers b → MendsIf Served (MendsInto TidyMend) due a answers b
  mends_as true a answers b (moments, links, each) = (moments, links, (tidy_each D a.route.ports answers b.route.ports each).0)
  mends_as false a answers b none = none

  rounds_as : (made : List Round) (a b : Serving (Into Track B)) → Rounds Served (MendedInto D) made a b → Rounds Served (MendsInto TidyMend) made a b
  rounds_as [] a b none = none
  rounds_as (round ∷ made) a b (next, one, others) = (
    next,
    record {
      between = one.between;
      serves = one.serves;
      mends = mends_as (is_round_due a.due round.found) one.between.into round.mends next.into one.mends;
      heard = one.heard;
      due = one.due;
    },
    rounds_as made next b others,
  )

-- ---- those who keep channels

module _ (D : Type 0) where
  keep_mend_tidy : (due : Bool) (a b : Track) → KeepMends Checked Pruned (MendedPort D) due a b → Tidy a b
  keep_mend_tidy true a b is = tidy_mend D a is.0 b is.1
  keep_mend_tidy false a b same = subst (Tidy a) (sym same) (tidy_self a)

  keep_round_tidy : (upkeep : Upkeep) (a b : Track) → KeepRound Checked Pruned (MendedPort D) a upkeep b → Tidy a b
  keep_round_tidy upkeep a b (mid, (between, checks, prunes), mends) =
      tidy_then a mid b
      (tidy_then a between mid
      (checks.0, checks.1, check_ends (Stood a) (length a.whole) upkeep.checked a.own checks.0 checks.2)
      (prunes.0, prunes.1, prune_ends (Stood between) (length between.whole) upkeep.pruned between.own prunes.0 prunes.2))
      (keep_mend_tidy (keep_needs_mend upkeep.checked upkeep.pruned) mid b mends)

  keep_rounds_tidy : (upkeeps : List Upkeep) (a b : Track) → KeepRounds Checked Pruned (MendedPort D) upkeeps a b → Tidy a b
  keep_rounds_tidy [] a b same = subst (Tidy a) (sym same) (tidy_self a)
  keep_rounds_tidy (upkeep ∷ upkeeps) a b (next, one, others) = tidy_then a next b (keep_round_tidy upkeep a next one) (keep_rounds_tidy upkeeps next b others)

-- ---- lines

module _ {B E : Type 0} (Means : Meaning B) (selector : Selector) (host : HostNames) (D : E → ℕ → Type 0) (e : E) where
  abbrev LineMends : Into Track B → List Answer → Into Track B → Type 0
  LineMends old answers new = (x : E) → MendedInto (D x) old answers new

  abbrev LineTurns : Feeding (Into Track B) → List ℕ → LineVerdict → Feeding (Into Track B) → Type 0
  LineTurns = TakesTurn (TakesLine Gave selector Means host) LineMends

  mends_where : (due : Bool) (a : Into Track B) (answers : List Answer) (b : Into Track B) → MendsWhere LineMends due a answers b → Zips Tidy a.route.ports b.route.ports
  mends_where true a answers b is = (tidy_each (D e) a.route.ports answers b.route.ports (is e).2).1
  mends_where false a answers b (none, same) = into_same Tidy tidy_self tidy_then Gave tidy_put Means selector host a b same

  turn_tidy : (a b : Feeding (Into Track B)) (line : List ℕ) (said : LineVerdict) → LineTurns a line said b → Zips Tidy a.into.route.ports b.into.route.ports
  turn_tidy a b line said t =
      stay_then Tidy tidy_self tidy_then a.into.route.ports t.before.route.ports b.into.route.ports (mends_where a.due a.into t.first t.before t.again)
      (stay_then Tidy tidy_self tidy_then t.before.route.ports t.behind.route.ports b.into.route.ports
      (line_stays Tidy tidy_self tidy_then Gave tidy_put Means selector host t.before t.behind line t.verdict t.takes)
      (mends_where (is_due (any_refused t.first) t.verdict) t.behind t.last b.into t.mends))

  turns_tidy : (done : List Handled) (a b : Feeding (Into Track B)) → TakesAll LineTurns a done b → Zips Tidy a.into.route.ports b.into.route.ports
  turns_tidy [] a b same = into_same Tidy tidy_self tidy_then Gave tidy_put Means selector host a.into b.into (ap (λ (f : Feeding (Into Track B)). f.into) same)
  turns_tidy (h ∷ done) a b (next, one, others) =
      stay_then Tidy tidy_self tidy_then a.into.route.ports next.into.route.ports b.into.route.ports (turn_tidy a next h.line h.verdict one) (turns_tidy done next b others)

-- ---- owners of numbers

-- in the channel at this place each stage with this number was settled or flushed
abbrev pub EndsAt : List Known → ℕ → ℕ → Type 0
EndsAt finals place number = (d : Known) → place < length finals → EndsOf (get_or finals place d).view.base (get_or finals place d).view.seen number

-- all calls with a number are tidy
pub whole_tidy : (finals : List Known) (place : ℕ) (p : Known) (number : ℕ) → Tidy (track_of (get_or finals place p) number) (ended (track_of (get_or finals place p) number)) → EndsAt finals place number
whole_tidy finals place p number is d below =
    let track = track_of (get_or finals place p) number in
    let own : is.0 ≡ own_calls (number ∷ []) (opening track.start) track.whole = sym (ap (λ (t : Track). t.own) is.1) in
    subst (λ (q : Known). EndsOf q.view.base q.view.seen number) (get_or_default finals place p d below)
    (subst (EachEnds (Stood track) (length track.whole) []) own is.2)

tracks_tidy : (finals : List Known) (places : List ℕ) (passes : List Known) → let tracks = home_tracks (λ (p : Known). p) finals places passes in Zips Tidy tracks (map ended tracks)
    → AllByRecursion (λ (o : Owner). EndsAt finals o.place o.number) (owners_at places passes)
tracks_tidy finals [] passes all = tt
tracks_tidy finals (place ∷ places) [] all = tt
tracks_tidy finals (place ∷ places) (p ∷ passes) all = (whole_tidy finals place p p.number all.0, tracks_tidy finals places passes all.1)

module _ {A B N I O C K : Type 0} (Means : Meaning K) (moments : C → Option (ℕ → ℕ)) (heard : N → Heard) (talk : I → O → Talk) (shares : List (EitherShared A B)) (share : EitherShared A B) (finals : List Known) where
  abbrev Owned : List Owner → Type 0
  Owned owners = AllByRecursion (λ (o : Owner). EndsAt finals o.place o.number) owners

  -- what is so of some workers and of others is so of all of them
  pub owned_both : (os ps : List Owner) → Owned os → Owned ps → Owned (os ++ ps)
  owned_both [] ps a b = b
  owned_both (o ∷ os) ps a b = (a.0, owned_both os ps a.1 b)

  -- the workers of channels on disks
  pub keeps_tidy : (jobs : List (KeepWorker Known C)) → All (IsKeepTold shares finals) jobs → Owned (keep_owners jobs)
  keeps_tidy [] all = tt
  keeps_tidy (job ∷ jobs) all =
      let is = All-head (IsKeepTold shares finals) job jobs all in (
        whole_tidy finals job.channel job.port job.port.number
            (keep_rounds_tidy (IsDisk (get_or shares job.channel share)) is.upkeeps _ _ (is.rounds share job.port)),
        keeps_tidy jobs (All-tail (IsKeepTold shares finals) job jobs all),
      )

  -- a listener's worker
  pub listen_tidy : (job : ListenWorker Known N C K) (listener : N) → IsListenTold Means moments heard shares finals job listener → Owned (owners_at job.channels.items job.ports.items)
  listen_tidy job listener is =
      let D = IsDiskOf shares job.channels.items share in
      tracks_tidy finals job.channels.items job.ports.items
      (rounds_stay Tidy tidy_self tidy_then Gave tidy_put Means job.selector job.host job.rules TidyMend (λ p q answer t. t) is.made _ _
      (rounds_as (Session job.rules Gave job.selector Means job.host) D is.made _ _ (is.rounds share)))

  -- the workers of all listeners
  pub listens_tidy : (jobs : List (ListenWorker Known N C K)) (listeners : List N) → Zips (IsListenTold Means moments heard shares finals) jobs listeners
      → Owned (flat_map (λ (l : ListenWorker Known N C K). owners_at l.channels.items l.ports.items) jobs)
  listens_tidy [] [] all = tt
  listens_tidy [] (n ∷ listeners) all = absurd all
  listens_tidy (job ∷ jobs) [] all = absurd all
  listens_tidy (job ∷ jobs) (n ∷ listeners) all =
      owned_both (owners_at job.channels.items job.ports.items) (flat_map (λ (l : ListenWorker Known N C K). owners_at l.channels.items l.ports.items) jobs)
      (listen_tidy job n all.0) (listens_tidy jobs listeners all.1)

  -- a worker of lines
  line_tidy : (job : LineWorker Known I O C K) (back : LineEnded I O) → IsLineTold Means moments talk shares finals job back → Owned (owners_at job.channels.items job.ports.items)
  line_tidy job back is =
      tracks_tidy finals job.channels.items job.ports.items
      (turns_tidy Means job.selector job.host (IsDiskOf shares job.channels.items) share is.session.served.done _ _ is.session.served.takes)

  -- the workers of lines
  pub lines_tidy : (jobs : List (LineWorker Known I O C K)) (backs : List (LineEnded I O)) → Zips (IsLineTold Means moments talk shares finals) jobs backs
      → Owned (flat_map (λ (l : LineWorker Known I O C K). owners_at l.channels.items l.ports.items) jobs)
  lines_tidy [] [] all = tt
  lines_tidy [] (b ∷ backs) all = absurd all
  lines_tidy (job ∷ jobs) [] all = absurd all
  lines_tidy (job ∷ jobs) (b ∷ backs) all =
      owned_both (owners_at job.channels.items job.ports.items) (flat_map (λ (l : LineWorker Known I O C K). owners_at l.channels.items l.ports.items) jobs)
      (line_tidy job b all.0) (lines_tidy jobs backs all.1)
