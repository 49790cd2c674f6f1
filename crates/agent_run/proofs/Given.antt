-- What the host took back after a run.
use Rattle.std.proofs.Common.{◌≡◌, ◌∙◌, ℕ, List, [], ◌∷◌, Option, map, refl, sym, ap, subst}
use Rattle.crew.specs.declared.draining.DrainWorker.{DrainWorker}
use Rattle.agent_plan.specs.declared.plan.SourcePlan.{SourcePlan}
use Rattle.flume_host.specs.HandedOut.{CameBack}
use Rattle.flume_host.specs.HostState.{HostState}
use Rattle.flume_host.specs.Listens.{Endpoint, IsFrom}
use Rattle.shared_channel.specs.Passes.{Known}
use Rattle.source_worker.specs.declared.worker.ListenWorker.{ListenWorker}
use Rattle.agent_outside.specs.Ends.{ListenersBack, end_at}
use Rattle.run_tracks.specs.Places.{Zips}
use Rattle.agent_run.specs.Joined.{IsButStreams, IsSameEnd}
use Rattle.run_opening.specs.Outside.{AreFrom}
use Rattle.run_opening.specs.Streams.{DrainKept, InTurn, TalkKept}
use Rattle.run_staff.specs.declared.workers.LineEnded.{LineEnded}

-- the streams alone, while the listeners stay
abbrev pub IsButTalks : HostState → HostState → Type 0
IsButTalks old new = new ≡ record old { input = new.input; output = new.output; handed = new.handed; faults = new.faults }

-- where nothing has changed, none but the streams has
pub talks_self : (s : HostState) → IsButTalks s s
talks_self s = refl

-- where none but the streams has changed in two steps, none but they has over both
pub talks_then : (a b c : HostState) → IsButTalks a b → IsButTalks b c → IsButTalks a c
talks_then a b c f g = g ∙ ap (λ (s : HostState). record s { input = c.input; output = c.output; handed = c.handed; faults = c.faults }) f

-- the listeners are then as they were
pub same_listeners : (a b : HostState) → IsButTalks a b → b.listeners ≡ a.listeners
same_listeners a b f = ap (λ (s : HostState). s.listeners) f

-- once the listeners came back as well, none but they, the streams and the count of faults has changed
pub then_back : (backs : List CameBack) (a b c : HostState) → IsButTalks a b → ListenersBack backs b c → IsButStreams a c
then_back backs a b c f g =
    let to : c ≡ record a { input = b.input; output = b.output; handed = b.handed; listeners = c.listeners; faults = b.faults } =
    g.state ∙ ap (λ (s : HostState). record s { listeners = c.listeners }) f in
    subst (λ (s : HostState). c ≡ record a { input = s.input; output = s.output; handed = s.handed; listeners = c.listeners; faults = s.faults })
    (sym g.state) to

module _ {A : Type 0} (Step : A → HostState → HostState → Type 0) (but : (a : A) (old new : HostState) → Step a old new → IsButTalks old new) where
  -- where none but the streams changes in each step, none but they does over all of them
  pub in_turn : (all : List A) (old new : HostState) → InTurn Step all old new → IsButTalks old new
  in_turn [] old new is = subst (λ (s : HostState). IsButTalks old s) (sym is) (talks_self old)
  in_turn (a ∷ all) old new (between, one, others) = talks_then old between new (but a old between one) (in_turn all between new others)

module _ {I O : Type 0} (left : I → Option (List ℕ)) (read_faults : I → ℕ) (took handed : O → Option (List ℕ)) (write_faults : O → ℕ) where
  drain_but : (worker : DrainWorker I) (old new : HostState) → DrainKept left read_faults worker old new → IsButTalks old new
  drain_but worker old new kept =
      subst (λ (s : HostState). s ≡ record old { input = s.input; output = s.output; handed = s.handed; faults = s.faults }) (sym kept.state) refl

  line_but : (talk : LineEnded I O) (old new : HostState) → TalkKept left read_faults took handed write_faults talk old new → IsButTalks old new
  line_but talk old new kept =
      subst (λ (s : HostState). s ≡ record old { input = s.input; output = s.output; handed = s.handed; faults = s.faults }) (sym kept.state) refl

  -- the drainings, and then the lines
  pub streams_but : (drains : List (DrainWorker I)) (lines : List (LineEnded I O)) (old between new : HostState) → InTurn (DrainKept left read_faults) drains old between
      → InTurn (TalkKept left read_faults took handed write_faults) lines between new → IsButTalks old new
  streams_but drains lines old between new d l =
      talks_then old between new (in_turn (DrainKept left read_faults) drain_but drains old between d)
      (in_turn (TalkKept left read_faults took handed write_faults) line_but lines between new l)

module _ {N C K : Type 0} (endpoint : N → Option Endpoint) (sources : List SourcePlan) where
  -- the listeners that came back are of the sources of their workers'
  pub from_back : (places : List ℕ) (jobs : List (ListenWorker Known N C K)) (listeners : List N) → AreFrom endpoint sources places (map (λ (job : ListenWorker Known N C K). job.listener) jobs)
      → Zips (IsSameEnd endpoint) jobs listeners → AreFrom endpoint sources places listeners
  from_back [] [] [] from same = tt
  from_back [] [] (l ∷ listeners) from same = absurd same
  from_back [] (job ∷ jobs) listeners from same = absurd from
  from_back (place ∷ places) [] listeners from same = absurd from
  from_back (place ∷ places) (job ∷ jobs) [] from same = absurd same
  from_back (place ∷ places) (job ∷ jobs) (l ∷ listeners) from same = (
    subst (λ (e : Option Endpoint). IsFrom (end_at sources place).host (end_at sources place).port e) (sym same.0) from.0,
    from_back places jobs listeners from.1 same.1,
  )
