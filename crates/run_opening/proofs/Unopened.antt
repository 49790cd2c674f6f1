-- What a run needs outside its channels was refused, and came back unused.
use Rattle.std.proofs.Common.{◌≡◌, ◌∙◌, ◌||◌, ℕ, List, [], ◌∷◌, Bool, true, false, cond, bytes_eq, true≢false, length, map, take, Option, None, Some, Err, refl, sym, ap, subst, arith}
use Rattle.std.proofs.lemmas.List.{append-nil}
use Rattle.flume_host.specs.HandedOut.{FaultsBy, HandedOut}
use Rattle.flume_host.specs.HostState.{Folders, HostState}
use Rattle.flume_host.specs.Listens.{Endpoint}
use Rattle.flume_host.specs.Rolled.{Rolled, opened}
use Rattle.flume_host.specs.Told.{Tells}
use Rattle.flume_host.specs.declared.names.NameRefused.{NameRefused}
use Rattle.flume_host.specs.declared.names.NameRefused.TheVariants.{Failed, NoMemory}
use Rattle.agent_plan.specs.declared.plan.Plan.{Plan}
use Rattle.agent_plan.specs.declared.plan.SinkPlan.{SinkPlan}
use Rattle.agent_sinks.specs.declared.sink.AgentSink.{AgentSink}
use Rattle.channel_wishes.specs.Openings.{HostTold}
use Rattle.agent_outside.specs.Backs.{Reopened, RollBack, RollsBack, RollsOut, is_among, paths_of, told_of}
use Rattle.avro_ends.specs.Dialing.{DialTold}
use Rattle.agent_outside.specs.Dials.{DialersBack, DialsOpened, FailsBy, dials_back, dials_of}
use Rattle.agent_outside.specs.Ends.{AreOut, end_at, ends_of}
use Rattle.agent_outside.specs.Listening.{CameUnused, ListensRefused}
use Rattle.agent_outside.specs.Sinks.{AreOfPlans, SinksOpened, SinksRefused, backs_of}
use Rattle.agent_outside.proofs.Dialing.{dials_ends, opened_and_back}
use Rattle.agent_outside.proofs.Ordering.{are_paths}
use Rattle.run_opening.specs.Outside.{OutsideRefused}
use Rattle.run_opening.proofs.Naming.{is_out}

-- ---- folders of rolled files are opened and come back

told_steady : (backs : List RollBack) (p : List ℕ) (before other : Option Rolled) → is_among (paths_of backs) p ≡ true → told_of backs p before ≡ told_of backs p other
told_steady [] p before other is = absurd (true≢false (sym is))
told_steady (back ∷ backs) p before other is = here (λ rest. told_steady backs p before other rest) (bytes_eq back.path p) is
  where
    here : (is_among (paths_of backs) p ≡ true → told_of backs p before ≡ told_of backs p other) → (b : Bool) → (b || is_among (paths_of backs) p) ≡ true
        → cond b back.told (told_of backs p before) ≡ cond b back.told (told_of backs p other)
    here rest true is = refl
    here rest false is = rest is

told_else : (backs : List RollBack) (p : List ℕ) (before : Option Rolled) → is_among (paths_of backs) p ≡ false → told_of backs p before ≡ before
told_else [] p before not = refl
told_else (back ∷ backs) p before not = here (λ rest. told_else backs p before rest) (bytes_eq back.path p) not
  where
    here : (is_among (paths_of backs) p ≡ false → told_of backs p before ≡ before) → (b : Bool) → (b || is_among (paths_of backs) p) ≡ false → cond b back.told (told_of backs p before) ≡ before
    here rest true not = absurd (true≢false not)
    here rest false not = rest not

or_twice : (a b : Bool) → (a || (a || b)) ≡ (a || b)
or_twice true b = refl
or_twice false b = refl

-- what was opened and came back tells what it told when it was opened
reopened : (backs : List RollBack) (f g k : Folders) → RollsOut backs f g → RollsBack backs g k → Reopened (paths_of backs) f k
reopened backs f g k out back = record {
  rolls = λ p. rolls p (is_among (paths_of backs) p) refl;
  opened = λ p. back.opened p ∙ ap (λ (r : Bool). is_among (paths_of backs) p || r) (out.opened p) ∙ or_twice (is_among (paths_of backs) p) (f.roll_opened p);
  disks = back.disks ∙ out.disks;
  disks_opened = back.disks_opened ∙ out.disks_opened;
}
  where
    rolls : (p : List ℕ) (among : Bool) → is_among (paths_of backs) p ≡ among → k.rolls p ≡ cond among (opened (f.rolls p)) (f.rolls p)
    rolls p true is = back.rolls p ∙ told_steady backs p (g.rolls p) (opened (f.rolls p)) is ∙ out.told p
    rolls p false not = back.rolls p ∙ told_else backs p (g.rolls p) not ∙ out.rolls p not

-- ---- the folder of a sink was refused

none_unused : (all : Option HandedOut) → Tells all all (CameUnused [])
none_unused None = tt
none_unused (Some all) = record { out = λ host port. refl; back = sym (append-nil all.back) }

-- where a sink was refused, what was opened for those before it came back
pub sinks_refused : (plan : Plan) (places : List ℕ) (refused : NameRefused) (a b : HostTold) → SinksRefused plan.sinks.items refused a.folders b.folders a.state b.state → OutsideRefused plan places refused a b
sinks_refused plan places refused a b back =
    let same : b.state.listeners ≡ a.state.listeners = ap (λ (s : HostState). s.listeners) back.dials.state in
    record {
      sinks = back.sinks;
      folders = back.folders;
      dials = back.dials.told;
      listeners = 0;
      told = subst (λ (all : Option HandedOut). Tells a.state.listeners all (CameUnused [])) (sym same) (none_unused a.state.listeners);
      state = back.dials.state ∙ (λ i. record a.state { listeners = sym same i; dialers = b.state.dialers; faults = b.state.faults });
      faults = back.dials.faults;
    }

-- ---- a listener was refused, and the folders and dialers of the sinks came back

listener_fails : (refused : NameRefused) (before now : ℕ) → FaultsBy {T = Unit {0}} (Err refused) before now → FailsBy refused before now
listener_fails Failed before now fails = fails
listener_fails NoMemory before now fails = omega (arith, fails)

-- where a listener was refused, the sinks and the listeners before it came back
pub listeners_refused : {R A B : Type 0} (rolled : R → Option Rolled) (faults : R → ℕ) (dial : DialTold A) (plan : Plan) (places : List ℕ) (refused : NameRefused) (a m n b : HostTold) (sinks : List (AgentSink R A B))
    → SinksOpened rolled faults plan.sinks.items a.folders m.folders sinks → DialsOpened dial plan.sinks.items a.state m.state sinks
    → (opened : ℕ) × ListensRefused refused (map (end_at plan.sources.items) (take opened places)) m.state n.state → n.folders ≡ m.folders
    → RollsBack (backs_of rolled plan.sinks.items sinks) n.folders b.folders → DialersBack (dials_back dial plan.sinks.items sinks) n.state b.state → OutsideRefused plan places refused a b
listeners_refused rolled faults dial plan places refused a m n b sinks out dialed listens same back came =
    let plans = plan.sinks.items in
    let backs = backs_of rolled plans sinks in
    let un = listens.1 in
    let heard : b.state.listeners ≡ n.state.listeners = ap (λ (s : HostState). s.listeners) came.state in
    let count : b.state.faults ≡ n.state.faults = ap (λ (s : HostState). s.faults) came.state in
    let before : m.state.faults ≡ a.state.faults = ap (λ (s : HostState). s.faults) dialed.out.state in
    let all : b.state ≡ record a.state { listeners = n.state.listeners; dialers = b.state.dialers; faults = n.state.faults } =
    came.state ∙ ap (λ (s : HostState). record s { dialers = b.state.dialers }) un.state
    ∙ ap (λ (s : HostState). record s { listeners = n.state.listeners; dialers = b.state.dialers; faults = n.state.faults }) dialed.out.state in
    record {
      sinks = length sinks;
      folders = subst (λ (l : List (List ℕ)). Reopened l a.folders b.folders) (are_paths rolled m.folders plans sinks out.are)
          (reopened backs a.folders m.folders b.folders out.out (subst (λ (f : Folders). RollsBack backs f b.folders) same back));
      dials = opened_and_back dial plans m.folders a.state m.state n.state b.state sinks out.are dialed (ap (λ (s : HostState). s.dialers) un.state) came;
      listeners = listens.0;
      told = subst (λ (x : Option HandedOut × Option HandedOut). Tells x.0 x.1 (CameUnused (map (end_at plan.sources.items) (take listens.0 places))))
          (λ i. (ap (λ (s : HostState). s.listeners) dialed.out.state i, sym heard i)) un.told;
      state = all ∙ (λ i. record a.state { listeners = sym heard i; dialers = b.state.dialers; faults = sym count i });
      faults = subst (λ (x : ℕ × ℕ). FailsBy refused x.0 x.1) (λ i. (before i, sym count i)) (listener_fails refused m.state.faults n.state.faults un.faults);
    }

-- the dialers of sinks that were opened may come back, while the host's dialers are as they were then
pub opened_out : {R A B : Type 0} (dial : DialTold A) (f : Folders) (plans : List SinkPlan) (s t u : HostState) (sinks : List (AgentSink R A B)) → AreOfPlans f plans sinks → DialsOpened dial plans s t sinks → u.dialers ≡ t.dialers
    → AreOut (ends_of (dials_back dial plans sinks)) u.dialers
opened_out dial f plans s t u sinks are opened same =
    subst (λ (x : List Endpoint × Option HandedOut). AreOut x.0 x.1) (λ i. (sym (dials_ends dial f plans sinks are) i, sym same i)) (is_out (dials_of (take (length sinks) plans)) s.dialers t.dialers opened.out.told)
