-- Why a run does not begin, and what that leaves of the host.
use Rattle.std.proofs.Common.{◌≡◌, ◌∙◌, ◌<◌, ◌≤◌, ◌⊎◌, inl, inr, ℕ, List, ◌∷◌, length, Option, Result, Ok, Err, IfErr, refl, sym, ap, subst, arith}
use Rattle.std.proofs.lemmas.List.{length-append}
use Rattle.flume_host.specs.Causes.{Rose}
use Rattle.flume_host.specs.HostState.{HostState}
use Rattle.flume_host.specs.declared.names.NameRefused.{NameRefused}
use Rattle.flume_host.specs.declared.names.NameRefused.TheVariants.{Failed, NoMemory}
use Rattle.channel_face.specs.declared.replies.OpenCause.{OpenCause}
use Rattle.channel_face.specs.declared.replies.OpenCause.TheVariants as causes
use Rattle.agent_plan.specs.declared.plan.ChannelKind.{ChannelKind}
use Rattle.agent_plan.specs.declared.plan.ChannelKind.TheVariants.{File, Memory}
use Rattle.agent_plan.specs.declared.plan.Plan.{Plan}
use Rattle.agent_words.specs.Statuses.{cause_status, status_of}
use Rattle.agent_words.specs.declared.error.RunError.{RunError}
use Rattle.agent_words.specs.declared.error.RunError.TheVariants as errors
use Rattle.agent_commands.specs.Stored.{IsOfFolder}
use Rattle.channel_wishes.specs.Openings.{GivesBack, HandsNone, HostTold, Refuses}
use Rattle.channel_wishes.specs.Opened.{AreOpened}
use Rattle.agent_channels.specs.Several.{RefusesAt}
use Rattle.channel_wishes.specs.declared.opened.OpenedChannel.{OpenedChannel}
use Rattle.channel_wishes.specs.declared.wish.ChannelPlace.{ChannelPlace}
use Rattle.channel_wishes.specs.declared.wish.ChannelPlace.TheVariants as place
use Rattle.channel_wishes.specs.declared.wish.ChannelWish.{ChannelWish}
use Rattle.agent_outside.specs.Ends.{places}
use Rattle.agent_run.specs.Errors.{IsCauseError}
use Rattle.agent_commands.specs.Checked.{Lacking}
use Rattle.agent_run.specs.NotBegun.{AreWanted, ChannelNotOpened, IsCauseStatus, IsRefusedOutside, IsRunRefused, LeavesHost, NoPlan, NotPrepared, OutsideNotOpened}
use Rattle.agent_outside.specs.Dials.{FailsBy}
use Rattle.run_opening.specs.Outside.{OutsideRefused}
use Rattle.run_opening.specs.Prepared.{IsUnprepared, error_of}
use Rattle.agent_run.proofs.Comeback.{come_back, come_states}

-- ---- which step it was

-- a run that was not prepared, by its error: the host failed or memory ran out, and no folder was touched
pub not_prepared : (error : RunError) (a b : HostTold) → IsUnprepared error a.state b.state → b.folders ≡ a.folders → NotPrepared (status_of error) a b
not_prepared error a b un folders = record { why = which un.why; state = un.state; folders = folders }
  where
    which : ((error ≡ errors.Fault) × Rose a.state.faults b.state.faults) ⊎ ((error ≡ errors.NoMemory) × (b.state.faults ≡ a.state.faults))
        → ((status_of error ≡ 3) × Rose a.state.faults b.state.faults) ⊎ ((status_of error ≡ 5) × (b.state.faults ≡ a.state.faults))
    which (inl fault) = inl (ap status_of fault.0, fault.1)
    which (inr none) = inr (ap status_of none.0, none.1)

-- no memory for the lists of a run that was prepared
pub no_room : (a b : HostTold) → b.state ≡ a.state → b.folders ≡ a.folders → NotPrepared 5 a b
no_room a b same folders =
    let faults : b.state.faults ≡ a.state.faults = ap (λ (s : HostState). s.faults) same in
    record { why = inr (refl, faults); state = same ∙ ap (λ (n : ℕ). record a.state { faults = n }) (sym faults); folders = folders }

-- the error of a channel that was not opened has the status of its cause, or that of out of memory
pub cause_is : (kind : ChannelKind) (cause : OpenCause) (error : RunError) → IsCauseError kind cause error → IsCauseStatus cause (status_of error)
cause_is Memory cause error is = inr (ap status_of is)
cause_is (File folder max_file interval on_close) cause error (inl is) = inl is
cause_is (File folder max_file interval on_close) cause error (inr none) = inr (ap status_of none)

-- where a wanted channel was refused, it is that which kept the run from beginning
pub channel_refused : (plan : Plan) (kind : ChannelKind) (wishes at : List ChannelWish) (a a' b : HostTold) (place : ℕ) (cause : OpenCause) (error : RunError) → AreWanted plan wishes → at ≡ wishes → a' ≡ a
    → RefusesAt at a' b place cause → IsCauseError kind cause error → ChannelNotOpened plan (status_of error) a b
channel_refused plan kind wishes at a a' b place cause error wanted same first refused is = record {
  wishes = wishes;
  wanted = wanted;
  place = place;
  cause = cause;
  refused = subst (λ (x : List ChannelWish × HostTold). RefusesAt x.0 x.1 b place cause) (λ i. (same i, first i)) refused;
  is = cause_is kind cause error is;
}

-- where something outside the channels was refused while they were open, it is that which did
pub outside_refused : {A B : Type 0} (plan : Plan) (at : List ℕ) (wishes : List ChannelWish) (cs : List (OpenedChannel A B)) (error : RunError) (a m b : HostTold) → AreWanted plan wishes
    → at ≡ places 0 plan.sources.items → AreOpened wishes cs a m → IsRefusedOutside plan at wishes cs error m b → OutsideNotOpened plan (status_of error) a b
outside_refused plan at wishes cs error a m b wanted same opened r = record {
  wishes = wishes;
  wanted = wanted;
  open_then = m;
  left = r.left;
  why = r.why;
  refused = subst (λ (l : List ℕ). OutsideRefused plan l r.why m r.left) same r.refused;
  channels = come_back wishes cs a m r.left b opened r.back;
  is = ap status_of r.said;
}

-- the channel that was refused is one of those that were wanted
pub refused_there : (wishes : List ChannelWish) (a b : HostTold) (place many : ℕ) (cause : OpenCause) → RefusesAt wishes a b place cause → length wishes ≡ many → place < many
refused_there wishes a b place many cause refuses as_many =
    let whole = ap length refuses.split ∙ length-append refuses.front (refuses.wish ∷ refuses.rest) in
    omega (arith, whole, refuses.at, as_many)

-- an error has what follows of what it has
pub if_err : {T E : Type 0} (r : Result T E) (P Q : E → Type 0) → ((e : E) → P e → Q e) → IfErr r P → IfErr r Q
if_err (Ok t) P Q step p = tt
if_err (Err e) P Q step p = step e p

-- ---- what a refusal leaves of the host itself

-- its count of faults alone may have changed
host_counted : (status : ℕ) (old new : HostState) → 2 ≤ status → status < 6 → new ≡ record old { faults = new.faults } → (status ≡ 3 → Rose old.faults new.faults)
    → ((status ≡ 2) ⊎ (status ≡ 4) → new.faults ≡ old.faults) → LeavesHost status old new
host_counted status old new from below state fault clean =
    let listeners : new.listeners ≡ old.listeners = ap (λ (s : HostState). s.listeners) state in
    let dialers : new.dialers ≡ old.dialers = ap (λ (s : HostState). s.dialers) state in
    let disks : new.disk_faults ≡ old.disk_faults = ap (λ (s : HostState). s.disk_faults) state in
    record {
      from = from;
      below = below;
      rest = state ∙ (λ i. record old { listeners = sym listeners i; dialers = sym dialers i; faults = new.faults; disk_faults = sym disks i });
      fault = λ three. inl (fault three);
      well = λ which. state ∙ ap (λ (n : ℕ). record old { faults = n }) (clean which);
    }

not_two_or_four : (status : ℕ) → (status ≡ 3) ⊎ (status ≡ 5) → (status ≡ 2) ⊎ (status ≡ 4) → ⊥
not_two_or_four status (inl three) (inl two) = absurd (omega (arith, three, two))
not_two_or_four status (inl three) (inr four) = absurd (omega (arith, three, four))
not_two_or_four status (inr five) (inl two) = absurd (omega (arith, five, two))
not_two_or_four status (inr five) (inr four) = absurd (omega (arith, five, four))

-- where there is no plan, the host is as it was but for its count of faults
pub plan_host : (lacks : Lacking) (file : Option (List ℕ)) (agent : List ℕ) (status : ℕ) (a b : HostTold) → NoPlan lacks file agent status a b → LeavesHost status a.state b.state
plan_host lacks file agent status a b none =
    let n = none.why.state.0 in
    let faults : b.state.faults ≡ n = ap (λ (s : HostState). s.faults) none.why.state.1 in
    host_counted status a.state b.state (from none.why.which) (below none.why.which) (none.why.state.1 ∙ ap (λ (m : ℕ). record a.state { faults = m }) (sym faults)) none.why.stopped (clean none.why.which)
  where
    from : (status ≡ 2) ⊎ (status ≡ 3) ⊎ (status ≡ 5) → 2 ≤ status
    from (inl is) = omega (arith, is)
    from (inr (inl is)) = omega (arith, is)
    from (inr (inr is)) = omega (arith, is)

    below : (status ≡ 2) ⊎ (status ≡ 3) ⊎ (status ≡ 5) → status < 6
    below (inl is) = omega (arith, is)
    below (inr (inl is)) = omega (arith, is)
    below (inr (inr is)) = omega (arith, is)

    clean : (status ≡ 2) ⊎ (status ≡ 3) ⊎ (status ≡ 5) → (status ≡ 2) ⊎ (status ≡ 4) → b.state.faults ≡ a.state.faults
    clean which (inl two) = none.why.well (inl two)
    clean (inl two) (inr four) = absurd (omega (arith, two, four))
    clean (inr (inl three)) (inr four) = absurd (omega (arith, three, four))
    clean (inr (inr five)) (inr four) = none.why.well (inr five)

prepared_host : (status : ℕ) (a b : HostTold) → NotPrepared status a b → LeavesHost status a.state b.state
prepared_host status a b not = here not.why
  where
    here : ((status ≡ 3) × Rose a.state.faults b.state.faults) ⊎ ((status ≡ 5) × (b.state.faults ≡ a.state.faults)) → LeavesHost status a.state b.state
    here (inl why) =
        let three = why.0 in
        host_counted status a.state b.state (omega (arith, three)) (omega (arith, three)) not.state (λ is. why.1) (λ which. absurd (not_two_or_four status (inl three) which))
    here (inr why) =
        let five = why.0 in
        host_counted status a.state b.state (omega (arith, five)) (omega (arith, five)) not.state (λ three. absurd (omega (arith, five, three))) (λ which. why.1)

-- ---- by a channel

cause_from : (cause : OpenCause) → 2 ≤ cause_status cause
cause_from causes.DiskFault = omega arith
cause_from (causes.BadCheck file at) = omega arith
cause_from (causes.BadLog file at) = omega arith
cause_from (causes.OverCapacity count) = omega arith
cause_from (causes.Spent counter) = omega arith
cause_from causes.NoMemory = omega arith

cause_below : (cause : OpenCause) → cause_status cause < 6
cause_below causes.DiskFault = omega arith
cause_below (causes.BadCheck file at) = omega arith
cause_below (causes.BadLog file at) = omega arith
cause_below (causes.OverCapacity count) = omega arith
cause_below (causes.Spent counter) = omega arith
cause_below causes.NoMemory = omega arith

by_fault : (cause : OpenCause) → cause_status cause ≡ 3 → cause ≡ causes.DiskFault
by_fault causes.DiskFault is = refl
by_fault (causes.BadCheck file at) is = absurd (omega (arith, is))
by_fault (causes.BadLog file at) is = absurd (omega (arith, is))
by_fault (causes.OverCapacity count) is = absurd (omega (arith, is))
by_fault (causes.Spent counter) is = absurd (omega (arith, is))
by_fault causes.NoMemory is = absurd (omega (arith, is))

-- where the status of a cause is 4, the folder itself is the cause
pub by_folder : (cause : OpenCause) → cause_status cause ≡ 4 → IsOfFolder cause
by_folder causes.DiskFault is = absurd (omega (arith, is))
by_folder (causes.BadCheck file at) is = tt
by_folder (causes.BadLog file at) is = tt
by_folder (causes.OverCapacity count) is = tt
by_folder (causes.Spent counter) is = tt
by_folder causes.NoMemory is = absurd (omega (arith, is))

never_two : (cause : OpenCause) → cause_status cause ≡ 2 → ⊥
never_two causes.DiskFault is = absurd (omega (arith, is))
never_two (causes.BadCheck file at) is = absurd (omega (arith, is))
never_two (causes.BadLog file at) is = absurd (omega (arith, is))
never_two (causes.OverCapacity count) is = absurd (omega (arith, is))
never_two (causes.Spent counter) is = absurd (omega (arith, is))
never_two causes.NoMemory is = absurd (omega (arith, is))

-- a channel that was not opened gives the status 3, 4 or 5
pub cause_which : (cause : OpenCause) (status : ℕ) → IsCauseStatus cause status → (status ≡ 3) ⊎ (status ≡ 4) ⊎ (status ≡ 5)
cause_which cause status (inr five) = inr (inr five)
cause_which causes.DiskFault status (inl is) = inl is
cause_which (causes.BadCheck file at) status (inl is) = inr (inl is)
cause_which (causes.BadLog file at) status (inl is) = inr (inl is)
cause_which (causes.OverCapacity count) status (inl is) = inr (inl is)
cause_which (causes.Spent counter) status (inl is) = inr (inl is)
cause_which causes.NoMemory status (inl is) = inr (inr is)

-- a fault of the disk is no out of memory, and neither is what a folder holds
not_both : (cause : OpenCause) → cause ≡ causes.DiskFault → cause ≡ causes.NoMemory → ⊥
not_both cause fault none = let e : 3 ≡ 5 = sym (ap cause_status fault) ∙ ap cause_status none in absurd (omega (arith, e))

-- a fault of the disk is not of the folder itself, nor is a lack of memory
pub no_folder : (cause : OpenCause) → IsOfFolder cause → (cause ≡ causes.DiskFault) ⊎ (cause ≡ causes.NoMemory) → ⊥
no_folder cause of (inl fault) = subst IsOfFolder fault of
no_folder cause of (inr none) = subst IsOfFolder none of

-- What a refusal for this cause leaves of the host.
record CauseLeaves (cause : OpenCause) (old new : HostState) : Type 0 where
  rest : new ≡ record old { faults = new.faults; disk_faults = new.disk_faults }
  fault : cause ≡ causes.DiskFault → Rose old.faults new.faults ⊎ Rose old.disk_faults new.disk_faults
  well : IsOfFolder cause → new ≡ old

none_leaves : (a b : HostTold) (cause : OpenCause) → HandsNone a b cause → CauseLeaves cause a.state b.state
none_leaves a b cause none =
    let disks : b.state.disk_faults ≡ a.state.disk_faults = ap (λ (s : HostState). s.disk_faults) none.state in
    record {
      rest = none.state ∙ (λ i. record a.state { faults = b.state.faults; disk_faults = sym disks i });
      fault = λ is. inl (fault is none.why);
      well = λ of. absurd (no_folder cause of (which none.why));
    }
  where
    fault : cause ≡ causes.DiskFault → ((cause ≡ causes.DiskFault) × Rose a.state.faults b.state.faults) ⊎ (cause ≡ causes.NoMemory) → Rose a.state.faults b.state.faults
    fault is (inl why) = why.1
    fault is (inr lack) = absurd (not_both cause is lack)

    which : ((cause ≡ causes.DiskFault) × Rose a.state.faults b.state.faults) ⊎ (cause ≡ causes.NoMemory) → (cause ≡ causes.DiskFault) ⊎ (cause ≡ causes.NoMemory)
    which (inl why) = inl why.0
    which (inr lack) = inr lack

back_leaves : (path : List ℕ) (capacity : ℕ) (a b : HostTold) (cause : OpenCause) → GivesBack path capacity a b cause → CauseLeaves cause a.state b.state
back_leaves path capacity a b cause back =
    let faults : b.state.faults ≡ a.state.faults = ap (λ (s : HostState). s.faults) back.state in
    record {
      rest = back.state ∙ (λ i. record a.state { faults = sym faults i; disk_faults = b.state.disk_faults });
      fault = λ is. inr (back.counts.raised (raised is));
      well = λ of. back.state ∙ ap (λ (n : ℕ). record a.state { disk_faults = n }) (back.counts.clean (clean of));
    }
  where
    raised : cause ≡ causes.DiskFault → 1 ≤ back.faults
    raised is = elim back.folder [
      | inl refused ↦ let rose = refused.refused.fault is in omega (arith, rose)
      | inr closed ↦ absurd (not_both cause is closed.0)
    ]

    clean : IsOfFolder cause → back.faults ≡ 0
    clean of = elim back.folder [
      | inl refused ↦ refused.refused.well (λ is. no_folder cause of (inl is))
      | inr closed ↦ absurd (no_folder cause of (inr closed.0))
    ]

cause_leaves : (at : ChannelPlace) (capacity : ℕ) (a b : HostTold) (cause : OpenCause) → Refuses at capacity a b cause → CauseLeaves cause a.state b.state
cause_leaves place.Memory capacity a b cause refuses =
    let same : b.state ≡ a.state = ap (λ (h : HostTold). h.state) refuses.1 in
    record {
      rest = same ∙ (λ i. record a.state { faults = sym (ap (λ (s : HostState). s.faults) same) i; disk_faults = sym (ap (λ (s : HostState). s.disk_faults) same) i });
      fault = λ is. absurd (not_both cause is refuses.0);
      well = λ of. same;
    }
cause_leaves (place.Folder path) capacity a b cause (inl none) = none_leaves a b cause none
cause_leaves (place.Folder path) capacity a b cause (inr back) = back_leaves _ capacity a b cause back

by_cause : (cause : OpenCause) (status : ℕ) (old new : HostState) → IsCauseStatus cause status → CauseLeaves cause old new → LeavesHost status old new
by_cause cause status old new is leaves =
    let listeners : new.listeners ≡ old.listeners = ap (λ (s : HostState). s.listeners) leaves.rest in
    let dialers : new.dialers ≡ old.dialers = ap (λ (s : HostState). s.dialers) leaves.rest in
    record {
      from = from is;
      below = below is;
      rest = leaves.rest ∙ (λ i. record old { listeners = sym listeners i; dialers = sym dialers i; faults = new.faults; disk_faults = new.disk_faults });
      fault = λ three. leaves.fault (fault three is);
      well = λ which. leaves.well (folder which is);
    }
  where
    from : IsCauseStatus cause status → 2 ≤ status
    from (inl is) = let low = cause_from cause in omega (arith, is, low)
    from (inr five) = omega (arith, five)

    below : IsCauseStatus cause status → status < 6
    below (inl is) = let high = cause_below cause in omega (arith, is, high)
    below (inr five) = omega (arith, five)

    fault : status ≡ 3 → IsCauseStatus cause status → cause ≡ causes.DiskFault
    fault three (inl is) = by_fault cause (sym is ∙ three)
    fault three (inr five) = absurd (omega (arith, three, five))

    folder : (status ≡ 2) ⊎ (status ≡ 4) → IsCauseStatus cause status → IsOfFolder cause
    folder (inl two) (inl is) = absurd (never_two cause (sym is ∙ two))
    folder (inl two) (inr five) = absurd (omega (arith, two, five))
    folder (inr four) (inl is) = by_folder cause (sym is ∙ four)
    folder (inr four) (inr five) = absurd (omega (arith, four, five))

channel_host : (plan : Plan) (status : ℕ) (a b : HostTold) → ChannelNotOpened plan status a b → LeavesHost status a.state b.state
channel_host plan status a b not =
    let r = not.refused in
    let come = come_states r.front a r.come r.left b r.others in
    subst (λ (x : HostState × HostState). LeavesHost status x.0 x.1) (λ i. (come.0 i, sym come.1 i))
    (by_cause not.cause status r.come.state r.left.state not.is (cause_leaves r.wish.place r.wish.limits.capacity r.come r.left not.cause r.why))

-- ---- by what is outside the channels

-- what is refused outside the channels gives the status 3 or 5
pub outside_status : (why : NameRefused) (status : ℕ) → status ≡ status_of (error_of why) → (status ≡ 3) ⊎ (status ≡ 5)
outside_status Failed status is = inl is
outside_status NoMemory status is = inr is

outside_fault : (why : NameRefused) (status before now : ℕ) → status ≡ status_of (error_of why) → FailsBy why before now → status ≡ 3 → Rose before now
outside_fault Failed status before now is fails three = fails
outside_fault NoMemory status before now is fails three = absurd (omega (arith, is, three))

outside_leaves : (why : NameRefused) (status : ℕ) (old new : HostState) → status ≡ status_of (error_of why) → new ≡ record old { listeners = new.listeners; dialers = new.dialers; faults = new.faults }
    → FailsBy why old.faults new.faults → LeavesHost status old new
outside_leaves why status old new is state fails =
    let disks : new.disk_faults ≡ old.disk_faults = ap (λ (s : HostState). s.disk_faults) state in
    let which = outside_status why status is in
    record {
      from = from which;
      below = below which;
      rest = state ∙ (λ i. record old { listeners = new.listeners; dialers = new.dialers; faults = new.faults; disk_faults = sym disks i });
      fault = λ three. inl (outside_fault why status old.faults new.faults is fails three);
      well = λ else. absurd (not_two_or_four status which else);
    }
  where
    from : (status ≡ 3) ⊎ (status ≡ 5) → 2 ≤ status
    from (inl three) = omega (arith, three)
    from (inr five) = omega (arith, five)

    below : (status ≡ 3) ⊎ (status ≡ 5) → status < 6
    below (inl three) = omega (arith, three)
    below (inr five) = omega (arith, five)

outside_host : (plan : Plan) (status : ℕ) (a b : HostTold) → OutsideNotOpened plan status a b → LeavesHost status a.state b.state
outside_host plan status a b not =
    let come = come_states not.wishes a not.open_then not.left b not.channels in
    subst (λ (x : HostState × HostState). LeavesHost status x.0 x.1) (λ i. (come.0 i, sym come.1 i))
    (outside_leaves not.why status not.open_then.state not.left.state not.is not.refused.state not.refused.faults)

-- ---- by any of them

-- where a run was refused, the host is as it was but for what came back and its counts of faults
pub refused_host : (plan : Plan) (status : ℕ) (a b : HostTold) → IsRunRefused plan status a b → LeavesHost status a.state b.state
refused_host plan status a b (inl not) = prepared_host status a b not
refused_host plan status a b (inr (inl not)) = channel_host plan status a b not
refused_host plan status a b (inr (inr not)) = outside_host plan status a b not

-- ---- a run that was not prepared

-- as the run says it
pub unprepared_run : (plan : Plan) (said error : RunError) (a b : HostTold) (mid : HostState) → said ≡ error → mid ≡ a.state → b.folders ≡ a.folders → IsUnprepared error mid b.state
    → IsRunRefused plan (status_of said) a b
unprepared_run plan said error a b mid same state folders is =
    subst (λ (e : RunError). IsRunRefused plan (status_of e) a b) (sym same)
    (inl (not_prepared error a b (subst (λ (s : HostState). IsUnprepared error s b.state) state is) folders))
