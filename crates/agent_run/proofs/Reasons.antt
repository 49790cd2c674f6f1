-- The causes of the status of a run, from the relation of its parts.
use Rattle.std.proofs.Common.{◌≡◌, ◌∙◌, ◌≤◌, ◌⊎◌, ◌++◌, ◌^◌, inl, inr, ℕ, List, [], ◌∷◌, Bool, true, Option, Some, None, Result, Err, length, map, refl, sym, ap, subst, append_assoc, length-append, arith}
use Rattle.std.proofs.lemmas.List.{take-append-le}
use Rattle.std.specs.Io.KnownBytes.{Consumes, IsAtEnd}
use Rattle.std.specs.declared.alloc.Global.{Global}
use Rattle.std.specs.declared.vec.Vec.{Vec}
use Rattle.channel_face.specs.History.{Opening, Step}
use Rattle.channel_face.specs.Machine.{State}
use Rattle.channel_face.specs.declared.replies.OpenCause.{OpenCause}
use Rattle.channel_face.specs.declared.replies.OpenCause.TheVariants.{DiskFault}
use Rattle.crew.specs.Drains.{DrainRan}
use Rattle.crew.specs.declared.draining.DrainWorker.{DrainWorker}
use Rattle.agent_plan.specs.declared.plan.Plan.{Plan}
use Rattle.flume_host.specs.Causes.{Rose}
use Rattle.flume_host.specs.HostState.{HostState}
use Rattle.grouped_sinks.specs.declared.row.SinkRow.{SinkRow}
use Rattle.netcat_source.specs.Lines.{IsCut, IsTooLong, IsUnbroken, LinesEnd, OneCut, Rest, TooLong, joined}
use Rattle.shared_channel.specs.Passes.{Known}
use Rattle.sink_worker.specs.Rounds.{Told}
use Rattle.source_put.specs.Chains.{Meaning}
use Rattle.source_worker.specs.Rounds.{Heard}
use Rattle.source_worker.specs.declared.ends.SessionRules.{SessionRules}
use Rattle.source_worker.specs.declared.ends.SessionRules.TheVariants as rule
use Rattle.line_worker.specs.declared.worker.LineWorker.{LineWorker}
use Rattle.two_channels.specs.declared.port.EitherPort.{EitherPort}
use Rattle.run_tracks.specs.Places.{Zips}
use Rattle.channel_wishes.specs.Openings.{HostTold}
use Rattle.channel_wishes.specs.declared.opened.OpenedChannel.{OpenedChannel}
use Rattle.channel_wishes.specs.declared.wish.ChannelWish.{ChannelWish}
use Rattle.agent_end.specs.Statuses.{drain_status, mend_status, report_status, run_status}
use Rattle.agent_end.specs.declared.ends.InputEnd.{InputEnd}
use Rattle.agent_end.specs.declared.ends.InputEnd.TheVariants as input
use Rattle.agent_end.specs.declared.ends.ReportRefused.{ReportRefused}
use Rattle.agent_end.specs.declared.ends.ReportRefused.TheVariants as report
use Rattle.agent_end.specs.declared.ends.RunEnds.{RunEnds}
use Rattle.agent_words.specs.Statuses.{cause_status}
use Rattle.agent_run.specs.Causes.{CausesTold, IsCutBy, IsReadable, IsTaken, IsSpent, SomeInFolder, SomeIsLeft, line_limit}
use Rattle.run_settling.specs.Draining.{IsDrainedAt}
use Rattle.agent_run.specs.Errors.{IsRunStatus}
use Rattle.run_opening.specs.Prepared.{uses_of}
use Rattle.agent_run.specs.RunDid.{Steps, passes_of}
use Rattle.run_working.specs.Runs.{Runs}
use Rattle.run_opening.specs.Staff.{IsLineOf}
use Rattle.run_opening.specs.declared.opening.Manned.{Manned}
use Rattle.run_opening.specs.declared.channel_end.ChannelEnd.{ChannelEnd}
use Rattle.run_opening.specs.declared.outside.Outside.{Outside}
use Rattle.run_opening.specs.declared.preparing.Prepared.{Prepared}
use Rattle.run_opening.specs.declared.seats.Seat.{Seat}
use Rattle.run_settling.specs.declared.settling.Settled.{Settled}
use Rattle.run_opening.specs.declared.streams.StreamsEnded.{StreamsEnded}
use Rattle.agent_run.proofs.Caused.{SomeMend, by_fault, by_full, by_long, by_mend, disk_fault, is_status, mend_first}
use Rattle.agent_run.proofs.Causing.{FoldersAre, folders_are, in_some, left_some, some_left}
use Rattle.agent_run.proofs.Comeback.{opened_state}
use Rattle.agent_run.proofs.Reading.{AreLines, NoLess, ReadTo, WasRead, was_read}
use Rattle.agent_run.proofs.Talking.{ends_only, only_one}

-- ---- lines of a part and of the whole

-- a line that is too long in the first bytes is too long in all
too_long_more : (max : ℕ) (front rest : List ℕ) → IsTooLong max front → IsTooLong max (front ++ rest)
too_long_more max front rest is = record {
  long = let l = is.long in let e = length-append front rest in omega (arith, l, e);
  unbroken = subst IsUnbroken (sym (take-append-le max front rest is.long)) is.unbroken;
}

cut_more : (max : ℕ) (front rest : List ℕ) (lines : List (List ℕ)) → IsCut max front lines TooLong → IsCut max (front ++ rest) lines TooLong
cut_more max front rest lines cut = record {
  rest = cut.rest ++ rest;
  whole = ap (λ (l : List ℕ). l ++ rest) cut.whole ∙ append_assoc (joined lines) cut.rest rest;
  each = cut.each;
  ends = too_long_more max cut.rest rest cut.ends;
}

ends_differ : TooLong ≡ Rest → ⊥
ends_differ is = cc

-- so there is no such line where the whole can be read
none_too_long : OneCut → (limit : Option ℕ) (bytes rest : List ℕ) → IsCutBy limit bytes TooLong → IsCutBy limit (bytes ++ rest) Rest → ⊥
none_too_long one None bytes rest long whole = ends_differ long
none_too_long one (Some max) bytes rest long whole =
    ends_differ (one max (bytes ++ rest) long.0 whole.0 TooLong Rest (cut_more max bytes rest long.0 long.1) whole.1).1

-- what was taken of an input that is told is its front
front_of : {Size : ℕ → Type 0} {limit : Option ℕ} {end : LinesEnd} (old new : Option (List ℕ)) (told : List ℕ) → old ≡ Some told → (t : IsTaken Size limit end old new) → (rest : List ℕ) × (told ≡ t.bytes ++ rest)
front_of old new told is t = by new (subst (λ (x : Option (List ℕ)). Consumes x new t.bytes) is t.taken)
  where
    by : (later : Option (List ℕ)) → Consumes (Some told) later t.bytes → (rest : List ℕ) × (told ≡ t.bytes ++ rest)
    by None none = absurd none
    by (Some rest) same = (rest, same)

-- ---- one state of the host and another

taken_same : {Size : ℕ → Type 0} {limit : Option ℕ} {end : LinesEnd} (a b old new : HostState) → old.input ≡ a.input → b.input ≡ new.input → IsTaken Size limit end old.input new.input → IsTaken Size limit end a.input b.input
taken_same {Size = Size} {limit = limit} {end = end} a b old new first last t =
    subst (λ (x : Option (List ℕ) × Option (List ℕ)). IsTaken Size limit end x.0 x.1) (λ i. (first i, sym last i)) t

to_same : (limit : Option ℕ) (i : InputEnd) (a b old new : HostState) → old.input ≡ a.input → b.input ≡ new.input → old.faults ≡ a.faults → NoLess new.faults b.faults → ReadTo limit i old new → ReadTo limit i a b
to_same limit input.End a b old new first last same later to = (taken_same a b old new first last to.0, subst IsAtEnd (sym last) to.1)
to_same limit input.LongLine a b old new first last same later to = taken_same a b old new first last to
to_same limit input.Full a b old new first last same later to = taken_same a b old new first last to
to_same limit input.Fault a b old new first last same later to = omega (arith, same, later, to)
to_same limit input.NoMemory a b old new first last same later to = tt

read_same : (limit : Option ℕ) (s : StreamsEnded) (a b old new : HostState) → old.input ≡ a.input → b.input ≡ new.input → old.faults ≡ a.faults → NoLess new.faults b.faults → WasRead limit s old new → WasRead limit s a b
read_same limit s a b old new first last same later is = record {
  to = to_same limit s.input a b old new first last same later is.to;
  failed = λ yes. let rose = is.failed yes in omega (arith, same, later, rose);
  later = let l = is.later in omega (arith, same, later, l);
}

-- What the host shows once all came back: the input is as it was, and where the report failed the output had failed before, or the
-- count of faults rose.
pub record GoesBack (failed : Bool) (answer : Result (Unit {0}) ReportRefused) (old new : HostState) : Type 0 where
  pub input : new.input ≡ old.input
  pub later : NoLess old.faults new.faults
  pub fault : answer ≡ Err report.Fault → (failed ≡ true) ⊎ Rose old.faults new.faults

-- the limit of lines, where there is one
abbrev pub most_of : SessionRules → Option ℕ
most_of (rule.Lines rules) = Some rules.max
most_of rule.Avro = None

-- one worker of lines was wanted, whose lines have this limit, or none
abbrev pub OneSeat : {K C : Type 0} → Option ℕ → List (Seat K C) → Type 0
OneSeat {K} {C} limit seats = ((limit ≡ None) × (seats ≡ [])) ⊎ ((seat : Seat K C) × (seats ≡ seat ∷ []) × (limit ≡ most_of seat.draft.rules))

no_jobs : {X Y : Type 0} (R : X → Y → Type 0) (ys : List Y) → Zips R [] ys → ys ≡ []
no_jobs R [] z = refl
no_jobs R (y ∷ ys) z = absurd z

seats_lines : {I O C K : Type 0} (limit : Option ℕ) (seats : List (Seat K C)) (jobs : List (LineWorker Known I O C K)) → OneSeat limit seats → Zips IsLineOf seats jobs → AreLines limit jobs
seats_lines {I} {O} {C} {K} limit seats jobs (inl (is, none)) zips = inl (is, no_jobs IsLineOf jobs (subst (λ (l : List (Seat K C)). Zips IsLineOf l jobs) none zips))
seats_lines {I} {O} {C} {K} limit seats jobs (inr (seat, one, is)) zips =
    let back = only_one IsLineOf seat jobs (subst (λ (l : List (Seat K C)). Zips IsLineOf l jobs) one zips) in
    inr (back.0, back.1, is ∙ ap most_of back.2.rules)

-- ---- the law of completeness

finishes : OneCut → (limit : Option ℕ) (status : ℕ) (input new : Option (List ℕ)) → IsRunStatus status → IsReadable limit input → (status ≡ 3 → ⊥) → (status ≡ 4 → ⊥)
    → (status ≡ 6 → IsTaken (λ size. size ≡ 2 ^ 40) limit Rest input new) → (status ≡ 7 → IsTaken (λ size. size ≤ 2 ^ 40) limit TooLong input new) → (status ≡ 0) ⊎ (status ≡ 5)
finishes one limit status input new (inl is) can fault held full long = inl is
finishes one limit status input new (inr (inl is)) can fault held full long = absurd (fault is)
finishes one limit status input new (inr (inr (inl is))) can fault held full long = absurd (held is)
finishes one limit status input new (inr (inr (inr (inl is)))) can fault held full long = inr is
finishes one limit status input new (inr (inr (inr (inr (inl is))))) can fault held full long =
    let t = full is in
    let front = front_of input new can.bytes can.told t in
    let e = ap length front.1 ∙ length-append t.bytes front.0 in
    let size = t.size in
    let few = can.few in
    absurd (omega (arith, e, size, few))
finishes one limit status input new (inr (inr (inr (inr (inr is))))) can fault held full long =
    let t = long is in
    let front = front_of input new can.bytes can.told t in
    absurd (none_too_long one limit t.bytes front.0 t.lines (subst (λ (l : List ℕ). IsCutBy limit l Rest) front.1 can.lines))

-- ---- the whole

module _ {R A B S N I O C K : Type 0} (runs : Runs (EitherPort R A B) S N I O C K) (sink : Told S) (Means : Meaning K) (moments : C → Option (ℕ → ℕ)) (heard : N → Heard)
    (left : I → Option (List ℕ)) (read_faults : I → ℕ) (took handed : O → Option (List ℕ)) (write_faults : O → ℕ)
    (disk : A → Opening → List Step → Type 0) (tells : A → Bool) (moment : A → ℕ) (laid : A → State → Type 0) (pruned : A → Type 0) (memory : B → Opening → List Step → Type 0) (tells' : B → Bool)
    (plan : Plan) (Drafted : Prepared K C → Type 0) (Opens : List SinkRow → Prepared K C → HostTold → HostTold → Outside S N → Type 0)
    (Given : Manned A B S N I O C K → List N → HostState → HostState → Type 0)
    (Back : List SinkRow → List ChannelWish → Settled S A B → Bool → Result (Unit {0}) ReportRefused → HostTold → HostTold → Type 0)
    (one : OneCut) (drains_run : (v w : DrainWorker I) → runs.drains v w → DrainRan left read_faults v w)
    (seated : (p : Prepared K C) → Drafted p → OneSeat (line_limit plan.sources.items) p.lines.items)
    (opens : (rows : List SinkRow) (p : Prepared K C) (a b : HostTold) (out : Outside S N) → Opens rows p a b out → (b.state.input ≡ a.state.input) × (b.state.faults ≡ a.state.faults))
    (given : (m : Manned A B S N I O C K) (l : List N) (s t : HostState) → Given m l s t → (t.input ≡ s.input) × (t.faults ≡ s.faults))
    (back : (rows : List SinkRow) (wishes : List ChannelWish) (settled : Settled S A B) (failed : Bool) (answer : Result (Unit {0}) ReportRefused) (a b : HostTold) → Back rows wishes settled failed answer a b
    → GoesBack failed answer a.state b.state) where
  abbrev Made : RunEnds → List ChannelEnd → HostTold → HostTold → Type 0
  Made = Steps runs sink Means moments heard left read_faults took handed write_faults disk tells moment laid pruned memory tells' plan Drafted Opens Given Back

  module _ (ends : RunEnds) (channels : List ChannelEnd) (a b : HostTold) (ran : Made ends channels a b) where
    abbrev limit : Option ℕ
    limit = line_limit plan.sources.items

    went_back : GoesBack ran.ran.goes.joined.streams.output_failed ends.report ran.ran.goes.behind b.state
    went_back =
        let r = ran.ran.goes in
        back ran.rows r.manned.wishes.items r.settled r.joined.streams.output_failed ends.report (record { state = r.behind; folders = ran.ran.between.folders }) b r.back

    -- what was read of standard input, from the beginning of the run to the join of its workers
    read_behind : WasRead limit ran.ran.goes.joined.streams a.state ran.ran.goes.behind
    read_behind =
        let o = ran.ran in
        let r = o.goes in
        let j = r.joins in
        let state = opened_state ran.made.wishes.items ran.channels a ran.behind ran.opened in
        let first = opens ran.rows ran.made ran.behind o.between o.opening.outside o.opens in
        let last = given r.manned j.returned.listeners.items j.behind_lines r.behind j.listeners in
        let lines = seats_lines limit ran.made.lines.items r.manned.crew.jobs.lines.items (seated ran.made ran.drafted)
        (subst (λ (p : Prepared K C). Zips IsLineOf p.lines.items r.manned.crew.jobs.lines.items) o.same_made r.is_manned.lines) in
        let read = was_read runs sink Means moments heard left read_faults took handed write_faults drains_run r.manned.crew.shares.items r.homes r.manned.crew.jobs j.returned
        o.between.state r.begun j.behind_drains j.behind_lines r.takes r.taken j.drains j.lines limit lines j.back in
        read_same limit r.joined.streams a.state r.behind o.between.state j.behind_lines
        (first.0 ∙ ap (λ (s : HostState). s.input) state) last.0 (first.1 ∙ ap (λ (s : HostState). s.faults) state) (let e = last.1 in omega (arith, e))
        (subst (λ (s : StreamsEnded). WasRead limit s o.between.state j.behind_lines) (sym j.streams) read)

    -- and to the end of the run
    whole_read : WasRead limit ran.ran.goes.joined.streams a.state b.state
    whole_read = read_same limit ran.ran.goes.joined.streams a.state b.state a.state ran.ran.goes.behind refl went_back.input refl went_back.later read_behind

    -- so it is by the end of the input
    read_to : (i : InputEnd) → ends.input ≡ i → ReadTo limit i a.state b.state
    read_to i is = subst (λ (e : InputEnd). ReadTo limit e a.state b.state) (sym ran.ran.goes.input ∙ is) whole_read.to

    -- where the report failed, a count rose
    reported : ends.report ≡ Err report.Fault → Rose a.state.faults b.state.faults
    reported is = elim (went_back.fault is) [
      | inl failed ↦ whole_read.failed failed
      | inr rose ↦ let l = read_behind.later in omega (arith, l, rose)
    ]

    folders : FoldersAre plan.channels.items ran.ran.goes.manned.crew.shares.items
    folders =
        let is = ran.ran.goes.is_manned in
        folders_are (uses_of ran.made.keepers.items ran.rows ran.made.listeners.items ran.made.lines.items) plan.channels.items ran.made.wishes.items ran.channels a ran.behind ran.ran.goes.manned.crew.shares.items
        ran.is_prepared.wishes ran.opened (is.shares ∙ ap (map (λ (c : OpenedChannel A B). c.share)) ran.ran.same_channels)

    homes_many : length ran.ran.goes.homes ≡ length plan.channels.items
    homes_many = ran.ran.goes.took.as_many ∙ ran.ran.goes.is_manned.homes.as_many ∙ folders.many

    -- by a mend that was refused a channel is left broken
    mended_left : (status : ℕ) → (status ≡ 0 → ⊥) → SomeMend status ends.mends.items
        → SomeIsLeft (λ c. cause_status c ≡ status) plan.channels.items (passes_of channels) ⊎ ((status ≡ 4) × SomeInFolder IsSpent plan.channels.items (passes_of channels))
    mended_left status not some =
        let r = ran.ran.goes in
        subst (λ (l : List Known). SomeIsLeft (λ c. cause_status c ≡ status) plan.channels.items l ⊎ ((status ≡ 4) × SomeInFolder IsSpent plan.channels.items l)) (sym r.passes)
        (some_left (IsDrainedAt sink moments) disk tells moment laid pruned memory tells' plan.channels.items r.manned.crew.shares.items r.homes r.joined.sinks.items r.manned.closes.items r.manned.settled.report.items r.settled r.settles
        folders homes_many r.named status not (subst (λ (v : Vec (Result Bool OpenCause) Global). SomeMend status v.items) r.mends some))

    fault_left : run_status ends ≡ 3 → Rose a.state.faults b.state.faults ⊎ SomeIsLeft (λ c. c ≡ DiskFault) plan.channels.items (passes_of channels)
    fault_left is = elim (by_fault ends is) [
      | inl failed ↦ inl (read_to input.Fault failed)
      | inr more ↦ elim more [
        | inl unreported ↦ inl (reported unreported)
        | inr mended ↦ elim (mended_left 3 (λ e. omega (arith, e)) mended) [
          | inl left ↦ inr (in_some plan.channels.items (passes_of channels) (λ v x. (x.0, disk_fault x.0 x.1, x.2)) left)
          | inr spent ↦ absurd (let e = spent.0 in omega (arith, e))
        ]
      ]
    ]

    held_left : run_status ends ≡ 4 → SomeIsLeft (λ c. cause_status c ≡ 4) plan.channels.items (passes_of channels) ⊎ SomeInFolder IsSpent plan.channels.items (passes_of channels)
    held_left is = elim (mended_left 4 (λ e. omega (arith, e)) (by_mend ends is)) [
      | inl left ↦ inl left
      | inr spent ↦ inr spent.1
    ]

    left_held : SomeIsLeft (λ c. cause_status c ≡ 4) plan.channels.items (passes_of channels) → run_status ends ≡ 4
    left_held some =
        let r = ran.ran.goes in
        mend_first ends (subst (λ (v : Vec (Result Bool OpenCause) Global). SomeMend 4 v.items) (sym r.mends)
        (left_some (IsDrainedAt sink moments) disk tells moment laid pruned memory tells' plan.channels.items r.manned.crew.shares.items r.homes r.joined.sinks.items r.manned.closes.items r.manned.settled.report.items r.settled r.settles
        folders homes_many r.named (subst (SomeIsLeft (λ c. cause_status c ≡ 4) plan.channels.items) r.passes some)))

    -- the status of a run has its cause in standard input, the count of faults, or a channel that is left broken
    pub run_causes : CausesTold plan (run_status ends) (passes_of channels) a.state b.state
    run_causes = record {
      fault = fault_left;
      held = held_left;
      holds = left_held;
      full = λ is. read_to input.Full (by_full ends is);
      long = λ is. read_to input.LongLine (by_long ends is);
      done = λ is. read_to input.End (ends_only ends.input (report_status ends.report ∷ map drain_status ends.drains.items ++ map mend_status ends.mends.items) is);
      well = λ steady whole can.
          finishes one limit (run_status ends) a.state.input b.state.input (is_status ends) can
          (λ is. elim (fault_left is) [
            | inl rose ↦ steady rose
            | inr left ↦ whole (in_some plan.channels.items (passes_of channels) (λ v x. x.2.broken) left)
          ])
          (λ is. elim (held_left is) [
            | inl left ↦ whole (in_some plan.channels.items (passes_of channels) (λ v x. x.2.broken) left)
            | inr spent ↦ whole (in_some plan.channels.items (passes_of channels) (λ v x. x.broken) spent)
          ])
          (λ is. read_to input.Full (by_full ends is)) (λ is. read_to input.LongLine (by_long ends is));
    }
