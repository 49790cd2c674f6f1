-- What a run's worker of lines read and wrote is what standard input and output tell.
use Rattle.std.proofs.Common.{◌≡◌, ◌∙◌, inl, inr, ◌==◌, ℕ, List, [], ◌∷◌, ◌++◌, Bool, true, false, cond, Option, length, map, refl, sym, ap, subst, arith}
use Rattle.std.specs.List.{list_any}
use Rattle.std.specs.declared.alloc.Global.{Global}
use Rattle.std.specs.declared.vec.Vec.{Vec}
use Rattle.flume_host.specs.Causes.{Counts}
use Rattle.flume_host.specs.HostState.{HostState}
use Rattle.crew.specs.declared.draining.DrainWorker.{DrainWorker}
use Rattle.agent_end.specs.Statuses.{drain_status, first_in, input_status, mend_status, report_status}
use Rattle.agent_end.specs.declared.ends.InputEnd.{InputEnd}
use Rattle.agent_end.specs.declared.ends.InputEnd.TheVariants as input
use Rattle.shared_channel.specs.Passes.{Known}
use Rattle.sink_worker.specs.Rounds.{Told}
use Rattle.source_put.specs.Chains.{Meaning}
use Rattle.netcat_source.specs.Into.{TakesLine}
use Rattle.source_worker.specs.Rounds.{Heard}
use Rattle.line_session.specs.Sessions.{HasCauseOf, Served, ends_of}
use Rattle.line_session.specs.declared.session.SessionEnd.{SessionEnd}
use Rattle.line_session.specs.declared.session.SessionEnd.TheVariants as session
use Rattle.line_worker.specs.Turns.{TakesTurn}
use Rattle.line_worker.specs.Workers.{ends_session, talk_of, told_by}
use Rattle.line_worker.specs.declared.worker.LineWorker.{LineWorker}
use Rattle.two_channels.specs.declared.port.EitherPort.{EitherPort}
use Rattle.two_channels.specs.declared.shared.EitherShared.{EitherShared}
use Rattle.run_tracks.specs.Listening.{home_tracks}
use Rattle.run_tracks.specs.Places.{Zips}
use Rattle.run_tracks.specs.Tracks.{Gave, ended}
use Rattle.agent_run.specs.Dialogue.{EndsAtEnd, EndsWell, IsDialogue, LinesAreAnswered, RanUnlessNoMemory}
use Rattle.run_working.specs.Ends.{IsLineEnded}
use Rattle.run_working.specs.Histories.{IsLineTold, MendedOver}
use Rattle.run_working.specs.Runs.{Runs}
use Rattle.run_opening.specs.Staff.{own_talk}
use Rattle.run_opening.specs.Streams.{DrainKept, DrainTaken, InTurn, TalkKept, TalkTaken, drain_ended, end_of_draining, end_of_session, ended_of, last_or, output_failed, talk_ended, unread}
use Rattle.run_staff.specs.declared.workers.LineEnded.{LineEnded}
use Rattle.run_opening.specs.declared.streams.StreamsEnded.{StreamsEnded}

-- what ended the reading, by the end of a session
abbrev streams_of : Option SessionEnd → StreamsEnded
streams_of end = record { input = end_of_session end; output_failed = output_failed end }

-- a pair with one thing
pub only_one : {A B : Type 0} (R : A → B → Type 0) (a : A) (ys : List B) → Zips R (a ∷ []) ys → (b : B) × (ys ≡ b ∷ []) × R a b
only_one R a [] z = absurd z
only_one R a (b ∷ []) z = (b, refl, z.0)
only_one R a (b ∷ c ∷ ys) z = absurd z.1

-- one step alone
pub one_step : {A : Type 0} (Step : A → HostState → HostState → Type 0) (a : A) (old new : HostState) → InTurn Step (a ∷ []) old new → Step a old new
one_step Step a old new is = subst (λ (s : HostState). Step a old s) (sym is.2) is.1

no_length : {A : Type 0} (xs : List A) → length xs ≡ 0 → xs ≡ []
no_length [] none = refl
no_length (x ∷ xs) none = absurd (omega arith)

is_some : {A : Type 0} (x : A) (xs ys : List A) → ys ≡ x ∷ xs → ys ≡ [] → ⊥
is_some x xs ys is none = let e = ap length (sym is ∙ none) in omega arith

-- where the reading of standard input came to its end, the session did
pub ends_at_end : EndsAtEnd
ends_at_end session.End is = refl
ends_at_end session.TooLongLine is = absurd cc
ends_at_end session.Full is = absurd cc
ends_at_end (session.Line verdict) is = absurd cc
ends_at_end session.NoMemory is = absurd cc
ends_at_end session.ReadFault is = absurd cc
ends_at_end session.WriteFault is = absurd cc

module _ {I O : Type 0} (left : I → Option (List ℕ)) (read_faults : I → ℕ) (took handed : O → Option (List ℕ)) (write_faults : O → ℕ) where
  -- one worker of lines, by what the host handed out and took back
  dialogue : {A B C K : Type 0} (Means : Meaning K) (moments : C → Option (ℕ → ℕ)) (shares : List (EitherShared A B)) (seen : List Known) (job : LineWorker Known I O C K) (back : LineEnded I O)
      (old begun new : HostState) → TalkTaken left read_faults took handed write_faults (own_talk job) old begun
      → (told : IsLineTold Means moments (talk_of left read_faults took handed write_faults) shares seen job back) → TalkKept left read_faults took handed write_faults back begun new
      → IsDialogue Means moments shares seen job told.end old new
  dialogue Means moments shares seen job back old begun new taken told kept =
      let tracks = home_tracks (λ (p : Known). p) seen job.channels.items job.ports.items in
      let s = told.session in
      let input : new.input ≡ left back.input = ap (λ (h : HostState). h.input) kept.state in
      let output : new.output ≡ took back.output = ap (λ (h : HostState). h.output) kept.state in
      let on : new.handed ≡ handed back.output = ap (λ (h : HostState). h.handed) kept.state in
      let faults : begun.faults ≡ old.faults = ap (λ (h : HostState). h.faults) taken.state in
      record {
        built = told.built;
        before = told.before;
        chain = told.chain;
        after = told.after;
        later = told.later;
        due = told.due;
        served = subst (λ (x : Option (List ℕ) × Option (List ℕ) × Option (List ℕ) × Option (List ℕ)).
            Served job.rules.max job.rules.ack ends_session (TakesTurn (TakesLine Gave job.selector Means job.host) (MendedOver shares job.channels.items))
            (ends_of x.0 (record { into = record { route = record { links = told.before; ports = tracks }; moments = told_by moments job.clock }; due = false }) x.1)
            (ends_of x.2 (record { into = record { route = record { links = told.after; ports = map ended tracks }; moments = told.later }; due = told.due }) x.3) told.end)
            (λ i. (taken.left_there i, taken.took_there i, sym input i, sym output i)) s.served;
        handed = λ yes not. on ∙ s.handed yes not ∙ sym output;
        unserved = s.unserved;
        reads = read_faults back.input;
        writes = write_faults back.output;
        cause = subst (λ (x : ℕ × ℕ). HasCauseOf told.end x.0 (read_faults back.input) x.1 (write_faults back.output)) (λ i. (taken.read_well i, taken.wrote_well i)) s.cause;
        between = kept.between;
        read_count = subst (λ (n : ℕ). Counts n kept.between (read_faults back.input)) faults kept.input_count;
        write_count = kept.output_count;
      }

module _ {R A B S N I O C K : Type 0} (runs : Runs (EitherPort R A B) S N I O C K) (Means : Meaning K) (moments : C → Option (ℕ → ℕ))
    (left : I → Option (List ℕ)) (read_faults : I → ℕ) (took handed : O → Option (List ℕ)) (write_faults : O → ℕ) where
  -- the one worker of lines had its dialogue with the host, whose end is what ended the reading of standard input
  pub lines_are_answered : LinesAreAnswered runs Means moments left read_faults took handed write_faults
  lines_are_answered shares homes seen jobs returned job old begun between new one taken ran told drains lines =
      let Told = IsLineTold Means moments (talk_of left read_faults took handed write_faults) shares seen in
      let Taken = TalkTaken left read_faults took handed write_faults in
      let Kept = TalkKept left read_faults took handed write_faults in
      let J = LineWorker Known I O C K in
      let T = LineEnded I O in
      let D = DrainWorker I in
      let back = only_one Told job returned.lines.items (subst (λ (l : List J). Zips Told l returned.lines.items) one told) in
      let talks : map (λ (j : J). own_talk j) jobs.lines.items ≡ own_talk job ∷ [] = ap (λ (l : List J). map (λ (j : J). own_talk j) l) one in
      let first = one_step Taken (own_talk job) old taken.between (subst (λ (l : List T). InTurn Taken l old taken.between) talks taken.lines) in
      let undrained : jobs.drains.items ≡ [] = taken.undrained (is_some (own_talk job) [] (map (λ (j : J). own_talk j) jobs.lines.items) talks) in
      let begins : begun ≡ taken.between = subst (λ (l : List D). InTurn (DrainTaken left read_faults) l taken.between begun) undrained taken.drains in
      let many : length returned.drains.items ≡ 0 =
      ap (λ (v : Vec D Global). length v.items) ran.ended.drains ∙ ran.once.drains.as_many ∙ ap (λ (v : Vec D Global). length v.items) ran.opened.drains ∙ ap length undrained in
      let none : returned.drains.items ≡ [] = no_length returned.drains.items many in
      let same : between ≡ begun = subst (λ (l : List D). InTurn (DrainKept left read_faults) l begun between) none drains in
      let kept = one_step Kept back.0 between new (subst (λ (l : List T). InTurn Kept l between new) back.1 lines) in
      let behind : T = back.0 in (
        back.2.end,
        dialogue left read_faults took handed write_faults Means moments shares seen job behind old begun new (subst (λ (s : HostState). Taken (own_talk job) old s) (sym begins) first) back.2
            (subst (λ (s : HostState). Kept behind s new) same kept),
        ap (λ (l : List T). ended_of returned.drains.items l) back.1 ∙ ap (λ (e : Option SessionEnd). streams_of e) back.2.noted,
      )

-- ---- workers that never ran

module _ {I : Type 0} (left : I → Option (List ℕ)) (read_faults : I → ℕ) where
  -- what was handed out to be drained was not read
  drains_idle : (before : StreamsEnded) → before.input ≡ input.NoMemory → (workers : List (DrainWorker I)) (a b : HostState) → InTurn (DrainTaken left read_faults) workers a b
      → (last_or before (map (λ (w : DrainWorker I). drain_ended w) workers)).input ≡ input.NoMemory
  drains_idle before is [] a b taken = is
  drains_idle before is (w ∷ workers) a b taken = drains_idle (drain_ended w) (ap (λ e. end_of_draining e) taken.1.none) workers taken.0 b taken.2

  module _ {O : Type 0} (took handed : O → Option (List ℕ)) (write_faults : O → ℕ) where
    -- nor was what workers of lines got
    lines_idle : {C K : Type 0} (homes : List Known) (before : StreamsEnded) → before.input ≡ input.NoMemory → (jobs : List (LineWorker Known I O C K)) (backs : List (LineEnded I O)) (a b : HostState)
        → InTurn (TalkTaken left read_faults took handed write_faults) (map (λ (j : LineWorker Known I O C K). own_talk j) jobs) a b → Zips (IsLineEnded (λ (p : Known). p) homes) jobs backs
        → (last_or before (map (λ (t : LineEnded I O). talk_ended t) backs)).input ≡ input.NoMemory
    lines_idle homes before is [] [] a b taken ended = is
    lines_idle homes before is [] (t ∷ backs) a b taken ended = absurd ended
    lines_idle homes before is (j ∷ jobs) [] a b taken ended = absurd ended
    lines_idle homes before is (j ∷ jobs) (t ∷ backs) a b taken ended =
        lines_idle homes (talk_ended t) (ap (λ e. end_of_session e) (ended.0.end ∙ taken.1.none)) jobs backs taken.0 b taken.2 ended.1

module _ {R A B S N I O C K : Type 0} (runs : Runs (EitherPort R A B) S N I O C K) (sink : Told S) (Means : Meaning K) (moments : C → Option (ℕ → ℕ)) (heard : N → Heard)
    (left : I → Option (List ℕ)) (read_faults : I → ℕ) (took handed : O → Option (List ℕ)) (write_faults : O → ℕ) where
  -- where the reading of standard input did not end for lack of memory, the workers ran
  pub ran_unless : RanUnlessNoMemory runs sink Means moments heard left read_faults took handed write_faults
  ran_unless shares homes jobs returned old begun taken (inl told) not = told
  ran_unless shares homes jobs returned old begun taken (inr idle) not =
      let drained = subst (λ (v : Vec (DrainWorker I) Global). (last_or unread (map (λ (w : DrainWorker I). drain_ended w) v.items)).input ≡ input.NoMemory) (sym idle.drains)
      (drains_idle left read_faults unread refl jobs.drains.items taken.between begun taken.drains) in
      absurd (not (lines_idle left read_faults took handed write_faults homes (last_or unread (map (λ (w : DrainWorker I). drain_ended w) returned.drains.items)) drained jobs.lines.items returned.lines.items old taken.between taken.lines idle.lines))

-- ---- a run that ended well

picks : (b : Bool) (x y : ℕ) → (x ≡ 0 → ⊥) → (y ≡ 0 → ⊥) → cond b x y ≡ 0 → ⊥
picks true x y p q is = p is
picks false x y p q is = q is

ended_differ : input.NoMemory ≡ input.End → ⊥
ended_differ e = cc

-- the reading of standard input has then come to its end
pub ends_only : (i : InputEnd) (more : List ℕ) → first_in (4 ∷ 3 ∷ 5 ∷ 7 ∷ 6 ∷ []) (input_status i ∷ more) ≡ 0 → i ≡ input.End
ends_only input.End more is = refl
ends_only input.Fault more is =
    let has = λ (n : ℕ). list_any (λ m. m == n) more in
    absurd (picks (has 4) 4 3 (λ e. omega arith) (λ e. omega arith) is)
ends_only input.NoMemory more is =
    let has = λ (n : ℕ). list_any (λ m. m == n) more in
    absurd (picks (has 4) 4 _ (λ e. omega arith) (picks (has 3) 3 5 (λ e. omega arith) (λ e. omega arith)) is)
ends_only input.LongLine more is =
    let has = λ (n : ℕ). list_any (λ m. m == n) more in
    absurd (picks (has 4) 4 _ (λ e. omega arith) (picks (has 3) 3 _ (λ e. omega arith) (picks (has 5) 5 7 (λ e. omega arith) (λ e. omega arith))) is)
ends_only input.Full more is =
    let has = λ (n : ℕ). list_any (λ m. m == n) more in
    absurd (picks (has 4) 4 _ (λ e. omega arith) (picks (has 3) 3 _ (λ e. omega arith) (picks (has 5) 5 _ (λ e. omega arith) (picks (has 7) 7 6 (λ e. omega arith) (λ e. omega arith)))) is)

module _ {R A B S N I O C K : Type 0} (runs : Runs (EitherPort R A B) S N I O C K) (sink : Told S) (Means : Meaning K) (moments : C → Option (ℕ → ℕ)) (heard : N → Heard)
    (left : I → Option (List ℕ)) (read_faults : I → ℕ) (took handed : O → Option (List ℕ)) (write_faults : O → ℕ) where
  -- at status 0 the workers ran, and the one of lines had its dialogue to the end of standard input
  pub ends_well : EndsWell runs sink Means moments heard left read_faults took handed write_faults
  ends_well shares homes jobs returned old begun between new ends taken back drains lines same zero =
      let others = report_status ends.report ∷ map drain_status ends.drains.items ++ map mend_status ends.mends.items in
      let at_end : (ended_of returned.drains.items returned.lines.items).input ≡ input.End = sym same ∙ ends_only ends.input others zero in
      let told = ran_unless runs sink Means moments heard left read_faults took handed write_faults shares homes jobs returned old begun taken back (λ e. ended_differ (sym e ∙ at_end)) in (
        told,
        λ seen job are one.
            let all = lines_are_answered runs Means moments left read_faults took handed write_faults shares homes seen jobs returned job old begun between new one taken told.ran are drains lines in
            let end_is : all.0 ≡ session.End = ends_at_end all.0 (sym (ap (λ (e : StreamsEnded). e.input) all.2) ∙ at_end) in
            subst (λ (e : SessionEnd). IsDialogue Means moments shares seen job e old new) end_is all.1,
      )
