-- How the reading of standard input ended, and what the host shows of it.
use Rattle.std.proofs.Common.{◌≡◌, ◌∙◌, ◌<◌, ◌≤◌, ◌⊎◌, ◌++◌, inl, inr, ℕ, List, [], ◌∷◌, true, false, Option, Some, None, length, map, min, ◌-◌, ◌^◌, get_or, refl, sym, ap, subst, true≢false, arith}
use Rattle.std.specs.Io.KnownBytes.{Consumes, IsAtEnd}
use Rattle.std.specs.declared.alloc.Global.{Global}
use Rattle.std.specs.declared.vec.Vec.{Vec}
use Rattle.flume_host.specs.Causes.{Counts, Rose}
use Rattle.flume_host.specs.HostState.{HostState}
use Rattle.crew.specs.Drains.{DrainRan, Drained}
use Rattle.crew.specs.declared.draining.DrainEnd.{DrainEnd}
use Rattle.crew.specs.declared.draining.DrainEnd.TheVariants as drain
use Rattle.crew.specs.declared.draining.DrainWorker.{DrainWorker}
use Rattle.shared_channel.specs.Passes.{Known}
use Rattle.sink_worker.specs.Rounds.{Told}
use Rattle.source_put.specs.Chains.{Meaning}
use Rattle.netcat_source.specs.Lines.{IsCut, LinesEnd, Rest, TooLong, joined}
use Rattle.source_worker.specs.Rounds.{Heard}
use Rattle.line_session.specs.Handled.{lines_of}
use Rattle.line_session.specs.declared.session.SessionEnd.{SessionEnd}
use Rattle.line_session.specs.declared.session.SessionEnd.TheVariants as session
use Rattle.line_worker.specs.Workers.{talk_of}
use Rattle.line_worker.specs.declared.worker.LineWorker.{LineWorker}
use Rattle.two_channels.specs.declared.port.EitherPort.{EitherPort}
use Rattle.two_channels.specs.declared.shared.EitherShared.{EitherShared}
use Rattle.run_tracks.specs.Places.{Zips}
use Rattle.agent_end.specs.declared.ends.InputEnd.{InputEnd}
use Rattle.agent_end.specs.declared.ends.InputEnd.TheVariants as input
use Rattle.agent_run.specs.Causes.{IsTaken}
use Rattle.agent_run.specs.Dialogue.{IsDialogue}
use Rattle.run_working.specs.Ends.{IsLineEnded}
use Rattle.run_working.specs.Histories.{IsLineTold}
use Rattle.agent_run.specs.Joined.{HaveReturned}
use Rattle.run_working.specs.Runs.{Runs}
use Rattle.run_opening.specs.Staff.{own_talk}
use Rattle.run_opening.specs.Streams.{AreTaken, DrainKept, DrainTaken, InTurn, IsButTaken, TalkKept, TalkTaken, end_of_draining, end_of_session, ended_of, output_failed}
use Rattle.run_staff.specs.declared.workers.LineEnded.{LineEnded}
use Rattle.run_opening.specs.declared.streams.StreamsEnded.{StreamsEnded}
use Rattle.run_staff.specs.declared.workers.Returned.{Returned}
use Rattle.run_staff.specs.declared.workers.Workers.{Workers}
use Rattle.run_opening.proofs.Streaming.{turn_chain}
use Rattle.agent_run.proofs.Talking.{lines_are_answered, one_step, only_one}

-- a count did not fall below its last value
abbrev pub NoLess : ℕ → ℕ → Type 0
NoLess before now = min before (2 ^ 64 - 1) ≤ now

-- what an end of the reading says
abbrev pub ReadTo : Option ℕ → InputEnd → HostState → HostState → Type 0
ReadTo limit input.End old new = IsTaken (λ size. size < 2 ^ 40) limit Rest old.input new.input × IsAtEnd new.input
ReadTo limit input.LongLine old new = IsTaken (λ size. size ≤ 2 ^ 40) limit TooLong old.input new.input
ReadTo limit input.Full old new = IsTaken (λ size. size ≡ 2 ^ 40) limit Rest old.input new.input
ReadTo limit input.Fault old new = Rose old.faults new.faults
ReadTo limit input.NoMemory old new = Unit {0}

-- What the end of the reading and of the output says of the host, whose count of faults did not fall.
pub record WasRead (limit : Option ℕ) (streams : StreamsEnded) (old new : HostState) : Type 0 where
  pub to : ReadTo limit streams.input old new
  pub failed : streams.output_failed ≡ true → Rose old.faults new.faults
  pub later : NoLess old.faults new.faults

-- nothing was read
pub unread_well : (limit : Option ℕ) (streams : StreamsEnded) (old new : HostState) → streams ≡ record { input = input.NoMemory; output_failed = false } → NoLess old.faults new.faults → WasRead limit streams old new
unread_well limit streams old new is later = subst (λ (s : StreamsEnded). WasRead limit s old new) (sym is) (record { to = tt; failed = λ yes. absurd (true≢false (sym yes)); later = later })

-- ---- the count of faults

-- it did not fall from one state of the host to another
abbrev StaysUp : HostState → HostState → Type 0
StaysUp old new = NoLess old.faults new.faults

up_self : (s : HostState) → StaysUp s s
up_self s = omega arith

up_then : (f g h : HostState) → StaysUp f g → StaysUp g h → StaysUp f h
up_then f g h first second = omega (arith, first, second)

module _ {I : Type 0} (left : I → Option (List ℕ)) (read_faults : I → ℕ) where
  drains_later : (workers : List (DrainWorker I)) (old new : HostState) → InTurn (DrainKept left read_faults) workers old new → StaysUp old new
  drains_later = turn_chain (DrainKept left read_faults) StaysUp up_self up_then (λ w f g is. let a = is.count.later in omega (arith, a))

  module _ {O : Type 0} (took handed : O → Option (List ℕ)) (write_faults : O → ℕ) where
    talks_later : (talks : List (LineEnded I O)) (old new : HostState) → InTurn (TalkKept left read_faults took handed write_faults) talks old new → StaysUp old new
    talks_later = turn_chain (TalkKept left read_faults took handed write_faults) StaysUp up_self up_then
        (λ t f g is. let a = is.input_count.later in let b = is.output_count.later in omega (arith, a, b))

-- ---- a draining

-- one that took its input from the host and gave it back
drained_to : (end : DrainEnd) (old begun new : HostState) (before after : Option (List ℕ)) (was is : ℕ) → before ≡ old.input → new.input ≡ after → was ≡ 0 → begun.faults ≡ old.faults
    → Drained end before after was is → Counts begun.faults new.faults is → WasRead None (record { input = end_of_draining (Some end); output_failed = false }) old new
drained_to drain.End old begun new before after was is first last none same did counts = record {
  to = (
    record {
      bytes = did.bytes;
      taken = subst (λ (x : Option (List ℕ) × Option (List ℕ)). Consumes x.0 x.1 did.bytes) (λ i. (first i, sym last i)) did.read;
      size = did.ends.0;
      lines = refl;
    },
    subst IsAtEnd (sym last) did.ends.1,
  );
  failed = λ yes. absurd (true≢false (sym yes));
  later = let l = counts.later in omega (arith, same, l);
}
drained_to drain.Full old begun new before after was is first last none same did counts = record {
  to = record {
    bytes = did.bytes;
    taken = subst (λ (x : Option (List ℕ) × Option (List ℕ)). Consumes x.0 x.1 did.bytes) (λ i. (first i, sym last i)) did.read;
    size = did.ends;
    lines = refl;
  };
  failed = λ yes. absurd (true≢false (sym yes));
  later = let l = counts.later in omega (arith, same, l);
}
drained_to drain.ReadFault old begun new before after was is first last none same did counts =
    let rose = did.cause in
    let raised = counts.raised (omega (arith, rose, none)) in
    record {
      to = subst (λ (n : ℕ). Rose n new.faults) same raised;
      failed = λ yes. absurd (true≢false (sym yes));
      later = let l = counts.later in omega (arith, same, l);
    }

-- ---- a session of lines

module _ {A B I O C K : Type 0} (Means : Meaning K) (moments : C → Option (ℕ → ℕ)) (shares : List (EitherShared A B)) (seen : List Known) (job : LineWorker Known I O C K) where
  -- what a dialogue took of the input
  taken_of : {Size : ℕ → Type 0} {end : SessionEnd} {last : LinesEnd} (old new : HostState) (d : IsDialogue Means moments shares seen job end old new)
      → Size (length (joined (lines_of d.served.done) ++ d.served.rest))
      → IsCut job.rules.max (joined (lines_of d.served.done) ++ d.served.rest) (lines_of d.served.done) last
      → IsTaken Size (Some job.rules.max) last old.input new.input
  taken_of old new d size cut = record {
    bytes = joined (lines_of d.served.done) ++ d.served.rest;
    taken = d.served.read;
    size = size;
    lines = (lines_of d.served.done, cut);
  }

  -- by its end
  talked_to : (end : SessionEnd) (old new : HostState) → IsDialogue Means moments shares seen job end old new
      → WasRead (Some job.rules.max) (record { input = end_of_session (Some end); output_failed = output_failed (Some end) }) old new
  talked_to session.End old new d = record {
    to = (
      taken_of old new d d.served.at.0 (record { rest = d.served.rest; whole = refl; each = d.served.each; ends = d.served.ends.1 }),
      d.served.at.1,
    );
    failed = λ yes. absurd (true≢false (sym yes));
    later = let a = d.read_count.later in let b = d.write_count.later in omega (arith, a, b);
  }
  talked_to session.TooLongLine old new d = record {
    to = taken_of old new d d.served.at (record { rest = d.served.rest; whole = refl; each = d.served.each; ends = d.served.ends.1 });
    failed = λ yes. absurd (true≢false (sym yes));
    later = let a = d.read_count.later in let b = d.write_count.later in omega (arith, a, b);
  }
  talked_to session.Full old new d = record {
    to = taken_of old new d d.served.at (record { rest = d.served.rest; whole = refl; each = d.served.each; ends = d.served.ends.1 });
    failed = λ yes. absurd (true≢false (sym yes));
    later = let a = d.read_count.later in let b = d.write_count.later in omega (arith, a, b);
  }
  talked_to (session.Line verdict) old new d = record {
    to = tt;
    failed = λ yes. absurd (true≢false (sym yes));
    later = let a = d.read_count.later in let b = d.write_count.later in omega (arith, a, b);
  }
  talked_to session.NoMemory old new d = record {
    to = tt;
    failed = λ yes. absurd (true≢false (sym yes));
    later = let a = d.read_count.later in let b = d.write_count.later in omega (arith, a, b);
  }
  talked_to session.ReadFault old new d =
      let rose = d.cause.0.1 in
      let raised = d.read_count.raised (omega (arith, rose)) in
      let l = d.write_count.later in
      record {
        to = omega (arith, raised, l);
        failed = λ yes. absurd (true≢false (sym yes));
        later = let a = d.read_count.later in omega (arith, a, l);
      }
  talked_to session.WriteFault old new d =
      let rose = d.cause.1.1 in
      let raised = d.write_count.raised (omega (arith, rose)) in
      let l = d.read_count.later in
      record {
        to = omega (arith, raised, l);
        failed = λ yes. omega (arith, raised, l);
        later = let a = d.write_count.later in omega (arith, a, l);
      }

-- ---- the whole reading

-- a run has no worker of lines, or one whose lines have this limit
abbrev pub AreLines : {I O C K : Type 0} → Option ℕ → List (LineWorker Known I O C K) → Type 0
AreLines {I} {O} {C} {K} limit jobs = ((limit ≡ None) × (jobs ≡ [])) ⊎ ((job : LineWorker Known I O C K) × (jobs ≡ job ∷ []) × (limit ≡ Some job.rules.max))

module _ {R A B S N I O C K : Type 0} (runs : Runs (EitherPort R A B) S N I O C K) (sink : Told S) (Means : Meaning K) (moments : C → Option (ℕ → ℕ)) (heard : N → Heard)
    (left : I → Option (List ℕ)) (read_faults : I → ℕ) (took handed : O → Option (List ℕ)) (write_faults : O → ℕ)
    (drains_run : (v w : DrainWorker I) → runs.drains v w → DrainRan left read_faults v w) where
  -- one list of one thing
  one_of : {X : Type 0} (xs : List X) → length xs ≡ 1 → (x : X) × (xs ≡ x ∷ [])
  one_of [] is = absurd (omega (arith, is))
  one_of (x ∷ []) is = (x, refl)
  one_of (x ∷ y ∷ xs) is = absurd (omega (arith, is))

  zips_none : {X Y : Type 0} (R : X → Y → Type 0) (ys : List Y) → Zips R [] ys → ys ≡ []
  zips_none R [] z = refl
  zips_none R (y ∷ ys) z = absurd z

  module _ (shares : List (EitherShared A B)) (homes : List Known) (jobs : Workers Known S N I O C K) (returned : Returned S N I O C) (old begun between new : HostState)
      (taken : AreTaken left read_faults took handed write_faults (map (λ (job : LineWorker Known I O C K). own_talk job) jobs.lines.items) jobs.drains.items old begun)
      (rest : IsButTaken old begun)
      (drains : InTurn (DrainKept left read_faults) returned.drains.items begun between)
      (lines : InTurn (TalkKept left read_faults took handed write_faults) returned.lines.items between new) where
    same_faults : begun.faults ≡ old.faults
    same_faults = ap (λ (s : HostState). s.faults) rest

    never_less : NoLess old.faults new.faults
    never_less =
        let a = drains_later left read_faults returned.drains.items begun between drains in
        let b = talks_later left read_faults took handed write_faults returned.lines.items between new lines in
        let e = same_faults in
        omega (arith, a, b, e)

    -- one worker of lines
    lines_read : (job : LineWorker Known I O C K) → jobs.lines.items ≡ job ∷ []
        → HaveReturned runs sink Means moments heard (talk_of left read_faults took handed write_faults) shares homes jobs returned
        → WasRead (Some job.rules.max) (ended_of returned.drains.items returned.lines.items) old new
    lines_read job one (inl told) =
        let all = lines_are_answered runs Means moments left read_faults took handed write_faults shares homes homes jobs returned job old begun between new one taken told.ran told.lines drains lines in
        subst (λ (s : StreamsEnded). WasRead (Some job.rules.max) s old new) (sym all.2) (talked_to Means moments shares homes job all.0 old new all.1)
    lines_read job one (inr idle) =
        let J = LineWorker Known I O C K in
        let T = LineEnded I O in
        let Gone = IsLineEnded (λ (p : Known). p) homes in
        let back = only_one Gone job returned.lines.items (subst (λ (l : List J). Zips Gone l returned.lines.items) one idle.lines) in
        let Taken = TalkTaken left read_faults took handed write_faults in
        let talks : map (λ (j : J). own_talk j) jobs.lines.items ≡ own_talk job ∷ [] = ap (λ (l : List J). map (λ (j : J). own_talk j) l) one in
        let first = one_step Taken (own_talk job) old taken.between (subst (λ (l : List T). InTurn Taken l old taken.between) talks taken.lines) in
        let none : back.0.end ≡ None = back.2.end ∙ first.none in
        unread_well (Some job.rules.max) (ended_of returned.drains.items returned.lines.items) old new
        (ap (λ (l : List T). ended_of returned.drains.items l) back.1 ∙ ap (λ (e : Option SessionEnd). record { input = end_of_session e; output_failed = output_failed e }) none) never_less

    module _ (none : jobs.lines.items ≡ []) where
      no_talks : map (λ (j : LineWorker Known I O C K). own_talk j) jobs.lines.items ≡ []
      no_talks = ap (λ (l : List (LineWorker Known I O C K)). map (λ (j : LineWorker Known I O C K). own_talk j) l) none

      the_drain : (w : DrainWorker I) × (jobs.drains.items ≡ w ∷ [])
      the_drain = one_of jobs.drains.items (taken.drained no_talks)

      lines_same : taken.between ≡ old
      lines_same = subst (λ (l : List (LineEnded I O)). InTurn (TalkTaken left read_faults took handed write_faults) l old taken.between) no_talks taken.lines

      drain_taken : DrainTaken left read_faults the_drain.0 old begun
      drain_taken = subst (λ (s : HostState). DrainTaken left read_faults the_drain.0 s begun) lines_same
          (one_step (DrainTaken left read_faults) the_drain.0 taken.between begun
          (subst (λ (l : List (DrainWorker I)). InTurn (DrainTaken left read_faults) l taken.between begun) the_drain.1 taken.drains))

      -- an input that was drained
      drain_read : HaveReturned runs sink Means moments heard (talk_of left read_faults took handed write_faults) shares homes jobs returned
          → WasRead None (ended_of returned.drains.items returned.lines.items) old new
      drain_read (inl told) =
          let J = LineWorker Known I O C K in
          let D = DrainWorker I in
          let T = LineEnded I O in
          let ran = told.ran in
          let Told = IsLineTold Means moments (talk_of left read_faults took handed write_faults) shares homes in
          let empty : returned.lines.items ≡ [] = zips_none Told returned.lines.items (subst (λ (l : List J). Zips Told l returned.lines.items) none told.lines) in
          let w = the_drain.0 in
          let before : ran.old.drains.items ≡ w ∷ [] = ap (λ (v : Vec D Global). v.items) ran.opened.drains ∙ the_drain.1 in
          let many : length ran.new.drains.items ≡ 1 = ran.once.drains.as_many ∙ ap length before in
          let after = one_of ran.new.drains.items many in
          let v = after.0 in
          let here = ran.once.drains.each 0 w (let e = ap length before in omega (arith, e)) in
          let did = drains_run w v (subst (λ (x : List D × List D). runs.drains (get_or x.0 0 w) (get_or x.1 0 w)) (λ i. (before i, after.1 i)) here) in
          let back : returned.drains.items ≡ v ∷ [] = ap (λ (x : Vec D Global). x.items) ran.ended.drains ∙ after.1 in
          let kept = one_step (DrainKept left read_faults) v begun between (subst (λ (l : List D). InTurn (DrainKept left read_faults) l begun between) back drains) in
          let same : new ≡ between = subst (λ (l : List T). InTurn (TalkKept left read_faults took handed write_faults) l between new) empty lines in
          let streams : ended_of returned.drains.items returned.lines.items ≡ record { input = end_of_draining (Some did.end); output_failed = false } =
          ap (λ (x : List D × List T). ended_of x.0 x.1) (λ i. (back i, empty i)) ∙ ap (λ (e : Option DrainEnd). record { input = end_of_draining e; output_failed = false }) did.noted in
          let last : between.input ≡ left v.input = ap (λ (s : HostState). s.input) kept.state in
          subst (λ (x : StreamsEnded × HostState). WasRead None x.0 old x.1) (λ i. (sym streams i, sym same i))
          (drained_to did.end old begun between (left w.input) (left v.input) (read_faults w.input) (read_faults v.input)
          drain_taken.left_there last drain_taken.read_well same_faults did.drained kept.count)
      drain_read (inr idle) =
          let J = LineWorker Known I O C K in
          let D = DrainWorker I in
          let T = LineEnded I O in
          let Gone = IsLineEnded (λ (p : Known). p) homes in
          let empty : returned.lines.items ≡ [] = zips_none Gone returned.lines.items (subst (λ (l : List J). Zips Gone l returned.lines.items) none idle.lines) in
          let back : returned.drains.items ≡ the_drain.0 ∷ [] = ap (λ (x : Vec D Global). x.items) idle.drains ∙ the_drain.1 in
          unread_well None (ended_of returned.drains.items returned.lines.items) old new
          (ap (λ (x : List D × List T). ended_of x.0 x.1) (λ i. (back i, empty i)) ∙ ap (λ (e : Option DrainEnd). record { input = end_of_draining e; output_failed = false }) drain_taken.none) never_less

    -- what was read of standard input
    pub was_read : (limit : Option ℕ) → AreLines limit jobs.lines.items
        → HaveReturned runs sink Means moments heard (talk_of left read_faults took handed write_faults) shares homes jobs returned
        → WasRead limit (ended_of returned.drains.items returned.lines.items) old new
    was_read limit (inl (is, none)) back = subst (λ (l : Option ℕ). WasRead l (ended_of returned.drains.items returned.lines.items) old new) (sym is) (drain_read none back)
    was_read limit (inr (job, one, is)) back = subst (λ (l : Option ℕ). WasRead l (ended_of returned.drains.items returned.lines.items) old new) (sym is) (lines_read job one back)
