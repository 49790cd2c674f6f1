use Rattle.std.proofs.Common.{rules, ◌≡◌, ◌∙◌, ◌<◌, ◌+◌, ◌++◌, ◌∷◌, ℕ, List, [], length, sym, ap, subst, arith}
use Rattle.std.proofs.lemmas.List.{length-append}
use Rattle.agent_sinks.specs.declared.sink.AgentSink.{AgentSink}
use Rattle.grouped_sinks.specs.Frames.{IsFrameOf, IsNewRunner}
use Rattle.grouped_sinks.specs.Picks.{AreDealt, AreNewRunners, ArePicked, KeepsOthers}
use Rattle.grouped_sinks.specs.Rows.{AreBelow, Zips, places_of}
use Rattle.plan_laws.specs.Once.{AreDistinct}
use Rattle.grouped_sinks.specs.Runners.{members_of}
use Rattle.grouped_sinks.specs.declared.frame.Frame.{Frame}
use Rattle.grouped_sinks.specs.declared.row.SinkRow.{SinkRow}
use Rattle.grouped_sinks.specs.declared.runner.Runner.{Runner}
use Rattle.grouped_sinks.proofs.Picking.{all_back, all_front, distinct_apart, distinct_back, distinct_front, flat-append, keeps_then, picked_before, zips-append, zips_length, zips_none, zips_push}
use Rattle.grouped_sinks.proofs.grouping.+group_sinks.Goals as goal

pub returns-in_default-clause-dealt : goal.returns-in_default-clause-dealt
returns-in_default-clause-dealt g t c =
    let S = AgentSink g.row.R.Denot g.row.A.Denot g.row.B.Denot in
    let Q = Runner S g.row.N.Denot in
    let none : c.args.frames.items ≡ [] = search rules in
    let rows : c.args.rows.now ≡ [] = zips_none (IsFrameOf {S = S} {N = g.row.N.Denot} c.args.groups.now) c.args.rows.now c.args.frames.items c.requires.frames none in
    subst (λ (x : List SinkRow × List Q). AreDealt c.args.sinks.now x.0 x.1) (λ i. (sym rows i, sym c.requires.none i)) tt

pub returns-in_default-clause-new_ones : goal.returns-in_default-clause-new_ones
returns-in_default-clause-new_ones g t c =
    let S = AgentSink g.row.R.Denot g.row.A.Denot g.row.B.Denot in
    let Q = Runner S g.row.N.Denot in
    let none : c.args.frames.items ≡ [] = search rules in
    let rows : c.args.rows.now ≡ [] = zips_none (IsFrameOf {S = S} {N = g.row.N.Denot} c.args.groups.now) c.args.rows.now c.args.frames.items c.requires.frames none in
    subst (λ (x : List SinkRow × List Q). AreNewRunners c.args.groups.now x.0 x.1) (λ i. (sym rows i, sym c.requires.none i)) tt

pub group_sinks-requires : goal.group_sinks-requires
group_sinks-requires g t c κs within =
    let S = AgentSink g.row.R.Denot g.row.A.Denot g.row.B.Denot in
    let Q = Runner S g.row.N.Denot in
    let F = Frame S g.row.N.Denot in
    let e = c.in-Some-split_last.ensures.cases.0 in
    let front = c.in-Some-split_last.front.now in
    let row = c.in-Some-split_last.row.now in
    let left = c.pop.new.self.items in
    let Is = IsFrameOf {S = S} {N = g.row.N.Denot} c.args.groups.now in
    let all : places_of c.args.rows.now ≡ places_of front ++ row.places.items = ap places_of e ∙ flat-append (λ (r : SinkRow). r.places.items) front row in
    let once = subst AreDistinct all c.requires.once in
    let within' = subst (AreBelow (length c.args.sinks.now)) all c.requires.within in
    let frames = zips-append Is front left row c.in-Some.frame (subst (λ (x : List SinkRow × List F). Zips Is x.0 x.1) (λ i. (e i, c.in-Some.ensures.items i)) c.requires.frames) in
    let long : length c.args.rows.now ≡ length front + 1 = ap length e ∙ length-append front (row ∷ []) in
    let r = c.requires.room in
    let d = c.decreases in (
      omega arith,
      (
        within.0,
        (
          within.1.0,
          (
            within.1.1.0,
            (
              within.1.1.1,
              (
                frames.0,
                (
                  distinct_front (places_of front) row.places.items once,
                  (all_front (λ p. p < length c.args.sinks.now) (places_of front) row.places.items within', (c.requires.none, omega arith)),
                ),
              ),
            ),
          ),
        ),
      ),
    )

pub runner_of-requires-clause-frame : goal.runner_of-requires-clause-frame
runner_of-requires-clause-frame g t c =
    let S = AgentSink g.row.R.Denot g.row.A.Denot g.row.B.Denot in
    let Q = Runner S g.row.N.Denot in
    let F = Frame S g.row.N.Denot in
    let e = c.in-Some-split_last.ensures.cases.0 in
    let front = c.in-Some-split_last.front.now in
    let row = c.in-Some-split_last.row.now in
    let left = c.pop.new.self.items in
    let Is = IsFrameOf {S = S} {N = g.row.N.Denot} c.args.groups.now in
    let all : places_of c.args.rows.now ≡ places_of front ++ row.places.items = ap places_of e ∙ flat-append (λ (r : SinkRow). r.places.items) front row in
    let once = subst AreDistinct all c.requires.once in
    let within' = subst (AreBelow (length c.args.sinks.now)) all c.requires.within in
    let frames = zips-append Is front left row c.in-Some.frame (subst (λ (x : List SinkRow × List F). Zips Is x.0 x.1) (λ i. (e i, c.in-Some.ensures.items i)) c.requires.frames) in
    let long : length c.args.rows.now ≡ length front + 1 = ap length e ∙ length-append front (row ∷ []) in
    frames.1

pub runner_of-requires-clause-once : goal.runner_of-requires-clause-once
runner_of-requires-clause-once g t c =
    let S = AgentSink g.row.R.Denot g.row.A.Denot g.row.B.Denot in
    let Q = Runner S g.row.N.Denot in
    let F = Frame S g.row.N.Denot in
    let e = c.in-Some-split_last.ensures.cases.0 in
    let front = c.in-Some-split_last.front.now in
    let row = c.in-Some-split_last.row.now in
    let left = c.pop.new.self.items in
    let Is = IsFrameOf {S = S} {N = g.row.N.Denot} c.args.groups.now in
    let all : places_of c.args.rows.now ≡ places_of front ++ row.places.items = ap places_of e ∙ flat-append (λ (r : SinkRow). r.places.items) front row in
    let once = subst AreDistinct all c.requires.once in
    let within' = subst (AreBelow (length c.args.sinks.now)) all c.requires.within in
    let frames = zips-append Is front left row c.in-Some.frame (subst (λ (x : List SinkRow × List F). Zips Is x.0 x.1) (λ i. (e i, c.in-Some.ensures.items i)) c.requires.frames) in
    let long : length c.args.rows.now ≡ length front + 1 = ap length e ∙ length-append front (row ∷ []) in
    distinct_back (places_of front) row.places.items once

pub runner_of-requires-clause-within : goal.runner_of-requires-clause-within
runner_of-requires-clause-within g t c =
    let S = AgentSink g.row.R.Denot g.row.A.Denot g.row.B.Denot in
    let Q = Runner S g.row.N.Denot in
    let F = Frame S g.row.N.Denot in
    let e = c.in-Some-split_last.ensures.cases.0 in
    let front = c.in-Some-split_last.front.now in
    let row = c.in-Some-split_last.row.now in
    let left = c.pop.new.self.items in
    let Is = IsFrameOf {S = S} {N = g.row.N.Denot} c.args.groups.now in
    let all : places_of c.args.rows.now ≡ places_of front ++ row.places.items = ap places_of e ∙ flat-append (λ (r : SinkRow). r.places.items) front row in
    let once = subst AreDistinct all c.requires.once in
    let within' = subst (AreBelow (length c.args.sinks.now)) all c.requires.within in
    let frames = zips-append Is front left row c.in-Some.frame (subst (λ (x : List SinkRow × List F). Zips Is x.0 x.1) (λ i. (e i, c.in-Some.ensures.items i)) c.requires.frames) in
    let long : length c.args.rows.now ≡ length front + 1 = ap length e ∙ length-append front (row ∷ []) in
    subst (λ (n : ℕ). AreBelow n row.places.items) (sym c.group_sinks.ensures.others.many) (all_back (λ p. p < length c.args.sinks.now) (places_of front) row.places.items within')

pub push_reserved-requires : goal.push_reserved-requires
push_reserved-requires g t c =
    let S = AgentSink g.row.R.Denot g.row.A.Denot g.row.B.Denot in
    let Q = Runner S g.row.N.Denot in
    let F = Frame S g.row.N.Denot in
    let e = c.in-Some-split_last.ensures.cases.0 in
    let front = c.in-Some-split_last.front.now in
    let row = c.in-Some-split_last.row.now in
    let left = c.pop.new.self.items in
    let Is = IsFrameOf {S = S} {N = g.row.N.Denot} c.args.groups.now in
    let all : places_of c.args.rows.now ≡ places_of front ++ row.places.items = ap places_of e ∙ flat-append (λ (r : SinkRow). r.places.items) front row in
    let once = subst AreDistinct all c.requires.once in
    let within' = subst (AreBelow (length c.args.sinks.now)) all c.requires.within in
    let frames = zips-append Is front left row c.in-Some.frame (subst (λ (x : List SinkRow × List F). Zips Is x.0 x.1) (λ i. (e i, c.in-Some.ensures.items i)) c.requires.frames) in
    let long : length c.args.rows.now ≡ length front + 1 = ap length e ∙ length-append front (row ∷ []) in
    let many : length front ≡ length c.group_sinks.new.runners.items =
    zips_length (λ (r : SinkRow) (q : Q). ArePicked c.args.sinks.now r.places.items (members_of q)) front c.group_sinks.new.runners.items c.group_sinks.ensures.dealt in
    let room = c.requires.room in
    let kept = c.group_sinks.ensures.room in
    first_of (omega arith, search (rules, arith))

pub returns-clause-dealt : goal.returns-clause-dealt
returns-clause-dealt g t c =
    let S = AgentSink g.row.R.Denot g.row.A.Denot g.row.B.Denot in
    let Q = Runner S g.row.N.Denot in
    let F = Frame S g.row.N.Denot in
    let e = c.in-Some-split_last.ensures.cases.0 in
    let front = c.in-Some-split_last.front.now in
    let row = c.in-Some-split_last.row.now in
    let left = c.pop.new.self.items in
    let Is = IsFrameOf {S = S} {N = g.row.N.Denot} c.args.groups.now in
    let all : places_of c.args.rows.now ≡ places_of front ++ row.places.items = ap places_of e ∙ flat-append (λ (r : SinkRow). r.places.items) front row in
    let once = subst AreDistinct all c.requires.once in
    let within' = subst (AreBelow (length c.args.sinks.now)) all c.requires.within in
    let frames = zips-append Is front left row c.in-Some.frame (subst (λ (x : List SinkRow × List F). Zips Is x.0 x.1) (λ i. (e i, c.in-Some.ensures.items i)) c.requires.frames) in
    let long : length c.args.rows.now ≡ length front + 1 = ap length e ∙ length-append front (row ∷ []) in
    let old = c.args.sinks.now in
    let mid = c.group_sinks.new.sinks in
    let r = c.runner_of.result in
    let picked = picked_before (places_of front) row.places.items old mid (members_of r) c.group_sinks.ensures.others (distinct_apart (places_of front) row.places.items once) c.runner_of.ensures.picked in
    subst (λ (x : List SinkRow × List Q). AreDealt old x.0 x.1) (λ i. (sym e i, sym c.push_reserved.ensures.items i))
    (zips_push (λ (r : SinkRow) (q : Q). ArePicked old r.places.items (members_of q)) front c.group_sinks.new.runners.items row r c.group_sinks.ensures.dealt picked)

pub returns-clause-new_ones : goal.returns-clause-new_ones
returns-clause-new_ones g t c =
    let S = AgentSink g.row.R.Denot g.row.A.Denot g.row.B.Denot in
    let Q = Runner S g.row.N.Denot in
    let F = Frame S g.row.N.Denot in
    let e = c.in-Some-split_last.ensures.cases.0 in
    let front = c.in-Some-split_last.front.now in
    let row = c.in-Some-split_last.row.now in
    let left = c.pop.new.self.items in
    let Is = IsFrameOf {S = S} {N = g.row.N.Denot} c.args.groups.now in
    let all : places_of c.args.rows.now ≡ places_of front ++ row.places.items = ap places_of e ∙ flat-append (λ (r : SinkRow). r.places.items) front row in
    let once = subst AreDistinct all c.requires.once in
    let within' = subst (AreBelow (length c.args.sinks.now)) all c.requires.within in
    let frames = zips-append Is front left row c.in-Some.frame (subst (λ (x : List SinkRow × List F). Zips Is x.0 x.1) (λ i. (e i, c.in-Some.ensures.items i)) c.requires.frames) in
    let long : length c.args.rows.now ≡ length front + 1 = ap length e ∙ length-append front (row ∷ []) in
    subst (λ (x : List SinkRow × List Q). AreNewRunners c.args.groups.now x.0 x.1) (λ i. (sym e i, sym c.push_reserved.ensures.items i))
    (zips_push (λ (r : SinkRow) (q : Q). IsNewRunner c.args.groups.now r.group q) front c.group_sinks.new.runners.items row c.runner_of.result c.group_sinks.ensures.new_ones c.runner_of.ensures.new_one)

pub returns-clause-others : goal.returns-clause-others
returns-clause-others g t c =
    let S = AgentSink g.row.R.Denot g.row.A.Denot g.row.B.Denot in
    let Q = Runner S g.row.N.Denot in
    let F = Frame S g.row.N.Denot in
    let e = c.in-Some-split_last.ensures.cases.0 in
    let front = c.in-Some-split_last.front.now in
    let row = c.in-Some-split_last.row.now in
    let left = c.pop.new.self.items in
    let Is = IsFrameOf {S = S} {N = g.row.N.Denot} c.args.groups.now in
    let all : places_of c.args.rows.now ≡ places_of front ++ row.places.items = ap places_of e ∙ flat-append (λ (r : SinkRow). r.places.items) front row in
    let once = subst AreDistinct all c.requires.once in
    let within' = subst (AreBelow (length c.args.sinks.now)) all c.requires.within in
    let frames = zips-append Is front left row c.in-Some.frame (subst (λ (x : List SinkRow × List F). Zips Is x.0 x.1) (λ i. (e i, c.in-Some.ensures.items i)) c.requires.frames) in
    let long : length c.args.rows.now ≡ length front + 1 = ap length e ∙ length-append front (row ∷ []) in
    subst (λ (l : List ℕ). KeepsOthers l c.args.sinks.now c.runner_of.new.sinks) (sym all)
    (keeps_then (places_of front) row.places.items c.args.sinks.now c.group_sinks.new.sinks c.runner_of.new.sinks c.group_sinks.ensures.others c.runner_of.ensures.others)
