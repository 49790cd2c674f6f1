use Rattle.std.proofs.Common.{rules, ◌≡◌, ◌∙◌, ◌<◌, ◌+◌, ◌++◌, ◌∷◌, ℕ, List, [], length, sym, ap, subst, arith}
use Rattle.std.proofs.lemmas.List.{length-append}
use Rattle.agent_sinks.specs.declared.sink.AgentSink.{AgentSink}
use Rattle.grouped_sinks.specs.Picks.{AreDealt, ArePicked, HaveMembers, KeepsOthers}
use Rattle.grouped_sinks.specs.Rows.{AreBelow, places_of}
use Rattle.plan_laws.specs.Once.{AreDistinct}
use Rattle.grouped_sinks.specs.Runners.{members_of}
use Rattle.grouped_sinks.specs.declared.row.SinkRow.{SinkRow}
use Rattle.grouped_sinks.specs.declared.runner.Runner.{Runner}
use Rattle.grouped_sinks.proofs.Picking.{all_back, all_front, apart_turned, dealt_kept, distinct_apart, distinct_back, distinct_front, flat-append, keeps_then, zips-append, zips_none, zips_push}
use Rattle.grouped_sinks.proofs.grouping.+ungroup_sinks.Goals as goal

pub returns-in_default-clause-dealt : goal.returns-in_default-clause-dealt
returns-in_default-clause-dealt g t c =
    let S = AgentSink g.row.R.Denot g.row.A.Denot g.row.B.Denot in
    let Q = Runner S g.row.N.Denot in
    let none : c.args.runners.items ≡ [] = search rules in
    let rows : c.args.rows.now ≡ [] = zips_none (λ (row : SinkRow) (r : Q). length row.places.items ≡ length (members_of r)) c.args.rows.now c.args.runners.items c.requires.members none in
    subst (λ (x : List SinkRow × List Q). AreDealt c.args.sinks.now x.0 x.1) (λ i. (sym rows i, sym none i)) tt

pub ungroup_sinks-requires : goal.ungroup_sinks-requires
ungroup_sinks-requires g t c κs within =
    let S = AgentSink g.row.R.Denot g.row.A.Denot g.row.B.Denot in
    let Q = Runner S g.row.N.Denot in
    let e = c.in-Some-split_last.ensures.cases.0 in
    let front = c.in-Some-split_last.front.now in
    let row = c.in-Some-split_last.row.now in
    let left = c.pop.new.self.items in
    let long : length c.args.rows.now ≡ length front + 1 = ap length e ∙ length-append front (row ∷ []) in
    let all : places_of c.args.rows.now ≡ places_of front ++ row.places.items = ap places_of e ∙ flat-append (λ (r : SinkRow). r.places.items) front row in
    let members = subst (λ (x : List SinkRow × List Q). HaveMembers x.0 x.1) (λ i. (e i, c.in-Some.ensures.items i)) c.requires.members in
    let d = c.decreases in (
      omega arith,
      (
        within.0,
        (
          within.1.0,
          (
            within.1.1.0,
            (
              within.1.1.1,
              (
                (zips-append (λ (row : SinkRow) (r : Q). length row.places.items ≡ length (members_of r)) front left row c.in-Some.runner members).0,
                (
                  distinct_front (places_of front) row.places.items (subst AreDistinct all c.requires.once),
                  all_front (λ p. p < length c.args.sinks.now) (places_of front) row.places.items (subst (AreBelow (length c.args.sinks.now)) all c.requires.within),
                ),
              ),
            ),
          ),
        ),
      ),
    )

pub put_runner-requires-clause-many : goal.put_runner-requires-clause-many
put_runner-requires-clause-many g t c =
    let S = AgentSink g.row.R.Denot g.row.A.Denot g.row.B.Denot in
    let Q = Runner S g.row.N.Denot in
    let e = c.in-Some-split_last.ensures.cases.0 in
    let members = subst (λ (x : List SinkRow × List Q). HaveMembers x.0 x.1) (λ i. (e i, c.in-Some.ensures.items i)) c.requires.members in
    ap length c.as_slice.ensures.value
    ∙ (zips-append (λ (row : SinkRow) (r : Q). length row.places.items ≡ length (members_of r)) c.in-Some-split_last.front.now c.pop.new.self.items c.in-Some-split_last.row.now c.in-Some.runner members).1

pub put_runner-requires-clause-once : goal.put_runner-requires-clause-once
put_runner-requires-clause-once g t c =
    let e = c.in-Some-split_last.ensures.cases.0 in
    let front = c.in-Some-split_last.front.now in
    let row = c.in-Some-split_last.row.now in
    let all : places_of c.args.rows.now ≡ places_of front ++ row.places.items = ap places_of e ∙ flat-append (λ (r : SinkRow). r.places.items) front row in
    subst AreDistinct (sym c.as_slice.ensures.value) (distinct_back (places_of front) row.places.items (subst AreDistinct all c.requires.once))

pub put_runner-requires-clause-within : goal.put_runner-requires-clause-within
put_runner-requires-clause-within g t c =
    let e = c.in-Some-split_last.ensures.cases.0 in
    let front = c.in-Some-split_last.front.now in
    let row = c.in-Some-split_last.row.now in
    let all : places_of c.args.rows.now ≡ places_of front ++ row.places.items = ap places_of e ∙ flat-append (λ (r : SinkRow). r.places.items) front row in
    let below = all_back (λ p. p < length c.args.sinks.now) (places_of front) row.places.items (subst (AreBelow (length c.args.sinks.now)) all c.requires.within) in
    subst (λ (x : ℕ × List ℕ). AreBelow x.0 x.1) (λ i. (sym c.ungroup_sinks.ensures.others.many i, sym c.as_slice.ensures.value i)) below

pub returns-clause-dealt : goal.returns-clause-dealt
returns-clause-dealt g t c =
    let S = AgentSink g.row.R.Denot g.row.A.Denot g.row.B.Denot in
    let Q = Runner S g.row.N.Denot in
    let e = c.in-Some-split_last.ensures.cases.0 in
    let front = c.in-Some-split_last.front.now in
    let row = c.in-Some-split_last.row.now in
    let left = c.pop.new.self.items in
    let mid = c.ungroup_sinks.new.sinks in
    let new = c.put_runner.new.sinks in
    let all : places_of c.args.rows.now ≡ places_of front ++ row.places.items = ap places_of e ∙ flat-append (λ (r : SinkRow). r.places.items) front row in
    let apart = apart_turned (places_of front) row.places.items (distinct_apart (places_of front) row.places.items (subst AreDistinct all c.requires.once)) in
    let others = subst (λ (l : List ℕ). KeepsOthers l mid new) c.as_slice.ensures.value c.put_runner.ensures.others in
    let picked = subst (λ (l : List ℕ). ArePicked new l (members_of c.in-Some.runner)) c.as_slice.ensures.value c.put_runner.ensures.picked in
    subst (λ (x : List SinkRow × List Q). AreDealt new x.0 x.1) (λ i. (sym e i, sym c.in-Some.ensures.items i))
    (zips_push (λ (r : SinkRow) (q : Q). ArePicked new r.places.items (members_of q)) front left row c.in-Some.runner
    (dealt_kept row.places.items mid new front left others apart c.ungroup_sinks.ensures.dealt) picked)

pub returns-clause-others : goal.returns-clause-others
returns-clause-others g t c =
    let e = c.in-Some-split_last.ensures.cases.0 in
    let front = c.in-Some-split_last.front.now in
    let row = c.in-Some-split_last.row.now in
    let mid = c.ungroup_sinks.new.sinks in
    let new = c.put_runner.new.sinks in
    let all : places_of c.args.rows.now ≡ places_of front ++ row.places.items = ap places_of e ∙ flat-append (λ (r : SinkRow). r.places.items) front row in
    let others = subst (λ (l : List ℕ). KeepsOthers l mid new) c.as_slice.ensures.value c.put_runner.ensures.others in
    subst (λ (l : List ℕ). KeepsOthers l c.args.sinks.now new) (sym all) (keeps_then (places_of front) row.places.items c.args.sinks.now mid new c.ungroup_sinks.ensures.others others)
