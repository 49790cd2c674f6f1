use Rattle.std.proofs.Common.{◌≡◌, ◌∙◌, ◌<◌, ◌+◌, ◌∷◌, ℕ, List, [], Some, length, set, slice_get, sym, ap, subst, arith}
use Rattle.std.proofs.lemmas.List.{length-append}
use Rattle.agent_sinks.specs.declared.sink.AgentSink.{AgentSink}
use Rattle.grouped_sinks.specs.Picks.{ArePicked, KeepsOthers}
use Rattle.grouped_sinks.specs.Rows.{AreBelow}
use Rattle.plan_laws.specs.Once.{AreDistinct}
use Rattle.grouped_sinks.proofs.Picking.{all_back, all_front, apart_turned, distinct_apart, distinct_front, keeps_set, keeps_then, picked_kept, set_there, zips_push}
use Rattle.grouped_sinks.proofs.grouping.+put_sinks.Goals as goal

pub put_sinks-requires : goal.put_sinks-requires
put_sinks-requires g t c κs within =
    let e = c.in-Some-split_last.ensures.cases.0 in
    let front = c.in-Some-split_last.front.now in
    let place = c.in-Some-split_last.place.now in
    let long : length c.args.places.now ≡ length front + 1 = ap length e ∙ length-append front (place ∷ []) in
    let left : length c.args.members.items ≡ length c.pop.new.self.items + 1 = ap length c.in-Some.ensures.items ∙ length-append c.pop.new.self.items (c.in-Some.sink ∷ []) in
    let m = c.requires.many in
    let d = c.decreases in (
      omega arith,
      (
        within.0,
        (
          within.1.0,
          (
            within.1.1,
            (
              omega arith,
              (
                distinct_front front (place ∷ []) (subst AreDistinct e c.requires.once),
                all_front (λ p. p < length c.args.sinks.now) front (place ∷ []) (subst (AreBelow (length c.args.sinks.now)) e c.requires.within),
              ),
            ),
          ),
        ),
      ),
    )

pub returns-clause-picked : goal.returns-clause-picked
returns-clause-picked g t c =
    let S = AgentSink g.row.R.Denot g.row.A.Denot g.row.B.Denot in
    let e = c.in-Some-split_last.ensures.cases.0 in
    let front = c.in-Some-split_last.front.now in
    let place = c.in-Some-split_last.place.now in
    let left = c.pop.new.self.items in
    let sink = c.in-Some.sink in
    let mid = c.put_sinks.new.sinks in
    let new = set mid place sink in
    let below : place < length c.args.sinks.now = (all_back (λ p. p < length c.args.sinks.now) front (place ∷ []) (subst (AreBelow (length c.args.sinks.now)) e c.requires.within)).0 in
    let low : place < length mid = let m = c.put_sinks.ensures.others.many in omega (arith, below, m) in
    let apart = apart_turned front (place ∷ []) (distinct_apart front (place ∷ []) (subst AreDistinct e c.requires.once)) in
    subst (λ (x : List ℕ × List S). ArePicked new x.0 x.1) (λ i. (sym e i, sym c.in-Some.ensures.items i))
    (zips_push (λ (p : ℕ) (s : S). slice_get new p ≡ Some s) front left place sink
    (picked_kept (place ∷ []) front mid new left (keeps_set mid place sink) apart c.put_sinks.ensures.picked) (set_there mid place sink low))

pub returns-clause-others : goal.returns-clause-others
returns-clause-others g t c =
    let S = AgentSink g.row.R.Denot g.row.A.Denot g.row.B.Denot in
    let e = c.in-Some-split_last.ensures.cases.0 in
    let front = c.in-Some-split_last.front.now in
    let place = c.in-Some-split_last.place.now in
    let mid = c.put_sinks.new.sinks in
    let new = set mid place c.in-Some.sink in
    subst (λ (l : List ℕ). KeepsOthers l c.args.sinks.now new) (sym e)
    (keeps_then front (place ∷ []) c.args.sinks.now mid new c.put_sinks.ensures.others (keeps_set mid place c.in-Some.sink))
