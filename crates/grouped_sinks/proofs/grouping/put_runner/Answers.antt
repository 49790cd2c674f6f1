use Rattle.std.proofs.Common.{◌≡◌, ◌∙◌, ◌<◌, ◌∷◌, ℕ, List, [], length, get_or, set, sym, ap, subst}
use Rattle.agent_sinks.specs.declared.sink.AgentSink.{AgentSink}
use Rattle.grouped_sinks.specs.Picks.{ArePicked, KeepsOthers}
use Rattle.grouped_sinks.specs.Rows.{AreBelow}
use Rattle.grouped_sinks.specs.Runners.{members_of}
use Rattle.grouped_sinks.specs.declared.runner.Runner.{Runner}
use Rattle.grouped_sinks.proofs.Picking.{keeps_set, one_is, set_there}
use Rattle.grouped_sinks.proofs.grouping.put_runner.Goals as goal

pub returns-in-Alone-clause-picked : goal.returns-in-Alone-clause-picked
returns-in-Alone-clause-picked g c =
    let S = AgentSink g.row.R.Denot g.row.A.Denot g.row.B.Denot in
    let places = c.args.places.now in
    let sinks = c.args.sinks.now in
    let sink = c.in-Alone.sink in
    let p = get_or places 0 0 in
    let one : places ≡ p ∷ [] = one_is places (c.requires.many ∙ ap (λ (r : Runner S g.row.N.Denot). length (members_of r)) c.in-Alone.is) in
    let low : p < length sinks = (subst (AreBelow (length sinks)) one c.requires.within).0 in
    subst (λ (x : List ℕ × Runner S g.row.N.Denot). ArePicked (set sinks p sink) x.0 (members_of x.1)) (λ i. (sym one i, sym c.in-Alone.is i)) (set_there sinks p sink low, tt)

pub returns-in-Alone-clause-others : goal.returns-in-Alone-clause-others
returns-in-Alone-clause-others g c =
    let S = AgentSink g.row.R.Denot g.row.A.Denot g.row.B.Denot in
    let places = c.args.places.now in
    let sinks = c.args.sinks.now in
    let p = get_or places 0 0 in
    let one : places ≡ p ∷ [] = one_is places (c.requires.many ∙ ap (λ (r : Runner S g.row.N.Denot). length (members_of r)) c.in-Alone.is) in
    subst (λ (l : List ℕ). KeepsOthers l sinks (set sinks p c.in-Alone.sink)) (sym one) (keeps_set sinks p c.in-Alone.sink)
