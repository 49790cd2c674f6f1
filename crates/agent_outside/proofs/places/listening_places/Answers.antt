use Rattle.std.proofs.Common.{◌∙◌, ℕ, List, ◌++◌, All, sym, ap, subst, replicate, take}
use Rattle.std.proofs.lemmas.List.{take_all}
use Rattle.agent_plan.specs.declared.plan.SourcePlan.{SourcePlan}
use Rattle.agent_outside.specs.Ends.{ListensAt, listeners_of, places}
use Rattle.agent_outside.proofs.Placing.{places_listen, places_next}
use Rattle.agent_outside.proofs.places.listening_places.Goals as goal

pub loop-place-preserved : goal.loop-place-preserved
loop-place-preserved c =
    let sources = c.args.sources.now in
    let place = c.loop-place.place in
    let source = c.index-sources-place in
    c.in_ok-add_places.ensures ∙ ap (λ (l : List ℕ). l ++ replicate c.listeners_of.result place) c.loop-place.invariant
    ∙ ap (λ (n : ℕ). places 0 (take place sources) ++ replicate n place) (c.listeners_of.ensures ∙ ap (λ (s : SourcePlan). listeners_of s) source.is)
    ∙ sym (places_next listeners_of sources place source.result c.loop-place-test.true)

pub returns-clause-listen : goal.returns-clause-listen
returns-clause-listen c =
    let sources = c.args.sources.now in
    let order = c.loop-place.invariant ∙ ap (places 0) (take_all c.loop-place.place sources c.loop-place-test.false) in
    subst (All (ListensAt sources)) (sym order) (places_listen sources)
