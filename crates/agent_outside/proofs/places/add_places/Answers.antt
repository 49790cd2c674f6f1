use Rattle.std.proofs.Common.{◌∙◌, ℕ, List, [], ◌∷◌, ◌++◌, sym, ap, replicate, append_assoc}
use Rattle.agent_outside.proofs.Placing.{replicate_more}
use Rattle.agent_outside.proofs.places.add_places.Goals as goal

pub loop-turn-preserved : goal.loop-turn-preserved
loop-turn-preserved c =
    let place = c.args.place in
    let n = c.loop-turn._turn in
    c.in_ok-push.ensures.items ∙ ap (λ (l : List ℕ). l ++ place ∷ []) c.loop-turn.invariant
    ∙ append_assoc c.args.found.now.items (replicate n place) (place ∷ []) ∙ ap (λ (l : List ℕ). c.args.found.now.items ++ l) (sym (replicate_more n place))
