use Rattle.std.proofs.Common.{rules, ◌≡◌, ◌∙◌, List, ap, Option}
use Rattle.std.proofs.lemmas.Result.{err_from_is_err_and}
use Rattle.world_laws.specs.World.{Attempt, Node}
use Rattle.hop_core.specs.contracts.node.Node.{the_view}
use Rattle.hop_core.proofs.node.Node.begin_take.Goals as goal

pub returns-in_err-push : goal.returns-in_err-push
returns-in_err-push c =
    let node : Node = the_view c.self.inside in
    let told = err_from_is_err_and c.from_residual-in_err-push.result c.from_residual-in_err-push.ensures.1 in
    let same : c.push.new.self.items ≡ node.attempts = search rules in
    rw (told.1) (ap (λ (all : List (Option Attempt)). record node { attempts = all }) same ∙ c.self.view_is)
