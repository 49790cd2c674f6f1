use Rattle.std.proofs.Common.{◌≤◌, [], ◌∷◌, length, refl, sym, subst}
use Rattle.agent_plan.specs.declared.plan.StepPlan.{StepPlan}
use Rattle.chain_plan.specs.declared.plan.LinkPlan.TheVariants.{Boxed}
use Rattle.plan_objects.specs.Asks.{asks_of_step}
use Rattle.agent_drafts.specs.Drafts.{IsLink}
use Rattle.agent_drafts.proofs.Dealing.{first_gone}
use Rattle.agent_drafts.proofs.links.link.Goals as goal

pub returns-in-Plugin : goal.returns-in-Plugin
returns-in-Plugin g c =
    let old = c.args.objects.now.items in
    let object = c.remove.result in
    let some = subst (λ (s : StepPlan). length (asks_of_step s) ≤ length old) c.in-Plugin.is c.requires in (
      object ∷ [],
      first_gone old c.remove.new.self.items object some c.remove.ensures.value c.remove.ensures.by_index.2,
      subst (λ (s : StepPlan). IsLink s (object ∷ []) (Boxed object)) (sym c.in-Plugin.is) refl,
    )
