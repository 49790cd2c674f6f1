use Rattle.std.proofs.Common.{◌∙◌, ℕ, List, None, Some, sym, ap, subst, append-nil, string_bytes}
use Rattle.agent_plan.specs.declared.plan.StepPlan.{StepPlan}
use Rattle.plan_objects.specs.Named.{Claims}
use Rattle.plan_objects.specs.Asks.{Joined, asks_of_step, names_of, nearest}
use Rattle.plan_objects.proofs.Claiming.{joined_one, nearest_one}
use Rattle.plan_objects.proofs.steps.claim_step.Goals as goal

pub returns-in-Some-clause-joined : goal.returns-in-Some-clause-joined
returns-in-Some-clause-joined g c =
    let old = c.args.handed.now.steps.items in
    let new = c.claim_step.new.self.steps.items in
    let object = Some c.in-Some.object in
    let claims = subst (λ (n : List ℕ). Claims n old object new) c.as_str.ensures.value c.in-Some.ensures.steps in
    subst (λ (s : StepPlan). Joined (asks_of_step s) old new c.args.objects.now.items c.push_reserved.new.self.items) (sym c.in-Plugin.is)
    (joined_one (record { name = Some (string_bytes c.in-Plugin.name); line = c.in-Plugin.line }) old new c.args.objects.now.items c.push_reserved.new.self.items object claims c.push_reserved.ensures.items)

pub returns-in-Some-clause-first : goal.returns-in-Some-clause-first
returns-in-Some-clause-first g c =
    let old = c.args.handed.now.steps.items in
    let new = c.claim_step.new.self.steps.items in
    let object = Some c.in-Some.object in
    let claims = subst (λ (n : List ℕ). Claims n old object new) c.as_str.ensures.value c.in-Some.ensures.steps in
    sym (ap (λ (s : StepPlan). nearest c.args.first (names_of old) (asks_of_step s)) c.in-Plugin.is
    ∙ nearest_one (record { name = Some (string_bytes c.in-Plugin.name); line = c.in-Plugin.line }) old new object c.args.first claims)

pub returns-in-None-clause-joined : goal.returns-in-None-clause-joined
returns-in-None-clause-joined g c =
    let old = c.args.handed.now.steps.items in
    let new = c.claim_step.new.self.steps.items in
    let objects = c.args.objects.now.items in
    let claims = subst (λ (n : List ℕ). Claims n old None new) c.as_str.ensures.value c.in-None.ensures.steps in
    subst (λ (s : StepPlan). Joined (asks_of_step s) old new objects objects) (sym c.in-Plugin.is)
    (joined_one (record { name = Some (string_bytes c.in-Plugin.name); line = c.in-Plugin.line }) old new objects objects None claims (sym (append-nil objects)))

pub returns-in-None-clause-first : goal.returns-in-None-clause-first
returns-in-None-clause-first g c =
    let old = c.args.handed.now.steps.items in
    let new = c.claim_step.new.self.steps.items in
    let claims = subst (λ (n : List ℕ). Claims n old None new) c.as_str.ensures.value c.in-None.ensures.steps in
    c.nearer.ensures
    ∙ sym (ap (λ (s : StepPlan). nearest c.args.first (names_of old) (asks_of_step s)) c.in-Plugin.is
    ∙ nearest_one (record { name = Some (string_bytes c.in-Plugin.name); line = c.in-Plugin.line }) old new None c.args.first claims)
