use Rattle.std.proofs.Common.{rules, ◌≡◌, ◌∙◌, ◌<◌, ◌∷◌, ℕ, List, [], Bool, true, false, not, All, Some, length, refl, sym, ap, subst, arith}
use Rattle.std.proofs.lemmas.List.Elements.{All-head, All-tail}
use Rattle.std.proofs.lemmas.Option.{slice_get_read}
use Rattle.agent_plan.specs.declared.plan.GroupPlan.{GroupPlan}
use Rattle.grouped_sinks.specs.Rows.{AddsIf, IsOfGroup, is_empty}
use Rattle.grouped_sinks.proofs.Limits.{all_there}
use Rattle.grouped_sinks.proofs.Placing.{no_sinks}
use Rattle.grouped_sinks.proofs.row.add_group.Goals as goal

empty_of : (places : List ℕ) → length places ≡ 0 → not (is_empty places) ≡ false
empty_of [] none = refl
empty_of (p ∷ places) none = absurd (omega (arith, none))

some_of : (places others : List ℕ) (first : ℕ) → places ≡ first ∷ others → not (is_empty places) ≡ true
some_of places others first is = ap (λ (l : List ℕ). not (is_empty l)) is

pub returns-in_default : goal.returns-in_default
returns-in_default c =
    let group = c.index-groups-at.result in
    let here = slice_get_read c.args.groups.now (length c.args.groups.now) c.args.at group refl c.requires.at c.index-groups-at.is in
    let none = no_sinks c.args.groups.now c.args.at group here ∙ empty_of group.sinks.items (sym (ap length c.deref.ensures.value) ∙ c.in_default.ensures.cases) in
    subst (λ (b : Bool). AddsIf (IsOfGroup c.args.sinks.now c.args.groups.now c.args.at) b c.args.rows.now.items c.args.rows.now.items) (sym none) refl

pub channel_at-requires : goal.channel_at-requires
channel_at-requires c =
    let group = c.index-groups-at.result in
    let here = slice_get_read c.args.groups.now (length c.args.groups.now) c.args.at group refl c.requires.at c.index-groups-at.is in
    let Below : ℕ → Type 0 = λ place. place < length c.args.sinks.now in
    let all = all_there (λ (g : GroupPlan). All Below g.sinks.items) c.args.groups.now c.args.at group c.requires.there here in
    All-head Below c.in-Some.first.now c.in-Some.others.now (subst (All Below) (sym c.deref.ensures.value ∙ c.in-Some.ensures.cases.0) all)

pub least_batch-requires-clause-first : goal.least_batch-requires-clause-first
least_batch-requires-clause-first c =
    let group = c.index-groups-at.result in
    let here = slice_get_read c.args.groups.now (length c.args.groups.now) c.args.at group refl c.requires.at c.index-groups-at.is in
    let Below : ℕ → Type 0 = λ place. place < length c.args.sinks.now in
    let all = all_there (λ (g : GroupPlan). All Below g.sinks.items) c.args.groups.now c.args.at group c.requires.there here in
    All-head Below c.in-Some.first.now c.in-Some.others.now (subst (All Below) (sym c.deref.ensures.value ∙ c.in-Some.ensures.cases.0) all)

pub least_batch-requires-clause-others : goal.least_batch-requires-clause-others
least_batch-requires-clause-others c =
    let group = c.index-groups-at.result in
    let here = slice_get_read c.args.groups.now (length c.args.groups.now) c.args.at group refl c.requires.at c.index-groups-at.is in
    let Below : ℕ → Type 0 = λ place. place < length c.args.sinks.now in
    let all = all_there (λ (g : GroupPlan). All Below g.sinks.items) c.args.groups.now c.args.at group c.requires.there here in
    All-tail Below c.in-Some.first.now c.in-Some.others.now (subst (All Below) (sym c.deref.ensures.value ∙ c.in-Some.ensures.cases.0) all)

pub returns : goal.returns
returns c =
    let group = c.index-groups-at.result in
    let here = slice_get_read c.args.groups.now (length c.args.groups.now) c.args.at group refl c.requires.at c.index-groups-at.is in
    let split = sym c.deref.ensures.value ∙ c.in-Some.ensures.cases.0 in
    let some = no_sinks c.args.groups.now c.args.at group here ∙ some_of group.sinks.items c.in-Some.others.now c.in-Some.first.now split in
    subst (λ (b : Bool). AddsIf (IsOfGroup c.args.sinks.now c.args.groups.now c.args.at) b c.args.rows.now.items c.push.new.self.items) (sym some) (
      record {
        component = c.in_ok-component.component;
        channel = c.channel_at.result;
        batch = c.least_batch.result;
        places = c.in_ok-places.places;
        group = Some c.args.at;
      },
      record {
        group = group;
        here = here;
        component = search rules;
        places = search rules;
        first = c.in-Some.first.now;
        others = c.in-Some.others.now;
        split = split;
        channel = c.channel_at.ensures;
        batch = c.least_batch.ensures;
        grouped = refl;
      },
      c.in_ok-push.ensures.items,
    )
