use Rattle.std.proofs.Common.{◌≡◌, ◌∙◌, ℕ, List, Result, Ok, Err, IfOk, length, refl, sym, ap, subst}
use Rattle.std.proofs.lemmas.List.{length-replicate}
use Rattle.std.proofs.lemmas.Option.{slice_get_read}
use Rattle.sink_groups.specs.Scheduler.{Group, IsNew, fresh}
use Rattle.sink_groups.specs.declared.rules.GroupKind.{GroupKind}
use Rattle.grouped_sinks.specs.Frames.{IsNewGroup}
use Rattle.grouped_sinks.proofs.frame.schedule_of.Goals as goal

if_ok : {T E : Type 0} (r : Result T E) (P Q : T → Type 0) → ((x : T) → P x → Q x) → IfOk r P → IfOk r Q
if_ok (Ok x) P Q f is = f x is
if_ok (Err e) P Q f is = tt

pub returns-clause-new : goal.returns-clause-new
returns-clause-new c =
    let group = c.index-groups-at.result in
    let here = slice_get_read c.args.groups.now (length c.args.groups.now) c.args.at group refl c.requires.at c.index-groups-at.is in
    let same : c.in_ok-from_slice.field-0.items ≡ group.priorities.items = c.in_ok-from_slice.ensures.items ∙ c.as_slice.ensures.value in
    if_ok c.new.result (IsNew c.kind_of.result c.in_ok-from_slice.field-0.items group.penalty group.backoff) (IsNewGroup c.args.groups.now c.args.at)
    (λ s new. record {
      group = group;
      here = here;
      new = subst (λ (x : GroupKind × List ℕ). IsNew x.0 x.1 group.penalty group.backoff s) (λ i. (c.kind_of.ensures i, same i)) new;
    }) c.new.ensures

pub returns-clause-many : goal.returns-clause-many
returns-clause-many c =
    let group = c.index-groups-at.result in
    let here = slice_get_read c.args.groups.now (length c.args.groups.now) c.args.at group refl c.requires.at c.index-groups-at.is in
    let priorities = c.in_ok-from_slice.field-0.items in
    let same : priorities ≡ group.priorities.items = c.in_ok-from_slice.ensures.items ∙ c.as_slice.ensures.value in
    let many : length priorities ≡ c.args.many = ap length same ∙ c.requires.many group here in
    if_ok c.new.result (IsNew c.kind_of.result priorities group.penalty group.backoff) (λ (s : Group). c.args.many ≡ length s.members)
    (λ s new. sym many ∙ sym (length-replicate (length priorities) fresh) ∙ sym (ap length new.members)) c.new.ensures
