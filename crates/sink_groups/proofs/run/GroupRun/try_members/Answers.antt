use Rattle.std.proofs.Common.{◌<◌, ◌∙◌, ◌++◌, ◌∷◌, [], List, ℕ, ap, sym, refl, length, arith, append_assoc, set, Err}
use Rattle.std.proofs.lemmas.Option.{slice_get_read}
use Rattle.plug_in.specs.declared.sink.SinkRefused.TheVariants as sink
use Rattle.sink_groups.specs.Scheduler.{Group}
use Rattle.sink_groups.specs.Deliveries.{Handed}
use Rattle.sink_groups.proofs.Tries.{refused_more, failed_next, sum_later}
use Rattle.sink_groups.proofs.run.GroupRun.try_members.Goals as goal

pub loop-member-preserved : goal.loop-member-preserved
loop-member-preserved g c =
    let member = c.in-Some.member in
    let so_far = c.loop-member.invariant in
    let members = c.loop-member.self.members.items in
    let was = c.index_mut.result.now in
    let is = c.deliver.new.self in
    let within : member < length members = omega (arith, c.in-Some.ensures.within, ap (λ (x : Group). length x.members) c.in-Some.ensures.same, c.loop-member.self.one_each) in
    let failed = failed_next c.args.self.now.schedule c.loop-member.self.schedule c.next.new.self c.report-in-Err-Refused.new.self so_far.front member c.args.now so_far.group c.in-Some.ensures.same c.report-in-Err-Refused.ensures.group in
    let handed : Handed g.S.EventSink.delivers c.args.batch.now c.args.now member (Err sink.Refused) members (set members member is) = record {
      was = was;
      is = is;
      here = slice_get_read members (length members) member was refl within c.index_mut.ensures.value;
      answered = rw c.in-Err-Refused.field-0-is at c.in-Err-Refused.ensures.done;
      members = refl;
    } in
    record {
      front = so_far.front ++ member ∷ [];
      split = so_far.split ∙ ap (λ (l : List ℕ). so_far.front ++ l) c.in-Some.ensures.next ∙ sym (append_assoc so_far.front (member ∷ []) c.next.new.self.due) ∙ ap (λ (l : List ℕ). (so_far.front ++ member ∷ []) ++ l) (sym failed.due);
      refused = refused_more g.S.EventSink.delivers c.args.batch.now c.args.now member so_far.front c.args.self.now.members.items members (set members member is) so_far.refused handed;
      group = failed.group;
      later = omega (arith, so_far.later, sum_later g.S.EventSink.faults members member was is within c.index_mut.ensures.value c.in-Err-Refused.ensures.later);
    }
