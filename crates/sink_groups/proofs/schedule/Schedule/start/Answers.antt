use Rattle.std.proofs.Common.{◌<◌, length, arith, ℕ}
use Rattle.std.proofs.lemmas.List.Elements.{All-nil, All-same, All-append, All-filter, All-take, All-drop}
use Rattle.sink_groups.specs.Scheduler.{is_due}
use Rattle.sink_groups.proofs.schedule.Schedule.start.Goals as goal

pub add_due-requires-2-clause-room : goal.add_due-requires-2-clause-room
add_due-requires-2-clause-room c =
    omega (arith, c.add_due.ensures.few, c.add_due.ensures.room, c.split_at.ensures.front_len, c.split_at.ensures.back_len)

pub invariant_of-self : goal.invariant_of-self
invariant_of-self c =
    let s = c.self.inside in
    let at = c.start_by-start.result in
    let P : ℕ → Type 0 = λ m. m < length s.members.items in
    let ranked = All-same P _ _ c.deref.ensures.value c.self.invariant.within in
    let back = All-same P _ _ c.split_at.ensures.back (All-drop P at c.deref.result.now ranked) in
    let front = All-same P _ _ c.split_at.ensures.front (All-take P at c.deref.result.now ranked) in
    let first = All-same P _ _ c.add_due.ensures.added (All-append P _ _ (All-same P _ _ c.clear.ensures.items (All-nil P)) (All-filter (is_due c.deref-2.result.now c.args.now) P _ back)) in
    record {
      some = c.self.invariant.some;
      each = c.self.invariant.each;
      within = c.self.invariant.within;
      starts = omega (arith, c.turn_after-self-inside.ensures.within);
      ordered = All-same P _ _ c.add_due-2.ensures.added (All-append P _ _ first (All-filter (is_due c.deref-3.result.now c.args.now) P _ front));
      fits = omega (arith, c.add_due.ensures.room, c.add_due-2.ensures.room);
    }
