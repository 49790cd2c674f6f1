use Rattle.std.proofs.Common.{rules, ◌≡◌, ◌<◌, ◌≤◌, ◌-◌, ◌^◌, ℕ, length, None, Some, arith, refl, sym, ◌∙◌, subst}
use Rattle.std.specs.Prelude.{IsSome}
use Rattle.flume_host.specs.declared.names.FileName.TheVariants.{Log}
use Rattle.channel_face.specs.declared.replies.OpenCause.{OpenCause}
use Rattle.channel_writing.specs.Folders.{IsLastLog, Refuses, last_file}
use Rattle.channel_writing.proofs.Opening.{check_maps, log_maps, of_refused, over_maps}
use Rattle.file_channel.proofs.Replaying.{as_many, has_ring, ring_places}
use Rattle.file_channel.proofs.opening.read_folder.Goals as goal

pub returns-in-Err-clause-refused : goal.returns-in-Err-clause-refused
returns-in-Err-clause-refused g c = λ t told.
    let e = c.in-Err.ensures in
    let refused = c.in-Err.refused in
    subst (λ (x : OpenCause). Refuses t.reads c.args.capacity x) (sym c.of_opening.ensures)
    (of_refused t.reads c.args.capacity refused (check_maps refused _ _ (λ file at bad. bad t told) e.bad_check) (log_maps refused _ _ (λ file at bad. bad t told) e.bad_log) (over_maps refused _ _ (λ count over. (over.0, over.1 t told)) e.over))

pub returns-then-last-clause-refused : goal.returns-then-last-clause-refused
returns-then-last-clause-refused g c = λ t told.
    let opened = c.in-Ok.ensures.opened t told in
    let read : g.D.Disk.told c.open_newest.new.disk ≡ Some t = c.in-Ok.ensures.same ∙ told in
    let measured : g.D.Disk.told c.measure_logs.new.disk ≡ Some t = c.in-Ok-measure_logs.ensures.same ∙ read in
    let r = c.in-Ok.opened.replayed in
    let counted : g.D.Disk.told c.next_check.new.disk ≡ Some t = c.in-Ok-next_check.ensures.same ∙ measured in
    let last : IsLastLog t.reads (Some c.in-Ok-Some.last) = rw c.in-Ok-Some.field-0-is at (c.in-Ok-Some.ensures.last t counted) in
    let items = opened.left.items in
    let few : length items ≤ c.args.capacity = omega (arith, c.in-Ok.ensures.ready.within, as_many (ring_places r.ring.live items) r.ring.live items (has_ring t.reads r.ring.live items opened.items) c.in-Ok.ensures.ready.free) in
    (refl, (opened.left, r.next.txn, opened.recovers, few), subst (λ (n : ℕ). IsSome (t.reads (Log n))) c.if-last.true last.0)

pub returns-in-Ok-None-clause-replays : goal.returns-in-Ok-None-clause-replays
returns-in-Ok-None-clause-replays g c = λ t told.
    let read : g.D.Disk.told c.open_newest.new.disk ≡ Some t = c.in-Ok.ensures.same ∙ told in
    let measured : g.D.Disk.told c.measure_logs.new.disk ≡ Some t = c.in-Ok-measure_logs.ensures.same ∙ read in
    let counted : g.D.Disk.told c.next_check.new.disk ≡ Some t = c.in-Ok-next_check.ensures.same ∙ measured in
    let last : IsLastLog t.reads None = rw c.in-Ok-None.field-0-is at (c.in-Ok-None.ensures.last t counted) in
    record { opened = c.in-Ok.ensures.opened t told; last = last last_file; short = c.in-Ok-measure_logs.ensures.short t read }

pub returns-else-last-clause-replays : goal.returns-else-last-clause-replays
returns-else-last-clause-replays g c = λ t told.
    let read : g.D.Disk.told c.open_newest.new.disk ≡ Some t = c.in-Ok.ensures.same ∙ told in
    let measured : g.D.Disk.told c.measure_logs.new.disk ≡ Some t = c.in-Ok-measure_logs.ensures.same ∙ read in
    let counted : g.D.Disk.told c.next_check.new.disk ≡ Some t = c.in-Ok-next_check.ensures.same ∙ measured in
    let last : IsLastLog t.reads (Some c.in-Ok-Some.last) = rw c.in-Ok-Some.field-0-is at (c.in-Ok-Some.ensures.last t counted) in
    let less : c.in-Ok-Some.last < 2 ^ 32 - 1 = search rules in
    record { opened = c.in-Ok.ensures.opened t told; last = last.1 last_file less; short = c.in-Ok-measure_logs.ensures.short t read }

pub returns-in-Ok-None-clause-check : goal.returns-in-Ok-None-clause-check
returns-in-Ok-None-clause-check g c = λ t told.
    let read : g.D.Disk.told c.open_newest.new.disk ≡ Some t = c.in-Ok.ensures.same ∙ told in
    c.in-Ok-next_check.ensures.next t (c.in-Ok-measure_logs.ensures.same ∙ read)

pub returns-else-last-clause-check : goal.returns-else-last-clause-check
returns-else-last-clause-check g c = λ t told.
    let read : g.D.Disk.told c.open_newest.new.disk ≡ Some t = c.in-Ok.ensures.same ∙ told in
    c.in-Ok-next_check.ensures.next t (c.in-Ok-measure_logs.ensures.same ∙ read)
