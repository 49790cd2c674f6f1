use Rattle.std.proofs.Common.{◌≡◌, sym, ap, subst}
use Rattle.flume_host.specs.Folder.{Files, IsImage}
use Rattle.flume_host.specs.Told.{WhereTold}
use Rattle.channel_log.specs.Writer.{Writer}
use Rattle.channel_face.specs.Machine.{State}
use Rattle.checkpoint.specs.declared.place.Place.{Place}
use Rattle.checkpoint_places.specs.Texts.{started, text_of}
use Rattle.channel_laying.specs.Laying.{IsLaying}
use Rattle.file_channel.specs.Laid.{MayStand, end_of_log}
use Rattle.file_channel.specs.Placed.{Logged}
use Rattle.file_channel.proofs.Adding.{ok_then}
use Rattle.file_channel.proofs.Bare.{are_past, kept_needed, laid_as, may_lay_as, started_of, text_least}
use Rattle.file_channel.proofs.Needing.{Finds, needed_then}
use Rattle.file_channel.proofs.Leaving.{may_stand_after}
use Rattle.file_channel.proofs.laying.lay_places.Goals as goal

pub lay_checkpoint-laid-requires-clause-may : goal.lay_checkpoint-laid-requires-clause-may
lay_checkpoint-laid-requires-clause-may g c =
    let told = g.D.Disk.told c.args.writing.now.disk in
    let old : Logged = record { places = c.args.held.now; log = c.args.writing.now.log; busy = c.args.writing.now.busy } in
    let s : State = c.requires.bare.0 in
    let b = c.requires.bare.1 in (
      s,
      text_of (end_of_log old.log) old.places s,
      started s,
      may_lay_as told old s b.is b.whole b.staged b.empty c.args.number c.next-first.result c.next_of-next.result c.ring-ring.result.now c.table-table.result.now c.next-first.ensures c.next_of-next.ensures.is c.next_of-next.ensures.fits c.ring-ring.ensures.live c.ring-ring.ensures.few c.table-table.ensures.opened c.table-table.ensures.few (g.met.D.Disk.reads_are_left c.args.writing.now.disk) c.requires.unused,
    )

pub returns-clause-stands : goal.returns-clause-stands
returns-clause-stands g c = λ s b.
    let told = g.D.Disk.told c.args.writing.now.disk in
    let told' = g.D.Disk.told c.lay_checkpoint-laid.new.writing.disk in
    let old : Logged = record { places = c.args.held.now; log = c.args.writing.now.log; busy = c.args.writing.now.busy } in
    let e = c.lay_checkpoint-laid.ensures in
    let text = text_of (end_of_log old.log) old.places s in
    let may = may_lay_as told old s b.is b.whole b.staged b.empty c.args.number c.next-first.result c.next_of-next.result c.ring-ring.result.now c.table-table.result.now c.next-first.ensures c.next_of-next.ensures.is c.next_of-next.ensures.fits c.ring-ring.ensures.live c.ring-ring.ensures.few c.table-table.ensures.opened c.table-table.ensures.few (g.met.D.Disk.reads_are_left c.args.writing.now.disk) c.requires.unused in
    let reads = g.met.D.Disk.reads_are_left c.lay_checkpoint-laid.new.writing.disk in
    let place : Place = record { file = c.file.result; at = c.gate_at.result } in
    let finds : Finds place c.ring-ring.result.now c.table-table.result.now c.least_named-least.result = record { names = c.least_named-least.ensures.names; least_is = c.least_named-least.ensures.least } in
    let there : place ≡ end_of_log old.log = λ i. record { file = c.file.ensures i; at = c.gate_at.ensures.gate i } in
    let named = text_least told old s b.is (end_of_log old.log) c.next_of-next.result c.ring-ring.result.now c.table-table.result.now c.least_named-least.result may.says (subst (λ (p : Place). Finds p c.ring-ring.result.now c.table-table.result.now c.least_named-least.result) there finds) in
    let past = are_past told told' old s b.is b.whole c.args.number c.next_of-next.result c.ring-ring.result.now c.table-table.result.now text (started s) may (e.changes s text (started s) may) reads c.least_named-least.result named c.ring-ring.ensures.live c.table-table.ensures.opened in
    laid_as told told' old s c.args.number 3 (IsLaying text) c.lay_checkpoint-laid.new.writing.log c.lay_checkpoint-laid.new.writing.busy b.is b.whole b.staged b.empty c.least_named-least.result past (e.changes s text (started s) may) e.log e.busy (e.logged s text (started s) may)

pub returns-clause-any_moment : goal.returns-clause-any_moment
returns-clause-any_moment g c = λ s b.
    let told = g.D.Disk.told c.args.writing.now.disk in
    let old : Logged = record { places = c.args.held.now; log = c.args.writing.now.log; busy = c.args.writing.now.busy } in
    let may = may_lay_as told old s b.is b.whole b.staged b.empty c.args.number c.next-first.result c.next_of-next.result c.ring-ring.result.now c.table-table.result.now c.next-first.ensures c.next_of-next.ensures.is c.next_of-next.ensures.fits c.ring-ring.ensures.live c.ring-ring.ensures.few c.table-table.ensures.opened c.table-table.ensures.few (g.met.D.Disk.reads_are_left c.args.writing.now.disk) c.requires.unused in
    c.lay_checkpoint-laid.ensures.any_moment s (text_of (end_of_log old.log) old.places s) (started s) may

pub returns-clause-changes : goal.returns-clause-changes
returns-clause-changes g c =
    let told = g.D.Disk.told c.args.writing.now.disk in
    let old : Logged = record { places = c.args.held.now; log = c.args.writing.now.log; busy = c.args.writing.now.busy } in
    let s : State = c.requires.bare.0 in
    let b = c.requires.bare.1 in
    let text = text_of (end_of_log old.log) old.places s in
    let may = may_lay_as told old s b.is b.whole b.staged b.empty c.args.number c.next-first.result c.next_of-next.result c.ring-ring.result.now c.table-table.result.now c.next-first.ensures c.next_of-next.ensures.is c.next_of-next.ensures.fits c.ring-ring.ensures.live c.ring-ring.ensures.few c.table-table.ensures.opened c.table-table.ensures.few (g.met.D.Disk.reads_are_left c.args.writing.now.disk) c.requires.unused in
    (text, c.lay_checkpoint-laid.ensures.changes s text (started s) may)

pub returns-clause-laid : goal.returns-clause-laid
returns-clause-laid g c =
    ok_then c.lay_checkpoint-laid.result _ _
    (λ laid s b.
    let told = g.D.Disk.told c.args.writing.now.disk in
    let old : Logged = record { places = c.args.held.now; log = c.args.writing.now.log; busy = c.args.writing.now.busy } in
    let text = text_of (end_of_log old.log) old.places s in
    let may = may_lay_as told old s b.is b.whole b.staged b.empty c.args.number c.next-first.result c.next_of-next.result c.ring-ring.result.now c.table-table.result.now c.next-first.ensures c.next_of-next.ensures.is c.next_of-next.ensures.fits c.ring-ring.ensures.live c.ring-ring.ensures.few c.table-table.ensures.opened c.table-table.ensures.few (g.met.D.Disk.reads_are_left c.args.writing.now.disk) c.requires.unused in
    λ t now image left.
    let newest = (laid s text (started s) may t now).1 image left in
    record { text = text; start = started s; newest = newest.0; is = newest.1; place_is = ap end_of_log (sym c.lay_checkpoint-laid.ensures.log); of = started_of told old s b.is b.whole b.staged b.empty })
    c.lay_checkpoint-laid.ensures.laid

pub returns-clause-left : goal.returns-clause-left
returns-clause-left g c = λ s b.
    let told = g.D.Disk.told c.args.writing.now.disk in
    let told' = g.D.Disk.told c.lay_checkpoint-laid.new.writing.disk in
    let old : Logged = record { places = c.args.held.now; log = c.args.writing.now.log; busy = c.args.writing.now.busy } in
    let text = text_of (end_of_log old.log) old.places s in
    let may = may_lay_as told old s b.is b.whole b.staged b.empty c.args.number c.next-first.result c.next_of-next.result c.ring-ring.result.now c.table-table.result.now c.next-first.ensures c.next_of-next.ensures.is c.next_of-next.ensures.fits c.ring-ring.ensures.live c.ring-ring.ensures.few c.table-table.ensures.opened c.table-table.ensures.few (g.met.D.Disk.reads_are_left c.args.writing.now.disk) c.requires.unused in
    subst (λ (w : Writer). WhereTold told' (λ t. (image : Files) → IsImage t.now image → MayStand c.args.number (end_of_log w) s image)) (sym c.lay_checkpoint-laid.ensures.log)
    (may_stand_after told told' old.log old.busy c.args.number c.next_of-next.result c.ring-ring.result.now c.table-table.result.now s text (started s) may (c.lay_checkpoint-laid.ensures.changes s text (started s) may))

pub returns-clause-named : goal.returns-clause-named
returns-clause-named g c =
    let told = g.D.Disk.told c.args.writing.now.disk in
    let told' = g.D.Disk.told c.lay_checkpoint-laid.new.writing.disk in
    let old : Logged = record { places = c.args.held.now; log = c.args.writing.now.log; busy = c.args.writing.now.busy } in
    let e = c.lay_checkpoint-laid.ensures in
    let s : State = c.requires.bare.0 in
    let b = c.requires.bare.1 in
    let text = text_of (end_of_log old.log) old.places s in
    let may = may_lay_as told old s b.is b.whole b.staged b.empty c.args.number c.next-first.result c.next_of-next.result c.ring-ring.result.now c.table-table.result.now c.next-first.ensures c.next_of-next.ensures.is c.next_of-next.ensures.fits c.ring-ring.ensures.live c.ring-ring.ensures.few c.table-table.ensures.opened c.table-table.ensures.few (g.met.D.Disk.reads_are_left c.args.writing.now.disk) c.requires.unused in
    let reads = g.met.D.Disk.reads_are_left c.lay_checkpoint-laid.new.writing.disk in
    let place : Place = record { file = c.file.result; at = c.gate_at.result } in
    let finds : Finds place c.ring-ring.result.now c.table-table.result.now c.least_named-least.result = record { names = c.least_named-least.ensures.names; least_is = c.least_named-least.ensures.least } in
    let there : place ≡ end_of_log old.log = λ i. record { file = c.file.ensures i; at = c.gate_at.ensures.gate i } in
    let named = text_least told old s b.is (end_of_log old.log) c.next_of-next.result c.ring-ring.result.now c.table-table.result.now c.least_named-least.result may.says (subst (λ (p : Place). Finds p c.ring-ring.result.now c.table-table.result.now c.least_named-least.result) there finds) in
    ok_then c.lay_checkpoint-laid.result _ _ (λ laid t now. record { text = text; start = started s; is = ((laid s text (started s) may t now).1 t.reads (reads t now)).1; least = named }) e.laid

pub returns-clause-needed : goal.returns-clause-needed
returns-clause-needed g c =
    let told = g.D.Disk.told c.args.writing.now.disk in
    let told' = g.D.Disk.told c.lay_checkpoint-laid.new.writing.disk in
    let old : Logged = record { places = c.args.held.now; log = c.args.writing.now.log; busy = c.args.writing.now.busy } in
    let e = c.lay_checkpoint-laid.ensures in
    let s : State = c.requires.bare.0 in
    let b = c.requires.bare.1 in
    let text = text_of (end_of_log old.log) old.places s in
    let may = may_lay_as told old s b.is b.whole b.staged b.empty c.args.number c.next-first.result c.next_of-next.result c.ring-ring.result.now c.table-table.result.now c.next-first.ensures c.next_of-next.ensures.is c.next_of-next.ensures.fits c.ring-ring.ensures.live c.ring-ring.ensures.few c.table-table.ensures.opened c.table-table.ensures.few (g.met.D.Disk.reads_are_left c.args.writing.now.disk) c.requires.unused in
    let reads = g.met.D.Disk.reads_are_left c.lay_checkpoint-laid.new.writing.disk in
    let place : Place = record { file = c.file.result; at = c.gate_at.result } in
    let finds : Finds place c.ring-ring.result.now c.table-table.result.now c.least_named-least.result = record { names = c.least_named-least.ensures.names; least_is = c.least_named-least.ensures.least } in
    let there : place ≡ end_of_log old.log = λ i. record { file = c.file.ensures i; at = c.gate_at.ensures.gate i } in
    let named = text_least told old s b.is (end_of_log old.log) c.next_of-next.result c.ring-ring.result.now c.table-table.result.now c.least_named-least.result may.says (subst (λ (p : Place). Finds p c.ring-ring.result.now c.table-table.result.now c.least_named-least.result) there finds) in
    ok_then c.lay_checkpoint-laid.result _ _
    (λ laid. needed_then told told' old.log old.busy c.args.number c.next_of-next.result c.ring-ring.result.now c.table-table.result.now s text (started s) may (e.changes s text (started s) may) reads c.least_named-least.result named (λ u now. (laid s text (started s) may u now).0.left)) e.laid

pub returns-clause-kept : goal.returns-clause-kept
returns-clause-kept g c = λ laid needed.
    let told = g.D.Disk.told c.args.writing.now.disk in
    let told' = g.D.Disk.told c.lay_checkpoint-laid.new.writing.disk in
    let old : Logged = record { places = c.args.held.now; log = c.args.writing.now.log; busy = c.args.writing.now.busy } in
    let e = c.lay_checkpoint-laid.ensures in
    let s : State = c.requires.bare.0 in
    let b = c.requires.bare.1 in
    let text = text_of (end_of_log old.log) old.places s in
    let may = may_lay_as told old s b.is b.whole b.staged b.empty c.args.number c.next-first.result c.next_of-next.result c.ring-ring.result.now c.table-table.result.now c.next-first.ensures c.next_of-next.ensures.is c.next_of-next.ensures.fits c.ring-ring.ensures.live c.ring-ring.ensures.few c.table-table.ensures.opened c.table-table.ensures.few (g.met.D.Disk.reads_are_left c.args.writing.now.disk) c.requires.unused in
    let reads = g.met.D.Disk.reads_are_left c.lay_checkpoint-laid.new.writing.disk in
    kept_needed told told' old s b.is b.whole c.args.number c.next_of-next.result c.ring-ring.result.now c.table-table.result.now text (started s) may (e.changes s text (started s) may) reads (g.met.D.Disk.reads_are_left c.args.writing.now.disk) c.ring-ring.ensures.live c.table-table.ensures.opened laid needed
