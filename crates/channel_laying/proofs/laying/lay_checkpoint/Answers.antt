use Rattle.std.proofs.Common.{arith}
use Rattle.checkpoint.specs.declared.place.Place.{Place}
use Rattle.checkpoint.specs.Says.{Says}
use Rattle.checkpoint.specs.Text.{check_bytes}
use Rattle.channel_laying.proofs.Laid.{kept_after, laid_logged, laid_newest, laying_moments, lays_alone, lays_both, text_is_right}
use Rattle.channel_laying.proofs.laying.lay_checkpoint.Goals as goal

pub lay-requires-clause-unused : goal.lay-requires-clause-unused
lay-requires-clause-unused g c = λ t is. c.requires.may.3.unused t is c.args.number (omega arith)

pub lay-requires-clause-right : goal.lay-requires-clause-right
lay-requires-clause-right g c = λ t is.
    let told = g.D.Disk.told c.args.writing.now.disk in
    let w = c.args.writing.now.log in
    let may = c.requires.may.3 in
    let place : Place = record { file = c.file.result; at = c.gate_at.result } in
    let says : Says place c.args.next c.args.ring.now c.args.table.now c.requires.may.1 = rw (c.file.ensures, c.gate_at.ensures.gate) may.says in
    (c.requires.may.1, says, text_is_right told w c.args.writing.now.busy c.args.number c.args.next c.args.ring.now c.args.table.now c.requires.may.0 c.requires.may.1 c.requires.may.2 may t is (g.met.D.Disk.reads_are_left c.args.writing.now.disk t is))

pub returns-in-Err-DiskFault-clause-any_moment : goal.returns-in-Err-DiskFault-clause-any_moment
returns-in-Err-DiskFault-clause-any_moment g c = λ s text start may.
    let told = g.D.Disk.told c.args.writing.now.disk in
    let w = c.args.writing.now.log in
    let laid = g.D.Disk.told c.lay.new.disk in
    laying_moments told w c.args.writing.now.busy c.args.number c.args.next c.args.ring.now c.args.table.now s text start may laid (lays_alone told laid c.args.number text c.lay.ensures.any_moment)

pub returns-in-Err-DiskFault-clause-logged : goal.returns-in-Err-DiskFault-clause-logged
returns-in-Err-DiskFault-clause-logged g c = λ s text start may.
    let told = g.D.Disk.told c.args.writing.now.disk in
    let w = c.args.writing.now.log in
    let laid = g.D.Disk.told c.lay.new.disk in
    laid_logged told w c.args.writing.now.busy c.args.number c.args.next c.args.ring.now c.args.table.now s text start may laid (lays_alone told laid c.args.number text c.lay.ensures.any_moment)

pub returns-in-Err-DiskFault-clause-changes : goal.returns-in-Err-DiskFault-clause-changes
returns-in-Err-DiskFault-clause-changes g c = λ s text start may.
    let told = g.D.Disk.told c.args.writing.now.disk in
    let w = c.args.writing.now.log in
    let laid = g.D.Disk.told c.lay.new.disk in
    lays_alone told laid c.args.number text c.lay.ensures.any_moment

pub open_gate-requires : goal.open_gate-requires
open_gate-requires g c = λ t is.
    let told = g.D.Disk.told c.args.writing.now.disk in
    let laid = g.D.Disk.told c.lay.new.disk in
    let place : Place = record { file = c.file.result; at = c.gate_at.result } in (
      check_bytes c.requires.may.1,
      kept_after told laid c.args.writing.now.log c.args.writing.now.busy c.args.number c.args.next c.args.ring.now c.args.table.now place c.file.ensures c.gate_at.ensures.gate (g.met.D.Disk.reads_are_left c.args.writing.now.disk) c.in-Ok.ensures.laid c.requires.may.0 c.requires.may.1 c.requires.may.2 c.requires.may.3 t is,
    )

pub returns-in-Ok-open_gate-clause-any_moment : goal.returns-in-Ok-open_gate-clause-any_moment
returns-in-Ok-open_gate-clause-any_moment g c = λ s text start may.
    let told = g.D.Disk.told c.args.writing.now.disk in
    let w = c.args.writing.now.log in
    let laid = g.D.Disk.told c.lay.new.disk in
    let opens = g.D.Disk.told c.open_gate.new.disk in
    let place : Place = record { file = c.file.result; at = c.gate_at.result } in
    let kept = kept_after told laid w c.args.writing.now.busy c.args.number c.args.next c.args.ring.now c.args.table.now place c.file.ensures c.gate_at.ensures.gate (g.met.D.Disk.reads_are_left c.args.writing.now.disk) c.in-Ok.ensures.laid s text start may in
    let changes = lays_both told laid opens c.args.number text c.lay.ensures.any_moment (c.open_gate.ensures.any_moment (check_bytes text) kept) in
    laying_moments told w c.args.writing.now.busy c.args.number c.args.next c.args.ring.now c.args.table.now s text start may opens changes

pub returns-in-Ok-open_gate-clause-logged : goal.returns-in-Ok-open_gate-clause-logged
returns-in-Ok-open_gate-clause-logged g c = λ s text start may.
    let told = g.D.Disk.told c.args.writing.now.disk in
    let w = c.args.writing.now.log in
    let laid = g.D.Disk.told c.lay.new.disk in
    let opens = g.D.Disk.told c.open_gate.new.disk in
    let place : Place = record { file = c.file.result; at = c.gate_at.result } in
    let kept = kept_after told laid w c.args.writing.now.busy c.args.number c.args.next c.args.ring.now c.args.table.now place c.file.ensures c.gate_at.ensures.gate (g.met.D.Disk.reads_are_left c.args.writing.now.disk) c.in-Ok.ensures.laid s text start may in
    let changes = lays_both told laid opens c.args.number text c.lay.ensures.any_moment (c.open_gate.ensures.any_moment (check_bytes text) kept) in
    laid_logged told w c.args.writing.now.busy c.args.number c.args.next c.args.ring.now c.args.table.now s text start may opens changes

pub returns-in-Ok-open_gate-clause-changes : goal.returns-in-Ok-open_gate-clause-changes
returns-in-Ok-open_gate-clause-changes g c = λ s text start may.
    let told = g.D.Disk.told c.args.writing.now.disk in
    let w = c.args.writing.now.log in
    let laid = g.D.Disk.told c.lay.new.disk in
    let opens = g.D.Disk.told c.open_gate.new.disk in
    let place : Place = record { file = c.file.result; at = c.gate_at.result } in
    let kept = kept_after told laid w c.args.writing.now.busy c.args.number c.args.next c.args.ring.now c.args.table.now place c.file.ensures c.gate_at.ensures.gate (g.met.D.Disk.reads_are_left c.args.writing.now.disk) c.in-Ok.ensures.laid s text start may in
    let changes = lays_both told laid opens c.args.number text c.lay.ensures.any_moment (c.open_gate.ensures.any_moment (check_bytes text) kept) in
    changes

pub returns-in-Ok-open_gate-clause-laid : goal.returns-in-Ok-open_gate-clause-laid
returns-in-Ok-open_gate-clause-laid g c = λ s text start may.
    let told = g.D.Disk.told c.args.writing.now.disk in
    let w = c.args.writing.now.log in
    let laid = g.D.Disk.told c.lay.new.disk in
    let opens = g.D.Disk.told c.open_gate.new.disk in
    let place : Place = record { file = c.file.result; at = c.gate_at.result } in
    let kept = kept_after told laid w c.args.writing.now.busy c.args.number c.args.next c.args.ring.now c.args.table.now place c.file.ensures c.gate_at.ensures.gate (g.met.D.Disk.reads_are_left c.args.writing.now.disk) c.in-Ok.ensures.laid s text start may in
    let changes = lays_both told laid opens c.args.number text c.lay.ensures.any_moment (c.open_gate.ensures.any_moment (check_bytes text) kept) in
    λ t is. let whole = c.in-Ok-open_gate.ensures.opened (check_bytes text) kept t is in (whole, laid_newest told w c.args.writing.now.busy c.args.number c.args.next c.args.ring.now c.args.table.now s text start may opens changes t is whole)

pub returns-in-Err-DiskFault-open_gate-clause-any_moment : goal.returns-in-Err-DiskFault-open_gate-clause-any_moment
returns-in-Err-DiskFault-open_gate-clause-any_moment g c = λ s text start may.
    let told = g.D.Disk.told c.args.writing.now.disk in
    let w = c.args.writing.now.log in
    let laid = g.D.Disk.told c.lay.new.disk in
    let opens = g.D.Disk.told c.open_gate.new.disk in
    let place : Place = record { file = c.file.result; at = c.gate_at.result } in
    let kept = kept_after told laid w c.args.writing.now.busy c.args.number c.args.next c.args.ring.now c.args.table.now place c.file.ensures c.gate_at.ensures.gate (g.met.D.Disk.reads_are_left c.args.writing.now.disk) c.in-Ok.ensures.laid s text start may in
    let changes = lays_both told laid opens c.args.number text c.lay.ensures.any_moment (c.open_gate.ensures.any_moment (check_bytes text) kept) in
    laying_moments told w c.args.writing.now.busy c.args.number c.args.next c.args.ring.now c.args.table.now s text start may opens changes

pub returns-in-Err-DiskFault-open_gate-clause-logged : goal.returns-in-Err-DiskFault-open_gate-clause-logged
returns-in-Err-DiskFault-open_gate-clause-logged g c = λ s text start may.
    let told = g.D.Disk.told c.args.writing.now.disk in
    let w = c.args.writing.now.log in
    let laid = g.D.Disk.told c.lay.new.disk in
    let opens = g.D.Disk.told c.open_gate.new.disk in
    let place : Place = record { file = c.file.result; at = c.gate_at.result } in
    let kept = kept_after told laid w c.args.writing.now.busy c.args.number c.args.next c.args.ring.now c.args.table.now place c.file.ensures c.gate_at.ensures.gate (g.met.D.Disk.reads_are_left c.args.writing.now.disk) c.in-Ok.ensures.laid s text start may in
    let changes = lays_both told laid opens c.args.number text c.lay.ensures.any_moment (c.open_gate.ensures.any_moment (check_bytes text) kept) in
    laid_logged told w c.args.writing.now.busy c.args.number c.args.next c.args.ring.now c.args.table.now s text start may opens changes

pub returns-in-Err-DiskFault-open_gate-clause-changes : goal.returns-in-Err-DiskFault-open_gate-clause-changes
returns-in-Err-DiskFault-open_gate-clause-changes g c = λ s text start may.
    let told = g.D.Disk.told c.args.writing.now.disk in
    let w = c.args.writing.now.log in
    let laid = g.D.Disk.told c.lay.new.disk in
    let opens = g.D.Disk.told c.open_gate.new.disk in
    let place : Place = record { file = c.file.result; at = c.gate_at.result } in
    let kept = kept_after told laid w c.args.writing.now.busy c.args.number c.args.next c.args.ring.now c.args.table.now place c.file.ensures c.gate_at.ensures.gate (g.met.D.Disk.reads_are_left c.args.writing.now.disk) c.in-Ok.ensures.laid s text start may in
    let changes = lays_both told laid opens c.args.number text c.lay.ensures.any_moment (c.open_gate.ensures.any_moment (check_bytes text) kept) in
    changes
