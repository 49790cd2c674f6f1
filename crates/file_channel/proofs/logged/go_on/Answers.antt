use Rattle.std.proofs.Common.{◌≡◌, ◌<◌, ◌+◌, ◌^◌, ℕ, arith, subst, sym}
use Rattle.std.specs.Prelude.{option_map}
use Rattle.open_table.specs.Tables.{moved_open, open_at}
use Rattle.channel_places.specs.Looks.{Moves}
use Rattle.file_channel.specs.Placed.{Logged}
use Rattle.file_channel.proofs.Going.{goes_on_state}
use Rattle.file_channel.proofs.logged.go_on.Goals as goal

pub roll-requires-clause-logged : goal.roll-requires-clause-logged
roll-requires-clause-logged g c = (c.requires.state.0, c.requires.state.1.whole.logged c.requires.state.2, c.requires.state.2)

pub returns-in-Ok-clause-state : goal.returns-in-Ok-clause-state
returns-in-Ok-clause-state g c = λ s is still.
    let told = g.D.Disk.told c.args.writing.now.disk in
    let told' = g.D.Disk.told c.roll.new.self.disk in
    let old : Logged = record { places = c.args.held.now; log = c.args.writing.now.log; busy = c.args.writing.now.busy } in
    let new : Logged = record { places = c.moved.new.self; log = c.roll.new.self.log; busy = c.roll.new.self.busy } in
    let file : c.file-file.result ≡ old.log.file = c.file-file.ensures in
    let gate : c.gate_at-gate.result ≡ old.log.gate = c.gate_at-gate.ensures.gate in
    let low : old.log.gate < 2 ^ 63 = omega (arith, gate, c.gate_at-gate.ensures.range.1) in
    goes_on_state told told' old new s is still low c.roll.ensures.begins c.in-Ok.ensures.moved
    (λ settled known more looks moves. c.moved.ensures.moved settled known more s looks (subst (λ (x : ℕ × ℕ). Moves x.0 (x.1 + 1) (x.0 + 1) 17 known more) (λ i. (sym file i, sym gate i)) moves))
    (subst (λ (x : ℕ × ℕ). (txn : ℕ) → open_at c.moved.new.self.opened txn ≡ option_map (moved_open x.0 (x.1 + 1) (x.0 + 1) 17) (open_at old.places.opened txn)) (λ i. (file i, gate i)) c.moved.ensures.opened)
    (c.in-Ok.ensures.logged s (is.whole.logged still))

pub returns-in-Ok-clause-any_moment : goal.returns-in-Ok-clause-any_moment
returns-in-Ok-clause-any_moment g c = λ s is still. c.roll.ensures.any_moment s (is.whole.logged still) still

pub returns-in-Err-clause-any_moment : goal.returns-in-Err-clause-any_moment
returns-in-Err-clause-any_moment g c = λ s is still. c.roll.ensures.any_moment s (is.whole.logged still) still
