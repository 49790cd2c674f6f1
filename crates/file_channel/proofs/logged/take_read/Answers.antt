use Rattle.std.proofs.Common.{rules, ◌≡◌, ◌∙◌, ◌≤◌, ◌+◌, ◌==◌, ℕ, List, length, Option, false, true, ap, arith, subst, sym}
use Rattle.flume_host.specs.Told.{Tells, Told}
use Rattle.channel_log.specs.Writer.{HasRoom}
use Rattle.channel_face.specs.Machine.{State, settle, size_of_list, takes_of}
use Rattle.channel_writing.specs.Touches.{Flushed, HadNoRoom, room_of}
use Rattle.channel_writing.specs.Written.{IsLogged, kept as kept_room}
use Rattle.channel_writing.proofs.Freeing.{free_after, take_in, take_room}
use Rattle.channel_writing.proofs.Putting.{busy_few}
use Rattle.channel_writing.proofs.Whole.{had_no_room}
use Rattle.file_channel.specs.Placed.{Fits, Logged}
use Rattle.file_channel.proofs.Calls.{MayBeTaken, may_be_taken, room_is, state_fits, take_steps}
use Rattle.file_channel.proofs.logged.take_read.Goals as goal

pub has_room-requires : goal.has_room-requires
has_room-requires g c =
    let told = g.D.Disk.told c.args.writing.now.disk in
    let token = c.args.txn.now in
    let old : Logged = record { places = c.args.held.now; log = c.args.writing.now.log; busy = c.args.writing.now.busy } in
    let s : State = c.requires.state.0 in
    let is = c.requires.state.3 in
    let may : MayBeTaken s token = may_be_taken s token c.requires.state.4 in
    let log : IsLogged told old.log old.busy s = is.whole.logged may.still in
    let few : old.busy ≤ 1024 = busy_few told old.log old.busy s log in
    few

pub add_take-requires-clause-few : goal.add_take-requires-clause-few
add_take-requires-clause-few g c =
    let told = g.D.Disk.told c.args.writing.now.disk in
    let token = c.args.txn.now in
    let old : Logged = record { places = c.args.held.now; log = c.args.writing.now.log; busy = c.args.writing.now.busy } in
    let s : State = c.requires.state.0 in
    let is = c.requires.state.3 in
    let may : MayBeTaken s token = may_be_taken s token c.requires.state.4 in
    let log : IsLogged told old.log old.busy s = is.whole.logged may.still in
    let few : old.busy ≤ 1024 = busy_few told old.log old.busy s log in
    few

pub returns-then-has_room-clause-step : goal.returns-then-has_room-clause-step
returns-then-has_room-clause-step g c = λ s kept rest is allowed free_is gives.
    let told = g.D.Disk.told c.args.writing.now.disk in
    let token = c.args.txn.now in
    let old : Logged = record { places = c.args.held.now; log = c.args.writing.now.log; busy = c.args.writing.now.busy } in
    let may : MayBeTaken s token = may_be_taken s token allowed in
    let count : c.size_of_takes-first.result ≡ size_of_list (takes_of s token) = c.size_of_takes-first.ensures.size is.settled is.known s is.looks in
    let first : (c.size_of_takes-first.result == 0) ≡ (length may.numbers == 0) = ap (λ (n : ℕ). n == 0) (count ∙ ap (λ (o : Option (List ℕ)). size_of_list o) may.list) in
    let told' = g.D.Disk.told c.add_take.new.writing.disk in
    let new : Logged = record { places = c.add_take.new.held; log = c.add_take.new.writing.log; busy = c.add_take.new.writing.busy } in
    let fits = c.add_take.ensures.fits s may.numbers kept rest (state_fits told old s is may.still) may.list free_is first in
    take_steps told told' old new token may.numbers c.args.number kept c.args.event rest false s is may.list may.allowed free_is gives fits c.add_take.ensures.waits

pub add_take-requires-2-clause-few : goal.add_take-requires-2-clause-few
add_take-requires-2-clause-few g c =
    let told = g.D.Disk.told c.args.writing.now.disk in
    let token = c.args.txn.now in
    let old : Logged = record { places = c.args.held.now; log = c.args.writing.now.log; busy = c.args.writing.now.busy } in
    let s : State = c.requires.state.0 in
    let is = c.requires.state.3 in
    let may : MayBeTaken s token = may_be_taken s token c.requires.state.4 in
    let log : IsLogged told old.log old.busy s = is.whole.logged may.still in
    let few : c.settle_staged.new.writing.busy ≤ 1024 = rw c.settle_staged.ensures.busy (busy_few told old.log old.busy s log) in
    few

pub add_take-requires-2-clause-room : goal.add_take-requires-2-clause-room
add_take-requires-2-clause-room g c =
    let told = g.D.Disk.told c.args.writing.now.disk in
    let token = c.args.txn.now in
    let old : Logged = record { places = c.args.held.now; log = c.args.writing.now.log; busy = c.args.writing.now.busy } in
    let s : State = c.requires.state.0 in
    let is = c.requires.state.3 in
    let may : MayBeTaken s token = may_be_taken s token c.requires.state.4 in
    let log : IsLogged told old.log old.busy s = is.whole.logged may.still in
    let few : c.settle_staged.new.writing.busy ≤ 1024 = rw c.settle_staged.ensures.busy (busy_few told old.log old.busy s log) in
    take_room c.settle_staged.new.writing.log c.settle_staged.new.writing.busy (c.size_of_takes-first.result == 0) c.in-Ok.ensures.empty few

pub returns-clause-step : goal.returns-clause-step
returns-clause-step g c = λ s kept rest is allowed free_is gives.
    let told = g.D.Disk.told c.args.writing.now.disk in
    let token = c.args.txn.now in
    let old : Logged = record { places = c.args.held.now; log = c.args.writing.now.log; busy = c.args.writing.now.busy } in
    let may : MayBeTaken s token = may_be_taken s token allowed in
    let count : c.size_of_takes-first.result ≡ size_of_list (takes_of s token) = c.size_of_takes-first.ensures.size is.settled is.known s is.looks in
    let first : (c.size_of_takes-first.result == 0) ≡ (length may.numbers == 0) = ap (λ (n : ℕ). n == 0) (count ∙ ap (λ (o : Option (List ℕ)). size_of_list o) may.list) in
    let between = g.D.Disk.told c.settle_staged.new.writing.disk in
    let mid : Logged = record { places = c.settle_staged.new.held; log = c.settle_staged.new.writing.log; busy = c.settle_staged.new.writing.busy } in
    let told' = g.D.Disk.told c.add_take-2.new.writing.disk in
    let new : Logged = record { places = c.add_take-2.new.held; log = c.add_take-2.new.writing.log; busy = c.add_take-2.new.writing.busy } in
    let after = free_after s (c.args.number, kept) rest free_is in
    let fits : Fits told' new (take_in s true token.number may.numbers c.args.number) = c.add_take-2.ensures.fits (settle s) may.numbers kept after.0 (c.in-Ok.ensures.fits s is may.still) may.list after.1 first in
    let longer : length new.log.bytes ≡ 0 + 17 = omega (arith, c.add_take-2.ensures.waits, ap (λ (l : List ℕ). length l) c.in-Ok.ensures.empty) in
    take_steps told told' old new token may.numbers c.args.number kept c.args.event rest true s is may.list may.allowed free_is gives fits longer

pub returns-clause-full : goal.returns-clause-full
returns-clause-full g c = λ s is still spilled.
    let told = g.D.Disk.told c.args.writing.now.disk in
    let token = c.args.txn.now in
    let old : Logged = record { places = c.args.held.now; log = c.args.writing.now.log; busy = c.args.writing.now.busy } in
    let between = g.D.Disk.told c.settle_staged.new.writing.disk in
    let mid : Logged = record { places = c.settle_staged.new.held; log = c.settle_staged.new.writing.log; busy = c.settle_staged.new.writing.busy } in
    let log : IsLogged told old.log old.busy s = is.whole.logged still in
    let few : old.busy ≤ 1024 = busy_few told old.log old.busy s log in
    let count : c.size_of_takes-first.result ≡ size_of_list (takes_of s token) = c.size_of_takes-first.ensures.size is.settled is.known s is.looks in
    let size : ℕ = 17 + kept_room old.busy (c.size_of_takes-first.result == 0) in
    let needs : size ≡ room_of s 17 (size_of_list (takes_of s token)) = room_is told old.log old.busy s 17 c.size_of_takes-first.result (size_of_list (takes_of s token)) log count in
    let full : HasRoom old.log size → ⊥ = (let lacks = c.has_room.ensures in search rules) in
    let left : Tells told between (HadNoRoom size) =
    had_no_room told between old.log mid.log old.busy mid.busy s size (λ t u. Flushed s t u) (c.settle_staged.ensures.any_moment s is still) still log (c.in-Ok.ensures.fits s is still).logged c.in-Ok.ensures.writes_on full
    (λ empty. take_room old.log old.busy (c.size_of_takes-first.result == 0) empty few) in
    subst (λ (v : Option Told). Tells told v (HadNoRoom (room_of s 17 (size_of_list (takes_of s token))))) (sym (ap g.D.Disk.told c.add_take-2.ensures.disk))
    (subst (λ (n : ℕ). Tells told between (HadNoRoom n)) needs left)
