use Rattle.std.proofs.Common.{rules, ◌≡◌, ◌∙◌, ◌≤◌, ◌+◌, ◌==◌, ℕ, List, length, Option, Err, Ok, Some, None, false, true, ap, arith, subst, sym}
use Rattle.std.specs.Prelude.{◌↔◌}
use Rattle.flume_host.specs.Told.{Tells, Told}
use Rattle.event_core.specs.Content.{Content, size}
use Rattle.channel_log.specs.Writer.{HasRoom}
use Rattle.channel_face.specs.Machine.{State, Put, after, put_refusal, puts_of, settle, size_of_list}
use Rattle.channel_face.specs.declared.replies.PutRefused.TheVariants as PutNo
use Rattle.channel_writing.specs.Touches.{FillsFiles, Flushed, HadNoRoom, HasNoRoom, room_of}
use Rattle.channel_writing.specs.Written.{IsLogged, kept}
use Rattle.channel_writing.proofs.Putting.{busy_few, put_in, room_enough}
use Rattle.channel_writing.proofs.Rooms.{has_enough, has_none, lacks}
use Rattle.channel_writing.proofs.Whole.{had_no_room}
use Rattle.file_channel.specs.Placed.{Fits, Logged}
use Rattle.file_channel.proofs.Calls.{MayBePut, flushes_put, may_be_put, put_faults, put_quietly, put_refuses, put_steps, room_is, state_fits}
use Rattle.file_channel.proofs.logged.LoggedPlaces.put_in_log.Goals as goal

pub returns-in-Some-clause-step : goal.returns-in-Some-clause-step
returns-in-Some-clause-step g c = rw (← c.self.view_is) (λ s is.
    let m = c.self.inside in
    let told = g.D.Disk.told m.writing.disk in
    let token = c.args.txn.now in
    let event : Content = c.args.event.now in
    let old : Logged = record { places = m.held; log = m.writing.log; busy = m.writing.busy } in
    let refused : put_refusal s (puts_of s token) event ≡ Some c.in-Some.refused = sym (c.put_refusal.ensures.refusal is.settled is.known s event is.looks (sym c.size.ensures.size)) ∙ c.in-Some.is in
    put_refuses told old token event c.in-Some.refused s is refused)

pub returns-in-Some-clause-never : goal.returns-in-Some-clause-never
returns-in-Some-clause-never g c = λ counter spent.
    let m = c.self.inside in
    let told = g.D.Disk.told m.writing.disk in
    let token = c.args.txn.now in
    let event : Content = c.args.event.now in
    let old : Logged = record { places = m.held; log = m.writing.log; busy = m.writing.busy } in
    let s : State = c.self.invariant.0 in
    let is = c.self.invariant.1 in
    let refused : put_refusal s (puts_of s token) event ≡ Some c.in-Some.refused = sym (c.put_refusal.ensures.refusal is.settled is.known s event is.looks (sym c.size.ensures.size)) ∙ c.in-Some.is in
    (put_quietly s (puts_of s token) event c.in-Some.refused refused).1 counter (let same : c.in-Some.refused ≡ PutNo.Spent counter = cc in same)

pub returns-in-Some-clause-memory : goal.returns-in-Some-clause-memory
returns-in-Some-clause-memory g c = λ none.
    let m = c.self.inside in
    let told = g.D.Disk.told m.writing.disk in
    let token = c.args.txn.now in
    let event : Content = c.args.event.now in
    let old : Logged = record { places = m.held; log = m.writing.log; busy = m.writing.busy } in
    let s : State = c.self.invariant.0 in
    let is = c.self.invariant.1 in
    let refused : put_refusal s (puts_of s token) event ≡ Some c.in-Some.refused = sym (c.put_refusal.ensures.refusal is.settled is.known s event is.looks (sym c.size.ensures.size)) ∙ c.in-Some.is in
    (put_quietly s (puts_of s token) event c.in-Some.refused refused).2 (let same : c.in-Some.refused ≡ PutNo.NoMemory = cc in same)

pub returns-in-Some-clause-any_moment : goal.returns-in-Some-clause-any_moment
returns-in-Some-clause-any_moment g c = rw (← c.self.view_is) (λ s is flushed.
    let m = c.self.inside in
    let told = g.D.Disk.told m.writing.disk in
    let token = c.args.txn.now in
    let event : Content = c.args.event.now in
    let old : Logged = record { places = m.held; log = m.writing.log; busy = m.writing.busy } in
    let refused : put_refusal s (puts_of s token) event ≡ Some c.in-Some.refused = sym (c.put_refusal.ensures.refusal is.settled is.known s event is.looks (sym c.size.ensures.size)) ∙ c.in-Some.is in
    absurd ((put_quietly s (puts_of s token) event c.in-Some.refused refused).0 (flushes_put token event c.in-Some.refused flushed)))

pub returns-in-Some-clause-fault : goal.returns-in-Some-clause-fault
returns-in-Some-clause-fault g c = λ fault.
    let m = c.self.inside in
    let told = g.D.Disk.told m.writing.disk in
    let token = c.args.txn.now in
    let event : Content = c.args.event.now in
    let old : Logged = record { places = m.held; log = m.writing.log; busy = m.writing.busy } in
    let s : State = c.self.invariant.0 in
    let is = c.self.invariant.1 in
    let refused : put_refusal s (puts_of s token) event ≡ Some c.in-Some.refused = sym (c.put_refusal.ensures.refusal is.settled is.known s event is.looks (sym c.size.ensures.size)) ∙ c.in-Some.is in
    absurd ((put_quietly s (puts_of s token) event c.in-Some.refused refused).0 (let same : c.in-Some.refused ≡ PutNo.DiskFault = cc in same))

pub returns-in-Some-clause-no_room : goal.returns-in-Some-clause-no_room
returns-in-Some-clause-no_room g c = rw (← c.self.view_is) (λ s is fault.
    let m = c.self.inside in
    let told = g.D.Disk.told m.writing.disk in
    let token = c.args.txn.now in
    let event : Content = c.args.event.now in
    let old : Logged = record { places = m.held; log = m.writing.log; busy = m.writing.busy } in
    let refused : put_refusal s (puts_of s token) event ≡ Some c.in-Some.refused = sym (c.put_refusal.ensures.refusal is.settled is.known s event is.looks (sym c.size.ensures.size)) ∙ c.in-Some.is in
    absurd ((put_quietly s (puts_of s token) event c.in-Some.refused refused).0 (let same : c.in-Some.refused ≡ PutNo.DiskFault = cc in same)))

pub has_room-requires : goal.has_room-requires
has_room-requires g c =
    let m = c.self.inside in
    let told = g.D.Disk.told m.writing.disk in
    let token = c.args.txn.now in
    let event : Content = c.args.event.now in
    let old : Logged = record { places = m.held; log = m.writing.log; busy = m.writing.busy } in
    let s : State = c.self.invariant.0 in
    let is = c.self.invariant.1 in
    let allowed : put_refusal s (puts_of s token) event ≡ None = sym (c.put_refusal.ensures.refusal is.settled is.known s event is.looks (sym c.size.ensures.size)) ∙ c.in_default.is in
    let may : MayBePut s token event = may_be_put told old token event s is allowed in
    let count : c.size_of_puts-first.result ≡ size_of_list (puts_of s token) = c.size_of_puts-first.ensures.size is.settled is.known s is.looks in
    let log : IsLogged told old.log old.busy s = is.whole.logged may.still in
    let few : old.busy ≤ 1024 = busy_few told old.log old.busy s log in
    few

pub add_put-requires-clause-limit : goal.add_put-requires-clause-limit
add_put-requires-clause-limit g c =
    let m = c.self.inside in
    let told = g.D.Disk.told m.writing.disk in
    let token = c.args.txn.now in
    let event : Content = c.args.event.now in
    let old : Logged = record { places = m.held; log = m.writing.log; busy = m.writing.busy } in
    let s : State = c.self.invariant.0 in
    let is = c.self.invariant.1 in
    let allowed : put_refusal s (puts_of s token) event ≡ None = sym (c.put_refusal.ensures.refusal is.settled is.known s event is.looks (sym c.size.ensures.size)) ∙ c.in_default.is in
    let may : MayBePut s token event = may_be_put told old token event s is allowed in
    let count : c.size_of_puts-first.result ≡ size_of_list (puts_of s token) = c.size_of_puts-first.ensures.size is.settled is.known s is.looks in
    let log : IsLogged told old.log old.busy s = is.whole.logged may.still in
    let few : old.busy ≤ 1024 = busy_few told old.log old.busy s log in
    may.small

pub add_put-requires-clause-few : goal.add_put-requires-clause-few
add_put-requires-clause-few g c =
    let m = c.self.inside in
    let told = g.D.Disk.told m.writing.disk in
    let token = c.args.txn.now in
    let event : Content = c.args.event.now in
    let old : Logged = record { places = m.held; log = m.writing.log; busy = m.writing.busy } in
    let s : State = c.self.invariant.0 in
    let is = c.self.invariant.1 in
    let allowed : put_refusal s (puts_of s token) event ≡ None = sym (c.put_refusal.ensures.refusal is.settled is.known s event is.looks (sym c.size.ensures.size)) ∙ c.in_default.is in
    let may : MayBePut s token event = may_be_put told old token event s is allowed in
    let count : c.size_of_puts-first.result ≡ size_of_list (puts_of s token) = c.size_of_puts-first.ensures.size is.settled is.known s is.looks in
    let log : IsLogged told old.log old.busy s = is.whole.logged may.still in
    let few : old.busy ≤ 1024 = busy_few told old.log old.busy s log in
    few

pub invariant_of-self : goal.invariant_of-self
invariant_of-self g c =
    let m = c.self.inside in
    let told = g.D.Disk.told m.writing.disk in
    let token = c.args.txn.now in
    let event : Content = c.args.event.now in
    let old : Logged = record { places = m.held; log = m.writing.log; busy = m.writing.busy } in
    let s : State = c.self.invariant.0 in
    let is = c.self.invariant.1 in
    let allowed : put_refusal s (puts_of s token) event ≡ None = sym (c.put_refusal.ensures.refusal is.settled is.known s event is.looks (sym c.size.ensures.size)) ∙ c.in_default.is in
    let may : MayBePut s token event = may_be_put told old token event s is allowed in
    let count : c.size_of_puts-first.result ≡ size_of_list (puts_of s token) = c.size_of_puts-first.ensures.size is.settled is.known s is.looks in
    let log : IsLogged told old.log old.busy s = is.whole.logged may.still in
    let few : old.busy ≤ 1024 = busy_few told old.log old.busy s log in
    let told' = g.D.Disk.told c.add_put.new.writing.disk in
    let new : Logged = record { places = c.add_put.new.held; log = c.add_put.new.writing.log; busy = c.add_put.new.writing.busy } in
    let first : (c.size_of_puts-first.result == 0) ≡ (length may.events == 0) = ap (λ (n : ℕ). n == 0) (count ∙ ap (λ (o : Option (List Content)). size_of_list o) may.list) in
    let fits = c.add_put.ensures.fits s may.events (state_fits told old s is may.still) may.list first in
    (after s (Put token event (Ok (record { spilled = false }))), (put_steps told told' old new token event may.events false s is may.list may.allowed fits c.add_put.ensures.waits).stands)

pub returns-then-has_room-clause-step : goal.returns-then-has_room-clause-step
returns-then-has_room-clause-step g c = rw (← c.self.view_is) (λ s is.
    let m = c.self.inside in
    let told = g.D.Disk.told m.writing.disk in
    let token = c.args.txn.now in
    let event : Content = c.args.event.now in
    let old : Logged = record { places = m.held; log = m.writing.log; busy = m.writing.busy } in
    let allowed : put_refusal s (puts_of s token) event ≡ None = sym (c.put_refusal.ensures.refusal is.settled is.known s event is.looks (sym c.size.ensures.size)) ∙ c.in_default.is in
    let may : MayBePut s token event = may_be_put told old token event s is allowed in
    let count : c.size_of_puts-first.result ≡ size_of_list (puts_of s token) = c.size_of_puts-first.ensures.size is.settled is.known s is.looks in
    let log : IsLogged told old.log old.busy s = is.whole.logged may.still in
    let few : old.busy ≤ 1024 = busy_few told old.log old.busy s log in
    let told' = g.D.Disk.told c.add_put.new.writing.disk in
    let new : Logged = record { places = c.add_put.new.held; log = c.add_put.new.writing.log; busy = c.add_put.new.writing.busy } in
    let first : (c.size_of_puts-first.result == 0) ≡ (length may.events == 0) = ap (λ (n : ℕ). n == 0) (count ∙ ap (λ (o : Option (List Content)). size_of_list o) may.list) in
    let fits = c.add_put.ensures.fits s may.events (state_fits told old s is may.still) may.list first in
    put_steps told told' old new token event may.events false s is may.list may.allowed fits c.add_put.ensures.waits)

pub returns-then-has_room-clause-room : goal.returns-then-has_room-clause-room
returns-then-has_room-clause-room g c = rw (← c.self.view_is) (λ s is.
    let m = c.self.inside in
    let told = g.D.Disk.told m.writing.disk in
    let token = c.args.txn.now in
    let event : Content = c.args.event.now in
    let old : Logged = record { places = m.held; log = m.writing.log; busy = m.writing.busy } in
    let allowed : put_refusal s (puts_of s token) event ≡ None = sym (c.put_refusal.ensures.refusal is.settled is.known s event is.looks (sym c.size.ensures.size)) ∙ c.in_default.is in
    let may : MayBePut s token event = may_be_put told old token event s is allowed in
    let count : c.size_of_puts-first.result ≡ size_of_list (puts_of s token) = c.size_of_puts-first.ensures.size is.settled is.known s is.looks in
    let log : IsLogged told old.log old.busy s = is.whole.logged may.still in
    let few : old.busy ≤ 1024 = busy_few told old.log old.busy s log in
    let needs : size event + 13 + kept old.busy (c.size_of_puts-first.result == 0) ≡ room_of s (size event + 13) (size_of_list (puts_of s token)) = room_is told old.log old.busy s (size event + 13) c.size_of_puts-first.result (size_of_list (puts_of s token)) log count in
    let enough : HasRoom old.log (size event + 13 + kept old.busy (c.size_of_puts-first.result == 0)) = (let has = c.has_room.ensures in search rules) in
    subst (λ (n : ℕ). (false ≡ true) ↔ HasNoRoom (length old.log.bytes) n) needs (has_enough (length old.log.bytes) (size event + 13 + kept old.busy (c.size_of_puts-first.result == 0)) enough))

pub settle_staged-requires : goal.settle_staged-requires
settle_staged-requires g c =
    let m = c.self.inside in
    let told = g.D.Disk.told m.writing.disk in
    let token = c.args.txn.now in
    let event : Content = c.args.event.now in
    let old : Logged = record { places = m.held; log = m.writing.log; busy = m.writing.busy } in
    let s : State = c.self.invariant.0 in
    let is = c.self.invariant.1 in
    let allowed : put_refusal s (puts_of s token) event ≡ None = sym (c.put_refusal.ensures.refusal is.settled is.known s event is.looks (sym c.size.ensures.size)) ∙ c.in_default.is in
    let may : MayBePut s token event = may_be_put told old token event s is allowed in
    let count : c.size_of_puts-first.result ≡ size_of_list (puts_of s token) = c.size_of_puts-first.ensures.size is.settled is.known s is.looks in
    let log : IsLogged told old.log old.busy s = is.whole.logged may.still in
    let few : old.busy ≤ 1024 = busy_few told old.log old.busy s log in
    (s, is, may.still)

pub invariant_of-self-in-Err : goal.invariant_of-self-in-Err
invariant_of-self-in-Err g c =
    let m = c.self.inside in
    let told = g.D.Disk.told m.writing.disk in
    let token = c.args.txn.now in
    let event : Content = c.args.event.now in
    let old : Logged = record { places = m.held; log = m.writing.log; busy = m.writing.busy } in
    let s : State = c.self.invariant.0 in
    let is = c.self.invariant.1 in
    let allowed : put_refusal s (puts_of s token) event ≡ None = sym (c.put_refusal.ensures.refusal is.settled is.known s event is.looks (sym c.size.ensures.size)) ∙ c.in_default.is in
    let may : MayBePut s token event = may_be_put told old token event s is allowed in
    let count : c.size_of_puts-first.result ≡ size_of_list (puts_of s token) = c.size_of_puts-first.ensures.size is.settled is.known s is.looks in
    let log : IsLogged told old.log old.busy s = is.whole.logged may.still in
    let few : old.busy ≤ 1024 = busy_few told old.log old.busy s log in
    let between = g.D.Disk.told c.settle_staged.new.writing.disk in
    let mid : Logged = record { places = c.settle_staged.new.held; log = c.settle_staged.new.writing.log; busy = c.settle_staged.new.writing.busy } in
    (after s (Put token event (Err PutNo.DiskFault)), (put_faults told between old mid token event may.events s is may.list may.allowed (c.in-Err.ensures.failed s is may.still) c.in-Err.ensures.refused).stands)

pub returns-in-Err-clause-step : goal.returns-in-Err-clause-step
returns-in-Err-clause-step g c = rw (← c.self.view_is) (λ s is.
    let m = c.self.inside in
    let told = g.D.Disk.told m.writing.disk in
    let token = c.args.txn.now in
    let event : Content = c.args.event.now in
    let old : Logged = record { places = m.held; log = m.writing.log; busy = m.writing.busy } in
    let allowed : put_refusal s (puts_of s token) event ≡ None = sym (c.put_refusal.ensures.refusal is.settled is.known s event is.looks (sym c.size.ensures.size)) ∙ c.in_default.is in
    let may : MayBePut s token event = may_be_put told old token event s is allowed in
    let count : c.size_of_puts-first.result ≡ size_of_list (puts_of s token) = c.size_of_puts-first.ensures.size is.settled is.known s is.looks in
    let log : IsLogged told old.log old.busy s = is.whole.logged may.still in
    let few : old.busy ≤ 1024 = busy_few told old.log old.busy s log in
    let between = g.D.Disk.told c.settle_staged.new.writing.disk in
    let mid : Logged = record { places = c.settle_staged.new.held; log = c.settle_staged.new.writing.log; busy = c.settle_staged.new.writing.busy } in
    put_faults told between old mid token event may.events s is may.list may.allowed (c.in-Err.ensures.failed s is may.still) c.in-Err.ensures.refused)

pub returns-in-Err-clause-any_moment : goal.returns-in-Err-clause-any_moment
returns-in-Err-clause-any_moment g c = rw (← c.self.view_is) (λ s is flushed.
    let m = c.self.inside in
    let told = g.D.Disk.told m.writing.disk in
    let token = c.args.txn.now in
    let event : Content = c.args.event.now in
    let old : Logged = record { places = m.held; log = m.writing.log; busy = m.writing.busy } in
    let allowed : put_refusal s (puts_of s token) event ≡ None = sym (c.put_refusal.ensures.refusal is.settled is.known s event is.looks (sym c.size.ensures.size)) ∙ c.in_default.is in
    let may : MayBePut s token event = may_be_put told old token event s is allowed in
    let count : c.size_of_puts-first.result ≡ size_of_list (puts_of s token) = c.size_of_puts-first.ensures.size is.settled is.known s is.looks in
    let log : IsLogged told old.log old.busy s = is.whole.logged may.still in
    let few : old.busy ≤ 1024 = busy_few told old.log old.busy s log in
    c.settle_staged.ensures.any_moment s is may.still)

pub returns-in-Err-clause-no_room : goal.returns-in-Err-clause-no_room
returns-in-Err-clause-no_room g c = rw (← c.self.view_is) (λ s is fault.
    let m = c.self.inside in
    let told = g.D.Disk.told m.writing.disk in
    let token = c.args.txn.now in
    let event : Content = c.args.event.now in
    let old : Logged = record { places = m.held; log = m.writing.log; busy = m.writing.busy } in
    let allowed : put_refusal s (puts_of s token) event ≡ None = sym (c.put_refusal.ensures.refusal is.settled is.known s event is.looks (sym c.size.ensures.size)) ∙ c.in_default.is in
    let may : MayBePut s token event = may_be_put told old token event s is allowed in
    let count : c.size_of_puts-first.result ≡ size_of_list (puts_of s token) = c.size_of_puts-first.ensures.size is.settled is.known s is.looks in
    let log : IsLogged told old.log old.busy s = is.whole.logged may.still in
    let few : old.busy ≤ 1024 = busy_few told old.log old.busy s log in
    let needs : size event + 13 + kept old.busy (c.size_of_puts-first.result == 0) ≡ room_of s (size event + 13) (size_of_list (puts_of s token)) = room_is told old.log old.busy s (size event + 13) c.size_of_puts-first.result (size_of_list (puts_of s token)) log count in
    let full : HasRoom old.log (size event + 13 + kept old.busy (c.size_of_puts-first.result == 0)) → ⊥ = (let lacks = c.has_room.ensures in search rules) in
    subst (λ (n : ℕ). HasNoRoom (length old.log.bytes) n) needs (lacks (length old.log.bytes) (size event + 13 + kept old.busy (c.size_of_puts-first.result == 0)) full))

pub add_put-requires-2-clause-may : goal.add_put-requires-2-clause-may
add_put-requires-2-clause-may g c = λ pointer. c.in-Ok.ensures.put c.args.txn.now pointer (c.in_default.ensures.may pointer)

pub add_put-requires-2-clause-limit : goal.add_put-requires-2-clause-limit
add_put-requires-2-clause-limit g c =
    let m = c.self.inside in
    let told = g.D.Disk.told m.writing.disk in
    let token = c.args.txn.now in
    let event : Content = c.args.event.now in
    let old : Logged = record { places = m.held; log = m.writing.log; busy = m.writing.busy } in
    let s : State = c.self.invariant.0 in
    let is = c.self.invariant.1 in
    let allowed : put_refusal s (puts_of s token) event ≡ None = sym (c.put_refusal.ensures.refusal is.settled is.known s event is.looks (sym c.size.ensures.size)) ∙ c.in_default.is in
    let may : MayBePut s token event = may_be_put told old token event s is allowed in
    let count : c.size_of_puts-first.result ≡ size_of_list (puts_of s token) = c.size_of_puts-first.ensures.size is.settled is.known s is.looks in
    let log : IsLogged told old.log old.busy s = is.whole.logged may.still in
    let few : old.busy ≤ 1024 = busy_few told old.log old.busy s log in
    may.small

pub add_put-requires-2-clause-few : goal.add_put-requires-2-clause-few
add_put-requires-2-clause-few g c =
    let m = c.self.inside in
    let told = g.D.Disk.told m.writing.disk in
    let token = c.args.txn.now in
    let event : Content = c.args.event.now in
    let old : Logged = record { places = m.held; log = m.writing.log; busy = m.writing.busy } in
    let s : State = c.self.invariant.0 in
    let is = c.self.invariant.1 in
    let allowed : put_refusal s (puts_of s token) event ≡ None = sym (c.put_refusal.ensures.refusal is.settled is.known s event is.looks (sym c.size.ensures.size)) ∙ c.in_default.is in
    let may : MayBePut s token event = may_be_put told old token event s is allowed in
    let count : c.size_of_puts-first.result ≡ size_of_list (puts_of s token) = c.size_of_puts-first.ensures.size is.settled is.known s is.looks in
    let log : IsLogged told old.log old.busy s = is.whole.logged may.still in
    let few : c.settle_staged.new.writing.busy ≤ 1024 = rw c.settle_staged.ensures.busy (busy_few told old.log old.busy s log) in
    few

pub add_put-requires-2-clause-room : goal.add_put-requires-2-clause-room
add_put-requires-2-clause-room g c =
    let m = c.self.inside in
    let told = g.D.Disk.told m.writing.disk in
    let token = c.args.txn.now in
    let event : Content = c.args.event.now in
    let old : Logged = record { places = m.held; log = m.writing.log; busy = m.writing.busy } in
    let s : State = c.self.invariant.0 in
    let is = c.self.invariant.1 in
    let allowed : put_refusal s (puts_of s token) event ≡ None = sym (c.put_refusal.ensures.refusal is.settled is.known s event is.looks (sym c.size.ensures.size)) ∙ c.in_default.is in
    let may : MayBePut s token event = may_be_put told old token event s is allowed in
    let count : c.size_of_puts-first.result ≡ size_of_list (puts_of s token) = c.size_of_puts-first.ensures.size is.settled is.known s is.looks in
    let log : IsLogged told old.log old.busy s = is.whole.logged may.still in
    let few : c.settle_staged.new.writing.busy ≤ 1024 = rw c.settle_staged.ensures.busy (busy_few told old.log old.busy s log) in
    room_enough c.settle_staged.new.writing.log c.settle_staged.new.writing.busy (size event) (c.size_of_puts-first.result == 0) c.in-Ok.ensures.empty may.small few

pub invariant_of-self-2 : goal.invariant_of-self-2
invariant_of-self-2 g c =
    let m = c.self.inside in
    let told = g.D.Disk.told m.writing.disk in
    let token = c.args.txn.now in
    let event : Content = c.args.event.now in
    let old : Logged = record { places = m.held; log = m.writing.log; busy = m.writing.busy } in
    let s : State = c.self.invariant.0 in
    let is = c.self.invariant.1 in
    let allowed : put_refusal s (puts_of s token) event ≡ None = sym (c.put_refusal.ensures.refusal is.settled is.known s event is.looks (sym c.size.ensures.size)) ∙ c.in_default.is in
    let may : MayBePut s token event = may_be_put told old token event s is allowed in
    let count : c.size_of_puts-first.result ≡ size_of_list (puts_of s token) = c.size_of_puts-first.ensures.size is.settled is.known s is.looks in
    let log : IsLogged told old.log old.busy s = is.whole.logged may.still in
    let few : old.busy ≤ 1024 = busy_few told old.log old.busy s log in
    let between = g.D.Disk.told c.settle_staged.new.writing.disk in
    let mid : Logged = record { places = c.settle_staged.new.held; log = c.settle_staged.new.writing.log; busy = c.settle_staged.new.writing.busy } in
    let told' = g.D.Disk.told c.add_put-2.new.writing.disk in
    let new : Logged = record { places = c.add_put-2.new.held; log = c.add_put-2.new.writing.log; busy = c.add_put-2.new.writing.busy } in
    let first : (c.size_of_puts-first.result == 0) ≡ (length may.events == 0) = ap (λ (n : ℕ). n == 0) (count ∙ ap (λ (o : Option (List Content)). size_of_list o) may.list) in
    let fits : Fits told' new (put_in s true token.number may.events event) = c.add_put-2.ensures.fits (settle s) may.events (c.in-Ok.ensures.fits s is may.still) may.list first in
    let longer : length new.log.bytes ≡ 0 + (size event + 13) = omega (arith, c.add_put-2.ensures.waits, ap (λ (l : List ℕ). length l) c.in-Ok.ensures.empty) in
    (after s (Put token event (Ok (record { spilled = true }))), (put_steps told told' old new token event may.events true s is may.list may.allowed fits longer).stands)

pub returns-clause-step : goal.returns-clause-step
returns-clause-step g c = rw (← c.self.view_is) (λ s is.
    let m = c.self.inside in
    let told = g.D.Disk.told m.writing.disk in
    let token = c.args.txn.now in
    let event : Content = c.args.event.now in
    let old : Logged = record { places = m.held; log = m.writing.log; busy = m.writing.busy } in
    let allowed : put_refusal s (puts_of s token) event ≡ None = sym (c.put_refusal.ensures.refusal is.settled is.known s event is.looks (sym c.size.ensures.size)) ∙ c.in_default.is in
    let may : MayBePut s token event = may_be_put told old token event s is allowed in
    let count : c.size_of_puts-first.result ≡ size_of_list (puts_of s token) = c.size_of_puts-first.ensures.size is.settled is.known s is.looks in
    let log : IsLogged told old.log old.busy s = is.whole.logged may.still in
    let few : old.busy ≤ 1024 = busy_few told old.log old.busy s log in
    let between = g.D.Disk.told c.settle_staged.new.writing.disk in
    let mid : Logged = record { places = c.settle_staged.new.held; log = c.settle_staged.new.writing.log; busy = c.settle_staged.new.writing.busy } in
    let told' = g.D.Disk.told c.add_put-2.new.writing.disk in
    let new : Logged = record { places = c.add_put-2.new.held; log = c.add_put-2.new.writing.log; busy = c.add_put-2.new.writing.busy } in
    let first : (c.size_of_puts-first.result == 0) ≡ (length may.events == 0) = ap (λ (n : ℕ). n == 0) (count ∙ ap (λ (o : Option (List Content)). size_of_list o) may.list) in
    let fits : Fits told' new (put_in s true token.number may.events event) = c.add_put-2.ensures.fits (settle s) may.events (c.in-Ok.ensures.fits s is may.still) may.list first in
    let longer : length new.log.bytes ≡ 0 + (size event + 13) = omega (arith, c.add_put-2.ensures.waits, ap (λ (l : List ℕ). length l) c.in-Ok.ensures.empty) in
    put_steps told told' old new token event may.events true s is may.list may.allowed fits longer)

pub returns-clause-any_moment : goal.returns-clause-any_moment
returns-clause-any_moment g c = rw (← c.self.view_is) (λ s is flushed.
    let m = c.self.inside in
    let told = g.D.Disk.told m.writing.disk in
    let token = c.args.txn.now in
    let event : Content = c.args.event.now in
    let old : Logged = record { places = m.held; log = m.writing.log; busy = m.writing.busy } in
    let allowed : put_refusal s (puts_of s token) event ≡ None = sym (c.put_refusal.ensures.refusal is.settled is.known s event is.looks (sym c.size.ensures.size)) ∙ c.in_default.is in
    let may : MayBePut s token event = may_be_put told old token event s is allowed in
    let count : c.size_of_puts-first.result ≡ size_of_list (puts_of s token) = c.size_of_puts-first.ensures.size is.settled is.known s is.looks in
    let log : IsLogged told old.log old.busy s = is.whole.logged may.still in
    let few : old.busy ≤ 1024 = busy_few told old.log old.busy s log in
    subst (λ (v : Option Told). Tells told v (λ t u. Flushed s t u)) (sym (ap g.D.Disk.told c.add_put-2.ensures.disk)) (c.settle_staged.ensures.any_moment s is may.still))

pub returns-clause-room : goal.returns-clause-room
returns-clause-room g c = rw (← c.self.view_is) (λ s is.
    let m = c.self.inside in
    let told = g.D.Disk.told m.writing.disk in
    let token = c.args.txn.now in
    let event : Content = c.args.event.now in
    let old : Logged = record { places = m.held; log = m.writing.log; busy = m.writing.busy } in
    let allowed : put_refusal s (puts_of s token) event ≡ None = sym (c.put_refusal.ensures.refusal is.settled is.known s event is.looks (sym c.size.ensures.size)) ∙ c.in_default.is in
    let may : MayBePut s token event = may_be_put told old token event s is allowed in
    let count : c.size_of_puts-first.result ≡ size_of_list (puts_of s token) = c.size_of_puts-first.ensures.size is.settled is.known s is.looks in
    let log : IsLogged told old.log old.busy s = is.whole.logged may.still in
    let few : old.busy ≤ 1024 = busy_few told old.log old.busy s log in
    let needs : size event + 13 + kept old.busy (c.size_of_puts-first.result == 0) ≡ room_of s (size event + 13) (size_of_list (puts_of s token)) = room_is told old.log old.busy s (size event + 13) c.size_of_puts-first.result (size_of_list (puts_of s token)) log count in
    let full : HasRoom old.log (size event + 13 + kept old.busy (c.size_of_puts-first.result == 0)) → ⊥ = (let lacks = c.has_room.ensures in search rules) in
    subst (λ (n : ℕ). (true ≡ true) ↔ HasNoRoom (length old.log.bytes) n) needs (has_none (length old.log.bytes) (size event + 13 + kept old.busy (c.size_of_puts-first.result == 0)) full))

pub returns-clause-full : goal.returns-clause-full
returns-clause-full g c = rw (← c.self.view_is) (λ s is spilled.
    let m = c.self.inside in
    let told = g.D.Disk.told m.writing.disk in
    let token = c.args.txn.now in
    let event : Content = c.args.event.now in
    let old : Logged = record { places = m.held; log = m.writing.log; busy = m.writing.busy } in
    let allowed : put_refusal s (puts_of s token) event ≡ None = sym (c.put_refusal.ensures.refusal is.settled is.known s event is.looks (sym c.size.ensures.size)) ∙ c.in_default.is in
    let may : MayBePut s token event = may_be_put told old token event s is allowed in
    let count : c.size_of_puts-first.result ≡ size_of_list (puts_of s token) = c.size_of_puts-first.ensures.size is.settled is.known s is.looks in
    let log : IsLogged told old.log old.busy s = is.whole.logged may.still in
    let few : old.busy ≤ 1024 = busy_few told old.log old.busy s log in
    let needs : size event + 13 + kept old.busy (c.size_of_puts-first.result == 0) ≡ room_of s (size event + 13) (size_of_list (puts_of s token)) = room_is told old.log old.busy s (size event + 13) c.size_of_puts-first.result (size_of_list (puts_of s token)) log count in
    let full : HasRoom old.log (size event + 13 + kept old.busy (c.size_of_puts-first.result == 0)) → ⊥ = (let lacks = c.has_room.ensures in search rules) in
    let between = g.D.Disk.told c.settle_staged.new.writing.disk in
    let mid : Logged = record { places = c.settle_staged.new.held; log = c.settle_staged.new.writing.log; busy = c.settle_staged.new.writing.busy } in
    let left : Tells told between (HadNoRoom (size event + 13 + kept old.busy (c.size_of_puts-first.result == 0))) =
    had_no_room told between old.log mid.log old.busy mid.busy s (size event + 13 + kept old.busy (c.size_of_puts-first.result == 0)) (λ t u. Flushed s t u) (c.settle_staged.ensures.any_moment s is may.still) may.still log (c.in-Ok.ensures.fits s is may.still).logged c.in-Ok.ensures.writes_on full
    (λ empty. room_enough old.log old.busy (size event) (c.size_of_puts-first.result == 0) empty may.small few) in
    subst (λ (v : Option Told). Tells told v (HadNoRoom (room_of s (size event + 13) (size_of_list (puts_of s token))))) (sym (ap g.D.Disk.told c.add_put-2.ensures.disk))
    (subst (λ (n : ℕ). Tells told between (HadNoRoom n)) needs left))

pub returns-in-Some-clause-fills : goal.returns-in-Some-clause-fills
returns-in-Some-clause-fills g c = rw (← c.self.view_is) (λ s is flushed.
    let m = c.self.inside in
    let told = g.D.Disk.told m.writing.disk in
    let token = c.args.txn.now in
    let event : Content = c.args.event.now in
    let old : Logged = record { places = m.held; log = m.writing.log; busy = m.writing.busy } in
    let refused : put_refusal s (puts_of s token) event ≡ Some c.in-Some.refused = sym (c.put_refusal.ensures.refusal is.settled is.known s event is.looks (sym c.size.ensures.size)) ∙ c.in-Some.is in
    absurd ((put_quietly s (puts_of s token) event c.in-Some.refused refused).0 (flushes_put token event c.in-Some.refused flushed)))

pub returns-in-Err-clause-fills : goal.returns-in-Err-clause-fills
returns-in-Err-clause-fills g c = rw (← c.self.view_is) (λ s is flushed.
    let m = c.self.inside in
    let told = g.D.Disk.told m.writing.disk in
    let token = c.args.txn.now in
    let event : Content = c.args.event.now in
    let old : Logged = record { places = m.held; log = m.writing.log; busy = m.writing.busy } in
    let allowed : put_refusal s (puts_of s token) event ≡ None = sym (c.put_refusal.ensures.refusal is.settled is.known s event is.looks (sym c.size.ensures.size)) ∙ c.in_default.is in
    let may : MayBePut s token event = may_be_put told old token event s is allowed in
    let count : c.size_of_puts-first.result ≡ size_of_list (puts_of s token) = c.size_of_puts-first.ensures.size is.settled is.known s is.looks in
    let log : IsLogged told old.log old.busy s = is.whole.logged may.still in
    let few : old.busy ≤ 1024 = busy_few told old.log old.busy s log in
    c.settle_staged.ensures.fills s is may.still)

pub returns-clause-fills : goal.returns-clause-fills
returns-clause-fills g c = rw (← c.self.view_is) (λ s is flushed.
    let m = c.self.inside in
    let told = g.D.Disk.told m.writing.disk in
    let token = c.args.txn.now in
    let event : Content = c.args.event.now in
    let old : Logged = record { places = m.held; log = m.writing.log; busy = m.writing.busy } in
    let allowed : put_refusal s (puts_of s token) event ≡ None = sym (c.put_refusal.ensures.refusal is.settled is.known s event is.looks (sym c.size.ensures.size)) ∙ c.in_default.is in
    let may : MayBePut s token event = may_be_put told old token event s is allowed in
    let count : c.size_of_puts-first.result ≡ size_of_list (puts_of s token) = c.size_of_puts-first.ensures.size is.settled is.known s is.looks in
    let log : IsLogged told old.log old.busy s = is.whole.logged may.still in
    let few : old.busy ≤ 1024 = busy_few told old.log old.busy s log in
    subst (λ (v : Option Told). Tells told v (FillsFiles s.rules.limits.max_file (length old.log.bytes))) (sym (ap g.D.Disk.told c.add_put-2.ensures.disk)) (c.settle_staged.ensures.fills s is may.still))
