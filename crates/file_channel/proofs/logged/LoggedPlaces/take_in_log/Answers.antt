use Rattle.std.proofs.Common.{◌≡◌, ◌∙◌, ℕ, List, length, Option, Err, None, Some, true, ap, subst, sym}
use Rattle.std.specs.Prelude.{◌↔◌, IfOk, IsErrOf, IsSome}
use Rattle.flume_host.specs.Told.{Tells, Told}
use Rattle.record_form.specs.declared.record.Pointer.{Pointer}
use Rattle.channel_log.specs.Writer.{Writer}
use Rattle.channel_face.specs.Machine.{State, Gives, Take, after, free, is_some_of, size_of_list, take_refusal, takes_of}
use Rattle.channel_face.specs.declared.replies.TakeRefused.{TakeRefused}
use Rattle.channel_face.specs.declared.replies.TakeRefused.TheVariants as TakeNo
use Rattle.channel_places.specs.Looks.{IsFree}
use Rattle.channel_writing.specs.Touches.{FillsFiles, Flushed, HadNoRoom, HasNoRoom, room_of}
use Rattle.file_channel.specs.Placed.{IsStateOf, Logged}
use Rattle.file_channel.specs.Stepped.{Steps}
use Rattle.file_channel.proofs.Calls.{MayBeTaken, flushes_take, free_first, kept_state, may_be_taken, own_file, read_then, take_quietly, take_refuses, unread_steps}
use Rattle.file_channel.proofs.logged.LoggedPlaces.take_in_log.Goals as goal

pub read_event-requires-clause-own : goal.read_event-requires-clause-own
read_event-requires-clause-own g c =
    let m = c.self.inside in
    let told = g.D.Disk.told m.writing.disk in
    let token = c.args.txn.now in
    let old : Logged = record { places = m.held; log = m.writing.log; busy = m.writing.busy } in
    let s : State = c.self.invariant.0 in
    let is = c.self.invariant.1 in
    let allowed : take_refusal s (takes_of s token) ≡ None = sym (c.take_refusal.ensures.refusal is.settled is.known s is.looks) ∙ c.in_default.is in
    let may : MayBeTaken s token = may_be_taken s token allowed in
    let found : IsFree is.settled (Some (c.in-Some-first_free.number, c.in-Some-first_free.pointer)) (free s) = subst (λ (o : Option (ℕ × Pointer)). IsFree is.settled o (free s)) c.in-Some-first_free.is (c.first_free.ensures is.settled is.known s is.looks) in
    let free_is = free_first is.settled c.in-Some-first_free.number c.in-Some-first_free.pointer (free s) found in
    own_file told old.log old.busy s (is.whole.logged may.still) may.still

pub read_event-requires-clause-known : goal.read_event-requires-clause-known
read_event-requires-clause-known g c =
    let m = c.self.inside in
    let told = g.D.Disk.told m.writing.disk in
    let token = c.args.txn.now in
    let old : Logged = record { places = m.held; log = m.writing.log; busy = m.writing.busy } in
    let s : State = c.self.invariant.0 in
    let is = c.self.invariant.1 in
    let allowed : take_refusal s (takes_of s token) ≡ None = sym (c.take_refusal.ensures.refusal is.settled is.known s is.looks) ∙ c.in_default.is in
    let may : MayBeTaken s token = may_be_taken s token allowed in
    let found : IsFree is.settled (Some (c.in-Some-first_free.number, c.in-Some-first_free.pointer)) (free s) = subst (λ (o : Option (ℕ × Pointer)). IsFree is.settled o (free s)) c.in-Some-first_free.is (c.first_free.ensures is.settled is.known s is.looks) in
    let free_is = free_first is.settled c.in-Some-first_free.number c.in-Some-first_free.pointer (free s) found in
    (is.settled, is.known, free_is.0, is.placed may.still, (is.placed may.still).within c.in-Some-first_free.pointer free_is.0 free_is.3)

pub take_read-requires-clause-state : goal.take_read-requires-clause-state
take_read-requires-clause-state g c =
    let m = c.self.inside in
    let told = g.D.Disk.told m.writing.disk in
    let token = c.args.txn.now in
    let old : Logged = record { places = m.held; log = m.writing.log; busy = m.writing.busy } in
    let s : State = c.self.invariant.0 in
    let is = c.self.invariant.1 in
    let allowed : take_refusal s (takes_of s token) ≡ None = sym (c.take_refusal.ensures.refusal is.settled is.known s is.looks) ∙ c.in_default.is in
    let may : MayBeTaken s token = may_be_taken s token allowed in
    let found : IsFree is.settled (Some (c.in-Some-first_free.number, c.in-Some-first_free.pointer)) (free s) = subst (λ (o : Option (ℕ × Pointer)). IsFree is.settled o (free s)) c.in-Some-first_free.is (c.first_free.ensures is.settled is.known s is.looks) in
    let free_is = free_first is.settled c.in-Some-first_free.number c.in-Some-first_free.pointer (free s) found in
    let between = g.D.Disk.told c.read_event.new.writing.disk in
    let mid : Logged = record { places = m.held; log = c.read_event.new.writing.log; busy = c.read_event.new.writing.busy } in
    let same : between ≡ told = c.read_event.ensures.same in
    let bytes : mid.log.bytes ≡ old.log.bytes = ap (λ (w : Writer). w.bytes) c.read_event.ensures.log in
    let state : IsStateOf between mid s = subst (λ (n : ℕ). IsStateOf between (record old { log = mid.log; busy = n }) s) (sym c.read_event.ensures.busy) (kept_state told between old mid.log s same c.read_event.ensures.log is (λ still. c.read_event.ensures.placed is.settled is.known free_is.0 (is.placed still) ((is.placed still).within c.in-Some-first_free.pointer free_is.0 free_is.3))) in
    (s, free_is.0, free_is.1, state, allowed, free_is.2)

pub invariant_of-self : goal.invariant_of-self
invariant_of-self g c =
    let m = c.self.inside in
    let told = g.D.Disk.told m.writing.disk in
    let token = c.args.txn.now in
    let old : Logged = record { places = m.held; log = m.writing.log; busy = m.writing.busy } in
    let s : State = c.self.invariant.0 in
    let is = c.self.invariant.1 in
    let allowed : take_refusal s (takes_of s token) ≡ None = sym (c.take_refusal.ensures.refusal is.settled is.known s is.looks) ∙ c.in_default.is in
    let may : MayBeTaken s token = may_be_taken s token allowed in
    let found : IsFree is.settled (Some (c.in-Some-first_free.number, c.in-Some-first_free.pointer)) (free s) = subst (λ (o : Option (ℕ × Pointer)). IsFree is.settled o (free s)) c.in-Some-first_free.is (c.first_free.ensures is.settled is.known s is.looks) in
    let free_is = free_first is.settled c.in-Some-first_free.number c.in-Some-first_free.pointer (free s) found in
    let between = g.D.Disk.told c.read_event.new.writing.disk in
    let mid : Logged = record { places = m.held; log = c.read_event.new.writing.log; busy = c.read_event.new.writing.busy } in
    let same : between ≡ told = c.read_event.ensures.same in
    let bytes : mid.log.bytes ≡ old.log.bytes = ap (λ (w : Writer). w.bytes) c.read_event.ensures.log in
    let state : IsStateOf between mid s = subst (λ (n : ℕ). IsStateOf between (record old { log = mid.log; busy = n }) s) (sym c.read_event.ensures.busy) (kept_state told between old mid.log s same c.read_event.ensures.log is (λ still. c.read_event.ensures.placed is.settled is.known free_is.0 (is.placed still) ((is.placed still).within c.in-Some-first_free.pointer free_is.0 free_is.3))) in
    let told' = g.D.Disk.told c.take_read.new.writing.disk in
    let new : Logged = record { places = c.take_read.new.held; log = c.take_read.new.writing.log; busy = c.take_read.new.writing.busy } in
    let gives : Gives (is_some_of between) (Some free_is.0) (Some c.in-Ok.event) = subst (λ (v : Option Told). Gives (is_some_of v) (Some free_is.0) (Some c.in-Ok.event)) (sym same) (c.in-Ok.ensures.gives is.settled is.known free_is.0 (is.placed may.still) ((is.placed may.still).within c.in-Some-first_free.pointer free_is.0 free_is.3)) in
    let steps : Steps told told' old new (Take token c.take_read.result) s = read_then told between told' old mid new (Take token c.take_read.result) s same bytes (c.take_read.ensures.step s free_is.0 free_is.1 state allowed free_is.2 gives) in
    (after s (Take token c.take_read.result), steps.stands)

pub returns-in-Ok-clause-step : goal.returns-in-Ok-clause-step
returns-in-Ok-clause-step g c = rw (← c.self.view_is) (λ s is.
    let m = c.self.inside in
    let told = g.D.Disk.told m.writing.disk in
    let token = c.args.txn.now in
    let old : Logged = record { places = m.held; log = m.writing.log; busy = m.writing.busy } in
    let allowed : take_refusal s (takes_of s token) ≡ None = sym (c.take_refusal.ensures.refusal is.settled is.known s is.looks) ∙ c.in_default.is in
    let may : MayBeTaken s token = may_be_taken s token allowed in
    let found : IsFree is.settled (Some (c.in-Some-first_free.number, c.in-Some-first_free.pointer)) (free s) = subst (λ (o : Option (ℕ × Pointer)). IsFree is.settled o (free s)) c.in-Some-first_free.is (c.first_free.ensures is.settled is.known s is.looks) in
    let free_is = free_first is.settled c.in-Some-first_free.number c.in-Some-first_free.pointer (free s) found in
    let between = g.D.Disk.told c.read_event.new.writing.disk in
    let mid : Logged = record { places = m.held; log = c.read_event.new.writing.log; busy = c.read_event.new.writing.busy } in
    let same : between ≡ told = c.read_event.ensures.same in
    let bytes : mid.log.bytes ≡ old.log.bytes = ap (λ (w : Writer). w.bytes) c.read_event.ensures.log in
    let state : IsStateOf between mid s = subst (λ (n : ℕ). IsStateOf between (record old { log = mid.log; busy = n }) s) (sym c.read_event.ensures.busy) (kept_state told between old mid.log s same c.read_event.ensures.log is (λ still. c.read_event.ensures.placed is.settled is.known free_is.0 (is.placed still) ((is.placed still).within c.in-Some-first_free.pointer free_is.0 free_is.3))) in
    let told' = g.D.Disk.told c.take_read.new.writing.disk in
    let new : Logged = record { places = c.take_read.new.held; log = c.take_read.new.writing.log; busy = c.take_read.new.writing.busy } in
    let gives : Gives (is_some_of between) (Some free_is.0) (Some c.in-Ok.event) = subst (λ (v : Option Told). Gives (is_some_of v) (Some free_is.0) (Some c.in-Ok.event)) (sym same) (c.in-Ok.ensures.gives is.settled is.known free_is.0 (is.placed may.still) ((is.placed may.still).within c.in-Some-first_free.pointer free_is.0 free_is.3)) in
    let steps : Steps told told' old new (Take token c.take_read.result) s = read_then told between told' old mid new (Take token c.take_read.result) s same bytes (c.take_read.ensures.step s free_is.0 free_is.1 state allowed free_is.2 gives) in
    steps)

pub returns-in-Ok-clause-any_moment : goal.returns-in-Ok-clause-any_moment
returns-in-Ok-clause-any_moment g c = rw (← c.self.view_is) (λ s is flushed.
    let m = c.self.inside in
    let told = g.D.Disk.told m.writing.disk in
    let token = c.args.txn.now in
    let old : Logged = record { places = m.held; log = m.writing.log; busy = m.writing.busy } in
    let allowed : take_refusal s (takes_of s token) ≡ None = sym (c.take_refusal.ensures.refusal is.settled is.known s is.looks) ∙ c.in_default.is in
    let may : MayBeTaken s token = may_be_taken s token allowed in
    let found : IsFree is.settled (Some (c.in-Some-first_free.number, c.in-Some-first_free.pointer)) (free s) = subst (λ (o : Option (ℕ × Pointer)). IsFree is.settled o (free s)) c.in-Some-first_free.is (c.first_free.ensures is.settled is.known s is.looks) in
    let free_is = free_first is.settled c.in-Some-first_free.number c.in-Some-first_free.pointer (free s) found in
    let between = g.D.Disk.told c.read_event.new.writing.disk in
    let mid : Logged = record { places = m.held; log = c.read_event.new.writing.log; busy = c.read_event.new.writing.busy } in
    let same : between ≡ told = c.read_event.ensures.same in
    let bytes : mid.log.bytes ≡ old.log.bytes = ap (λ (w : Writer). w.bytes) c.read_event.ensures.log in
    let state : IsStateOf between mid s = subst (λ (n : ℕ). IsStateOf between (record old { log = mid.log; busy = n }) s) (sym c.read_event.ensures.busy) (kept_state told between old mid.log s same c.read_event.ensures.log is (λ still. c.read_event.ensures.placed is.settled is.known free_is.0 (is.placed still) ((is.placed still).within c.in-Some-first_free.pointer free_is.0 free_is.3))) in
    let told' = g.D.Disk.told c.take_read.new.writing.disk in
    let new : Logged = record { places = c.take_read.new.held; log = c.take_read.new.writing.log; busy = c.take_read.new.writing.busy } in
    subst (λ (v : Option Told). Tells v told' (λ t u. Flushed s t u)) same (c.take_read.ensures.any_moment s state may.still flushed))

pub returns-in-Ok-clause-room : goal.returns-in-Ok-clause-room
returns-in-Ok-clause-room g c = rw (← c.self.view_is) (λ s is.
    let m = c.self.inside in
    let told = g.D.Disk.told m.writing.disk in
    let token = c.args.txn.now in
    let old : Logged = record { places = m.held; log = m.writing.log; busy = m.writing.busy } in
    let allowed : take_refusal s (takes_of s token) ≡ None = sym (c.take_refusal.ensures.refusal is.settled is.known s is.looks) ∙ c.in_default.is in
    let may : MayBeTaken s token = may_be_taken s token allowed in
    let found : IsFree is.settled (Some (c.in-Some-first_free.number, c.in-Some-first_free.pointer)) (free s) = subst (λ (o : Option (ℕ × Pointer)). IsFree is.settled o (free s)) c.in-Some-first_free.is (c.first_free.ensures is.settled is.known s is.looks) in
    let free_is = free_first is.settled c.in-Some-first_free.number c.in-Some-first_free.pointer (free s) found in
    let between = g.D.Disk.told c.read_event.new.writing.disk in
    let mid : Logged = record { places = m.held; log = c.read_event.new.writing.log; busy = c.read_event.new.writing.busy } in
    let same : between ≡ told = c.read_event.ensures.same in
    let bytes : mid.log.bytes ≡ old.log.bytes = ap (λ (w : Writer). w.bytes) c.read_event.ensures.log in
    let state : IsStateOf between mid s = subst (λ (n : ℕ). IsStateOf between (record old { log = mid.log; busy = n }) s) (sym c.read_event.ensures.busy) (kept_state told between old mid.log s same c.read_event.ensures.log is (λ still. c.read_event.ensures.placed is.settled is.known free_is.0 (is.placed still) ((is.placed still).within c.in-Some-first_free.pointer free_is.0 free_is.3))) in
    subst (λ (l : List ℕ). IfOk c.take_read.result (λ taken. (taken.spilled ≡ true) ↔ IsSome taken.event × HasNoRoom (length l) (room_of s 17 (size_of_list (takes_of s token))))) bytes (c.take_read.ensures.room s state may.still))

pub returns-in-Ok-clause-full : goal.returns-in-Ok-clause-full
returns-in-Ok-clause-full g c = rw (← c.self.view_is) (λ s is.
    let m = c.self.inside in
    let told = g.D.Disk.told m.writing.disk in
    let token = c.args.txn.now in
    let old : Logged = record { places = m.held; log = m.writing.log; busy = m.writing.busy } in
    let allowed : take_refusal s (takes_of s token) ≡ None = sym (c.take_refusal.ensures.refusal is.settled is.known s is.looks) ∙ c.in_default.is in
    let may : MayBeTaken s token = may_be_taken s token allowed in
    let found : IsFree is.settled (Some (c.in-Some-first_free.number, c.in-Some-first_free.pointer)) (free s) = subst (λ (o : Option (ℕ × Pointer)). IsFree is.settled o (free s)) c.in-Some-first_free.is (c.first_free.ensures is.settled is.known s is.looks) in
    let free_is = free_first is.settled c.in-Some-first_free.number c.in-Some-first_free.pointer (free s) found in
    let between = g.D.Disk.told c.read_event.new.writing.disk in
    let mid : Logged = record { places = m.held; log = c.read_event.new.writing.log; busy = c.read_event.new.writing.busy } in
    let same : between ≡ told = c.read_event.ensures.same in
    let bytes : mid.log.bytes ≡ old.log.bytes = ap (λ (w : Writer). w.bytes) c.read_event.ensures.log in
    let state : IsStateOf between mid s = subst (λ (n : ℕ). IsStateOf between (record old { log = mid.log; busy = n }) s) (sym c.read_event.ensures.busy) (kept_state told between old mid.log s same c.read_event.ensures.log is (λ still. c.read_event.ensures.placed is.settled is.known free_is.0 (is.placed still) ((is.placed still).within c.in-Some-first_free.pointer free_is.0 free_is.3))) in
    let told' = g.D.Disk.told c.take_read.new.writing.disk in
    let new : Logged = record { places = c.take_read.new.held; log = c.take_read.new.writing.log; busy = c.take_read.new.writing.busy } in
    subst (λ (v : Option Told). IfOk c.take_read.result (λ taken. taken.spilled ≡ true → Tells v told' (HadNoRoom (room_of s 17 (size_of_list (takes_of s token)))))) same (c.take_read.ensures.full s state may.still))

pub returns-in-Ok-clause-no_room : goal.returns-in-Ok-clause-no_room
returns-in-Ok-clause-no_room g c = rw (← c.self.view_is) (λ s is.
    let m = c.self.inside in
    let told = g.D.Disk.told m.writing.disk in
    let token = c.args.txn.now in
    let old : Logged = record { places = m.held; log = m.writing.log; busy = m.writing.busy } in
    let allowed : take_refusal s (takes_of s token) ≡ None = sym (c.take_refusal.ensures.refusal is.settled is.known s is.looks) ∙ c.in_default.is in
    let may : MayBeTaken s token = may_be_taken s token allowed in
    let found : IsFree is.settled (Some (c.in-Some-first_free.number, c.in-Some-first_free.pointer)) (free s) = subst (λ (o : Option (ℕ × Pointer)). IsFree is.settled o (free s)) c.in-Some-first_free.is (c.first_free.ensures is.settled is.known s is.looks) in
    let free_is = free_first is.settled c.in-Some-first_free.number c.in-Some-first_free.pointer (free s) found in
    let between = g.D.Disk.told c.read_event.new.writing.disk in
    let mid : Logged = record { places = m.held; log = c.read_event.new.writing.log; busy = c.read_event.new.writing.busy } in
    let same : between ≡ told = c.read_event.ensures.same in
    let bytes : mid.log.bytes ≡ old.log.bytes = ap (λ (w : Writer). w.bytes) c.read_event.ensures.log in
    let state : IsStateOf between mid s = subst (λ (n : ℕ). IsStateOf between (record old { log = mid.log; busy = n }) s) (sym c.read_event.ensures.busy) (kept_state told between old mid.log s same c.read_event.ensures.log is (λ still. c.read_event.ensures.placed is.settled is.known free_is.0 (is.placed still) ((is.placed still).within c.in-Some-first_free.pointer free_is.0 free_is.3))) in
    subst (λ (l : List ℕ). IsErrOf c.take_read.result TakeNo.DiskFault → HasNoRoom (length l) (room_of s 17 (size_of_list (takes_of s token)))) bytes (c.take_read.ensures.no_room s state may.still))

pub invariant_of-self-in-Err : goal.invariant_of-self-in-Err
invariant_of-self-in-Err g c =
    let m = c.self.inside in
    let told = g.D.Disk.told m.writing.disk in
    let token = c.args.txn.now in
    let old : Logged = record { places = m.held; log = m.writing.log; busy = m.writing.busy } in
    let s : State = c.self.invariant.0 in
    let is = c.self.invariant.1 in
    let allowed : take_refusal s (takes_of s token) ≡ None = sym (c.take_refusal.ensures.refusal is.settled is.known s is.looks) ∙ c.in_default.is in
    let may : MayBeTaken s token = may_be_taken s token allowed in
    let found : IsFree is.settled (Some (c.in-Some-first_free.number, c.in-Some-first_free.pointer)) (free s) = subst (λ (o : Option (ℕ × Pointer)). IsFree is.settled o (free s)) c.in-Some-first_free.is (c.first_free.ensures is.settled is.known s is.looks) in
    let free_is = free_first is.settled c.in-Some-first_free.number c.in-Some-first_free.pointer (free s) found in
    let between = g.D.Disk.told c.read_event.new.writing.disk in
    let mid : Logged = record { places = m.held; log = c.read_event.new.writing.log; busy = c.read_event.new.writing.busy } in
    let same : between ≡ told = c.read_event.ensures.same in
    let bytes : mid.log.bytes ≡ old.log.bytes = ap (λ (w : Writer). w.bytes) c.read_event.ensures.log in
    let state : IsStateOf between mid s = subst (λ (n : ℕ). IsStateOf between (record old { log = mid.log; busy = n }) s) (sym c.read_event.ensures.busy) (kept_state told between old mid.log s same c.read_event.ensures.log is (λ still. c.read_event.ensures.placed is.settled is.known free_is.0 (is.placed still) ((is.placed still).within c.in-Some-first_free.pointer free_is.0 free_is.3))) in
    let steps : Steps told between old mid (Take token (Err c.of_read.result)) s = subst (λ (e : TakeRefused). Steps told between old mid (Take token (Err e)) s) (sym c.of_read.ensures)
    (unread_steps told between old mid token c.in-Err.refused c.in-Some-first_free.number free_is.0 free_is.1 s is allowed free_is.2 (c.in-Err.ensures.gives is.settled is.known free_is.0 (is.placed may.still) ((is.placed may.still).within c.in-Some-first_free.pointer free_is.0 free_is.3)) state bytes) in
    (after s (Take token (Err c.of_read.result)), steps.stands)

pub returns-in-Err-clause-step : goal.returns-in-Err-clause-step
returns-in-Err-clause-step g c = rw (← c.self.view_is) (λ s is.
    let m = c.self.inside in
    let told = g.D.Disk.told m.writing.disk in
    let token = c.args.txn.now in
    let old : Logged = record { places = m.held; log = m.writing.log; busy = m.writing.busy } in
    let allowed : take_refusal s (takes_of s token) ≡ None = sym (c.take_refusal.ensures.refusal is.settled is.known s is.looks) ∙ c.in_default.is in
    let may : MayBeTaken s token = may_be_taken s token allowed in
    let found : IsFree is.settled (Some (c.in-Some-first_free.number, c.in-Some-first_free.pointer)) (free s) = subst (λ (o : Option (ℕ × Pointer)). IsFree is.settled o (free s)) c.in-Some-first_free.is (c.first_free.ensures is.settled is.known s is.looks) in
    let free_is = free_first is.settled c.in-Some-first_free.number c.in-Some-first_free.pointer (free s) found in
    let between = g.D.Disk.told c.read_event.new.writing.disk in
    let mid : Logged = record { places = m.held; log = c.read_event.new.writing.log; busy = c.read_event.new.writing.busy } in
    let same : between ≡ told = c.read_event.ensures.same in
    let bytes : mid.log.bytes ≡ old.log.bytes = ap (λ (w : Writer). w.bytes) c.read_event.ensures.log in
    let state : IsStateOf between mid s = subst (λ (n : ℕ). IsStateOf between (record old { log = mid.log; busy = n }) s) (sym c.read_event.ensures.busy) (kept_state told between old mid.log s same c.read_event.ensures.log is (λ still. c.read_event.ensures.placed is.settled is.known free_is.0 (is.placed still) ((is.placed still).within c.in-Some-first_free.pointer free_is.0 free_is.3))) in
    let steps : Steps told between old mid (Take token (Err c.of_read.result)) s = subst (λ (e : TakeRefused). Steps told between old mid (Take token (Err e)) s) (sym c.of_read.ensures)
    (unread_steps told between old mid token c.in-Err.refused c.in-Some-first_free.number free_is.0 free_is.1 s is allowed free_is.2 (c.in-Err.ensures.gives is.settled is.known free_is.0 (is.placed may.still) ((is.placed may.still).within c.in-Some-first_free.pointer free_is.0 free_is.3)) state bytes) in
    steps)

-- a take that is refused

pub returns-in-Some-clause-step : goal.returns-in-Some-clause-step
returns-in-Some-clause-step g c = rw (← c.self.view_is) (λ s is.
    let m = c.self.inside in
    let token = c.args.txn.now in
    let refused : take_refusal s (takes_of s token) ≡ Some c.in-Some.refused = sym (c.take_refusal.ensures.refusal is.settled is.known s is.looks) ∙ c.in-Some.is in
    take_refuses (g.D.Disk.told m.writing.disk) (record { places = m.held; log = m.writing.log; busy = m.writing.busy }) token c.in-Some.refused s is refused)

pub returns-in-Some-clause-never : goal.returns-in-Some-clause-never
returns-in-Some-clause-never g c = λ counter spent.
    let m = c.self.inside in
    let token = c.args.txn.now in
    let s : State = c.self.invariant.0 in
    let is = c.self.invariant.1 in
    let refused : take_refusal s (takes_of s token) ≡ Some c.in-Some.refused = sym (c.take_refusal.ensures.refusal is.settled is.known s is.looks) ∙ c.in-Some.is in
    (take_quietly s (takes_of s token) c.in-Some.refused refused).2 counter (let same : c.in-Some.refused ≡ TakeNo.Spent counter = cc in same)

pub returns-in-Some-clause-any_moment : goal.returns-in-Some-clause-any_moment
returns-in-Some-clause-any_moment g c = rw (← c.self.view_is) (λ s is flushed.
    let m = c.self.inside in
    let token = c.args.txn.now in
    let refused : take_refusal s (takes_of s token) ≡ Some c.in-Some.refused = sym (c.take_refusal.ensures.refusal is.settled is.known s is.looks) ∙ c.in-Some.is in
    absurd ((take_quietly s (takes_of s token) c.in-Some.refused refused).1 (flushes_take token c.in-Some.refused flushed)))

pub returns-in-Some-clause-read : goal.returns-in-Some-clause-read
returns-in-Some-clause-read g c = λ fault.
    let m = c.self.inside in
    let token = c.args.txn.now in
    let s : State = c.self.invariant.0 in
    let is = c.self.invariant.1 in
    let refused : take_refusal s (takes_of s token) ≡ Some c.in-Some.refused = sym (c.take_refusal.ensures.refusal is.settled is.known s is.looks) ∙ c.in-Some.is in
    absurd ((take_quietly s (takes_of s token) c.in-Some.refused refused).0 (let same : c.in-Some.refused ≡ TakeNo.ReadFault = cc in same))

pub returns-in-Some-clause-fault : goal.returns-in-Some-clause-fault
returns-in-Some-clause-fault g c = λ fault.
    let m = c.self.inside in
    let token = c.args.txn.now in
    let s : State = c.self.invariant.0 in
    let is = c.self.invariant.1 in
    let refused : take_refusal s (takes_of s token) ≡ Some c.in-Some.refused = sym (c.take_refusal.ensures.refusal is.settled is.known s is.looks) ∙ c.in-Some.is in
    absurd ((take_quietly s (takes_of s token) c.in-Some.refused refused).1 (let same : c.in-Some.refused ≡ TakeNo.DiskFault = cc in same))

pub returns-in-Some-clause-no_room : goal.returns-in-Some-clause-no_room
returns-in-Some-clause-no_room g c = rw (← c.self.view_is) (λ s is fault.
    let m = c.self.inside in
    let token = c.args.txn.now in
    let refused : take_refusal s (takes_of s token) ≡ Some c.in-Some.refused = sym (c.take_refusal.ensures.refusal is.settled is.known s is.looks) ∙ c.in-Some.is in
    absurd ((take_quietly s (takes_of s token) c.in-Some.refused refused).1 (let same : c.in-Some.refused ≡ TakeNo.DiskFault = cc in same)))

pub returns-in-Ok-clause-fills : goal.returns-in-Ok-clause-fills
returns-in-Ok-clause-fills g c = rw (← c.self.view_is) (λ s is flushed.
    let m = c.self.inside in
    let told = g.D.Disk.told m.writing.disk in
    let token = c.args.txn.now in
    let old : Logged = record { places = m.held; log = m.writing.log; busy = m.writing.busy } in
    let allowed : take_refusal s (takes_of s token) ≡ None = sym (c.take_refusal.ensures.refusal is.settled is.known s is.looks) ∙ c.in_default.is in
    let may : MayBeTaken s token = may_be_taken s token allowed in
    let found : IsFree is.settled (Some (c.in-Some-first_free.number, c.in-Some-first_free.pointer)) (free s) = subst (λ (o : Option (ℕ × Pointer)). IsFree is.settled o (free s)) c.in-Some-first_free.is (c.first_free.ensures is.settled is.known s is.looks) in
    let free_is = free_first is.settled c.in-Some-first_free.number c.in-Some-first_free.pointer (free s) found in
    let between = g.D.Disk.told c.read_event.new.writing.disk in
    let mid : Logged = record { places = m.held; log = c.read_event.new.writing.log; busy = c.read_event.new.writing.busy } in
    let same : between ≡ told = c.read_event.ensures.same in
    let bytes : mid.log.bytes ≡ old.log.bytes = ap (λ (w : Writer). w.bytes) c.read_event.ensures.log in
    let state : IsStateOf between mid s = subst (λ (n : ℕ). IsStateOf between (record old { log = mid.log; busy = n }) s) (sym c.read_event.ensures.busy) (kept_state told between old mid.log s same c.read_event.ensures.log is (λ still. c.read_event.ensures.placed is.settled is.known free_is.0 (is.placed still) ((is.placed still).within c.in-Some-first_free.pointer free_is.0 free_is.3))) in
    let told' = g.D.Disk.told c.take_read.new.writing.disk in
    let new : Logged = record { places = c.take_read.new.held; log = c.take_read.new.writing.log; busy = c.take_read.new.writing.busy } in
    subst (λ (v : Option Told). Tells v told' (FillsFiles s.rules.limits.max_file (length old.log.bytes))) same
    (subst (λ (b : List ℕ). Tells between told' (FillsFiles s.rules.limits.max_file (length b))) bytes (c.take_read.ensures.fills s state may.still flushed)))

pub returns-in-Some-clause-fills : goal.returns-in-Some-clause-fills
returns-in-Some-clause-fills g c = rw (← c.self.view_is) (λ s is flushed.
    let m = c.self.inside in
    let token = c.args.txn.now in
    let refused : take_refusal s (takes_of s token) ≡ Some c.in-Some.refused = sym (c.take_refusal.ensures.refusal is.settled is.known s is.looks) ∙ c.in-Some.is in
    absurd ((take_quietly s (takes_of s token) c.in-Some.refused refused).1 (flushes_take token c.in-Some.refused flushed)))
