use Rattle.std.proofs.Common.{rules, ◌<◌, ◌≤◌, ◌-◌, ◌^◌, inr, Ok, Err, ℕ, length, refl, sym, ◌∙◌, ap, subst}
use Rattle.event_core.specs.Journal.{Base, IsBase}
use Rattle.channel_face.specs.Machine.{Front, Reopen, Reopened, State, after}
use Rattle.channel_face.specs.declared.replies.Counter.TheVariants.{Life}
use Rattle.channel_face.specs.declared.replies.OpenCause.TheVariants as causes
use Rattle.channel_writing.specs.Folders.{IsRefused}
use Rattle.file_channel.specs.Laid.{AreChecks}
use Rattle.file_channel.specs.Placed.{Logged}
use Rattle.file_channel.proofs.Begun as openings
use Rattle.file_channel.proofs.Free.{checks_spared}
use Rattle.file_channel.proofs.Reopening.{leaves_over, leaves_still, limit_of, not_spent, opens_anew, refused_anew, refused_early, reopened, spent_anew}
use Rattle.file_channel.proofs.logged.LoggedPlaces.reopen.Goals as goal

none_kept : Reopened
none_kept = record { kept = Front 0; txn = 0 }

-- no life is left

pub invariant_of-self : goal.invariant_of-self
invariant_of-self g c =
    let m = c.self.inside in
    let i = c.self.invariant in
    let old : Logged = record { places = m.held; log = m.writing.log; busy = m.writing.busy } in
    (after i.0 (Reopen (Err (causes.Spent Life))), (spent_anew (g.D.Disk.told m.writing.disk) old c.set_broken.new.self (sym c.life.ensures ∙ c.if-life.true) c.set_broken.ensures.looks i.0 i.1).stands)

pub returns-then-life-clause-step : goal.returns-then-life-clause-step
returns-then-life-clause-step g c =
    let m = c.self.inside in
    let old : Logged = record { places = m.held; log = m.writing.log; busy = m.writing.busy } in
    rw (← c.self.view_is) (none_kept, spent_anew (g.D.Disk.told m.writing.disk) old c.set_broken.new.self (sym c.life.ensures ∙ c.if-life.true) c.set_broken.ensures.looks)

pub returns-then-life-clause-any_moment : goal.returns-then-life-clause-any_moment
returns-then-life-clause-any_moment g c =
    let m = c.self.inside in
    rw (← c.self.view_is) (leaves_still (g.D.Disk.told m.writing.disk) (record { places = m.held; log = m.writing.log; busy = m.writing.busy }))

-- when out of memory

pub invariant_of-self-in_default : goal.invariant_of-self-in_default
invariant_of-self-in_default g c =
    let m = c.self.inside in
    let i = c.self.invariant in
    let old : Logged = record { places = m.held; log = m.writing.log; busy = m.writing.busy } in
    let life : m.held.numbers.life < 2 ^ 64 - 1 = search rules in
    (after i.0 (Reopen (Err causes.NoMemory)), (refused_early (g.D.Disk.told m.writing.disk) old c.set_broken-in_default.new.self life c.set_broken-in_default.ensures.looks i.0 i.1).stands)

pub returns-in_default-clause-step : goal.returns-in_default-clause-step
returns-in_default-clause-step g c =
    let m = c.self.inside in
    let old : Logged = record { places = m.held; log = m.writing.log; busy = m.writing.busy } in
    let life : m.held.numbers.life < 2 ^ 64 - 1 = search rules in
    rw (← c.self.view_is) (none_kept, refused_early (g.D.Disk.told m.writing.disk) old c.set_broken-in_default.new.self life c.set_broken-in_default.ensures.looks)

pub returns-in_default-clause-any_moment : goal.returns-in_default-clause-any_moment
returns-in_default-clause-any_moment g c =
    let m = c.self.inside in
    rw (← c.self.view_is) (leaves_still (g.D.Disk.told m.writing.disk) (record { places = m.held; log = m.writing.log; busy = m.writing.busy }))

pub returns-in_default-clause-spent : goal.returns-in_default-clause-spent
returns-in_default-clause-spent g c =
    let m = c.self.inside in
    let life : m.held.numbers.life < 2 ^ 64 - 1 = search rules in
    rw (← c.self.view_is) (λ s is most. absurd (not_spent (g.D.Disk.told m.writing.disk) (record { places = m.held; log = m.writing.log; busy = m.writing.busy }) life s is most))

pub returns-in_default-clause-refused : goal.returns-in_default-clause-refused
returns-in_default-clause-refused g c =
    let m = c.self.inside in
    rw (← c.self.view_is) (λ s is. inr (openings.refused_early (g.D.Disk.told m.writing.disk) (g.D.Disk.faults m.writing.disk) s.rules.limits.capacity))

-- the folder was opened anew

pub renew-requires : goal.renew-requires
renew-requires g c =
    let ready = c.in-Ok-reopen_log.ensures.ready in
    let begun = c.in-Ok-reopen_log.ensures.begun in
    record {
      ends = c.in-Ok.ensures;
      left = (begun.known, begun.base.items, begun.left, subst IsBase (ap (λ (n : ℕ). let b : Base = record { items = begun.base.items; first = n } in b) begun.first) begun.rises);
      slots = ready.slots ∙ c.capacity-capacity.ensures;
      room = subst (λ (n : ℕ). length c.in-Ok-reopen_log.replayed.ring.live ≤ n) c.capacity-capacity.ensures ready.within;
      below = ready.top;
      txn = ready.txn;
      life = search rules;
    }

pub invariant_of-self-in-Ok-reopen_log : goal.invariant_of-self-in-Ok-reopen_log
invariant_of-self-in-Ok-reopen_log g c =
    let m = c.self.inside in
    let i = c.self.invariant in
    let told = g.D.Disk.told m.writing.disk in
    let told' = g.D.Disk.told c.reopen_log.new.disk in
    let old : Logged = record { places = m.held; log = m.writing.log; busy = m.writing.busy } in
    let found = c.in-Ok-reopen_log in
    let life : m.held.numbers.life < 2 ^ 64 - 1 = search rules in
    let did = reopened told told' old c.renew.new.self found.log found.replayed c.capacity-capacity.result c.max_file-max_file.result i (g.met.D.Disk.reads_are_left m.writing.disk) life c.max_file-max_file.ensures found.ensures.begun found.ensures.waits c.renew.ensures.looks c.renew.ensures.opened in
    (after i.0 (Reopen (Ok (record { kept = did.0; txn = found.replayed.next.txn }))), (did.1 i.0 i.1).stands)

pub returns-in-Ok-reopen_log-clause-step : goal.returns-in-Ok-reopen_log-clause-step
returns-in-Ok-reopen_log-clause-step g c =
    let m = c.self.inside in
    let told = g.D.Disk.told m.writing.disk in
    let told' = g.D.Disk.told c.reopen_log.new.disk in
    let old : Logged = record { places = m.held; log = m.writing.log; busy = m.writing.busy } in
    let found = c.in-Ok-reopen_log in
    let life : m.held.numbers.life < 2 ^ 64 - 1 = search rules in
    let did = reopened told told' old c.renew.new.self found.log found.replayed c.capacity-capacity.result c.max_file-max_file.result c.self.invariant (g.met.D.Disk.reads_are_left m.writing.disk) life c.max_file-max_file.ensures found.ensures.begun found.ensures.waits c.renew.ensures.looks c.renew.ensures.opened in
    let kept : Reopened = record { kept = did.0; txn = found.replayed.next.txn } in
    rw (← c.self.view_is) (kept, did.1)

pub returns-in-Ok-reopen_log-clause-opens : goal.returns-in-Ok-reopen_log-clause-opens
returns-in-Ok-reopen_log-clause-opens g c =
    let m = c.self.inside in
    let i = c.self.invariant in
    let told = g.D.Disk.told m.writing.disk in
    let told' = g.D.Disk.told c.reopen_log.new.disk in
    let old : Logged = record { places = m.held; log = m.writing.log; busy = m.writing.busy } in
    let found = c.in-Ok-reopen_log in
    let new : Logged = record { places = c.renew.new.self; log = found.log; busy = 0 } in
    let life : m.held.numbers.life < 2 ^ 64 - 1 = search rules in
    let did = reopened told told' old c.renew.new.self found.log found.replayed c.capacity-capacity.result c.max_file-max_file.result i (g.met.D.Disk.reads_are_left m.writing.disk) life c.max_file-max_file.ensures found.ensures.begun found.ensures.waits c.renew.ensures.looks c.renew.ensures.opened in
    let was : State = after i.0 (Reopen (Ok (record { kept = did.0; txn = found.replayed.next.txn }))) in
    rw (← c.self.view_is) (opens_anew told told' new found.replayed c.capacity-capacity.result c.max_file-max_file.result found.ensures.begun (g.met.D.Disk.reads_are_left c.reopen_log.new.disk) found.ensures.stays was (did.1 i.0 i.1).stands refl refl (sym (limit_of told old i.0 i.1) ∙ sym c.capacity-capacity.ensures))

pub returns-in-Ok-reopen_log-clause-any_moment : goal.returns-in-Ok-reopen_log-clause-any_moment
returns-in-Ok-reopen_log-clause-any_moment g c =
    let m = c.self.inside in
    rw (← c.self.view_is) (leaves_over (g.D.Disk.told m.writing.disk) (g.D.Disk.told c.reopen_log.new.disk) (record { places = m.held; log = m.writing.log; busy = m.writing.busy }) (g.met.D.Disk.reads_are_left m.writing.disk) c.in-Ok-reopen_log.ensures.any_moment)

pub returns-in-Ok-reopen_log-clause-spent : goal.returns-in-Ok-reopen_log-clause-spent
returns-in-Ok-reopen_log-clause-spent g c =
    let m = c.self.inside in
    let life : m.held.numbers.life < 2 ^ 64 - 1 = search rules in
    rw (← c.self.view_is) (λ s is most. absurd (not_spent (g.D.Disk.told m.writing.disk) (record { places = m.held; log = m.writing.log; busy = m.writing.busy }) life s is most))

-- and where that was refused

pub invariant_of-self-in-Err-reopen_log : goal.invariant_of-self-in-Err-reopen_log
invariant_of-self-in-Err-reopen_log g c =
    let m = c.self.inside in
    let i = c.self.invariant in
    let old : Logged = record { places = m.held; log = m.writing.log; busy = m.writing.busy } in
    let life : m.held.numbers.life < 2 ^ 64 - 1 = search rules in
    let e = c.in-Err.ensures.refused in
    (after i.0 (Reopen (Err c.in-Err.cause)), (refused_anew (g.D.Disk.told m.writing.disk) (g.D.Disk.told c.reopen_log.new.disk) old c.set_broken-in-Err.new.self c.in-Err.cause (g.met.D.Disk.reads_are_left m.writing.disk) life e.counter e.images c.set_broken-in-Err.ensures.looks i.0 i.1).stands)

pub returns-in-Err-clause-step : goal.returns-in-Err-clause-step
returns-in-Err-clause-step g c =
    let m = c.self.inside in
    let old : Logged = record { places = m.held; log = m.writing.log; busy = m.writing.busy } in
    let life : m.held.numbers.life < 2 ^ 64 - 1 = search rules in
    let e = c.in-Err.ensures.refused in
    rw (← c.self.view_is) (none_kept, refused_anew (g.D.Disk.told m.writing.disk) (g.D.Disk.told c.reopen_log.new.disk) old c.set_broken-in-Err.new.self c.in-Err.cause (g.met.D.Disk.reads_are_left m.writing.disk) life e.counter e.images c.set_broken-in-Err.ensures.looks)

pub returns-in-Err-clause-any_moment : goal.returns-in-Err-clause-any_moment
returns-in-Err-clause-any_moment g c =
    let m = c.self.inside in
    rw (← c.self.view_is) (leaves_over (g.D.Disk.told m.writing.disk) (g.D.Disk.told c.reopen_log.new.disk) (record { places = m.held; log = m.writing.log; busy = m.writing.busy }) (g.met.D.Disk.reads_are_left m.writing.disk) c.in-Err.ensures.refused.images)

pub returns-in-Err-clause-spent : goal.returns-in-Err-clause-spent
returns-in-Err-clause-spent g c =
    let m = c.self.inside in
    let life : m.held.numbers.life < 2 ^ 64 - 1 = search rules in
    rw (← c.self.view_is) (λ s is most. absurd (not_spent (g.D.Disk.told m.writing.disk) (record { places = m.held; log = m.writing.log; busy = m.writing.busy }) life s is most))

pub returns-in-Err-clause-refused : goal.returns-in-Err-clause-refused
returns-in-Err-clause-refused g c =
    let m = c.self.inside in
    let told = g.D.Disk.told m.writing.disk in
    let old : Logged = record { places = m.held; log = m.writing.log; busy = m.writing.busy } in
    rw (← c.self.view_is) (λ s is. inr (subst (λ (n : ℕ). IsRefused told (g.D.Disk.told c.reopen_log.new.disk) (g.D.Disk.faults m.writing.disk) (g.D.Disk.faults c.reopen_log.new.disk) n c.in-Err.cause) (c.capacity-capacity.ensures ∙ limit_of told old s is) c.in-Err.ensures.refused))

-- what is known of checkpoints

pub returns-in-Ok-reopen_log-clause-newest : goal.returns-in-Ok-reopen_log-clause-newest
returns-in-Ok-reopen_log-clause-newest g c = rw (← c.self.view_is) c.in-Ok-reopen_log.ensures.newest

pub returns-in-Err-clause-checks : goal.returns-in-Err-clause-checks
returns-in-Err-clause-checks g c =
    let m = c.self.inside in
    let told = g.D.Disk.told m.writing.disk in
    let checks : AreChecks told c.args.checks.now = subst (λ v. AreChecks (g.D.Disk.told v.0) c.args.checks.now) (sym c.self.view_is) c.requires in
    checks_spared told (g.D.Disk.told c.reopen_log.new.disk) c.args.checks.now (g.met.D.Disk.reads_are_left m.writing.disk) c.in-Err.ensures.keeps checks
