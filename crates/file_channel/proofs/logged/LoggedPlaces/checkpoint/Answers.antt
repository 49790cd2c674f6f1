use Rattle.std.specs.Prelude.{IfSome, Option}
use Rattle.std.proofs.Common.{rules, ◌≡◌, ◌∙◌, ◌+◌, ℕ, Err, false, length, sym, ap, subst}
use Rattle.flume_host.specs.Folder.{Files, IsImage}
use Rattle.flume_host.specs.Told.{Tells, WhereTold}
use Rattle.channel_log.specs.Writer.{Writer}
use Rattle.channel_face.specs.Machine.{State, Checkpoint, after, settle}
use Rattle.channel_face.specs.declared.replies.CheckRefused.TheVariants as CheckNo
use Rattle.checkpoint.specs.Text.{CheckText}
use Rattle.checkpoint_opening.specs.declared.opening.NewestCheck.{NewestCheck}
use Rattle.file_channel.specs.Laid.{AreChecks, AreFree, CheckState, IsLaidOf, IsNeeded, Lays, MayStand, end_of_log}
use Rattle.file_channel.specs.Placed.{Logged}
use Rattle.file_channel.proofs.Checkpoints.{check_fails, check_steps, disk_fails, flushed_bare, flushed_only, flushed_then, free_laid, lays_then, ok_given}
use Rattle.file_channel.proofs.Free.{checks_spared, free_spared, keeps_flushed, some_needed}
use Rattle.file_channel.proofs.Stepping.{same_broken}
use Rattle.file_channel.proofs.logged.LoggedPlaces.checkpoint.Goals as goal

-- the flush failed

pub invariant_of-self : goal.invariant_of-self
invariant_of-self g c =
    let m = c.self.inside in
    let told = g.D.Disk.told m.writing.disk in
    let mid = g.D.Disk.told c.settle_staged.new.writing.disk in
    let old : Logged = record { places = m.held; log = m.writing.log; busy = m.writing.busy } in
    let new : Logged = record { places = c.settle_staged.new.held; log = c.settle_staged.new.writing.log; busy = c.settle_staged.new.writing.busy } in
    let whole : m.held.numbers.broken ≡ false = search rules in
    let s : State = c.self.invariant.0 in
    let is = c.self.invariant.1 in
    let still : s.broken ≡ false = sym (same_broken is.settled is.known m.held s is.looks) ∙ whole in
    (after s (Checkpoint (Err CheckNo.DiskFault)), (disk_fails told mid old new s is still (c.in-Err.ensures.failed s is still) c.in-Err.ensures.refused).stands)

pub returns-in-Err-clause-any_moment : goal.returns-in-Err-clause-any_moment
returns-in-Err-clause-any_moment g c = rw (← c.self.view_is) (λ s is tried.
    let m = c.self.inside in
    let told = g.D.Disk.told m.writing.disk in
    let mid = g.D.Disk.told c.settle_staged.new.writing.disk in
    let old : Logged = record { places = m.held; log = m.writing.log; busy = m.writing.busy } in
    let new : Logged = record { places = c.settle_staged.new.held; log = c.settle_staged.new.writing.log; busy = c.settle_staged.new.writing.busy } in
    let whole : m.held.numbers.broken ≡ false = search rules in
    let still : s.broken ≡ false = sym (same_broken is.settled is.known m.held s is.looks) ∙ whole in
    (still, flushed_only told mid s (c.in-Err.ensures.any_moment s is still)))

pub returns-in-Err-clause-checks : goal.returns-in-Err-clause-checks
returns-in-Err-clause-checks g c =
    let m = c.self.inside in
    let told = g.D.Disk.told m.writing.disk in
    let mid = g.D.Disk.told c.settle_staged.new.writing.disk in
    let old : Logged = record { places = m.held; log = m.writing.log; busy = m.writing.busy } in
    let new : Logged = record { places = c.settle_staged.new.held; log = c.settle_staged.new.writing.log; busy = c.settle_staged.new.writing.busy } in
    let whole : m.held.numbers.broken ≡ false = search rules in
    let s : State = c.self.invariant.0 in
    let is = c.self.invariant.1 in
    let still : s.broken ≡ false = sym (same_broken is.settled is.known m.held s is.looks) ∙ whole in
    let checks : AreChecks told c.args.checks.now = subst (λ v. AreChecks (g.D.Disk.told v.0) c.args.checks.now) (sym c.self.view_is) c.requires in
    checks_spared told mid c.args.checks.now (g.met.D.Disk.reads_are_left m.writing.disk) (keeps_flushed told mid s (c.in-Err.ensures.any_moment s is still)) checks

-- it went well, and a checkpoint was laid

pub lay_places-least-requires-clause-bare : goal.lay_places-least-requires-clause-bare
lay_places-least-requires-clause-bare g c =
    let m = c.self.inside in
    let told = g.D.Disk.told m.writing.disk in
    let mid = g.D.Disk.told c.settle_staged.new.writing.disk in
    let old : Logged = record { places = m.held; log = m.writing.log; busy = m.writing.busy } in
    let new : Logged = record { places = c.settle_staged.new.held; log = c.settle_staged.new.writing.log; busy = c.settle_staged.new.writing.busy } in
    let whole : m.held.numbers.broken ≡ false = search rules in
    let s : State = c.self.invariant.0 in
    let is = c.self.invariant.1 in
    let still : s.broken ≡ false = sym (same_broken is.settled is.known m.held s is.looks) ∙ whole in
    (settle s, flushed_bare told mid old new s is still (c.in-Ok-settle_staged.ensures.fits s is still) c.in-Ok-settle_staged.ensures.empty)

pub lay_places-least-requires-clause-unused : goal.lay_places-least-requires-clause-unused
lay_places-least-requires-clause-unused g c =
    let m = c.self.inside in
    let told = g.D.Disk.told m.writing.disk in
    let mid = g.D.Disk.told c.settle_staged.new.writing.disk in
    let old : Logged = record { places = m.held; log = m.writing.log; busy = m.writing.busy } in
    let new : Logged = record { places = c.settle_staged.new.held; log = c.settle_staged.new.writing.log; busy = c.settle_staged.new.writing.busy } in
    let whole : m.held.numbers.broken ≡ false = search rules in
    let s : State = c.self.invariant.0 in
    let is = c.self.invariant.1 in
    let still : s.broken ≡ false = sym (same_broken is.settled is.known m.held s is.looks) ∙ whole in
    let checks : AreChecks told c.args.checks.now = subst (λ v. AreChecks (g.D.Disk.told v.0) c.args.checks.now) (sym c.self.view_is) c.requires in
    let same : c.in-Ok.number ≡ c.args.checks.now.next = search rules in
    subst (λ (n : ℕ). AreFree mid n) (sym same) (free_spared told mid c.args.checks.now.next (keeps_flushed told mid s (c.in-Ok-settle_staged.ensures.any_moment s is still)) checks.free)

pub invariant_of-self-2 : goal.invariant_of-self-2
invariant_of-self-2 g c =
    let m = c.self.inside in
    let told = g.D.Disk.told m.writing.disk in
    let mid = g.D.Disk.told c.settle_staged.new.writing.disk in
    let old : Logged = record { places = m.held; log = m.writing.log; busy = m.writing.busy } in
    let new : Logged = record { places = c.settle_staged.new.held; log = c.settle_staged.new.writing.log; busy = c.settle_staged.new.writing.busy } in
    let whole : m.held.numbers.broken ≡ false = search rules in
    let s : State = c.self.invariant.0 in
    let is = c.self.invariant.1 in
    let still : s.broken ≡ false = sym (same_broken is.settled is.known m.held s is.looks) ∙ whole in
    let bare = flushed_bare told mid old new s is still (c.in-Ok-settle_staged.ensures.fits s is still) c.in-Ok-settle_staged.ensures.empty in
    (settle s, c.lay_places-least.ensures.stands (settle s) bare)

pub invariant_of-self-in-Err-laid : goal.invariant_of-self-in-Err-laid
invariant_of-self-in-Err-laid g c =
    let m = c.self.inside in
    let told = g.D.Disk.told m.writing.disk in
    let mid = g.D.Disk.told c.settle_staged.new.writing.disk in
    let old : Logged = record { places = m.held; log = m.writing.log; busy = m.writing.busy } in
    let new : Logged = record { places = c.settle_staged.new.held; log = c.settle_staged.new.writing.log; busy = c.settle_staged.new.writing.busy } in
    let whole : m.held.numbers.broken ≡ false = search rules in
    let s : State = c.self.invariant.0 in
    let is = c.self.invariant.1 in
    let still : s.broken ≡ false = sym (same_broken is.settled is.known m.held s is.looks) ∙ whole in
    let bare = flushed_bare told mid old new s is still (c.in-Ok-settle_staged.ensures.fits s is still) c.in-Ok-settle_staged.ensures.empty in
    (settle s, c.lay_places-least.ensures.stands (settle s) bare)

pub returns-in-Err-laid-clause-step : goal.returns-in-Err-laid-clause-step
returns-in-Err-laid-clause-step g c = rw (← c.self.view_is) (λ s is.
    let m = c.self.inside in
    let told = g.D.Disk.told m.writing.disk in
    let mid = g.D.Disk.told c.settle_staged.new.writing.disk in
    let old : Logged = record { places = m.held; log = m.writing.log; busy = m.writing.busy } in
    let new : Logged = record { places = c.settle_staged.new.held; log = c.settle_staged.new.writing.log; busy = c.settle_staged.new.writing.busy } in
    let whole : m.held.numbers.broken ≡ false = search rules in
    let now = g.D.Disk.told c.lay_places-least.new.writing.disk in
    let end : Logged = record { places = c.settle_staged.new.held; log = c.lay_places-least.new.writing.log; busy = c.lay_places-least.new.writing.busy } in
    let still : s.broken ≡ false = sym (same_broken is.settled is.known m.held s is.looks) ∙ whole in
    let bare = flushed_bare told mid old new s is still (c.in-Ok-settle_staged.ensures.fits s is still) c.in-Ok-settle_staged.ensures.empty in
    check_fails told now old end s is still (c.lay_places-least.ensures.stands (settle s) bare) (ap (λ (w : Writer). w.bytes) c.lay_places-least.ensures.log ∙ c.in-Ok-settle_staged.ensures.empty))

pub returns-in-Err-laid-clause-any_moment : goal.returns-in-Err-laid-clause-any_moment
returns-in-Err-laid-clause-any_moment g c = rw (← c.self.view_is) (λ s is tried.
    let m = c.self.inside in
    let told = g.D.Disk.told m.writing.disk in
    let mid = g.D.Disk.told c.settle_staged.new.writing.disk in
    let old : Logged = record { places = m.held; log = m.writing.log; busy = m.writing.busy } in
    let new : Logged = record { places = c.settle_staged.new.held; log = c.settle_staged.new.writing.log; busy = c.settle_staged.new.writing.busy } in
    let whole : m.held.numbers.broken ≡ false = search rules in
    let now = g.D.Disk.told c.lay_places-least.new.writing.disk in
    let end : Logged = record { places = c.settle_staged.new.held; log = c.lay_places-least.new.writing.log; busy = c.lay_places-least.new.writing.busy } in
    let still : s.broken ≡ false = sym (same_broken is.settled is.known m.held s is.looks) ∙ whole in
    let bare = flushed_bare told mid old new s is still (c.in-Ok-settle_staged.ensures.fits s is still) c.in-Ok-settle_staged.ensures.empty in
    (still, flushed_then told mid now s (c.in-Ok-settle_staged.ensures.any_moment s is still) (c.lay_places-least.ensures.any_moment (settle s) bare)))

pub returns-in-Err-laid-clause-lays : goal.returns-in-Err-laid-clause-lays
returns-in-Err-laid-clause-lays g c = rw (← c.self.view_is) (λ s is made.
    let m = c.self.inside in
    let told = g.D.Disk.told m.writing.disk in
    let mid = g.D.Disk.told c.settle_staged.new.writing.disk in
    let old : Logged = record { places = m.held; log = m.writing.log; busy = m.writing.busy } in
    let new : Logged = record { places = c.settle_staged.new.held; log = c.settle_staged.new.writing.log; busy = c.settle_staged.new.writing.busy } in
    let whole : m.held.numbers.broken ≡ false = search rules in
    let now = g.D.Disk.told c.lay_places-least.new.writing.disk in
    let end : Logged = record { places = c.settle_staged.new.held; log = c.lay_places-least.new.writing.log; busy = c.lay_places-least.new.writing.busy } in
    let still : s.broken ≡ false = sym (same_broken is.settled is.known m.held s is.looks) ∙ whole in
    let same : c.in-Ok.number ≡ c.args.checks.now.next = search rules in
    let changes = c.lay_places-least.ensures.changes in
    subst (λ (n : ℕ). (text : CheckText) × Tells told now (Lays n s.rules.limits.max_file (length m.writing.log.bytes) text)) same
    (changes.0, lays_then told mid now c.in-Ok.number s.rules.limits.max_file (length m.writing.log.bytes) changes.0 (c.in-Ok-settle_staged.ensures.fills s is still) (λ none. (c.in-Ok-settle_staged.ensures.nothing none).1) changes.1))

pub returns-in-Err-laid-clause-left : goal.returns-in-Err-laid-clause-left
returns-in-Err-laid-clause-left g c = rw (← c.self.view_is) (λ s is made.
    let m = c.self.inside in
    let told = g.D.Disk.told m.writing.disk in
    let mid = g.D.Disk.told c.settle_staged.new.writing.disk in
    let old : Logged = record { places = m.held; log = m.writing.log; busy = m.writing.busy } in
    let new : Logged = record { places = c.settle_staged.new.held; log = c.settle_staged.new.writing.log; busy = c.settle_staged.new.writing.busy } in
    let whole : m.held.numbers.broken ≡ false = search rules in
    let now = g.D.Disk.told c.lay_places-least.new.writing.disk in
    let end : Logged = record { places = c.settle_staged.new.held; log = c.lay_places-least.new.writing.log; busy = c.lay_places-least.new.writing.busy } in
    let still : s.broken ≡ false = sym (same_broken is.settled is.known m.held s is.looks) ∙ whole in
    let bare = flushed_bare told mid old new s is still (c.in-Ok-settle_staged.ensures.fits s is still) c.in-Ok-settle_staged.ensures.empty in
    let same : c.in-Ok.number ≡ c.args.checks.now.next = search rules in
    subst (λ (n : ℕ). WhereTold now (λ t. (image : Files) → IsImage t.now image → MayStand n (end_of_log end.log) (settle s) image)) same (c.lay_places-least.ensures.left (settle s) bare))

pub returns-in-Err-laid-clause-checks : goal.returns-in-Err-laid-clause-checks
returns-in-Err-laid-clause-checks g c =
    let m = c.self.inside in
    let told = g.D.Disk.told m.writing.disk in
    let mid = g.D.Disk.told c.settle_staged.new.writing.disk in
    let old : Logged = record { places = m.held; log = m.writing.log; busy = m.writing.busy } in
    let new : Logged = record { places = c.settle_staged.new.held; log = c.settle_staged.new.writing.log; busy = c.settle_staged.new.writing.busy } in
    let whole : m.held.numbers.broken ≡ false = search rules in
    let now = g.D.Disk.told c.lay_places-least.new.writing.disk in
    let end : Logged = record { places = c.settle_staged.new.held; log = c.lay_places-least.new.writing.log; busy = c.lay_places-least.new.writing.busy } in
    let s : State = c.self.invariant.0 in
    let is = c.self.invariant.1 in
    let still : s.broken ≡ false = sym (same_broken is.settled is.known m.held s is.looks) ∙ whole in
    let checks : AreChecks told c.args.checks.now = subst (λ v. AreChecks (g.D.Disk.told v.0) c.args.checks.now) (sym c.self.view_is) c.requires in
    let flushed : AreChecks mid c.args.checks.now = checks_spared told mid c.args.checks.now (g.met.D.Disk.reads_are_left m.writing.disk) (keeps_flushed told mid s (c.in-Ok-settle_staged.ensures.any_moment s is still)) checks in
    let same : c.in-Ok.number ≡ c.args.checks.now.next = search rules in
    let number : c.in-Ok.number ≡ c.checks.inside.next = same ∙ sym (ap (λ (v : CheckState). v.next) c.checks.view_is) in
    let free = subst (λ (n : ℕ). AreFree now (n + 1)) number (free_laid mid now c.in-Ok.number 3 _ c.lay_places-least.ensures.changes.1 (subst (λ (n : ℕ). AreFree mid n) (sym same) flushed.free)) in
    let laid = subst (λ (l : Option NewestCheck). IfSome l (IsNeeded now)) (sym (ap (λ (v : CheckState). v.laid) c.checks.view_is)) (some_needed mid now c.args.checks.now.laid c.lay_places-least.ensures.kept flushed.needed) in
    record { free = free; needed = laid }

pub returns-clause-step : goal.returns-clause-step
returns-clause-step g c = rw (← c.self.view_is) (λ s is.
    let m = c.self.inside in
    let told = g.D.Disk.told m.writing.disk in
    let mid = g.D.Disk.told c.settle_staged.new.writing.disk in
    let old : Logged = record { places = m.held; log = m.writing.log; busy = m.writing.busy } in
    let new : Logged = record { places = c.settle_staged.new.held; log = c.settle_staged.new.writing.log; busy = c.settle_staged.new.writing.busy } in
    let whole : m.held.numbers.broken ≡ false = search rules in
    let now = g.D.Disk.told c.lay_places-least.new.writing.disk in
    let end : Logged = record { places = c.settle_staged.new.held; log = c.lay_places-least.new.writing.log; busy = c.lay_places-least.new.writing.busy } in
    let still : s.broken ≡ false = sym (same_broken is.settled is.known m.held s is.looks) ∙ whole in
    let bare = flushed_bare told mid old new s is still (c.in-Ok-settle_staged.ensures.fits s is still) c.in-Ok-settle_staged.ensures.empty in
    check_steps told now old end s is still (c.lay_places-least.ensures.stands (settle s) bare) (ap (λ (w : Writer). w.bytes) c.lay_places-least.ensures.log ∙ c.in-Ok-settle_staged.ensures.empty))

pub returns-clause-any_moment : goal.returns-clause-any_moment
returns-clause-any_moment g c = rw (← c.self.view_is) (λ s is tried.
    let m = c.self.inside in
    let told = g.D.Disk.told m.writing.disk in
    let mid = g.D.Disk.told c.settle_staged.new.writing.disk in
    let old : Logged = record { places = m.held; log = m.writing.log; busy = m.writing.busy } in
    let new : Logged = record { places = c.settle_staged.new.held; log = c.settle_staged.new.writing.log; busy = c.settle_staged.new.writing.busy } in
    let whole : m.held.numbers.broken ≡ false = search rules in
    let now = g.D.Disk.told c.lay_places-least.new.writing.disk in
    let end : Logged = record { places = c.settle_staged.new.held; log = c.lay_places-least.new.writing.log; busy = c.lay_places-least.new.writing.busy } in
    let still : s.broken ≡ false = sym (same_broken is.settled is.known m.held s is.looks) ∙ whole in
    let bare = flushed_bare told mid old new s is still (c.in-Ok-settle_staged.ensures.fits s is still) c.in-Ok-settle_staged.ensures.empty in
    (still, flushed_then told mid now s (c.in-Ok-settle_staged.ensures.any_moment s is still) (c.lay_places-least.ensures.any_moment (settle s) bare)))

pub returns-clause-lays : goal.returns-clause-lays
returns-clause-lays g c = rw (← c.self.view_is) (λ s is made.
    let m = c.self.inside in
    let told = g.D.Disk.told m.writing.disk in
    let mid = g.D.Disk.told c.settle_staged.new.writing.disk in
    let old : Logged = record { places = m.held; log = m.writing.log; busy = m.writing.busy } in
    let new : Logged = record { places = c.settle_staged.new.held; log = c.settle_staged.new.writing.log; busy = c.settle_staged.new.writing.busy } in
    let whole : m.held.numbers.broken ≡ false = search rules in
    let now = g.D.Disk.told c.lay_places-least.new.writing.disk in
    let end : Logged = record { places = c.settle_staged.new.held; log = c.lay_places-least.new.writing.log; busy = c.lay_places-least.new.writing.busy } in
    let still : s.broken ≡ false = sym (same_broken is.settled is.known m.held s is.looks) ∙ whole in
    let same : c.in-Ok.number ≡ c.args.checks.now.next = search rules in
    let changes = c.lay_places-least.ensures.changes in
    subst (λ (n : ℕ). (text : CheckText) × Tells told now (Lays n s.rules.limits.max_file (length m.writing.log.bytes) text)) same
    (changes.0, lays_then told mid now c.in-Ok.number s.rules.limits.max_file (length m.writing.log.bytes) changes.0 (c.in-Ok-settle_staged.ensures.fills s is still) (λ none. (c.in-Ok-settle_staged.ensures.nothing none).1) changes.1))

pub returns-clause-left : goal.returns-clause-left
returns-clause-left g c = rw (← c.self.view_is) (λ s is made.
    let m = c.self.inside in
    let told = g.D.Disk.told m.writing.disk in
    let mid = g.D.Disk.told c.settle_staged.new.writing.disk in
    let old : Logged = record { places = m.held; log = m.writing.log; busy = m.writing.busy } in
    let new : Logged = record { places = c.settle_staged.new.held; log = c.settle_staged.new.writing.log; busy = c.settle_staged.new.writing.busy } in
    let whole : m.held.numbers.broken ≡ false = search rules in
    let now = g.D.Disk.told c.lay_places-least.new.writing.disk in
    let end : Logged = record { places = c.settle_staged.new.held; log = c.lay_places-least.new.writing.log; busy = c.lay_places-least.new.writing.busy } in
    let still : s.broken ≡ false = sym (same_broken is.settled is.known m.held s is.looks) ∙ whole in
    let bare = flushed_bare told mid old new s is still (c.in-Ok-settle_staged.ensures.fits s is still) c.in-Ok-settle_staged.ensures.empty in
    let same : c.in-Ok.number ≡ c.args.checks.now.next = search rules in
    subst (λ (n : ℕ). WhereTold now (λ t. (image : Files) → IsImage t.now image → MayStand n (end_of_log end.log) (settle s) image)) same (c.lay_places-least.ensures.left (settle s) bare))

pub returns-clause-checks : goal.returns-clause-checks
returns-clause-checks g c =
    let m = c.self.inside in
    let told = g.D.Disk.told m.writing.disk in
    let mid = g.D.Disk.told c.settle_staged.new.writing.disk in
    let old : Logged = record { places = m.held; log = m.writing.log; busy = m.writing.busy } in
    let new : Logged = record { places = c.settle_staged.new.held; log = c.settle_staged.new.writing.log; busy = c.settle_staged.new.writing.busy } in
    let whole : m.held.numbers.broken ≡ false = search rules in
    let now = g.D.Disk.told c.lay_places-least.new.writing.disk in
    let end : Logged = record { places = c.settle_staged.new.held; log = c.lay_places-least.new.writing.log; busy = c.lay_places-least.new.writing.busy } in
    let s : State = c.self.invariant.0 in
    let is = c.self.invariant.1 in
    let still : s.broken ≡ false = sym (same_broken is.settled is.known m.held s is.looks) ∙ whole in
    let checks : AreChecks told c.args.checks.now = subst (λ v. AreChecks (g.D.Disk.told v.0) c.args.checks.now) (sym c.self.view_is) c.requires in
    let flushed : AreChecks mid c.args.checks.now = checks_spared told mid c.args.checks.now (g.met.D.Disk.reads_are_left m.writing.disk) (keeps_flushed told mid s (c.in-Ok-settle_staged.ensures.any_moment s is still)) checks in
    let same : c.in-Ok.number ≡ c.args.checks.now.next = search rules in
    let number : c.in-Ok.number ≡ c.checks.inside.next = same ∙ sym (ap (λ (v : CheckState). v.next) c.checks.view_is) in
    let free = subst (λ (n : ℕ). AreFree now (n + 1)) number (free_laid mid now c.in-Ok.number 3 _ c.lay_places-least.ensures.changes.1 (subst (λ (n : ℕ). AreFree mid n) (sym same) flushed.free)) in
    record { free = free; needed = ok_given c.lay_places-least.result.1 _ c.in-Ok-laid.is c.lay_places-least.ensures.needed }

pub returns-clause-laid : goal.returns-clause-laid
returns-clause-laid g c = rw (← c.self.view_is) (λ s is.
    let m = c.self.inside in
    let told = g.D.Disk.told m.writing.disk in
    let mid = g.D.Disk.told c.settle_staged.new.writing.disk in
    let old : Logged = record { places = m.held; log = m.writing.log; busy = m.writing.busy } in
    let new : Logged = record { places = c.settle_staged.new.held; log = c.settle_staged.new.writing.log; busy = c.settle_staged.new.writing.busy } in
    let whole : m.held.numbers.broken ≡ false = search rules in
    let now = g.D.Disk.told c.lay_places-least.new.writing.disk in
    let end : Logged = record { places = c.settle_staged.new.held; log = c.lay_places-least.new.writing.log; busy = c.lay_places-least.new.writing.busy } in
    let still : s.broken ≡ false = sym (same_broken is.settled is.known m.held s is.looks) ∙ whole in
    let bare = flushed_bare told mid old new s is still (c.in-Ok-settle_staged.ensures.fits s is still) c.in-Ok-settle_staged.ensures.empty in
    let same : c.in-Ok.number ≡ c.args.checks.now.next = search rules in
    subst (λ (n : ℕ). WhereTold now (λ t. IsLaidOf t n (end_of_log end.log) (settle s))) same ((ok_given c.lay_places-least.result.1 _ c.in-Ok-laid.is c.lay_places-least.ensures.laid) (settle s) bare))
