use Rattle.std.proofs.Common.{◌≡◌, ◌∙◌, inl, inr, Option, Some, false, sym, ap, subst}
use Rattle.std.specs.Prelude.{IfSome}
use Rattle.channel_log.specs.Writer.{Writer}
use Rattle.channel_face.specs.Machine.{State}
use Rattle.checkpoint_opening.specs.declared.opening.NewestCheck.{NewestCheck}
use Rattle.file_channel.specs.Laid.{AreChecks, CheckState, IsNeeded}
use Rattle.file_channel.specs.Placed.{Logged}
use Rattle.file_channel.proofs.Dropping.{prune_steps, pruned_as, pruned_checks, settled_still}
use Rattle.file_channel.proofs.Stepping.{same_broken}
use Rattle.file_channel.proofs.logged.LoggedPlaces.prune.Goals as goal
use Rattle.file_channel.proofs.logged.LoggedPlaces.prune.Goals.{in-Ok, in-Err}

pub returns-in_default-clause-any_moment : goal.returns-in_default-clause-any_moment
returns-in_default-clause-any_moment g c =
    let m = c.self.inside in
    rw (← c.self.view_is) (λ s is still. settled_still (g.D.Disk.told m.writing.disk) (record { places = m.held; log = m.writing.log; busy = m.writing.busy }) s is still)

pub prune_log-requires-clause-low : goal.prune_log-requires-clause-low
prune_log-requires-clause-low g c = λ t there.
    let m = c.self.inside in
    let told = g.D.Disk.told m.writing.disk in
    let old : Logged = record { places = m.held; log = m.writing.log; busy = m.writing.busy } in
    let laid = c.in-Some.laid in
    let whole : m.held.numbers.broken ≡ false = sym c.is_broken.ensures ∙ c.if-is_broken.false in
    let checks : AreChecks told c.args.checks.now = subst (λ v. AreChecks (g.D.Disk.told v.0) c.args.checks.now) (sym c.self.view_is) c.requires in
    let newest : c.args.checks.now.laid ≡ Some laid = sym (ap (λ (v : CheckState). v.laid) c.checks.view_is) ∙ c.in-Some.is in
    let needed : IsNeeded told laid = subst (λ (l : Option NewestCheck). IfSome l (IsNeeded told)) newest checks.needed in
    let s : State = c.self.invariant.0 in
    let is = c.self.invariant.1 in
    let still : s.broken ≡ false = sym (same_broken is.settled is.known m.held s is.looks) ∙ whole in
    ((is.placed still).needing t there laid.least laid.number (needed t there)).own

pub prune_log-requires-clause-needs : goal.prune_log-requires-clause-needs
prune_log-requires-clause-needs g c =
    let m = c.self.inside in
    let told = g.D.Disk.told m.writing.disk in
    let old : Logged = record { places = m.held; log = m.writing.log; busy = m.writing.busy } in
    let laid = c.in-Some.laid in
    let whole : m.held.numbers.broken ≡ false = sym c.is_broken.ensures ∙ c.if-is_broken.false in
    let checks : AreChecks told c.args.checks.now = subst (λ v. AreChecks (g.D.Disk.told v.0) c.args.checks.now) (sym c.self.view_is) c.requires in
    let newest : c.args.checks.now.laid ≡ Some laid = sym (ap (λ (v : CheckState). v.laid) c.checks.view_is) ∙ c.in-Some.is in
    let needed : IsNeeded told laid = subst (λ (l : Option NewestCheck). IfSome l (IsNeeded told)) newest checks.needed in
    needed

pub invariant_of-self : goal.invariant_of-self
invariant_of-self g c =
    let m = c.self.inside in
    let told = g.D.Disk.told m.writing.disk in
    let told' = g.D.Disk.told c.prune_log.new.writing.disk in
    let old : Logged = record { places = m.held; log = m.writing.log; busy = m.writing.busy } in
    let laid = c.in-Some.laid in
    let whole : m.held.numbers.broken ≡ false = sym c.is_broken.ensures ∙ c.if-is_broken.false in
    let checks : AreChecks told c.args.checks.now = subst (λ v. AreChecks (g.D.Disk.told v.0) c.args.checks.now) (sym c.self.view_is) c.requires in
    let newest : c.args.checks.now.laid ≡ Some laid = sym (ap (λ (v : CheckState). v.laid) c.checks.view_is) ∙ c.in-Some.is in
    let needed : IsNeeded told laid = subst (λ (l : Option NewestCheck). IfSome l (IsNeeded told)) newest checks.needed in
    let s : State = c.self.invariant.0 in
    let is = c.self.invariant.1 in
    let still : s.broken ≡ false = sym (same_broken is.settled is.known m.held s is.looks) ∙ whole in
    let e = c.prune_log.ensures in
    (s, pruned_as told told' old c.prune_log.new.writing.log c.prune_log.new.writing.busy s laid is still e.kept needed (g.met.D.Disk.reads_are_left c.prune_log.new.writing.disk) e.log e.busy (e.logged s (is.whole.logged still)))

pub returns-clause-step : goal.returns-clause-step
returns-clause-step g c = rw (← c.self.view_is) (λ s is.
    let m = c.self.inside in
    let told = g.D.Disk.told m.writing.disk in
    let told' = g.D.Disk.told c.prune_log.new.writing.disk in
    let old : Logged = record { places = m.held; log = m.writing.log; busy = m.writing.busy } in
    let laid = c.in-Some.laid in
    let whole : m.held.numbers.broken ≡ false = sym c.is_broken.ensures ∙ c.if-is_broken.false in
    let checks : AreChecks told c.args.checks.now = subst (λ v. AreChecks (g.D.Disk.told v.0) c.args.checks.now) (sym c.self.view_is) c.requires in
    let newest : c.args.checks.now.laid ≡ Some laid = sym (ap (λ (v : CheckState). v.laid) c.checks.view_is) ∙ c.in-Some.is in
    let needed : IsNeeded told laid = subst (λ (l : Option NewestCheck). IfSome l (IsNeeded told)) newest checks.needed in
    let still : s.broken ≡ false = sym (same_broken is.settled is.known m.held s is.looks) ∙ whole in
    let e = c.prune_log.ensures in
    let new : Logged = record { places = m.held; log = c.prune_log.new.writing.log; busy = c.prune_log.new.writing.busy } in
    let stands = pruned_as told told' old c.prune_log.new.writing.log c.prune_log.new.writing.busy s laid is still e.kept needed (g.met.D.Disk.reads_are_left c.prune_log.new.writing.disk) e.log e.busy (e.logged s (is.whole.logged still)) in
    prune_steps told told' old new s c.match-prune_log.result is still stands (ap (λ (w : Writer). w.bytes) e.log)
    (elim c.match-prune_log.branch [
      | in-Ok w ↦ inr (w.in-Ok.count, w.result-is)
      | in-Err w ↦ inl w.result-is
    ]))

pub returns-clause-checks : goal.returns-clause-checks
returns-clause-checks g c =
    let m = c.self.inside in
    let told = g.D.Disk.told m.writing.disk in
    let checks : AreChecks told c.args.checks.now = subst (λ v. AreChecks (g.D.Disk.told v.0) c.args.checks.now) (sym c.self.view_is) c.requires in
    let newest : c.args.checks.now.laid ≡ Some c.in-Some.laid = sym (ap (λ (v : CheckState). v.laid) c.checks.view_is) ∙ c.in-Some.is in
    pruned_checks told (g.D.Disk.told c.prune_log.new.writing.disk) c.args.checks.now c.in-Some.laid newest (g.met.D.Disk.reads_are_left m.writing.disk) c.prune_log.ensures.kept checks
