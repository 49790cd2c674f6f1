use Rattle.std.proofs.Common.{rules, ◌≡◌, ◌+◌, ℕ, ap, arith, refl, subst, sym}
use Rattle.flume_host.specs.Told.{LeavesOnly, Tells}
use Rattle.channel_log.specs.Writer.{MustRoll, Writer}
use Rattle.channel_places.specs.Looks.{Looks, Places}
use Rattle.channel_writing.specs.Touches.{ChangesAlone}
use Rattle.channel_writing.specs.Written.{MayRecover}
use Rattle.channel_writing.proofs.Flushing.{none_waits}
use Rattle.channel_writing.proofs.Rolling.{fills_begun, fills_here, fills_then, writes_begun, writes_here, writes_next}
use Rattle.file_channel.specs.Placed.{Logged}
use Rattle.file_channel.proofs.Adding.{failed_state, flushed_both, goes_over, goes_then, ok_then}
use Rattle.file_channel.proofs.logged.settle_staged.Goals as goal

pub returns-then-not-must_roll-clause-any_moment : goal.returns-then-not-must_roll-clause-any_moment
returns-then-not-must_roll-clause-any_moment g c = λ s is still.
    let told = g.D.Disk.told c.args.writing.now.disk in
    let told' = g.D.Disk.told c.settle_here.new.writing.disk in
    flushed_both told told' s still (c.settle_here.ensures.any_moment s is still) (writes_here told told' c.args.writing.now.log s ((is.whole.logged still).waits still) c.settle_here.ensures.writes)

pub returns-then-not-must_roll-clause-fills : goal.returns-then-not-must_roll-clause-fills
returns-then-not-must_roll-clause-fills g c = λ s is still.
    let told = g.D.Disk.told c.args.writing.now.disk in
    let told' = g.D.Disk.told c.settle_here.new.writing.disk in
    let w = c.args.writing.now.log in
    let fits : MustRoll w → ⊥ = (let tells = c.must_roll.ensures.must in search rules) in
    fills_here told told' w c.args.writing.now.busy s (is.whole.logged still) still fits c.must_roll.ensures.started c.settle_here.ensures.writes

-- in the next file

pub returns-in-Ok-clause-fills : goal.returns-in-Ok-clause-fills
returns-in-Ok-clause-fills g c = λ s is still.
    let told = g.D.Disk.told c.args.writing.now.disk in
    let mid = g.D.Disk.told c.go_on.new.writing.disk in
    let told' = g.D.Disk.told c.settle_here-in-Ok.new.writing.disk in
    let file : c.go_on.new.writing.log.file ≡ c.args.writing.now.log.file + 1 = ap (λ (w : Writer). w.file) c.in-Ok.ensures.moved in
    fills_then told mid told' c.args.writing.now.log c.args.writing.now.busy s (is.whole.logged still) still (c.if-not-must_roll.ensures.must.0 refl) (c.if-not-must_roll.ensures.framed refl) c.go_on.ensures.begins
    (subst (λ (n : ℕ). Tells mid told' (ChangesAlone n 2)) file c.settle_here-in-Ok.ensures.writes)

pub returns-in-Err-clause-fills : goal.returns-in-Err-clause-fills
returns-in-Err-clause-fills g c = λ s is still.
    let told = g.D.Disk.told c.args.writing.now.disk in
    let told' = g.D.Disk.told c.go_on.new.writing.disk in
    fills_begun told told' c.args.writing.now.log c.args.writing.now.busy s (is.whole.logged still) still (c.if-not-must_roll.ensures.must.0 refl) (c.if-not-must_roll.ensures.framed refl) c.go_on.ensures.begins

pub returns-in-Ok-clause-put : goal.returns-in-Ok-clause-put
returns-in-Ok-clause-put g c = ok_then c.settle_here-in-Ok.result _ _ (λ put token pointer may. put token pointer (c.in-Ok.ensures.put token pointer may)) c.settle_here-in-Ok.ensures.put

pub returns-in-Ok-clause-any_moment : goal.returns-in-Ok-clause-any_moment
returns-in-Ok-clause-any_moment g c = λ s is still.
    let told = g.D.Disk.told c.args.writing.now.disk in
    let mid = g.D.Disk.told c.go_on.new.writing.disk in
    let told' = g.D.Disk.told c.settle_here-in-Ok.new.writing.disk in
    let file : c.go_on.new.writing.log.file ≡ c.args.writing.now.log.file + 1 = ap (λ (w : Writer). w.file) c.in-Ok.ensures.moved in
    let images : Tells told told' (λ t u. LeavesOnly t u (MayRecover s)) = goes_then told mid told' s (c.go_on.ensures.any_moment s is still) (c.settle_here-in-Ok.ensures.any_moment s (c.in-Ok.ensures.state s is still) still) in
    flushed_both told told' s still images
    (writes_next told mid told' c.args.writing.now.log s ((is.whole.logged still).waits still) c.go_on.ensures.begins (subst (λ (n : ℕ). Tells mid told' (ChangesAlone n 2)) file c.settle_here-in-Ok.ensures.writes))

pub returns-in-Ok-clause-nothing : goal.returns-in-Ok-clause-nothing
returns-in-Ok-clause-nothing g c = λ none.
    let rolls = c.if-not-must_roll.ensures.must.0 refl in
    let is = c.requires.1 in
    absurd (omega (arith, rolls.0, none_waits (g.D.Disk.told c.args.writing.now.disk) c.args.writing.now.log c.requires.0 ((is.whole.logged c.requires.2).waits c.requires.2) none))

-- where the next file could not be begun

pub returns-in-Err-clause-failed : goal.returns-in-Err-clause-failed
returns-in-Err-clause-failed g c = λ s is still.
    let told = g.D.Disk.told c.args.writing.now.disk in
    let told' = g.D.Disk.told c.go_on.new.writing.disk in
    let old : Logged = record { places = c.args.held.now; log = c.args.writing.now.log; busy = c.args.writing.now.busy } in
    let new : Logged = record { places = c.set_broken.new.self; log = c.go_on.new.writing.log; busy = c.go_on.new.writing.busy } in
    failed_state told told' old new s is (goes_over told told' s (c.go_on.ensures.any_moment s is still))
    (λ settled known looks. c.set_broken.ensures.looks settled known s (subst (λ (p : Places). Looks settled known p s) (sym c.in-Err.ensures.refused.1) looks))

pub returns-in-Err-clause-any_moment : goal.returns-in-Err-clause-any_moment
returns-in-Err-clause-any_moment g c = λ s is still.
    let told = g.D.Disk.told c.args.writing.now.disk in
    let told' = g.D.Disk.told c.go_on.new.writing.disk in
    flushed_both told told' s still (goes_over told told' s (c.go_on.ensures.any_moment s is still)) (writes_begun told told' c.args.writing.now.log s ((is.whole.logged still).waits still) c.go_on.ensures.begins)

pub returns-in-Err-clause-nothing : goal.returns-in-Err-clause-nothing
returns-in-Err-clause-nothing g c = λ none.
    let rolls = c.if-not-must_roll.ensures.must.0 refl in
    let is = c.requires.1 in
    absurd (omega (arith, rolls.0, none_waits (g.D.Disk.told c.args.writing.now.disk) c.args.writing.now.log c.requires.0 ((is.whole.logged c.requires.2).waits c.requires.2) none))
