use Rattle.std.proofs.Common.{Vec, Global, ◌≡◌, ◌<◌, ◌≤◌, ◌+◌, ◌∙◌, ℕ, List, take, get_or, length, Some, sym, ap, subst, arith}
use Rattle.std.specs.Prelude.{slice_get}
use Rattle.std.proofs.lemmas.Option.{slice_get-get_or}
use Rattle.std.proofs.lemmas.List.{get_or_default, take_all}
use Rattle.flume_host.specs.Folder.{Files, IsImage}
use Rattle.flume_host.specs.Told.{Told, IsLeftAt, under_way}
use Rattle.flume_host.proofs.Keeps.{settled}
use Rattle.host_memory.specs.declared.parts.MemFile.{MemFile}
use Rattle.host_memory.specs.declared.parts.MemCall.{MemCall}
use Rattle.host_memory.specs.Laws.{told_sound}
use Rattle.host_memory.specs.Parts.{files_of, call_of, start, told_of}
use Rattle.host_memory.specs.declared.stops.Stood.{Stood}
use Rattle.host_memory.specs.Stops.{chosen, image_after, image_by, image_chosen, image_torn, reads_by}
use Rattle.host_memory.proofs.Choosing.{chosen_after, chosen_within, image_after-next}
use Rattle.host_memory.proofs.Tearing.{image_left, left_after_all, left_within_call, reads_step, run_more, torn_left}
use Rattle.host_memory.proofs.stops.image_at.Goals as goal
use Rattle.host_memory.proofs.stops.image_at.Goals.{then-done-calls+in_ok-tear, else-done-calls}

pub loop-i-init : goal.loop-i-init
loop-i-init c =
    let first = c.args.first.now in
    let P : Files → Type 0 = λ f. IsImage (start first).now f in
    (c.in_ok-files.ensures, subst P (sym c.in_ok-image.ensures) (λ n. settled (files_of first n)), c.in_ok-image.ensures)

pub loop-i-preserved : goal.loop-i-preserved
loop-i-preserved c =
    let first = c.args.first.now in
    let calls = c.args.calls.now in
    let i = c.loop-i.i in
    let call : MemCall = c.index-calls-i.result in
    let below : i < length calls = omega (arith, c.loop-i-test.true, c.min-done.ensures) in
    let is : call ≡ get_or calls i call = c.index-calls-i.is in
    let t : Told = told_of first (take i calls) in
    let more = run_more first calls i call below is in
    let stood = c.choice_at.result in
    let stands = chosen c.args.choices.now in
    let image : Files = files_of c.loop-i.image.items in
    let P : Told → Type 0 = λ u. IsImage u.now (image_by call.outcome stood (call_of call.change) t.reads image) in
    let Q : Files → Type 0 = λ f. IsImage (told_of first (take (i + 1) calls)).now f in (
      c.in_ok-reread.ensures ∙ ap (λ (f : Files). reads_by call.outcome (call_of call.change) f) c.loop-i.invariant.0 ∙ sym (reads_step call.outcome (call_of call.change) t) ∙ ap (λ (u : Told). u.reads) (sym more),
      subst Q (sym (c.in_ok-leave.ensures ∙ ap (λ (r : Files). image_by call.outcome stood (call_of call.change) r image) c.loop-i.invariant.0))
          (subst P (sym more) (image_left call.outcome stood (call_of call.change) t image (told_sound first (take i calls)) c.loop-i.invariant.1)),
      c.in_ok-leave.ensures
          ∙ ap (λ (r : Files). image_by call.outcome stood (call_of call.change) r image) c.loop-i.invariant.0
          ∙ ap (λ (s : Stood). image_by call.outcome s (call_of call.change) t.reads image) c.choice_at.ensures
          ∙ ap (λ (f : Files). image_by call.outcome (stands i) (call_of call.change) t.reads f) c.loop-i.invariant.2
          ∙ sym (image_after-next stands first calls i call (slice_get-get_or calls i call below ∙ ap (λ (m : MemCall). Some m) (sym is))),
    )

pub returns-clause-left : goal.returns-clause-left
returns-clause-left c =
    let first = c.args.first.now in
    let calls = c.args.calls.now in
    let i = c.loop-i.i in
    let t : Told = told_of first (take i calls) in
    let before : Files = files_of c.loop-i.image.items in
    let all : i ≡ c.min-done.result = omega (arith, c.loop-i-test.false, c.loop-i.auto.i-end) in
    elim c.if-done-calls.branch [
      | then-done-calls+in_ok-tear w ↦
          let call : MemCall = get_or calls c.min-done.result w.index-calls-done.result in
          let below : i < length calls = omega (arith, all, w.if-done-calls.true) in
          let is : call ≡ get_or calls i call = get_or_default calls c.min-done.result w.index-calls-done.result call w.if-done-calls.true ∙ ap (λ (k : ℕ). get_or calls k call) (sym all) in
          let same : i ≡ c.args.moment = omega (arith, all, c.min-done.ensures, w.if-done-calls.true) in
          let image : files_of c.if-done-calls.image.items ≡ image_torn w.choice_at-then-done-calls.result (call_of call.change) before = ap (λ (v : Vec MemFile Global). files_of v.items) w.image-is ∙ w.in_ok-tear.ensures in
          let P : ℕ → Type 0 = λ m. IsLeftAt (told_of first calls) m (files_of c.if-done-calls.image.items) in
          let Q : Files → Type 0 = λ f. IsImage (under_way (call_of call.change) t.now) f in
          subst P same (left_within_call first calls i call (files_of c.if-done-calls.image.items) below is (subst Q (sym image) (torn_left w.choice_at-then-done-calls.result (call_of call.change) t.now before c.loop-i.invariant.1)))
      | else-done-calls w ↦
          let whole : told_of first (take i calls) ≡ told_of first calls = ap (λ (l : List MemCall). told_of first l) (take_all i calls (omega (arith, all, w.if-done-calls.false))) in
          let after : length calls ≤ c.args.moment = omega (arith, c.min-done.ensures, w.if-done-calls.false) in
          let image : files_of c.if-done-calls.image.items ≡ before = ap (λ (v : Vec MemFile Global). files_of v.items) w.image-is in
          let P : Told → Type 0 = λ u. IsImage u.now before in
          let Q : Files → Type 0 = λ f. IsImage (told_of first calls).now f in
          left_after_all first calls c.args.moment (files_of c.if-done-calls.image.items) after (subst Q (sym image) (subst P whole c.loop-i.invariant.1))
    ]

pub returns-clause-chosen : goal.returns-clause-chosen
returns-clause-chosen c =
    let first = c.args.first.now in
    let calls = c.args.calls.now in
    let i = c.loop-i.i in
    let stands = chosen c.args.choices.now in
    let before : Files = files_of c.loop-i.image.items in
    let all : i ≡ c.min-done.result = omega (arith, c.loop-i-test.false, c.loop-i.auto.i-end) in
    elim c.if-done-calls.branch [
      | then-done-calls+in_ok-tear w ↦
          let call : MemCall = get_or calls c.min-done.result w.index-calls-done.result in
          let there : slice_get calls i ≡ Some call = ap (λ (k : ℕ). slice_get calls k) all ∙ slice_get-get_or calls c.min-done.result w.index-calls-done.result w.if-done-calls.true in
          let same : i ≡ c.args.moment = omega (arith, all, c.min-done.ensures, w.if-done-calls.true) in
          let stood : w.choice_at-then-done-calls.result ≡ stands i = w.choice_at-then-done-calls.ensures ∙ ap (λ (k : ℕ). stands k) (sym all) in
          let P : ℕ → Type 0 = λ m. files_of c.if-done-calls.image.items ≡ image_chosen stands first calls m in
          subst P same (
          ap (λ (v : Vec MemFile Global). files_of v.items) w.image-is
          ∙ w.in_ok-tear.ensures
          ∙ ap (λ (s : Stood). image_torn s (call_of call.change) before) stood
          ∙ ap (λ (f : Files). image_torn (stands i) (call_of call.change) f) c.loop-i.invariant.2
          ∙ sym (chosen_within stands first calls i call there)
          )
      | else-done-calls w ↦
          let last : i ≡ length calls = omega (arith, all, c.min-done.ensures, w.if-done-calls.false) in
          let after : length calls ≤ c.args.moment = omega (arith, c.min-done.ensures, w.if-done-calls.false) in
          ap (λ (v : Vec MemFile Global). files_of v.items) w.image-is
          ∙ c.loop-i.invariant.2
          ∙ ap (λ (k : ℕ). image_after stands first calls k) last
          ∙ sym (chosen_after stands first calls c.args.moment after)
    ]
