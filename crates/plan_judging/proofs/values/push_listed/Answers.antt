use Rattle.std.proofs.Common.{◌≡◌, ◌++◌, ◌∙◌, List, ℕ, OnOk, ap, subst, map, string_bytes}
use Rattle.plan_judging.specs.Words.{listed}
use Rattle.plan_judging.proofs.CommaSteps.{comma_begins, comma_joins, comma_goes, comma_ends, is_comma, no_comma}
use Rattle.plan_judging.proofs.values.push_listed.Goals as goal
use Rattle.plan_judging.proofs.values.push_listed.Goals.{then-byte-eq44+in_ok-push_trimmed, else-byte-eq44+in_ok-push}

pub loop-byte-init : goal.loop-byte-init
loop-byte-init c = rw c.new-piece.ensures.items (comma_begins c.as_bytes-byte-items.result.now (map string_bytes c.args.names.now.items))

pub loop-byte-preserved : goal.loop-byte-preserved
loop-byte-preserved c =
    let text = c.as_bytes-byte-items.result.now in
    let i = c.loop-byte.byte-index in
    elim c.if-byte-eq44.branch [
      | then-byte-eq44+in_ok-push_trimmed w ↦ rw (w.names-is, w.piece-is, w.new-piece-then-byte-eq44.ensures.items, w.in_ok-push_trimmed.ensures)
          (comma_joins text c.loop-byte.piece.items i (map string_bytes c.loop-byte.names.items) _ c.loop-byte-test.true (is_comma _ w.if-byte-eq44.true) c.loop-byte.invariant)
      | else-byte-eq44+in_ok-push w ↦ rw (w.names-is, w.piece-is, w.in_ok-push.ensures.items)
          (comma_goes text c.loop-byte.piece.items i (map string_bytes c.loop-byte.names.items) _ c.loop-byte-test.true (no_comma _ w.if-byte-eq44.false) c.loop-byte.invariant)
    ]

pub returns : goal.returns
returns c =
    let text = c.as_bytes-byte-items.result.now in
    let last = comma_ends text c.loop-byte.piece.items c.loop-byte.byte-index (map string_bytes c.loop-byte.names.items) _ c.loop-byte-test.false c.loop-byte.invariant
    ∙ ap (λ (x : List ℕ). map string_bytes c.args.names.now.items ++ listed x) c.as_bytes-byte-items.ensures.value in
    let P : List (List ℕ) → Type 0 = λ x. OnOk c.push_trimmed-2.result (map string_bytes c.push_trimmed-2.new.names.items ≡ x) in
    subst P last c.push_trimmed-2.ensures
