use Rattle.std.proofs.Common.{length, arith, sym, ap, ◌∙◌}
use Rattle.std.specs.String.{string_bytes}
use Rattle.event_core.specs.Content.{with_header, headers_size}
use Rattle.event_core.specs.Texts.{pairs_bytes}
use Rattle.event_core.proofs.HeaderLemmas.{size-insert_new, size-insert_old, with_header-pairs}
use Rattle.event_core.proofs.event.Headers.set.Goals as goal
use Rattle.event_core.proofs.event.Headers.set.Goals.{in-Some, in-None}

pub overflow_sub-self-in-Some : goal.overflow_sub-self-in-Some
overflow_sub-self-in-Some c =
    let entries = c.self.inside.entries.entries in
    let traded = size-insert_old entries c.in_ok-new_key.new_key c.in_ok-new_value.new_value c.in-Some.old c.in_ok-replaced.ensures.was_ordered (sym c.in_ok-replaced.ensures.old ∙ c.in-Some.is) in
    omega (arith, traded, ap length c.as_str.ensures.value, ap length c.in_ok-new_value.ensures.ok, c.self.invariant)

pub invariant_of-self-2 : goal.invariant_of-self-2
invariant_of-self-2 c =
    let entries = c.self.inside.entries.entries in
    let k = c.in_ok-new_key.new_key in
    let v = c.in_ok-new_value.new_value in
    let sizes = ap (λ es. headers_size (pairs_bytes es)) c.in_ok-replaced.ensures.entries in
    elim c.match-replaced.branch [
      | in-Some w ↦
          let traded = size-insert_old entries k v w.in-Some.old c.in_ok-replaced.ensures.was_ordered (sym c.in_ok-replaced.ensures.old ∙ w.in-Some.is) in
          (omega (arith, traded, sizes, ap length w.as_str.ensures.value, ap length c.in_ok-new_value.ensures.ok, c.self.invariant.0), omega (arith))
      | in-None w ↦
          let added = size-insert_new entries k v (sym c.in_ok-replaced.ensures.old ∙ w.in-None.is) in
          (omega (arith, added, sizes, ap length c.in_ok-new_key.ensures.ok, ap length c.in_ok-new_value.ensures.ok, c.self.invariant.0), omega (arith))
    ]

pub returns-clause-ok : goal.returns-clause-ok
returns-clause-ok c =
    ap pairs_bytes c.in_ok-replaced.ensures.entries
    ∙ with_header-pairs c.self.inside.entries.entries c.in_ok-new_key.new_key c.in_ok-new_value.new_value
    ∙ ap (λ hs. with_header hs (string_bytes c.in_ok-new_key.new_key) (string_bytes c.in_ok-new_value.new_value)) c.self.view_is
    ∙ ap (λ k. with_header c.args.self.now k (string_bytes c.in_ok-new_value.new_value)) c.in_ok-new_key.ensures.ok
    ∙ ap (λ v. with_header c.args.self.now c.args.key.now v) c.in_ok-new_value.ensures.ok
