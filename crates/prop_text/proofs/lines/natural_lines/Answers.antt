use Rattle.std.proofs.Common.{◌≡◌, ◌<◌, ◌≤◌, ◌+◌, ◌-◌, length, subst, ◌++◌, ◌∷◌, [], List, ℕ, take, drop, ap, sym, ◌∙◌, arith}
use Rattle.std.proofs.lemmas.List.{take_rest, map_push, length-take, length-drop}
use Rattle.std.proofs.lemmas.Str.{IsCharBoundary-start}
use Rattle.std.specs.Str.{IsCharBoundary}
use Rattle.prop_text.specs.Lines.{end_len}
use Rattle.prop_text.specs.Views.{texts}
use Rattle.prop_text.proofs.LineSteps.{with_front-natural_lines, line_goes, line_joins, after_end}
use Rattle.prop_text.proofs.lines.natural_lines.Goals as goal

pub loop-at-init : goal.loop-at-init
loop-at-init c = record {
  ordered = omega arith;
  within = omega arith;
  count = omega (arith, c.new-lines.ensures.len);
  boundary = IsCharBoundary-start c.as_bytes-bytes.result.now c.as_bytes-bytes.ensures.utf8;
  lines = rw c.new-lines.ensures.items (with_front-natural_lines c.as_bytes-bytes.result.now);
}

pub loop-at-preserved-then-len-eq0 : goal.loop-at-preserved-then-len-eq0
loop-at-preserved-then-len-eq0 c =
    let text = c.as_bytes-bytes.result.now in
    let at = c.loop-at.at in
    let len : end_len (drop at text) ≡ 0 = ap end_len (sym (take_rest text at)) ∙ sym c.end_len-len.ensures.value ∙ c.if-len-eq0.true in
    record {
      ordered = omega arith;
      within = omega arith;
      count = omega (arith, c.loop-at.invariant.count);
      boundary = c.loop-at.invariant.boundary;
      lines = ap (λ (x : List (List ℕ)). texts c.loop-at.lines.items ++ x) (sym (line_goes text c.loop-at.start at c.loop-at.invariant.ordered c.loop-at-test.true len)) ∙ c.loop-at.invariant.lines;
    }

pub loop-at-preserved : goal.loop-at-preserved
loop-at-preserved c =
    let text = c.as_bytes-bytes.result.now in
    let at = c.loop-at.at in
    let start = c.loop-at.start in
    let n = c.end_len-len.result in
    let len : end_len (drop at text) ≡ n = ap end_len (sym (take_rest text at)) ∙ sym c.end_len-len.ensures.value in
    let some : 0 < n = omega arith in
    let pushed : texts c.push.new.self.items ≡ texts c.loop-at.lines.items ++ take (at - start) (drop start text) ∷ [] =
    ap texts c.in_ok-push.ensures.items ∙ map_push _ c.loop-at.lines.items c.range.result
    ∙ ap (λ (x : List ℕ). texts c.loop-at.lines.items ++ x ∷ []) (rw (← c.as_bytes-bytes.ensures.value) at c.range.ensures.value) in
    let within : at + n ≤ length text = omega (arith, c.end_len-len.ensures.within, length-take (length text - at) (drop at text), length-drop at text) in
    let positive : 0 < end_len (drop at text) = omega arith in
    record {
      ordered = omega arith;
      within = within;
      count = omega (arith, c.loop-at.invariant.count, c.in_ok-push.ensures.len);
      boundary = subst (λ (k : ℕ). IsCharBoundary text (at + k)) len (after_end text at c.as_bytes-bytes.ensures.utf8 c.loop-at-test.true positive (omega arith));
      lines = rw pushed (line_joins text start at c.loop-at.invariant.ordered c.loop-at-test.true n (texts c.loop-at.lines.items) len some c.loop-at.invariant.lines);
    }
