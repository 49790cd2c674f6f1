use Rattle.std.proofs.Common.{◌≡◌, ◌++◌, true, false, List, ℕ, get_or, filter, ap, sym, ◌∙◌, arith}
use Rattle.std.proofs.lemmas.Str.{IsCharBoundary-start, IsCharBoundary-after_ascii}
use Rattle.prop_text.specs.Lines.{is_white_space}
use Rattle.prop_text.proofs.LineSteps.{white_space_is_ascii}
use Rattle.prop_text.specs.Views.{texts}
use Rattle.plan_judging.specs.Words.{is_word}
use Rattle.plan_judging.proofs.WordSteps.{with_front-pieces, word_goes, word_joins}
use Rattle.plan_judging.proofs.values.words.Goals as goal

pub loop-at-init : goal.loop-at-init
loop-at-init c = record {
  ordered = omega arith;
  within = omega arith;
  boundary = IsCharBoundary-start c.as_bytes-bytes.result.now c.as_bytes-bytes.ensures.utf8;
  words = rw c.new-found.ensures.items (ap (filter is_word) (with_front-pieces c.as_bytes-bytes.result.now));
}

pub loop-at-preserved-then-is_white_space : goal.loop-at-preserved-then-is_white_space
loop-at-preserved-then-is_white_space c =
    let text = c.as_bytes-bytes.result.now in
    let at = c.loop-at.at in
    let start = c.loop-at.start in
    let before = c.loop-at.invariant in
    let white : is_white_space (get_or text at 0) ≡ true = sym c.is_white_space.ensures ∙ c.if-is_white_space.true in
    let pushed = rw (← c.as_bytes-bytes.ensures.value) at c.in_ok-push_word.ensures in
    record {
      ordered = omega arith;
      within = omega arith;
      boundary = IsCharBoundary-after_ascii text at c.as_bytes-bytes.ensures.utf8 c.loop-at-test.true (white_space_is_ascii (get_or text at 0) white);
      words = rw pushed (word_joins text start at before.ordered c.loop-at-test.true (texts c.loop-at.found.items) white before.words);
    }

pub loop-at-preserved : goal.loop-at-preserved
loop-at-preserved c =
    let text = c.as_bytes-bytes.result.now in
    let at = c.loop-at.at in
    let start = c.loop-at.start in
    let before = c.loop-at.invariant in
    let black : is_white_space (get_or text at 0) ≡ false = sym c.is_white_space.ensures ∙ c.if-is_white_space.false in
    record {
      ordered = omega (arith, before.ordered);
      within = omega arith;
      boundary = before.boundary;
      words = ap (λ (x : List (List ℕ)). texts c.loop-at.found.items ++ filter is_word x) (sym (word_goes text start at before.ordered c.loop-at-test.true black)) ∙ before.words;
    }
