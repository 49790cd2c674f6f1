use Rattle.std.proofs.Common.{◌≡◌, ◌∙◌, take, refl, ap, sym, subst, string_bytes}
use Rattle.plan_judging.specs.Candidates.{adds, seen}
use Rattle.plan_judging.specs.Claims.{wish, wishes, code, clash_with, least_with}
use Rattle.std.proofs.lemmas.List.{take_all}
use Rattle.indexmap.specs.IndexMap.{get}
use Rattle.plan_judging.proofs.Clashes.{with_line, least_clash, least_line, HasLines, same_keys, no_lines, one_more_claim, lines_go_on, claims_more, adds_clashes}
use Rattle.plan_judging.proofs.claims.check_claims.Goals as goal

pub loop-claim-init : goal.loop-claim-init
loop-claim-init c = record { told = refl; lines = no_lines c.new-lines.result c.new-lines.ensures.empty }

pub loop-claim-preserved : goal.loop-claim-preserved
loop-claim-preserved c =
    let start = seen c.args.found.now in
    let claims = c.args.claims.now in
    let claim = c.claim-item.result in
    let before = c.loop-claim.invariant in
    let ws = wishes (take c.loop-claim.claim-index claims) in
    let key = c.key-key.result in
    let now = c.key-key.ensures in
    let first = c.copied-first.result in
    let first_is : first ≡ get same_keys c.loop-claim.lines key = c.copied-first.ensures ∙ c.get.ensures.value in
    let least : first ≡ least_line (code claim.what) (string_bytes claim.text) claim.number ws = first_is ∙ before.lines.each key ∙ (λ i. least_line (now.what i) (now.text i) (now.number i) ws) in
    let more = claims_more claims c.loop-claim.claim-index claim c.loop-claim-test.true c.claim-item.is in
    let line = c.least_with.ensures ∙ ap (λ o. least_with o claim.line) first_is in
    record {
      told =
          c.check_earlier.ensures.is
          ∙ ap (λ s. adds s (clash_with first claim.line)) before.told
          ∙ one_more_claim start ws (wish claim) first least
          ∙ ap (λ l. with_line start (least_clash l)) (sym more);
      lines = subst (HasLines c.insert.new.self) (sym more) (lines_go_on c.loop-claim.lines c.insert.new.self ws (wish claim) key c.least_with.result now.what now.text now.number line c.in_ok-insert.ensures.updates before.lines);
    }

pub returns : goal.returns
returns c =
    let start = seen c.args.found.now in
    let claims = c.args.claims.now in
    record {
      is =
          c.loop-claim.invariant.told
          ∙ ap (λ l. with_line start (least_clash (wishes l))) (take_all c.loop-claim.claim-index claims c.loop-claim-test.false)
          ∙ sym (adds_clashes start (wishes claims));
    }
