use Rattle.std.proofs.Common.{◌∙◌, ◌≤◌, All, List, length, take, sym, ap, subst, arith}
use Rattle.std.proofs.lemmas.List.Elements.{All-push}
use Rattle.agent_drafts.specs.declared.draft.SourceDraft.{SourceDraft}
use Rattle.agent_drafts.specs.Drafts.{IsDraftAt, many_at}
use Rattle.agent_drafts.proofs.Dealing.{still_first, used_next}
use Rattle.agent_drafts.proofs.Ordered.{order_more, turns_more}
use Rattle.agent_drafts.proofs.drafting.add_drafts.Goals as goal

pub draft_at-requires-clause-enough : goal.draft_at-requires-clause-enough
draft_at-requires-clause-enough g c =
    let many = many_at c.args.sources.now c.args.at in
    let old = c.args.objects.now.items in
    let now = c.loop-place.objects.items in
    let first = still_first many c.args.count c.loop-place.place old now now c.requires.once c.loop-place-test.true c.loop-place.invariant.rest in
    let some : 1 ≤ c.args.count = omega (arith, c.loop-place-test.true) in
    subst (λ (l : List g.row.B.Denot). many ≤ length l) (sym first) (c.requires.enough some)

pub loop-place-preserved : goal.loop-place-preserved
loop-place-preserved g c =
    let D = SourceDraft g.row.B.Denot in
    let inv = c.loop-place.invariant in
    let sources = c.args.sources.now in
    let names = c.args.names.now in
    let many = many_at sources c.args.at in
    let old = c.args.objects.now.items in
    let now = c.loop-place.objects.items in
    let next = c.draft_at.new.objects.items in
    let first = still_first many c.args.count c.loop-place.place old now next c.requires.once c.loop-place-test.true inv.rest in
    let some : 1 ≤ c.args.count = omega (arith, c.loop-place-test.true) in
    let before = c.args.drafts.now.items in
    let drafts = c.loop-place.drafts.items in
    let after = c.push.new.self.items in
    let made = c.in_ok-draft_at.field-0 in
    let is = c.in_ok-push.ensures.items in
    record {
      order = order_more (λ (d : D). d.source) before drafts after made is c.args.at c.loop-place.place c.in_ok-draft_at.ensures.source inv.order;
      turns = turns_more (λ (d : D). d.place) before drafts after made is c.loop-place.place c.in_ok-draft_at.ensures.place inv.turns;
      each = λ all own were.
          let P = λ (d : D). IsDraftAt sources all names d in
          let mine = ap (take many) first ∙ own some in
          subst (All P) (sym is) (All-push P drafts made (inv.each all own were) (c.in_ok-draft_at.ensures.draft all mine));
      rest = used_next many c.args.count c.loop-place.place old now next c.requires.once c.loop-place-test.true inv.rest c.in_ok-draft_at.ensures.rest;
    }
