use Rattle.std.proofs.Common.{◌∙◌, ◌≤◌, ◌<◌, List, length, take, sym, ap, subst, arith}
use Rattle.agent_outside.specs.Ends.{listeners_of}
use Rattle.agent_drafts.specs.Drafts.{inputs_of, many_at}
use Rattle.agent_drafts.proofs.Dealing.{enough_now, left_next, none_used, once_input, once_listening, own_now, same_between}
use Rattle.agent_drafts.proofs.Ordered.{all_drafts, drafts_next, no_drafts}
use Rattle.agent_drafts.proofs.drafting.draft_all.Goals as goal

pub loop-at-init : goal.loop-at-init
loop-at-init g c =
    let sources = c.args.sources.now in
    let names = c.args.names.now in
    let objects = c.args.objects.items in
    record {
      left = sym (none_used sources objects);
      listeners = no_drafts listeners_of sources objects names c.new-listeners.result.items c.new-listeners.ensures.items;
      lines = no_drafts inputs_of sources objects names c.new-lines.result.items c.new-lines.ensures.items;
    }

pub add_drafts-requires : goal.add_drafts-requires
add_drafts-requires g c =
    let sources = c.args.sources.now in
    let at = c.loop-at.at in
    let source = c.index-sources-at in
    let below : at < length sources = omega (arith, c.loop-at-test.true) in
    let few : at < length c.args.names.now = omega (arith, c.loop-at-test.true, c.requires.names) in
    let left = c.loop-at.left.items in
    let n = c.listeners_of-many.result in
    let m = c.inputs_of-inputs.result in
    record {
      sources = below;
      names = few;
      once = once_listening sources at source.result c.args.objects.items left n m below source.is c.loop-at.invariant.left c.listeners_of-many.ensures c.inputs_of-inputs.ensures c.requires.many;
      enough = λ _. enough_now sources at source.result c.args.objects.items left n m below source.is c.loop-at.invariant.left c.listeners_of-many.ensures c.inputs_of-inputs.ensures c.requires.many;
    }

pub add_drafts-requires-in-loop-at : goal.add_drafts-requires-in-loop-at
add_drafts-requires-in-loop-at g c =
    let sources = c.args.sources.now in
    let all = c.args.objects.items in
    let at = c.loop-at.at in
    let source = c.index-sources-at in
    let below : at < length sources = omega (arith, c.loop-at-test.true) in
    let few : at < length c.args.names.now = omega (arith, c.loop-at-test.true, c.requires.names) in
    let left = c.loop-at.left.items in
    let between = c.add_drafts.new.objects.items in
    let n = c.listeners_of-many.result in
    let m = c.inputs_of-inputs.result in
    let lefts = c.loop-at.invariant.left in
    record {
      sources = below;
      names = few;
      once = once_input sources at source.result all left n m below source.is lefts c.listeners_of-many.ensures c.inputs_of-inputs.ensures c.requires.many;
      enough = λ some. subst (λ (l : List g.row.B.Denot). many_at sources at ≤ length l)
          (sym (same_between sources at source.result all left n m below source.is lefts c.listeners_of-many.ensures c.inputs_of-inputs.ensures c.requires.many between c.in_ok-add_drafts.ensures.rest some))
          (enough_now sources at source.result all left n m below source.is lefts c.listeners_of-many.ensures c.inputs_of-inputs.ensures c.requires.many);
    }

pub loop-at-preserved : goal.loop-at-preserved
loop-at-preserved g c =
    let B = g.row.B.Denot in
    let sources = c.args.sources.now in
    let names = c.args.names.now in
    let all = c.args.objects.items in
    let at = c.loop-at.at in
    let source = c.index-sources-at in
    let below : at < length sources = omega (arith, c.loop-at-test.true) in
    let left = c.loop-at.left.items in
    let between = c.add_drafts.new.objects.items in
    let after = c.add_drafts-in-loop-at.new.objects.items in
    let n = c.listeners_of-many.result in
    let m = c.inputs_of-inputs.result in
    let lefts = c.loop-at.invariant.left in
    let listening = c.listeners_of-many.ensures in
    let inputs = c.inputs_of-inputs.ensures in
    let first = c.in_ok-add_drafts.ensures in
    let second = c.in_ok-add_drafts-2.ensures in
    let own = own_now sources at source.result all left n m below source.is lefts listening inputs c.requires.many in
    let own_input = λ (some : 1 ≤ m). ap (take (many_at sources at)) (same_between sources at source.result all left n m below source.is lefts listening inputs c.requires.many between first.rest some) ∙ own in
    record {
      left = left_next sources at source.result all left n m below source.is lefts listening inputs c.requires.many between after first.rest second.rest;
      listeners = drafts_next listeners_of sources all names at n source.result c.loop-at.listeners.items c.add_drafts.new.drafts.items below (listening ∙ ap listeners_of source.is) c.loop-at.invariant.listeners
          first.order first.turns (first.each all (λ _. own) c.loop-at.invariant.listeners.each);
      lines = drafts_next inputs_of sources all names at m source.result c.loop-at.lines.items c.add_drafts-in-loop-at.new.drafts.items below (inputs ∙ ap inputs_of source.is) c.loop-at.invariant.lines
          second.order second.turns (second.each all own_input c.loop-at.invariant.lines.each);
    }

pub returns : goal.returns
returns g c =
    let sources = c.args.sources.now in
    let names = c.args.names.now in
    let objects = c.args.objects.items in
    record {
      listeners = all_drafts listeners_of sources objects names c.loop-at.at c.loop-at.listeners.items c.loop-at-test.false c.loop-at.invariant.listeners;
      lines = all_drafts inputs_of sources objects names c.loop-at.at c.loop-at.lines.items c.loop-at-test.false c.loop-at.invariant.lines;
    }
