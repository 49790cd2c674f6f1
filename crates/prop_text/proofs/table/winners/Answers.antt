use Rattle.std.proofs.Common.{◌≡◌, ◌+◌, ◌∷◌, ◌++◌, [], List, Option, drop, string_bytes, ap, sym, ◌∙◌}
use Rattle.std.proofs.lemmas.List.{drop_more}
use Rattle.prop_text.specs.declared.lines.LogicalLine.{LogicalLine}
use Rattle.prop_text.specs.Pairs.{Pair, pairs, with_pair}
use Rattle.prop_text.specs.Table.{put}
use Rattle.prop_text.specs.Views.{views}
use Rattle.prop_text.proofs.TableSteps.{onto, onto_push, winners_push}
use Rattle.prop_text.proofs.table.winners.Goals as goal

pub loop-line-preserved : goal.loop-line-preserved
loop-line-preserved c =
    let line = c.line-item.result in
    let i = c.loop-line.line-index in
    let before = c.loop-line.invariant in
    let rest = pairs (views (drop (i + 1) c.args.lines.now)) in
    let pair : Pair = record { key = string_bytes c.in_ok-pair.pair.key; value = string_bytes c.in_ok-pair.pair.value; line = line.number } in
    let here : drop i c.args.lines.now ≡ line ∷ drop (i + 1) c.args.lines.now =
    drop_more c.args.lines.now i line c.loop-line-test.true ∙ ap (λ (l : LogicalLine). l ∷ drop (i + 1) c.args.lines.now) (sym c.line-item.is) in
    let read = ap (λ (ls : List LogicalLine). onto before.done (pairs (views ls))) here
    ∙ ap (λ (p : Option Pair). onto before.done (with_pair line.number p rest)) c.in_ok-pair.ensures
    ∙ onto_push before.done line.number pair rest in
    record {
      done = before.done ++ pair ∷ [];
      read = sym read ∙ before.read;
      counted = c.in_ok-put.ensures ∙ ap (put pair) before.counted ∙ sym (winners_push before.done pair);
    }
