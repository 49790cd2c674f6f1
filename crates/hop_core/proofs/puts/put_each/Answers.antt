use Rattle.std.proofs.Common.{◌∙◌, ◌+◌, List, drop, sym, ap}
use Rattle.event_core.specs.Content.{Content}
use Rattle.channel_face.specs.Token.{Token}
use Rattle.world_laws.specs.Channels.{put_all}
use Rattle.hop_core.proofs.Machines.{here, put_ends, put_goes_on, put_kept, put_rules}
use Rattle.hop_core.proofs.puts.put_each.Goals as goal

pub returns-then-is_put_refusal-clause-puts : goal.returns-then-is_put_refusal-clause-puts
returns-then-is_put_refusal-clause-puts c =
    let l = c.loop-at in
    let e = c.get.result.now in
    let rest = drop (l.at + 1) c.args.events.now in
    let seam = here c.args.events.now l.at e c.get.ensures in
    let ends = put_ends l.machine.counted.state c.put.new.self.counted.state l.txn e rest c.in-Err.refused c.in-Err.ensures.step.makes.moves (sym c.is_put_refusal.ensures ∙ c.if-is_put_refusal.true) in
    l.invariant.puts ∙ (ap (λ (t : Token). put_all l.machine.counted.state t (drop l.at c.args.events.now)) (sym l.invariant.same) ∙ (ap (λ (es : List Content). put_all l.machine.counted.state l.txn es) seam ∙ ends))

pub loop-at-preserved : goal.loop-at-preserved
loop-at-preserved c =
    let l = c.loop-at in
    let e = c.get.result.now in
    let done = c.in-Ok.field-0 in
    let rest = drop (l.at + 1) c.args.events.now in
    let seam = here c.args.events.now l.at e c.get.ensures in
    let moves = c.in-Ok.ensures.step.makes.moves in
    let goes = put_goes_on l.machine.counted.state c.put.new.self.counted.state l.txn e rest done moves c.in-Ok.ensures.spills in
    record {
      puts = l.invariant.puts ∙ (ap (λ (t : Token). put_all l.machine.counted.state t (drop l.at c.args.events.now)) (sym l.invariant.same) ∙ (ap (λ (es : List Content). put_all l.machine.counted.state l.txn es) seam ∙ (goes ∙ ap (λ (t : Token). put_all c.put.new.self.counted.state t rest) l.invariant.same)));
      journal = put_kept l.machine c.put.new.self l.txn e done c.in-Ok.ensures.step c.in-Ok.ensures.spills ∙ l.invariant.journal;
      rules = put_rules l.machine.counted.state c.put.new.self.counted.state l.txn e done moves ∙ l.invariant.rules;
      same = c.in-Ok.ensures.same ∙ l.invariant.same;
    }
