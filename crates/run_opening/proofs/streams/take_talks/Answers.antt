use Rattle.std.proofs.Common.{rules, ◌≡◌, ◌+◌, ◌∙◌, List, [], ◌∷◌, length, None, refl, sym, ap, subst, arith}
use Rattle.std.proofs.lemmas.List.{length-append}
use Rattle.flume_host.specs.HostState.{HostState}
use Rattle.run_staff.specs.declared.workers.LineEnded.{LineEnded}
use Rattle.run_opening.specs.Streams.{InTurn, TalkTaken}
use Rattle.run_opening.proofs.Streaming.{all_taken_rest, turn_push}
use Rattle.run_opening.proofs.streams.take_talks.Goals as goal

pub loop-turn-preserved : goal.loop-turn-preserved
loop-turn-preserved g c =
    let Step = TalkTaken {I = g.row.H-Source.Denot} g.H.Source.Source.left g.H.Source.Source.faults {O = g.row.H-Sink.Denot} g.H.Sink.Sink.took g.H.Sink.Sink.handed g.H.Sink.Sink.faults in
    let inv = c.loop-turn.invariant in
    let input = c.take_input-input in
    let output = c.take_output-output in
    let talk : LineEnded g.row.H-Source.Denot g.row.H-Sink.Denot = record { input = input.result; output = output.result; end = None } in
    let start = g.H.Host.state c.args.host.now in
    let old = g.H.Host.state c.loop-turn.host in
    let mid = g.H.Host.state input.new.self in
    let new = g.H.Host.state output.new.self in
    let took : mid.output ≡ old.output = ap (λ (s : HostState). s.output) input.ensures.state in
    let state : new ≡ record old { input = None; output = None; handed = None } =
    output.ensures.state ∙ ap (λ (s : HostState). record s { output = None; handed = None }) input.ensures.state in
    let one : Step talk old new = record {
      left_there = input.ensures.left;
      took_there = output.ensures.took ∙ took;
      read_well = input.ensures.count;
      wrote_well = output.ensures.count;
      none = refl;
      state = state;
    } in
    record {
      many = ap length c.push_reserved.ensures.items ∙ length-append c.loop-turn.talks.items (talk ∷ []) ∙ ap (λ n. n + 1) inv.many;
      room = let a = inv.room in let b = c.push_reserved.ensures.capacity in first_of (omega arith, search (rules, arith));
      taken = subst (λ (l : List (LineEnded g.row.H-Source.Denot g.row.H-Sink.Denot)). InTurn Step l start new) (sym c.push_reserved.ensures.items)
          (turn_push Step c.loop-turn.talks.items talk start old new inv.taken one);
      folders = output.ensures.folders ∙ input.ensures.folders ∙ inv.folders;
    }

pub returns-clause-rest : goal.returns-clause-rest
returns-clause-rest g c =
    all_taken_rest g.H.Source.Source.left g.H.Source.Source.faults g.H.Sink.Sink.took g.H.Sink.Sink.handed g.H.Sink.Sink.faults
    c.loop-turn.talks.items (g.H.Host.state c.args.host.now) (g.H.Host.state c.loop-turn.host) c.loop-turn.invariant.taken
