use Rattle.std.proofs.Common.{◌∙◌, ap, sym, Option}
use Rattle.std.specs.List.{slice_set}
use Rattle.std.proofs.lemmas.List.Edits.{map_over_more}
use Rattle.world_laws.specs.World.{Attempt}
use Rattle.hop_core.specs.Ending.{unless_of}
use Rattle.hop_core.proofs.Live.{attempts_left, map_all}
use Rattle.hop_core.proofs.work.end_attempts.Goals as goal

pub loop-number-preserved : goal.loop-number-preserved
loop-number-preserved c =
    let l = c.loop-number in
    let at = c.index-attempts-number in
    let f : Option Attempt → Option Attempt = unless_of c.args.channel in
    ap (λ (x : Option Attempt). slice_set l.attempts l.number x) (c.end_attempt_of.ensures ∙ ap f (sym at.is)) ∙ map_over_more f c.args.attempts.now l.attempts l.number at.result c.loop-number-test.true l.invariant at.is

pub returns : goal.returns
returns c = map_all (unless_of c.args.channel) c.args.attempts.now c.loop-number.attempts c.loop-number.number c.loop-number.invariant c.loop-number-test.false ∙ sym (attempts_left c.args.channel c.args.attempts.now)
