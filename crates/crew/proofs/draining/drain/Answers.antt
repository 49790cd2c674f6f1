use Rattle.std.proofs.Common.{rules, ◌≡◌, ◌∙◌, ◌+◌, ◌≤◌, ◌++◌, length, take, length-append, arith}
use Rattle.std.proofs.KnownBytes.{Consumes-trans}
use Rattle.std.proofs.lemmas.List.{length-take-le}
use Rattle.crew.proofs.draining.drain.Goals as goal

pub loop-taken-preserved : goal.loop-taken-preserved
loop-taken-preserved g c =
    let inv = c.loop-taken.invariant in
    let n = c.in-Ok.n in
    let piece = take n c.read.new.into in
    let fits : n ≤ length c.read.new.into = search rules in
    let size : length (inv.read.0 ++ piece) ≡ c.loop-taken.taken + n =
    let a = length-append inv.read.0 piece in
    let b = length-take-le n c.read.new.into fits in
    let e = inv.read.2 in
    omega arith in
    record {
      most = search rules;
      faults = c.in-Ok.ensures.cause.well ∙ inv.faults;
      read = (
        inv.read.0 ++ piece,
        Consumes-trans (g.S.Source.left c.args.input.now) (g.S.Source.left c.loop-taken.input) (g.S.Source.left c.read.new.self) inv.read.0 piece inv.read.1 c.in-Ok.ensures.bytes.0,
        size,
      );
    }
