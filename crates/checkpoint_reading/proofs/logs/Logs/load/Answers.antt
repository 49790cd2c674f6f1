use Rattle.std.proofs.Common.{◌≤◌, length, arith}
use Rattle.checkpoint_reading.proofs.Parts.{block_has, covered, on_ok}
use Rattle.checkpoint_reading.proofs.logs.Logs.load.Goals as goal

pub returns-then-covers-clause-part : goal.returns-then-covers-clause-part
returns-then-covers-clause-part g c =
    let covers = c.covers.ensures c.if-covers.true in
    covered _ c.args.self.now c.args.file c.args.at c.args.size c.requires.known c.requires.last covers.0 covers.1

pub returns-clause-part : goal.returns-clause-part
returns-clause-part g c =
    let long : c.args.size ≤ length c.read.new.self.block.items = omega (arith, c.max.ensures, c.in_ok-widen.ensures.long, c.read.ensures.rest) in
    on_ok c.read.result (λ block. block_has _ c.read.new.self c.args.file c.args.at c.args.size block long) c.read.ensures.block
