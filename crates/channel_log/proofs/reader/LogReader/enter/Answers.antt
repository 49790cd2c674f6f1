use Rattle.std.proofs.Common.{◌≡◌, ◌∙◌, [], arith, ap, sym}
use Rattle.channel_log.specs.Reader.{Reader}
use Rattle.channel_log.proofs.Entering.{empty_held, enters_held, enters_stands, enters_bad}
use Rattle.channel_log.proofs.reader.LogReader.enter.Goals as goal

pub returns-clause-held : goal.returns-clause-held
returns-clause-held g c = enters_held c.load.result c.args.self.now c.load.new.self c.load.ensures.entered

pub returns-clause-stands : goal.returns-clause-stands
returns-clause-stands g c =
    let empty : c.args.self.now.held ≡ [] = sym (ap (λ (r : Reader). r.held) c.self.view_is) ∙ empty_held c.self.inside.place c.self.inside.stop c.self.inside.read.items (omega arith) in
    enters_stands c.load.result c.args.self.now c.load.new.self _ empty c.load.ensures.entered c.load.ensures.stays c.load.ensures.front c.load.ensures.loaded c.load.ensures.over

pub returns-clause-bad : goal.returns-clause-bad
returns-clause-bad g c =
    let empty : c.args.self.now.held ≡ [] = sym (ap (λ (r : Reader). r.held) c.self.view_is) ∙ empty_held c.self.inside.place c.self.inside.stop c.self.inside.read.items (omega arith) in
    enters_bad c.load.result c.args.self.now _ empty c.load.ensures.bad
