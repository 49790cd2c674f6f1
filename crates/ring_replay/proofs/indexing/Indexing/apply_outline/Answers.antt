use Rattle.std.proofs.Common.{refl}
use Rattle.ring_replay.proofs.Outlines.{outline_goes, outline_kept, outline_stops}
use Rattle.ring_replay.proofs.indexing.Indexing.apply_outline.Goals as goal

pub returns-in-Ok-true-clause-ok : goal.returns-in-Ok-true-clause-ok
returns-in-Ok-true-clause-ok c = outline_goes c.in-Ok-true.field-0 c.args.file c.args.at c.args.self.now c.apply.new.self c.place_of.result c.args.outline c.in-Ok-true.field-0-test c.place_of.ensures c.in-Ok-true.ensures

pub returns-in-Ok-true-clause-kept : goal.returns-in-Ok-true-clause-kept
returns-in-Ok-true-clause-kept c = outline_kept c.in-Ok-true.field-0 c.args.file c.args.at c.args.self.now c.apply.new.self c.place_of.result c.args.outline c.in-Ok-true.field-0-test c.requires.kept c.requires.outlined c.place_of.ensures c.in-Ok-true.ensures

pub returns-in-Ok-false-clause-bad : goal.returns-in-Ok-false-clause-bad
returns-in-Ok-false-clause-bad c = λ rec same.
    ((refl, refl), outline_stops c.in-Ok-false.field-0 c.args.file c.args.at c.args.self.now c.apply.new.self c.place_of.result c.args.outline c.in-Ok-false.field-0-test c.place_of.ensures c.in-Ok-false.ensures rec same)
