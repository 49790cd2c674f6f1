use Rattle.std.proofs.Common.{take, Ok, Err}
use Rattle.avro_ends.proofs.Listening.{heard_got, heard_quiet, turn_made, turn_ends, turn_fails, turn_lacks, turn_waits}
use Rattle.avro_ends.proofs.hear.hear_turn.Goals as goal

pub returns-in_default-clause-hears : goal.returns-in_default-clause-hears
returns-in_default-clause-hears g c = turn_lacks c.args.packs.now.packing c.make_room.new.self.packing _ c.requires

pub cut_piece-requires-clause-opened : goal.cut_piece-requires-clause-opened
cut_piece-requires-clause-opened g c = rw c.make_room.ensures.same c.requires

pub returns-in-Ok-cut_piece-clause-hears : goal.returns-in-Ok-cut_piece-clause-hears
returns-in-Ok-cut_piece-clause-hears g c =
    let done = rw c.in-Ok-Got.field-0-is at c.in-Ok-Got.ensures.done in
    turn_made c.args.packs.now.packing c.make_room.new.self.packing (take c.in-Ok-Got.n c.read.new.into) (Ok c.in-Ok-cut_piece.piece) _ _ _ c.make_room.ensures.same (heard_got c.in-Ok-Got.n c.read.new.into _ _ done) c.in-Ok-cut_piece.ensures

pub returns-in-Err-cut_piece-clause-hears : goal.returns-in-Err-cut_piece-clause-hears
returns-in-Err-cut_piece-clause-hears g c =
    let done = rw c.in-Ok-Got.field-0-is at c.in-Ok-Got.ensures.done in
    turn_made c.args.packs.now.packing c.make_room.new.self.packing (take c.in-Ok-Got.n c.read.new.into) (Err c.in-Err-cut_piece.e) _ _ _ c.make_room.ensures.same (heard_got c.in-Ok-Got.n c.read.new.into _ _ done) c.in-Err-cut_piece.ensures

pub returns-in-Ok-Quiet-clause-hears : goal.returns-in-Ok-Quiet-clause-hears
returns-in-Ok-Quiet-clause-hears g c =
    let done = rw c.in-Ok-Quiet.field-0-is at c.in-Ok-Quiet.ensures.done in
    rw c.make_room.ensures.same (turn_waits _ _ _ c.requires (heard_quiet c.read.new.into _ _ done))

pub returns-in-Ok-End-clause-hears : goal.returns-in-Ok-End-clause-hears
returns-in-Ok-End-clause-hears g c =
    let done = rw c.in-Ok-End.field-0-is at c.in-Ok-End.ensures.done in
    turn_ends _ c.make_room.new.self.packing _ _ c.read.new.into c.requires done

pub returns-in-Err-clause-hears : goal.returns-in-Err-clause-hears
returns-in-Err-clause-hears g c = turn_fails _ c.make_room.new.self.packing _ _ c.requires c.in-Err.ensures.done
