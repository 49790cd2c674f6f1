use Rattle.std.proofs.Common.{[], take, refl, ap, Err, arith}
use Rattle.avro_frame.specs.Pack.{IsPart}
use Rattle.avro_frame.specs.Feed.{Packing, Holds, Failed}
use Rattle.avro_ends.specs.Sessions.{IsOpen, held_in}
use Rattle.flume_host.proofs.Talking.{talks_got, talks_quiet, talks_end, talks_broke, failed_broke}
use Rattle.avro_ends.specs.declared.session.AvroEnd.{AvroEnd}
use Rattle.avro_ends.specs.declared.session.AvroEnd.TheVariants.{LinkFault}
use Rattle.avro_ends.proofs.Going.{ends_between, found_breaks, goes_none, one_turn, read_goes, stops_amid, turn_breaks, turn_goes}
use Rattle.avro_ends.proofs.session.serve_turn.Goals as goal

part : (p : Packing) → IsOpen p → IsPart (held_in p)
part (Holds bytes) is = is
part (Failed e) is = absurd is

pub returns-then-asked-clause-breaks : goal.returns-then-asked-clause-breaks
returns-then-asked-clause-breaks g c = ([], 0, omega arith, stops_amid _ (goes_none _ _ _ _ _) [] [] refl)

pub returns-in-Ok-Quiet-clause-goes : goal.returns-in-Ok-Quiet-clause-goes
returns-in-Ok-Quiet-clause-goes g c =
    let done = rw c.in-Ok-Quiet.field-0-is at c.in-Ok-Quiet.ensures.done in
    ([], read_goes _ _ _ _ _ _ [] 1 (talks_quiet c.read.new.into _ _ done))

pub returns-in-Ok-End-clause-breaks : goal.returns-in-Ok-End-clause-breaks
returns-in-Ok-End-clause-breaks g c =
    let done = rw c.in-Ok-End.field-0-is at c.in-Ok-End.ensures.done in
    ([], 0, refl, found_breaks _ _ _ _ _ _ (part c.args.packs.now.packing c.requires) (talks_end c.read.new.into _ _ done))

pub returns-in-Err-clause-breaks : goal.returns-in-Err-clause-breaks
returns-in-Err-clause-breaks g c =
    ([], 0, omega arith, ends_between _ (read_goes _ _ _ _ _ _ [] 0 (talks_broke _ _ c.in-Err.ensures.done)) (part c.args.packs.now.packing c.requires) LinkFault tt (failed_broke _ _ c.in-Err.ensures.done))

pub returns-in-Ok-clause-goes : goal.returns-in-Ok-clause-goes
returns-in-Ok-clause-goes g c =
    let done = rw c.in-Ok-Got.field-0-is at c.in-Ok-Got.ensures.done in
    let piece = take c.in-Ok-Got.n c.read.new.into in
    (piece, turn_goes _ piece (read_goes _ _ _ _ _ _ piece 1 (talks_got c.in-Ok-Got.n c.read.new.into _ _ done)) c.in-Ok.ensures.goes)

pub returns-in-Err-serve_piece-clause-breaks : goal.returns-in-Err-serve_piece-clause-breaks
returns-in-Err-serve_piece-clause-breaks g c =
    let done = rw c.in-Ok-Got.field-0-is at c.in-Ok-Got.ensures.done in
    let piece = take c.in-Ok-Got.n c.read.new.into in
    (piece, 1, one_turn c.in-Err-serve_piece.end (λ is. c.in-Err-serve_piece.ensures.turn (ap (λ (e : AvroEnd). Err e) is)) (λ is. c.in-Err-serve_piece.ensures.end (ap (λ (e : AvroEnd). Err e) is)), turn_breaks _ piece (read_goes _ _ _ _ _ _ piece 1 (talks_got c.in-Ok-Got.n c.read.new.into _ _ done)) c.in-Err-serve_piece.ensures.breaks)
