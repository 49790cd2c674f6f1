use Rattle.std.proofs.Common.{[], take, refl, ap, Err, arith}
use Rattle.flume_host.proofs.Talking.{talks_got, talks_quiet, talks_end, talks_broke, failed_broke}
use Rattle.netcat_source.specs.declared.session.SessionEnd.{SessionEnd}
use Rattle.netcat_source.specs.declared.session.SessionEnd.TheVariants.{LinkFault}
use Rattle.netcat_source.proofs.Fronts.{found_breaks, goes_none, read_goes}
use Rattle.netcat_source.proofs.Going.{ends_between, one_turn, stops_amid, turn_breaks, turn_goes}
use Rattle.netcat_source.proofs.session.serve_turn.Goals as goal

pub returns-then-asked-clause-breaks : goal.returns-then-asked-clause-breaks
returns-then-asked-clause-breaks g c = ([], 0, omega arith, stops_amid _ _ _ (goes_none _ _ _ _ _) [] [] refl)

pub returns-in-Ok-Quiet-clause-goes : goal.returns-in-Ok-Quiet-clause-goes
returns-in-Ok-Quiet-clause-goes g c =
    let done = rw c.in-Ok-Quiet.field-0-is at c.in-Ok-Quiet.ensures.done in
    ([], read_goes _ _ _ _ _ _ _ [] 1 (talks_quiet c.read.new.into _ _ done))

pub returns-in-Ok-End-clause-breaks : goal.returns-in-Ok-End-clause-breaks
returns-in-Ok-End-clause-breaks g c =
    let done = rw c.in-Ok-End.field-0-is at c.in-Ok-End.ensures.done in
    ([], 0, refl, found_breaks _ _ _ _ _ _ _ c.requires.partial (talks_end c.read.new.into _ _ done))

pub returns-in-Err-clause-breaks : goal.returns-in-Err-clause-breaks
returns-in-Err-clause-breaks g c =
    ([], 0, omega arith, ends_between _ _ _ (read_goes _ _ _ _ _ _ _ [] 0 (talks_broke _ _ c.in-Err.ensures.done)) c.requires.partial LinkFault tt (failed_broke _ _ c.in-Err.ensures.done))

pub returns-in-Ok-clause-goes : goal.returns-in-Ok-clause-goes
returns-in-Ok-clause-goes g c =
    let done = rw c.in-Ok-Got.field-0-is at c.in-Ok-Got.ensures.done in
    let piece = take c.in-Ok-Got.n c.read.new.into in
    (piece, turn_goes _ _ _ piece (read_goes _ _ _ _ _ _ _ piece 1 (talks_got c.in-Ok-Got.n c.read.new.into _ _ done)) c.in-Ok.ensures.goes)

pub returns-in-Err-serve_piece-clause-breaks : goal.returns-in-Err-serve_piece-clause-breaks
returns-in-Err-serve_piece-clause-breaks g c =
    let done = rw c.in-Ok-Got.field-0-is at c.in-Ok-Got.ensures.done in
    let piece = take c.in-Ok-Got.n c.read.new.into in
    (piece, 1, one_turn c.in-Err-serve_piece.end (λ is. c.in-Err-serve_piece.ensures.turn (ap (λ (e : SessionEnd). Err e) is)) (λ is. c.in-Err-serve_piece.ensures.end (ap (λ (e : SessionEnd). Err e) is)), turn_breaks _ _ _ piece (read_goes _ _ _ _ _ _ _ piece 1 (talks_got c.in-Ok-Got.n c.read.new.into _ _ done)) c.in-Err-serve_piece.ensures.breaks)
