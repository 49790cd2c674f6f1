-- Which PUTs of lines stand at their places.
use Rattle.std.proofs.Common.{inl, inr, ◌++◌, ◌∷◌, [], List, refl}
use Rattle.event_core.specs.Content.{Content}
use Rattle.record_form.specs.declared.record.Pointer.{Pointer}
use Rattle.record_form.specs.declared.record.Rec.TheVariants.{CommitPut, CommitTake, End, Put, Rollback, Take}
use Rattle.channel_replay.specs.declared.line.Line.{Line}
use Rattle.channel_replay.specs.declared.line.Line.TheVariants.{Begins, Faulty, Stands}
use Rattle.ring_replay.specs.Indexing.{LinesStand, Places}
use Rattle.ring_replay.specs.Folder.{puts_of}

-- the first line, and the others
pub stand_cons : (places : Places) (line : Line) (more : List Line) → LinesStand places (line ∷ more) → LinesStand places (line ∷ []) × LinesStand places more
stand_cons places Begins more is = (tt, is)
stand_cons places (Faulty file at) more is = (tt, is)
stand_cons places (Stands file at (Put txn event)) more is = ((is.0, tt), is.1)
stand_cons places (Stands file at (Take txn number)) more is = (tt, is)
stand_cons places (Stands file at (Rollback txn)) more is = (tt, is)
stand_cons places (Stands file at (CommitPut txn first count)) more is = (tt, is)
stand_cons places (Stands file at (CommitTake txn count)) more is = (tt, is)
stand_cons places (Stands file at (End count)) more is = (tt, is)

stand_join : (places : Places) (line : Line) (more : List Line) → LinesStand places (line ∷ []) → LinesStand places more → LinesStand places (line ∷ more)
stand_join places Begins more one is = is
stand_join places (Faulty file at) more one is = is
stand_join places (Stands file at (Put txn event)) more one is = (one.0, is)
stand_join places (Stands file at (Take txn number)) more one is = is
stand_join places (Stands file at (Rollback txn)) more one is = is
stand_join places (Stands file at (CommitPut txn first count)) more one is = is
stand_join places (Stands file at (CommitTake txn count)) more one is = is
stand_join places (Stands file at (End count)) more one is = is

-- Lines before others, and lines after others.
pub stand_front : (places : Places) (a b : List Line) → LinesStand places (a ++ b) → LinesStand places a
stand_front places [] b is = tt
stand_front places (line ∷ a) b is =
    let s = stand_cons places line (a ++ b) is in
    stand_join places line a s.0 (stand_front places a b s.1)

-- lines after others stand where both do
pub stand_back : (places : Places) (a b : List Line) → LinesStand places (a ++ b) → LinesStand places b
stand_back places [] b is = is
stand_back places (line ∷ a) b is = stand_back places a b (stand_cons places line (a ++ b) is).1

stand_wider : (q : Pointer × Content) (places : Places) (found : List Line) → LinesStand places found → LinesStand (q ∷ places) found
stand_wider q places [] is = tt
stand_wider q places (line ∷ more) is =
    let s = stand_cons places line more is in
    stand_join (q ∷ places) line more (one line s.0) (stand_wider q places more s.1)
  where
    one : (l : Line) → LinesStand places (l ∷ []) → LinesStand (q ∷ places) (l ∷ [])
    one Begins is' = tt
    one (Faulty file at) is' = tt
    one (Stands file at (Put txn event)) is' = (inr is'.0, tt)
    one (Stands file at (Take txn number)) is' = tt
    one (Stands file at (Rollback txn)) is' = tt
    one (Stands file at (CommitPut txn first count)) is' = tt
    one (Stands file at (CommitTake txn count)) is' = tt
    one (Stands file at (End count)) is' = tt

-- The PUTs of lines stand at their own places.
pub puts_stand : (found : List Line) → LinesStand (puts_of found) found
puts_stand [] = tt
puts_stand (Begins ∷ more) = puts_stand more
puts_stand (Faulty file at ∷ more) = puts_stand more
puts_stand (Stands file at (Put txn event) ∷ more) = (inl (refl, refl), stand_wider _ (puts_of more) more (puts_stand more))
puts_stand (Stands file at (Take txn number) ∷ more) = puts_stand more
puts_stand (Stands file at (Rollback txn) ∷ more) = puts_stand more
puts_stand (Stands file at (CommitPut txn first count) ∷ more) = puts_stand more
puts_stand (Stands file at (CommitTake txn count) ∷ more) = puts_stand more
puts_stand (Stands file at (End count) ∷ more) = puts_stand more
