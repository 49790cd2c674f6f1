-- A record that is applied by its outline.
use Rattle.std.proofs.Common.{◌≡◌, ◌∷◌, [], ℕ, Bool, true, false, refl, ◌∙◌, ap, subst}
use Rattle.record_form.specs.declared.record.Outline.{Outline}
use Rattle.record_form.specs.declared.record.Pointer.{Pointer}
use Rattle.record_form.specs.declared.record.Rec.{Rec}
use Rattle.record_form.specs.declared.record.Rec.TheVariants.{CommitPut, CommitTake, End, Put, Rollback, Take}
use Rattle.record_form.specs.Outlines.{IsSomeOutline, outline_of}
use Rattle.channel_replay.specs.declared.line.Line.TheVariants.{Stands}
use Rattle.ring_replay.specs.declared.indexing.Indexing.{Indexing}
use Rattle.ring_replay.specs.Indexing.{GoesBy, GoesOn, GoesThrough, IsKept, StopsAt, outline_length}
use Rattle.ring_replay.proofs.Wider.{rec_kept}

by_rec : (legal : Bool) (old new : Indexing) (place : Pointer) (rec : Rec) → GoesBy legal old place (outline_of rec) new → GoesOn legal old place rec new
by_rec legal old new place (Put txn event) goes = goes event
by_rec legal old new place (Take txn number) goes = goes
by_rec legal old new place (Rollback txn) goes = goes
by_rec legal old new place (CommitPut txn first count) goes = goes
by_rec legal old new place (CommitTake txn count) goes = goes
by_rec legal old new place (End count) goes = goes

-- each record of the outline was applied
pub goes_on : (legal : Bool) (old new : Indexing) (place : Pointer) (outline : Outline) (rec : Rec) → outline ≡ outline_of rec → GoesBy legal old place outline new → GoesOn legal old place rec new
goes_on legal old new place outline rec same goes = by_rec legal old new place rec (subst (λ (m : Outline). GoesBy legal old place m new) same goes)

-- the place of a record of the outline
abbrev pub placed_by : ℕ → ℕ → Outline → Pointer
placed_by file at outline = record { file = file; at = at; length = outline_length outline }

line_goes : (file at : ℕ) (old new : Indexing) (rec : Rec) → GoesOn true old (placed_by file at (outline_of rec)) rec new → GoesThrough (Stands file at rec ∷ []) old new
line_goes file at old new (Put txn event) goes = λ places s past stand keeps. let g = goes places s past stand.0 keeps in ((g.0, tt), g.1)
line_goes file at old new (Take txn number) goes = λ places s past stand keeps. let g = goes places s past tt keeps in ((g.0, tt), g.1)
line_goes file at old new (Rollback txn) goes = λ places s past stand keeps. let g = goes places s past tt keeps in ((g.0, tt), g.1)
line_goes file at old new (CommitPut txn first count) goes = λ places s past stand keeps. let g = goes places s past tt keeps in ((g.0, tt), g.1)
line_goes file at old new (CommitTake txn count) goes = λ places s past stand keeps. let g = goes places s past tt keeps in ((g.0, tt), g.1)
line_goes file at old new (End count) goes = λ places s past stand keeps. let g = goes places s past tt keeps in ((g.0, tt), g.1)

line_stops : (file at : ℕ) (old new : Indexing) (rec : Rec) → GoesOn false old (placed_by file at (outline_of rec)) rec new → StopsAt (Stands file at rec) old
line_stops file at old new (Put txn event) goes = λ places s past stand keeps sound. goes places s past stand.0 keeps sound
line_stops file at old new (Take txn number) goes = λ places s past stand keeps sound. goes places s past tt keeps sound
line_stops file at old new (Rollback txn) goes = λ places s past stand keeps sound. goes places s past tt keeps sound
line_stops file at old new (CommitPut txn first count) goes = λ places s past stand keeps sound. goes places s past tt keeps sound
line_stops file at old new (CommitTake txn count) goes = λ places s past stand keeps sound. goes places s past tt keeps sound
line_stops file at old new (End count) goes = λ places s past stand keeps sound. goes places s past tt keeps sound

at_place : (legal : Bool) (file at : ℕ) (old new : Indexing) (place : Pointer) (outline : Outline) (rec : Rec) → place ≡ placed_by file at outline → outline ≡ outline_of rec → GoesBy legal old place outline new → GoesOn legal old (placed_by file at (outline_of rec)) rec new
at_place legal file at old new place outline rec is same goes =
    subst (λ (p : Pointer). GoesOn legal old p rec new) (is ∙ ap (placed_by file at) same) (goes_on legal old new place outline rec same goes)

-- a legal outline was applied, and so the line of each record of it
pub outline_goes : (legal : Bool) (file at : ℕ) (old new : Indexing) (place : Pointer) (outline : Outline) → legal ≡ true → place ≡ placed_by file at outline → GoesBy legal old place outline new → (rec : Rec) → outline ≡ outline_of rec → GoesThrough (Stands file at rec ∷ []) old new
outline_goes true file at old new place outline legal is goes rec same = line_goes file at old new rec (at_place true file at old new place outline rec is same goes)
outline_goes false file at old new place outline legal is goes rec same = absurd (let e : false ≡ true = legal in cc)

-- an outline that is not legal puts the line of each record of it at fault
pub outline_stops : (legal : Bool) (file at : ℕ) (old new : Indexing) (place : Pointer) (outline : Outline) → legal ≡ false → place ≡ placed_by file at outline → GoesBy legal old place outline new → (rec : Rec) → outline ≡ outline_of rec → StopsAt (Stands file at rec) old
outline_stops false file at old new place outline legal is goes rec same = line_stops file at old new rec (at_place false file at old new place outline rec is same goes)
outline_stops true file at old new place outline legal is goes rec same = absurd (let e : true ≡ false = legal in cc)

-- what a legal record leads to is kept of some marks again
pub outline_kept : (legal : Bool) (file at : ℕ) (old new : Indexing) (place : Pointer) (outline : Outline) → legal ≡ true → IsKept old → IsSomeOutline outline → place ≡ placed_by file at outline → GoesBy legal old place outline new → IsKept new
outline_kept legal file at old new place outline is kept some placed goes =
    let long : place.length ≡ outline_length (outline_of some.0) = ap (λ (p : Pointer). p.length) placed ∙ ap outline_length some.1 in
    rec_kept legal place some.0 old new kept long (goes_on legal old new place outline some.0 some.1 goes) is
