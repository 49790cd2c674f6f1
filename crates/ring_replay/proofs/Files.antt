-- A file that is read record by record.
use Rattle.std.proofs.Common.{◌≡◌, ◌≤◌, ◌+◌, ℕ, List, [], ◌∷◌, ◌++◌, length, Option, Some, None, Bool, refl, sym, ◌∙◌, ap, subst, arith, append_assoc, length-append}
use Rattle.std.proofs.lemmas.List.{append-nil}
use Rattle.flume_host.specs.Told.{Told}
use Rattle.record_form.specs.declared.record.Outline.{Outline}
use Rattle.record_form.specs.declared.record.Rec.{Rec}
use Rattle.record_form.specs.Outlines.{outline_of}
use Rattle.channel_log.specs.Frames.{BadHeader, Content, Holds, fault_of}
use Rattle.channel_log.specs.Reader.{Gives, GivesOutline, HasFile, Reader, Remains, WhereBad as FrameBad, content_items}
use Rattle.channel_log.specs.declared.loading.FrameRefused.{FrameRefused}
use Rattle.channel_log.proofs.Contents.{one-content}
use Rattle.channel_replay.specs.declared.line.Line.{Line}
use Rattle.channel_replay.specs.declared.line.Line.TheVariants.{Faulty, Stands}
use Rattle.channel_replay.specs.declared.refused.RecoverRefused.{RecoverRefused}
use Rattle.channel_replay.specs.declared.refused.RecoverRefused.TheVariants as records
use Rattle.channel_replay.specs.Marks.{Past}
use Rattle.channel_replay.specs.Plain.{WhereBad}
use Rattle.channel_replay.specs.Recover.{HasFault, IsAt, begin_lines, fault_lines, file_lines, past_lines, record_lines}
use Rattle.channel_replay.specs.Replay.{WhereBadLog, WhereHolds, as_frame, as_record, drop_lines}
use Rattle.channel_replay.proofs.Lines.{fault_append, past_lines-append, sound_append}
use Rattle.channel_replay.proofs.Reading.{record_lines-append}
use Rattle.channel_replay.proofs.Replaying.{StepsOf, frame_bad, frame_maps, record_bad}
use Rattle.ring_replay.specs.declared.indexing.Indexing.{Indexing}
use Rattle.ring_replay.specs.Indexing.{GoesThrough, IsKept, Keeps, LinesStand, StopsAt}
use Rattle.ring_replay.specs.Folder.{StopsIn}
use Rattle.ring_replay.proofs.Standing.{stand_back, stand_cons, stand_front}

-- lines after lines

-- what went through lines and then through others went through both
pub applies_append : (a b : List Line) (old mid new : Indexing) → GoesThrough a old mid → GoesThrough b mid new → GoesThrough (a ++ b) old new
applies_append a b old mid new first second places s past stand keeps =
    let one = first places s past (stand_front places a b stand) keeps in
    let two = second places s (past_lines past a) (stand_back places a b stand) one.1 in
    (sound_append s.base past a b one.0 two.0, subst (λ (p : Past). Keeps places s p new) (sym (past_lines-append past a b)) two.1)

-- How far a file was read.
pub record ReadUpTo (file : ℕ) (reader : Reader) (bytes : List ℕ) (items : List (Rec × ℕ)) (fault : Option ℕ) (start now : Indexing) (none steps : ℕ) : Type 0 where
  pub done : List (Rec × ℕ)
  pub rest : List (Rec × ℕ)
  pub split : items ≡ done ++ rest
  pub remains : Remains reader bytes rest fault
  pub applies : GoesThrough (record_lines file done) start now
  pub ticks : steps ≤ none + length done

pub record ReadsOn (was told : Option Told) (faulty faults file : ℕ) (first reader : Reader) (start now : Indexing) (none steps : ℕ) : Type 0 where
  pub same : told ≡ was
  pub well : faults ≡ faulty
  pub file_is : reader.file ≡ file
  pub kept : IsKept now
  pub on : (bytes : List ℕ) (items : List (Rec × ℕ)) (fault : Option ℕ) → HasFile was file bytes → Remains first bytes items fault → ReadUpTo file reader bytes items fault start now none steps

-- before the first record nothing is read and nothing applied
pub reads_none : (was : Option Told) (faulty file : ℕ) (first : Reader) (start : Indexing) (none : ℕ) → first.file ≡ file → IsKept start → ReadsOn was was faulty faulty file first first start start none none
reads_none was faulty file first start none is kept = record {
  same = refl;
  well = refl;
  file_is = is;
  kept = kept;
  on = λ bytes items fault has remains. record { done = []; rest = items; split = refl; remains = remains; applies = λ places s past stand keeps. (tt, keeps); ticks = omega arith };
}

there : (was told : Option Told) (file n : ℕ) (bytes : List ℕ) → told ≡ was → n ≡ file → HasFile was file bytes → HasFile told n bytes
there was told file n bytes same is has = subst (λ (o : Option Told). HasFile o n bytes) (sym same) (subst (λ (k : ℕ). HasFile was k bytes) (sym is) has)

record GivenSome (rest : List (Rec × ℕ)) (given : Rec × ℕ) (next : Reader) (bytes : List ℕ) (fault : Option ℕ) : Type 0 where
  more : List (Rec × ℕ)
  is : rest ≡ given ∷ more
  remains : Remains next bytes more fault

given_some : (rest : List (Rec × ℕ)) (given : Rec × ℕ) (next : Reader) (bytes : List ℕ) (fault : Option ℕ) → Gives (Some given) next bytes rest fault → GivenSome rest given next bytes fault
given_some [] given next bytes fault gives = absurd gives
given_some (item ∷ more) given next bytes fault gives = record { more = more; is = ap (λ (x : Rec × ℕ). x ∷ more) (sym gives.0); remains = gives.1 }

given_none : (rest : List (Rec × ℕ)) (next : Reader) (bytes : List ℕ) (fault : Option ℕ) → Gives None next bytes rest fault → (rest ≡ []) × (fault ≡ None)
given_none [] next bytes fault gives = (refl, gives.0)
given_none (item ∷ more) next bytes fault gives = absurd gives

-- what the next call gave, of whatever the file has
abbrev pub OutlinesOf : Option Told → Reader → Option (Outline × ℕ) → Reader → Type 0
OutlinesOf told reader given next = (bytes : List ℕ) (items : List (Rec × ℕ)) (fault : Option ℕ) → HasFile told reader.file bytes → Remains reader bytes items fault → GivesOutline given next bytes items fault

-- each record of the outline was applied
abbrev pub AppliesOne : ℕ → ℕ → Outline → Indexing → Indexing → Type 0
AppliesOne file at outline old new = ((rec : Rec) → outline ≡ outline_of rec → GoesThrough (Stands file at rec ∷ []) old new) × IsKept new

-- one record more was read and applied
pub reads_more : (was told after : Option Told) (faulty faults more_faults file : ℕ) (first reader next : Reader) (start now new : Indexing) (none steps more_steps at : ℕ) (outline : Outline)
    → ReadsOn was told faulty faults file first reader start now none steps → OutlinesOf told reader (Some (outline, at)) next → next.file ≡ reader.file → more_steps ≡ steps + 1 → AppliesOne file at outline now new → after ≡ told → more_faults ≡ faults
    → ReadsOn was after faulty more_faults file first next start new none more_steps
reads_more was told after faulty faults more_faults file first reader next start now new none steps more_steps at outline on gives same_file ticked applies same well = record {
  same = same ∙ on.same;
  well = well ∙ on.well;
  file_is = same_file ∙ on.file_is;
  kept = applies.1;
  on = λ bytes items fault has remains.
      let u = on.on bytes items fault has remains in
      let m = gives bytes u.rest fault (there was told file reader.file bytes on.same on.file_is has) u.remains in
      let rec = m.0 in
      let g = given_some u.rest (rec, at) next bytes fault m.2 in
      record {
        done = u.done ++ (rec, at) ∷ [];
        rest = g.more;
        split = u.split ∙ ap (λ (l : List (Rec × ℕ)). u.done ++ l) g.is ∙ sym (append_assoc u.done ((rec, at) ∷ []) g.more);
        remains = g.remains;
        applies = subst (λ (l : List Line). GoesThrough l start new) (sym (record_lines-append file u.done ((rec, at) ∷ [])))
            (applies_append (record_lines file u.done) (Stands file at rec ∷ []) start now new u.applies (applies.0 rec m.1));
        ticks = omega (arith, ticked, u.ticks, length-append u.done ((rec, at) ∷ []));
      };
}

-- at the end of the file all its records were applied, and it has no fault
pub reads_end : (was told : Option Told) (faulty faults file : ℕ) (first reader next : Reader) (start now : Indexing) (none steps : ℕ)
    → ReadsOn was told faulty faults file first reader start now none steps → OutlinesOf told reader None next
    → (bytes : List ℕ) (items : List (Rec × ℕ)) (fault : Option ℕ) → HasFile was file bytes → Remains first bytes items fault → GoesThrough (record_lines file items ++ fault_lines file fault) start now
reads_end was told faulty faults file first reader next start now none steps on gives bytes items fault has remains =
    let u = on.on bytes items fault has remains in
    let g = given_none u.rest next bytes fault (gives bytes u.rest fault (there was told file reader.file bytes on.same on.file_is has) u.remains) in
    let all : items ≡ u.done = u.split ∙ ap (λ (l : List (Rec × ℕ)). u.done ++ l) g.0 ∙ append-nil u.done in
    let lines : record_lines file items ++ fault_lines file fault ≡ record_lines file u.done = ap (λ (f : Option ℕ). record_lines file items ++ fault_lines file f) g.1 ∙ append-nil (record_lines file items) ∙ ap (record_lines file) all in
    subst (λ (l : List Line). GoesThrough l start now) (sym lines) u.applies

-- a fault of what remains, as the whole file has it
abbrev pub FaultOf : Option Told → ℕ → Reader → Indexing → ℕ → ℕ → Type 0
FaultOf was file first start f at =
    (bytes : List ℕ) (items : List (Rec × ℕ)) (fault : Option ℕ) → HasFile was file bytes → Remains first bytes items fault → StopsIn (record_lines file items ++ fault_lines file fault) start f at

-- a frame at fault is the first fault of the file
pub reads_fault : (was told : Option Told) (faulty faults file : ℕ) (first reader : Reader) (start now : Indexing) (none steps : ℕ) (e : FrameRefused)
    → ReadsOn was told faulty faults file first reader start now none steps
    → FrameBad e (λ f at. (f ≡ reader.file) × ((bytes : List ℕ) (items : List (Rec × ℕ)) (fault : Option ℕ) → HasFile told reader.file bytes → Remains reader bytes items fault → (items ≡ []) × (fault ≡ Some at)))
    → WhereBadLog (as_frame e) (FaultOf was file first start)
reads_fault was told faulty faults file first reader start now none steps e on bad =
    frame_bad e (FaultOf was file first start) (frame_maps e (λ f at. (f ≡ reader.file) × ((bytes : List ℕ) (items : List (Rec × ℕ)) (fault : Option ℕ) → HasFile told reader.file bytes → Remains reader bytes items fault → (items ≡ []) × (fault ≡ Some at))) (FaultOf was file first start)
    (λ f at h. λ bytes items fault has remains places s past stand keeps.
    let u = on.on bytes items fault has remains in
    let e = h.1 bytes u.rest fault (there was told file reader.file bytes on.same on.file_is has) u.remains in
    let all : items ≡ u.done = u.split ∙ ap (λ (l : List (Rec × ℕ)). u.done ++ l) e.0 ∙ append-nil u.done in
    record {
      before = record_lines file u.done;
      line = Faulty file at;
      behind = [];
      split = fault_last items u.done fault at all e.1;
      sound = (u.applies places s past (stand_front places (record_lines file u.done) (Faulty file at ∷ []) (subst (LinesStand places) (fault_last items u.done fault at all e.1) stand)) keeps).0;
      bad = λ no. no;
      place = (h.0 ∙ on.file_is, refl);
    })
    bad)
  where
    fault_last : (its gone : List (Rec × ℕ)) (f : Option ℕ) (at : ℕ) → its ≡ gone → f ≡ Some at → record_lines file its ++ fault_lines file f ≡ record_lines file gone ++ Faulty file at ∷ []
    fault_last its gone f at all is = ap (λ (o : Option ℕ). record_lines file its ++ fault_lines file o) is ∙ ap (λ (l : List (Rec × ℕ)). record_lines file l ++ Faulty file at ∷ []) all

-- each record of the outline is at fault there
abbrev pub StopsBy : Outline → ℕ → ℕ → Indexing → ℕ → ℕ → Type 0
StopsBy outline file at now f a = (rec : Rec) → outline ≡ outline_of rec → IsAt (Stands file at rec) f a × StopsAt (Stands file at rec) now

-- a record that is not legal is the first fault of the file
pub reads_illegal : (was told : Option Told) (faulty faults file : ℕ) (first reader next : Reader) (start now : Indexing) (none steps at : ℕ) (outline : Outline) (e : RecoverRefused)
    → ReadsOn was told faulty faults file first reader start now none steps → OutlinesOf told reader (Some (outline, at)) next
    → WhereBad e (λ f a. StopsBy outline file at now f a)
    → WhereBadLog (as_record e) (FaultOf was file first start)
reads_illegal was told faulty faults file first reader next start now none steps at outline e on gives bad = record_bad e (FaultOf was file first start) (maps e bad)
  where
    fault_there : (f a : ℕ) → StopsBy outline file at now f a → FaultOf was file first start f a
    fault_there f a stops bytes items fault has remains places s past stand keeps =
        let u = on.on bytes items fault has remains in
        let m = gives bytes u.rest fault (there was told file reader.file bytes on.same on.file_is has) u.remains in
        let rec = m.0 in
        let h = stops rec m.1 in
        let g = given_some u.rest (rec, at) next bytes fault m.2 in
        let split : record_lines file items ≡ record_lines file u.done ++ Stands file at rec ∷ record_lines file g.more = ap (record_lines file) (u.split ∙ ap (λ (l : List (Rec × ℕ)). u.done ++ l) g.is) ∙ record_lines-append file u.done ((rec, at) ∷ g.more) in
        let behind : List Line = record_lines file g.more ++ fault_lines file fault in
        let all : record_lines file items ++ fault_lines file fault ≡ record_lines file u.done ++ Stands file at rec ∷ behind = ap (λ (l : List Line). l ++ fault_lines file fault) split ∙ append_assoc (record_lines file u.done) (Stands file at rec ∷ record_lines file g.more) (fault_lines file fault) in
        let stands : LinesStand places (record_lines file u.done ++ Stands file at rec ∷ behind) = subst (LinesStand places) all stand in
        let one = u.applies places s past (stand_front places (record_lines file u.done) (Stands file at rec ∷ behind) stands) keeps in
        record {
          before = record_lines file u.done;
          line = Stands file at rec;
          behind = behind;
          split = all;
          sound = one.0;
          bad = h.1 places s (past_lines past (record_lines file u.done)) (stand_cons places (Stands file at rec) behind (stand_back places (record_lines file u.done) (Stands file at rec ∷ behind) stands)).0 one.1;
          place = h.0;
        }

    maps : (e : RecoverRefused) → WhereBad e (λ f a. StopsBy outline file at now f a) → WhereBad e (FaultOf was file first start)
    maps (records.BadLog f a) h = fault_there f a h
    maps records.NoMemory h = tt

-- the steps so far are no more than the file's records allow
pub reads_ticks : (was told : Option Told) (faulty faults file : ℕ) (first reader : Reader) (start now : Indexing) (none steps more : ℕ) → ReadsOn was told faulty faults file first reader start now none steps → more ≡ steps → StepsOf was file first none more
reads_ticks was told faulty faults file first reader start now none steps more on is bytes items fault has remains =
    let u = on.on bytes items fault has remains in
    omega (arith, is, u.ticks, ap length u.split, length-append u.done u.rest)

-- one step more is allowed where one record more was read
pub reads_one_tick : (was told : Option Told) (faulty faults file : ℕ) (first reader next : Reader) (start now : Indexing) (none steps more at : ℕ) (outline : Outline)
    → ReadsOn was told faulty faults file first reader start now none steps → OutlinesOf told reader (Some (outline, at)) next → more ≡ steps + 1 → StepsOf was file first none more
reads_one_tick was told faulty faults file first reader next start now none steps more at outline on gives is bytes items fault has remains =
    let u = on.on bytes items fault has remains in
    let m = gives bytes u.rest fault (there was told file reader.file bytes on.same on.file_is has) u.remains in
    let g = given_some u.rest (m.0, at) next bytes fault m.2 in
    omega (arith, is, u.ticks, ap length u.split, length-append u.done u.rest, ap length g.is)

-- a file from its begin on

-- a whole file was applied: what its begin drops, and then its records
pub file_applies : (file : ℕ) (content : Content) (drops : Bool) (old mid new : Indexing) → drop_lines drops ≡ begin_lines content → GoesThrough (drop_lines drops) old mid → GoesThrough (record_lines file (content_items content) ++ fault_lines file (fault_of content)) mid new → GoesThrough (file_lines file content) old new
file_applies file content drops old mid new same begins rest =
    applies_append (begin_lines content) (record_lines file (content_items content) ++ fault_lines file (fault_of content)) old mid new (subst (λ (l : List Line). GoesThrough l old mid) same begins) rest

-- a fault among a file's records is the fault of the whole file
pub file_fault : (file : ℕ) (content : Content) (drops : Bool) (old mid : Indexing) (f at : ℕ) → drop_lines drops ≡ begin_lines content → GoesThrough (drop_lines drops) old mid
    → StopsIn (record_lines file (content_items content) ++ fault_lines file (fault_of content)) mid f at → StopsIn (file_lines file content) old f at
file_fault file content drops old mid f at same begins fault places s past stand keeps =
    let rest : List Line = record_lines file (content_items content) ++ fault_lines file (fault_of content) in
    let one = subst (λ (l : List Line). GoesThrough l old mid) same begins places s past (stand_front places (begin_lines content) rest stand) keeps in
    fault_append s.base past (begin_lines content) rest f at one.0 (fault places s (past_lines past (begin_lines content)) (stand_back places (begin_lines content) rest stand) one.1)

-- a wrong header
pub header_fault : (told : Option Told) (file : ℕ) (old : Indexing) (e : FrameRefused)
    → FrameBad e (λ f at. (f ≡ file) × (at ≡ 0) × ((bytes : List ℕ) → HasFile told file bytes → Holds file bytes BadHeader))
    → WhereBadLog (as_frame e) (λ f at. WhereHolds told file (λ content. StopsIn (file_lines file content) old f at))
header_fault told file old e bad =
    frame_bad e (λ f at. WhereHolds told file (λ content. StopsIn (file_lines file content) old f at))
    (frame_maps e (λ f at. (f ≡ file) × (at ≡ 0) × ((bytes : List ℕ) → HasFile told file bytes → Holds file bytes BadHeader)) (λ f at. WhereHolds told file (λ content. StopsIn (file_lines file content) old f at))
    (λ f at h. λ bytes content has holds places s past stand keeps.
    let same : content ≡ BadHeader = one-content file bytes content BadHeader holds (h.2 bytes has) in
    subst (λ (c : Content). HasFault s.base past (file_lines file c) f at) (sym same)
    (record { before = []; line = Faulty file 0; behind = []; split = refl; sound = tt; bad = λ no. no; place = (h.0, h.1) }))
    bad)
