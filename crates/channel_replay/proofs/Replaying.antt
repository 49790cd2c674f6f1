-- A file that is read record by record.
use Rattle.std.proofs.Common.{◌≡◌, ◌≢◌, ◌⊎◌, inl, inr, ◌≤◌, ◌+◌, ◌==◌, ℕ, List, [], ◌∷◌, ◌++◌, length, Option, Some, None, Result, Ok, Err, OnOk, IfErr, Bool, true, false, cond, refl, sym, ◌∙◌, ap, subst, arith, append_assoc, length-append}
use Rattle.std.proofs.lemmas.Bool.Decides.{eqb_tells}
use Rattle.std.proofs.lemmas.List.{append-nil}
use Rattle.flume_host.specs.Told.{Told}
use Rattle.event_core.specs.Journal.{Base}
use Rattle.record_form.specs.declared.record.Rec.{Rec}
use Rattle.channel_log.specs.Frames.{BadFrame, BadHeader, Blank, Content, Holds, Whole, fault_of}
use Rattle.channel_log.specs.Reader.{Gives, HasFile, IsBegun, Reader, Remains, WhereBad as FrameBad, content_items}
use Rattle.channel_log.specs.declared.loading.FrameRefused.{FrameRefused}
use Rattle.channel_log.specs.declared.loading.FrameRefused.TheVariants as frames
use Rattle.channel_log.proofs.Contents.{one-content}
use Rattle.channel_replay.specs.declared.recovery.Recovery.{Recovery}
use Rattle.channel_replay.specs.declared.refused.RecoverRefused.{RecoverRefused}
use Rattle.channel_replay.specs.declared.refused.RecoverRefused.TheVariants as records
use Rattle.channel_replay.specs.declared.refused.ReplayRefused.{ReplayRefused}
use Rattle.channel_replay.specs.declared.refused.ReplayRefused.TheVariants as refusals
use Rattle.channel_replay.specs.Marks.{Past}
use Rattle.channel_replay.specs.Plain.{WhereBad}
use Rattle.channel_replay.specs.Recover.{Begins, Faulty, HasFault, IsAt, IsSound, Line, Stands, begin_lines, empty_base, fault_lines, file_lines, past_line, past_lines, record_lines}
use Rattle.channel_replay.specs.Recovery.{Agrees, IsReached}
use Rattle.channel_replay.specs.Replay.{AppliesAll, WhereBadLog, WhereHolds, as_frame, as_record, drop_lines, record_count}
use Rattle.channel_replay.proofs.Lines.{fault_append, past_lines-append, sound_append}
use Rattle.channel_replay.proofs.Reading.{record_lines-append}

-- refusals of one kind as those of another

-- a fault that the reader of frames found, as a fault of the log
pub frame_bad : (e : FrameRefused) (P : ℕ → ℕ → Type 0) → FrameBad e P → WhereBadLog (as_frame e) P
frame_bad frames.DiskFault P is = tt
frame_bad (frames.BadLog file at) P is = is
frame_bad frames.NoMemory P is = tt

-- a fault that the check of a record found, as a fault of the log
pub record_bad : (e : RecoverRefused) (P : ℕ → ℕ → Type 0) → WhereBad e P → WhereBadLog (as_record e) P
record_bad (records.BadLog file at) P is = is
record_bad records.NoMemory P is = tt

-- what follows of each place of a fault follows where a frame was refused
pub frame_maps : (e : FrameRefused) (P Q : ℕ → ℕ → Type 0) → ((file at : ℕ) → P file at → Q file at) → FrameBad e P → FrameBad e Q
frame_maps frames.DiskFault P Q maps is = tt
frame_maps (frames.BadLog file at) P Q maps is = maps file at is
frame_maps frames.NoMemory P Q maps is = tt

-- what follows of each place of a fault follows where a replay was refused
pub log_maps : (e : ReplayRefused) (P Q : ℕ → ℕ → Type 0) → ((file at : ℕ) → P file at → Q file at) → WhereBadLog e P → WhereBadLog e Q
log_maps refusals.DiskFault P Q maps is = tt
log_maps (refusals.BadLog file at) P Q maps is = maps file at is
log_maps (refusals.OverCapacity count) P Q maps is = tt
log_maps refusals.NoMemory P Q maps is = tt

-- lines after lines

-- lines that were applied after others were applied with them as one run
pub applies_append : (a b : List Line) (old mid new : Recovery) → AppliesAll a old mid → AppliesAll b mid new → AppliesAll (a ++ b) old new
applies_append a b old mid new first second base past agrees =
    let one = first base past agrees in
    let two = second base (past_lines past a) one.1 in
    (sound_append base past a b one.0 two.0, subst (λ (p : Past). Agrees base p new) (sym (past_lines-append past a b)) two.1)

-- how many records two runs of lines have
pub record_count-append : (a b : List Line) → record_count (a ++ b) ≡ record_count a + record_count b
record_count-append [] b = omega arith
record_count-append (Begins ∷ a) b = record_count-append a b
record_count-append (Stands file at rec ∷ a) b = omega (arith, record_count-append a b)
record_count-append (Faulty file at ∷ a) b = record_count-append a b

record_count-items : (file : ℕ) (items : List (Rec × ℕ)) → record_count (record_lines file items) ≡ length items
record_count-items file [] = refl
record_count-items file (item ∷ items) = omega (arith, record_count-items file items)

-- How far a file was read.
pub record ReadUpTo (file : ℕ) (reader : Reader) (bytes : List ℕ) (items : List (Rec × ℕ)) (fault : Option ℕ) (start now : Recovery) (none steps : ℕ) : Type 0 where
  pub done : List (Rec × ℕ)
  pub rest : List (Rec × ℕ)
  pub split : items ≡ done ++ rest
  pub remains : Remains reader bytes rest fault
  pub applies : AppliesAll (record_lines file done) start now
  pub ticks : steps ≤ none + length done

pub record ReadsOn (was told : Option Told) (faulty faults file : ℕ) (first reader : Reader) (start now : Recovery) (none steps : ℕ) : Type 0 where
  pub same : told ≡ was
  pub well : faults ≡ faulty
  pub file_is : reader.file ≡ file
  pub reached : IsReached start → IsReached now
  pub on : (bytes : List ℕ) (items : List (Rec × ℕ)) (fault : Option ℕ) → HasFile was file bytes → Remains first bytes items fault → ReadUpTo file reader bytes items fault start now none steps

-- before the first record of a file was read
pub reads_none : (was : Option Told) (faulty file : ℕ) (first : Reader) (start : Recovery) (none : ℕ) → first.file ≡ file → ReadsOn was was faulty faulty file first first start start none none
reads_none was faulty file first start none is = record {
  same = refl;
  well = refl;
  file_is = is;
  reached = λ from. from;
  on = λ bytes items fault has remains. record { done = []; rest = items; split = refl; remains = remains; applies = λ base past agrees. (tt, agrees); ticks = omega arith };
}

there : (was told : Option Told) (file n : ℕ) (bytes : List ℕ) → told ≡ was → n ≡ file → HasFile was file bytes → HasFile told n bytes
there was told file n bytes same is has = subst (λ (o : Option Told). HasFile o n bytes) (sym same) (subst (λ (k : ℕ). HasFile was k bytes) (sym is) has)

-- what the next call gives, of what remains
abbrev pub GivesOf : Option Told → Reader → Option (Rec × ℕ) → Reader → Type 0
GivesOf told reader given next = (bytes : List ℕ) (items : List (Rec × ℕ)) (fault : Option ℕ) → HasFile told reader.file bytes → Remains reader bytes items fault → Gives given next bytes items fault

record GivenSome (rest : List (Rec × ℕ)) (given : Rec × ℕ) (next : Reader) (bytes : List ℕ) (fault : Option ℕ) : Type 0 where
  more : List (Rec × ℕ)
  is : rest ≡ given ∷ more
  remains : Remains next bytes more fault

given_some : (rest : List (Rec × ℕ)) (given : Rec × ℕ) (next : Reader) (bytes : List ℕ) (fault : Option ℕ) → Gives (Some given) next bytes rest fault → GivenSome rest given next bytes fault
given_some [] given next bytes fault gives = absurd gives
given_some (item ∷ more) given next bytes fault gives = record { more = more; is = ap (λ (x : Rec × ℕ). x ∷ more) (sym gives.0); remains = gives.1 }

given_none : (rest : List (Rec × ℕ)) (next : Reader) (bytes : List ℕ) (fault : Option ℕ) → Gives None next bytes rest fault → (rest ≡ []) × (fault ≡ None)
given_none [] next bytes fault gives = (refl, gives.0)
given_none (item ∷ more) next bytes fault gives = absurd gives

-- the record was applied
abbrev pub AppliesOne : ℕ → ℕ → Rec → Recovery → Recovery → Type 0
AppliesOne file at rec old new = (base : Base) (past : Past) → Agrees base past old → IsSound base past (Stands file at rec) × Agrees base (past_line past (Stands file at rec)) new

-- one record more of a file was read and applied
pub reads_more : (was told after : Option Told) (faulty faults more_faults file : ℕ) (first reader next : Reader) (start now new : Recovery) (none steps more_steps at : ℕ) (rec : Rec)
    → ReadsOn was told faulty faults file first reader start now none steps → GivesOf told reader (Some (rec, at)) next → next.file ≡ reader.file → more_steps ≡ steps + 1 → AppliesOne file at rec now new → after ≡ told → more_faults ≡ faults
    → ReadsOn was after faulty more_faults file first next start new none more_steps
reads_more was told after faulty faults more_faults file first reader next start now new none steps more_steps at rec on gives same_file ticked applies same well = record {
  same = same ∙ on.same;
  well = well ∙ on.well;
  file_is = same_file ∙ on.file_is;
  reached = λ from. let r = on.reached from in (past_line r.0 (Stands file at rec), (applies empty_base r.0 r.1).1);
  on = λ bytes items fault has remains.
      let u = on.on bytes items fault has remains in
      let g = given_some u.rest (rec, at) next bytes fault (gives bytes u.rest fault (there was told file reader.file bytes on.same on.file_is has) u.remains) in
      record {
        done = u.done ++ (rec, at) ∷ [];
        rest = g.more;
        split = u.split ∙ ap (λ (l : List (Rec × ℕ)). u.done ++ l) g.is ∙ sym (append_assoc u.done ((rec, at) ∷ []) g.more);
        remains = g.remains;
        applies = subst (λ (l : List Line). AppliesAll l start new) (sym (record_lines-append file u.done ((rec, at) ∷ [])))
            (applies_append (record_lines file u.done) (Stands file at rec ∷ []) start now new u.applies (λ base past agrees. let one = applies base past agrees in ((one.0, tt), one.1)));
        ticks = omega (arith, ticked, u.ticks, length-append u.done ((rec, at) ∷ []));
      };
}

-- where the reader gives no more, all that remained was applied, and there is no fault
pub reads_end : (was told : Option Told) (faulty faults file : ℕ) (first reader next : Reader) (start now : Recovery) (none steps : ℕ)
    → ReadsOn was told faulty faults file first reader start now none steps → GivesOf told reader None next
    → (bytes : List ℕ) (items : List (Rec × ℕ)) (fault : Option ℕ) → HasFile was file bytes → Remains first bytes items fault → AppliesAll (record_lines file items ++ fault_lines file fault) start now
reads_end was told faulty faults file first reader next start now none steps on gives bytes items fault has remains =
    let u = on.on bytes items fault has remains in
    let g = given_none u.rest next bytes fault (gives bytes u.rest fault (there was told file reader.file bytes on.same on.file_is has) u.remains) in
    let all : items ≡ u.done = u.split ∙ ap (λ (l : List (Rec × ℕ)). u.done ++ l) g.0 ∙ append-nil u.done in
    let lines : record_lines file items ++ fault_lines file fault ≡ record_lines file u.done = ap (λ (f : Option ℕ). record_lines file items ++ fault_lines file f) g.1 ∙ append-nil (record_lines file items) ∙ ap (record_lines file) all in
    subst (λ (l : List Line). AppliesAll l start now) (sym lines) u.applies

-- a fault of what remains, as the whole file has it
abbrev pub FaultOf : Option Told → ℕ → Reader → Recovery → ℕ → ℕ → Type 0
FaultOf was file first start f at =
    (bytes : List ℕ) (items : List (Rec × ℕ)) (fault : Option ℕ) → HasFile was file bytes → Remains first bytes items fault → (base : Base) (past : Past) → Agrees base past start → HasFault base past (record_lines file items ++ fault_lines file fault) f at

-- a fault that the reader finds is the first one of what remained
pub reads_fault : (was told : Option Told) (faulty faults file : ℕ) (first reader : Reader) (start now : Recovery) (none steps : ℕ) (e : FrameRefused)
    → ReadsOn was told faulty faults file first reader start now none steps
    → FrameBad e (λ f at. (f ≡ reader.file) × ((bytes : List ℕ) (items : List (Rec × ℕ)) (fault : Option ℕ) → HasFile told reader.file bytes → Remains reader bytes items fault → (items ≡ []) × (fault ≡ Some at)))
    → WhereBadLog (as_frame e) (FaultOf was file first start)
reads_fault was told faulty faults file first reader start now none steps e on bad =
    frame_bad e (FaultOf was file first start) (frame_maps e (λ f at. (f ≡ reader.file) × ((bytes : List ℕ) (items : List (Rec × ℕ)) (fault : Option ℕ) → HasFile told reader.file bytes → Remains reader bytes items fault → (items ≡ []) × (fault ≡ Some at))) (FaultOf was file first start)
    (λ f at h. λ bytes items fault has remains base past agrees.
    let u = on.on bytes items fault has remains in
    let e = h.1 bytes u.rest fault (there was told file reader.file bytes on.same on.file_is has) u.remains in
    let all : items ≡ u.done = u.split ∙ ap (λ (l : List (Rec × ℕ)). u.done ++ l) e.0 ∙ append-nil u.done in
    record {
      before = record_lines file u.done;
      line = Faulty file at;
      behind = [];
      split = ap (λ (o : Option ℕ). record_lines file items ++ fault_lines file o) e.1 ∙ ap (λ (l : List (Rec × ℕ)). record_lines file l ++ Faulty file at ∷ []) all;
      sound = (u.applies base past agrees).0;
      bad = λ no. no;
      place = (h.0 ∙ on.file_is, refl);
    })
    bad)

-- a record that was given and is not legal is the first fault of what remained
pub reads_illegal : (was told : Option Told) (faulty faults file : ℕ) (first reader next : Reader) (start now : Recovery) (none steps at : ℕ) (rec : Rec) (e : RecoverRefused)
    → ReadsOn was told faulty faults file first reader start now none steps → GivesOf told reader (Some (rec, at)) next
    → WhereBad e (λ f a. IsAt (Stands file at rec) f a × ((base : Base) (past : Past) → Agrees base past now → IsSound base past (Stands file at rec) → ⊥))
    → WhereBadLog (as_record e) (FaultOf was file first start)
reads_illegal was told faulty faults file first reader next start now none steps at rec e on gives bad = record_bad e (FaultOf was file first start) (maps e bad)
  where
    fault_there : (f a : ℕ) → IsAt (Stands file at rec) f a × ((base : Base) (past : Past) → Agrees base past now → IsSound base past (Stands file at rec) → ⊥) → FaultOf was file first start f a
    fault_there f a h bytes items fault has remains base past agrees =
        let u = on.on bytes items fault has remains in
        let g = given_some u.rest (rec, at) next bytes fault (gives bytes u.rest fault (there was told file reader.file bytes on.same on.file_is has) u.remains) in
        let one = u.applies base past agrees in
        let split : record_lines file items ≡ record_lines file u.done ++ Stands file at rec ∷ record_lines file g.more = ap (record_lines file) (u.split ∙ ap (λ (l : List (Rec × ℕ)). u.done ++ l) g.is) ∙ record_lines-append file u.done ((rec, at) ∷ g.more) in
        record {
          before = record_lines file u.done;
          line = Stands file at rec;
          behind = record_lines file g.more ++ fault_lines file fault;
          split = ap (λ (l : List Line). l ++ fault_lines file fault) split ∙ append_assoc (record_lines file u.done) (Stands file at rec ∷ record_lines file g.more) (fault_lines file fault);
          sound = one.0;
          bad = h.1 base (past_lines past (record_lines file u.done)) one.1;
          place = h.0;
        }

    maps : (e : RecoverRefused) → WhereBad e (λ f a. IsAt (Stands file at rec) f a × ((base : Base) (past : Past) → Agrees base past now → IsSound base past (Stands file at rec) → ⊥)) → WhereBad e (FaultOf was file first start)
    maps (records.BadLog f a) h = fault_there f a h
    maps records.NoMemory h = tt

-- no more steps than records
abbrev pub StepsOf : Option Told → ℕ → Reader → ℕ → ℕ → Type 0
StepsOf was file first none steps = (bytes : List ℕ) (items : List (Rec × ℕ)) (fault : Option ℕ) → HasFile was file bytes → Remains first bytes items fault → steps ≤ none + length items

-- reading takes no more steps than there are records
pub reads_ticks : (was told : Option Told) (faulty faults file : ℕ) (first reader : Reader) (start now : Recovery) (none steps more : ℕ) → ReadsOn was told faulty faults file first reader start now none steps → more ≡ steps → StepsOf was file first none more
reads_ticks was told faulty faults file first reader start now none steps more on is bytes items fault has remains =
    let u = on.on bytes items fault has remains in
    omega (arith, is, u.ticks, ap length u.split, length-append u.done u.rest)

-- one step more for a record that was given is within the count of the records
pub reads_one_tick : (was told : Option Told) (faulty faults file : ℕ) (first reader next : Reader) (start now : Recovery) (none steps more at : ℕ) (rec : Rec)
    → ReadsOn was told faulty faults file first reader start now none steps → GivesOf told reader (Some (rec, at)) next → more ≡ steps + 1 → StepsOf was file first none more
reads_one_tick was told faulty faults file first reader next start now none steps more at rec on gives is bytes items fault has remains =
    let u = on.on bytes items fault has remains in
    let g = given_some u.rest (rec, at) next bytes fault (gives bytes u.rest fault (there was told file reader.file bytes on.same on.file_is has) u.remains) in
    omega (arith, is, u.ticks, ap length u.split, length-append u.done u.rest, ap length g.is)

-- a file from its begin on

abbrev pub IsFirst : Type 0
IsFirst = ◌≡◌ {A = ℕ} 16 16

-- a file drops what is open just where its content is of birth 1
pub begins_as : (drops : Bool) (content : Content) → (drops ≡ true → IsFirst × IsBegun content) → (IsFirst × IsBegun content → drops ≡ true) → drop_lines drops ≡ begin_lines content
begins_as true Blank to from = absurd ((to refl).1)
begins_as false Blank to from = refl
begins_as true BadHeader to from = absurd ((to refl).1)
begins_as false BadHeader to from = refl
begins_as drops (Whole birth frames) to from = by_birth drops birth to from (eqb_tells birth 1)
  where
    by_birth : (drops : Bool) (birth : ℕ) → (drops ≡ true → IsFirst × (birth ≡ 1)) → (IsFirst × (birth ≡ 1) → drops ≡ true) → ((birth == 1) ≡ true) × (birth ≡ 1) ⊎ ((birth == 1) ≡ false) × (birth ≢ 1) → drop_lines drops ≡ cond (birth == 1) (Begins ∷ []) []
    by_birth drops birth to from (inl one) = rw (one.0, from (refl, one.1)) refl
    by_birth true birth to from (inr other) = absurd (other.1 ((to refl).1))
    by_birth false birth to from (inr other) = rw other.0 refl
begins_as drops (BadFrame birth frames) to from = by_birth drops birth to from (eqb_tells birth 1)
  where
    by_birth : (drops : Bool) (birth : ℕ) → (drops ≡ true → IsFirst × (birth ≡ 1)) → (IsFirst × (birth ≡ 1) → drops ≡ true) → ((birth == 1) ≡ true) × (birth ≡ 1) ⊎ ((birth == 1) ≡ false) × (birth ≢ 1) → drop_lines drops ≡ cond (birth == 1) (Begins ∷ []) []
    by_birth drops birth to from (inl one) = rw (one.0, from (refl, one.1)) refl
    by_birth true birth to from (inr other) = absurd (other.1 ((to refl).1))
    by_birth false birth to from (inr other) = rw other.0 refl

-- a file was applied where first its drop and then its records were
pub file_applies : (file : ℕ) (content : Content) (drops : Bool) (old mid new : Recovery) → drop_lines drops ≡ begin_lines content → AppliesAll (drop_lines drops) old mid → AppliesAll (record_lines file (content_items content) ++ fault_lines file (fault_of content)) mid new → AppliesAll (file_lines file content) old new
file_applies file content drops old mid new same begins rest =
    applies_append (begin_lines content) (record_lines file (content_items content) ++ fault_lines file (fault_of content)) old mid new (subst (λ (l : List Line). AppliesAll l old mid) same begins) rest

-- a fault of a file's records is one of the whole file, after its drop
pub file_fault : (file : ℕ) (content : Content) (drops : Bool) (old mid : Recovery) (f at : ℕ) → drop_lines drops ≡ begin_lines content → AppliesAll (drop_lines drops) old mid
    → ((base : Base) (past : Past) → Agrees base past mid → HasFault base past (record_lines file (content_items content) ++ fault_lines file (fault_of content)) f at)
    → (base : Base) (past : Past) → Agrees base past old → HasFault base past (file_lines file content) f at
file_fault file content drops old mid f at same begins fault base past agrees =
    let one = subst (λ (l : List Line). AppliesAll l old mid) same begins base past agrees in
    fault_append base past (begin_lines content) (record_lines file (content_items content) ++ fault_lines file (fault_of content)) f at one.0 (fault base (past_lines past (begin_lines content)) one.1)

-- a file's lines have as many records as its content, so as many steps are allowed
pub file_ticks : (file : ℕ) (content : Content) (none steps : ℕ) → steps ≤ none + length (content_items content) → steps ≤ none + record_count (file_lines file content)
file_ticks file content none steps few =
    omega (arith, few, record_count-append (begin_lines content) (record_lines file (content_items content) ++ fault_lines file (fault_of content)), record_count-append (record_lines file (content_items content)) (fault_lines file (fault_of content)), record_count-items file (content_items content))

-- a wrong header
pub header_fault : (told : Option Told) (file : ℕ) (old : Recovery) (e : FrameRefused)
    → FrameBad e (λ f at. (f ≡ file) × (at ≡ 0) × ((bytes : List ℕ) → HasFile told file bytes → Holds file bytes BadHeader))
    → WhereBadLog (as_frame e) (λ f at. WhereHolds told file (λ content. (base : Base) (past : Past) → Agrees base past old → HasFault base past (file_lines file content) f at))
header_fault told file old e bad =
    frame_bad e (λ f at. WhereHolds told file (λ content. (base : Base) (past : Past) → Agrees base past old → HasFault base past (file_lines file content) f at))
    (frame_maps e (λ f at. (f ≡ file) × (at ≡ 0) × ((bytes : List ℕ) → HasFile told file bytes → Holds file bytes BadHeader)) (λ f at. WhereHolds told file (λ content. (base : Base) (past : Past) → Agrees base past old → HasFault base past (file_lines file content) f at))
    (λ f at h. λ bytes content has holds base past agrees.
    let same : content ≡ BadHeader = one-content file bytes content BadHeader holds (h.2 bytes has) in
    subst (λ (c : Content). HasFault base past (file_lines file c) f at) (sym same)
    (record { before = []; line = Faulty file 0; behind = []; split = refl; sound = tt; bad = λ no. no; place = (h.0, h.1) }))
    bad)

-- what is reached is so still
pub reaches : (lines : List Line) (old new : Recovery) → AppliesAll lines old new → IsReached old → IsReached new
reaches lines old new applies from = (past_lines from.0 lines, (applies empty_base from.0 from.1).1)

-- of answers

-- what follows of a success follows of the answer of a replay
pub ok_maps : (r : Result (Unit {0}) ReplayRefused) (P Q : Type 0) → (P → Q) → OnOk r P → OnOk r Q
ok_maps (Ok done) P Q maps is = maps is
ok_maps (Err e) P Q maps is = tt

-- what follows of each place of a fault follows of the answer of a replay
pub err_log_maps : (r : Result (Unit {0}) ReplayRefused) (P Q : ℕ → ℕ → Type 0) → ((file at : ℕ) → P file at → Q file at) → IfErr r (λ e. WhereBadLog e P) → IfErr r (λ e. WhereBadLog e Q)
err_log_maps (Ok done) P Q maps is = tt
err_log_maps (Err e) P Q maps is = log_maps e P Q maps is
