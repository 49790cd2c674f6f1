-- What a folder recovers to, whose last log file a channel writes.
use Rattle.std.proofs.Common.{◌⊎◌, inl, inr, ◌≡◌, ◌<◌, ◌≤◌, ◌+◌, ◌^◌, ◌++◌, ◌∷◌, [], ℕ, List, length, length-append, map, max, Option, Some, None, refl, sym, ◌∙◌, ap, subst, arith, append_assoc}
use Rattle.std.proofs.lemmas.List.{append-nil}
use Rattle.std.specs.Prelude.{◌==◌, Bool, true, false, if◌then◌else◌, IsSomeAnd}
use Rattle.flume_host.specs.Folder.{Files, same_name}
use Rattle.flume_host.specs.declared.names.FileName.{FileName}
use Rattle.flume_host.specs.declared.names.FileName.TheVariants.{Log}
use Rattle.event_core.specs.Journal.{Base, after_journal}
use Rattle.event_core.specs.Numbers.{u16_bytes, u32_bytes}
use Rattle.record_form.specs.declared.record.Rec.{Rec}
use Rattle.channel_log.specs.Frames.{Content, Blank, IsBirth, Whole, Holds, frame_bytes, header, opened}
use Rattle.channel_log.specs.Reader.{frame_items, record_items}
use Rattle.channel_log.specs.Writer.{HasFrames}
use Rattle.channel_face.specs.Machine.{State}
use Rattle.channel_replay.specs.declared.line.Line.{Line}
use Rattle.channel_replay.specs.declared.line.Line.TheVariants.{Begins}
use Rattle.record_form.specs.Record.{record_length}
use Rattle.channel_replay.specs.Marks.{Past, Dropped, Applied, journal, next_txn}
use Rattle.channel_replay.specs.Recover.{AreSound, StandsFrom, file_lines, past_lines, record_lines}
use Rattle.channel_replay.specs.Start.{Start, start_past}
use Rattle.channel_replay.proofs.Lines.{past_lines-append, sound_append}
use Rattle.checkpoint_recovery.specs.Recovers.{BeginsAt, RecoversTo}
use Rattle.checkpoint_opening.specs.Laws.{Grows}
use Rattle.checkpoint_opening.proofs.Growing.{grown_begins}
use Rattle.checkpoint_opening.proofs.Fitting.{left_fits}
use Rattle.channel_writing.specs.Folders.{Fit, OpensTo}
use Rattle.channel_writing.specs.Mirrors.{AreLegal, Mirrors, applied}
use Rattle.channel_writing.specs.Logs.{AreMarks, GoesOn, Logs, entered, flat}
use Rattle.channel_writing.specs.Laws.{FramesRecover, FlushRecovers, FlushIsLogged}
use Rattle.channel_writing.specs.Written.{MayRecover, RecoversSettled}
use Rattle.channel_writing.proofs.Ending.{flush_mirrored, staged_base}

-- how long the header of a log file is
pub length-header : (birth number : ℕ) → length (header birth number) ≡ 16
unfolding header u16_bytes u32_bytes
length-header birth number = refl

-- records after records

-- the marks after two runs of records
pub applied-append : (past : Past) (a b : List Rec) → applied past (a ++ b) ≡ applied (applied past a) b
applied-append past [] b = refl
applied-append past (rec ∷ a) b = applied-append (Applied rec ∷ past) a b

-- legal records after legal records are legal
pub legal-append : (base : Base) (past : Past) (a b : List Rec) → AreLegal base past a → AreLegal base (applied past a) b → AreLegal base past (a ++ b)
legal-append base past [] b first later = later
legal-append base past (rec ∷ a) b first later = (first.0, legal-append base (Applied rec ∷ past) a b first.1 later)

-- the lines of records

abbrev pub firsts : List (Rec × ℕ) → List Rec
firsts items = map (λ (item : Rec × ℕ). item.0) items

firsts-append : (a b : List (Rec × ℕ)) → firsts (a ++ b) ≡ firsts a ++ firsts b
firsts-append [] b = refl
firsts-append (item ∷ a) b = ap (λ (l : List Rec). item.0 ∷ l) (firsts-append a b)

firsts-records : (at : ℕ) (records : List Rec) → firsts (record_items at records) ≡ records
firsts-records at [] = refl
firsts-records at (rec ∷ records) = ap (λ (l : List Rec). rec ∷ l) (firsts-records (at + record_length rec) records)

-- the records of a file's frames, without their places
pub firsts-frames : (gate : ℕ) (frames : List (List Rec)) → firsts (frame_items gate frames) ≡ flat frames
firsts-frames gate [] = refl
firsts-frames gate (frame ∷ frames) =
    firsts-append (record_items (gate + 1) frame) (frame_items (gate + 1 + length (frame_bytes frame)) frames)
    ∙ (ap (λ (l : List Rec). l ++ firsts (frame_items (gate + 1 + length (frame_bytes frame)) frames)) (firsts-records (gate + 1) frame)
    ∙ ap (λ (l : List Rec). frame ++ l) (firsts-frames (gate + 1 + length (frame_bytes frame)) frames))

-- the lines of records leave the marks of these records
pub past_records : (file : ℕ) (past : Past) (items : List (Rec × ℕ)) → past_lines past (record_lines file items) ≡ applied past (firsts items)
past_records file past [] = refl
past_records file past (item ∷ items) = past_records file (Applied item.0 ∷ past) items

-- the lines of legal records are sound
pub sound_records : (base : Base) (file : ℕ) (past : Past) (items : List (Rec × ℕ)) → AreLegal base past (firsts items) → AreSound base past (record_lines file items)
sound_records base file past [] legal = tt
sound_records base file past (item ∷ items) legal = (legal.0, sound_records base file (Applied item.0 ∷ past) items legal.1)

-- where a file is entered, nothing is added to the journal, and no transaction number is used

entered_journal : (birth : ℕ) (past : Past) → journal (entered birth past) ≡ journal past
entered_journal birth past = from (birth == 1)
  where
    from : (b : Bool) → journal (if b then Dropped ∷ past else past) ≡ journal past
    from true = refl
    from false = refl

entered_next : (birth : ℕ) (past : Past) → next_txn (entered birth past) ≡ next_txn past
entered_next birth past = from (birth == 1)
  where
    from : (b : Bool) → next_txn (if b then Dropped ∷ past else past) ≡ next_txn past
    from true = refl
    from false = refl

-- the marks after the lines of a file are those of its records after where it is entered
past_entered : (birth : ℕ) (past : Past) (found : List Line) → past_lines past ((if birth == 1 then Begins ∷ [] else []) ++ found) ≡ past_lines (entered birth past) found
past_entered birth past found = from (birth == 1)
  where
    from : (b : Bool) → past_lines past ((if b then Begins ∷ [] else []) ++ found) ≡ past_lines (if b then Dropped ∷ past else past) found
    from true = refl
    from false = refl

sound_entered : (base : Base) (birth : ℕ) (past : Past) (found : List Line) → AreSound base (entered birth past) found → AreSound base past ((if birth == 1 then Begins ∷ [] else []) ++ found)
sound_entered base birth past found sound = from (birth == 1) sound
  where
    from : (b : Bool) → AreSound base (if b then Dropped ∷ past else past) found → AreSound base past ((if b then Begins ∷ [] else []) ++ found)
    from true sound = (tt, sound)
    from false sound = sound

-- the marks after a whole file, and its lines are sound
pub whole_past : (birth : ℕ) (past : Past) (number : ℕ) (frames : List (List Rec)) → past_lines past (file_lines number (Whole birth frames)) ≡ applied (entered birth past) (flat frames)
whole_past birth past number frames =
    let items : List (Rec × ℕ) = frame_items 16 frames in
    let first : Past = entered birth past in
    past_entered birth past (record_lines number items ++ [])
    ∙ (ap (λ (l : List Line). past_lines first l) (append-nil (record_lines number items)) ∙ (past_records number first items ∙ ap (λ (l : List Rec). applied first l) (firsts-frames 16 frames)))

-- the lines of a whole file are sound where its records are legal
pub whole_sound : (base : Base) (birth : ℕ) (past : Past) (number : ℕ) (frames : List (List Rec)) → AreLegal base (entered birth past) (flat frames) → AreSound base past (file_lines number (Whole birth frames))
whole_sound base birth past number frames legal =
    let items : List (Rec × ℕ) = frame_items 16 frames in
    let first : Past = entered birth past in
    sound_entered base birth past (record_lines number items ++ [])
    (subst (λ (l : List Line). AreSound base first l) (sym (append-nil (record_lines number items))) (sound_records base number first items (subst (λ (l : List Rec). AreLegal base first l) (sym (firsts-frames 16 frames)) legal)))

-- a file of these frames holds them, or counts as empty and has none
pub held_content : (birth number : ℕ) (frames : List (List Rec)) (bytes : List ℕ) → IsBirth birth → HasFrames birth number frames bytes
    → (content : Content) × Holds number bytes content × ((content ≡ Whole birth frames) ⊎ ((content ≡ Blank) × (frames ≡ [])))
held_content birth number frames bytes is_birth has = from (longer (length bytes))
  where
    longer : (n : ℕ) → (17 < n) ⊎ (n ≤ 17)
    longer n = grind arith

    no_frames : (frames : List (List Rec)) (gate : ℕ) (rest : List ℕ) → length bytes ≤ 17 → bytes ≡ header birth number ++ (opened frames ++ gate ∷ rest) → frames ≡ []
    no_frames [] gate rest short is = refl
    no_frames (frame ∷ frames) gate rest short is =
        let all : length bytes ≡ length (header birth number) + length (opened (frame ∷ frames) ++ gate ∷ rest) = ap (λ (l : List ℕ). length l) is ∙ length-append (header birth number) (opened (frame ∷ frames) ++ gate ∷ rest) in
        let two : length (opened (frame ∷ frames) ++ gate ∷ rest) ≡ length (opened (frame ∷ frames)) + length (gate ∷ rest) = length-append (opened (frame ∷ frames)) (gate ∷ rest) in
        absurd (omega (arith, all, two, short, length-header birth number))

    from : ((17 < length bytes) ⊎ (length bytes ≤ 17)) → (content : Content) × Holds number bytes content × ((content ≡ Whole birth frames) ⊎ ((content ≡ Blank) × (frames ≡ [])))
    from (inl long) = (Whole birth frames, (long, (is_birth, has)), inl refl)
    from (inr short) = (Blank, short, inr (refl, no_frames frames has.2.gate has.2.rest short (has.1 ∙ ap (λ (l : List ℕ). header birth number ++ l) has.2.split)))

-- a folder that gains a log file goes on by the frames of that

module _ (files folder : Files) (start : Start) (found : List Line) (birth number : ℕ) (more : List (List Rec)) where
  abbrev before : Past
  before = past_lines (start_past start) found

  grown_whole : Grows files folder number (Whole birth more) → BeginsAt files start found → AreSound start.base (start_past start) found → GoesOn folder start (entered birth before) birth [] more
  grown_whole grows begins sound =
      let own : List Line = file_lines number (Whole birth more) in
      record {
        found = found ++ own;
        begins = grown_begins files folder number (Whole birth more) start found grows begins;
        sound = λ legal. sound_append start.base (start_past start) found own sound (whole_sound start.base birth before number more legal);
        marks = inl (past_lines-append (start_past start) found own ∙ whole_past birth before number more);
      }

  grown_blank : Grows files folder number Blank → more ≡ [] → BeginsAt files start found → AreSound start.base (start_past start) found → GoesOn folder start (entered birth before) birth [] more
  grown_blank grows none begins sound =
      let same : found ++ [] ≡ found = append-nil found in
      record {
        found = found ++ [];
        begins = grown_begins files folder number Blank start found grows begins;
        sound = λ legal. subst (λ (l : List Line). AreSound start.base (start_past start) l) (sym same) sound;
        marks = inr (refl, none, ap (λ (l : List Line). entered birth (past_lines (start_past start) l)) (sym same));
      }

  -- a folder goes on into a new last log file by the frames which that has
  pub grown_goes : IsBirth birth → number < 2 ^ 32 → ((n : ℕ) → number ≤ n → files (Log n) ≡ None) → ((name : FileName) → same_name name (Log number) ≡ false → folder name ≡ files name)
      → BeginsAt files start found → AreSound start.base (start_past start) found → IsSomeAnd (folder (Log number)) (HasFrames birth number more) → GoesOn folder start (entered birth before) birth [] more
  grown_goes is_birth small none others begins sound has = from (folder (Log number)) refl has
    where
      grows : (bytes : List ℕ) (content : Content) → folder (Log number) ≡ Some bytes → Holds number bytes content → Grows files folder number content
      grows bytes content is holds = record { small = small; none = none; holds = subst (λ (file : Option (List ℕ)). IsSomeAnd file (λ bytes. Holds number bytes content)) (sym is) holds; others = others }

      by_content : (bytes : List ℕ) (content : Content) → folder (Log number) ≡ Some bytes → Holds number bytes content → (content ≡ Whole birth more) ⊎ ((content ≡ Blank) × (more ≡ [])) → GoesOn folder start (entered birth before) birth [] more
      by_content bytes content is holds (inl whole) = grown_whole (subst (λ (c : Content). Grows files folder number c) whole (grows bytes content is holds)) begins sound
      by_content bytes content is holds (inr blank) = grown_blank (subst (λ (c : Content). Grows files folder number c) blank.0 (grows bytes content is holds)) blank.1 begins sound

      from : (file : Option (List ℕ)) → folder (Log number) ≡ file → IsSomeAnd file (HasFrames birth number more) → GoesOn folder start (entered birth before) birth [] more
      from None is has = absurd has
      from (Some bytes) is has = let held = held_content birth number more bytes is_birth has in by_content bytes held.0 is held.1 held.2

-- what a log that goes on leaves

marks_journal : (birth : ℕ) (found past : Past) (frames more : List (List Rec)) → AreMarks birth found past frames more → journal found ≡ journal (applied past (flat more))
marks_journal birth found past frames more (inl is) = ap journal is
marks_journal birth found past frames more (inr is) = sym (ap (λ (m : List (List Rec)). journal (applied past (flat m))) is.1 ∙ (ap journal is.2 ∙ entered_journal birth found))

marks_next : (birth : ℕ) (found past : Past) (frames more : List (List Rec)) → AreMarks birth found past frames more → next_txn found ≡ next_txn (applied past (flat more))
marks_next birth found past frames more (inl is) = ap next_txn is
marks_next birth found past frames more (inr is) = sym (ap (λ (m : List (List Rec)). next_txn (applied past (flat m))) is.1 ∙ (ap next_txn is.2 ∙ entered_next birth found))

-- a folder whose log goes on by legal records recovers to what they leave
pub frames_recover : FramesRecover
frames_recover folder start past birth frames more goes legal = record {
  start = start;
  found = goes.found;
  begins = goes.begins;
  stands = record {
    sound = goes.sound legal;
    left_is = ap (λ (j : List _). after_journal start.base j) (sym (marks_journal birth (past_lines (start_past start) goes.found) past frames more goes.marks));
    txn_is = ap (λ (n : ℕ). max start.txn n) (sym (marks_next birth (past_lines (start_past start) goes.found) past frames more goes.marks));
  };
}

-- while a frame more is written

or_some : (file : Option (List ℕ)) (P Q : List ℕ → Type 0) → IsSomeAnd file (λ bytes. P bytes ⊎ Q bytes) → IsSomeAnd file P ⊎ IsSomeAnd file Q
or_some None P Q some = absurd some
or_some (Some bytes) P Q some = some

next_less : (past : Past) (records : List Rec) → next_txn past ≤ next_txn (applied past records)
next_less past [] = omega arith
next_less past (rec ∷ records) = omega (arith, next_less (Applied rec ∷ past) records)

both_less : (a b most : ℕ) → a ≤ most → b ≤ most → max a b ≤ most
both_less a b most x y = grind (arith, x, y)

-- the next numbers of what is left fit

left_fit : (s : State) (start : Start) (past : Past) (records : List Rec) (found : List Line) (left : Base) (txn : ℕ) → start.base.first < 2 ^ 64 → Mirrors start.base s past records → StandsFrom start found left txn → txn ≤ s.txn → Fit left txn
left_fit s start past records found left txn fits m stands low = (left_fits start found left txn stands fits, (let high = m.high.1 in omega (arith, high, low)))

-- the frames that are there are what is settled
pub settled_recovers : (s : State) (folder : Files) (birth number : ℕ) (frames : List (List Rec)) (records : List Rec) → Logs folder birth number s frames records → IsSomeAnd (folder (Log number)) (HasFrames birth number frames) → RecoversSettled s folder
unfolding frames_recover
settled_recovers s folder birth number frames records log has =
    let goes = log.goes [] (subst (λ (l : List (List Rec)). IsSomeAnd (folder (Log number)) (HasFrames birth number l)) (sym (append-nil frames)) has) in
    let txn : ℕ = max log.start.txn (next_txn log.past) in
    let low : txn ≤ s.txn = both_less log.start.txn (next_txn log.past) s.txn log.low (omega (arith, next_less log.past records, log.mirrors.next)) in
    let it : RecoversTo folder (after_journal log.start.base (journal log.past)) txn = frames_recover folder log.start log.past birth frames [] goes tt in
    (txn, low, subst (λ (b : Base). OpensTo folder b txn) (sym log.mirrors.base) (it, left_fit s log.start log.past records it.found (after_journal log.start.base (journal log.past)) txn log.fits log.mirrors it.stands low))

-- a crash while a frame is flushed leaves what is settled, or that with what is staged
pub flush_recovers : FlushRecovers
unfolding frames_recover
flush_recovers s folder birth number frames records log has = from (or_some (folder (Log number)) (HasFrames birth number frames) (HasFrames birth number (frames ++ records ∷ [])) has)
  where
    from : IsSomeAnd (folder (Log number)) (HasFrames birth number frames) ⊎ IsSomeAnd (folder (Log number)) (HasFrames birth number (frames ++ records ∷ [])) → MayRecover s folder
    from (inl lacks) = let it = settled_recovers s folder birth number frames records log lacks in (it.0, it.1, inl it.2)
    from (inr holds) =
        let all : records ++ [] ≡ records = append-nil records in
        let left : List Rec → Base = λ l. after_journal log.start.base (journal (applied log.past l)) in
        let txn : List Rec → ℕ = λ l. max log.start.txn (next_txn (applied log.past l)) in
        let legal = subst (λ (l : List Rec). AreLegal log.start.base log.past l) (sym all) log.mirrors.legal in
        let low : txn records ≤ s.txn = both_less log.start.txn (next_txn (applied log.past records)) s.txn log.low log.mirrors.next in
        let it = frames_recover folder log.start log.past birth frames (records ∷ []) (log.goes (records ∷ []) holds) legal in
        let fit = left_fit s log.start log.past records it.found (left (records ++ [])) (txn (records ++ [])) log.fits log.mirrors it.stands (subst (λ (l : List Rec). txn l ≤ s.txn) (sym all) low) in
        let same : OpensTo folder (left records) (txn records) = subst (λ (l : List Rec). OpensTo folder (left l) (txn l)) all (it, fit) in
        (txn records, low, inr (subst (λ (b : Base). OpensTo folder b (txn records)) (sym (staged_base log.start.base s log.past records log.mirrors)) same))

-- after a flush the log has one frame more
pub flush_logged : FlushIsLogged
flush_logged folder birth number s frames records log staged_earlier = record {
  start = log.start;
  past = applied log.past records;
  goes = λ more has. further more (log.goes (records ∷ more) (subst (λ (l : List (List Rec)). IsSomeAnd (folder (Log number)) (HasFrames birth number l)) (append_assoc frames (records ∷ []) more) has));
  fresh = λ first none. absurd (some_frames frames none);
  low = log.low;
  fits = log.fits;
  mirrors = flush_mirrored log.start.base s log.past records log.mirrors staged_earlier;
}
  where
    some_frames : (fs : List (List Rec)) → fs ++ records ∷ [] ≡ [] → ⊥
    some_frames [] none = cc
    some_frames (f ∷ fs) none = cc

    marks : (found : Past) (more : List (List Rec)) → AreMarks birth found log.past frames (records ∷ more) → AreMarks birth found (applied log.past records) (frames ++ records ∷ []) more
    marks found more (inl is) = inl (is ∙ applied-append log.past records (flat more))
    marks found more (inr is) = absurd (some_more is.1)
      where
        some_more : records ∷ more ≡ [] → ⊥
        some_more none = cc

    further : (more : List (List Rec)) → GoesOn folder log.start log.past birth frames (records ∷ more) → GoesOn folder log.start (applied log.past records) birth (frames ++ records ∷ []) more
    further more goes = record {
      found = goes.found;
      begins = goes.begins;
      sound = λ legal. goes.sound (legal-append log.start.base log.past records (flat more) log.mirrors.legal legal);
      marks = marks (past_lines (start_past log.start) goes.found) more goes.marks;
    }
