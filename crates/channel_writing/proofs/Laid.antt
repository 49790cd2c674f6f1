-- A log that goes on after the place of a checkpoint.
use Rattle.std.proofs.Common.{◌⊎◌, inl, inr, ◌≡◌, ◌≢◌, ◌<◌, ◌≤◌, ◌+◌, ◌++◌, ◌∷◌, [], ◌==◌, ℕ, List, drop, length, length-append, Option, Some, None, Bool, true, false, refl, sym, ◌∙◌, ap, subst, arith}
use Rattle.std.specs.Prelude.{IsSomeAnd, if◌then◌else◌}
use Rattle.std.proofs.lemmas.Bool.Decides.{eqb_tells}
use Rattle.std.proofs.lemmas.List.{append-nil, drop_at}
use Rattle.flume_host.specs.Folder.{Files}
use Rattle.flume_host.specs.declared.names.FileName.TheVariants.{Log}
use Rattle.event_core.specs.Journal.{Base}
use Rattle.event_core.specs.declared.journal.Entry.{Entry}
use Rattle.record_form.specs.declared.record.Rec.{Rec}
use Rattle.channel_log.specs.Frames.{Blank, Commits, Content, Holds, IsBirth, Whole, header, opened}
use Rattle.channel_log.specs.Reader.{Goes, frame_items}
use Rattle.channel_log.specs.Writer.{HasFrames}
use Rattle.channel_face.specs.Machine.{State, entry_of}
use Rattle.channel_replay.specs.declared.line.Line.{Line}
use Rattle.channel_replay.specs.Marks.{Dropped, Past, open_txns}
use Rattle.channel_replay.specs.Recover.{file_lines, record_lines}
use Rattle.channel_replay.specs.Start.{Start, start_past}
use Rattle.channel_replay.specs.StartLaws.{done_of}
use Rattle.checkpoint.specs.declared.place.Place.{Place}
use Rattle.checkpoint_recovery.specs.Reading as readings
use Rattle.checkpoint_recovery.specs.Reading.{HasFrom, LinesFrom}
use Rattle.checkpoint_recovery.specs.Recovers.{BeginsAt, From}
use Rattle.checkpoint_recovery.proofs.Readings.{reads_on}
use Rattle.channel_writing.specs.Laws.{IsLaidAt, LaidGoesOn, LaidIsLogged}
use Rattle.channel_writing.specs.Logs.{GoesOn, entered, entered_at}
use Rattle.channel_writing.specs.Mirrors.{AreLegal, Mirrors, applied, busy, one_if_done}
use Rattle.channel_writing.proofs.Checking.{checkpoint_mirrored}
use Rattle.channel_writing.proofs.Recovering.{firsts-frames, firsts, held_content, length-header, past_records, sound_records, whole_past, whole_sound}

module _ (folder : Files) (start : Start) (birth number : ℕ) (frames : List (List Rec)) (laid : IsLaidAt folder birth number frames start) (is_birth : IsBirth birth) where
  abbrev gate : ℕ
  gate = length (header birth number ++ opened frames)

  gate_is : gate ≡ 16 + length (opened frames)
  gate_is = omega (arith, length-append (header birth number) (opened frames), length-header birth number)

  -- the folder begins at the checkpoint's start, and after it has the lines of the last file from the place on
  begins_there : (found : List Line) (bytes : List ℕ) → folder (Log number) ≡ Some bytes → HasFrom number bytes gate found → BeginsAt folder start found
  begins_there found bytes there from =
      let lines : LinesFrom folder (record { file = number; at = gate }) found = record {
        own = found;
        logs = [];
        there = subst (λ (f : Option (List ℕ)). IsSomeAnd f (λ b. HasFrom number b gate found)) (sym there) from;
        behind = λ n low high. laid.none n (omega (arith, low));
        lines_are = sym (append-nil found);
      } in
      From laid.check laid.text laid.newest laid.is (subst (λ (p : Place). LinesFrom folder p found) (sym laid.place) lines)

  -- where the file has no frame before the place, its lines are all that it has
  goes_first : (more : List (List Rec)) (bytes : List ℕ) → folder (Log number) ≡ Some bytes → gate ≡ 16 → HasFrames birth number more bytes → GoesOn folder start (entered birth (start_past start)) birth [] more
  goes_first more bytes there at has = let held = held_content birth number more bytes is_birth has in by_content held.0 held.1 held.2
    where
      by_content : (content : Content) → Holds number bytes content → (content ≡ Whole birth more) ⊎ ((content ≡ Blank) × (more ≡ [])) → GoesOn folder start (entered birth (start_past start)) birth [] more
      by_content content holds (inl whole) = record {
        found = file_lines number (Whole birth more);
        begins = begins_there (file_lines number (Whole birth more)) bytes there (readings.Whole at (Whole birth more) (subst (λ (c : Content). Holds number bytes c) whole holds) refl);
        sound = λ legal. whole_sound start.base birth (start_past start) number more legal;
        marks = inl (whole_past birth (start_past start) number more);
      }
      by_content content holds (inr blank) = record {
        found = [];
        begins = begins_there [] bytes there (readings.Whole at Blank (subst (λ (c : Content). Holds number bytes c) blank.0 holds) refl);
        sound = λ legal. tt;
        marks = inr (refl, blank.1, refl);
      }

  -- after a frame, they are those of the frames after it
  goes_behind : (more : List (List Rec)) (bytes : List ℕ) → folder (Log number) ≡ Some bytes → 16 < gate → HasFrames birth number (frames ++ more) bytes → GoesOn folder start (start_past start) birth frames more
  goes_behind more bytes there framed has = record {
    found = found;
    begins = begins_there found bytes there (readings.Behind framed long (record {
      birth = birth;
      header = (is_birth, (has.0, has.1, tt));
      frames = more;
      fault = None;
      goes = goes;
      lines_are = sym (append-nil found);
    }));
    sound = λ legal. sound_records start.base number (start_past start) items (subst (λ (l : List Rec). AreLegal start.base (start_past start) l) (sym (firsts-frames gate more)) legal);
    marks = inl (past_records number (start_past start) items ∙ ap (λ (l : List Rec). applied (start_past start) l) (firsts-frames gate more));
  }
    where
      items : List (Rec × ℕ)
      items = frame_items gate more

      found : List Line
      found = record_lines number items

      rest_is : drop 16 bytes ≡ has.0
      rest_is = ap (λ (l : List ℕ). drop 16 l) has.1 ∙ drop_at (header birth number) has.0 16 (length-header birth number)

      all : Goes (drop 16 bytes) 16 (frames ++ more) None
      all = inl (subst (λ (l : List ℕ). Commits l (frames ++ more)) (sym rest_is) has.2, refl)

      goes : Goes (drop gate bytes) gate more None
      goes = subst (λ (n : ℕ). Goes (drop n bytes) n more None) (sym gate_is) (reads_on number 16 bytes frames more None all).0

      long : 17 < length bytes
      long =
          let whole : length bytes ≡ length (header birth number) + length (opened (frames ++ more) ++ has.2.gate ∷ has.2.rest) =
          ap (λ (l : List ℕ). length l) has.1 ∙ (length-append (header birth number) has.0 ∙ ap (λ (l : List ℕ). length (header birth number) + length l) has.2.split) in
          omega (arith, whole, length-header birth number, length-append (opened (frames ++ more)) (has.2.gate ∷ has.2.rest), some_opened frames more (omega (arith, gate_is, framed)))
        where
          some_opened : (fs more : List (List Rec)) → 1 ≤ length (opened fs) → 1 ≤ length (opened (fs ++ more))
          some_opened [] more some = absurd (omega (arith, some))
          some_opened (f ∷ fs) more some = omega arith

-- a folder goes on from the place of its newest checkpoint by the frames behind it
pub laid_goes_on : LaidGoesOn
laid_goes_on folder start birth number [] more laid is_birth has = from (folder (Log number)) refl has
  where
    from : (file : Option (List ℕ)) → folder (Log number) ≡ file → IsSomeAnd file (HasFrames birth number more) → GoesOn folder start (entered birth (start_past start)) birth [] more
    from None is has = absurd has
    from (Some bytes) is has = goes_first folder start birth number [] laid is_birth more bytes is (gate_is folder start birth number [] laid is_birth) has
laid_goes_on folder start birth number (frame ∷ frames) more laid is_birth has = from (folder (Log number)) refl has
  where
    framed : 16 < length (header birth number ++ opened (frame ∷ frames))
    framed = omega (arith, gate_is folder start birth number (frame ∷ frames) laid is_birth)

    from : (file : Option (List ℕ)) → folder (Log number) ≡ file → IsSomeAnd file (HasFrames birth number ((frame ∷ frames) ++ more)) → GoesOn folder start (start_past start) birth (frame ∷ frames) more
    from None is has = absurd has
    from (Some bytes) is has = goes_behind folder start birth number (frame ∷ frames) laid is_birth more bytes is framed has

-- where the file has no frame, nothing that is open did anything

idle : (os : List (ℕ × Entry)) (n : ℕ) → busy os ≡ 0 → done_of (entry_of n os) ≡ None
idle [] n none = refl
idle (o ∷ os) n none = from (eqb_tells o.0 n) (idle os n)
  where
    not_done : (e : Option Entry) → one_if_done e ≡ 0 → e ≡ None
    not_done None is = refl
    not_done (Some entry) is = absurd (omega (arith, is))

    from : ((o.0 == n) ≡ true) × (o.0 ≡ n) ⊎ ((o.0 == n) ≡ false) × (o.0 ≢ n) → (busy os ≡ 0 → done_of (entry_of n os) ≡ None) → done_of (entry_of n (o ∷ os)) ≡ None
    from (inl same) rest = ap (λ (b : Bool). done_of (if b then Some o.1 else entry_of n os)) same.0 ∙ not_done (done_of (Some o.1)) (omega (arith, none))
    from (inr other) rest = ap (λ (b : Bool). done_of (if b then Some o.1 else entry_of n os)) other.0 ∙ rest (omega (arith, none))

dropped_mirrors : (base : Base) (s : State) (past : Past) → busy s.opened ≡ 0 → Mirrors base s past [] → Mirrors base s (Dropped ∷ past) []
dropped_mirrors base s past none m = record {
  base = m.base;
  earlier = m.earlier;
  staged = m.staged;
  each = λ n. sym (idle s.opened n none);
  as_many = sym none;
  next = m.next;
  legal = tt;
  low = m.low;
  below = m.below;
  apart = m.apart;
  high = m.high;
  few = m.few;
}

entered_mirrors : (base : Base) (s : State) (past : Past) (birth : ℕ) (frames : List (List Rec)) → (birth ≡ 1 → frames ≡ [] → busy s.opened ≡ 0) → Mirrors base s past [] → Mirrors base s (entered_at birth frames past) []
entered_mirrors base s past birth (frame ∷ frames) none m = m
entered_mirrors base s past birth [] none m = from (eqb_tells birth 1)
  where
    from : ((birth == 1) ≡ true) × (birth ≡ 1) ⊎ ((birth == 1) ≡ false) × (birth ≢ 1) → Mirrors base s (entered birth past) []
    from (inl same) = subst (λ (b : Bool). Mirrors base s (if b then Dropped ∷ past else past) []) (sym same.0) (dropped_mirrors base s past (none same.1 refl) m)
    from (inr other) = subst (λ (b : Bool). Mirrors base s (if b then Dropped ∷ past else past) []) (sym other.0) m

-- nothing is open where the file is entered
entered_fresh : (birth : ℕ) (frames : List (List Rec)) (past : Past) → birth ≡ 1 → frames ≡ [] → open_txns (entered_at birth frames past) ≡ []
entered_fresh birth frames past first none = subst (λ (fs : List (List Rec)). open_txns (entered_at birth fs past) ≡ []) (sym none) (subst (λ (b : ℕ). open_txns (entered b past) ≡ []) (sym first) refl)

-- from a checkpoint of the channel's state on, the log is the channel's
pub laid_is_logged : LaidIsLogged
laid_is_logged earlier folder start birth number s frames log is_birth sound none low of laid =
    let both = (checkpoint_mirrored log.start.base s log.past log.mirrors sound none).1 start of in
    record {
      start = start;
      past = entered_at birth frames (start_past start);
      goes = λ more has. laid_goes_on folder start birth number frames more (laid more has) is_birth has;
      fresh = λ first no_frames. entered_fresh birth frames (start_past start) first no_frames;
      low = omega (arith, of.txn);
      fits = omega (arith, low, ap (λ (b : Base). b.first) of.base);
      mirrors = entered_mirrors start.base s (start_past start) birth frames (λ first no_frames. sym log.mirrors.as_many ∙ ap (λ (l : List ℕ). length l) (log.fresh first no_frames)) both.1;
    }
