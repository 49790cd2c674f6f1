-- From a place in a log file a folder has some lines.
use Rattle.std.proofs.Common.{inl, inr, ◌≡◌, ◌<◌, ◌≤◌, ◌+◌, ◌-◌, ◌^◌, ◌++◌, ◌∷◌, [], ℕ, List, length, length-append, length-drop, drop, Option, Some, None, refl, sym, ap, subst, arith}
use Rattle.std.specs.Prelude.{IsSomeAnd}
use Rattle.std.proofs.lemmas.Bool.{cases_eq, cases_lt}
use Rattle.flume_host.specs.Folder.{Files}
use Rattle.flume_host.specs.declared.names.FileName.TheVariants.{Log}
use Rattle.event_core.specs.Numbers.{u16_bytes, u32_bytes}
use Rattle.record_form.specs.declared.record.Rec.{Rec}
use Rattle.channel_log.specs.Frames as contents
use Rattle.channel_log.specs.Frames.{BadFrame, BadHeader, Blank, Breaks, Content, HasHeader, Holds, IsFrame, frame_bytes, header, opened}
use Rattle.channel_log.specs.Reader.{Goes, frame_items}
use Rattle.channel_log.proofs.Contents.{one_header}
use Rattle.channel_log.proofs.Every.{some_content}
use Rattle.channel_replay.specs.declared.line.Line.{Line}
use Rattle.channel_replay.specs.declared.line.Line.TheVariants.{Faulty}
use Rattle.channel_replay.specs.Recover.{AreLogs, LogFile, fault_lines, file_lines, lines, record_lines}
use Rattle.channel_replay.proofs.OneList.{logs_from}
use Rattle.checkpoint_recovery.specs.Laws.{HasSomeReading}
use Rattle.checkpoint_recovery.specs.Reading.{Behind, HasFrom, LinesFrom, Whole, Wrong}

-- frames and a fault from some commit byte on
record SomeGoes (bytes : List ℕ) (at : ℕ) : Type 0 where
  frames : List (List Rec)
  fault : Option ℕ
  goes : Goes bytes at frames fault

no_frame : (frame : List ℕ) (gate : ℕ) (behind : List ℕ) → [] ≡ frame ++ gate ∷ behind → ⊥
no_frame [] gate behind is = absurd (cc)
no_frame (b ∷ frame) gate behind is = absurd (cc)

-- a commit byte with nothing after it
one_byte : (g at : ℕ) → SomeGoes (g ∷ []) at
one_byte g at =
    elim (cases_eq g 1) [
      | inl is ↦ record {
        frames = [];
        fault = Some (at + 0);
        goes = inr (record { each = tt; rest = []; split = ap (λ (n : ℕ). n ∷ []) is; none = λ frame gate behind each same. no_frame (frame_bytes frame) gate behind same }, refl);
      }
      | inr closed ↦ record { frames = []; fault = None; goes = inl (record { each = tt; gate = g; rest = []; split = refl; closed = closed }, refl) }
    ]

length-header : (birth number : ℕ) → length (header birth number) ≡ 16
unfolding header u16_bytes u32_bytes
length-header birth number = refl

-- the frames of a file whose header stands before these bytes
of_file : (bytes : List ℕ) (at : ℕ) → 2 ≤ length bytes → SomeGoes bytes at
of_file bytes at long = by_content (some_content 0 (header 1 0 ++ bytes)).0 (some_content 0 (header 1 0 ++ bytes)).1
  where
    size : 17 < length (header 1 0 ++ bytes)
    size = omega (arith, length-append (header 1 0) bytes, length-header 1 0, long)

    by_content : (content : Content) → Holds 0 (header 1 0 ++ bytes) content → SomeGoes bytes at
    by_content Blank holds = absurd (omega (arith, size, holds))
    by_content BadHeader holds = absurd (holds.1 1 (inl refl, (bytes, refl, tt)))
    by_content (contents.Whole birth frames) holds =
        let same : bytes ≡ holds.1.1.0 = (one_header 1 birth 0 (header 1 0 ++ bytes) bytes holds.1.1.0 (inl refl) holds.1.0 refl holds.1.1.1).1 in
        record { frames = frames; fault = None; goes = inl (subst (λ (l : List ℕ). contents.Commits l frames) (sym same) holds.1.1.2, refl) }
    by_content (BadFrame birth frames) holds =
        let same : bytes ≡ holds.1.1.0 = (one_header 1 birth 0 (header 1 0 ++ bytes) bytes holds.1.1.0 (inl refl) holds.1.0 refl holds.1.1.1).1 in
        record { frames = frames; fault = Some (at + length (opened frames)); goes = inr (subst (λ (l : List ℕ). Breaks l frames) (sym same) holds.1.1.2, refl) }

some_goes : (bytes : List ℕ) (at : ℕ) → 1 ≤ length bytes → SomeGoes bytes at
some_goes [] at some = absurd (omega (arith, some))
some_goes (g ∷ []) at some = one_byte g at
some_goes (g ∷ h ∷ rest) at some = of_file (g ∷ h ∷ rest) at (omega arith)

-- lines of a file from some commit byte on
record SomeFrom (number : ℕ) (bytes : List ℕ) (at : ℕ) : Type 0 where
  found : List Line
  has : HasFrom number bytes at found

with_header : (number birth : ℕ) (bytes : List ℕ) (at : ℕ) → 16 < at → at < length bytes → HasHeader birth number bytes (λ rest. Unit {0}) → SomeFrom number bytes at
with_header number birth bytes at behind within has =
    let g = some_goes (drop at bytes) at (omega (arith, length-drop at bytes, within)) in
    record {
      found = record_lines number (frame_items at g.frames) ++ fault_lines number g.fault;
      has = Behind behind (omega (arith, behind, within)) (record { birth = birth; header = has; frames = g.frames; fault = g.fault; goes = g.goes; lines_are = refl });
    }

behind_first : (number : ℕ) (bytes : List ℕ) (at : ℕ) (content : Content) → 16 < at → at < length bytes → Holds number bytes content → SomeFrom number bytes at
behind_first number bytes at Blank behind within holds = absurd (omega (arith, behind, within, holds))
behind_first number bytes at BadHeader behind within holds = record { found = Faulty number 0 ∷ []; has = Wrong behind holds refl }
behind_first number bytes at (contents.Whole birth frames) behind within holds = with_header number birth bytes at behind within (holds.1.0, (holds.1.1.0, holds.1.1.1, tt))
behind_first number bytes at (BadFrame birth frames) behind within holds = with_header number birth bytes at behind within (holds.1.0, (holds.1.1.0, holds.1.1.1, tt))

some_from : (number : ℕ) (bytes : List ℕ) (at : ℕ) → 16 ≤ at → at < length bytes → SomeFrom number bytes at
some_from number bytes at low within =
    let c = some_content number bytes in
    elim (cases_eq at 16) [
      | inl first ↦ record { found = file_lines number c.0; has = Whole first c.0 c.1 refl }
      | inr other ↦ behind_first number bytes at c.0 (grind (arith, low, other)) within c.1
    ]

-- the log files after some number, of which there are none after the last number
logs_behind : (files : Files) (from : ℕ) → (logs : List LogFile) × AreLogs files from (2 ^ 32) logs
logs_behind files from =
    elim (cases_lt from (2 ^ 32)) [
      | inl low ↦ logs_from (2 ^ 32 - from) files from (2 ^ 32) (omega (arith, low))
      | inr high ↦ ([], λ k above below. absurd (omega (arith, high, above, below)))
    ]

-- from a place in its log a folder has some lines, whatever its files hold
pub some_reading : HasSomeReading
some_reading files place is = by_file (files (Log place.file)) refl is
  where
    by_file : (file : Option (List ℕ)) → files (Log place.file) ≡ file → IsSomeAnd file (λ bytes. (16 ≤ place.at) × (place.at < length bytes)) → (found : List Line) × LinesFrom files place found
    by_file None same is = absurd is
    by_file (Some bytes) same is =
        let own = some_from place.file bytes place.at is.0 is.1 in
        let rest = logs_behind files (place.file + 1) in (
          own.found ++ lines rest.0,
          record {
            own = own.found;
            logs = rest.0;
            there = subst (λ (f : Option (List ℕ)). IsSomeAnd f (λ b. HasFrom place.file b place.at own.found)) (sym same) own.has;
            behind = rest.1;
            lines_are = refl;
          },
        )
