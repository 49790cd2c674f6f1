-- What stands in a whole file.
use Rattle.std.proofs.Common.{◌≡◌, ◌⊎◌, inl, inr, ◌<◌, ◌≤◌, ◌+◌, ◌-◌, ℕ, List, [], ◌∷◌, ◌++◌, length, take, drop, get_or, Option, Some, None, ◌==◌, cond, refl, sym, ◌∙◌, ap, arith, append_assoc, length-append, length-drop, take-append-drop}
use Rattle.std.specs.List.{AllByRecursion}
use Rattle.std.proofs.lemmas.List.{append-nil, drop_more}
use Rattle.std.proofs.Math.Seq.{take-append_seam}
use Rattle.event_core.specs.Numbers.{u16_bytes, u32_bytes}
use Rattle.record_form.specs.declared.record.Rec.{Rec}
use Rattle.record_form.specs.Record.{record_length}
use Rattle.channel_log.specs.Frames.{BadFrame, BadHeader, Breaks, Commits, HasHeader, IsBirth, IsFrame, IsFramed, Whole, frame_bytes, header, opened}
use Rattle.channel_log.specs.Reader.{AreRecords, IsCount, IsFrameBytes, OpensNone, closing, frame_items, kept, record_items, step}
use Rattle.channel_log.proofs.Bytes.{all-push, opened-push}
use Rattle.channel_log.proofs.ReadOn.{some_length}
use Rattle.channel_replay.specs.Plain.{AddsFile, AddsFrame, AddsFrames, EndsAt}
use Rattle.channel_replay.specs.Recover.{Line, Begins, Stands, Faulty, fault_lines, record_lines}

-- the records of a frame, one after another

pub record LinesOn (frame : List ℕ) (place file from : ℕ) (was now : List Line) : Type 0 where
  pub records : List Rec
  pub is : IsFrame records
  pub whole : frame ≡ frame_bytes records
  pub left : List Rec
  pub each : AllByRecursion IsFramed left
  pub rest : drop place frame ≡ kept left (length records)
  pub lines : now ++ record_lines file (record_items (from + place) left) ≡ was ++ record_lines file (record_items from records)
  pub within : place ≤ length frame

-- before the first record of a frame was read, all are left
pub lines_none : (frame : List ℕ) (file from : ℕ) (was : List Line) → IsFrameBytes frame → LinesOn frame 0 file from was was
unfolding frame_bytes
lines_none frame file from was is = record {
  records = is.0;
  is = is.1;
  whole = is.2;
  left = is.0;
  each = is.1.each;
  rest = is.2 ∙ kept_all is.0 (length is.0) is.1.some;
  lines = ap (λ (n : ℕ). was ++ record_lines file (record_items n is.0)) (omega arith);
  within = omega arith;
}
  where
    kept_all : (records : List Rec) (count : ℕ) → 1 ≤ length records → closing records count ≡ kept records count
    kept_all [] count some = absurd (omega (arith, some))
    kept_all (r ∷ rs) count some = refl

-- records are left before the end
record SomeLeft (frame : List ℕ) (place : ℕ) (left : List Rec) (count : ℕ) : Type 0 where
  first : Rec
  more : List Rec
  is : left ≡ first ∷ more

some_left : (frame : List ℕ) (place : ℕ) (left : List Rec) (count : ℕ) → drop place frame ≡ kept left count → place < length frame → SomeLeft frame place left count
some_left frame place [] count rest less = absurd (omega (arith, ap length rest, length-drop place frame, less))
some_left frame place (r ∷ rs) count rest less = record { first = r; more = rs; is = refl }

-- before the end of a frame there are still records
pub still_records : (frame : List ℕ) (place file from : ℕ) (was now : List Line) → LinesOn frame place file from was now → place < length frame → AreRecords (drop place frame)
still_records frame place file from was now on less = by_left on.left on.each on.rest
  where
    by_left : (left : List Rec) → AllByRecursion IsFramed left → drop place frame ≡ kept left (length on.records) → AreRecords (drop place frame)
    by_left [] each rest = absurd (omega (arith, ap length rest, length-drop place frame, less))
    by_left (r ∷ rs) each rest = (r ∷ rs, length on.records, each, omega arith, record { some = on.is.some; few = on.is.few }, rest)

-- the next record, as a reader gives it
abbrev pub GivesAt : List ℕ → ℕ → Rec → ℕ → Type 0
GivesAt frame place rec next =
    (first : Rec) (records : List Rec) (count : ℕ) → IsFramed first → AllByRecursion IsFramed records → IsCount count → drop place frame ≡ closing (first ∷ records) count
    → (rec ≡ first) × (next ≡ place + step first records) × (drop next frame ≡ kept records count)

same_items : (at next place : ℕ) (first : Rec) (more : List Rec) → next ≡ place + step first more → record_items (at + next) more ≡ record_items (at + place + record_length first) more
same_items at next place first [] is = refl
same_items at next place first (r ∷ rs) is = ap (λ (n : ℕ). record_items n (r ∷ rs)) (omega (arith, is))

-- one record more of a frame was read
pub lines_more : (frame : List ℕ) (place file from : ℕ) (was now new : List Line) (rec : Rec) (next at : ℕ) → LinesOn frame place file from was now → place < length frame → GivesAt frame place rec next → next ≤ length frame → at ≡ from + place → new ≡ now ++ Stands file at rec ∷ []
    → LinesOn frame next file from was new
lines_more frame place file from was now new rec next at on less gives within at_is added = by_left on.left on.each on.rest on.lines
  where
    by_left : (left : List Rec) → AllByRecursion IsFramed left → drop place frame ≡ kept left (length on.records) → now ++ record_lines file (record_items (from + place) left) ≡ was ++ record_lines file (record_items from on.records) → LinesOn frame next file from was new
    by_left [] each rest lines = absurd (omega (arith, ap length rest, length-drop place frame, less))
    by_left (first ∷ more) each rest lines =
        let given = gives first more (length on.records) each.0 each.1 (record { some = on.is.some; few = on.is.few }) rest in
        let here : Stands file at rec ≡ Stands file (from + place) first = ap (λ (n : ℕ). Stands file n rec) at_is ∙ ap (Stands file (from + place)) given.0 in
        record {
          records = on.records;
          is = on.is;
          whole = on.whole;
          left = more;
          each = each.1;
          rest = given.2;
          lines = ap (λ (l : List Line). l ++ record_lines file (record_items (from + next) more)) added
              ∙ append_assoc now (Stands file at rec ∷ []) (record_lines file (record_items (from + next) more))
              ∙ ap (λ (l : List (Rec × ℕ)). now ++ Stands file at rec ∷ record_lines file l) (same_items from next place first more given.1)
              ∙ ap (λ (x : Line). now ++ x ∷ record_lines file (record_items (from + place + record_length first) more)) here ∙ lines;
          within = within;
        }

-- each record that is read brings the reader further
pub goes_further : (frame : List ℕ) (place file from : ℕ) (was now : List Line) (rec : Rec) (next : ℕ) → LinesOn frame place file from was now → place < length frame → GivesAt frame place rec next → place < next
goes_further frame place file from was now rec next on less gives = by_left on.left on.each on.rest
  where
    longer : (first : Rec) (more : List Rec) → 5 ≤ step first more
    longer first [] = omega (arith, some_length first)
    longer first (r ∷ rs) = some_length first

    by_left : (left : List Rec) → AllByRecursion IsFramed left → drop place frame ≡ kept left (length on.records) → place < next
    by_left [] each rest = absurd (omega (arith, ap length rest, length-drop place frame, less))
    by_left (first ∷ more) each rest =
        let given = gives first more (length on.records) each.0 each.1 (record { some = on.is.some; few = on.is.few }) rest in
        omega (arith, given.1, longer first more)

-- the frames of a file, one after another

pub record FramesOn (bytes : List ℕ) (gate file : ℕ) (was now : List Line) : Type 0 where
  pub done : List (List Rec)
  pub each : AllByRecursion IsFrame done
  pub split : drop 16 bytes ≡ opened done ++ drop gate bytes
  pub at : gate ≡ 16 + length (opened done)
  pub within : gate < length bytes
  pub lines : now ≡ was ++ record_lines file (frame_items 16 done)

-- the lines of two runs of records, one after the other
pub record_lines-append : (file : ℕ) (a b : List (Rec × ℕ)) → record_lines file (a ++ b) ≡ record_lines file a ++ record_lines file b
record_lines-append file [] b = refl
record_lines-append file (item ∷ a) b = ap (λ (l : List Line). Stands file item.1 item.0 ∷ l) (record_lines-append file a b)

-- the records of one frame more, with their offsets
pub frame_items-push : (gate : ℕ) (frames : List (List Rec)) (frame : List Rec) → frame_items gate (frames ++ frame ∷ []) ≡ frame_items gate frames ++ record_items (gate + length (opened frames) + 1) frame
frame_items-push gate [] frame = append-nil (record_items (gate + 1) frame) ∙ ap (λ (n : ℕ). record_items n frame) (omega arith)
frame_items-push gate (f ∷ fs) frame =
    let next = gate + 1 + length (frame_bytes f) in
    let size : next + length (opened fs) ≡ gate + length (opened (f ∷ fs)) = omega (arith, length-append (frame_bytes f) (opened fs)) in
    ap (λ (l : List (Rec × ℕ)). record_items (gate + 1) f ++ l) (frame_items-push next fs frame ∙ ap (λ (n : ℕ). frame_items next fs ++ record_items (n + 1) frame) size)
    ∙ sym (append_assoc (record_items (gate + 1) f) (frame_items next fs) (record_items (gate + length (opened (f ∷ fs)) + 1) frame))

open_there : (bytes : List ℕ) (gate : ℕ) → gate < length bytes → get_or bytes gate 0 ≡ 1 → drop gate bytes ≡ 1 ∷ drop (gate + 1) bytes
open_there bytes gate within one = drop_more bytes gate 0 within ∙ ap (λ (b : ℕ). b ∷ drop (gate + 1) bytes) one

-- the bytes of the frame there
pub frame_there : (bytes : List ℕ) (gate next : ℕ) (frame : List ℕ) (e : EndsAt bytes gate next) → frame ≡ take (next - (gate + 1)) (drop (gate + 1) bytes) → frame ≡ frame_bytes e.frame
frame_there bytes gate next frame e is =
    is ∙ ap (take (next - (gate + 1))) e.split ∙ ap (λ (n : ℕ). take n (frame_bytes e.frame ++ drop next bytes)) (omega (arith, e.long)) ∙ take-append_seam (frame_bytes e.frame) (drop next bytes)

-- one frame more of a file was read
pub frames_more : (bytes : List ℕ) (gate next file at : ℕ) (frame : List ℕ) (was now new : List Line) → FramesOn bytes gate file was now → get_or bytes gate 0 ≡ 1 → next < length bytes → EndsAt bytes gate next → frame ≡ take (next - (gate + 1)) (drop (gate + 1) bytes) → at ≡ gate + 1 → AddsFrame frame file at now new
    → FramesOn bytes next file was new
frames_more bytes gate next file at frame was now new on one within e frame_is at_is adds =
    let f = adds.records in
    let same : frame_bytes e.frame ≡ frame_bytes f = sym (frame_there bytes gate next frame e frame_is) ∙ adds.same in
    let here : drop gate bytes ≡ 1 ∷ (frame_bytes f ++ drop next bytes) = open_there bytes gate on.within one ∙ ap (λ (l : List ℕ). 1 ∷ l) (e.split ∙ ap (λ (l : List ℕ). l ++ drop next bytes) same) in
    let size : next ≡ 16 + length (opened (on.done ++ f ∷ [])) = omega (arith, on.at, e.long, ap length same, ap length (opened-push on.done f), length-append (opened on.done) (1 ∷ frame_bytes f)) in
    record {
      done = on.done ++ f ∷ [];
      each = all-push IsFrame on.done f on.each adds.is;
      split = on.split ∙ ap (λ (l : List ℕ). opened on.done ++ l) here ∙ sym (append_assoc (opened on.done) (1 ∷ frame_bytes f) (drop next bytes)) ∙ ap (λ (l : List ℕ). l ++ drop next bytes) (sym (opened-push on.done f));
      at = size;
      within = within;
      lines = adds.lines ∙ ap (λ (l : List Line). l ++ record_lines file (record_items at f)) on.lines ∙ append_assoc was (record_lines file (frame_items 16 on.done)) (record_lines file (record_items at f))
          ∙ ap (λ (n : ℕ). was ++ (record_lines file (frame_items 16 on.done) ++ record_lines file (record_items n f))) (omega (arith, at_is, on.at))
          ∙ ap (λ (l : List Line). was ++ l) (sym (record_lines-append file (frame_items 16 on.done) (record_items (16 + length (opened on.done) + 1) f)) ∙ ap (record_lines file) (sym (frame_items-push 16 on.done f)));
    }

-- where a commit byte has no frame after it, the file's lines end with a fault there
pub frames_bad : (bytes : List ℕ) (gate file at : ℕ) (was now new : List Line) → FramesOn bytes gate file was now → get_or bytes gate 0 ≡ 1 → OpensNone (drop (gate + 1) bytes) → at ≡ gate → new ≡ now ++ Faulty file at ∷ [] → AddsFrames bytes file was new
frames_bad bytes gate file at was now new on one none at_is added = record {
  frames = on.done;
  fault = Some (16 + length (opened on.done));
  goes = inr (record { each = on.each; rest = drop (gate + 1) bytes; split = on.split ∙ ap (λ (l : List ℕ). opened on.done ++ l) (open_there bytes gate on.within one); none = none }, refl);
  lines = added ∙ ap (λ (l : List Line). l ++ Faulty file at ∷ []) on.lines ∙ append_assoc was (record_lines file (frame_items 16 on.done)) (Faulty file at ∷ [])
      ∙ ap (λ (n : ℕ). was ++ (record_lines file (frame_items 16 on.done) ++ Faulty file n ∷ [])) (at_is ∙ on.at);
}

-- the lines of a file

length-header : (birth number : ℕ) → length (header birth number) ≡ 16
unfolding header u16_bytes u32_bytes
length-header birth number = refl

-- a file with a wrong header has a fault at its front and no other line
pub wrong_header : (bytes : List ℕ) (file : ℕ) (head : List ℕ) (was new : List Line) → 17 < length bytes → head ≡ take 16 bytes → ((birth : ℕ) → IsBirth birth → head ≡ header birth file → ⊥) → new ≡ was ++ Faulty file 0 ∷ [] → AddsFile bytes file was new
wrong_header bytes file head was new long head_is none added = record {
  content = BadHeader;
  holds = (long, λ birth has. none birth has.0 (head_is ∙ ap (take 16) has.1.1 ∙ ap (λ (n : ℕ). take n (header birth file ++ has.1.0)) (sym (length-header birth file)) ∙ take-append_seam (header birth file) has.1.0));
  lines = added;
}

-- a file with a right header has the lines of its frames, after the one that drops what is open
pub right_header : (bytes : List ℕ) (file birth : ℕ) (head : List ℕ) (was began new : List Line) → 17 < length bytes → head ≡ take 16 bytes → IsBirth birth → head ≡ header birth file → began ≡ was ++ cond (birth == 1) (Begins ∷ []) [] → AddsFrames bytes file began new → AddsFile bytes file was new
right_header bytes file birth head was began new long head_is is same begins adds = by_end adds.goes
  where
    has : (P : List ℕ → Type 0) → P (drop 16 bytes) → HasHeader birth file bytes P
    has P p = (is, (drop 16 bytes, sym (take-append-drop 16 bytes) ∙ ap (λ (l : List ℕ). l ++ drop 16 bytes) (sym head_is ∙ same), p))

    all : (fault : Option ℕ) → adds.fault ≡ fault → new ≡ was ++ (cond (birth == 1) (Begins ∷ []) [] ++ (record_lines file (frame_items 16 adds.frames) ++ fault_lines file fault))
    all fault fault_is =
        adds.lines ∙ ap (λ (l : List Line). l ++ (record_lines file (frame_items 16 adds.frames) ++ fault_lines file adds.fault)) begins
        ∙ append_assoc was (cond (birth == 1) (Begins ∷ []) []) (record_lines file (frame_items 16 adds.frames) ++ fault_lines file adds.fault)
        ∙ ap (λ (f : Option ℕ). was ++ (cond (birth == 1) (Begins ∷ []) [] ++ (record_lines file (frame_items 16 adds.frames) ++ fault_lines file f))) fault_is

    by_end : (Commits (drop 16 bytes) adds.frames × (adds.fault ≡ None)) ⊎ (Breaks (drop 16 bytes) adds.frames × (adds.fault ≡ Some (16 + length (opened adds.frames)))) → AddsFile bytes file was new
    by_end (inl commits) = record { content = Whole birth adds.frames; holds = (long, has (λ rest. Commits rest adds.frames) commits.0); lines = all None commits.1 }
    by_end (inr breaks) = record { content = BadFrame birth adds.frames; holds = (long, has (λ rest. Breaks rest adds.frames) breaks.0); lines = all (Some (16 + length (opened adds.frames))) breaks.1 }
