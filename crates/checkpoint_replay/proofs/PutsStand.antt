-- The PUTs of lines stand at their places in the files of a folder.
use Rattle.std.proofs.Common.{◌⊎◌, inl, inr, ◌≡◌, ◌<◌, ◌≤◌, ◌+◌, ◌^◌, ◌++◌, ◌∷◌, [], ℕ, List, length, length-append, drop, take, ◌==◌, Option, Some, None, Bool, true, false, cond, refl, sym, ◌∙◌, ap, subst, append_assoc, arith}
use Rattle.std.specs.Prelude.{IsSomeAnd}
use Rattle.std.specs.List.{AllByRecursion}
use Rattle.std.proofs.lemmas.List.{length-take, take-append-drop}
use Rattle.flume_host.specs.Folder.{Files}
use Rattle.flume_host.specs.declared.names.FileName.TheVariants.{Log}
use Rattle.event_core.specs.Content.{Content}
use Rattle.event_core.specs.Numbers.{u16_bytes, u32_bytes}
use Rattle.record_form.specs.declared.record.Pointer.{Pointer}
use Rattle.record_form.specs.declared.record.Rec.{Rec}
use Rattle.record_form.specs.declared.record.Rec.TheVariants.{Put, Take, Rollback, CommitPut, CommitTake, End}
use Rattle.record_form.specs.Record.{record_length, spelling}
use Rattle.record_form.proofs.Again.{length-spelling}
use Rattle.channel_log.specs.Frames as contents
use Rattle.channel_log.specs.Frames.{Holds, IsFrame, IsFramed, frame_bytes, header, opened, record_bytes}
use Rattle.record_form.specs.Pointers.{PutAt}
use Rattle.channel_log.specs.Reader.{Goes, frame_items, record_items}
use Rattle.channel_replay.specs.declared.line.Line.{Line}
use Rattle.channel_replay.specs.declared.line.Line.TheVariants.{Begins, Faulty, Stands}
use Rattle.channel_replay.specs.Recover.{AreLogs, LogFile, fault_lines, file_lines, lines, record_lines}
use Rattle.checkpoint.specs.Right.{PutIn}
use Rattle.checkpoint_recovery.specs.Reading.{AllLines, Behind, HasFrom, LinesFrom, Whole, Wrong}
use Rattle.checkpoint.specs.declared.place.Place.{Place}
use Rattle.ring_replay.specs.Folder.{puts_of}
use Rattle.ring_replay.specs.Indexing.{IsPlaced, Places, place_of}

-- the PUTs of log files stand where their lines say

puts-append : (a b : List Line) → puts_of (a ++ b) ≡ puts_of a ++ puts_of b
puts-append [] b = refl
puts-append (Begins ∷ a) b = puts-append a b
puts-append (Stands file at (Put txn event) ∷ a) b = ap (λ (l : Places). (place_of file at event, event) ∷ l) (puts-append a b)
puts-append (Stands file at (Take txn number) ∷ a) b = puts-append a b
puts-append (Stands file at (Rollback txn) ∷ a) b = puts-append a b
puts-append (Stands file at (CommitPut txn first count) ∷ a) b = puts-append a b
puts-append (Stands file at (CommitTake txn count) ∷ a) b = puts-append a b
puts-append (Stands file at (End count) ∷ a) b = puts-append a b
puts-append (Faulty file at ∷ a) b = puts-append a b

-- what is placed in two lists of places is placed in one of them
pub in_either : (a b : Places) (p : Pointer) (event : Content) → IsPlaced (a ++ b) p event → IsPlaced a p event ⊎ IsPlaced b p event
in_either [] b p event is = inr is
in_either (k ∷ a) b p event (inl same) = inl (inl same)
in_either (k ∷ a) b p event (inr older) = from (in_either a b p event older)
  where
    from : IsPlaced a p event ⊎ IsPlaced b p event → IsPlaced (k ∷ a) p event ⊎ IsPlaced b p event
    from (inl x) = inl (inr x)
    from (inr y) = inr y

in_lines : (a b : List Line) (p : Pointer) (event : Content) → IsPlaced (puts_of (a ++ b)) p event → IsPlaced (puts_of a) p event ⊎ IsPlaced (puts_of b) p event
in_lines a b p event is = in_either (puts_of a) (puts_of b) p event (subst (λ (l : Places). IsPlaced l p event) (puts-append a b) is)

lines-append : (number : ℕ) (a b : List (Rec × ℕ)) → record_lines number (a ++ b) ≡ record_lines number a ++ record_lines number b
lines-append number [] b = refl
lines-append number (x ∷ a) b = ap (λ (l : List Line). Stands number x.1 x.0 ∷ l) (lines-append number a b)

-- The event stands in a file of this number and these bytes.
abbrev StandsHere : ℕ → List ℕ → Pointer → Content → Type 0
StandsHere number bytes p event = (p.file ≡ number) × PutAt bytes p event

-- after a front of the file
module _ (number : ℕ) (p : Pointer) (event : Content) where
  here : (front rest : List ℕ) (txn : ℕ) (e : Content) → IsFramed (Put txn e) → (place_of number (length front) e ≡ p) × (e ≡ event) → StandsHere number (front ++ (spelling (Put txn e) ++ rest)) p event
  here front rest txn e framed same =
      let bytes : List ℕ = front ++ (spelling (Put txn e) ++ rest) in
      subst (λ (q : Pointer). StandsHere number bytes q event) same.0 (subst (λ (x : Content). StandsHere number bytes (place_of number (length front) e) x) same.1
      (refl, record { txn = txn; before = front; behind = rest; split = refl; place = refl; long = refl; fields = framed.fields; limits = framed.limits }))

  spelled : (front : List ℕ) (rec : Rec) (records : List Rec) (rest : List ℕ) → (front ++ spelling rec) ++ (record_bytes records ++ rest) ≡ front ++ (record_bytes (rec ∷ records) ++ rest)
  spelled front rec records rest = append_assoc front (spelling rec) (record_bytes records ++ rest) ∙ ap (λ (l : List ℕ). front ++ l) (sym (append_assoc (spelling rec) (record_bytes records) rest))

  moved_on : (front : List ℕ) (rec : Rec) → length (front ++ spelling rec) ≡ length front + record_length rec
  moved_on front rec = omega (arith, length-append front (spelling rec), length-spelling rec)

  -- after a record
  further : (front : List ℕ) (rec : Rec) (records : List Rec) (rest : List ℕ)
      → ((there : IsPlaced (puts_of (record_lines number (record_items (length (front ++ spelling rec)) records))) p event) → StandsHere number ((front ++ spelling rec) ++ (record_bytes records ++ rest)) p event)
      → IsPlaced (puts_of (record_lines number (record_items (length front + record_length rec) records))) p event → StandsHere number (front ++ (record_bytes (rec ∷ records) ++ rest)) p event
  further front rec records rest more there =
      let at : IsPlaced (puts_of (record_lines number (record_items (length (front ++ spelling rec)) records))) p event = subst (λ (n : ℕ). IsPlaced (puts_of (record_lines number (record_items n records))) p event) (sym (moved_on front rec)) there in
      subst (λ (l : List ℕ). StandsHere number l p event) (spelled front rec records rest) (more at)

  by_rec : (front : List ℕ) (rec : Rec) (records : List Rec) (rest : List ℕ) → IsFramed rec
      → ((there : IsPlaced (puts_of (record_lines number (record_items (length (front ++ spelling rec)) records))) p event) → StandsHere number ((front ++ spelling rec) ++ (record_bytes records ++ rest)) p event)
      → IsPlaced (puts_of (record_lines number (record_items (length front) (rec ∷ records)))) p event → StandsHere number (front ++ (record_bytes (rec ∷ records) ++ rest)) p event
  by_rec front (Put txn e) records rest framed more (inl same) =
      subst (λ (l : List ℕ). StandsHere number (front ++ l) p event) (sym (append_assoc (spelling (Put txn e)) (record_bytes records) rest)) (here front (record_bytes records ++ rest) txn e framed same)
  by_rec front (Put txn e) records rest framed more (inr there) = further front (Put txn e) records rest more there
  by_rec front (Take txn n) records rest framed more there = further front (Take txn n) records rest more there
  by_rec front (Rollback txn) records rest framed more there = further front (Rollback txn) records rest more there
  by_rec front (CommitPut txn first count) records rest framed more there = further front (CommitPut txn first count) records rest more there
  by_rec front (CommitTake txn count) records rest framed more there = further front (CommitTake txn count) records rest more there
  by_rec front (End count) records rest framed more there = further front (End count) records rest more there

  records_stand : (records : List Rec) (front rest : List ℕ) → AllByRecursion IsFramed records → IsPlaced (puts_of (record_lines number (record_items (length front) records))) p event → StandsHere number (front ++ (record_bytes records ++ rest)) p event
  records_stand [] front rest framed is = absurd is
  records_stand (rec ∷ records) front rest framed is = by_rec front rec records rest framed.0 (λ there. records_stand records (front ++ spelling rec) rest framed.1 there) is

  -- the same of frames
  frame_stands : (frame : List Rec) (frames : List (List Rec)) (front rest : List ℕ) → IsFrame frame
      → (IsPlaced (puts_of (record_lines number (frame_items (length ((front ++ 1 ∷ []) ++ frame_bytes frame)) frames))) p event → StandsHere number (((front ++ 1 ∷ []) ++ frame_bytes frame) ++ (opened frames ++ rest)) p event)
      → IsPlaced (puts_of (record_lines number (frame_items (length front) (frame ∷ frames)))) p event → StandsHere number (front ++ (opened (frame ∷ frames) ++ rest)) p event
  unfolding frame_bytes
  frame_stands frame frames front rest framed more is = from (in_lines (record_lines number (record_items (length front + 1) frame)) (record_lines number (frame_items (length front + 1 + length (frame_bytes frame)) frames)) p event (subst (λ (l : List Line). IsPlaced (puts_of l) p event) (lines-append number (record_items (length front + 1) frame) (frame_items (length front + 1 + length (frame_bytes frame)) frames)) is))
    where
      gate : List ℕ
      gate = front ++ 1 ∷ []

      gate_at : length gate ≡ length front + 1
      gate_at = length-append front (1 ∷ [])

      front_then : (l : List ℕ) → gate ++ l ≡ front ++ (1 ∷ l)
      front_then l = append_assoc front (1 ∷ []) l

      end : List ℕ
      end = spelling (End (length frame))

      first_is : gate ++ (record_bytes frame ++ (end ++ (opened frames ++ rest))) ≡ front ++ (opened (frame ∷ frames) ++ rest)
      first_is =
          front_then (record_bytes frame ++ (end ++ (opened frames ++ rest)))
          ∙ ap (λ (l : List ℕ). front ++ (1 ∷ l)) (sym (append_assoc (record_bytes frame) end (opened frames ++ rest)) ∙ sym (append_assoc (record_bytes frame ++ end) (opened frames) rest))

      next_is : (gate ++ frame_bytes frame) ++ (opened frames ++ rest) ≡ front ++ (opened (frame ∷ frames) ++ rest)
      next_is =
          append_assoc gate (frame_bytes frame) (opened frames ++ rest)
          ∙ (front_then (frame_bytes frame ++ (opened frames ++ rest)) ∙ ap (λ (l : List ℕ). front ++ (1 ∷ l)) (sym (append_assoc (frame_bytes frame) (opened frames) rest)))

      next_at : length (gate ++ frame_bytes frame) ≡ length front + 1 + length (frame_bytes frame)
      next_at = omega (arith, length-append gate (frame_bytes frame), gate_at)

      from : IsPlaced (puts_of (record_lines number (record_items (length front + 1) frame))) p event ⊎ IsPlaced (puts_of (record_lines number (frame_items (length front + 1 + length (frame_bytes frame)) frames))) p event
          → StandsHere number (front ++ (opened (frame ∷ frames) ++ rest)) p event
      from (inl there) =
          subst (λ (l : List ℕ). StandsHere number l p event) first_is
          (records_stand frame gate (end ++ (opened frames ++ rest)) framed.each (subst (λ (n : ℕ). IsPlaced (puts_of (record_lines number (record_items n frame))) p event) (sym gate_at) there))
      from (inr there) =
          subst (λ (l : List ℕ). StandsHere number l p event) next_is
          (more (subst (λ (n : ℕ). IsPlaced (puts_of (record_lines number (frame_items n frames))) p event) (sym next_at) there))

  -- the PUTs of frames stand in the file's bytes after what is in front of them
  pub frames_stand : (frames : List (List Rec)) (front rest : List ℕ) → AllByRecursion IsFrame frames → IsPlaced (puts_of (record_lines number (frame_items (length front) frames))) p event → StandsHere number (front ++ (opened frames ++ rest)) p event
  frames_stand [] front rest framed is = absurd is
  frames_stand (frame ∷ frames) front rest framed is = frame_stands frame frames front rest framed.0 (λ there. frames_stand frames ((front ++ 1 ∷ []) ++ frame_bytes frame) rest framed.1 there) is

-- what a file holds

length-header : (birth number : ℕ) → length (header birth number) ≡ 16
unfolding header u16_bytes u32_bytes
length-header birth number = refl

no_fault_put : (number : ℕ) (fault : Option ℕ) (p : Pointer) (event : Content) → IsPlaced (puts_of (fault_lines number fault)) p event → ⊥
no_fault_put number None p event is = is
no_fault_put number (Some at) p event is = is

no_begin_put : (b : Bool) (p : Pointer) (event : Content) → IsPlaced (puts_of (cond b (Begins ∷ []) [])) p event → ⊥
no_begin_put true p event is = is
no_begin_put false p event is = is

frames_in : (birth number : ℕ) (frames : List (List Rec)) (fault : Option ℕ) (rest bytes : List ℕ) (p : Pointer) (event : Content) → AllByRecursion IsFrame frames → bytes ≡ header birth number ++ (opened frames ++ rest)
    → IsPlaced (puts_of (cond (birth == 1) (Begins ∷ []) [] ++ (record_lines number (frame_items 16 frames) ++ fault_lines number fault))) p event → StandsHere number bytes p event
frames_in birth number frames fault rest bytes p event framed is stands = from (in_lines (cond (birth == 1) (Begins ∷ []) []) (record_lines number (frame_items 16 frames) ++ fault_lines number fault) p event stands)
  where
    records : IsPlaced (puts_of (record_lines number (frame_items 16 frames))) p event → StandsHere number bytes p event
    records there =
        subst (λ (l : List ℕ). StandsHere number l p event) (sym is)
        (frames_stand number p event frames (header birth number) rest framed (subst (λ (n : ℕ). IsPlaced (puts_of (record_lines number (frame_items n frames))) p event) (sym (length-header birth number)) there))

    behind : IsPlaced (puts_of (record_lines number (frame_items 16 frames))) p event ⊎ IsPlaced (puts_of (fault_lines number fault)) p event → StandsHere number bytes p event
    behind (inl there) = records there
    behind (inr there) = absurd (no_fault_put number fault p event there)

    from : IsPlaced (puts_of (cond (birth == 1) (Begins ∷ []) [])) p event ⊎ IsPlaced (puts_of (record_lines number (frame_items 16 frames) ++ fault_lines number fault)) p event → StandsHere number bytes p event
    from (inl there) = absurd (no_begin_put (birth == 1) p event there)
    from (inr there) = behind (in_lines (record_lines number (frame_items 16 frames)) (fault_lines number fault) p event there)

content_stands : (number : ℕ) (bytes : List ℕ) (content : contents.Content) (p : Pointer) (event : Content) → Holds number bytes content → IsPlaced (puts_of (file_lines number content)) p event → StandsHere number bytes p event
content_stands number bytes contents.Blank p event holds is = absurd is
content_stands number bytes contents.BadHeader p event holds is = absurd is
content_stands number bytes (contents.Whole birth frames) p event holds is =
    let has = holds.1.1 in
    frames_in birth number frames None (has.2.gate ∷ has.2.rest) bytes p event has.2.each (has.1 ∙ ap (λ (l : List ℕ). header birth number ++ l) has.2.split) is
content_stands number bytes (contents.BadFrame birth frames) p event holds is =
    let has = holds.1.1 in
    frames_in birth number frames (Some (16 + length (opened frames))) (1 ∷ has.2.rest) bytes p event has.2.each (has.1 ∙ ap (λ (l : List ℕ). header birth number ++ l) has.2.split) is

-- what a file has from a commit byte after the first one on
behind_stands : (number : ℕ) (bytes : List ℕ) (at : ℕ) (frames : List (List Rec)) (fault : Option ℕ) (p : Pointer) (event : Content) → at < length bytes → Goes (drop at bytes) at frames fault
    → IsPlaced (puts_of (record_lines number (frame_items at frames) ++ fault_lines number fault)) p event → StandsHere number bytes p event
behind_stands number bytes at frames fault p event within goes is = from (in_lines (record_lines number (frame_items at frames)) (fault_lines number fault) p event is)
  where
    front : length (take at bytes) ≡ at
    front = grind (arith, length-take at bytes, within)

    spread : (rest : List ℕ) → AllByRecursion IsFrame frames → drop at bytes ≡ opened frames ++ rest → IsPlaced (puts_of (record_lines number (frame_items at frames))) p event → StandsHere number bytes p event
    spread rest each split there =
        subst (λ (l : List ℕ). StandsHere number l p event) (ap (λ (l : List ℕ). take at bytes ++ l) (sym split) ∙ take-append-drop at bytes)
        (frames_stand number p event frames (take at bytes) rest each (subst (λ (n : ℕ). IsPlaced (puts_of (record_lines number (frame_items n frames))) p event) (sym front) there))

    by_goes : Goes (drop at bytes) at frames fault → IsPlaced (puts_of (record_lines number (frame_items at frames))) p event → StandsHere number bytes p event
    by_goes (inl c) there = spread (c.0.gate ∷ c.0.rest) c.0.each c.0.split there
    by_goes (inr b) there = spread (1 ∷ b.0.rest) b.0.each b.0.split there

    from : IsPlaced (puts_of (record_lines number (frame_items at frames))) p event ⊎ IsPlaced (puts_of (fault_lines number fault)) p event → StandsHere number bytes p event
    from (inl there) = by_goes goes there
    from (inr there) = absurd (no_fault_put number fault p event there)

from_stands : (number : ℕ) (bytes : List ℕ) (at : ℕ) (own : List Line) (p : Pointer) (event : Content) → at < length bytes → HasFrom number bytes at own → IsPlaced (puts_of own) p event → StandsHere number bytes p event
from_stands number bytes at own p event within (Whole first content holds is) there = content_stands number bytes content p event holds (subst (λ (l : List Line). IsPlaced (puts_of l) p event) is there)
from_stands number bytes at own p event within (Wrong behind bad is) there = absurd (subst (λ (l : List Line). IsPlaced (puts_of l) p event) is there)
from_stands number bytes at own p event within (Behind behind long reads) there =
    behind_stands number bytes at reads.frames reads.fault p event within reads.goes (subst (λ (l : List Line). IsPlaced (puts_of l) p event) reads.lines_are there)

-- what a folder's log files hold

put_in : (files : Files) (number : ℕ) (bytes : List ℕ) (p : Pointer) (event : Content) → files (Log number) ≡ Some bytes → StandsHere number bytes p event → PutIn files p event
put_in files number bytes p event reads stands = subst (λ (o : Option (List ℕ)). IsSomeAnd o (λ b. PutAt b p event)) (sym (ap (λ (n : ℕ). files (Log n)) stands.0 ∙ reads)) stands.1

logs_stand : (files : Files) (from to : ℕ) (logs : List LogFile) (p : Pointer) (event : Content) → AreLogs files from to logs → IsPlaced (puts_of (lines logs)) p event → PutIn files p event
logs_stand files from to [] p event are is = absurd is
logs_stand files from to (log ∷ logs) p event are is = either (in_lines (file_lines log.number log.content) (lines logs) p event is) (λ there. logs_stand files (log.number + 1) to logs p event are.4 there)
  where
    in_file : (file : Option (List ℕ)) → files (Log log.number) ≡ file → IsSomeAnd file (λ bytes. Holds log.number bytes log.content) → IsPlaced (puts_of (file_lines log.number log.content)) p event → PutIn files p event
    in_file None reads holds there = absurd holds
    in_file (Some bytes) reads holds there = put_in files log.number bytes p event reads (content_stands log.number bytes log.content p event holds there)

    either : IsPlaced (puts_of (file_lines log.number log.content)) p event ⊎ IsPlaced (puts_of (lines logs)) p event → (IsPlaced (puts_of (lines logs)) p event → PutIn files p event) → PutIn files p event
    either (inl there) more = in_file (files (Log log.number)) refl are.3 there
    either (inr there) more = more there

-- The PUTs of the lines from a place on stand in the folder, and so do those of all its lines.
pub from_place : (files : Files) (place : Place) (found : List Line) (p : Pointer) (event : Content) → IsSomeAnd (files (Log place.file)) (λ bytes. (16 ≤ place.at) × (place.at < length bytes)) → LinesFrom files place found
    → IsPlaced (puts_of found) p event → PutIn files p event
from_place files place found p event within l is = either (in_lines l.own (lines l.logs) p event (subst (λ (x : List Line). IsPlaced (puts_of x) p event) l.lines_are is))
  where
    in_own : (file : Option (List ℕ)) → files (Log place.file) ≡ file → IsSomeAnd file (λ bytes. (16 ≤ place.at) × (place.at < length bytes)) → IsSomeAnd file (λ bytes. HasFrom place.file bytes place.at l.own) → IsPlaced (puts_of l.own) p event → PutIn files p event
    in_own None reads low has there = absurd has
    in_own (Some bytes) reads low has there = put_in files place.file bytes p event reads (from_stands place.file bytes place.at l.own p event low.1 has there)

    either : IsPlaced (puts_of l.own) p event ⊎ IsPlaced (puts_of (lines l.logs)) p event → PutIn files p event
    either (inl there) = in_own (files (Log place.file)) refl within l.there there
    either (inr there) = logs_stand files (place.file + 1) (2 ^ 32) l.logs p event l.behind there

-- the PUTs of all lines of a folder stand in its log files
pub from_front : (files : Files) (found : List Line) (p : Pointer) (event : Content) → AllLines files found → IsPlaced (puts_of found) p event → PutIn files p event
from_front files found p event all is = logs_stand files 0 (2 ^ 32) all.logs p event all.are (subst (λ (x : List Line). IsPlaced (puts_of x) p event) all.lines_are is)
