-- Records that are given one after another.
use Rattle.std.proofs.Common.{◌≡◌, ◌≢◌, ◌≤◌, ◌⊎◌, inl, inr, ℕ, suc, ◌+◌, ◌-◌, List, [], ◌∷◌, ◌++◌, length, take, drop, Some, get_or, append_assoc, refl, sym, ◌∙◌, ap, subst, arith, length-append, length-drop}
use Rattle.std.specs.List.{AllByRecursion}
use Rattle.std.proofs.lemmas.List.{drop-drop, drop_all, drop-take, get_or-drop, get_or-append-add, take_rest}
use Rattle.std.proofs.Math.Seq.{drop-append_seam}
use Rattle.event_core.specs.Numbers.{u32_bytes}
use Rattle.event_core.proofs.Sizes.{length-u32_bytes}
use Rattle.record_form.specs.declared.record.Rec.{Rec}
use Rattle.record_form.specs.declared.record.Rec.TheVariants.{Put, Take, Rollback, CommitPut, CommitTake, End}
use Rattle.record_form.specs.declared.record.Outline.{Outline}
use Rattle.record_form.specs.Grammar.{Complete, IsWhole, as_read, outcome_of, read_of}
use Rattle.record_form.specs.Outlines.{IsOutlined, IsSomeOutline, outline_of}
use Rattle.record_form.specs.Record.{record_kind, record_length, spelling}
use Rattle.record_form.proofs.Again.{length-spelling, record-again}
use Rattle.channel_log.proofs.ReadOn.{some_length}
use Rattle.channel_log.specs.Frames.{IsFramed, IsNoEnd, frame_bytes, record_bytes}
use Rattle.channel_log.specs.Reader.{AreRecords, IsCount, IsFrameBytes, IsGiven, Reader, closing, kept, step}

cons_closing : (first : Rec) (records : List Rec) (count : ℕ) → closing (first ∷ records) count ≡ spelling first ++ closing records count
cons_closing first records count = append_assoc (spelling first) (record_bytes records) (spelling (End count))

-- what stands at a place
pub record StoodAt (held : List ℕ) : Type 0 where
  pub first : Rec
  pub records : List Rec
  pub count : ℕ
  pub framed : IsFramed first
  pub each : AllByRecursion IsFramed records
  pub counted : IsCount count
  pub split : held ≡ closing (first ∷ records) count

stood_by : (held : List ℕ) (records : List Rec) (count : ℕ) → AllByRecursion IsFramed records → 1 ≤ length records → IsCount count → held ≡ closing records count → StoodAt held
stood_by held [] count each some counted same = absurd (omega (arith, some))
stood_by held (first ∷ records) count each some counted same = record { first = first; records = records; count = count; framed = each.0; each = each.1; counted = counted; split = same }

-- what is held has a first record, and others and an END behind it
pub stood : (held : List ℕ) → AreRecords held → StoodAt held
stood held are = stood_by held are.0 are.1 are.2 are.3 are.4 are.5

outcome_first : (held : List ℕ) (first : Rec) (records : List Rec) (count : ℕ) → IsFramed first → held ≡ closing (first ∷ records) count → outcome_of held ≡ Complete first (record_length first)
outcome_first held first records count framed same = ap outcome_of (same ∙ cons_closing first records count) ∙ record-again first (closing records count) framed.fields framed.limits

-- the record that was read from what is held is the first one
pub rec_first : (held : List ℕ) (rec first : Rec) (records : List Rec) (count : ℕ) → IsFramed first → held ≡ closing (first ∷ records) count → outcome_of held ≡ Complete rec (record_length rec) → rec ≡ first
rec_first held rec first records count framed same read =
    let e : Complete rec (record_length rec) ≡ Complete first (record_length first) = sym read ∙ outcome_first held first records count framed same in cc

-- records and an END are at least as long as the END
pub length-closing : (records : List Rec) (count : ℕ) → 5 ≤ length (closing records count)
length-closing records count = omega (arith, length-append (record_bytes records) (6 ∷ u32_bytes count), length-u32_bytes count)

-- what is held is as long as its first record and what stands behind that
pub length_held : (held : List ℕ) (first : Rec) (records : List Rec) (count : ℕ) → held ≡ closing (first ∷ records) count → length held ≡ record_length first + length (closing records count)
length_held held first records count same = ap length (same ∙ cons_closing first records count) ∙ length-append (spelling first) (closing records count) ∙ ap (λ (n : ℕ). n + length (closing records count)) (length-spelling first)

kind_first : (rec : Rec) (rest : List ℕ) → get_or (spelling rec ++ rest) 0 0 ≡ record_kind rec
kind_first (Put txn event) rest = refl
kind_first (Take txn number) rest = refl
kind_first (Rollback txn) rest = refl
kind_first (CommitPut txn first count) rest = refl
kind_first (CommitTake txn count) rest = refl
kind_first (End count) rest = refl

no_end_kind : (rec : Rec) → IsNoEnd rec → record_kind rec ≡ 6 → ⊥
no_end_kind (Put txn event) is h = omega (arith, h)
no_end_kind (Take txn number) is h = omega (arith, h)
no_end_kind (Rollback txn) is h = omega (arith, h)
no_end_kind (CommitPut txn first count) is h = omega (arith, h)
no_end_kind (CommitTake txn count) is h = omega (arith, h)
no_end_kind (End count) is h = is

-- the byte after a record
byte_behind : (frame : List ℕ) (place n : ℕ) (first : Rec) (records : List Rec) (count : ℕ) → drop place frame ≡ closing (first ∷ records) count → n ≡ record_length first → get_or frame (place + n) 0 ≡ get_or (closing records count) 0 0
byte_behind frame place n first records count same long =
    sym (get_or-drop place frame n 0) ∙ ap (λ (l : List ℕ). get_or l n 0) (same ∙ cons_closing first records count)
    ∙ ap (λ (k : ℕ). get_or (spelling first ++ closing records count) k 0) (omega (arith, long, length-spelling first))
    ∙ get_or-append-add (spelling first) (closing records count) 0 0

kind_behind : (rec : Rec) (records : List Rec) (count : ℕ) → get_or (closing (rec ∷ records) count) 0 0 ≡ record_kind rec
kind_behind rec records count = ap (λ (l : List ℕ). get_or l 0 0) (cons_closing rec records count) ∙ kind_first rec (closing records count)

behind : (frame : List ℕ) (place n : ℕ) (first : Rec) (records : List Rec) (count : ℕ) → drop place frame ≡ closing (first ∷ records) count → n ≡ record_length first → drop (place + n) frame ≡ closing records count
behind frame place n first records count same long =
    sym (drop-drop n place frame) ∙ ap (drop n) (same ∙ cons_closing first records count)
    ∙ ap (λ (k : ℕ). drop k (spelling first ++ closing records count)) (long ∙ sym (length-spelling first)) ∙ drop-append_seam (spelling first) (closing records count)

-- where END follows a record, the reader passes it too and holds nothing more
pub given_end : (frame : List ℕ) (place n : ℕ) (first : Rec) (records : List Rec) (count : ℕ) → AllByRecursion IsFramed records → drop place frame ≡ closing (first ∷ records) count → n ≡ record_length first → get_or frame (place + n) 0 ≡ 6
    → (place + n + 5 ≡ place + step first records) × (drop (place + n + 5) frame ≡ kept records count)
given_end frame place n first [] count each same long six =
    let rest = behind frame place n first [] count same long in
    let five : length (drop (place + n) frame) ≡ 5 = ap length rest ∙ ap suc (length-u32_bytes count) in
    (omega (arith, long), drop_all (place + n + 5) frame (omega (arith, five, length-drop (place + n) frame)))
given_end frame place n first (r ∷ rs) count each same long six = absurd (no_end_kind r each.0.no_end (sym (kind_behind r rs count) ∙ sym (byte_behind frame place n first (r ∷ rs) count same long) ∙ six))

-- where no END follows a record, the reader stands before the next one
pub given_on : (frame : List ℕ) (place n : ℕ) (first : Rec) (records : List Rec) (count : ℕ) → AllByRecursion IsFramed records → drop place frame ≡ closing (first ∷ records) count → n ≡ record_length first → get_or frame (place + n) 0 ≢ 6
    → (place + n ≡ place + step first records) × (drop (place + n) frame ≡ kept records count)
given_on frame place n first [] count each same long other = absurd (other (byte_behind frame place n first [] count same long))
given_on frame place n first (r ∷ rs) count each same long other = (omega (arith, long), behind frame place n first (r ∷ rs) count same long)

-- The bytes that stand at a place are a record's, of which an outline was read.
pub record OutlinedAt (held : List ℕ) (outline : Outline) (n : ℕ) (first : Rec) : Type 0 where
  pub outline_is : outline ≡ outline_of first
  pub length_is : n ≡ record_length first

-- an outline that was read is that of the first record that stands there
pub outlined_first : (bytes : List ℕ) (at : ℕ) (outline : Outline) (n : ℕ) (first : Rec) (records : List Rec) (count : ℕ) → IsOutlined (take (length bytes - at) (drop at bytes)) outline n → IsFramed first → drop at bytes ≡ closing (first ∷ records) count → OutlinedAt (drop at bytes) outline n first
outlined_first bytes at outline n first records count outlined framed same =
    let m = outlined first (record_length first) (ap outcome_of (take_rest bytes at) ∙ outcome_first (drop at bytes) first records count framed same) in
    record { outline_is = m.0; length_is = m.1 }

-- where a record stands, what is read is whole
pub whole_first : (held : List ℕ) → AreRecords held → IsWhole (read_of held)
whole_first held are = let s = stood held are in subst IsWhole (sym (ap as_read (outcome_first held s.first s.records s.count s.framed s.split))) tt

-- where records stand, reading from there to the end of the bytes gives a whole record
pub whole_at : (bytes : List ℕ) (at : ℕ) → AreRecords (drop at bytes) → IsWhole (read_of (take (length bytes - at) (drop at bytes)))
whole_at bytes at are = subst (λ (l : List ℕ). IsWhole (read_of l)) (sym (take_rest bytes at)) (whole_first (drop at bytes) are)

-- so many bytes, and the frame's END after them, are there
pub outline_within : (bytes : List ℕ) (at : ℕ) (outline : Outline) (n : ℕ) → AreRecords (drop at bytes) → IsOutlined (take (length bytes - at) (drop at bytes)) outline n → (5 ≤ n) × (at + n + 5 ≤ length bytes)
outline_within bytes at outline n are outlined =
    let s = stood (drop at bytes) are in
    let m = outlined_first bytes at outline n s.first s.records s.count outlined s.framed s.split in (
      omega (arith, m.length_is, some_length s.first),
      omega (arith, m.length_is, length_held (drop at bytes) s.first s.records s.count s.split, length-closing s.records s.count, length-drop at bytes),
    )

-- what was read of a slice up to the end was read of the bytes from that place on
pub outcome_at : (bytes : List ℕ) (at : ℕ) (rec : Rec) → outcome_of (take (length bytes - at) (drop at bytes)) ≡ Complete rec (record_length rec) → outcome_of (drop at bytes) ≡ Complete rec (record_length rec)
outcome_at bytes at rec is = ap outcome_of (sym (take_rest bytes at)) ∙ is

kept_records : (frame : List ℕ) (next : ℕ) (records : List Rec) (count : ℕ) → next ≤ length frame → AllByRecursion IsFramed records → IsCount count → drop next frame ≡ kept records count → (next ≡ length frame) ⊎ AreRecords (drop next frame)
kept_records frame next [] count within each counted same = inl (omega (arith, within, ap length same, length-drop next frame))
kept_records frame next (r ∷ rs) count within each counted same = inr (r ∷ rs, count, each, omega arith, counted, same)

-- after a record the frame is at its end, or records and an END are held again
pub next_held : (frame : List ℕ) (place next : ℕ) → AreRecords (drop place frame) → next ≤ length frame
    → ((first : Rec) (records : List Rec) (count : ℕ) → IsFramed first → AllByRecursion IsFramed records → IsCount count → drop place frame ≡ closing (first ∷ records) count → drop next frame ≡ kept records count)
    → (next ≡ length frame) ⊎ AreRecords (drop next frame)
next_held frame place next are within gives =
    let s = stood (drop place frame) are in
    kept_records frame next s.records s.count within s.each s.counted (gives s.first s.records s.count s.framed s.each s.counted s.split)

-- the bytes of a frame are records and their END
pub are_records : (held : List ℕ) → IsFrameBytes held → AreRecords held
unfolding frame_bytes
are_records held is = (is.0, length is.0, is.1.each, is.1.some, record { some = is.1.some; few = is.1.few }, is.2)

-- what is given by its outline is the outline of a record that stood there
abbrev pub GivesFirst : Reader → Reader → Outline → ℕ → Type 0
GivesFirst old new outline at = (first : Rec) (records : List Rec) (count : ℕ) → IsFramed first → AllByRecursion IsFramed records → IsCount count → old.held ≡ closing (first ∷ records) count → (outline ≡ outline_of first) × IsGiven old new (first, at) first records count

-- an outline that is given is that of some record
pub is_outline : (old new : Reader) (outline : Outline) (at : ℕ) → AreRecords old.held → GivesFirst old new outline at → IsSomeOutline outline
is_outline old new outline at are law = let s = stood old.held are in (s.first, (law s.first s.records s.count s.framed s.each s.counted s.split).0)

-- the one record that stands there
pub one_first : (held : List ℕ) (are : AreRecords held) (first : Rec) (records : List Rec) (count : ℕ) → IsFramed first → held ≡ closing (first ∷ records) count → first ≡ (stood held are).first
one_first held are first records count framed same =
    let s = stood held are in
    sym (rec_first held s.first first records count framed same (outcome_first held s.first s.records s.count s.framed s.split))

-- what is held, as a part of what was read
pub held_part : (place stop : ℕ) (read now : List ℕ) → place ≤ stop → now ≡ read → take (stop - place) (drop place now) ≡ drop place (take stop read)
held_part place stop read now within same =
    let all : place + (stop - place) ≡ stop = omega (arith, within) in
    ap (λ (l : List ℕ). take (stop - place) (drop place l)) same ∙ sym (drop-take place (stop - place) read) ∙ ap (λ (n : ℕ). drop place (take n read)) all
