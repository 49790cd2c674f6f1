-- A file that is read from a commit byte on.
use Rattle.std.proofs.Common.{◌≡◌, ◌<◌, ◌≤◌, ◌+◌, ℕ, List, [], ◌∷◌, ◌++◌, length, drop, Option, Bool, true, false, refl, sym, ◌∙◌, ap, subst, arith}
use Rattle.std.specs.Prelude.{◌↔◌, IsTrue}
use Rattle.flume_host.specs.Told.{Told}
use Rattle.record_form.specs.declared.record.Rec.{Rec}
use Rattle.channel_log.specs.Frames.{BadHeader, Content, Holds, fault_of}
use Rattle.channel_log.specs.Reader.{Goes, HasFile, IsBegun, Reader, Remains, WhereBad as FrameBad, content_items, frame_items}
use Rattle.channel_log.specs.declared.loading.FrameRefused.{FrameRefused}
use Rattle.channel_log.proofs.Contents.{one-content}
use Rattle.channel_log.proofs.Every.{some_content}
use Rattle.channel_replay.specs.declared.line.Line.{Line}
use Rattle.channel_replay.specs.declared.line.Line.TheVariants.{Faulty}
use Rattle.channel_replay.specs.Recover.{HasFault, begin_lines, fault_lines, file_lines, past_lines, record_lines}
use Rattle.channel_replay.specs.Replay.{WhereBadLog, as_frame, drop_lines, record_count}
use Rattle.channel_replay.proofs.Lines.{fault_append}
use Rattle.channel_replay.proofs.Replaying.{begins_as, frame_bad, frame_maps, record_count-append}
use Rattle.ring_replay.specs.declared.indexing.Indexing.{Indexing}
use Rattle.ring_replay.specs.Indexing.{GoesThrough, LinesStand}
use Rattle.ring_replay.specs.Folder.{StopsIn}
use Rattle.ring_replay.proofs.Files.{applies_append}
use Rattle.ring_replay.proofs.Standing.{stand_back, stand_front}
use Rattle.checkpoint_recovery.specs.Reading.{Behind, HasFrom, Whole, Wrong}
use Rattle.checkpoint_replay.specs.Reading.{WhereFrom}

-- what a reader that has begun at a commit byte gives of a file, as lines
pub record IsGiven (reader : Reader) (number : ℕ) (bytes : List ℕ) (own : List Line) : Type 0 where
  pub items : List (Rec × ℕ)
  pub fault : Option ℕ
  pub remains : Remains reader bytes items fault
  pub lines_are : own ≡ drop_lines reader.drops ++ (record_lines number items ++ fault_lines number fault)

-- what the contract of a reader's begin says
abbrev pub Begun : Option Told → ℕ → ℕ → Reader → Type 0
Begun told number at reader =
    ((bytes : List ℕ) (content : Content) → HasFile told number bytes → Holds number bytes content → at ≡ 16 → Remains reader bytes (content_items content) (fault_of content))
    × ((bytes : List ℕ) (content : Content) → HasFile told number bytes → Holds number bytes content → IsTrue reader.drops ↔ ((at ≡ 16) × IsBegun content))
    × ((bytes : List ℕ) (frames : List (List Rec)) (fault : Option ℕ) → HasFile told number bytes → 17 < length bytes → Goes (drop at bytes) at frames fault → Remains reader bytes (frame_items at frames) fault)
    × ((bytes : List ℕ) → HasFile told number bytes → Holds number bytes BadHeader → ⊥)

none_dropped : (drops : Bool) (at : ℕ) → 16 < at → (drops ≡ true → at ≡ 16) → drop_lines drops ≡ []
none_dropped true at behind to = absurd (let first = to refl in omega (arith, behind, first))
none_dropped false at behind to = refl

-- what the reader of a file from a place on gives are the lines from there on
pub given : (told : Option Told) (number at : ℕ) (reader : Reader) (bytes : List ℕ) (own : List Line) → Begun told number at reader → HasFile told number bytes → HasFrom number bytes at own → IsGiven reader number bytes own
given told number at reader bytes own begun has (Whole first content holds is) =
    let drops = begun.1 bytes content has holds in
    let begins : drop_lines reader.drops ≡ begin_lines content = begins_as reader.drops content (λ it. (refl, (drops.0 it).1)) (λ it. drops.1 (first, it.1)) in
    record {
      items = content_items content;
      fault = fault_of content;
      remains = begun.0 bytes content has holds first;
      lines_are = is ∙ ap (λ (l : List Line). l ++ (record_lines number (content_items content) ++ fault_lines number (fault_of content))) (sym begins);
    }
given told number at reader bytes own begun has (Wrong behind bad is) = absurd (begun.3 bytes has bad)
given told number at reader bytes own begun has (Behind behind long reads) =
    let some = some_content number bytes in
    let drops = begun.1 bytes some.0 has some.1 in
    let none : drop_lines reader.drops ≡ [] = none_dropped reader.drops at behind (λ it. (drops.0 it).0) in
    record {
      items = frame_items at reads.frames;
      fault = reads.fault;
      remains = begun.2 bytes reads.frames reads.fault has long reads.goes;
      lines_are = reads.lines_are ∙ ap (λ (l : List Line). l ++ (record_lines number (frame_items at reads.frames) ++ fault_lines number reads.fault)) (sym none);
    }

-- they were applied
pub own_goes : (reader : Reader) (number : ℕ) (bytes : List ℕ) (own : List Line) (old mid new : Indexing) (g : IsGiven reader number bytes own) → GoesThrough (drop_lines reader.drops) old mid
    → GoesThrough (record_lines number g.items ++ fault_lines number g.fault) mid new → GoesThrough own old new
own_goes reader number bytes own old mid new g begins rest =
    subst (λ (l : List Line). GoesThrough l old new) (sym g.lines_are) (applies_append (drop_lines reader.drops) (record_lines number g.items ++ fault_lines number g.fault) old mid new begins rest)

-- or are at fault
pub own_stops : (reader : Reader) (number : ℕ) (bytes : List ℕ) (own : List Line) (old mid : Indexing) (f a : ℕ) (g : IsGiven reader number bytes own) → GoesThrough (drop_lines reader.drops) old mid
    → StopsIn (record_lines number g.items ++ fault_lines number g.fault) mid f a → StopsIn own old f a
own_stops reader number bytes own old mid f a g begins fault places s past stand keeps =
    let first : List Line = drop_lines reader.drops in
    let rest : List Line = record_lines number g.items ++ fault_lines number g.fault in
    let stands : LinesStand places (first ++ rest) = subst (LinesStand places) g.lines_are stand in
    let one = begins places s past (stand_front places first rest stands) keeps in
    subst (λ (l : List Line). HasFault s.base past l f a) (sym g.lines_are)
    (fault_append s.base past first rest f a one.0 (fault places s (past_lines past first) (stand_back places first rest stands) one.1))

item_count : (file : ℕ) (items : List (Rec × ℕ)) → record_count (record_lines file items) ≡ length items
item_count file [] = refl
item_count file (item ∷ items) = omega (arith, item_count file items)

-- and as many steps are counted at most
pub own_ticks : (reader : Reader) (number : ℕ) (bytes : List ℕ) (own : List Line) (none steps : ℕ) (g : IsGiven reader number bytes own) → steps ≤ none + length g.items → steps ≤ none + record_count own
own_ticks reader number bytes own none steps g few =
    let rest : List Line = record_lines number g.items ++ fault_lines number g.fault in
    omega (arith, few, ap record_count g.lines_are, record_count-append (drop_lines reader.drops) rest, record_count-append (record_lines number g.items) (fault_lines number g.fault), item_count number g.items)

-- A wrong header is the first fault from each commit byte on.
pub wrong_header : (told : Option Told) (file at : ℕ) (old : Indexing) (e : FrameRefused)
    → FrameBad e (λ f a. (f ≡ file) × (a ≡ 0) × ((bytes : List ℕ) → HasFile told file bytes → Holds file bytes BadHeader))
    → WhereBadLog (as_frame e) (λ f a. WhereFrom told file at (λ own. StopsIn own old f a))
wrong_header told file at old e bad =
    frame_bad e (λ f a. WhereFrom told file at (λ own. StopsIn own old f a))
    (frame_maps e (λ f a. (f ≡ file) × (a ≡ 0) × ((bytes : List ℕ) → HasFile told file bytes → Holds file bytes BadHeader)) (λ f a. WhereFrom told file at (λ own. StopsIn own old f a))
    (λ f a h. λ bytes own has from places s past stand keeps.
    subst (λ (l : List Line). HasFault s.base past l f a) (sym (only_header bytes own (h.2 bytes has) from))
    (record { before = []; line = Faulty file 0; behind = []; split = refl; sound = tt; bad = λ no. no; place = (h.0, h.1) }))
    bad)
  where
    only_header : (bytes : List ℕ) (own : List Line) → Holds file bytes BadHeader → HasFrom file bytes at own → own ≡ Faulty file 0 ∷ []
    only_header bytes own wrong (Whole first content holds is) = is ∙ ap (file_lines file) (one-content file bytes content BadHeader holds wrong)
    only_header bytes own wrong (Wrong behind holds is) = is
    only_header bytes own wrong (Behind behind long reads) = absurd (wrong.1 reads.birth reads.header)
