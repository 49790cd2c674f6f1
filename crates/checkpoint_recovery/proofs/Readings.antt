-- From a place on a folder has one list of lines.
use Rattle.std.proofs.Common.{inl, inr, ◌≡◌, ◌+◌, ◌^◌, ◌++◌, ◌∷◌, [], ℕ, List, length, length-append, drop, Option, Some, None, refl, sym, ◌∙◌, ap, append_assoc, arith}
use Rattle.std.specs.Prelude.{IsSomeAnd}
use Rattle.std.specs.List.{AllByRecursion}
use Rattle.std.proofs.lemmas.List.{drop-drop, drop_at}
use Rattle.flume_host.specs.declared.names.FileName.TheVariants.{Log}
use Rattle.record_form.specs.declared.record.Rec.{Rec}
use Rattle.channel_log.specs.Frames.{IsFrame, frame_bytes, opened}
use Rattle.channel_log.specs.Reader.{Goes, frame_items, record_items}
use Rattle.channel_log.proofs.Contents.{breaks_stops, commits_stops, head_of, one-content, one_split}
use Rattle.channel_replay.specs.declared.line.Line.{Line}
use Rattle.channel_replay.specs.declared.line.Line.TheVariants.{Stands}
use Rattle.channel_replay.specs.Recover.{LogFile, fault_lines, file_lines, lines, record_lines}
use Rattle.channel_replay.proofs.OneList.{one_list}
use Rattle.checkpoint_recovery.specs.Laws.{HasOneReading, ReadsOn}
use Rattle.checkpoint_recovery.specs.Reading.{Behind, HasFrom, Whole, Wrong}

-- frames and their fault are one

one_goes : (bytes : List ℕ) (at : ℕ) (fs gs : List (List Rec)) (f g : Option ℕ) → Goes bytes at fs f → Goes bytes at gs g → (fs ≡ gs) × (f ≡ g)
one_goes bytes at fs gs f g (inl a) (inl b) =
    let e = one_split fs gs (a.0.gate ∷ a.0.rest) (b.0.gate ∷ b.0.rest) a.0.each b.0.each (commits_stops bytes fs a.0) (commits_stops bytes gs b.0) (sym a.0.split ∙ b.0.split) in
    (e.0, a.1 ∙ sym b.1)
one_goes bytes at fs gs f g (inl a) (inr b) =
    let e = one_split fs gs (a.0.gate ∷ a.0.rest) (1 ∷ b.0.rest) a.0.each b.0.each (commits_stops bytes fs a.0) (breaks_stops bytes gs b.0) (sym a.0.split ∙ b.0.split) in
    absurd (a.0.closed (head_of a.0.gate 1 a.0.rest b.0.rest e.1))
one_goes bytes at fs gs f g (inr a) (inl b) =
    let e = one_split fs gs (1 ∷ a.0.rest) (b.0.gate ∷ b.0.rest) a.0.each b.0.each (breaks_stops bytes fs a.0) (commits_stops bytes gs b.0) (sym a.0.split ∙ b.0.split) in
    absurd (b.0.closed (head_of b.0.gate 1 b.0.rest a.0.rest (sym e.1)))
one_goes bytes at fs gs f g (inr a) (inr b) =
    let e = one_split fs gs (1 ∷ a.0.rest) (1 ∷ b.0.rest) a.0.each b.0.each (breaks_stops bytes fs a.0) (breaks_stops bytes gs b.0) (sym a.0.split ∙ b.0.split) in
    (e.0, a.1 ∙ (ap (λ (l : List (List Rec)). Some (at + length (opened l))) e.0 ∙ sym b.1))

one_from : (number : ℕ) (bytes : List ℕ) (at : ℕ) (a b : List Line) → HasFrom number bytes at a → HasFrom number bytes at b → a ≡ b
one_from number bytes at a b (Whole front c holds is) (Whole front' d holds' is') = is ∙ (ap (file_lines number) (one-content number bytes c d holds holds') ∙ sym is')
one_from number bytes at a b (Whole front c holds is) (Wrong behind bad is') = absurd (omega (arith, front, behind))
one_from number bytes at a b (Whole front c holds is) (Behind behind long reads) = absurd (omega (arith, front, behind))
one_from number bytes at a b (Wrong behind bad is) (Whole front c holds is') = absurd (omega (arith, front, behind))
one_from number bytes at a b (Wrong behind bad is) (Wrong behind' bad' is') = is ∙ sym is'
one_from number bytes at a b (Wrong behind bad is) (Behind behind' long reads) = absurd (bad.1 reads.birth reads.header)
one_from number bytes at a b (Behind behind long reads) (Whole front c holds is') = absurd (omega (arith, front, behind))
one_from number bytes at a b (Behind behind long reads) (Wrong behind' bad is') = absurd (bad.1 reads.birth reads.header)
one_from number bytes at a b (Behind behind long reads) (Behind behind' long' reads') =
    let e = one_goes (drop at bytes) at reads.frames reads'.frames reads.fault reads'.fault reads.goes reads'.goes in
    reads.lines_are
    ∙ (ap (λ (fs : List (List Rec)). record_lines number (frame_items at fs) ++ fault_lines number reads.fault) e.0
    ∙ (ap (λ (f : Option ℕ). record_lines number (frame_items at reads'.frames) ++ fault_lines number f) e.1
    ∙ sym reads'.lines_are))

one_file : (number at : ℕ) (file : Option (List ℕ)) (a b : List Line) → IsSomeAnd file (λ bytes. HasFrom number bytes at a) → IsSomeAnd file (λ bytes. HasFrom number bytes at b) → a ≡ b
one_file number at None a b is is' = absurd is
one_file number at (Some bytes) a b is is' = one_from number bytes at a b is is'

-- from a place on a folder has one list of lines
pub one_reading : HasOneReading
one_reading files place a b x y =
    let own = one_file place.file place.at (files (Log place.file)) x.own y.own x.there y.there in
    let logs = one_list files (place.file + 1) (2 ^ 32) x.logs y.logs x.behind y.behind in
    x.lines_are ∙ (ap (λ (l : List Line). l ++ lines x.logs) own ∙ (ap (λ (l : List LogFile). y.own ++ lines l) logs ∙ sym y.lines_are))

-- after some frames

opened-append : (a b : List (List Rec)) → opened (a ++ b) ≡ opened a ++ opened b
opened-append [] b = refl
opened-append (frame ∷ a) b =
    ap (λ (l : List ℕ). 1 ∷ frame_bytes frame ++ l) (opened-append a b) ∙ ap (λ (l : List ℕ). 1 ∷ l) (sym (append_assoc (frame_bytes frame) (opened a) (opened b)))

each_behind : (a b : List (List Rec)) → AllByRecursion IsFrame (a ++ b) → AllByRecursion IsFrame b
each_behind [] b each = each
each_behind (frame ∷ a) b each = each_behind a b each.1

items-append : (at : ℕ) (a b : List (List Rec)) → frame_items at (a ++ b) ≡ frame_items at a ++ frame_items (at + length (opened a)) b
items-append at [] b = let same : at ≡ at + 0 = omega arith in ap (λ (n : ℕ). frame_items n b) same
items-append at (frame ∷ a) b =
    let next : ℕ = at + 1 + length (frame_bytes frame) in
    let place : next + length (opened a) ≡ at + length (opened (frame ∷ a)) = omega (arith, length-append (frame_bytes frame) (opened a)) in
    ap (λ (l : List (Rec × ℕ)). record_items (at + 1) frame ++ l) (items-append next a b ∙ ap (λ (n : ℕ). frame_items next a ++ frame_items n b) place)
    ∙ sym (append_assoc (record_items (at + 1) frame) (frame_items next a) (frame_items (at + length (opened (frame ∷ a))) b))

lines-append : (number : ℕ) (a b : List (Rec × ℕ)) → record_lines number (a ++ b) ≡ record_lines number a ++ record_lines number b
lines-append number [] b = refl
lines-append number (item ∷ a) b = ap (λ (l : List Line). Stands number item.1 item.0 ∷ l) (lines-append number a b)

cut : (bytes : List ℕ) (at : ℕ) (front : List (List Rec)) (behind : List ℕ) → drop at bytes ≡ opened front ++ behind → drop (at + length (opened front)) bytes ≡ behind
cut bytes at front behind is =
    sym (drop-drop (length (opened front)) at bytes) ∙ (ap (λ (l : List ℕ). drop (length (opened front)) l) is ∙ drop_at (opened front) behind (length (opened front)) refl)

split-behind : (front frames : List (List Rec)) (bytes tail : List ℕ) → bytes ≡ opened (front ++ frames) ++ tail → bytes ≡ opened front ++ (opened frames ++ tail)
split-behind front frames bytes tail is = is ∙ (ap (λ (l : List ℕ). l ++ tail) (opened-append front frames) ∙ append_assoc (opened front) (opened frames) tail)

-- after some of its frames a file goes on as from the byte behind them
pub reads_on : ReadsOn
reads_on number at bytes front frames fault goes = (from goes, ap (record_lines number) (items-append at front frames) ∙ lines-append number (frame_items at front) (frame_items (at + length (opened front)) frames))
  where
    from : Goes (drop at bytes) at (front ++ frames) fault → Goes (drop (at + length (opened front)) bytes) (at + length (opened front)) frames fault
    from (inl c) = inl (
      record {
        each = each_behind front frames c.0.each;
        gate = c.0.gate;
        rest = c.0.rest;
        split = cut bytes at front (opened frames ++ c.0.gate ∷ c.0.rest) (split-behind front frames (drop at bytes) (c.0.gate ∷ c.0.rest) c.0.split);
        closed = c.0.closed;
      },
      c.1,
    )
    from (inr b) = inr (
      record {
        each = each_behind front frames b.0.each;
        rest = b.0.rest;
        split = cut bytes at front (opened frames ++ 1 ∷ b.0.rest) (split-behind front frames (drop at bytes) (1 ∷ b.0.rest) b.0.split);
        none = b.0.none;
      },
      b.1 ∙ ap (λ (n : ℕ). Some n) (let long : length (opened (front ++ frames)) ≡ length (opened front) + length (opened frames) = ap (λ (l : List ℕ). length l) (opened-append front frames) ∙ length-append (opened front) (opened frames) in omega (arith, long)),
    )
