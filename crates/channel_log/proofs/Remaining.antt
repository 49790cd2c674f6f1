-- What remains to be given of a file.
use Rattle.std.proofs.Common.{◌≡◌, ◌<◌, ◌≤◌, inl, inr, ℕ, suc, ◌+◌, true, false, List, [], ◌∷◌, ◌++◌, length, drop, Option, Some, None, refl, sym, ◌∙◌, ap, subst, arith, length-append, length-drop}
use Rattle.std.specs.List.{AllByRecursion}
use Rattle.std.proofs.lemmas.List.{append_cancel_left, drop-drop}
use Rattle.std.proofs.Math.Seq.{drop-append_seam}
use Rattle.record_form.specs.declared.record.Outline.{Outline}
use Rattle.record_form.specs.declared.record.Rec.{Rec}
use Rattle.record_form.specs.Record.{record_length}
use Rattle.channel_log.proofs.Contents.{one_frame, opened-cons, first_of, commits_stops, breaks_stops, tail_of, head_of}
use Rattle.channel_log.proofs.Given.{GivesFirst, length_held, length-closing, one_first, stood}
use Rattle.event_core.proofs.Sizes.{length-u32_bytes}
use Rattle.channel_log.specs.Frames.{IsFrame, IsFramed, frame_bytes, opened}
use Rattle.channel_log.specs.Reader.{AfterOpen, AreRecords, Goes, Gives, GivesOutline, IsAhead, IsBetween, IsCount, IsEntered, IsFront, IsGiven, Opens, OpensNone, Reader, Remains, closing, frame_items, record_items, step}

-- the reader stands before a commit byte of these frames
pub between : (r : Reader) (bytes : List ℕ) (items : List (Rec × ℕ)) (fault : Option ℕ) → Remains r bytes items fault → r.held ≡ [] → r.blank ≡ false → IsBetween r bytes items fault
between r bytes items fault remains empty full = elim (remains.stands) [
  | inl over ↦ absurd (let e : true ≡ false = sym over.0 ∙ full in cc)
  | inr there ↦ elim (there.1) [
    | inl b ↦ b
    | inr inside ↦ absurd (omega (arith, length-closing inside.records inside.count, ap length inside.held, ap length empty))
  ]
]

-- an open commit byte with a frame and a byte after it is that of the first frame
pub record Entered (frames : List (List Rec)) (x : List ℕ) (frame : List Rec) (behind : List ℕ) : Type 0 where
  pub more : List (List Rec)
  pub is : frames ≡ frame ∷ more
  pub each : AllByRecursion IsFrame more
  pub rest : behind ≡ opened more ++ x

enters : (frames : List (List Rec)) (x : List ℕ) (frame : List Rec) (behind : List ℕ) → AllByRecursion IsFrame frames → IsFrame frame → opened frames ++ x ≡ 1 ∷ (frame_bytes frame ++ behind) → (x ≡ 1 ∷ (frame_bytes frame ++ behind) → ⊥) → Entered frames x frame behind
enters [] x frame behind each is same none = absurd (none same)
enters (f ∷ fs) x frame behind each is same none =
    let inner : frame_bytes f ++ (opened fs ++ x) ≡ frame_bytes frame ++ behind = tail_of 1 1 (frame_bytes f ++ (opened fs ++ x)) (frame_bytes frame ++ behind) (sym (opened-cons f fs x) ∙ same) in
    let one : f ≡ frame = one_frame f frame (opened fs ++ x) behind each.0 is inner in
    record {
      more = fs;
      is = ap (λ (h : List Rec). h ∷ fs) one;
      each = each.1;
      rest = sym (append_cancel_left (frame_bytes f) (opened fs ++ x) behind (inner ∙ ap (λ (h : List Rec). frame_bytes h ++ behind) (sym one)));
    }

-- after that frame
behind_frame : (bytes : List ℕ) (at : ℕ) (frame : List Rec) (behind : List ℕ) → drop at bytes ≡ 1 ∷ (frame_bytes frame ++ behind) → drop (at + 1 + length (frame_bytes frame)) bytes ≡ behind
behind_frame bytes at frame behind same =
    let size = length (frame_bytes frame) in
    ap (λ (n : ℕ). drop n bytes) (omega arith) ∙ sym (drop-drop size (at + 1) bytes) ∙ ap (drop size) (sym (drop-drop 1 at bytes) ∙ ap (drop 1) same) ∙ drop-append_seam (frame_bytes frame) behind

goes_behind : (bytes : List ℕ) (at : ℕ) (frames : List (List Rec)) (fault : Option ℕ) (frame : List Rec) (gate : ℕ) (behind : List ℕ) → IsFrame frame → Goes (drop at bytes) at frames fault → drop at bytes ≡ 1 ∷ (frame_bytes frame ++ gate ∷ behind)
    → (more : List (List Rec)) × (frames ≡ frame ∷ more) × Goes (drop (at + 1 + length (frame_bytes frame)) bytes) (at + 1 + length (frame_bytes frame)) more fault
goes_behind bytes at frames fault frame gate behind is (inl commits) same =
    let c = commits.0 in
    let x = c.gate ∷ c.rest in
    let e = enters frames x frame (gate ∷ behind) c.each is (sym c.split ∙ same) (λ wrong. c.closed (head_of c.gate 1 c.rest (frame_bytes frame ++ gate ∷ behind) wrong)) in
    (e.more, e.is, inl (record { each = e.each; gate = c.gate; rest = c.rest; split = behind_frame bytes at frame (gate ∷ behind) same ∙ e.rest; closed = c.closed }, commits.1))
goes_behind bytes at frames fault frame gate behind is (inr breaks) same =
    let b = breaks.0 in
    let x = 1 ∷ b.rest in
    let e = enters frames x frame (gate ∷ behind) b.each is (sym b.split ∙ same) (λ wrong. b.none frame gate behind is (tail_of 1 1 b.rest (frame_bytes frame ++ gate ∷ behind) wrong)) in
    let size : at + length (opened frames) ≡ at + 1 + length (frame_bytes frame) + length (opened e.more) = omega (arith, ap (λ (l : List (List Rec)). length (opened l)) e.is, length-append (frame_bytes frame) (opened e.more)) in
    (e.more, e.is, inr (record { each = e.each; rest = b.rest; split = behind_frame bytes at frame (gate ∷ behind) same ∙ e.rest; none = b.none }, breaks.1 ∙ ap (λ (n : ℕ). Some n) size))

-- other bytes were read ahead
pub reads_ahead : (old : Reader) (more : List ℕ) (bytes : List ℕ) (items : List (Rec × ℕ)) (fault : Option ℕ) → Remains old bytes items fault → IsFront more (old.at + length old.held) bytes → Remains (record old { ahead = more }) bytes items fault
reads_ahead old more bytes items fault remains front = record {
  long = remains.long;
  ahead = front;
  stands = elim (remains.stands) [
    | inl over ↦ inl over
    | inr there ↦ inr (
      there.0,
      elim (there.1) [
        | inl b ↦ inl (record { held = b.held; frames = b.frames; goes = b.goes; items_are = b.items_are })
        | inr i ↦ inr (record { records = i.records; count = i.count; each = i.each; some = i.some; counted = i.counted; held = i.held; frames = i.frames; goes = i.goes; items_are = i.items_are })
      ],
    )
  ];
}

-- nothing is left of what was read ahead
pub forgets : (old new : Reader) (bytes : List ℕ) (items : List (Rec × ℕ)) (fault : Option ℕ) → new ≡ record old { ahead = [] } → Remains old bytes items fault → Remains new bytes items fault
forgets old new bytes items fault is remains = subst (λ (r : Reader). Remains r bytes items fault) (sym is) (reads_ahead old [] bytes items fault remains refl)

-- a frame was loaded
pub entered : (old new : Reader) (bytes : List ℕ) (items : List (Rec × ℕ)) (fault : Option ℕ) → Remains old bytes items fault → old.held ≡ [] → old.blank ≡ false → IsEntered old new → IsAhead new bytes → AfterOpen (drop old.at bytes) (λ rest. Opens rest new.held) → Remains new bytes items fault
unfolding frame_bytes
entered old new bytes items fault remains empty full is ahead loaded =
    let b = between old bytes items fault remains empty full in
    let o = loaded.2 in
    let same : drop old.at bytes ≡ 1 ∷ (frame_bytes o.frame ++ o.gate ∷ o.behind) = loaded.1 ∙ ap (λ (l : List ℕ). 1 ∷ l) o.split in
    let g = goes_behind bytes old.at b.frames fault o.frame o.gate o.behind o.is b.goes same in
    let size : length new.held ≡ length (frame_bytes o.frame) = ap length o.same in
    let place : old.at + 1 + length (frame_bytes o.frame) ≡ old.at + 1 + length new.held = omega (arith, size) in
    subst (λ (r : Reader). Remains r bytes items fault) (sym is.is) (record {
      long = remains.long;
      ahead = subst (λ (r : Reader). IsAhead r bytes) is.is ahead;
      stands = inr (
        full,
        inr (record {
          records = o.frame;
          count = length o.frame;
          each = o.is.each;
          some = o.is.some;
          counted = record { some = o.is.some; few = o.is.few };
          held = o.same;
          frames = g.0;
          goes = subst (λ (n : ℕ). Goes (drop n bytes) n g.0 fault) place g.2;
          items_are = b.items_are ∙ ap (frame_items old.at) g.1 ∙ ap (λ (n : ℕ). record_items (old.at + 1) o.frame ++ frame_items n g.0) place;
        }),
      );
    })

-- there is a commit byte
first_byte : (bytes : List ℕ) (at : ℕ) (frames : List (List Rec)) (fault : Option ℕ) → Goes (drop at bytes) at frames fault → (gate : ℕ) × (rest : List ℕ) × (drop at bytes ≡ gate ∷ rest)
first_byte bytes at frames fault (inl commits) = let c = commits.0 in let f = first_of frames (c.gate ∷ c.rest) (commits_stops (drop at bytes) frames c) in (f.0, f.1, c.split ∙ f.2)
first_byte bytes at frames fault (inr breaks) = let b = breaks.0 in let f = first_of frames (1 ∷ b.rest) (breaks_stops (drop at bytes) frames b) in (f.0, f.1, b.split ∙ f.2)

-- a reader before a commit byte has not reached the end of its file
pub below : (old : Reader) (bytes : List ℕ) (items : List (Rec × ℕ)) (fault : Option ℕ) → Remains old bytes items fault → old.held ≡ [] → old.blank ≡ false → old.at < old.size
below old bytes items fault remains empty full =
    let b = between old bytes items fault remains empty full in
    let f = first_byte bytes old.at b.frames fault b.goes in
    omega (arith, ap length f.2, length-drop old.at bytes, remains.long)

ends_closed : (bytes : List ℕ) (at : ℕ) (frames : List (List Rec)) (fault : Option ℕ) → Goes (drop at bytes) at frames fault → (AfterOpen (drop at bytes) (λ rest. Unit {0}) → ⊥) → (frame_items at frames ≡ []) × (fault ≡ None)
ends_closed bytes at [] fault (inl commits) closed = (refl, commits.1)
ends_closed bytes at (f ∷ fs) fault (inl commits) closed = absurd (closed ((frame_bytes f ++ opened fs) ++ commits.0.gate ∷ commits.0.rest, commits.0.split, tt))
ends_closed bytes at [] fault (inr breaks) closed = absurd (closed (breaks.0.rest, breaks.0.split, tt))
ends_closed bytes at (f ∷ fs) fault (inr breaks) closed = absurd (closed ((frame_bytes f ++ opened fs) ++ 1 ∷ breaks.0.rest, breaks.0.split, tt))

-- where the commit byte is closed, nothing remains and there is no fault
pub ended : (old : Reader) (bytes : List ℕ) (items : List (Rec × ℕ)) (fault : Option ℕ) → Remains old bytes items fault → old.held ≡ [] → old.blank ≡ false → (AfterOpen (drop old.at bytes) (λ rest. Unit {0}) → ⊥) → (items ≡ []) × (fault ≡ None)
ended old bytes items fault remains empty full closed =
    let b = between old bytes items fault remains empty full in
    let e = ends_closed bytes old.at b.frames fault b.goes closed in
    (b.items_are ∙ e.0, e.1)

breaks_here : (bytes : List ℕ) (at : ℕ) (frames : List (List Rec)) (fault : Option ℕ) → Goes (drop at bytes) at frames fault → (rest : List ℕ) → drop at bytes ≡ 1 ∷ rest → OpensNone rest → (frame_items at frames ≡ []) × (fault ≡ Some at)
breaks_here bytes at [] fault (inl commits) rest same none = let c = commits.0 in absurd (c.closed (head_of c.gate 1 c.rest rest (sym c.split ∙ same)))
breaks_here bytes at (f ∷ fs) fault (inl commits) rest same none =
    let c = commits.0 in
    let x = c.gate ∷ c.rest in
    let first = first_of fs x (commits_stops (drop at bytes) (f ∷ fs) c) in
    absurd (none f first.0 first.1 c.each.0 (tail_of 1 1 rest (frame_bytes f ++ first.0 ∷ first.1) (sym same ∙ c.split ∙ opened-cons f fs x ∙ ap (λ (l : List ℕ). 1 ∷ (frame_bytes f ++ l)) first.2)))
breaks_here bytes at [] fault (inr breaks) rest same none = (refl, breaks.1 ∙ ap (λ (n : ℕ). Some n) (omega arith))
breaks_here bytes at (f ∷ fs) fault (inr breaks) rest same none =
    let b = breaks.0 in
    let x = 1 ∷ b.rest in
    let first = first_of fs x (breaks_stops (drop at bytes) (f ∷ fs) b) in
    absurd (none f first.0 first.1 b.each.0 (tail_of 1 1 rest (frame_bytes f ++ first.0 ∷ first.1) (sym same ∙ b.split ∙ opened-cons f fs x ∙ ap (λ (l : List ℕ). 1 ∷ (frame_bytes f ++ l)) first.2)))

-- where an open commit byte has no frame behind it, only this fault remains
pub broken : (old : Reader) (bytes : List ℕ) (items : List (Rec × ℕ)) (fault : Option ℕ) → Remains old bytes items fault → old.held ≡ [] → old.blank ≡ false → AfterOpen (drop old.at bytes) OpensNone → (items ≡ []) × (fault ≡ Some old.at)
broken old bytes items fault remains empty full behind =
    let b = between old bytes items fault remains empty full in
    let e = breaks_here bytes old.at b.frames fault b.goes behind.0 behind.1 behind.2 in
    (b.items_are ∙ e.0, e.1)

length-end : (count : ℕ) → length (closing [] count) ≡ 5
length-end count = ap suc (length-u32_bytes count)

-- a record was given
pub gives_first : (old new : Reader) (bytes : List ℕ) (given : Rec × ℕ) (first : Rec) (records : List Rec) (count : ℕ) (frames : List (List Rec)) (fault : Option ℕ)
    → length bytes ≡ old.size → IsAhead old bytes → old.blank ≡ false → AllByRecursion IsFramed records → IsCount count → old.held ≡ closing (first ∷ records) count
    → Goes (drop (old.at + length old.held) bytes) (old.at + length old.held) frames fault → IsGiven old new given first records count
    → Remains new bytes (record_items (old.at + record_length first) records ++ frame_items (old.at + length old.held) frames) fault
gives_first old new bytes given first [] count frames fault long ahead full each counted held goes is =
    let end : old.at + length old.held ≡ old.at + step first [] = omega (arith, length_held old.held first [] count held, length-end count) in
    let there = subst (λ (n : ℕ). Goes (drop n bytes) n frames fault) end goes in
    let stop : old.at + length old.held ≡ old.at + step first [] + 0 = omega (arith, end) in
    subst (λ (r : Reader). Remains r bytes (frame_items (old.at + length old.held) frames) fault) (sym is.after) (record {
      long = long;
      ahead = subst (λ (n : ℕ). IsFront old.ahead n bytes) stop ahead;
      stands = inr (full, inl (record { held = refl; frames = frames; goes = there; items_are = ap (λ (n : ℕ). frame_items n frames) end }));
    })
gives_first old new bytes given first (r ∷ rs) count frames fault long ahead full each counted held goes is =
    let next = old.at + record_length first in
    let stop = next + length (closing (r ∷ rs) count) in
    let end : old.at + length old.held ≡ stop = omega (arith, length_held old.held first (r ∷ rs) count held) in
    let there = subst (λ (n : ℕ). Goes (drop n bytes) n frames fault) end goes in
    subst (λ (q : Reader). Remains q bytes (record_items next (r ∷ rs) ++ frame_items (old.at + length old.held) frames) fault) (sym is.after) (record {
      long = long;
      ahead = subst (λ (n : ℕ). IsFront old.ahead n bytes) end ahead;
      stands = inr (
        full,
        inr (record {
          records = r ∷ rs;
          count = count;
          each = each;
          some = omega arith;
          counted = counted;
          held = refl;
          frames = frames;
          goes = there;
          items_are = ap (λ (n : ℕ). record_items next (r ∷ rs) ++ frame_items n frames) end;
        }),
      );
    })

given_of : (old new : Reader) (bytes : List ℕ) (items : List (Rec × ℕ)) (fault : Option ℕ) (given : Rec × ℕ) (records : List Rec) (count : ℕ) (frames : List (List Rec))
    → length bytes ≡ old.size → IsAhead old bytes → old.blank ≡ false → AllByRecursion IsFramed records → 1 ≤ length records → IsCount count → old.held ≡ closing records count
    → Goes (drop (old.at + length old.held) bytes) (old.at + length old.held) frames fault → items ≡ record_items old.at records ++ frame_items (old.at + length old.held) frames
    → ((first : Rec) (records : List Rec) (count : ℕ) → IsFramed first → AllByRecursion IsFramed records → IsCount count → old.held ≡ closing (first ∷ records) count → IsGiven old new given first records count)
    → Gives (Some given) new bytes items fault
given_of old new bytes items fault given [] count frames long ahead full each some counted held goes are law = absurd (omega (arith, some))
given_of old new bytes items fault given (first ∷ records) count frames long ahead full each some counted held goes are law =
    let is = law first records count each.0 each.1 counted held in
    subst (λ (l : List (Rec × ℕ)). Gives (Some given) new bytes l fault) (sym are) (is.is, gives_first old new bytes given first records count frames fault long ahead full each.1 counted held goes is)

not_empty : (held : List ℕ) → AreRecords held → held ≡ [] → ⊥
not_empty held are empty = omega (arith, length-closing are.0 are.1, ap length are.5, ap length empty)

-- a reader that gave the first record it holds gave the first of those that remained
pub gives : (old new : Reader) (bytes : List ℕ) (items : List (Rec × ℕ)) (fault : Option ℕ) (given : Rec × ℕ) → AreRecords old.held → Remains old bytes items fault
    → ((first : Rec) (records : List Rec) (count : ℕ) → IsFramed first → AllByRecursion IsFramed records → IsCount count → old.held ≡ closing (first ∷ records) count → IsGiven old new given first records count)
    → Gives (Some given) new bytes items fault
gives old new bytes items fault given are remains law = elim (remains.stands) [
  | inl over ↦ absurd (not_empty old.held are over.1)
  | inr there ↦ elim (there.1) [
    | inl b ↦ absurd (not_empty old.held are b.held)
    | inr i ↦ given_of old new bytes items fault given i.records i.count i.frames remains.long remains.ahead there.0 i.each i.some i.counted i.held i.goes i.items_are law
  ]
]

-- and by its outline
pub gives_outline : (old new : Reader) (bytes : List ℕ) (items : List (Rec × ℕ)) (fault : Option ℕ) (outline : Outline) (at : ℕ) → AreRecords old.held → Remains old bytes items fault → GivesFirst old new outline at → GivesOutline (Some (outline, at)) new bytes items fault
gives_outline old new bytes items fault outline at are remains law =
    let s = stood old.held are in (
      s.first,
      (law s.first s.records s.count s.framed s.each s.counted s.split).0,
      gives old new bytes items fault (s.first, at) are remains (λ first records count framed each counted same.
          subst (λ (rec : Rec). IsGiven old new (rec, at) first records count) (one_first old.held are first records count framed same) (law first records count framed each counted same).1),
    )
