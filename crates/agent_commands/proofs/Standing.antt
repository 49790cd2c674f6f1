-- What a store of lines stands for after one line more.
use Rattle.std.proofs.Common.{◌≡◌, ◌⊎◌, inl, inr, ◌<◌, ◌≤◌, ◌+◌, ◌++◌, ◌∷◌, [], ℕ, List, length, map, All, Option, Some, Bool, true, false, cond, nat_le, refl, sym, ◌∙◌, ap, subst, arith, append_assoc, length-append, append-nil}
use Rattle.std.proofs.lemmas.List.{get_or_past, length-map, map-append}
use Rattle.std.proofs.lemmas.Bool.Decides.{nat_tests}
use Rattle.std.proofs.lemmas.Bool.{cases_lt}
use Rattle.std.proofs.lemmas.List.Elements.{All-nil, All-head, All-tail, All-push}
use Rattle.std.specs.List.{AllByRecursion}
use Rattle.flume_host.specs.Folder.{Files, Folder, IsImage}
use Rattle.flume_host.specs.Told.{EachMoment, LeavesOnly, Tells, Told, clock}
use Rattle.flume_host.proofs.Moments.{carried, clock_rises}
use Rattle.flume_host.proofs.Telling.{follows, some_same, tells_more}
use Rattle.event_core.specs.Content.{Content, size}
use Rattle.event_core.proofs.Sizes.{size-sum}
use Rattle.event_core.specs.Journal.{Base, after_journal, left, numbered, without}
use Rattle.channel_face.specs.Machine.{State, base_of}
use Rattle.channel_face.proofs.Numbers.{numbered-append, without_none}
use Rattle.channel_face.proofs.Within.{length-numbered}
use Rattle.channel_writing.specs.Folders.{OpensTo}
use Rattle.channel_writing.specs.Touches.{IsSpentLog, Rests}
use Rattle.netcat_source.specs.declared.lines.LineVerdict.{LineVerdict}
use Rattle.netcat_source.specs.declared.lines.LineVerdict.TheVariants.{Accepted, Refused, InDoubt, NoMemory}
use Rattle.line_session.specs.Handled.{Handled, verdicts_of}
use Rattle.agent_commands.specs.Handled.{GoesOn, all_with, and_then, doubted}
use Rattle.netcat_source.specs.Judged.{event_of}
use Rattle.agent_commands.specs.Stored.{Acknowledged, GivesFront, GivesLines, Holds, IsAtEnd, behind, by, default_limits, lines_in}
use Rattle.agent_commands.proofs.Idle.{Follows, IsFull, IsIdle, Keeps, MayGain, PutsOne, Stands, one_put}

-- one line more after a base
pub behind-push : (base : Base) (lines : List (List ℕ)) (line : List ℕ) → after_journal (behind base lines) (one_put (event_of line)) ≡ behind base (lines ++ line ∷ [])
behind-push base lines line = λ i. record { items = items i; first = first i }
  where
    count : length (map event_of lines) ≡ length lines
    count = length-map lines event_of

    first : base.first + length lines + 1 ≡ base.first + length (lines ++ line ∷ [])
    first = omega (arith, length-append lines (line ∷ []))

    items : without [] ((base.items ++ numbered base.first (map event_of lines)) ++ numbered (base.first + length lines) (event_of line ∷ [])) ≡ base.items ++ numbered base.first (map event_of (lines ++ line ∷ []))
    items =
        without_none _ ∙ append_assoc base.items (numbered base.first (map event_of lines)) (numbered (base.first + length lines) (event_of line ∷ []))
        ∙ ap (λ (l : List (ℕ × Content)). base.items ++ l)
        (ap (λ (n : ℕ). numbered base.first (map event_of lines) ++ numbered (base.first + n) (event_of line ∷ [])) (sym count) ∙ sym (numbered-append base.first (map event_of lines) (event_of line ∷ [])) ∙ ap (λ (l : List Content). numbered base.first l) (sym (map-append event_of lines (line ∷ []))))

-- lines that were acknowledged by a moment

by-none : (m : ℕ) (acks : List Acknowledged) (a : Acknowledged) → m < a.moment → by m (acks ++ a ∷ []) ≡ by m acks
by-none m [] a before = let no : nat_le a.moment m ≡ false = grind (arith, nat_tests) in rw no refl
by-none m (b ∷ acks) a before = by_test (nat_le b.moment m) (by-none m acks a before)
  where
    by_test : (t : Bool) → by m (acks ++ a ∷ []) ≡ by m acks → cond t (b.line ∷ by m (acks ++ a ∷ [])) (by m (acks ++ a ∷ [])) ≡ cond t (b.line ∷ by m acks) (by m acks)
    by_test true more = ap (λ (l : List (List ℕ)). b.line ∷ l) more
    by_test false more = more

-- each moment is at most this
abbrev pub UpTo : ℕ → List Acknowledged → Type 0
UpTo k acks = AllByRecursion (λ a. a.moment ≤ k) acks

up_to : (k n : ℕ) (acks : List Acknowledged) → k ≤ n → UpTo k acks → UpTo n acks
up_to k n [] low all = tt
up_to k n (a ∷ acks) low all = (let one = all.0 in omega (arith, one, low), up_to k n acks low all.1)

up_to-push : (k : ℕ) (acks : List Acknowledged) (a : Acknowledged) → UpTo k acks → a.moment ≤ k → UpTo k (acks ++ a ∷ [])
up_to-push k [] a all one = (one, tt)
up_to-push k (b ∷ acks) a all one = (all.0, up_to-push k acks a all.1 one)

by-all : (m : ℕ) (acks : List Acknowledged) → UpTo m acks → by m acks ≡ lines_in acks
by-all m [] all = refl
by-all m (a ∷ acks) all =
    let yes : nat_le a.moment m ≡ true = let one = all.0 in grind (arith, nat_tests) in
    rw yes (ap (λ (l : List (List ℕ)). a.line ∷ l) (by-all m acks all.1))

-- first parts of lines

-- there are more lines
front_of_more : (base : Base) (lines lines' extra acked acked' : List (List ℕ)) (image : Files) → lines' ≡ lines ++ extra → acked' ≡ acked → GivesFront base lines acked image → GivesFront base lines' acked' image
front_of_more base lines lines' extra acked acked' image is same f = record {
  more = f.more;
  rest = f.rest ++ extra;
  first = is ∙ ap (λ (l : List (List ℕ)). l ++ extra) f.first ∙ append_assoc (acked ++ f.more) f.rest extra ∙ ap (λ (l : List (List ℕ)). (l ++ f.more) ++ (f.rest ++ extra)) (sym same);
  one = f.one;
  gives = subst (λ (l : List (List ℕ)). GivesLines base (l ++ f.more) image) (sym same) f.gives;
}

-- those that were acknowledged, and no more
all_front : (base : Base) (lines extra lines' acked : List (List ℕ)) (image : Files) → lines' ≡ lines ++ extra → acked ≡ lines → GivesLines base lines image → GivesFront base lines' acked image
all_front base lines extra lines' acked image is same gives = record {
  more = [];
  rest = extra;
  first = is ∙ ap (λ (l : List (List ℕ)). l ++ extra) (sym same ∙ sym (append-nil acked));
  one = omega arith;
  gives = subst (λ (l : List (List ℕ)). GivesLines base l image) (sym same ∙ sym (append-nil acked)) gives;
}

-- those, and one more
one_front : (base : Base) (lines : List (List ℕ)) (line : List ℕ) (lines' acked : List (List ℕ)) (image : Files) → lines' ≡ lines ++ line ∷ [] → acked ≡ lines → GivesLines base (lines ++ line ∷ []) image → GivesFront base lines' acked image
one_front base lines line lines' acked image is same gives = record {
  more = line ∷ [];
  rest = [];
  first = is ∙ ap (λ (l : List (List ℕ)). l ++ line ∷ []) (sym same) ∙ sym (append-nil (acked ++ line ∷ []));
  one = omega arith;
  gives = subst (λ (l : List (List ℕ)). GivesLines base (l ++ line ∷ []) image) (sym same) gives;
}

some_refused : (refused : List (List ℕ)) → (refused ≡ []) ⊎ (0 < length refused)
some_refused [] = inl refl
some_refused (l ∷ refused) = inr (omega arith)

-- one line more, from what the folder was told to hold on
module _ (t u v : Told) (s : State) (done : List Handled) (line : List ℕ) (f : Follows done [] s t u) where
  abbrev pub b : Base
  b = f.holds.base

  abbrev pub acks : List Acknowledged
  acks = f.holds.acks

  abbrev pub lines : List (List ℕ)
  lines = lines_in f.holds.acks

  same_length : length (lines_in f.holds.acks) ≡ length f.holds.acks
  same_length = length-map f.holds.acks (λ (a : Acknowledged). a.line)

  keeps_lines : (image : Files) → Keeps (base_of s) image → GivesLines b lines image
  keeps_lines image keeps = (keeps.0, subst (λ (x : Base). OpensTo image x keeps.0) f.base keeps.1)

  -- the base with the line's event is what lies behind the lines and this one
  pub with_line : after_journal (base_of s) (one_put (event_of line)) ≡ behind f.holds.base (lines_in f.holds.acks ++ line ∷ [])
  with_line = ap (λ (x : Base). after_journal x (one_put (event_of line))) f.base ∙ behind-push b lines line

  -- at a moment of the call
  here : (m : ℕ) → clock u ≤ m → by m f.holds.acks ≡ lines_in f.holds.acks
  here m since = by-all m acks (up_to (clock u) m acks since f.moments)

  -- what stops may leave goes on
  since_on : (acks' : List Acknowledged) (doubt extra : List (List ℕ)) (P : Files → Type 0) → lines_in acks' ++ doubt ≡ lines ++ extra → ((m : ℕ) → m < clock u → by m acks' ≡ by m acks) → LeavesOnly u v P
      → ((m : ℕ) (image : Files) → clock u ≤ m → m < clock v → P image → GivesFront b (lines_in acks' ++ doubt) (by m acks') image)
      → ((m : ℕ) (image : Files) → clock v ≤ m → IsImage v.now image → P image → GivesFront b (lines_in acks' ++ doubt) (by m acks') image)
      → EachMoment (clock t + 1) (λ m image. GivesFront b (lines_in acks' ++ doubt) (by m acks') image) v
  since_on acks' doubt extra P is same run during after =
      carried (clock t + 1) (λ m image. GivesFront b (lines ++ []) (by m acks) image) (λ m image. GivesFront b (lines_in acks' ++ doubt) (by m acks') image) u v P f.holds.since run
      (λ m image before front. front_of_more b (lines ++ []) (lines_in acks' ++ doubt) extra (by m acks) (by m acks') image (is ∙ ap (λ (l : List (List ℕ)). l ++ extra) (sym (append-nil lines))) (same m before) front) during after

  left_now : (P : Files → Type 0) (image : Files) → LeavesOnly u v P → IsImage v.now image → P image
  left_now P image run left = run.each (clock v) image (clock_rises u v P run) (subst (λ (x : Folder). IsImage x image) (sym (get_or_past v.past (clock v) v.now (omega arith))) left)

  -- the channel's numbers
  items_are : length s.items ≡ length f.holds.base.items + length f.holds.acks
  items_are =
      let is : length s.items ≡ length (b.items ++ numbered b.first (map event_of lines)) = ap (λ (x : Base). length x.items) f.base in
      let count : length (numbered b.first (map event_of lines)) ≡ length lines = length-numbered b.first (map event_of lines) ∙ length-map lines event_of in
      omega (arith, is, length-append b.items (numbered b.first (map event_of lines)), count, same_length)

  first_is : s.first ≡ f.holds.base.first + length f.holds.acks
  first_is = let is : s.first ≡ b.first + length lines = ap (λ (x : Base). x.first) f.base in omega (arith, is, same_length)

  full_at_end : IsAtEnd f.holds.base f.holds.txn (length f.holds.acks) → IsFull s
  full_at_end end = elim end [
    | inl items ↦ inl (omega (arith, items, items_are))
    | inr number ↦ elim number [ inl first ↦ inr (inl (omega (arith, first, first_is))) | inr txn ↦ inr (inr (let low = f.txn in omega (arith, txn, low))) ]
  ]

  at_end_full : f.holds.refused ≡ [] → IsFull s → IsAtEnd f.holds.base f.holds.txn (length f.holds.acks)
  at_end_full none full = elim full [
    | inl items ↦ inl (omega (arith, items, items_are))
    | inr number ↦ elim number [ inl first ↦ inr (inl (omega (arith, first, first_is))) | inr txn ↦ inr (inr (let exact = f.exact none in omega (arith, txn, exact))) ]
  ]

  -- the line was accepted
  module _ (s' : State) (idle : IsIdle s') (base' : base_of s' ≡ after_journal (base_of s) (one_put (event_of line))) (txn' : s'.txn ≡ s.txn + 1) (run : LeavesOnly u v (MayGain (base_of s) (event_of line))) (rests : (image : Files) → IsImage v.now image → Keeps (base_of s') image)
      (fits : IsFull s → ⊥) (log : IsSpentLog u default_limits.max_file → ⊥) where
    abbrev pub new : Acknowledged
    new = record { line = line; moment = clock v }

    abbrev pub acks' : List Acknowledged
    acks' = acks ++ new ∷ []

    more_lines : lines_in acks' ≡ lines ++ line ∷ []
    more_lines = map-append (λ (a : Acknowledged). a.line) acks (new ∷ [])

    more_lines' : lines_in acks' ++ [] ≡ lines ++ line ∷ []
    more_lines' = append-nil (lines_in acks') ∙ more_lines

    later : clock u ≤ clock v
    later = clock_rises u v (MayGain (base_of s) (event_of line)) run

    gives_all : (image : Files) → IsImage v.now image → GivesLines b (lines ++ line ∷ []) image
    gives_all image left = let k = rests image left in (k.0, subst (λ (x : Base). OpensTo image x k.0) (base' ∙ with_line) k.1)

    up_to' : UpTo (clock v) acks'
    up_to' = up_to-push (clock v) acks new (up_to (clock u) (clock v) acks later f.moments) (omega arith)

    none_refused : f.holds.refused ≡ []
    none_refused = elim (some_refused f.holds.refused) [
      | inl none ↦ none
      | inr some ↦ absurd (elim (f.holds.ends some) [ inl end ↦ fits (full_at_end end) | inr spent ↦ log spent ])
    ]

    during : (m : ℕ) (image : Files) → clock u ≤ m → m < clock v → MayGain (base_of s) (event_of line) image → GivesFront b (lines_in acks' ++ []) (by m acks') image
    during m image since before may =
        let acked : by m acks' ≡ lines = by-none m acks new before ∙ here m since in
        elim may.1 [
          | inl was ↦ all_front b lines (line ∷ []) (lines_in acks' ++ []) (by m acks') image more_lines' acked (keeps_lines image (may.0, was))
          | inr is ↦ one_front b lines line (lines_in acks' ++ []) (by m acks') image more_lines' acked (may.0, subst (λ (x : Base). OpensTo image x may.0) with_line is)
        ]

    after : (m : ℕ) (image : Files) → clock v ≤ m → IsImage v.now image → MayGain (base_of s) (event_of line) image → GivesFront b (lines_in acks' ++ []) (by m acks') image
    after m image since left may = all_front b (lines ++ line ∷ []) [] (lines_in acks' ++ []) (by m acks') image (ap (λ (l : List (List ℕ)). l ++ []) more_lines) (by-all m acks' (up_to (clock v) m acks' since up_to') ∙ more_lines) (gives_all image left)

    room : (n : ℕ) → n < length acks' → IsAtEnd b f.holds.txn n → ⊥
    room n below end = elim (cases_lt n (length acks)) [
      | inl before ↦ f.holds.room n before end
      | inr last ↦ fits (full_at_end (subst (λ (k : ℕ). IsAtEnd b f.holds.txn k) (let one = length-append acks (new ∷ []) in omega (arith, below, last, one)) end))
    ]

    -- a line that was accepted joins those that were acknowledged
    pub one_accepted : Follows (and_then done line Accepted) [] s' t v
    one_accepted = record {
      holds = record {
        base = b;
        txn = f.holds.txn;
        opens = f.holds.opens;
        acks = acks';
        refused = [];
        split =
            let was : done ≡ all_with Accepted lines = f.holds.split ∙ ap (λ (l : List (List ℕ)). all_with Accepted lines ++ all_with Refused l) none_refused ∙ append-nil (all_with Accepted lines) in
            ap (λ (d : List Handled). and_then d line Accepted) was ∙ sym (map-append (λ (l : List ℕ). record { line = l; verdict = Accepted }) lines (line ∷ [])) ∙ ap (λ (l : List (List ℕ)). all_with Accepted l) (sym more_lines) ∙ sym (append-nil (all_with Accepted (lines_in acks')));
        since = since_on acks' [] (line ∷ []) (MayGain (base_of s) (event_of line)) more_lines' (λ m before. by-none m acks new (omega (arith, before, later))) run during after;
        now = λ image left. all_front b (lines ++ line ∷ []) [] (lines_in acks' ++ []) (lines_in acks') image (ap (λ (l : List (List ℕ)). l ++ []) more_lines) more_lines (gives_all image left);
        room = room;
        ends = λ some. absurd (omega (arith, some));
      };
      base = base' ∙ with_line ∙ ap (λ (l : List (List ℕ)). behind b l) (sym more_lines);
      txn = let exact = f.exact none_refused in let one = length-append acks (new ∷ []) in omega (arith, exact, txn', one);
      exact = λ _. let exact = f.exact none_refused in let one = length-append acks (new ∷ []) in omega (arith, exact, txn', one);
      moments = up_to';
    }

  -- no line was added to what is acknowledged
  module _ (run : LeavesOnly u v (Keeps (base_of s))) where
    later_still : clock u ≤ clock v
    later_still = clock_rises u v (Keeps (base_of s)) run

    since_still : EachMoment (clock t + 1) (λ m image. GivesFront b (lines_in acks ++ []) (by m acks) image) v
    since_still = since_on acks [] [] (Keeps (base_of s)) refl (λ m before. refl) run
        (λ m image since before keeps. all_front b lines [] (lines ++ []) (by m acks) image refl (here m since) (keeps_lines image keeps))
        (λ m image since left keeps. all_front b lines [] (lines ++ []) (by m acks) image refl (here m (omega (arith, since, later_still))) (keeps_lines image keeps))

    now_still : (image : Files) → IsImage v.now image → GivesFront b (lines_in acks ++ []) (lines_in acks) image
    now_still image left = all_front b lines [] (lines ++ []) lines image refl refl (keeps_lines image (left_now (Keeps (base_of s)) image run left))

    -- there was no memory for it
    pub none_added : (f.holds.refused ≡ []) ⊎ (IsAtEnd b f.holds.txn (length acks) ⊎ IsSpentLog v default_limits.max_file) → Holds done [] t v
    none_added ends = record {
      base = b;
      txn = f.holds.txn;
      opens = f.holds.opens;
      acks = acks;
      refused = f.holds.refused;
      split = f.holds.split;
      since = since_still;
      now = now_still;
      room = f.holds.room;
      ends = λ some. elim ends [ inl none ↦ absurd (let no = ap length none in omega (arith, some, no)) | inr end ↦ end ];
    }

    -- it was refused
    pub one_refused : (s' : State) → base_of s' ≡ base_of s → s.txn ≤ s'.txn → IsAtEnd b f.holds.txn (length acks) ⊎ IsSpentLog v default_limits.max_file → Follows (and_then done line Refused) [] s' t v
    one_refused s' base' txn' ends = record {
      holds = record {
        base = b;
        txn = f.holds.txn;
        opens = f.holds.opens;
        acks = acks;
        refused = f.holds.refused ++ line ∷ [];
        split =
            ap (λ (d : List Handled). and_then d line Refused) f.holds.split ∙ append_assoc (all_with Accepted lines) (all_with Refused f.holds.refused) (all_with Refused (line ∷ []))
            ∙ ap (λ (l : List Handled). all_with Accepted lines ++ l) (sym (map-append (λ (l : List ℕ). record { line = l; verdict = Refused }) f.holds.refused (line ∷ [])));
        since = since_still;
        now = now_still;
        room = f.holds.room;
        ends = λ _. ends;
      };
      base = base' ∙ f.base;
      txn = let low = f.txn in omega (arith, low, txn');
      exact = λ none. absurd (let no = ap length none in let one = length-append f.holds.refused (line ∷ []) in omega (arith, no, one));
      moments = up_to (clock u) (clock v) acks later_still f.moments;
    }

  -- it is in doubt
  module _ (run : LeavesOnly u v (MayGain (base_of s) (event_of line))) where
    doubt_front : (acked : List (List ℕ)) (image : Files) → acked ≡ lines → MayGain (base_of s) (event_of line) image → GivesFront b (lines ++ line ∷ []) acked image
    doubt_front acked image same may = elim may.1 [
      | inl was ↦ all_front b lines (line ∷ []) (lines ++ line ∷ []) acked image refl same (keeps_lines image (may.0, was))
      | inr is ↦ one_front b lines line (lines ++ line ∷ []) acked image refl same (may.0, subst (λ (x : Base). OpensTo image x may.0) with_line is)
    ]

    -- a line in doubt may be found behind those that were acknowledged
    pub one_in_doubt : (f.holds.refused ≡ []) ⊎ (IsAtEnd b f.holds.txn (length acks) ⊎ IsSpentLog v default_limits.max_file) → Holds done (line ∷ []) t v
    one_in_doubt ends = record {
      base = b;
      txn = f.holds.txn;
      opens = f.holds.opens;
      acks = acks;
      refused = f.holds.refused;
      split = f.holds.split;
      since = since_on acks (line ∷ []) (line ∷ []) (MayGain (base_of s) (event_of line)) refl (λ m before. refl) run
          (λ m image since before may. doubt_front (by m acks) image (here m since) may)
          (λ m image since left may. doubt_front (by m acks) image (here m (let up = clock_rises u v (MayGain (base_of s) (event_of line)) run in omega (arith, since, up))) may);
      now = λ image left. doubt_front lines image refl (left_now (MayGain (base_of s) (event_of line)) image run left);
      room = f.holds.room;
      ends = λ some. elim ends [ inl none ↦ absurd (let no = ap length none in omega (arith, some, no)) | inr end ↦ end ];
    }

-- nothing stopped what went on
pub none_stops : (front last : List Handled) → All GoesOn (verdicts_of (front ++ last)) → All (λ h. GoesOn h.verdict → ⊥) last → last ≡ []
none_stops front [] going stops = refl
none_stops [] (h ∷ last) going stops = absurd (All-head (λ (h : Handled). GoesOn h.verdict → ⊥) h last stops (All-head GoesOn h.verdict (verdicts_of last) going))
none_stops (f ∷ front) (h ∷ last) going stops = none_stops front (h ∷ last) (All-tail GoesOn f.verdict (verdicts_of (front ++ h ∷ last)) going) stops

-- why lines were refused goes on
module _ (t u v : Told) (told told' : Option Told) (s s' : State) (done : List Handled) (event : Content) (verdict : LineVerdict) (f : Follows done [] s t u) (is_u : told ≡ Some u) (is_v : told' ≡ Some v) (step : PutsOne event verdict told told' s s') where
  ends_on : IsAtEnd f.holds.base f.holds.txn (length f.holds.acks) ⊎ IsSpentLog u default_limits.max_file → IsAtEnd f.holds.base f.holds.txn (length f.holds.acks) ⊎ IsSpentLog v default_limits.max_file
  ends_on (inl end) = inl end
  ends_on (inr spent) =
      let same : Some v ≡ Some u = sym is_v ∙ (step.spent u is_u spent).1 ∙ is_u in
      inr (subst (λ (x : Told). IsSpentLog x default_limits.max_file) (sym (some_same v u same)) spent)

  still_ends : (f.holds.refused ≡ []) ⊎ (IsAtEnd f.holds.base f.holds.txn (length f.holds.acks) ⊎ IsSpentLog v default_limits.max_file)
  still_ends = elim (some_refused f.holds.refused) [ inl none ↦ inl none | inr some ↦ inr (ends_on (f.holds.ends some)) ]

  refused_ends : verdict ≡ Refused → IsAtEnd f.holds.base f.holds.txn (length f.holds.acks) ⊎ IsSpentLog v default_limits.max_file
  refused_ends is = elim still_ends [
    | inl none ↦ elim (step.refused is) [
      | inl full ↦ inl (at_end_full t u v s done [] f none full)
      | inr log ↦ inr (log v is_v)
    ]
    | inr ends ↦ ends
  ]

-- a line handled after others adds its verdict after theirs
pub verdicts-push : (done : List Handled) (line : List ℕ) (verdict : LineVerdict) → verdicts_of (and_then done line verdict) ≡ verdicts_of done ++ verdict ∷ []
verdicts-push done line verdict = map-append (λ (h : Handled). h.verdict) done (record { line = line; verdict = verdict } ∷ [])

module _ (before told told' : Option Told) (s s' : State) (done : List Handled) (line : List ℕ) (going : All GoesOn (verdicts_of done)) (st : Stands before told done s) where
  none : st.last ≡ []
  none = none_stops st.first st.last (let P : List Handled → Type 0 = λ d. All GoesOn (verdicts_of d) in subst P st.split going) st.stops

  first_done : st.first ≡ done
  first_done = sym (st.split ∙ ap (λ (l : List Handled). st.first ++ l) none ∙ append-nil st.first)

  so_far : Tells before told (Follows done [] s)
  so_far = subst (λ (d : List Handled). Tells before told (Follows d [] s)) first_done (st.goes_on none)

  goes_more : (verdict : LineVerdict) → GoesOn verdict → Tells before told' (Follows (and_then done line verdict) [] s') → Stands before told' (and_then done line verdict) s'
  goes_more verdict goes more = record {
    first = and_then done line verdict;
    last = [];
    split = sym (append-nil (and_then done line verdict));
    going = let P : List LineVerdict → Type 0 = λ vs. All GoesOn vs in subst P (sym (verdicts-push done line verdict)) (All-push GoesOn (verdicts_of done) verdict going goes);
    one = omega arith;
    stops = All-nil (λ (h : Handled). GoesOn h.verdict → ⊥);
    holds = tells_more before told' (Follows (and_then done line verdict) [] s') (Holds (and_then done line verdict) []) (λ t u _ _ f. f.holds) more;
    goes_on = λ _. more;
  }

  some_last : {A : Type 0} {h : Handled} → h ∷ [] ≡ [] → A
  some_last is = absurd (let no = ap length is in omega (arith, no))

  stops_here : (verdict : LineVerdict) → (GoesOn verdict → ⊥) → Tells before told' (Holds done (doubted (record { line = line; verdict = verdict } ∷ []))) → Stands before told' (and_then done line verdict) s'
  stops_here verdict stops holds = record {
    first = done;
    last = record { line = line; verdict = verdict } ∷ [];
    split = refl;
    going = going;
    one = omega arith;
    stops = All-push (λ (h : Handled). GoesOn h.verdict → ⊥) [] _ (All-nil (λ (h : Handled). GoesOn h.verdict → ⊥)) stops;
    holds = holds;
    goes_on = λ is. some_last is;
  }

  -- whatever the verdict, the store stands for the lines with this one more
  pub stands_more : (verdict : LineVerdict) → PutsOne (event_of line) verdict told told' s s' → Rests told' s' → Stands before told' (and_then done line verdict) s'
  stands_more Accepted step rests = goes_more Accepted tt (follows before told told' (Follows done [] s) (λ u v. LeavesOnly u v (MayGain (base_of s) (event_of line))) (Follows (and_then done line Accepted) [] s')
      (λ t u v is_t is_u is_v f run. one_accepted t u v s done line f s' step.state.0 step.state.1 step.state.2 run (λ image left. let r = rests step.state.0.whole v is_v image left in (r.0, r.2)) (step.fits refl) (λ at. (step.spent u is_u at).0 refl)) so_far step.images)
  stands_more Refused step rests = goes_more Refused tt (follows before told told' (Follows done [] s) (λ u v. LeavesOnly u v (Keeps (base_of s))) (Follows (and_then done line Refused) [] s')
      (λ t u v is_t is_u is_v f run. one_refused t u v s done line f run s' step.state.1 step.state.2 (refused_ends t u v told told' s s' done (event_of line) Refused f is_u is_v step refl)) so_far step.images)
  stands_more InDoubt step rests = stops_here InDoubt (λ goes. goes) (follows before told told' (Follows done [] s) (λ u v. LeavesOnly u v (MayGain (base_of s) (event_of line))) (Holds done (line ∷ []))
      (λ t u v is_t is_u is_v f run. one_in_doubt t u v s done line f run (still_ends t u v told told' s s' done (event_of line) InDoubt f is_u is_v step)) so_far step.images)
  stands_more NoMemory step rests = stops_here NoMemory (λ goes. goes) (follows before told told' (Follows done [] s) (λ u v. LeavesOnly u v (Keeps (base_of s))) (Holds done [])
      (λ t u v is_t is_u is_v f run. none_added t u v s done line f run (still_ends t u v told told' s s' done (event_of line) NoMemory f is_u is_v step)) so_far step.images)

-- the bytes of a line's event
pub line_size : (line : List ℕ) → length line < 1048568 → size (event_of line) ≤ 1048576
line_size line short = let is = size-sum (event_of line) in omega (arith, is, short)
