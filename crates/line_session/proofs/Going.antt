-- Parts of a session, one after another.
use Rattle.std.proofs.Common.{◌≡◌, ◌∙◌, ℕ, ◌+◌, ◌<◌, ◌≤◌, ◌^◌, Bool, List, [], ◌∷◌, ◌++◌, length, take, flat_map, All, Option, inl, inr, refl, sym, ap, subst, arith, append_assoc, append-nil}
use Rattle.std.specs.Io.KnownBytes.{Appends, Consumes, Keeps}
use Rattle.std.proofs.KnownBytes.{Appends-nil, Appends-trans, Appends-kept}
use Rattle.std.proofs.lemmas.List.{map-append, take_all}
use Rattle.std.proofs.lemmas.List.Concat.{flat_map-append}
use Rattle.std.proofs.lemmas.List.Elements.{All-append, All-nil}
use Rattle.flume_host.specs.Causes.{Rose}
use Rattle.netcat_source.specs.Lines.{IsLine, LinesEnd, Rest, TooLong, joined, ended}
use Rattle.netcat_source.specs.Replies.{reply, replies, end_reply}
use Rattle.netcat_source.specs.declared.lines.LineVerdict.{LineVerdict}
use Rattle.line_session.specs.declared.session.SessionEnd.{SessionEnd}
use Rattle.line_session.specs.declared.session.SessionEnd.TheVariants.{End, TooLongLine, Full, Line, NoMemory, ReadFault, WriteFault}
use Rattle.line_session.specs.Handled.{Handled, GoesOn, TakesAll, lines_of, verdicts_of}
use Rattle.line_session.specs.Sessions.{AllAnswered, EndsAt, EndsBy, Ends, FailsAtLong, FailsInReply, HasCauseOf, LastStops, Served}
use Rattle.line_session.specs.Parts.{Breaks, EndsByLine, EndsByRead, Goes, ReadEnds, Sides, sides}

lines-append : (xs ys : List Handled) → lines_of (xs ++ ys) ≡ lines_of xs ++ lines_of ys
lines-append xs ys = map-append (λ (h : Handled). h.line) xs ys

verdicts-append : (xs ys : List Handled) → verdicts_of (xs ++ ys) ≡ verdicts_of xs ++ verdicts_of ys
verdicts-append xs ys = map-append (λ (h : Handled). h.verdict) xs ys

replied-append : (ack : Bool) (xs ys : List Handled) → flat_map (reply ack) (verdicts_of (xs ++ ys)) ≡ flat_map (reply ack) (verdicts_of xs) ++ flat_map (reply ack) (verdicts_of ys)
replied-append ack xs ys = ap (λ (v : List LineVerdict). flat_map (reply ack) v) (verdicts-append xs ys) ∙ flat_map-append (reply ack) (verdicts_of xs) (verdicts_of ys)

replies-append : (ack : Bool) (vs ws : List LineVerdict) (e : LinesEnd) → replies ack (vs ++ ws) e ≡ flat_map (reply ack) vs ++ replies ack ws e
replies-append ack vs ws e = ap (λ (l : List ℕ). l ++ end_reply e) (flat_map-append (reply ack) vs ws) ∙ append_assoc (flat_map (reply ack) vs) (flat_map (reply ack) ws) (end_reply e)

-- what was there to be cut, in two parts
cuts-append : (held bytes mid bytes' left : List ℕ) (xs ys : List Handled) → held ++ bytes ≡ joined (lines_of xs) ++ mid → mid ++ bytes' ≡ joined (lines_of ys) ++ left → held ++ (bytes ++ bytes') ≡ joined (lines_of (xs ++ ys)) ++ left
cuts-append held bytes mid bytes' left xs ys first second =
    sym (append_assoc held bytes bytes')
    ∙ ap (λ (l : List ℕ). l ++ bytes') first
    ∙ append_assoc (joined (lines_of xs)) mid bytes'
    ∙ ap (λ (l : List ℕ). joined (lines_of xs) ++ l) second
    ∙ sym (append_assoc (joined (lines_of xs)) (joined (lines_of ys)) left)
    ∙ ap (λ (l : List ℕ). l ++ left) (sym (ap joined (lines-append xs ys) ∙ flat_map-append ended (lines_of xs) (lines_of ys)))

-- how the end of a session follows lines that were answered
module _ (ack : Bool) (stops : LineVerdict → Bool) (max : ℕ) (vs ws : List LineVerdict) (rest sent : List ℕ) (going : All (GoesOn stops) vs) where
  answered_then : (e : LinesEnd) → AllAnswered ack stops ws e sent → AllAnswered ack stops (vs ++ ws) e (flat_map (reply ack) vs ++ sent)
  answered_then e p = record {
    going = All-append (GoesOn stops) vs ws going p.going;
    whole = ap (λ (l : List ℕ). flat_map (reply ack) vs ++ l) p.whole ∙ sym (replies-append ack vs ws e);
  }

  front_then : (xs : List LineVerdict) (part : List ℕ) → sent ≡ flat_map (reply ack) xs ++ part → flat_map (reply ack) vs ++ sent ≡ flat_map (reply ack) (vs ++ xs) ++ part
  front_then xs part front =
      ap (λ (l : List ℕ). flat_map (reply ack) vs ++ l) front
      ∙ sym (append_assoc (flat_map (reply ack) vs) (flat_map (reply ack) xs) part)
      ∙ ap (λ (l : List ℕ). l ++ part) (sym (flat_map-append (reply ack) vs xs))

  split_then : (first : List LineVerdict) (last : LineVerdict) → ws ≡ first ++ last ∷ [] → vs ++ ws ≡ (vs ++ first) ++ last ∷ []
  split_then first last split = ap (λ (l : List LineVerdict). vs ++ l) split ∙ sym (append_assoc vs first (last ∷ []))

  reply_then : FailsInReply ack stops ws sent → FailsInReply ack stops (vs ++ ws) (flat_map (reply ack) vs ++ sent)
  reply_then p = record {
    first = vs ++ p.first;
    last = p.last;
    split = split_then p.first p.last p.split;
    going = All-append (GoesOn stops) vs p.first going p.going;
    count = p.count;
    front = front_then p.first (take p.count (reply ack p.last)) p.front;
  }

  long_then : FailsAtLong ack stops max ws rest sent → FailsAtLong ack stops max (vs ++ ws) rest (flat_map (reply ack) vs ++ sent)
  long_then p = record {
    going = All-append (GoesOn stops) vs ws going p.going;
    long = p.long;
    count = p.count;
    front = front_then ws (take p.count (end_reply TooLong)) p.front;
  }

  stops_then : (last : LineVerdict) → LastStops ack stops last ws sent → LastStops ack stops last (vs ++ ws) (flat_map (reply ack) vs ++ sent)
  stops_then last p = record {
    first = vs ++ p.first;
    split = split_then p.first last p.split;
    going = All-append (GoesOn stops) vs p.first going p.going;
    stopped = p.stopped;
    whole = ap (λ (l : List ℕ). flat_map (reply ack) vs ++ l) p.whole ∙ sym (replies-append ack vs ws Rest);
  }

  ends_then : (end : SessionEnd) → (end ≡ NoMemory → ⊥) → EndsBy ack stops max end ws rest sent → EndsBy ack stops max end (vs ++ ws) rest (flat_map (reply ack) vs ++ sent)
  ends_then End not p = (answered_then Rest p.0, p.1)
  ends_then TooLongLine not p = (answered_then TooLong p.0, p.1)
  ends_then Full not p = (answered_then Rest p.0, p.1)
  ends_then (Line last) not p = stops_then last p
  ends_then NoMemory not p = absurd (not refl)
  ends_then ReadFault not p = (answered_then Rest p.0, p.1)
  ends_then WriteFault not (inl p) = inl (answered_then Rest p.0, p.1)
  ends_then WriteFault not (inr (inl p)) = inr (inl (reply_then p))
  ends_then WriteFault not (inr (inr p)) = inr (inr (long_then p))

-- a session that was ended by a read or a line had begun
pub begun_so : (end : SessionEnd) → EndsByRead end → end ≡ NoMemory → ⊥
begun_so end by is = let P : SessionEnd → Type 0 = λ e. EndsByRead e in subst P is by

module _ (max : ℕ) (ack : Bool) (stops : LineVerdict → Bool) {S : Type 0} (Takes : S → List ℕ → LineVerdict → S → Type 0) where
  takes_then : (a b c : S) (xs ys : List Handled) → TakesAll Takes a xs b → TakesAll Takes b ys c → TakesAll Takes a (xs ++ ys) c
  takes_then a b c [] ys first second = let P : S → Type 0 = λ s. TakesAll Takes s ys c in subst P first second
  takes_then a b c (x ∷ xs) ys (next, one, others) second = (next, one, takes_then next b c xs ys others second)

  each_then : (xs ys : List Handled) → All (IsLine max) (lines_of xs) → All (IsLine max) (lines_of ys) → All (IsLine max) (lines_of (xs ++ ys))
  each_then xs ys p q = let P : List (List ℕ) → Type 0 = λ l. All (IsLine max) l in subst P (sym (lines-append xs ys)) (All-append (IsLine max) (lines_of xs) (lines_of ys) p q)

  -- one part of a session, and then another
  pub goes_then : {a b c : Sides S} {held bytes mid bytes' left : List ℕ} → Goes max ack stops Takes a b held bytes mid → Goes max ack stops Takes b c mid bytes' left → Goes max ack stops Takes a c held (bytes ++ bytes') left
  goes_then {a} {b} {c} {held} {bytes} {mid} {bytes'} {left} p q = record {
    done = p.done ++ q.done;
    takes = takes_then a.store b.store c.store p.done q.done p.takes q.takes;
    each = each_then p.done q.done p.each q.each;
    going = let P : List LineVerdict → Type 0 = λ l. All (GoesOn stops) l in subst P (sym (verdicts-append p.done q.done)) (All-append (GoesOn stops) (verdicts_of p.done) (verdicts_of q.done) p.going q.going);
    cut = cuts-append held bytes mid bytes' left p.done q.done p.cut q.cut;
    wrote =
        let P : List ℕ → Type 0 = λ l. Appends a.took c.took l in
        subst P (sym (replied-append ack p.done q.done)) (Appends-trans a.took b.took c.took (flat_map (reply ack) (verdicts_of p.done)) (flat_map (reply ack) (verdicts_of q.done)) p.wrote q.wrote);
  }

  -- a part of a session, and then its end
  pub breaks_then : {a b c : Sides S} {held bytes mid bytes' : List ℕ} {end : SessionEnd} → (end ≡ NoMemory → ⊥) → Goes max ack stops Takes a b held bytes mid → Breaks max ack stops Takes b c mid bytes' end → Breaks max ack stops Takes a c held (bytes ++ bytes') end
  breaks_then {a} {b} {c} {held} {bytes} {mid} {bytes'} {end} not p q = record {
    done = p.done ++ q.done;
    takes = takes_then a.store b.store c.store p.done q.done p.takes q.takes;
    each = each_then p.done q.done p.each q.each;
    rest = q.rest;
    sent = flat_map (reply ack) (verdicts_of p.done) ++ q.sent;
    cut = cuts-append held bytes mid bytes' q.rest p.done q.done p.cut q.cut;
    wrote = Appends-trans a.took b.took c.took (flat_map (reply ack) (verdicts_of p.done)) q.sent p.wrote q.wrote;
    ends =
        let P : List LineVerdict → Type 0 = λ l. EndsBy ack stops max end l q.rest (flat_map (reply ack) (verdicts_of p.done) ++ q.sent) in
        subst P (sym (verdicts-append p.done q.done)) (ends_then ack stops max (verdicts_of p.done) (verdicts_of q.done) q.rest q.sent p.going end not q.ends);
  }

  -- all lines were answered, and none is begun that is too long
  pub answered : {a c : Sides S} {held bytes left : List ℕ} → (p : Goes max ack stops Takes a c held bytes left) → AllAnswered ack stops (verdicts_of p.done) Rest (flat_map (reply ack) (verdicts_of p.done))
  answered p = record { going = p.going; whole = sym (append-nil (flat_map (reply ack) (verdicts_of p.done))) }

  -- between two lines a session may end
  pub ends_between : {a c : Sides S} {held bytes left : List ℕ} → (p : Goes max ack stops Takes a c held bytes left) → (end : SessionEnd) → EndsBy ack stops max end (verdicts_of p.done) left (flat_map (reply ack) (verdicts_of p.done)) → Breaks max ack stops Takes a c held bytes end
  ends_between {left = left} p end ends = record {
    done = p.done;
    takes = p.takes;
    each = p.each;
    rest = left;
    sent = flat_map (reply ack) (verdicts_of p.done);
    cut = p.cut;
    wrote = p.wrote;
    ends = ends;
  }

  -- the front of a piece went well, and what is after it ended the session
  pub breaks_behind : {a b c : Sides S} {held bytes mid bytes' : List ℕ} {end : SessionEnd} → (end ≡ NoMemory → ⊥) → (all : List ℕ) → bytes ++ bytes' ≡ all → Goes max ack stops Takes a b held bytes mid → Breaks max ack stops Takes b c mid bytes' end → Breaks max ack stops Takes a c held all end
  breaks_behind {a} {c = c} {held = held} {end = end} not all whole p q = let P : List ℕ → Type 0 = λ l. Breaks max ack stops Takes a c held l end in subst P whole (breaks_then not p q)

  -- the front of a piece went well, and so did what is after it
  pub goes_behind : {a b c : Sides S} {held bytes mid bytes' left : List ℕ} → (all : List ℕ) → bytes ++ bytes' ≡ all → Goes max ack stops Takes a b held bytes mid → Goes max ack stops Takes b c mid bytes' left → Goes max ack stops Takes a c held all left
  goes_behind {a} {c = c} {held = held} {left = left} all whole p q = let P : List ℕ → Type 0 = λ l. Goes max ack stops Takes a c held l left in subst P whole (goes_then p q)

  -- a flush writes nothing
  pub flush_goes : (store : S) (x y : Option (List ℕ)) (held : List ℕ) → Appends x y [] → Goes max ack stops Takes (sides store x) (sides store y) held [] held
  flush_goes store x y held wrote = record { done = []; takes = refl; each = All-nil (IsLine max); going = All-nil (GoesOn stops); cut = append-nil held; wrote = wrote }

  -- a session that began between lines, and cut all that was read
  pub served_by : {a c : Ends S} {bytes : List ℕ} {end : SessionEnd} → Breaks max ack stops Takes (sides a.store a.took) (sides c.store c.took) [] bytes end → Consumes a.left c.left bytes → EndsAt end (length bytes) c.left → Served max ack stops Takes a c end
  served_by {a} {c} {bytes} {end} p read at = record {
    done = p.done;
    takes = p.takes;
    each = p.each;
    rest = p.rest;
    read = let P : List ℕ → Type 0 = λ l. Consumes a.left c.left l in subst P p.cut read;
    sent = p.sent;
    wrote = p.wrote;
    ends = p.ends;
    at = let P : List ℕ → Type 0 = λ l. EndsAt end (length l) c.left in subst P p.cut at;
  }

-- by how many bytes were read before the last read
pub ends_at : (end : SessionEnd) (n m : ℕ) (bytes : List ℕ) (left : Option (List ℕ)) → EndsByRead end → ReadEnds end bytes left → length bytes ≤ m → n < 2 ^ 40 → n + m ≤ 2 ^ 40 → EndsAt end (n + length bytes) left
ends_at End n m bytes left by (none, ended) room few most = (omega (arith, ap (λ (l : List ℕ). length l) none, few), ended)
ends_at TooLongLine n m bytes left by at room few most = omega (arith, room, most)
ends_at Full n m bytes left by at room few most = absurd by
ends_at (Line last) n m bytes left by at room few most = omega (arith, room, most)
ends_at NoMemory n m bytes left by at room few most = absurd by
ends_at ReadFault n m bytes left by none room few most = omega (arith, ap (λ (l : List ℕ). length l) none, few)
ends_at WriteFault n m bytes left by at room few most = omega (arith, room, most)

-- where what was written could not be handed on at the end
module _ (max : ℕ) (ack : Bool) (stops : LineVerdict → Bool) where
  flush_ends : (end : SessionEnd) (verdicts : List LineVerdict) (rest sent : List ℕ) → IsLine max [] → EndsBy ack stops max end verdicts rest sent → EndsBy ack stops max WriteFault verdicts rest sent
  flush_ends End verdicts rest sent none ends = inl ends
  flush_ends TooLongLine verdicts rest sent none (all, long) =
      inr (inr (record {
        going = all.going;
        long = long;
        count = length (end_reply TooLong);
        front = all.whole ∙ ap (λ (l : List ℕ). flat_map (reply ack) verdicts ++ l) (sym (take_all (length (end_reply TooLong)) (end_reply TooLong) (omega arith)));
      }))
  flush_ends Full verdicts rest sent none ends = inl ends
  flush_ends (Line last) verdicts rest sent none p =
      inr (inl (record {
        first = p.first;
        last = last;
        split = p.split;
        going = p.going;
        count = length (reply ack last);
        front =
            p.whole
            ∙ append-nil (flat_map (reply ack) verdicts)
            ∙ ap (λ (l : List LineVerdict). flat_map (reply ack) l) p.split
            ∙ flat_map-append (reply ack) p.first (last ∷ [])
            ∙ ap (λ (l : List ℕ). flat_map (reply ack) p.first ++ l) (append-nil (reply ack last) ∙ sym (take_all (length (reply ack last)) (reply ack last) (omega arith)));
      }))
  flush_ends NoMemory verdicts rest sent none (is, left, wrote) =
      let all : EndsBy ack stops max WriteFault [] [] [] = inl (record { going = All-nil (GoesOn stops); whole = refl }, none) in
      subst (λ (x : List LineVerdict × List ℕ × List ℕ). EndsBy ack stops max WriteFault x.0 x.1 x.2) (λ k. (sym is k, sym left k, sym wrote k)) all
  flush_ends ReadFault verdicts rest sent none ends = inl ends
  flush_ends WriteFault verdicts rest sent none ends = ends

  flush_at : (end : SessionEnd) (size : ℕ) (left : Option (List ℕ)) → EndsAt end size left → size ≤ 2 ^ 40
  flush_at End size left at = omega (arith, at.0)
  flush_at TooLongLine size left at = at
  flush_at Full size left at = omega (arith, at)
  flush_at (Line last) size left at = at
  flush_at NoMemory size left at = omega (arith, at)
  flush_at ReadFault size left at = omega (arith, at)
  flush_at WriteFault size left at = at

  module _ {S : Type 0} (Takes : S → List ℕ → LineVerdict → S → Type 0) where
    -- the session ended so, and what was written was handed on
    pub flushed : (a : Ends S) (left : Option (List ℕ)) (store : S) (x y : Option (List ℕ)) (end : SessionEnd) → Served max ack stops Takes a (record { left = left; store = store; took = x }) end → Appends x y [] → Served max ack stops Takes a (record { left = left; store = store; took = y }) end
    flushed a left store x y end p none = record {
      done = p.done;
      takes = p.takes;
      each = p.each;
      rest = p.rest;
      read = p.read;
      sent = p.sent;
      wrote = let P : List ℕ → Type 0 = λ l. Appends a.took y l in subst P (append-nil p.sent) (Appends-trans a.took x y p.sent [] p.wrote none);
      ends = p.ends;
      at = p.at;
    }

    -- the session ended so, and what was written was not handed on
    pub not_flushed : (a : Ends S) (left : Option (List ℕ)) (store : S) (x y : Option (List ℕ)) (end : SessionEnd) → IsLine max [] → Served max ack stops Takes a (record { left = left; store = store; took = x }) end → Appends x y [] → Served max ack stops Takes a (record { left = left; store = store; took = y }) WriteFault
    not_flushed a left store x y end none p kept = record {
      done = p.done;
      takes = p.takes;
      each = p.each;
      rest = p.rest;
      read = p.read;
      sent = p.sent;
      wrote = let P : List ℕ → Type 0 = λ l. Appends a.took y l in subst P (append-nil p.sent) (Appends-trans a.took x y p.sent [] p.wrote kept);
      ends = flush_ends end (verdicts_of p.done) p.rest p.sent none p.ends;
      at = flush_at end _ left p.at;
    }

    -- there was no memory for a session to begin
    pub none_served : (a : Ends S) → Consumes a.left a.left [] → Appends a.took a.took [] → Served max ack stops Takes a a NoMemory
    none_served a read wrote = record {
      done = [];
      takes = refl;
      each = All-nil (IsLine max);
      rest = [];
      read = read;
      sent = [];
      wrote = wrote;
      ends = (refl, refl, refl);
      at = refl;
    }

-- what keeps known bytes appends none
pub kept_none : (x y : Option (List ℕ)) → Keeps x y → Appends x y []
kept_none x y keeps = Appends-kept x x y [] (Appends-nil x) keeps

-- of what was read and left nothing is asked where a line ended the session
pub line_ends : (end : SessionEnd) (bytes : List ℕ) (left : Option (List ℕ)) → EndsByLine end → ReadEnds end bytes left
line_ends End bytes left by = absurd by
line_ends TooLongLine bytes left by = tt
line_ends Full bytes left by = absurd by
line_ends (Line last) bytes left by = tt
line_ends NoMemory bytes left by = absurd by
line_ends ReadFault bytes left by = absurd by
line_ends WriteFault bytes left by = tt

-- the sink failed once more at the end
pub cause_broke : (end : SessionEnd) (r s w x y : ℕ) → HasCauseOf end r s w x → x ≤ y → Rose x y → HasCauseOf WriteFault r s w y
cause_broke End r s w x y is later rose = (omega (arith, is.0), (omega (arith, is.1, later), omega (arith, is.1, rose)))
cause_broke TooLongLine r s w x y is later rose = (omega (arith, is.0), (omega (arith, is.1, later), omega (arith, is.1, rose)))
cause_broke Full r s w x y is later rose = (omega (arith, is.0), (omega (arith, is.1, later), omega (arith, is.1, rose)))
cause_broke (Line last) r s w x y is later rose = (omega (arith, is.0), (omega (arith, is.1, later), omega (arith, is.1, rose)))
cause_broke NoMemory r s w x y is later rose = (omega (arith, is.0), (omega (arith, is.1, later), omega (arith, is.1, rose)))
cause_broke ReadFault r s w x y is later rose = (is.0.0, (omega (arith, is.1, later), omega (arith, is.1, rose)))
cause_broke WriteFault r s w x y is later rose = (is.0, (omega (arith, is.1.0, later), omega (arith, is.1.0, rose)))

-- what was written was handed on at the end
pub cause_same : (end : SessionEnd) (r s w x y : ℕ) → HasCauseOf end r s w x → y ≡ x → HasCauseOf end r s w y
cause_same end r s w x y is same = subst (λ (n : ℕ). HasCauseOf end r s w n) (sym same) is

-- a session that was ended by a line had begun
pub line_begun : (end : SessionEnd) → EndsByLine end → end ≡ NoMemory → ⊥
line_begun end by is = subst (λ (e : SessionEnd). EndsByLine e) is by
