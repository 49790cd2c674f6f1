-- Parts of a session, one after another.
use Rattle.std.proofs.Common.{◌≡◌, ◌∙◌, ℕ, ◌+◌, ◌<◌, Bool, List, [], ◌∷◌, ◌++◌, take, flat_map, All, Option, inl, inr, refl, sym, ap, subst, arith, append_assoc, append-nil}
use Rattle.std.proofs.lemmas.List.{map-append}
use Rattle.std.proofs.lemmas.List.Concat.{flat_map-append}
use Rattle.std.proofs.lemmas.List.Elements.{All-append}
use Rattle.flume_host.specs.Told.{Tells}
use Rattle.flume_host.specs.Links.{LinkTold, Talks, TalksTo, most_turns}
use Rattle.flume_host.proofs.Talking.{failed_behind, talks_then, talks_to}
use Rattle.source_put.specs.declared.intake.Verdict.{Verdict}
use Rattle.netcat_source.specs.Lines.{IsLine, LinesEnd, Rest, TooLong, joined, ended}
use Rattle.netcat_source.specs.Replies.{reply, replies, end_reply}
use Rattle.netcat_source.specs.declared.lines.LineVerdict.{LineVerdict}
use Rattle.netcat_source.specs.declared.lines.LineVerdict.TheVariants as says
use Rattle.netcat_source.specs.declared.session.SessionEnd.{SessionEnd}
use Rattle.netcat_source.specs.declared.session.SessionEnd.TheVariants.{End, Stopped, TooLongLine, LinkFault, Turns, NoMemory}
use Rattle.netcat_source.specs.Judged.{Judged, lines_of, verdicts_of, said_of, GoesOn}
use Rattle.netcat_source.specs.Into.{Sides, TakesAll}
use Rattle.netcat_source.specs.Sessions.{Served, EndsBy, EndsAfter, LeavesLink, AllAnswered, SentPart, FailsInReply, FailsAtLong, LacksMemory, finds}
use Rattle.netcat_source.specs.Parts.{Goes, Breaks, IsTurnsOf}

lines-append : (xs ys : List Judged) → lines_of (xs ++ ys) ≡ lines_of xs ++ lines_of ys
lines-append xs ys = map-append (λ (j : Judged). j.line) xs ys

verdicts-append : (xs ys : List Judged) → verdicts_of (xs ++ ys) ≡ verdicts_of xs ++ verdicts_of ys
verdicts-append xs ys = map-append (λ (j : Judged). said_of j.verdict) xs ys

replied-append : (ack : Bool) (xs ys : List Judged) → flat_map (reply ack) (verdicts_of (xs ++ ys)) ≡ flat_map (reply ack) (verdicts_of xs) ++ flat_map (reply ack) (verdicts_of ys)
replied-append ack xs ys = ap (λ (v : List LineVerdict). flat_map (reply ack) v) (verdicts-append xs ys) ∙ flat_map-append (reply ack) (verdicts_of xs) (verdicts_of ys)

replies-append : (ack : Bool) (vs ws : List LineVerdict) (e : LinesEnd) → replies ack (vs ++ ws) e ≡ flat_map (reply ack) vs ++ replies ack ws e
replies-append ack vs ws e = ap (λ (l : List ℕ). l ++ end_reply e) (flat_map-append (reply ack) vs ws) ∙ append_assoc (flat_map (reply ack) vs) (flat_map (reply ack) ws) (end_reply e)

-- what was there to be cut, in two parts
cuts-append : (held bytes mid bytes' left : List ℕ) (xs ys : List Judged) → held ++ bytes ≡ joined (lines_of xs) ++ mid → mid ++ bytes' ≡ joined (lines_of ys) ++ left → held ++ (bytes ++ bytes') ≡ joined (lines_of (xs ++ ys)) ++ left
cuts-append held bytes mid bytes' left xs ys first second =
    sym (append_assoc held bytes bytes')
    ∙ ap (λ (l : List ℕ). l ++ bytes') first
    ∙ append_assoc (joined (lines_of xs)) mid bytes'
    ∙ ap (λ (l : List ℕ). joined (lines_of xs) ++ l) second
    ∙ sym (append_assoc (joined (lines_of xs)) (joined (lines_of ys)) left)
    ∙ ap (λ (l : List ℕ). l ++ left) (sym (ap joined (lines-append xs ys) ∙ flat_map-append ended (lines_of xs) (lines_of ys)))

-- how the end of a session follows lines that were answered
module _ (max : ℕ) (ack : Bool) (vs ws : List LineVerdict) (rest sent : List ℕ) (going : All GoesOn vs) where
  answered_then : (e : LinesEnd) → AllAnswered ack ws e sent → AllAnswered ack (vs ++ ws) e (flat_map (reply ack) vs ++ sent)
  answered_then e p = record {
    going = All-append GoesOn vs ws going p.going;
    whole = ap (λ (l : List ℕ). flat_map (reply ack) vs ++ l) p.whole ∙ sym (replies-append ack vs ws e);
  }

  part_then : (xs : List LineVerdict) (r : List ℕ) → SentPart (flat_map (reply ack) xs) r sent → SentPart (flat_map (reply ack) (vs ++ xs)) r (flat_map (reply ack) vs ++ sent)
  part_then xs r p = record {
    count = p.count;
    short = p.short;
    front = ap (λ (l : List ℕ). flat_map (reply ack) vs ++ l) p.front
        ∙ sym (append_assoc (flat_map (reply ack) vs) (flat_map (reply ack) xs) (take p.count r))
        ∙ ap (λ (l : List ℕ). l ++ take p.count r) (sym (flat_map-append (reply ack) vs xs));
  }

  reply_then : FailsInReply ack ws sent → FailsInReply ack (vs ++ ws) (flat_map (reply ack) vs ++ sent)
  reply_then p = record {
    first = vs ++ p.first;
    last = p.last;
    split = ap (λ (l : List LineVerdict). vs ++ l) p.split ∙ sym (append_assoc vs p.first (p.last ∷ []));
    going = All-append GoesOn vs p.first going p.going;
    part = part_then p.first (reply ack p.last) p.part;
  }

  long_then : FailsAtLong max ack ws rest sent → FailsAtLong max ack (vs ++ ws) rest (flat_map (reply ack) vs ++ sent)
  long_then p = record { going = All-append GoesOn vs ws going p.going; long = p.long; part = part_then ws (end_reply TooLong) p.part }

  lacks_then : LacksMemory ws → LacksMemory (vs ++ ws)
  lacks_then p = record {
    first = vs ++ p.first;
    split = ap (λ (l : List LineVerdict). vs ++ l) p.split ∙ sym (append_assoc vs p.first (says.NoMemory ∷ []));
    going = All-append GoesOn vs p.first going p.going;
  }

  ends_then : (end : SessionEnd) → EndsBy max ack end ws rest sent → EndsBy max ack end (vs ++ ws) rest (flat_map (reply ack) vs ++ sent)
  ends_then End p = (answered_then Rest p.0, p.1)
  ends_then Stopped p = answered_then Rest p
  ends_then TooLongLine p = (answered_then TooLong p.0, p.1)
  ends_then LinkFault (inl p) = inl (answered_then Rest p.0, p.1)
  ends_then LinkFault (inr (inl p)) = inr (inl (reply_then p))
  ends_then LinkFault (inr (inr p)) = inr (inr (long_then p))
  ends_then Turns p = (answered_then Rest p.0, p.1)
  ends_then NoMemory p = (lacks_then p.0, ap (λ (l : List ℕ). flat_map (reply ack) vs ++ l) p.1 ∙ sym (replies-append ack vs ws Rest))

-- what a link shows at the end, it shows also from before
leaves_then : (x y z : Option LinkTold) (given taken : List ℕ) (n : ℕ) (end : SessionEnd) → Tells x y (Talks given taken n) → LeavesLink end y z → LeavesLink end x z
leaves_then x y z given taken n End first found = tt
leaves_then x y z given taken n LinkFault first failed = failed_behind x y z given taken n first failed
leaves_then x y z given taken n Stopped first found = tt
leaves_then x y z given taken n TooLongLine first found = tt
leaves_then x y z given taken n Turns first found = tt
leaves_then x y z given taken n NoMemory first found = tt

-- what a session ends with between two lines
abbrev pub EndsBetween : SessionEnd → Type 0
EndsBetween End = ⊥
EndsBetween Stopped = Unit {0}
EndsBetween TooLongLine = ⊥
EndsBetween LinkFault = Unit {0}
EndsBetween Turns = Unit {0}
EndsBetween NoMemory = ⊥

module _ (max : ℕ) (ack : Bool) {S : Type 0} (Takes : S → List ℕ → Verdict → S → Type 0) where
  takes_then : (a b c : S) (xs ys : List Judged) → TakesAll Takes a xs b → TakesAll Takes b ys c → TakesAll Takes a (xs ++ ys) c
  takes_then a b c [] ys first second = let P : S → Type 0 = λ s. TakesAll Takes s ys c in subst P first second
  takes_then a b c (x ∷ xs) ys (next, one, others) second = (next, one, takes_then next b c xs ys others second)

  each_then : (xs ys : List Judged) → All (IsLine max) (lines_of xs) → All (IsLine max) (lines_of ys) → All (IsLine max) (lines_of (xs ++ ys))
  each_then xs ys p q = let P : List (List ℕ) → Type 0 = λ l. All (IsLine max) l in subst P (sym (lines-append xs ys)) (All-append (IsLine max) (lines_of xs) (lines_of ys) p q)

  -- one part of a session, and then another
  pub goes_then : {a b c : Sides S} {held bytes mid bytes' left given given' : List ℕ} {n m : ℕ} → Goes max ack Takes a b held bytes mid given n → Goes max ack Takes b c mid bytes' left given' m → Goes max ack Takes a c held (bytes ++ bytes') left (given ++ given') (n + m)
  goes_then {a} {b} {c} {held} {bytes} {mid} {bytes'} {left} {given} {given'} {n} {m} p q = record {
    done = p.done ++ q.done;
    takes = takes_then a.into b.into c.into p.done q.done p.takes q.takes;
    each = each_then p.done q.done p.each q.each;
    going = let P : List LineVerdict → Type 0 = λ l. All GoesOn l in subst P (sym (verdicts-append p.done q.done)) (All-append GoesOn (verdicts_of p.done) (verdicts_of q.done) p.going q.going);
    cut = cuts-append held bytes mid bytes' left p.done q.done p.cut q.cut;
    talk =
        let P : List ℕ → Type 0 = λ l. Tells a.told c.told (Talks (given ++ given') l (n + m)) in
        subst P (sym (replied-append ack p.done q.done)) (talks_then a.told b.told c.told given (flat_map (reply ack) (verdicts_of p.done)) given' (flat_map (reply ack) (verdicts_of q.done)) n m p.talk q.talk);
  }

  -- a part of a session, and then its end
  pub breaks_then : {a b c : Sides S} {held bytes mid bytes' given given' : List ℕ} {n m : ℕ} {end : SessionEnd} → Goes max ack Takes a b held bytes mid given n → Breaks max ack Takes b c mid bytes' given' m end → Breaks max ack Takes a c held (bytes ++ bytes') (given ++ given') (n + m) end
  breaks_then {a} {b} {c} {held} {bytes} {mid} {bytes'} {given} {given'} {n} {m} {end} p q = record {
    done = p.done ++ q.done;
    takes = takes_then a.into b.into c.into p.done q.done p.takes q.takes;
    each = each_then p.done q.done p.each q.each;
    rest = q.rest;
    sent = flat_map (reply ack) (verdicts_of p.done) ++ q.sent;
    cut = cuts-append held bytes mid bytes' q.rest p.done q.done p.cut q.cut;
    talk = talks_to (finds end) a.told b.told c.told given (flat_map (reply ack) (verdicts_of p.done)) given' q.sent n m p.talk q.talk;
    ends =
        let P : List LineVerdict → Type 0 = λ l. EndsBy max ack end l q.rest (flat_map (reply ack) (verdicts_of p.done) ++ q.sent) in
        subst P (sym (verdicts-append p.done q.done)) (ends_then max ack (verdicts_of p.done) (verdicts_of q.done) q.rest q.sent p.going end q.ends);
    leaves = leaves_then a.told b.told c.told given (flat_map (reply ack) (verdicts_of p.done)) n end p.talk q.leaves;
  }

  -- a session that began between lines, and cut all that the link gave
  pub served_by : {a c : Sides S} {given : List ℕ} {n : ℕ} {end : SessionEnd} → Breaks max ack Takes a c [] given given n end → EndsAfter end n → Served max ack Takes a c end
  served_by {a} {c} {given} {n} {end} p after = record {
    done = p.done;
    takes = p.takes;
    each = p.each;
    rest = p.rest;
    sent = p.sent;
    turns = n;
    talk = let P : List ℕ → Type 0 = λ l. Tells a.told c.told (TalksTo (finds end) l p.sent n) in subst P p.cut p.talk;
    ends = p.ends;
    leaves = p.leaves;
    after = after;
  }

  -- between two lines a session may end
  pub ends_between : {a c : Sides S} {held bytes left given : List ℕ} {n : ℕ} → Goes max ack Takes a c held bytes left given n → IsLine max left → (end : SessionEnd) → EndsBetween end → LeavesLink end a.told c.told → Breaks max ack Takes a c held bytes given n end
  ends_between {a} {c} {left = left} {given} {n} p is end between leaves = record {
    done = p.done;
    takes = p.takes;
    each = p.each;
    rest = left;
    sent = flat_map (reply ack) (verdicts_of p.done);
    cut = p.cut;
    talk = talk_by end between;
    ends = by_end end between;
    leaves = leaves;
  }
    where
      all : AllAnswered ack (verdicts_of p.done) Rest (flat_map (reply ack) (verdicts_of p.done))
      all = record { going = p.going; whole = sym (append-nil (flat_map (reply ack) (verdicts_of p.done))) }

      by_end : (end : SessionEnd) → EndsBetween end → EndsBy max ack end (verdicts_of p.done) left (flat_map (reply ack) (verdicts_of p.done))
      by_end End b = absurd b
      by_end Stopped b = all
      by_end TooLongLine b = absurd b
      by_end LinkFault b = inl (all, is)
      by_end Turns b = (all, is)
      by_end NoMemory b = absurd b

      talk_by : (end : SessionEnd) → EndsBetween end → Tells a.told c.told (TalksTo (finds end) given (flat_map (reply ack) (verdicts_of p.done)) n)
      talk_by End b = absurd b
      talk_by Stopped b = p.talk
      talk_by TooLongLine b = absurd b
      talk_by LinkFault b = p.talk
      talk_by Turns b = p.talk
      talk_by NoMemory b = absurd b

  -- a session that was told to stop leaves the rest of what was read
  pub stops_amid : {a c : Sides S} {held bytes left given : List ℕ} {n : ℕ} → Goes max ack Takes a c held bytes left given n → (rest all : List ℕ) → bytes ++ rest ≡ all → Breaks max ack Takes a c held all given n Stopped
  stops_amid {held = held} {bytes = bytes} {left = left} p rest all whole = record {
    done = p.done;
    takes = p.takes;
    each = p.each;
    rest = left ++ rest;
    sent = flat_map (reply ack) (verdicts_of p.done);
    cut = ap (λ (l : List ℕ). held ++ l) (sym whole) ∙ sym (append_assoc held bytes rest) ∙ ap (λ (l : List ℕ). l ++ rest) p.cut ∙ append_assoc (joined (lines_of p.done)) left rest;
    talk = p.talk;
    ends = record { going = p.going; whole = sym (append-nil (flat_map (reply ack) (verdicts_of p.done))) };
    leaves = tt;
  }

  -- the front of a piece went well, and what is after it ended the session
  pub breaks_behind : {a b c : Sides S} {held bytes mid bytes' : List ℕ} {end : SessionEnd} → (all : List ℕ) → bytes ++ bytes' ≡ all → Goes max ack Takes a b held bytes mid [] 0 → Breaks max ack Takes b c mid bytes' [] 0 end → Breaks max ack Takes a c held all [] 0 end
  breaks_behind {a} {c = c} {held = held} {end = end} all whole p q = let P : List ℕ → Type 0 = λ l. Breaks max ack Takes a c held l [] 0 end in subst P whole (breaks_then p q)

  -- the front of a piece went well, and so did what is after it
  pub goes_behind : {a b c : Sides S} {held bytes mid bytes' left : List ℕ} → (all : List ℕ) → bytes ++ bytes' ≡ all → Goes max ack Takes a b held bytes mid [] 0 → Goes max ack Takes b c mid bytes' left [] 0 → Goes max ack Takes a c held all left [] 0
  goes_behind {a} {c = c} {held = held} {left = left} all whole p q = let P : List ℕ → Type 0 = λ l. Goes max ack Takes a c held l left [] 0 in subst P whole (goes_then p q)

  -- a read gave a piece, and it was served
  pub turn_goes : {a b c : Sides S} {held left : List ℕ} (piece : List ℕ) → Goes max ack Takes a b held [] held piece 1 → Goes max ack Takes b c held piece left [] 0 → Goes max ack Takes a c held piece left piece 1
  turn_goes {a} {c = c} {held = held} {left = left} piece p q = let P : List ℕ → Type 0 = λ l. Goes max ack Takes a c held piece left l 1 in subst P (append-nil piece) (goes_then p q)

  -- a read gave a piece, which ended the session
  pub turn_breaks : {a b c : Sides S} {held : List ℕ} {end : SessionEnd} (piece : List ℕ) → Goes max ack Takes a b held [] held piece 1 → Breaks max ack Takes b c held piece [] 0 end → Breaks max ack Takes a c held piece piece 1 end
  turn_breaks {a} {c = c} {held = held} {end = end} piece p q = let P : List ℕ → Type 0 = λ l. Breaks max ack Takes a c held piece l 1 end in subst P (append-nil piece) (breaks_then p q)

-- a read that gave bytes is one turn
pub one_turn : (end : SessionEnd) → (end ≡ Turns → ⊥) → (end ≡ End → ⊥) → IsTurnsOf end 1
one_turn End of other = absurd (other refl)
one_turn Stopped of other = omega arith
one_turn TooLongLine of other = omega arith
one_turn LinkFault of other = omega arith
one_turn Turns of other = absurd (of refl)
one_turn NoMemory of other = omega arith

-- after some turns one more ended the session
pub after_turn : (end : SessionEnd) (n m : ℕ) → (end ≡ Turns → ⊥) → IsTurnsOf end m → n < most_turns → EndsAfter end (n + m)
after_turn End n m of one few = omega (arith, one, few)
after_turn Stopped n m of one few = omega (arith, one, few)
after_turn TooLongLine n m of one few = omega (arith, one, few)
after_turn LinkFault n m of one few = omega (arith, one, few)
after_turn Turns n m of one few = absurd (of refl)
after_turn NoMemory n m of one few = omega (arith, one, few)
