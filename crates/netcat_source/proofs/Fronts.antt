-- What the front of a piece does to a session.
use Rattle.std.proofs.Common.{◌≡◌, ◌∙◌, ℕ, Bool, List, [], ◌∷◌, ◌++◌, length, take, drop, flat_map, All, Option, inl, inr, refl, sym, ap, subst, arith, append_assoc, append-nil, length-append, take-append-drop}
use Rattle.std.proofs.lemmas.List.{take_at}
use Rattle.std.proofs.lemmas.List.Elements.{All-nil, All-cons}
use Rattle.flume_host.specs.Told.{Tells}
use Rattle.flume_host.specs.Links.{LinkTold, Talks, TalksTo}
use Rattle.flume_host.proofs.Talking.{talks_none}
use Rattle.source_put.specs.declared.intake.Verdict.{Verdict}
use Rattle.netcat_source.specs.Lines.{IsLine, IsTooLong, IsUnbroken, TooLong, joined}
use Rattle.netcat_source.specs.Replies.{reply, end_reply}
use Rattle.netcat_source.specs.declared.lines.LineVerdict.{LineVerdict}
use Rattle.netcat_source.specs.declared.session.SessionEnd.{SessionEnd}
use Rattle.netcat_source.specs.declared.session.SessionEnd.TheVariants.{End, Stopped, TooLongLine, LinkFault, Turns, NoMemory}
use Rattle.netcat_source.specs.Judged.{said_of, GoesOn}
use Rattle.netcat_source.specs.Into.{Sides}
use Rattle.netcat_source.specs.Parts.{Goes, Breaks, AnswerEnds, Answers, LongEnds, TakesOne}

module _ (max : ℕ) (ack : Bool) {S : Type 0} (Takes : S → List ℕ → Verdict → S → Type 0) where
  -- nothing was done
  pub goes_none : (a : Sides S) (held : List ℕ) → Goes max ack Takes a a held [] held [] 0
  goes_none a held = record { done = []; takes = refl; each = All-nil (IsLine max); going = All-nil GoesOn; cut = append-nil held; talk = talks_none a.told }

  -- what was read ends within a line
  pub more_goes : (a : Sides S) (held bytes left : List ℕ) → held ++ bytes ≡ left → Goes max ack Takes a a held bytes left [] 0
  more_goes a held bytes left cut = record { done = []; takes = refl; each = All-nil (IsLine max); going = All-nil GoesOn; cut = cut; talk = talks_none a.told }

  -- a read changed no line
  pub read_goes : (into : S) (x y : Option LinkTold) (held given : List ℕ) (n : ℕ) → Tells x y (Talks given [] n) → Goes max ack Takes (record { into = into; told = x }) (record { into = into; told = y }) held [] held given n
  read_goes into x y held given n talk = record { done = []; takes = refl; each = All-nil (IsLine max); going = All-nil GoesOn; cut = append-nil held; talk = talk }

  -- a read found the end of the link, after a part of a line
  pub found_breaks : (into : S) (x y : Option LinkTold) (held : List ℕ) → IsLine max held → Tells x y (TalksTo 1 [] [] 0) → Breaks max ack Takes (record { into = into; told = x }) (record { into = into; told = y }) held [] [] 0 End
  found_breaks into x y held is talk = record {
    done = [];
    takes = refl;
    each = All-nil (IsLine max);
    rest = held;
    sent = [];
    cut = append-nil held;
    talk = talk;
    ends = (record { going = All-nil GoesOn; whole = refl }, is);
    leaves = tt;
  }

  module _ (a b : Sides S) (held bytes line : List ℕ) (cut : held ++ bytes ≡ line ++ 10 ∷ []) (is : IsLine max line) where
    each : All (IsLine max) (line ∷ [])
    each = All-cons (IsLine max) line [] is (All-nil (IsLine max))

    one_line : held ++ bytes ≡ joined (line ∷ []) ++ []
    one_line = cut ∙ sym (append-nil (joined (line ∷ [])) ∙ append-nil (line ++ 10 ∷ []))

    behind : (rest : List ℕ) → held ++ (bytes ++ rest) ≡ joined (line ∷ []) ++ rest
    behind rest = sym (append_assoc held bytes rest) ∙ ap (λ (l : List ℕ). l ++ rest) (cut ∙ sym (append-nil (line ++ 10 ∷ [])))

    -- a line was taken and answered
    pub line_goes : TakesOne Takes a.into line b.into (λ said. Answers ack said a.told b.told) → Goes max ack Takes a b held bytes [] [] 0
    line_goes (verdict, step, said) = record {
      done = record { line = line; verdict = verdict } ∷ [];
      takes = (b.into, step, refl);
      each = each;
      going = All-cons GoesOn (said_of verdict) [] said.0 (All-nil GoesOn);
      cut = one_line;
      talk = let P : List ℕ → Type 0 = λ l. Tells a.told b.told (Talks [] l 0) in subst P (sym (append-nil (reply ack (said_of verdict)))) said.1;
    }

    -- a line was taken, and its answer ended the session
    line_breaks_at : (rest : List ℕ) (verdict : Verdict) (end : SessionEnd) → Takes a.into line verdict b.into → AnswerEnds ack (said_of verdict) a.told b.told end → Breaks max ack Takes a b held (bytes ++ rest) [] 0 end
    line_breaks_at rest verdict End step ends = absurd ends
    line_breaks_at rest verdict Stopped step ends = absurd ends
    line_breaks_at rest verdict TooLongLine step ends = absurd ends
    line_breaks_at rest verdict LinkFault step ends = record {
      done = record { line = line; verdict = verdict } ∷ [];
      takes = (b.into, step, refl);
      each = each;
      rest = rest;
      sent = take ends.count (reply ack (said_of verdict));
      cut = behind rest;
      talk = ends.talk;
      ends = inr (inl (record { first = []; last = said_of verdict; split = refl; going = All-nil GoesOn; part = record { count = ends.count; short = ends.short; front = refl } }));
      leaves = ends.failed;
    }
    line_breaks_at rest verdict Turns step ends = absurd ends
    line_breaks_at rest verdict NoMemory step (none, wrote) = record {
      done = record { line = line; verdict = verdict } ∷ [];
      takes = (b.into, step, refl);
      each = each;
      rest = rest;
      sent = reply ack (said_of verdict);
      cut = behind rest;
      talk = wrote;
      ends = (record { first = []; split = ap (λ (v : LineVerdict). v ∷ []) none; going = All-nil GoesOn }, sym (append-nil (flat_map (reply ack) (said_of verdict ∷ [])) ∙ append-nil (reply ack (said_of verdict))));
      leaves = tt;
    }

    -- the same, whatever stands after the line
    pub line_breaks : (rest all : List ℕ) → bytes ++ rest ≡ all → (end : SessionEnd) → TakesOne Takes a.into line b.into (λ said. AnswerEnds ack said a.told b.told end) → Breaks max ack Takes a b held all [] 0 end
    line_breaks rest all whole end (verdict, step, ends) = let P : List ℕ → Type 0 = λ l. Breaks max ack Takes a b held l [] 0 end in subst P whole (line_breaks_at rest verdict end step ends)

  -- the line is too long
  module _ (into : S) (x y : Option LinkTold) (held rest held' : List ℕ) (n : ℕ) (cut : held ++ take n rest ≡ held') (long : length held' ≡ max) (unbroken : IsUnbroken held') where
    all_behind : held ++ rest ≡ held' ++ drop n rest
    all_behind = ap (λ (l : List ℕ). held ++ l) (sym (take-append-drop n rest)) ∙ sym (append_assoc held (take n rest) (drop n rest)) ∙ ap (λ (l : List ℕ). l ++ drop n rest) cut

    is_long : IsTooLong max (held' ++ drop n rest)
    is_long = record {
      long = omega (arith, length-append held' (drop n rest), long);
      unbroken = subst (λ l. IsUnbroken l) (sym (take_at held' (drop n rest) max long)) unbroken;
    }

    -- it was answered, or its reply failed
    pub long_breaks : (end : SessionEnd) → LongEnds x y end → Breaks max ack Takes (record { into = into; told = x }) (record { into = into; told = y }) held rest [] 0 end
    long_breaks End ends = absurd ends
    long_breaks Stopped ends = absurd ends
    long_breaks TooLongLine wrote = record {
      done = [];
      takes = refl;
      each = All-nil (IsLine max);
      rest = held' ++ drop n rest;
      sent = end_reply TooLong;
      cut = all_behind;
      talk = wrote;
      ends = (record { going = All-nil GoesOn; whole = refl }, is_long);
      leaves = tt;
    }
    long_breaks LinkFault ends = record {
      done = [];
      takes = refl;
      each = All-nil (IsLine max);
      rest = held' ++ drop n rest;
      sent = take ends.count (end_reply TooLong);
      cut = all_behind;
      talk = ends.talk;
      ends = inr (inr (record { going = All-nil GoesOn; long = is_long; part = record { count = ends.count; short = ends.short; front = refl } }));
      leaves = ends.failed;
    }
    long_breaks Turns ends = absurd ends
    long_breaks NoMemory ends = absurd ends
