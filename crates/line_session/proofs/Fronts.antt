-- What the front of a piece does to a session.
use Rattle.std.proofs.Common.{◌≡◌, ◌∙◌, ℕ, Bool, List, [], ◌∷◌, ◌++◌, length, take, drop, flat_map, All, Option, inl, inr, refl, sym, ap, subst, arith, append_assoc, append-nil, length-append, take-append-drop}
use Rattle.std.specs.Io.KnownBytes.{Appends}
use Rattle.std.proofs.KnownBytes.{Appends-nil}
use Rattle.std.proofs.lemmas.List.{take_at}
use Rattle.std.proofs.lemmas.List.Elements.{All-nil, All-cons}
use Rattle.netcat_source.specs.Lines.{IsLine, IsTooLong, IsUnbroken, TooLong, joined}
use Rattle.netcat_source.specs.Replies.{reply, end_reply}
use Rattle.netcat_source.specs.declared.lines.LineVerdict.{LineVerdict}
use Rattle.line_session.specs.declared.session.SessionEnd.{SessionEnd}
use Rattle.line_session.specs.declared.session.SessionEnd.TheVariants.{End, TooLongLine, Full, Line, NoMemory, ReadFault, WriteFault}
use Rattle.line_session.specs.Handled.{GoesOn}
use Rattle.line_session.specs.Parts.{AnswerEnds, Breaks, Goes, LongEnds, Sides, TakesOne, sides}
use Rattle.std.specs.Prelude.{false}

module _ (max : ℕ) (ack : Bool) (stops : LineVerdict → Bool) {S : Type 0} (Takes : S → List ℕ → LineVerdict → S → Type 0) where
  -- nothing was done
  pub goes_none : (a : Sides S) (held : List ℕ) → Goes max ack stops Takes a a held [] held
  goes_none a held = record { done = []; takes = refl; each = All-nil (IsLine max); going = All-nil (GoesOn stops); cut = append-nil held; wrote = Appends-nil a.took }

  -- what was read ends within a line
  pub more_goes : (a : Sides S) (held bytes left : List ℕ) → held ++ bytes ≡ left → Goes max ack stops Takes a a held bytes left
  more_goes a held bytes left cut = record { done = []; takes = refl; each = All-nil (IsLine max); going = All-nil (GoesOn stops); cut = cut; wrote = Appends-nil a.took }

  module _ (a b : Sides S) (held bytes line : List ℕ) (cut : held ++ bytes ≡ line ++ 10 ∷ []) (is : IsLine max line) where
    each : All (IsLine max) (line ∷ [])
    each = All-cons (IsLine max) line [] is (All-nil (IsLine max))

    one_line : held ++ bytes ≡ joined (line ∷ []) ++ []
    one_line = cut ∙ sym (append-nil (joined (line ∷ [])) ∙ append-nil (line ++ 10 ∷ []))

    behind : (rest : List ℕ) → held ++ (bytes ++ rest) ≡ joined (line ∷ []) ++ rest
    behind rest = sym (append_assoc held bytes rest) ∙ ap (λ (l : List ℕ). l ++ rest) (cut ∙ sym (append-nil (line ++ 10 ∷ [])))

    -- a line was taken and answered
    pub line_goes : TakesOne Takes a.store line b.store (λ said. (stops said ≡ false) × Appends a.took b.took (reply ack said)) → Goes max ack stops Takes a b held bytes []
    line_goes (verdict, step, said) = record {
      done = record { line = line; verdict = verdict } ∷ [];
      takes = (b.store, step, refl);
      each = each;
      going = All-cons (GoesOn stops) verdict [] said.0 (All-nil (GoesOn stops));
      cut = one_line;
      wrote = let P : List ℕ → Type 0 = λ l. Appends a.took b.took l in subst P (sym (append-nil (reply ack verdict))) said.1;
    }

    -- a line was taken, and its answer ended the session
    line_breaks_at : (rest : List ℕ) (verdict : LineVerdict) (end : SessionEnd) → Takes a.store line verdict b.store → AnswerEnds stops ack verdict a.took b.took end → Breaks max ack stops Takes a b held (bytes ++ rest) end
    line_breaks_at rest verdict End step ends = absurd ends
    line_breaks_at rest verdict TooLongLine step ends = absurd ends
    line_breaks_at rest verdict Full step ends = absurd ends
    line_breaks_at rest verdict (Line last) step (same, stopped, wrote) = record {
      done = record { line = line; verdict = verdict } ∷ [];
      takes = (b.store, step, refl);
      each = each;
      rest = rest;
      sent = reply ack verdict;
      cut = behind rest;
      wrote = wrote;
      ends = record {
        first = [];
        split = ap (λ (v : LineVerdict). v ∷ []) (sym same);
        going = All-nil (GoesOn stops);
        stopped = ap stops same ∙ stopped;
        whole = sym (append-nil (flat_map (reply ack) (verdict ∷ [])) ∙ append-nil (reply ack verdict));
      };
    }
    line_breaks_at rest verdict NoMemory step ends = absurd ends
    line_breaks_at rest verdict ReadFault step ends = absurd ends
    line_breaks_at rest verdict WriteFault step (count, wrote) = record {
      done = record { line = line; verdict = verdict } ∷ [];
      takes = (b.store, step, refl);
      each = each;
      rest = rest;
      sent = take count (reply ack verdict);
      cut = behind rest;
      wrote = wrote;
      ends = inr (inl (record { first = []; last = verdict; split = refl; going = All-nil (GoesOn stops); count = count; front = refl }));
    }

    -- the same, whatever stands after the line
    pub line_breaks : (rest all : List ℕ) → bytes ++ rest ≡ all → (end : SessionEnd) → TakesOne Takes a.store line b.store (λ said. AnswerEnds stops ack said a.took b.took end) → Breaks max ack stops Takes a b held all end
    line_breaks rest all whole end (verdict, step, ends) = let P : List ℕ → Type 0 = λ l. Breaks max ack stops Takes a b held l end in subst P whole (line_breaks_at rest verdict end step ends)

  -- the line is too long
  module _ (store : S) (x y : Option (List ℕ)) (held rest held' : List ℕ) (n : ℕ) (cut : held ++ take n rest ≡ held') (long : length held' ≡ max) (unbroken : IsUnbroken held') where
    all_behind : held ++ rest ≡ held' ++ drop n rest
    all_behind = ap (λ (l : List ℕ). held ++ l) (sym (take-append-drop n rest)) ∙ sym (append_assoc held (take n rest) (drop n rest)) ∙ ap (λ (l : List ℕ). l ++ drop n rest) cut

    is_long : IsTooLong max (held' ++ drop n rest)
    is_long = record {
      long = omega (arith, length-append held' (drop n rest), long);
      unbroken = subst (λ l. IsUnbroken l) (sym (take_at held' (drop n rest) max long)) unbroken;
    }

    -- it was answered, or its reply failed
    pub long_breaks : (end : SessionEnd) → LongEnds x y end → Breaks max ack stops Takes (sides store x) (sides store y) held rest end
    long_breaks End ends = absurd ends
    long_breaks TooLongLine wrote = record {
      done = [];
      takes = refl;
      each = All-nil (IsLine max);
      rest = held' ++ drop n rest;
      sent = end_reply TooLong;
      cut = all_behind;
      wrote = wrote;
      ends = (record { going = All-nil (GoesOn stops); whole = refl }, is_long);
    }
    long_breaks Full ends = absurd ends
    long_breaks (Line last) ends = absurd ends
    long_breaks NoMemory ends = absurd ends
    long_breaks ReadFault ends = absurd ends
    long_breaks WriteFault (count, wrote) = record {
      done = [];
      takes = refl;
      each = All-nil (IsLine max);
      rest = held' ++ drop n rest;
      sent = take count (end_reply TooLong);
      cut = all_behind;
      wrote = wrote;
      ends = inr (inr (record { going = All-nil (GoesOn stops); long = is_long; count = count; front = refl }));
    }
