-- Whatever the pieces of a text, feeding them brings the lines of the whole.
use Rattle.std.proofs.Common.{◌≡◌, ◌∙◌, ℕ, ◌+◌, List, [], ◌∷◌, ◌++◌, length, take, drop, sym, ap, subst, arith, append_assoc, append-nil, length-append, take-append-drop}
use Rattle.std.proofs.lemmas.List.{drop_all, take_at}
use Rattle.std.proofs.lemmas.List.Elements.{All-nil, All-cons}
use Rattle.netcat_source.specs.declared.lines.Cut.{Cut}
use Rattle.netcat_source.specs.Lines.{IsLine, IsUnbroken, IsCut, LinesEnd, TooLong, joined}
use Rattle.netcat_source.specs.Feed.{LineState, begun}
use Rattle.netcat_source.specs.Pieces.{IsFed, Done, GoesOn, Brings, Passes, Stops, FeedingCuts, AnyPieces}
use Rattle.netcat_source.proofs.OneCut.{one_cut}

-- a front of the piece, and the rest of it with all that follows
around : (old piece rest : List ℕ) (n : ℕ) → old ++ (piece ++ rest) ≡ (old ++ take n piece) ++ (drop n piece ++ rest)
around old piece rest n =
    sym (append_assoc old (take n piece) (drop n piece ++ rest) ∙ ap (λ (t : List ℕ). old ++ t) (sym (append_assoc (take n piece) (drop n piece) rest) ∙ ap (λ (t : List ℕ). t ++ rest) (take-append-drop n piece)))

module _ (max : ℕ) (old piece rest : List ℕ) (n : ℕ) (line : List ℕ) (lines : List (List ℕ)) (end : LinesEnd) where
  -- the line went on to the end of the piece
  more_cuts : n ≡ length piece → old ++ piece ≡ line → IsCut max (line ++ (drop n piece ++ rest)) lines end → IsCut max (old ++ (piece ++ rest)) lines end
  more_cuts all is cut =
      let none : drop n piece ≡ [] = drop_all n piece (omega (arith, all)) in
      let same : line ++ (drop n piece ++ rest) ≡ old ++ (piece ++ rest) = ap (λ (t : List ℕ). line ++ (t ++ rest)) none ∙ ap (λ (t : List ℕ). t ++ rest) (sym is) ∙ append_assoc old piece rest in
      subst (λ (t : List ℕ). IsCut max t lines end) same cut

  -- the line was whole
  line_cuts : old ++ take n piece ≡ line ++ 10 ∷ [] → IsLine max line → IsCut max (drop n piece ++ rest) lines end → IsCut max (old ++ (piece ++ rest)) (line ∷ lines) end
  line_cuts is one cut = record {
    rest = cut.rest;
    whole = around old piece rest n ∙ ap (λ (t : List ℕ). t ++ (drop n piece ++ rest)) is ∙ ap (λ (t : List ℕ). (line ++ 10 ∷ []) ++ t) cut.whole ∙ sym (append_assoc (line ++ 10 ∷ []) (joined lines) cut.rest);
    each = All-cons (IsLine max) line lines one cut.each;
    ends = cut.ends;
  }

  -- the line was too long
  long_cuts : old ++ take n piece ≡ line → length line ≡ max → IsUnbroken line → IsCut max (old ++ (piece ++ rest)) [] TooLong
  long_cuts is long unbroken =
      let whole : old ++ (piece ++ rest) ≡ line ++ (drop n piece ++ rest) = around old piece rest n ∙ ap (λ (t : List ℕ). t ++ (drop n piece ++ rest)) is in
      record {
        rest = line ++ (drop n piece ++ rest);
        whole = whole;
        each = All-nil (IsLine max);
        ends = record {
          long = omega (arith, length-append line (drop n piece ++ rest), long);
          unbroken = subst (λ l. IsUnbroken l) (sym (take_at line (drop n piece ++ rest) max long)) unbroken;
        };
      }

fed_cuts : (before : LineState) (text : List ℕ) (lines : List (List ℕ)) (end : LinesEnd) → IsFed before text lines end → IsLine before.max (begun before.at before.line) → IsCut before.max (begun before.at before.line ++ text) lines end
fed_cuts before text lines end (Done now) is = record { rest = begun now.at now.line; whole = append-nil (begun now.at now.line); each = All-nil (IsLine now.max); ends = is }
fed_cuts before text lines end (GoesOn old after piece rest n more last f fed) is =
    let line : begun after.at after.line ≡ after.line = ap (λ (a : Cut). begun a after.line) f.at in
    let holds : IsLine after.max (begun after.at after.line) = rw (line, f.max) f.holds in
    let cut = rw (line, f.max) at (fed_cuts after (drop n piece ++ rest) more last fed holds) in
    more_cuts old.max (begun old.at old.line) piece rest n after.line more last f.takes.0 f.takes.1 cut
fed_cuts before text lines end (Brings old after piece rest n more last f fed) is =
    let none : begun after.at after.line ≡ [] = ap (λ (a : Cut). begun a after.line) f.at in
    let holds : IsLine after.max (begun after.at after.line) = rw (none, f.max) (record { short = omega (arith, f.holds.short); unbroken = All-nil (λ b. b ≡ 10 → ⊥) }) in
    let cut = rw (none, f.max) at (fed_cuts after (drop n piece ++ rest) more last fed holds) in
    line_cuts old.max (begun old.at old.line) piece rest n after.line more last f.takes.2 f.holds cut
fed_cuts before text lines end (Passes now piece rest line more last w fed) is =
    let n : ℕ = length line + 1 in
    let cut = rw w.none at (fed_cuts now (drop n piece ++ rest) more last fed is) in
    rw w.none (line_cuts now.max [] piece rest n line more last w.front w.is cut)
fed_cuts before text lines end (Stops old after piece rest n f) is =
    long_cuts old.max (begun old.at old.line) piece rest n after.line [] TooLong f.takes.1 f.holds.0 f.holds.1

-- from the start of a text
pub feeding_cuts : FeedingCuts
feeding_cuts start text lines end none is fed = rw none at (fed_cuts start text lines end fed (rw none is))

-- as a text is cut in one way
pub any_pieces : AnyPieces
any_pieces start text lines others end other none is fed again = one_cut start.max text lines others end other (feeding_cuts start text lines end none is fed) (feeding_cuts start text others other none is again)
