-- How a session that was served ended, and what that says of its lines.
use Rattle.std.proofs.Common.{◌≡◌, inl, inr, ◌≤◌, ◌<◌, ◌+◌, ◌^◌, ℕ, List, [], ◌∷◌, ◌++◌, length, take, flat_map, All, Option, Bool, true, false, true≢false, refl, sym, ◌∙◌, ap, subst, arith, append-nil, length-append}
use Rattle.std.specs.Prelude.{◌||◌}
use Rattle.std.specs.Io.KnownBytes.{Appends, IsAtEnd}
use Rattle.std.proofs.lemmas.List.{length-map, take_all}
use Rattle.std.proofs.lemmas.List.Concat.{flat_map-append}
use Rattle.std.proofs.lemmas.List.Elements.{All-cons, All-nil, All-head, All-tail}
use Rattle.std.proofs.Math.Seq.{take-append-add}
use Rattle.flume_host.specs.Causes.{Rose}
use Rattle.netcat_source.specs.Lines.{IsEnd, LinesEnd, Rest, TooLong, ended, joined}
use Rattle.netcat_source.specs.Replies.{end_reply, replies, reply}
use Rattle.netcat_source.specs.declared.lines.LineVerdict.{LineVerdict}
use Rattle.netcat_source.specs.declared.lines.LineVerdict.TheVariants as said
use Rattle.line_session.specs.Handled.{Handled, lines_of, verdicts_of, GoesOn as Continues}
use Rattle.line_session.specs.Sessions.{AllAnswered, Ends, EndsAt, EndsBy, Served as ServedLines}
use Rattle.line_session.specs.declared.session.SessionEnd.{SessionEnd}
use Rattle.line_session.specs.declared.session.SessionEnd.TheVariants.{End, TooLongLine, Full, Line, NoMemory, ReadFault, WriteFault}
use Rattle.agent_commands.specs.Handled.{GoesOn, ends_run, has_doubt, is_in_doubt}
use Rattle.agent_commands.specs.Session.{Served, Stopped}
use Rattle.agent_commands.proofs.Walking.{FirstGo}

goes : (v : LineVerdict) → ends_run v ≡ false → GoesOn v
goes said.Accepted is = tt
goes said.Refused is = tt
goes said.InDoubt is = absurd (true≢false is)
goes said.NoMemory is = absurd (true≢false is)

-- lines that did not end the run are lines after which it goes on
pub all_go : (vs : List LineVerdict) → All (Continues ends_run) vs → All GoesOn vs
all_go [] all = All-nil GoesOn
all_go (v ∷ vs) all = All-cons GoesOn v vs (goes v (All-head (Continues ends_run) v vs all)) (all_go vs (All-tail (Continues ends_run) v vs all))

-- no line is in doubt after which the session went on
pub none_in_doubt : (vs : List LineVerdict) → All GoesOn vs → has_doubt vs ≡ false
none_in_doubt [] all = refl
none_in_doubt (v ∷ vs) all = ap (λ (b : Bool). b || has_doubt vs) (certain v (All-head GoesOn v vs all)) ∙ none_in_doubt vs (All-tail GoesOn v vs all)
  where
    certain : (v : LineVerdict) → GoesOn v → is_in_doubt v ≡ false
    certain said.Accepted g = refl
    certain said.Refused g = refl
    certain said.InDoubt g = absurd g
    certain said.NoMemory g = refl

or_last : (b c : Bool) → b ≡ false → b || (c || false) ≡ c
or_last true c is = absurd (true≢false is)
or_last false true is = refl
or_last false false is = refl

-- of lines and further lines one is in doubt if one is in either part
pub doubt-append : (vs ws : List LineVerdict) → has_doubt (vs ++ ws) ≡ has_doubt vs || has_doubt ws
doubt-append [] ws = refl
doubt-append (v ∷ vs) ws = ap (λ (b : Bool). is_in_doubt v || b) (doubt-append vs ws) ∙ sym (or_assoc (is_in_doubt v) (has_doubt vs) (has_doubt ws))
  where
    or_assoc : (a b c : Bool) → (a || b) || c ≡ a || (b || c)
    or_assoc true b c = refl
    or_assoc false b c = refl

-- the last line decides
pub last_in_doubt : (vs first : List LineVerdict) (last : LineVerdict) → vs ≡ first ++ last ∷ [] → All GoesOn first → has_doubt vs ≡ is_in_doubt last
last_in_doubt vs first last is all = ap has_doubt is ∙ doubt-append first (last ∷ []) ∙ or_last (has_doubt first) (is_in_doubt last) (none_in_doubt first all)

-- all lines but the last let the session go on

first_all : (done : List Handled) → All GoesOn (verdicts_of done) → FirstGo done
first_all [] all = tt
first_all (x ∷ []) all = tt
first_all (x ∷ y ∷ done) all = (All-head GoesOn x.verdict (verdicts_of (y ∷ done)) all, first_all (y ∷ done) (All-tail GoesOn x.verdict (verdicts_of (y ∷ done)) all))

abbrev head_or : LineVerdict → List LineVerdict → LineVerdict
head_or v [] = v
head_or v (w ∷ l) = w

abbrev tail_of : List LineVerdict → List LineVerdict
tail_of [] = []
tail_of (w ∷ l) = l

first_last : (done : List Handled) (first : List LineVerdict) (last : LineVerdict) → verdicts_of done ≡ first ++ last ∷ [] → All GoesOn first → FirstGo done
first_last [] first last is all = tt
first_last (x ∷ []) first last is all = tt
first_last (x ∷ y ∷ done) [] last is all = absurd (let n = ap length is in omega (arith, n))
first_last (x ∷ y ∷ done) (v ∷ first) last is all =
    (subst GoesOn (sym (ap (λ (l : List LineVerdict). head_or v l) is)) (All-head GoesOn v first all), first_last (y ∷ done) first last (ap tail_of is) (All-tail GoesOn v first all))

-- however a session ended, all lines but the last let it go on
pub first_go : (end : SessionEnd) (max : ℕ) (done : List Handled) (rest sent : List ℕ) → EndsBy true ends_run max end (verdicts_of done) rest sent → FirstGo done
first_go End max done rest sent e = first_all done (all_go (verdicts_of done) e.0.going)
first_go TooLongLine max done rest sent e = first_all done (all_go (verdicts_of done) e.0.going)
first_go Full max done rest sent e = first_all done (all_go (verdicts_of done) e.0.going)
first_go (Line last) max done rest sent e = first_last done e.first last e.split (all_go e.first e.going)
first_go NoMemory max done rest sent e = first_all done (subst (λ (l : List LineVerdict). All GoesOn l) (sym e.0) (All-nil GoesOn))
first_go ReadFault max done rest sent e = first_all done (all_go (verdicts_of done) e.0.going)
first_go WriteFault max done rest sent (inl all) = first_all done (all_go (verdicts_of done) all.0.going)
first_go WriteFault max done rest sent (inr (inl fails)) = first_last done fails.first fails.last fails.split (all_go fails.first fails.going)
first_go WriteFault max done rest sent (inr (inr long)) = first_all done (all_go (verdicts_of done) long.going)

-- each line has at least its newline
length-joined : (lines : List (List ℕ)) → length lines ≤ length (joined lines)
length-joined [] = omega arith
length-joined (line ∷ lines) = omega (arith, length-joined lines, length-append (ended line) (joined lines), length-append line (10 ∷ []))

size_of : (end : SessionEnd) (size : ℕ) (left : Option (List ℕ)) → EndsAt end size left → size ≤ 2 ^ 40
size_of End size left at = let n = at.0 in omega (arith, n)
size_of TooLongLine size left at = at
size_of Full size left at = omega (arith, at)
size_of (Line last) size left at = at
size_of NoMemory size left at = omega (arith, at)
size_of ReadFault size left at = omega (arith, at)
size_of WriteFault size left at = at

-- each line has its newline in what was read
pub lines_few : (end : SessionEnd) (done : List Handled) (rest : List ℕ) (left : Option (List ℕ)) → EndsAt end (length (joined (lines_of done) ++ rest)) left → length done ≤ 2 ^ 40
lines_few end done rest left at =
    let n = size_of end (length (joined (lines_of done) ++ rest)) left at in
    let m : length (lines_of done) ≡ length done = length-map done (λ (h : Handled). h.line) in
    omega (arith, n, m, length-append (joined (lines_of done)) rest, length-joined (lines_of done))

module _ {T : Type 0} (Takes : T → List ℕ → LineVerdict → T → Type 0) (old new : Ends T) (end : SessionEnd) (s : ServedLines 512 true ends_run Takes old new end) (Stands : List Handled → Type 0) (here : Stands s.done) where
  abbrev bytes : List ℕ
  bytes = joined (lines_of s.done) ++ s.rest

  -- every line was answered, and so was the end
  whole : (Size : ℕ → Type 0) (last : LinesEnd) → AllAnswered true ends_run (verdicts_of s.done) last s.sent → IsEnd 512 last s.rest → Size (length bytes) → Served 512 Size last old.left new.left old.took new.took Stands
  whole Size last all is size = record {
    bytes = bytes;
    read = s.read;
    size = size;
    done = s.done;
    cut = record { rest = s.rest; whole = refl; each = s.each; ends = is };
    going = all_go (verdicts_of s.done) all.going;
    wrote = subst (λ (l : List ℕ). Appends old.took new.took l) all.whole s.wrote;
    stands = here;
  }

  -- a session that came to the end of the input had handled and answered all of it
  pub served_end : end ≡ End → IsAtEnd new.left × Served 512 (λ size. size < 2 ^ 40) Rest old.left new.left old.took new.took Stands
  served_end is =
      let e = subst (λ (x : SessionEnd). EndsBy true ends_run 512 x (verdicts_of s.done) s.rest s.sent) is s.ends in
      let at = subst (λ (x : SessionEnd). EndsAt x (length bytes) new.left) is s.at in
      (at.1, whole (λ size. size < 2 ^ 40) Rest e.0 e.1 at.0)

  -- a session that was full had handled and answered as many bytes as it may read
  pub served_full : end ≡ Full → Served 512 (λ size. size ≡ 2 ^ 40) Rest old.left new.left old.took new.took Stands
  served_full is =
      let e = subst (λ (x : SessionEnd). EndsBy true ends_run 512 x (verdicts_of s.done) s.rest s.sent) is s.ends in
      let at = subst (λ (x : SessionEnd). EndsAt x (length bytes) new.left) is s.at in
      whole (λ size. size ≡ 2 ^ 40) Rest e.0 e.1 at

  -- a session that met a line too long had handled and answered all before it
  pub served_long : end ≡ TooLongLine → Served 512 (λ size. size ≤ 2 ^ 40) TooLong old.left new.left old.took new.took Stands
  served_long is =
      let e = subst (λ (x : SessionEnd). EndsBy true ends_run 512 x (verdicts_of s.done) s.rest s.sent) is s.ends in
      let at = subst (λ (x : SessionEnd). EndsAt x (length bytes) new.left) is s.at in
      whole (λ size. size ≤ 2 ^ 40) TooLong e.0 e.1 at

  module _ (before now : ℕ) where
    -- the replies were all written
    answered : s.sent ≡ replies true (verdicts_of s.done) Rest → Stopped 512 old.left new.left old.took new.took before now Stands
    answered all = record {
      bytes = bytes;
      read = s.read;
      done = s.done;
      rest = s.rest;
      first = refl;
      each = s.each;
      end = Rest;
      ends = λ is. absurd cc;
      sent = length (replies true (verdicts_of s.done) Rest);
      wrote = subst (λ (l : List ℕ). Appends old.took new.took l) (all ∙ sym (take_all (length (replies true (verdicts_of s.done) Rest)) (replies true (verdicts_of s.done) Rest) (omega arith))) s.wrote;
      whole = inl (omega arith);
      stands = here;
    }

    -- or a front of them, as the output failed
    part : Rose before now → (last : LinesEnd) (text more : List ℕ) (n : ℕ) → s.sent ≡ text ++ take n more → (last ≡ TooLong → IsEnd 512 TooLong s.rest × All GoesOn (verdicts_of s.done)) → take (length text + n) (replies true (verdicts_of s.done) last) ≡ text ++ take n more → Stopped 512 old.left new.left old.took new.took before now Stands
    part rose last text more n is ends same = record {
      bytes = bytes;
      read = s.read;
      done = s.done;
      rest = s.rest;
      first = refl;
      each = s.each;
      end = last;
      ends = ends;
      sent = length text + n;
      wrote = subst (λ (l : List ℕ). Appends old.took new.took l) (is ∙ sym same) s.wrote;
      whole = inr rose;
      stands = here;
    }

    replied : (vs first : List LineVerdict) (last : LineVerdict) → vs ≡ first ++ last ∷ [] → replies true vs Rest ≡ flat_map (reply true) first ++ reply true last
    replied vs first last is =
        append-nil (flat_map (reply true) vs) ∙ ap (λ (l : List LineVerdict). flat_map (reply true) l) is ∙ flat_map-append (reply true) first (last ∷ [])
        ∙ ap (λ (l : List ℕ). flat_map (reply true) first ++ l) (append-nil (reply true last))

    -- a fault or out of memory ended it
    stopped_by : (x : SessionEnd) → EndsBy true ends_run 512 x (verdicts_of s.done) s.rest s.sent → (x ≡ WriteFault → Rose before now) → ((x ≡ End → ⊥) × (x ≡ TooLongLine → ⊥) × (x ≡ Full → ⊥)) → Stopped 512 old.left new.left old.took new.took before now Stands
    stopped_by End e rose not = absurd (not.0 refl)
    stopped_by TooLongLine e rose not = absurd (not.1 refl)
    stopped_by Full e rose not = absurd (not.2 refl)
    stopped_by (Line last) e rose not = answered e.whole
    stopped_by NoMemory e rose not = answered (e.2 ∙ ap (λ (l : List LineVerdict). replies true l Rest) (sym e.0))
    stopped_by ReadFault e rose not = answered e.0.whole
    stopped_by WriteFault (inl e) rose not = answered e.0.whole
    stopped_by WriteFault (inr (inl e)) rose not =
        part (rose refl) Rest (flat_map (reply true) e.first) (reply true e.last) e.count e.front (λ is. absurd cc)
        (ap (λ (l : List ℕ). take (length (flat_map (reply true) e.first) + e.count) l) (replied (verdicts_of s.done) e.first e.last e.split) ∙ take-append-add (flat_map (reply true) e.first) (reply true e.last) e.count)
    stopped_by WriteFault (inr (inr e)) rose not =
        part (rose refl) TooLong (flat_map (reply true) (verdicts_of s.done)) (end_reply TooLong) e.count e.front (λ is. (e.long, all_go (verdicts_of s.done) e.going))
        (take-append-add (flat_map (reply true) (verdicts_of s.done)) (end_reply TooLong) e.count)

    -- a session that was cut short had handled the first lines and written a front of their replies
    pub stopped : (end ≡ WriteFault → Rose before now) → (end ≡ End → ⊥) → (end ≡ TooLongLine → ⊥) → (end ≡ Full → ⊥) → Stopped 512 old.left new.left old.took new.took before now Stands
    stopped rose a b c = stopped_by end s.ends rose (a, b, c)
