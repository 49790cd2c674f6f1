-- What transactions take has an earlier number than the next event, after any base.
use Rattle.std.proofs.Common.{◌⊎◌, inl, inr, ◌≡◌, ◌<◌, ◌≤◌, ◌++◌, ◌∷◌, [], ℕ, List, length, length-append, Option, Some, None, Bool, true, false, ◌==◌, cond, refl, sym, ◌∙◌, ap, arith}
use Rattle.std.specs.Prelude.{IsSomeAnd}
use Rattle.std.proofs.lemmas.List.{append-nil}
use Rattle.event_core.specs.Content.{Content}
use Rattle.event_core.specs.Journal.{Base, IsBase, after_journal, is_among, left, put_events, taken_numbers}
use Rattle.event_core.specs.declared.journal.Entry.{Entry}
use Rattle.event_core.specs.declared.journal.Entry.TheVariants.{Puts, Takes}
use Rattle.record_form.specs.declared.record.Rec.{Rec}
use Rattle.record_form.specs.declared.record.Rec.TheVariants.{Put, Take, Rollback, CommitPut, CommitTake, End}
use Rattle.channel_face.proofs.LawLemmas.{TakesEarlier}
use Rattle.channel_face.specs.Sound.{Rising, times}
use Rattle.channel_face.proofs.Numbers.{among_times, base_rising, put_events-append, rising-left, taken_numbers-append}
use Rattle.channel_replay.specs.Marks.{Applied, IsLeft, Past, committed, entries_of, events_of, journal, next_number, numbers_of, opened, opened_by, txn_of}
use Rattle.channel_replay.specs.Recover.{AreSound, IsSound, empty_base, past_line, past_lines}
use Rattle.channel_replay.specs.declared.line.Line.{Line}
use Rattle.channel_replay.specs.declared.line.Line.TheVariants.{Begins, Faulty, Stands}
use Rattle.channel_replay.specs.Rules.{IsLegal, IsPutOf, IsTakeOf}
use Rattle.channel_replay.proofs.Applying.{among_below, not_that}
use Rattle.channel_replay.proofs.Numbers.{or_among}

-- numbers that are left rise, and those that are held or taken are below the next one
pub record IsOrdered (base : Base) (past : Past) : Type 0 where
  pub rising : Rising 0 base.items base.first
  pub held : (t n : ℕ) → next_number base past ≤ n → is_among (numbers_of (opened t past)) n ≡ false
  pub taken : (n : ℕ) → next_number base past ≤ n → is_among (taken_numbers (journal past)) n ≡ false

next_more : (base : Base) (past : Past) (rec : Rec) → next_number base past ≤ next_number base (Applied rec ∷ past)
next_more base past rec = omega (arith, ap (λ (l : List Content). length l) (put_events-append (journal past) (committed rec past)), length-append (put_events (journal past)) (put_events (committed rec past)))

left_below : (base : Base) (past : Past) (number : ℕ) → IsOrdered base past → IsLeft base past number → number < next_number base past
left_below base past number are is =
    let b : IsBase (after_journal base (journal past)) = base_rising (after_journal base (journal past)) (rising-left base (journal past) are.rising) in
    among_below number (next_number base past) (left base (journal past)) b.below is

-- nothing is committed
kept : (base : Base) (past : Past) (rec : Rec) → IsOrdered base past → committed rec past ≡ [] → ((t n : ℕ) → next_number base past ≤ n → is_among (numbers_of (cond (txn_of rec == t) (opened_by rec (opened t past)) (opened t past))) n ≡ false) → IsOrdered base (Applied rec ∷ past)
kept base past rec are none held = record {
  rising = are.rising;
  held = λ t n more. held t n (omega (arith, more, next_more base past rec));
  taken = λ n more. ap (λ (j : List Entry). is_among (taken_numbers (journal past ++ j)) n) none ∙ (ap (λ (j : List Entry). is_among (taken_numbers j) n) (append-nil (journal past)) ∙ are.taken n (omega (arith, more, next_more base past rec)));
}

-- an entry is committed
committed_entry : (base : Base) (past : Past) (rec : Rec) (entry : Entry) → IsOrdered base past → committed rec past ≡ entry ∷ [] → ((n : ℕ) → next_number base past ≤ n → is_among (taken_numbers (entry ∷ [])) n ≡ false)
    → ((t n : ℕ) → next_number base past ≤ n → is_among (numbers_of (cond (txn_of rec == t) (opened_by rec (opened t past)) (opened t past))) n ≡ false) → IsOrdered base (Applied rec ∷ past)
committed_entry base past rec entry are is numbers held = record {
  rising = are.rising;
  held = λ t n more. held t n (omega (arith, more, next_more base past rec));
  taken = λ n more.
      let low : next_number base past ≤ n = omega (arith, more, next_more base past rec) in
      ap (λ (j : List Entry). is_among (taken_numbers (journal past ++ j)) n) is
      ∙ (ap (λ (l : List ℕ). is_among l n) (taken_numbers-append (journal past) (entry ∷ []))
      ∙ (or_among (taken_numbers (journal past)) (taken_numbers (entry ∷ [])) n ∙ rw (are.taken n low, numbers n low) refl));
}

ended : (past : Past) (t n : ℕ) (b : Bool) → is_among (numbers_of (opened t past)) n ≡ false → is_among (numbers_of (cond b None (opened t past))) n ≡ false
ended past t n true none = refl
ended past t n false none = none

put_held : (past : Past) (t n : ℕ) (b : Bool) (events : List Content) → is_among (numbers_of (opened t past)) n ≡ false → is_among (numbers_of (cond b (Some (Puts events)) (opened t past))) n ≡ false
put_held past t n true events none = refl
put_held past t n false events none = none

take_held : (base : Base) (past : Past) (t n number : ℕ) (b : Bool) → number < next_number base past → next_number base past ≤ n → is_among (numbers_of (opened t past)) n ≡ false
    → is_among (numbers_of (cond b (Some (Takes (numbers_of (opened t past) ++ number ∷ []))) (opened t past))) n ≡ false
take_held base past t n number true low more none = or_among (numbers_of (opened t past)) (number ∷ []) n ∙ rw (none, not_that number n (next_number base past) low more) refl
take_held base past t n number false low more none = none

put_entry_of : (count : ℕ) (entry : Option Entry) → IsSomeAnd entry (IsPutOf count) → (events : List Content) × (entry ≡ Some (Puts events))
put_entry_of count None is = absurd is
put_entry_of count (Some (Puts events)) is = (events, refl)
put_entry_of count (Some (Takes numbers)) is = absurd is

take_entry_of : (count : ℕ) (entry : Option Entry) → IsSomeAnd entry (IsTakeOf count) → (numbers : List ℕ) × (entry ≡ Some (Takes numbers))
take_entry_of count None is = absurd is
take_entry_of count (Some (Puts events)) is = absurd is
take_entry_of count (Some (Takes numbers)) is = (numbers, refl)

-- numbers stay in order after a legal record
pub ordered_rec : (base : Base) (past : Past) (rec : Rec) → IsLegal base past rec → IsOrdered base past → IsOrdered base (Applied rec ∷ past)
ordered_rec base past (Put txn event) legal are = kept base past (Put txn event) are refl (λ t n more. put_held past t n (txn == t) (events_of (opened t past) ++ event ∷ []) (are.held t n more))
ordered_rec base past (Take txn number) legal are = kept base past (Take txn number) are refl (λ t n more. take_held base past t n number (txn == t) (left_below base past number are legal.2) more (are.held t n more))
ordered_rec base past (Rollback txn) legal are = kept base past (Rollback txn) are refl (λ t n more. ended past t n (txn == t) (are.held t n more))
ordered_rec base past (CommitPut txn first count) legal are =
    let e = put_entry_of count (opened txn past) legal.1 in
    committed_entry base past (CommitPut txn first count) (Puts e.0) are (ap entries_of e.1) (λ n more. refl) (λ t n more. ended past t n (txn == t) (are.held t n more))
ordered_rec base past (CommitTake txn count) legal are =
    let e = take_entry_of count (opened txn past) legal.1 in
    committed_entry base past (CommitTake txn count) (Takes e.0) are (ap entries_of e.1)
    (λ n more. ap (λ (l : List ℕ). is_among l n) (append-nil e.0) ∙ (ap (λ (o : Option Entry). is_among (numbers_of o) n) (sym e.1) ∙ are.held txn n more))
    (λ t n more. ended past t n (txn == t) (are.held t n more))
ordered_rec base past (End count) legal are = absurd legal

-- numbers stay in order after a sound line
pub ordered_line : (base : Base) (past : Past) (line : Line) → IsSound base past line → IsOrdered base past → IsOrdered base (past_line past line)
ordered_line base past Begins sound are = record { rising = are.rising; held = λ t n more. refl; taken = are.taken }
ordered_line base past (Stands file at rec) sound are = ordered_rec base past rec sound are
ordered_line base past (Faulty file at) sound are = absurd sound

-- numbers stay in order after sound lines
pub ordered_lines : (base : Base) (past : Past) (lines : List Line) → AreSound base past lines → IsOrdered base past → IsOrdered base (past_lines past lines)
ordered_lines base past [] sound are = are
ordered_lines base past (line ∷ lines) sound are = ordered_lines base (past_line past line) lines sound.1 (ordered_line base past line sound.0 are)

-- where numbers are in order, committed takes are of earlier numbers than the next one
pub takes_earlier : (base : Base) (past : Past) → IsOrdered base past → TakesEarlier base (journal past)
takes_earlier base past are n more = from (among_times n (taken_numbers (journal past)))
  where
    from : ((is_among (taken_numbers (journal past)) n ≡ true) × (1 ≤ times n (taken_numbers (journal past)))) ⊎ ((is_among (taken_numbers (journal past)) n ≡ false) × (times n (taken_numbers (journal past)) ≡ 0)) → times n (taken_numbers (journal past)) ≡ 0
    from (inl is) = absurd (let e : true ≡ false = sym is.0 ∙ are.taken n more in cc)
    from (inr isnt) = isnt.1

-- of a log without fault that is read from its front
pub front_earlier : (lines : List Line) → AreSound empty_base [] lines → (n : ℕ) → next_number empty_base (past_lines [] lines) ≤ n → is_among (taken_numbers (journal (past_lines [] lines))) n ≡ false
front_earlier lines sound n more = (ordered_lines empty_base [] lines sound (record { rising = omega arith; held = λ t n more. refl; taken = λ n more. refl })).taken n more
