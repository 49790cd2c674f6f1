-- Two ways to come to a place at which the same is left and open.
use Rattle.std.proofs.Common.{◌≡◌, ◌∷◌, [], ℕ, List, length, Option, Some, None, Bool, true, false, ◌==◌, cond, refl, sym, ◌∙◌, ap, subst, arith}
use Rattle.std.specs.Prelude.{IsSome, IsSomeAnd, map}
use Rattle.event_core.specs.Content.{Content}
use Rattle.event_core.specs.Journal.{Base, after_journal, is_among}
use Rattle.event_core.specs.declared.journal.Entry.{Entry}
use Rattle.record_form.specs.declared.record.Rec.{Rec}
use Rattle.record_form.specs.declared.record.Rec.TheVariants.{Put, Take, Rollback, CommitPut, CommitTake, End}
use Rattle.channel_face.specs.Machine.{is_some_of}
use Rattle.channel_face.proofs.LawLemmas.{after-append}
use Rattle.channel_replay.specs.Marks.{Applied, Past, added, committed, entries_of, journal, numbers_of, open_by, open_txns, opened, opened_by, removed, txn_of}
use Rattle.channel_replay.specs.Recover.{AreSound, HasFault, IsSound, past_line, past_lines}
use Rattle.channel_replay.specs.declared.line.Line.{Line}
use Rattle.channel_replay.specs.declared.line.Line.TheVariants.{Begins, Faulty, Stands}
use Rattle.channel_replay.specs.Rules.{IsLegal, IsPut, IsPutOf, IsTake, IsTakeOf, MayGoOn}
use Rattle.channel_replay.proofs.Among.{added_length, added_same, among_open, one_removed}
use Rattle.channel_replay.proofs.Ordered.{IsOrdered, ordered_rec, takes_earlier}

-- the same is left, with the same next number, and the same is open
pub record Alike (a : Base) (p : Past) (b : Base) (q : Past) : Type 0 where
  pub leaves : after_journal a (journal p) ≡ after_journal b (journal q)
  pub each : (t : ℕ) → opened t p ≡ opened t q
  pub as_many : length (open_txns p) ≡ length (open_txns q)
  pub first : IsOrdered a p
  pub second : IsOrdered b q

-- being alike holds in both directions
pub alike_back : (a : Base) (p : Past) (b : Base) (q : Past) → Alike a p b q → Alike b q a p
alike_back a p b q al = record { leaves = sym al.leaves; each = λ t. sym (al.each t); as_many = sym al.as_many; first = al.second; second = al.first }

-- a record is legal at both or at none

same_may : (m n : ℕ) (x y : Option Entry) (P : Entry → Type 0) → m ≡ n → x ≡ y → MayGoOn m x P → MayGoOn n y P
same_may m n x y P many same may = subst (λ (e : Option Entry). MayGoOn n e P) same (subst (λ (k : ℕ). MayGoOn k x P) many may)

-- a record that is legal at one of two alike places is legal at the other
pub legal_too : (a : Base) (p : Past) (b : Base) (q : Past) (rec : Rec) → Alike a p b q → IsLegal a p rec → IsLegal b q rec
legal_too a p b q (Put txn event) al legal = (legal.0, same_may (length (open_txns p)) (length (open_txns q)) (opened txn p) (opened txn q) IsPut al.as_many (al.each txn) legal.1)
legal_too a p b q (Take txn number) al legal = (
  legal.0,
  same_may (length (open_txns p)) (length (open_txns q)) (opened txn p) (opened txn q) IsTake al.as_many (al.each txn) legal.1,
  sym (ap (λ (base : Base). is_among (map (λ (item : ℕ × Content). item.0) base.items) number) al.leaves) ∙ legal.2,
  λ held. legal.3 (held.0, ap (λ (e : Option Entry). is_among (numbers_of e) number) (al.each held.0) ∙ held.1),
)
legal_too a p b q (Rollback txn) al legal = (legal.0, subst (λ (e : Option Entry). IsSome e) (al.each txn) legal.1)
legal_too a p b q (CommitPut txn first count) al legal =
    (legal.0, subst (λ (e : Option Entry). IsSomeAnd e (IsPutOf count)) (al.each txn) legal.1, legal.2 ∙ ap (λ (base : Base). base.first) al.leaves, legal.3)
legal_too a p b q (CommitTake txn count) al legal = (legal.0, subst (λ (e : Option Entry). IsSomeAnd e (IsTakeOf count)) (al.each txn) legal.1)
legal_too a p b q (End count) al legal = absurd legal

-- and after a legal one they are alike again

committed_same : (p q : Past) (rec : Rec) → ((t : ℕ) → opened t p ≡ opened t q) → committed rec p ≡ committed rec q
committed_same p q (Put txn event) each = refl
committed_same p q (Take txn number) each = refl
committed_same p q (Rollback txn) each = refl
committed_same p q (CommitPut txn first count) each = ap entries_of (each txn)
committed_same p q (CommitTake txn count) each = ap entries_of (each txn)
committed_same p q (End count) each = refl

some_is : (e : Option Entry) → IsSome e → is_some_of e ≡ true
some_is None some = absurd (cc)
some_is (Some entry) some = refl

some_and_is : (e : Option Entry) (P : Entry → Type 0) → IsSomeAnd e P → is_some_of e ≡ true
some_and_is None P some = absurd some
some_and_is (Some entry) P some = refl

added_as_many : (p q : Past) (t : ℕ) → opened t p ≡ opened t q → length (open_txns p) ≡ length (open_txns q) → length (added t (open_txns p)) ≡ length (added t (open_txns q))
added_as_many p q t same many = from (is_some_of (opened t p)) refl
  where
    from : (b : Bool) → is_some_of (opened t p) ≡ b → length (added t (open_txns p)) ≡ length (added t (open_txns q))
    from true is = added_same t (open_txns p) (among_open p t ∙ is) ∙ (many ∙ sym (added_same t (open_txns q) (among_open q t ∙ (ap is_some_of (sym same) ∙ is))))
    from false is =
        let here = added_length t (open_txns p) (among_open p t ∙ is) in
        let there = added_length t (open_txns q) (among_open q t ∙ (ap is_some_of (sym same) ∙ is)) in
        omega (arith, here, there, many)

removed_as_many : (p q : Past) (t : ℕ) → opened t p ≡ opened t q → is_some_of (opened t p) ≡ true → length (open_txns p) ≡ length (open_txns q) → length (removed t (open_txns p)) ≡ length (removed t (open_txns q))
removed_as_many p q t same is many = omega (arith, one_removed p t is, one_removed q t (ap is_some_of (sym same) ∙ is), many)

as_many_after : (a : Base) (p q : Past) (rec : Rec) → ((t : ℕ) → opened t p ≡ opened t q) → length (open_txns p) ≡ length (open_txns q) → IsLegal a p rec → length (open_by rec (open_txns p)) ≡ length (open_by rec (open_txns q))
as_many_after a p q (Put txn event) each many legal = added_as_many p q txn (each txn) many
as_many_after a p q (Take txn number) each many legal = added_as_many p q txn (each txn) many
as_many_after a p q (Rollback txn) each many legal = removed_as_many p q txn (each txn) (some_is (opened txn p) legal.1) many
as_many_after a p q (CommitPut txn first count) each many legal = removed_as_many p q txn (each txn) (some_and_is (opened txn p) (IsPutOf count) legal.1) many
as_many_after a p q (CommitTake txn count) each many legal = removed_as_many p q txn (each txn) (some_and_is (opened txn p) (IsTakeOf count) legal.1) many
as_many_after a p q (End count) each many legal = absurd legal

-- two alike places stay alike after a legal record
pub alike_rec : (a : Base) (p : Past) (b : Base) (q : Past) (rec : Rec) → Alike a p b q → IsLegal a p rec → Alike a (Applied rec ∷ p) b (Applied rec ∷ q)
alike_rec a p b q rec al legal = record {
  leaves =
      after-append a (journal p) (committed rec p) (takes_earlier a p al.first)
      ∙ (ap (λ (base : Base). after_journal base (committed rec p)) al.leaves
      ∙ (ap (λ (j : List Entry). after_journal (after_journal b (journal q)) j) (committed_same p q rec al.each)
      ∙ sym (after-append b (journal q) (committed rec q) (takes_earlier b q al.second))));
  each = λ t. ap (λ (e : Option Entry). cond (txn_of rec == t) (opened_by rec e) e) (al.each t);
  as_many = as_many_after a p q rec al.each al.as_many legal;
  first = ordered_rec a p rec legal al.first;
  second = ordered_rec b q rec (legal_too a p b q rec al legal) al.second;
}

-- a line that is sound at one of two alike places is sound at the other
pub sound_too : (a : Base) (p : Past) (b : Base) (q : Past) (line : Line) → Alike a p b q → IsSound a p line → IsSound b q line
sound_too a p b q Begins al sound = tt
sound_too a p b q (Stands file at rec) al sound = legal_too a p b q rec al sound
sound_too a p b q (Faulty file at) al sound = absurd sound

-- two alike places stay alike after a sound line
pub alike_line : (a : Base) (p : Past) (b : Base) (q : Past) (line : Line) → Alike a p b q → IsSound a p line → Alike a (past_line p line) b (past_line q line)
alike_line a p b q Begins al sound = record {
  leaves = al.leaves;
  each = λ t. refl;
  as_many = refl;
  first = record { rising = al.first.rising; held = λ t n more. refl; taken = al.first.taken };
  second = record { rising = al.second.rising; held = λ t n more. refl; taken = al.second.taken };
}
alike_line a p b q (Stands file at rec) al sound = alike_rec a p b q rec al sound
alike_line a p b q (Faulty file at) al sound = absurd sound

-- lines that are sound after the one are sound after the other, and lead to what is alike
pub alike_lines : (a : Base) (p : Past) (b : Base) (q : Past) (lines : List Line) → Alike a p b q → AreSound a p lines → AreSound b q lines × Alike a (past_lines p lines) b (past_lines q lines)
alike_lines a p b q [] al sound = (tt, al)
alike_lines a p b q (line ∷ lines) al sound =
    let rest = alike_lines a (past_line p line) b (past_line q line) lines (alike_line a p b q line al sound.0) sound.1 in
    ((sound_too a p b q line al sound.0, rest.0), rest.1)

-- they have one first fault
pub alike_fault : (a : Base) (p : Past) (b : Base) (q : Past) (lines : List Line) (file at : ℕ) → Alike a p b q → HasFault a p lines file at → HasFault b q lines file at
alike_fault a p b q lines file at al fault =
    let before = alike_lines a p b q fault.before al fault.sound in
    record {
      before = fault.before;
      line = fault.line;
      behind = fault.behind;
      split = fault.split;
      sound = before.0;
      bad = λ is. fault.bad (sound_too b (past_lines q fault.before) a (past_lines p fault.before) fault.line (alike_back a (past_lines p fault.before) b (past_lines q fault.before) before.1) is);
      place = fault.place;
    }
