-- Lines that are applied one after another.
use Rattle.std.proofs.Common.{◌≡◌, ◌≤◌, ℕ, List, [], ◌∷◌, ◌++◌, Result, Ok, Err, IfOk, OnOk, refl, sym, ◌∙◌, ap, subst, append_assoc, arith}
use Rattle.std.specs.Prelude.{max}
use Rattle.std.proofs.lemmas.List.{append-nil}
use Rattle.event_core.specs.Journal.{Base, after_journal, left}
use Rattle.channel_log.specs.Frames.{Holds}
use Rattle.channel_replay.specs.declared.plain.WholeFile.{WholeFile}
use Rattle.channel_replay.specs.declared.recovery.Recovery.{Recovery}
use Rattle.channel_replay.specs.declared.recovery.Replayed.{Replayed}
use Rattle.channel_replay.specs.Marks.{Applied, Dropped, Past, journal, next_number, next_txn}
use Rattle.channel_replay.specs.Recover.{AreSound, HasFault, IsAt, IsSound, Line, LogFile, StandsFor, empty_base, file_lines, lines, past_line, past_lines}
use Rattle.channel_replay.specs.Plain.{AddsFile, AreOf, WhereBad, base_of}
use Rattle.channel_replay.specs.declared.refused.RecoverRefused.{RecoverRefused}
use Rattle.channel_replay.specs.declared.refused.RecoverRefused.TheVariants as refusals
use Rattle.event_core.specs.declared.refused.NoMemory.{NoMemory}
use Rattle.channel_replay.specs.Recovery.{Agrees, IsRecovered}

-- the marks after two runs of lines are those of the second after the first
pub past_lines-append : (past : Past) (a b : List Line) → past_lines past (a ++ b) ≡ past_lines (past_lines past a) b
past_lines-append past [] b = refl
past_lines-append past (line ∷ a) b = past_lines-append (past_line past line) a b

-- two runs of sound lines, one after the other, are sound
pub sound_append : (base : Base) (past : Past) (a b : List Line) → AreSound base past a → AreSound base (past_lines past a) b → AreSound base past (a ++ b)
sound_append base past [] b sound more = more
sound_append base past (line ∷ a) b sound more = (sound.0, sound_append base (past_line past line) a b sound.1 more)

-- A fault of later lines is one of all, where the lines before are sound.
pub fault_append : (base : Base) (past : Past) (a b : List Line) (file at : ℕ) → AreSound base past a → HasFault base (past_lines past a) b file at → HasFault base past (a ++ b) file at
fault_append base past a b file at sound fault = record {
  before = a ++ fault.before;
  line = fault.line;
  behind = fault.behind;
  split = ap (λ (l : List Line). a ++ l) fault.split ∙ sym (append_assoc a fault.before (fault.line ∷ fault.behind));
  sound = sound_append base past a fault.before sound fault.sound;
  bad = λ is. fault.bad (subst (λ (p : Past). IsSound base p fault.line) (past_lines-append past a fault.before) is);
  place = fault.place;
}

-- A fault stays the first one, whatever stands after.
pub fault_front : (base : Base) (past : Past) (a b : List Line) (file at : ℕ) → HasFault base past a file at → HasFault base past (a ++ b) file at
fault_front base past a b file at fault = record {
  before = fault.before;
  line = fault.line;
  behind = fault.behind ++ b;
  split = ap (λ (l : List Line). l ++ b) fault.split ∙ append_assoc fault.before (fault.line ∷ fault.behind) b;
  sound = fault.sound;
  bad = fault.bad;
  place = fault.place;
}

-- Some of the lines were applied, and others are left.
pub record AppliedTo (all rest : List Line) (r : Recovery) : Type 0 where
  pub done : List Line
  pub split : all ≡ done ++ rest
  pub sound : AreSound empty_base [] done
  pub agrees : Agrees empty_base (past_lines [] done) r

-- one line more was applied
pub applied_more : (all rest more : List Line) (line : Line) (old new : Recovery) → AppliedTo all rest old → rest ≡ line ∷ more
    → ((base : Base) (past : Past) → Agrees base past old → IsSound base past line × Agrees base (past_line past line) new) → AppliedTo all more new
applied_more all rest more line old new on is applies =
    let next = applies empty_base (past_lines [] on.done) on.agrees in
    record {
      done = on.done ++ line ∷ [];
      split = on.split ∙ ap (λ (l : List Line). on.done ++ l) is ∙ sym (append_assoc on.done (line ∷ []) more);
      sound = sound_append empty_base [] on.done (line ∷ []) on.sound (next.0, tt);
      agrees = subst (λ (p : Past). Agrees empty_base p new) (sym (past_lines-append [] on.done (line ∷ []))) next.1;
    }

-- a line that is not sound after those that were applied is the first fault of all
pub applied_bad : (all rest more : List Line) (line : Line) (old : Recovery) (file at : ℕ) → AppliedTo all rest old → rest ≡ line ∷ more
    → IsAt line file at × ((base : Base) (past : Past) → Agrees base past old → IsSound base past line → ⊥) → HasFault empty_base [] all file at
applied_bad all rest more line old file at on is bad = record {
  before = on.done;
  line = line;
  behind = more;
  split = on.split ∙ ap (λ (l : List Line). on.done ++ l) is;
  sound = on.sound;
  bad = bad.1 empty_base (past_lines [] on.done) on.agrees;
  place = bad.0;
}

same_base : (a b : Base) → a.items ≡ b.items → a.first ≡ b.first → a ≡ b
same_base a b items first = rw (items, first) refl

-- the next transaction number is at least 1
pub some_txn : (past : Past) → 1 ≤ next_txn past
some_txn [] = omega arith
some_txn (Dropped ∷ past) = some_txn past
some_txn (Applied rec ∷ past) = omega (arith, some_txn past)

-- The next transaction number is at least 1, with which the empty start begins.
pub txn_from_one : (past : Past) → max 1 (next_txn past) ≡ next_txn past
txn_from_one past = omega (arith, some_txn past)

-- Lines of log files that were applied without fault.
pub stands_for : (logs : List LogFile) (found : List Line) (r : Replayed) → found ≡ lines logs → IsRecovered found r → StandsFor logs (base_of r) r.next.txn
stands_for logs found r same is = record {
  sound = subst (AreSound empty_base []) same is.sound;
  left_is = same_base (base_of r) (after_journal empty_base (journal (past_lines [] (lines logs)))) (is.items ∙ ap (λ (l : List Line). left empty_base (journal (past_lines [] l))) same) (is.number ∙ ap (λ (l : List Line). next_number empty_base (past_lines [] l)) same);
  txn_is = is.txn ∙ (ap (λ (l : List Line). next_txn (past_lines [] l)) same ∙ sym (txn_from_one (past_lines [] (lines logs))));
}

-- Files that were read, one after another.

-- the lines of two runs of log files, one after the other
pub lines-append : (a b : List LogFile) → lines (a ++ b) ≡ lines a ++ lines b
lines-append [] b = refl
lines-append (log ∷ a) b = ap (λ (l : List Line). file_lines log.number log.content ++ l) (lines-append a b) ∙ sym (append_assoc (file_lines log.number log.content) (lines a) (lines b))

pub record FilesOn (files : List WholeFile) (now : List Line) : Type 0 where
  pub logs : List LogFile
  pub are : AreOf files logs
  pub is : now ≡ lines logs

are_of-push : (files : List WholeFile) (logs : List LogFile) (file : WholeFile) (log : LogFile) → AreOf files logs → log.number ≡ file.number → Holds log.number file.bytes.items log.content → AreOf (files ++ file ∷ []) (logs ++ log ∷ [])
are_of-push [] [] file log are number holds = (number, holds, tt)
are_of-push [] (l ∷ logs) file log are number holds = absurd are
are_of-push (f ∷ files) [] file log are number holds = absurd are
are_of-push (f ∷ files) (l ∷ logs) file log are number holds = (are.0, are.1, are_of-push files logs file log are.2 number holds)

-- one whole file more was read
pub files_more : (files : List WholeFile) (file : WholeFile) (now new : List Line) → FilesOn files now → AddsFile file.bytes.items file.number now new → FilesOn (files ++ file ∷ []) new
files_more files file now new on adds =
    let log : LogFile = record { number = file.number; content = adds.content } in
    record {
      logs = on.logs ++ log ∷ [];
      are = are_of-push files on.logs file log on.are refl adds.holds;
      is = adds.lines ∙ ap (λ (l : List Line). l ++ file_lines file.number adds.content) on.is ∙ ap (λ (l : List Line). lines on.logs ++ l) (sym (append-nil (file_lines file.number adds.content))) ∙ sym (lines-append on.logs (log ∷ []));
    }

-- of answers

-- what follows of each list that was recovered follows of the answer
pub recovered_maps : (r : Result Replayed RecoverRefused) (P Q : Replayed → Type 0) → ((x : Replayed) → P x → Q x) → IfOk r P → IfOk r Q
recovered_maps (Ok x) P Q maps is = maps x is
recovered_maps (Err e) P Q maps is = tt

-- what follows of a success follows of the answer, where memory may be out
pub when_ok : (r : Result (Unit {0}) NoMemory) (P Q : Type 0) → (P → Q) → OnOk r P → OnOk r Q
when_ok (Ok done) P Q maps is = maps is
when_ok (Err e) P Q maps is = tt

-- what follows of each place of a fault follows of a refusal to recover
pub bad_maps : (e : RecoverRefused) (P Q : ℕ → ℕ → Type 0) → ((file at : ℕ) → P file at → Q file at) → WhereBad e P → WhereBad e Q
bad_maps (refusals.BadLog file at) P Q maps is = maps file at is
bad_maps refusals.NoMemory P Q maps is = tt
