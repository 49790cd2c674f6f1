-- The next number of what sound lines leave fits 64 bits where that of their start does.
use Rattle.std.proofs.Common.{◌≡◌, ◌<◌, ◌+◌, ◌^◌, ◌++◌, ◌∷◌, [], ℕ, List, length, length-append, Option, Some, None, refl, ◌∙◌, ap, arith}
use Rattle.std.specs.Prelude.{IsSomeAnd}
use Rattle.std.proofs.lemmas.List.{append-nil}
use Rattle.event_core.specs.Content.{Content}
use Rattle.event_core.specs.Journal.{Base, put_events}
use Rattle.event_core.specs.declared.journal.Entry.{Entry}
use Rattle.event_core.specs.declared.journal.Entry.TheVariants.{Puts, Takes}
use Rattle.record_form.specs.declared.record.Rec.{Rec}
use Rattle.record_form.specs.declared.record.Rec.TheVariants.{Put, Take, Rollback, CommitPut, CommitTake, End}
use Rattle.channel_face.proofs.Numbers.{put_events-append}
use Rattle.channel_replay.specs.Marks.{Applied, Past, entries_of, journal, next_number, opened}
use Rattle.channel_replay.specs.Recover.{AreSound, IsSound, StandsFrom, past_line, past_lines}
use Rattle.channel_replay.specs.declared.line.Line.{Line}
use Rattle.channel_replay.specs.declared.line.Line.TheVariants.{Begins, Faulty, Stands}
use Rattle.channel_replay.specs.Rules.{IsLegal, IsPutOf, IsTakeOf}
use Rattle.channel_replay.specs.Start.{Start, start_past}
use Rattle.channel_replay.proofs.Starts.{open_commits_none}

-- how many puts are committed

many_more : (a b : List Entry) → length (put_events (a ++ b)) ≡ length (put_events a) + length (put_events b)
many_more a b = ap (λ (l : List Content). length l) (put_events-append a b) ∙ length-append (put_events a) (put_events b)

puts_many : (count : ℕ) (entry : Option Entry) → IsSomeAnd entry (IsPutOf count) → length (put_events (entries_of entry)) ≡ count
puts_many count None is = absurd is
puts_many count (Some (Puts events)) is = ap (λ (l : List Content). length l) (append-nil events) ∙ is
puts_many count (Some (Takes numbers)) is = absurd is

takes_none : (count : ℕ) (entry : Option Entry) → IsSomeAnd entry (IsTakeOf count) → length (put_events (entries_of entry)) ≡ 0
takes_none count None is = absurd is
takes_none count (Some (Puts events)) is = absurd is
takes_none count (Some (Takes numbers)) is = refl

rec_fits : (base : Base) (past : Past) (rec : Rec) → IsLegal base past rec → next_number base past < 2 ^ 64 → next_number base (Applied rec ∷ past) < 2 ^ 64
rec_fits base past (Put txn event) legal fits = omega (arith, fits, many_more (journal past) [])
rec_fits base past (Take txn number) legal fits = omega (arith, fits, many_more (journal past) [])
rec_fits base past (Rollback txn) legal fits = omega (arith, fits, many_more (journal past) [])
rec_fits base past (CommitPut txn first count) legal fits =
    let first_is = legal.2 in
    let most = legal.3 in
    omega (arith, first_is, most, many_more (journal past) (entries_of (opened txn past)), puts_many count (opened txn past) legal.1)
rec_fits base past (CommitTake txn count) legal fits = omega (arith, fits, many_more (journal past) (entries_of (opened txn past)), takes_none count (opened txn past) legal.1)
rec_fits base past (End count) legal fits = absurd legal

line_fits : (base : Base) (past : Past) (line : Line) → IsSound base past line → next_number base past < 2 ^ 64 → next_number base (past_line past line) < 2 ^ 64
line_fits base past Begins sound fits = fits
line_fits base past (Stands file at rec) sound fits = rec_fits base past rec sound fits
line_fits base past (Faulty file at) sound fits = absurd sound

lines_fit : (base : Base) (past : Past) (found : List Line) → AreSound base past found → next_number base past < 2 ^ 64 → next_number base (past_lines past found) < 2 ^ 64
lines_fit base past [] sound fits = fits
lines_fit base past (line ∷ found) sound fits = lines_fit base (past_line past line) found sound.1 (line_fits base past line sound.0 fits)

-- the next number after sound lines fits 64 bits where that of their start does
pub left_fits : (s : Start) (found : List Line) (left : Base) (txn : ℕ) → StandsFrom s found left txn → s.base.first < 2 ^ 64 → left.first < 2 ^ 64
left_fits s found left txn stands fits =
    let none : journal (start_past s) ≡ [] = open_commits_none s.opened [] in
    let first : next_number s.base (start_past s) < 2 ^ 64 = omega (arith, fits, ap (λ (j : List Entry). length (put_events j)) none) in
    omega (arith, lines_fit s.base (start_past s) found stands.sound first, ap (λ (b : Base). b.first) stands.left_is)
