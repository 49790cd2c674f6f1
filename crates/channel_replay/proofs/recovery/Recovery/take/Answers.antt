use Rattle.std.proofs.Common.{rules, ◌≡◌, ◌∙◌, ◌++◌, ◌∷◌, [], ℕ, List, map, true, false, sym, ap}
use Rattle.event_core.specs.Content.{Content}
use Rattle.event_core.specs.Journal.{is_among, taken_numbers}
use Rattle.event_core.specs.declared.journal.Entry.{Entry}
use Rattle.event_core.specs.declared.journal.Entry.TheVariants.{Takes}
use Rattle.channel_face.specs.Machine.{entries}
use Rattle.channel_replay.specs.declared.recovery.Recovery.{Recovery}
use Rattle.channel_replay.specs.Marks.{numbers_of}
use Rattle.channel_replay.specs.Rules.{IsTake}
use Rattle.channel_replay.specs.Open.{GoesOn}
use Rattle.channel_replay.proofs.Applying.{held_applies, not_left_applies, take_applies, where_ok}
use Rattle.channel_replay.proofs.recovery.Recovery.take.Goals as goal

pub returns-then-not-is_left : goal.returns-then-not-is_left
returns-then-not-is_left c =
    let old : Recovery = c.args.self.now in
    let none : is_among (map (λ (item : ℕ × Content). item.0) old.items.items) c.args.number ≡ false = ap (λ (l : List (ℕ × Content)). is_among (map (λ (item : ℕ × Content). item.0) l) c.args.number) (sym c.deref.ensures.value) ∙ search rules in
    not_left_applies c.args.txn c.args.number old old none

pub returns-then-is_held : goal.returns-then-is_held
returns-then-is_held c =
    let old : Recovery = c.args.self.now in
    let held : is_among (taken_numbers (entries old.opened.items)) c.args.number ≡ true = ap (λ (l : List (ℕ × Entry)). is_among (taken_numbers (entries l)) c.args.number) (sym c.deref-2.ensures.value) ∙ search rules in
    held_applies c.args.txn c.args.number old old held

pub returns : goal.returns
returns c =
    let old : Recovery = c.args.self.now in
    let there : is_among (map (λ (item : ℕ × Content). item.0) old.items.items) c.args.number ≡ true = ap (λ (l : List (ℕ × Content)). is_among (map (λ (item : ℕ × Content). item.0) l) c.args.number) (sym c.deref.ensures.value) ∙ search rules in
    let free : is_among (taken_numbers (entries old.opened.items)) c.args.number ≡ false = ap (λ (l : List (ℕ × Entry)). is_among (taken_numbers (entries l)) c.args.number) (sym c.deref-2.ensures.value) ∙ search rules in
    let opened : c.see.new.self.opened.items ≡ old.opened.items = ap (λ (r : Recovery). r.opened.items) c.see.ensures in
    let goes = rw opened at c.add_take.ensures in
    where_ok c.add_take.result (λ ok. GoesOn ok old.opened.items c.args.txn IsTake (λ entry. Takes (numbers_of entry ++ c.args.number ∷ [])) c.add_take.new.opened.items) _
    (λ ok is. take_applies ok c.args.txn c.args.number old _ c.requires there free (ap (λ (r : Recovery). r.items.items) c.see.ensures) (ap (λ (r : Recovery). r.number) c.see.ensures) (ap (λ (r : Recovery). r.txn) c.see.ensures) is)
    goes
