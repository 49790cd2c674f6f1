use Rattle.std.proofs.Common.{rules, ◌≡◌, ◌∙◌, ◌<◌, ℕ, Option, Some, true, false, ap, subst, sym}
use Rattle.flume_host.specs.Told.{Told}
use Rattle.event_core.specs.declared.journal.Entry.TheVariants.{Takes}
use Rattle.record_form.specs.declared.record.Rec.TheVariants.{Rollback}
use Rattle.channel_face.specs.Machine.{State, RollbackTake, close, entry_of, is_some_of, takes_of, size_of_list}
use Rattle.channel_places.specs.Looks.{Known, Looks}
use Rattle.channel_writing.specs.Written.{IsLogged}
use Rattle.channel_writing.proofs.Whole.{did_take, take_was_done}
use Rattle.file_channel.specs.Placed.{IsStateOf, Logged}
use Rattle.file_channel.specs.Stepped.{Steps}
use Rattle.file_channel.proofs.Stepping.{recorded_take, same_broken, stale_take, unrecorded_take}
use Rattle.file_channel.proofs.logged.LoggedPlaces.rollback_take.Goals as goal

pub add_rollback-requires : goal.add_rollback-requires
add_rollback-requires g c =
    let m = c.self.inside in
    let told = g.D.Disk.told m.writing.disk in
    let token = c.args.txn in
    let old : Logged = record { places = m.held; log = m.writing.log; busy = m.writing.busy } in
    let s : State = c.self.invariant.0 in
    let is = c.self.invariant.1 in
    let number : c.number-number.result ≡ token.number = c.number-number.ensures in
    let ended : c.has_takes-ends.result ≡ true = (let not = c.if-not-ends.false in search rules) in
    let is_open : true ≡ is_some_of (takes_of s token) = sym ended ∙ c.has_takes-ends.ensures.tells is.settled is.known s is.looks in
    let count : c.size_of_takes-count.result ≡ size_of_list (takes_of s token) = c.size_of_takes-count.ensures.size is.settled is.known s is.looks in
    let places : (settled known : Known) → Looks settled known old.places s → Looks settled known c.drop_takes.new.self (close token.number s) = λ settled known looks. subst (λ (n : ℕ). Looks settled known c.drop_takes.new.self (close n s)) number (c.drop_takes.ensures.looks settled known s looks) in
    let broken : c.drop_takes.new.self.numbers.broken ≡ s.broken = same_broken is.settled is.known c.drop_takes.new.self (close token.number s) (places is.settled is.known is.looks) in
    let both : (0 < c.size_of_takes-count.result) × (c.drop_takes.new.self.numbers.broken ≡ false) = (let wrote = c.is_recorded.ensures in search rules) in
    let held : 0 < size_of_list (takes_of s token) = subst (λ (n : ℕ). 0 < n) count both.0 in
    let still : s.broken ≡ false = sym broken ∙ both.1 in
    let did = did_take s token held in
    let entry : entry_of c.number-number.result s.opened ≡ Some (Takes did.numbers) = ap (λ (n : ℕ). entry_of n s.opened) number ∙ did.entry in
    (s, Takes did.numbers, is.whole.logged still, entry, take_was_done did.numbers did.some)

pub invariant_of-self : goal.invariant_of-self
invariant_of-self g c =
    let m = c.self.inside in
    let told = g.D.Disk.told m.writing.disk in
    let token = c.args.txn in
    let old : Logged = record { places = m.held; log = m.writing.log; busy = m.writing.busy } in
    let s : State = c.self.invariant.0 in
    let is = c.self.invariant.1 in
    let number : c.number-number.result ≡ token.number = c.number-number.ensures in
    let ended : c.has_takes-ends.result ≡ true = (let not = c.if-not-ends.false in search rules) in
    let is_open : true ≡ is_some_of (takes_of s token) = sym ended ∙ c.has_takes-ends.ensures.tells is.settled is.known s is.looks in
    let count : c.size_of_takes-count.result ≡ size_of_list (takes_of s token) = c.size_of_takes-count.ensures.size is.settled is.known s is.looks in
    let places : (settled known : Known) → Looks settled known old.places s → Looks settled known c.drop_takes.new.self (close token.number s) = λ settled known looks. subst (λ (n : ℕ). Looks settled known c.drop_takes.new.self (close n s)) number (c.drop_takes.ensures.looks settled known s looks) in
    let broken : c.drop_takes.new.self.numbers.broken ≡ s.broken = same_broken is.settled is.known c.drop_takes.new.self (close token.number s) (places is.settled is.known is.looks) in
    let both : (0 < c.size_of_takes-count.result) × (c.drop_takes.new.self.numbers.broken ≡ false) = (let wrote = c.is_recorded.ensures in search rules) in
    let held : 0 < size_of_list (takes_of s token) = subst (λ (n : ℕ). 0 < n) count both.0 in
    let still : s.broken ≡ false = sym broken ∙ both.1 in
    let did = did_take s token held in
    let entry : entry_of c.number-number.result s.opened ≡ Some (Takes did.numbers) = ap (λ (n : ℕ). entry_of n s.opened) number ∙ did.entry in
    let told' = g.D.Disk.told c.add_rollback.new.self.disk in
    let same : told' ≡ told = ap g.D.Disk.told c.add_rollback.ensures.disk in
    let new : Logged = record { places = c.drop_takes.new.self; log = c.add_rollback.new.self.log; busy = c.add_rollback.new.self.busy } in
    let log' : IsLogged told' new.log new.busy (close c.number-number.result s) = c.add_rollback.ensures.logged s (Takes did.numbers) (is.whole.logged still) entry (take_was_done did.numbers did.some) in
    let log : IsLogged told new.log new.busy (close token.number s) = subst (λ (v : Option Told). IsLogged v new.log new.busy (close token.number s)) same (subst (λ (n : ℕ). IsLogged told' new.log new.busy (close n s)) number log') in
    (close token.number s, subst (λ (v : Option Told). IsStateOf v new (close token.number s)) (sym same) (recorded_take told old new token (Rollback c.number-number.result) s is is_open places c.drop_takes.ensures.opened held still log c.add_rollback.ensures.log c.add_rollback.ensures.waits).stands)

pub returns-then-is_recorded-clause-step : goal.returns-then-is_recorded-clause-step
returns-then-is_recorded-clause-step g c = rw (← c.self.view_is) (λ s is.
    let m = c.self.inside in
    let told = g.D.Disk.told m.writing.disk in
    let token = c.args.txn in
    let old : Logged = record { places = m.held; log = m.writing.log; busy = m.writing.busy } in
    let number : c.number-number.result ≡ token.number = c.number-number.ensures in
    let ended : c.has_takes-ends.result ≡ true = (let not = c.if-not-ends.false in search rules) in
    let is_open : true ≡ is_some_of (takes_of s token) = sym ended ∙ c.has_takes-ends.ensures.tells is.settled is.known s is.looks in
    let count : c.size_of_takes-count.result ≡ size_of_list (takes_of s token) = c.size_of_takes-count.ensures.size is.settled is.known s is.looks in
    let places : (settled known : Known) → Looks settled known old.places s → Looks settled known c.drop_takes.new.self (close token.number s) = λ settled known looks. subst (λ (n : ℕ). Looks settled known c.drop_takes.new.self (close n s)) number (c.drop_takes.ensures.looks settled known s looks) in
    let broken : c.drop_takes.new.self.numbers.broken ≡ s.broken = same_broken is.settled is.known c.drop_takes.new.self (close token.number s) (places is.settled is.known is.looks) in
    let both : (0 < c.size_of_takes-count.result) × (c.drop_takes.new.self.numbers.broken ≡ false) = (let wrote = c.is_recorded.ensures in search rules) in
    let held : 0 < size_of_list (takes_of s token) = subst (λ (n : ℕ). 0 < n) count both.0 in
    let still : s.broken ≡ false = sym broken ∙ both.1 in
    let did = did_take s token held in
    let entry : entry_of c.number-number.result s.opened ≡ Some (Takes did.numbers) = ap (λ (n : ℕ). entry_of n s.opened) number ∙ did.entry in
    let told' = g.D.Disk.told c.add_rollback.new.self.disk in
    let same : told' ≡ told = ap g.D.Disk.told c.add_rollback.ensures.disk in
    let new : Logged = record { places = c.drop_takes.new.self; log = c.add_rollback.new.self.log; busy = c.add_rollback.new.self.busy } in
    let log' : IsLogged told' new.log new.busy (close c.number-number.result s) = c.add_rollback.ensures.logged s (Takes did.numbers) (is.whole.logged still) entry (take_was_done did.numbers did.some) in
    let log : IsLogged told new.log new.busy (close token.number s) = subst (λ (v : Option Told). IsLogged v new.log new.busy (close token.number s)) same (subst (λ (n : ℕ). IsLogged told' new.log new.busy (close n s)) number log') in
    subst (λ (v : Option Told). Steps told v old new (RollbackTake token true) s) (sym same) (recorded_take told old new token (Rollback c.number-number.result) s is is_open places c.drop_takes.ensures.opened held still log c.add_rollback.ensures.log c.add_rollback.ensures.waits))

pub invariant_of-self-else-is_recorded : goal.invariant_of-self-else-is_recorded
invariant_of-self-else-is_recorded g c =
    let m = c.self.inside in
    let told = g.D.Disk.told m.writing.disk in
    let token = c.args.txn in
    let old : Logged = record { places = m.held; log = m.writing.log; busy = m.writing.busy } in
    let s : State = c.self.invariant.0 in
    let is = c.self.invariant.1 in
    let number : c.number-number.result ≡ token.number = c.number-number.ensures in
    let ended : c.has_takes-ends.result ≡ true = (let not = c.if-not-ends.false in search rules) in
    let is_open : true ≡ is_some_of (takes_of s token) = sym ended ∙ c.has_takes-ends.ensures.tells is.settled is.known s is.looks in
    let count : c.size_of_takes-count.result ≡ size_of_list (takes_of s token) = c.size_of_takes-count.ensures.size is.settled is.known s is.looks in
    let places : (settled known : Known) → Looks settled known old.places s → Looks settled known c.drop_takes.new.self (close token.number s) = λ settled known looks. subst (λ (n : ℕ). Looks settled known c.drop_takes.new.self (close n s)) number (c.drop_takes.ensures.looks settled known s looks) in
    let broken : c.drop_takes.new.self.numbers.broken ≡ s.broken = same_broken is.settled is.known c.drop_takes.new.self (close token.number s) (places is.settled is.known is.looks) in
    let no : (0 < c.size_of_takes-count.result) × (c.drop_takes.new.self.numbers.broken ≡ false) → ⊥ = (let lacks = c.is_recorded.ensures in search rules) in
    let not : (0 < size_of_list (takes_of s token)) × (s.broken ≡ false) → ⊥ = λ both. no (subst (λ (n : ℕ). 0 < n) (sym count) both.0, broken ∙ both.1) in
    (close token.number s, (unrecorded_take told old c.drop_takes.new.self token s is is_open places c.drop_takes.ensures.opened not).stands)

pub returns-else-is_recorded-clause-step : goal.returns-else-is_recorded-clause-step
returns-else-is_recorded-clause-step g c = rw (← c.self.view_is) (λ s is.
    let m = c.self.inside in
    let told = g.D.Disk.told m.writing.disk in
    let token = c.args.txn in
    let old : Logged = record { places = m.held; log = m.writing.log; busy = m.writing.busy } in
    let number : c.number-number.result ≡ token.number = c.number-number.ensures in
    let ended : c.has_takes-ends.result ≡ true = (let not = c.if-not-ends.false in search rules) in
    let is_open : true ≡ is_some_of (takes_of s token) = sym ended ∙ c.has_takes-ends.ensures.tells is.settled is.known s is.looks in
    let count : c.size_of_takes-count.result ≡ size_of_list (takes_of s token) = c.size_of_takes-count.ensures.size is.settled is.known s is.looks in
    let places : (settled known : Known) → Looks settled known old.places s → Looks settled known c.drop_takes.new.self (close token.number s) = λ settled known looks. subst (λ (n : ℕ). Looks settled known c.drop_takes.new.self (close n s)) number (c.drop_takes.ensures.looks settled known s looks) in
    let broken : c.drop_takes.new.self.numbers.broken ≡ s.broken = same_broken is.settled is.known c.drop_takes.new.self (close token.number s) (places is.settled is.known is.looks) in
    let no : (0 < c.size_of_takes-count.result) × (c.drop_takes.new.self.numbers.broken ≡ false) → ⊥ = (let lacks = c.is_recorded.ensures in search rules) in
    let not : (0 < size_of_list (takes_of s token)) × (s.broken ≡ false) → ⊥ = λ both. no (subst (λ (n : ℕ). 0 < n) (sym count) both.0, broken ∙ both.1) in
    unrecorded_take told old c.drop_takes.new.self token s is is_open places c.drop_takes.ensures.opened not)

pub returns-then-not-ends-clause-step : goal.returns-then-not-ends-clause-step
returns-then-not-ends-clause-step g c = rw (← c.self.view_is) (λ s is.
    let m = c.self.inside in
    let stale : c.has_takes-ends.result ≡ false = (let not = c.if-not-ends.true in search rules) in
    stale_take (g.D.Disk.told m.writing.disk) (record { places = m.held; log = m.writing.log; busy = m.writing.busy }) c.args.txn s is (sym stale ∙ c.has_takes-ends.ensures.tells is.settled is.known s is.looks))
