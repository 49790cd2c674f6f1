-- Transactions that ended stay so.
use Rattle.std.proofs.Common.{◌⊎◌, inl, inr, ◌≡◌, ◌≢◌, ◌<◌, ◌++◌, ◌∷◌, [], ℕ, List, Option, Some, None, Ok, Bool, true, false, ◌==◌, cond, refl, sym, ◌∙◌, ap, subst, arith}
use Rattle.std.proofs.lemmas.Bool.Decides.{eqb_tells}
use Rattle.event_core.specs.Content.{Content}
use Rattle.event_core.specs.declared.journal.Entry.{Entry}
use Rattle.event_core.specs.declared.journal.Entry.TheVariants.{Puts, Takes}
use Rattle.channel_face.specs.Token.{Token}
use Rattle.channel_face.specs.History.{IsRun, Step, state_after}
use Rattle.channel_face.specs.Machine.{State, Call, RollbackPut, RollbackTake, StagePut, StageTake, Admits, after, as_puts, as_takes, entry_of, is_some_of, puts_of, stage, stage_put_refusal, stage_take_refusal, takes_of, with_entry, without_entry}
use Rattle.channel_face.specs.declared.replies.Ticket.{Ticket}
use Rattle.channel_face.specs.Sound.{AreNumbered, Opened}
use Rattle.channel_face.proofs.Opened.{puts_of-some, takes_of-some}
use Rattle.whole_calls.proofs.Shapes.{Began, Kept, Renewed, Same, Shape, With, Without, begins, entry_push, fresh, kept_after, kind, kind_with, kind_without, shape, without_self}

-- the calls that end a transaction of puts or of takes, and its token being stale

abbrev pub rolls : Bool → Token → Bool → Call
rolls true token = RollbackTake token
rolls false token = RollbackPut token

abbrev pub stages : Bool → Token → Ticket → Call
stages true token ticket = StageTake token (Ok ticket)
stages false token ticket = StagePut token (Ok ticket)

abbrev pub Stale : Bool → State → Token → Type 0
Stale true s token = takes_of s token ≡ None
Stale false s token = puts_of s token ≡ None

-- the token was given before
abbrev pub Earlier : State → Token → Type 0
Earlier s token = (token.life < s.life) ⊎ (token.life ≡ s.life) × (token.number < s.txn)

-- and its transaction, of this kind, is open no more
abbrev pub Ended : Bool → State → Token → Type 0
Ended takes s token = (token.life < s.life) ⊎ (token.life ≡ s.life) × (token.number < s.txn) × (kind (entry_of token.number s.opened) ≡ Some takes → ⊥)

some_none : {A : Type 0} (x : A) → Some x ≡ None → ⊥
some_none x h = cc

true_false : true ≡ false → ⊥
true_false h = cc

earlier_after : (s : State) (call : Call) (t : State) (token : Token) → Shape s call t → Earlier s token → Earlier t token
earlier_after s call t token (Same l n o) (inl low) = inl (omega (arith, low, l))
earlier_after s call t token (Same l n o) (inr (same, low)) = inr (same ∙ sym l, omega (arith, low, n))
earlier_after s call t token (With number old new l n is same o) (inl low) = inl (omega (arith, low, l))
earlier_after s call t token (With number old new l n is same o) (inr (life, low)) = inr (life ∙ sym l, omega (arith, low, n))
earlier_after s call t token (Without number l n o) (inl low) = inl (omega (arith, low, l))
earlier_after s call t token (Without number l n o) (inr (same, low)) = inr (same ∙ sym l, omega (arith, low, n))
earlier_after s call t token (Began takes other is own l n o) (inl low) = inl (omega (arith, low, l))
earlier_after s call t token (Began takes other is own l n o) (inr (same, low)) = inr (same ∙ sym l, omega (arith, low, n))
earlier_after s call t token (Renewed l o) (inl low) = inl (omega (arith, low, l))
earlier_after s call t token (Renewed l o) (inr (same, low)) = inl (omega (arith, same, l))

-- as it is in a list of open transactions
pub seen_in : (takes : Bool) (number : ℕ) (a b : Opened) → a ≡ b → kind (entry_of number a) ≡ Some takes → kind (entry_of number b) ≡ Some takes
seen_in takes number a b same h = subst (λ (x : Opened). kind (entry_of number x) ≡ Some takes) same h

ended_after : (takes : Bool) (s : State) (call : Call) (t : State) (token : Token) → Shape s call t → Kept s → Ended takes s token → Ended takes t token
ended_after takes s call t token (Same l n o) kept (inl low) = inl (omega (arith, low, l))
ended_after takes s call t token (Same l n o) kept (inr (same, low, never)) = inr (same ∙ sym l, omega (arith, low, n), λ h. never (seen_in takes token.number t.opened s.opened o h))
ended_after takes s call t token (With number old new l n is kinds o) kept (inl low) = inl (omega (arith, low, l))
ended_after takes s call t token (With number old new l n is kinds o) kept (inr (same, low, never)) =
    inr (same ∙ sym l, omega (arith, low, n), λ h. never (sym (kind_with token.number number old new s.opened is kinds) ∙ seen_in takes token.number t.opened (with_entry number new s.opened) o h))
ended_after takes s call t token (Without number l n o) kept (inl low) = inl (omega (arith, low, l))
ended_after takes s call t token (Without number l n o) kept (inr (same, low, never)) =
    inr (same ∙ sym l, omega (arith, low, n), λ h. never (kind_without takes token.number number s.opened kept.1 (seen_in takes token.number t.opened (without_entry number s.opened) o h)))
ended_after takes s call t token (Began kinds other is own l n o) kept (inl low) = inl (omega (arith, low, l))
ended_after takes s call t token (Began kinds other is own l n o) kept (inr (same, low, never)) =
    inr (
      same ∙ sym l,
      omega (arith, low, n),
      λ h. never (ap kind (sym (entry_push token.number s.txn (fresh kinds) s.opened low)) ∙ seen_in takes token.number t.opened (s.opened ++ (s.txn, fresh kinds) ∷ []) o h),
    )
ended_after takes s call t token (Renewed l o) kept (inl low) = inl (omega (arith, low, l))
ended_after takes s call t token (Renewed l o) kept (inr (same, low, never)) = inl (omega (arith, same, l))

-- over a run

-- after a run open transactions are still in order
pub kept_run : (tells : Bool) (s : State) (h : List Step) → IsRun tells s h → Kept s → Kept (state_after s h)
kept_run tells s [] run kept = kept
kept_run tells s (x ∷ h) run kept = kept_run tells (after s x.call) h run.1 (kept_after s x.call (after s x.call) (shape tells s x.call run.0) kept)

-- a token that was given before is so after a run
pub earlier_run : (tells : Bool) (s : State) (h : List Step) (token : Token) → IsRun tells s h → Earlier s token → Earlier (state_after s h) token
earlier_run tells s [] token run before = before
earlier_run tells s (x ∷ h) token run before = earlier_run tells (after s x.call) h token run.1 (earlier_after s x.call (after s x.call) token (shape tells s x.call run.0) before)

-- a transaction that ended is not open again after a run
pub ended_run : (tells takes : Bool) (s : State) (h : List Step) (token : Token) → IsRun tells s h → Kept s → Ended takes s token → Ended takes (state_after s h) token
ended_run tells takes s [] token run kept ended = ended
ended_run tells takes s (x ∷ h) token run kept ended =
    let step = shape tells s x.call run.0 in
    ended_run tells takes (after s x.call) h token run.1 (kept_after s x.call (after s x.call) step kept) (ended_after takes s x.call (after s x.call) token step kept ended)

-- the token that a begin gave
pub begun_earlier : (tells takes : Bool) (s : State) (token : Token) → Admits tells s (begins takes token) → Earlier (after s (begins takes token)) token
begun_earlier tells true s token may = inr (ap (λ (t : Token). t.life) may.1, omega (arith, ap (λ (t : Token). t.number) may.1))
begun_earlier tells false s token may = inr (ap (λ (t : Token). t.life) may.1, omega (arith, ap (λ (t : Token). t.number) may.1))

entry_below : (txn n : ℕ) (entry : Entry) (opened : Opened) → AreNumbered txn opened → entry_of n opened ≡ Some entry → n < txn
entry_below txn n entry [] all is = absurd (some_none entry (sym is))
entry_below txn n entry (o ∷ opened) all is = from (eqb_tells o.0 n) (λ h. entry_below txn n entry opened all.1 h)
  where
    from : ((o.0 == n) ≡ true) × (o.0 ≡ n) ⊎ ((o.0 == n) ≡ false) × (o.0 ≢ n) → (entry_of n opened ≡ Some entry → n < txn) → n < txn
    from (inl same) more = omega (arith, all.0, same.1)
    from (inr other) more = more (rw other.0 at is)

-- a state in which an open transaction was removed
ended_by : (takes : Bool) (s t : State) (token : Token) (entry : Entry) → Kept s → token.life ≡ s.life → entry_of token.number s.opened ≡ Some entry → t.life ≡ s.life → t.txn ≡ s.txn → t.opened ≡ without_entry token.number s.opened → Ended takes t token
ended_by takes s t token entry kept life is l n o =
    inr (
      life ∙ sym l,
      omega (arith, entry_below s.txn token.number entry s.opened kept.0 is, n),
      λ h. some_none takes (sym (seen_in takes token.number t.opened (without_entry token.number s.opened) o h) ∙ ap kind (without_self token.number s.opened kept.1)),
    )

ended_stage : (takes : Bool) (s : State) (token : Token) (entry : Entry) → Kept s → token.life ≡ s.life → entry_of token.number s.opened ≡ Some entry → Ended takes (stage token.number (Some entry) s) token
ended_stage takes s token (Puts []) kept life is = ended_by takes s (stage token.number (Some (Puts [])) s) token (Puts []) kept life is refl refl refl
ended_stage takes s token (Takes []) kept life is = ended_by takes s (stage token.number (Some (Takes [])) s) token (Takes []) kept life is refl refl refl
ended_stage takes s token (Puts (e ∷ events)) kept life is = ended_by takes s (stage token.number (Some (Puts (e ∷ events))) s) token (Puts (e ∷ events)) kept life is refl refl refl
ended_stage takes s token (Takes (n ∷ numbers)) kept life is = ended_by takes s (stage token.number (Some (Takes (n ∷ numbers))) s) token (Takes (n ∷ numbers)) kept life is refl refl refl

put_staged : (s : State) (puts : Option (List Content)) → stage_put_refusal s puts ≡ None → (events : List Content) × (puts ≡ Some events)
put_staged s None is = absurd (cc)
put_staged s (Some events) is = (events, refl)

take_staged : (s : State) (takes : Option (List ℕ)) → stage_take_refusal s takes ≡ None → (numbers : List ℕ) × (takes ≡ Some numbers)
take_staged s None is = absurd (cc)
take_staged s (Some numbers) is = (numbers, refl)

some_of : {A : Type 0} (x : Option A) → true ≡ is_some_of x → (a : A) × (x ≡ Some a)
some_of None is = absurd (true_false is)
some_of (Some a) is = (a, refl)

-- a stage ends it
pub staged_ended : (tells takes : Bool) (s : State) (token : Token) (ticket : Ticket) → Admits tells s (stages takes token ticket) → Kept s → Ended takes (after s (stages takes token ticket)) token
staged_ended tells true s token ticket may kept =
    let some = take_staged s (takes_of s token) may.0 in
    let found = takes_of-some s token some.0 some.1 in
    subst (λ (e : Option Entry). Ended true (stage token.number e s) token) (sym found.1) (ended_stage true s token (Takes some.0) kept found.0 found.1)
staged_ended tells false s token ticket may kept =
    let some = put_staged s (puts_of s token) may.0 in
    let found = puts_of-some s token some.0 some.1 in
    subst (λ (e : Option Entry). Ended false (stage token.number e s) token) (sym found.1) (ended_stage false s token (Puts some.0) kept found.0 found.1)

-- a rollback ends it
pub rolled_ended : (tells takes : Bool) (s : State) (token : Token) → Admits tells s (rolls takes token true) → Kept s → Ended takes (after s (rolls takes token true)) token
rolled_ended tells true s token may kept =
    let some = some_of (takes_of s token) may in
    let found = takes_of-some s token some.0 some.1 in
    ended_by true s (after s (RollbackTake token true)) token (Takes some.0) kept found.0 found.1 refl refl refl
rolled_ended tells false s token may kept =
    let some = some_of (puts_of s token) may in
    let found = puts_of-some s token some.0 some.1 in
    ended_by false s (after s (RollbackPut token true)) token (Puts some.0) kept found.0 found.1 refl refl refl

-- a token that is stale is of a transaction that ended, and one of a transaction that ended is stale

-- an entry of takes is found where takes are looked for
pub no_takes : (e : Option Entry) → as_takes e ≡ None → kind e ≡ Some true → ⊥
no_takes None is h = cc
no_takes (Some (Puts events)) is h = cc
no_takes (Some (Takes numbers)) is h = cc

-- an entry of puts is found where puts are looked for
pub no_puts : (e : Option Entry) → as_puts e ≡ None → kind e ≡ Some false → ⊥
no_puts None is h = cc
no_puts (Some (Puts events)) is h = cc
no_puts (Some (Takes numbers)) is h = cc

takes_none : (e : Option Entry) → (kind e ≡ Some true → ⊥) → as_takes e ≡ None
takes_none None never = refl
takes_none (Some (Puts events)) never = refl
takes_none (Some (Takes numbers)) never = absurd (never refl)

puts_none : (e : Option Entry) → (kind e ≡ Some false → ⊥) → as_puts e ≡ None
puts_none None never = refl
puts_none (Some (Puts events)) never = absurd (never refl)
puts_none (Some (Takes numbers)) never = refl

-- whether two numbers are the same
abbrev Tells : ℕ → ℕ → Type 0
Tells a b = ((a == b) ≡ true) × (a ≡ b) ⊎ ((a == b) ≡ false) × (a ≢ b)

-- a token that was given and is stale is of a transaction that ended
pub stale_ended : (takes : Bool) (s : State) (token : Token) → Earlier s token → Stale takes s token → Ended takes s token
stale_ended takes s token (inl low) stale = inl low
stale_ended true s token (inr (same, low)) stale = from (eqb_tells token.life s.life)
  where
    from : Tells token.life s.life → Ended true s token
    from (inl alive) = inr (same, low, no_takes (entry_of token.number s.opened) (rw alive.0 at stale))
    from (inr other) = absurd (other.1 same)
stale_ended false s token (inr (same, low)) stale = from (eqb_tells token.life s.life)
  where
    from : Tells token.life s.life → Ended false s token
    from (inl alive) = inr (same, low, no_puts (entry_of token.number s.opened) (rw alive.0 at stale))
    from (inr other) = absurd (other.1 same)

-- a token of a transaction that ended is stale
pub ended_stale : (takes : Bool) (s : State) (token : Token) → Ended takes s token → Stale takes s token
ended_stale true s token ended = from (eqb_tells token.life s.life) ended
  where
    from : Tells token.life s.life → Ended true s token → cond (token.life == s.life) (as_takes (entry_of token.number s.opened)) None ≡ None
    from (inl alive) (inl low) = absurd (omega (arith, low, alive.1))
    from (inl alive) (inr (same, low, never)) = rw alive.0 (takes_none (entry_of token.number s.opened) never)
    from (inr other) any = rw other.0 refl
ended_stale false s token ended = from (eqb_tells token.life s.life) ended
  where
    from : Tells token.life s.life → Ended false s token → cond (token.life == s.life) (as_puts (entry_of token.number s.opened)) None ≡ None
    from (inl alive) (inl low) = absurd (omega (arith, low, alive.1))
    from (inl alive) (inr (same, low, never)) = rw alive.0 (puts_none (entry_of token.number s.opened) never)
    from (inr other) any = rw other.0 refl
