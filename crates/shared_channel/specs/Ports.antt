-- What a source and a sink see of a shared channel through a pass.
use Rattle.std.specs.Prelude.{◌≡◌, ◌-◌, ◌^◌, ℕ, List, [], ◌∷◌, ◌++◌, length, Result, Bool, true, false, not, is_ok}
use Rattle.std.proofs.Common.{refl, sym, ◌∙◌, ap, subst, append_assoc}
use Rattle.std.proofs.lemmas.List.{append-nil}
use mathlib.Core.List.{IsPrefix}
use Rattle.atomic_table.specs.Seated.{TableId}
use Rattle.channel_face.specs.Faces.{Own, Ends, is_spent_flush}
use Rattle.channel_face.specs.Machine.{State, Flush, after, settled}
use Rattle.channel_face.specs.History.{Opening, Step, opening, state_after}
use Rattle.channel_face.specs.declared.replies.FlushRefused.{FlushRefused}
use Rattle.channel_face.specs.declared.replies.Settled.{Settled}
use Rattle.channel_face.specs.declared.replies.Settled.TheVariants.{Yes, No, InDoubt}
use Rattle.channel_face.specs.declared.replies.Ticket.{Ticket}
use Rattle.channel_lock.specs.Calls.{has, calls_by}
use Rattle.channel_lock.proofs.Histories.{calls_by-append}
use Rattle.channel_lock.specs.Views.{View}
use Rattle.shared_channel.specs.Counting.{StandsCounting}
use Rattle.shared_channel.specs.Passes.{Known}
use Rattle.shared_channel.specs.Calls.{step, state_seen, made_if, Bounds, IsSeen}
use Rattle.shared_channel.specs.Holding.{Makes}
use Rattle.shared_channel.specs.declared.shared.Holder.{Holder}

abbrev pub own_if : Bool → Own → List Own → List Own
own_if true o own = o ∷ own
own_if false o own = own

-- the calls of the passes with these numbers, each with the state in which it was made
abbrev pub own_calls : List ℕ → State → List Step → List Own
own_calls numbers s [] = []
own_calls numbers s (step ∷ h) = own_if (has numbers step.pass) (record { call = step.call; before = s; moment = step.moment }) (own_calls numbers (after s step.call) h)

-- those of a pass
abbrev pub owned : View → List Own
owned v = own_calls v.numbers (opening v.base) v.seen

-- those, after what the history began with and no calls
abbrev pub AreOwned : View → Opening → List Step → List Own → Type 0
AreOwned v start earlier own = (start ≡ v.base) × (earlier ≡ []) × (own ≡ owned v)

-- A channel stands for all that the pass has seen, in which these are the pass's own calls, and which led to this state.
pub record Saw {C : Type 0} (stands : C → Opening → List Step → Type 0) (v : View) (own : List Own) (s : State) : Type 0 where
  pub channel : C
  pub calls : StandsCounting stands channel v.base v.seen
  pub own_all : owned v ≡ own
  pub state : state_seen v ≡ s

-- At a front of this history the calls with these numbers were these, and they and the others had led to this state.
abbrev pub Stood : Opening → List Step → List ℕ → List Own → State → Type 0
Stood o h numbers own s = (front : List Step) × IsPrefix front h × (own_calls numbers (opening o) front ≡ own) × (state_after (opening o) front ≡ s)

-- each of these calls carries this number
abbrev pub AreUnder : ℕ → List Step → Type 0
AreUnder number [] = Unit {0}
AreUnder number (step ∷ h) = (step.pass ≡ number) × AreUnder number h

-- From a view to one that has seen as much or more, and made these calls in it, all under this number.
pub record Went (number : ℕ) (v w : View) (more : List Own) : Type 0 where
  pub base : w.base ≡ v.base
  pub passes : w.passes ≡ v.passes
  pub numbers : w.numbers ≡ v.numbers
  pub begins : IsPrefix v.seen w.seen
  pub under : AreUnder number (calls_by v.numbers begins.0)
  pub owned : owned w ≡ owned v ++ more

-- it made calls of which P is true after those that it had made
abbrev pub WentBy : ℕ → View → View → (List Own → List Own → Type 0) → Type 0
WentBy number v w P = (more : List Own) × Went number v w more × P (owned v) more

-- The same pass after some calls. What it has seen begins with what it had seen, and of what is new its own calls carry its number.
pub record Later (p q : Known) : Type 0 where
  pub table : q.table_id ≡ p.table_id
  pub number : q.number ≡ p.number
  pub base : q.view.base ≡ p.view.base
  pub passes : q.view.passes ≡ p.view.passes
  pub numbers : q.view.numbers ≡ p.view.numbers
  pub begins : IsPrefix p.view.seen q.view.seen
  pub under : AreUnder p.number (calls_by p.view.numbers begins.0)

-- The ticket was asked for in the state that was found, and a flush followed where it was No, unless no more calls are counted.
abbrev pub Settles : {C : Type 0} → (C → Opening → List Step → Type 0) → ℕ → View → View → Ticket → Bool → Type 0
Settles stands number v w ticket sure = WentBy number v w (λ earlier more. Ends (Saw stands w) (length w.seen) ticket earlier more sure)

-- A channel stands for all that the pass has seen, of which each call was answered as the machine answers it.
abbrev pub SawAll : {C : Type 0} → (C → Opening → List Step → Type 0) → (C → Bool) → View → Type 0
SawAll stands tells v = (c : _) × IsSeen stands tells c v

-- in the lock's state the ticket was so, and these calls were made for it
abbrev pub SettledBy : Settled → ℕ → ℕ → View → List Step → Bool → Type 0
SettledBy Yes by moment k calls sure = (calls ≡ []) × (sure ≡ true)
SettledBy No by moment k calls sure = (reply : Result (Unit {0}) FlushRefused) × (calls ≡ made_if (not (is_spent_flush reply)) (step by (Flush reply) moment)) × Bounds (is_spent_flush reply) (2 ^ 64 - 1025) (length k.seen) × (sure ≡ is_ok reply)
SettledBy InDoubt by moment k calls sure = (calls ≡ []) × (sure ≡ false)

-- With the lock, it asked for the ticket, and flushed where it was No.
abbrev pub MakesSettled : {C : Type 0} → (C → Opening → List Step → Type 0) → TableId → (C → ℕ) → Ticket → Bool → Holder C → Holder C → Type 0
MakesSettled stands table moment ticket sure old new =
    (calls : List Step) × Makes stands table calls old new × SettledBy (settled (state_seen old.seat.me.0) ticket) old.by (moment new.home.channel) old.seat.me.0 calls sure

pub under-append : (number : ℕ) (a b : List Step) → AreUnder number a → AreUnder number b → AreUnder number (a ++ b)
under-append number [] b x y = y
under-append number (step ∷ a) b x y = (x.0, under-append number a b x.1 y)

-- calls after others, with the same numbers
pub under_then : (number : ℕ) (ns ms : List ℕ) (a b : List Step) → ms ≡ ns → AreUnder number (calls_by ns a) → AreUnder number (calls_by ms b) → AreUnder number (calls_by ns (a ++ b))
under_then number ns ms a b same x y =
    subst (AreUnder number) (sym (calls_by-append ns a b)) (under-append number (calls_by ns a) (calls_by ns b) x (subst (λ (l : List ℕ). AreUnder number (calls_by l b)) same y))

pub later_none : (p : Known) → Later p p
later_none p = record { table = refl; number = refl; base = refl; passes = refl; numbers = refl; begins = ([], append-nil p.view.seen); under = tt }

pub later_then : (p q r : Known) → Later p q → Later q r → Later p r
later_then p q r f g = record {
  table = g.table ∙ f.table;
  number = g.number ∙ f.number;
  base = g.base ∙ f.base;
  passes = g.passes ∙ f.passes;
  numbers = g.numbers ∙ f.numbers;
  begins = (f.begins.0 ++ g.begins.0, sym (append_assoc p.view.seen f.begins.0 g.begins.0) ∙ ap (λ (l : List Step). l ++ g.begins.0) f.begins.1 ∙ g.begins.1);
  under = under_then p.number p.view.numbers q.view.numbers f.begins.0 g.begins.0 f.numbers f.under (subst (λ (n : ℕ). AreUnder n (calls_by q.view.numbers g.begins.0)) f.number g.under);
}
