-- Rounds one after the other.
use Rattle.std.proofs.Common.{◌≡◌, List, [], ◌∷◌, ◌++◌, Bool, false, true≢false, Option, Some, None, Ok, Err, ◌∙◌, refl, sym, ap, subst}
use Rattle.std.specs.List.{AllByRecursion}
use Rattle.flume_host.specs.Links.{LinkTold}
use Rattle.selectors.specs.declared.selector.Selector.{Selector}
use Rattle.source_put.specs.Chains.{Meaning}
use Rattle.source_put.specs.Into.{Into}
use Rattle.source_put.specs.Tries.{Giving}
use Rattle.source_put.specs.declared.chain.HostNames.{HostNames}
use Rattle.source_worker.specs.Rounds.{Answer, Found, IsStopped, IsUnserved, Makes, MendsIf, Round, Rounds, Serves, Serving, Session, WorksBy, is_due}
use Rattle.source_worker.specs.declared.ends.LinkEnd.{LinkEnd}
use Rattle.source_worker.specs.declared.ends.SessionRules.{SessionRules}

all_push : {A : Type 0} (P : A → Type 0) (l : List A) (x : A) → AllByRecursion P l → P x → AllByRecursion P (l ++ x ∷ [])
all_push P [] x all one = (one, tt)
all_push P (y ∷ l) x all one = (all.0, all_push P l x all.1 one)

module _ {S : Type 0} (Sessions : S → Option LinkTold → LinkEnd → S → Option LinkTold → Type 0) (Mends : S → List Answer → S → Type 0) where
  none_due : (due : Bool) (found : Found) → is_due due found ≡ false → due ≡ false
  none_due due (Ok (Some end)) is = absurd (true≢false is)
  none_due due (Ok None) is = is
  none_due due (Err failed) is = is

  -- an accept after which no mend was due
  pub not_due : (old new : Serving S) (found : Found) → Serves Sessions found old new → is_due new.due found ≡ false → (answers : List Answer) × Makes Sessions Mends (record { found = found; mends = answers }) old new
  not_due old new found serves is = (
    [],
    record {
      between = new;
      serves = serves;
      mends = subst (λ (b : Bool). MendsIf Sessions Mends b new.into [] new.into) (sym (ap (λ (d : Bool). is_due d found) (sym serves.due) ∙ is)) (refl, refl);
      heard = refl;
      due = none_due new.due found is;
    },
  )

  rounds_push : (rounds : List Round) (round : Round) (a b c : Serving S) → Rounds Sessions Mends rounds a b → Makes Sessions Mends round b c → Rounds Sessions Mends (rounds ++ round ∷ []) a c
  rounds_push [] round a b c same one = (c, subst (λ (s : Serving S). Makes Sessions Mends round s c) same one, refl)
  rounds_push (r ∷ rounds) round a b c (next, first, rest) one = (next, first, rounds_push rounds round next b c rest one)

  -- rounds so far, of which none was told to stop
  pub record WorkedSo (built : Bool) (old now : Serving S) : Type 0 where
    pub front : List Round
    pub made : Rounds Sessions Mends front old now
    pub going : AllByRecursion (λ (round : Round). IsStopped round.found → ⊥) front
    pub unserved : built ≡ false → AllByRecursion (λ (round : Round). IsUnserved round.found) front

  -- no round yet
  pub worked_none : (built : Bool) (old : Serving S) → WorkedSo built old old
  worked_none built old = record { front = []; made = refl; going = tt; unserved = λ is. tt }

  -- one more, which was not told to stop
  pub worked_more : (built : Bool) (old now new : Serving S) (round : Round) → WorkedSo built old now → Makes Sessions Mends round now new → (IsStopped round.found → ⊥) → (built ≡ false → IsUnserved round.found) → WorkedSo built old new
  worked_more built old now new round so one going unserved = record {
    front = so.front ++ round ∷ [];
    made = rounds_push so.front round old now new so.made one;
    going = all_push (λ (r : Round). IsStopped r.found → ⊥) so.front round so.going going;
    unserved = λ is. all_push (λ (r : Round). IsUnserved r.found) so.front round (so.unserved is) (unserved is);
  }

  -- the last one
  pub worked_last : (built : Bool) (old now new : Serving S) (round : Round) → WorkedSo built old now → Makes Sessions Mends round now new → (built ≡ false → IsUnserved round.found) → WorksBy Sessions Mends built old new
  worked_last built old now new round so one unserved = record {
    front = so.front;
    last = round;
    made = rounds_push so.front round old now new so.made one;
    going = so.going;
    unserved = λ is. all_push (λ (r : Round). IsUnserved r.found) so.front round (so.unserved is) (unserved is);
  }

-- a round by the same selector and names
pub by_same : {F B : Type 0} (Put : Giving F) (Means : Meaning B) (rules : SessionRules) (Mends : Into F B → List Answer → Into F B → Type 0) (selector selector' : Selector) (host host' : HostNames) (round : Round) (a b : Serving (Into F B))
    → selector ≡ selector' → host ≡ host' → Makes (Session rules Put selector Means host) Mends round a b → Makes (Session rules Put selector' Means host') Mends round a b
by_same Put Means rules Mends selector selector' host host' round a b s h one =
    subst (λ (x : Selector × HostNames). Makes (Session rules Put x.0 Means x.1) Mends round a b) (λ k. (s k, h k)) one
