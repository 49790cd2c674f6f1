-- Streams that the host hands out and takes back in turn.
use Rattle.std.proofs.Common.{◌≡◌, ◌∙◌, ℕ, List, [], ◌∷◌, ◌++◌, Option, map, refl, sym, ap, subst}
use Rattle.flume_host.specs.HostState.{HostState}
use Rattle.crew.specs.declared.draining.DrainWorker.{DrainWorker}
use Rattle.run_opening.specs.Streams.{DrainKept, InTurn, IsButKept, IsButTaken, TalkKept, TalkTaken, last_or}
use Rattle.run_staff.specs.declared.workers.LineEnded.{LineEnded}

-- one step more
pub turn_push : {A : Type 0} (Step : A → HostState → HostState → Type 0) (xs : List A) (a : A) (old mid new : HostState) → InTurn Step xs old mid → Step a mid new
    → InTurn Step (xs ++ a ∷ []) old new
turn_push Step [] a old mid new before one = (new, subst (λ (s : HostState). Step a s new) before one, refl)
turn_push Step (x ∷ xs) a old mid new before one = (before.0, before.1, turn_push Step xs a before.0 mid new before.2 one)

-- the last of them counts
pub last_push : {A B : Type 0} (f : A → B) (before : B) (xs : List A) (a : A) → last_or before (map f (xs ++ a ∷ [])) ≡ f a
last_push f before [] a = refl
last_push f before (x ∷ xs) a = last_push f (f x) xs a

-- ---- nothing else changes

-- what each step keeps is kept by all
pub turn_chain : {A : Type 0} (Step : A → HostState → HostState → Type 0) (Same : HostState → HostState → Type 0) → ((s : HostState) → Same s s)
    → ((f g h : HostState) → Same f g → Same g h → Same f h) → ((a : A) (f g : HostState) → Step a f g → Same f g)
    → (xs : List A) (old new : HostState) → InTurn Step xs old new → Same old new
turn_chain Step Same self then each [] old new is = subst (λ (s : HostState). Same old s) (sym is) (self old)
turn_chain Step Same self then each (a ∷ xs) old new is =
    then old is.0 new (each a old is.0 is.1) (turn_chain Step Same self then each xs is.0 new is.2)

taken_then : (f g h : HostState) → IsButTaken f g → IsButTaken g h → IsButTaken f h
taken_then f g h first second = second ∙ ap (λ (s : HostState). record s { input = h.input; output = h.output; handed = h.handed }) first

-- what changes only streams and faults, and does so again, changes only these
pub kept_then : (f g h : HostState) → IsButKept f g → IsButKept g h → IsButKept f h
kept_then f g h first second = second ∙ ap (λ (s : HostState). record s { input = h.input; output = h.output; handed = h.handed; faults = h.faults }) first

module _ {I : Type 0} (left : I → Option (List ℕ)) (read_faults : I → ℕ) where
  drain_rest : (worker : DrainWorker I) (f g : HostState) → DrainKept left read_faults worker f g → IsButKept f g
  drain_rest worker f g is =
      is.state ∙ (λ i. record f {
        input = sym (ap (λ (s : HostState). s.input) is.state) i;
        output = sym (ap (λ (s : HostState). s.output) is.state) i;
        handed = sym (ap (λ (s : HostState). s.handed) is.state) i;
        faults = g.faults;
      })

  -- inputs that come back one after the other change only streams and faults
  pub drains_rest : (drains : List (DrainWorker I)) (f g : HostState) → InTurn (DrainKept left read_faults) drains f g → IsButKept f g
  drains_rest = turn_chain (DrainKept left read_faults) IsButKept (λ s. refl) kept_then drain_rest

  module _ {O : Type 0} (took handed : O → Option (List ℕ)) (write_faults : O → ℕ) where
    taken_rest : (talk : LineEnded I O) (f g : HostState) → TalkTaken left read_faults took handed write_faults talk f g → IsButTaken f g
    taken_rest talk f g is =
        is.state ∙ (λ i. record f {
          input = sym (ap (λ (s : HostState). s.input) is.state) i;
          output = sym (ap (λ (s : HostState). s.output) is.state) i;
          handed = sym (ap (λ (s : HostState). s.handed) is.state) i;
        })

    -- sessions on streams that are handed out one after the other change only the streams
    pub all_taken_rest : (talks : List (LineEnded I O)) (f g : HostState) → InTurn (TalkTaken left read_faults took handed write_faults) talks f g → IsButTaken f g
    all_taken_rest = turn_chain (TalkTaken left read_faults took handed write_faults) IsButTaken (λ s. refl) taken_then taken_rest

    talk_rest : (talk : LineEnded I O) (f g : HostState) → TalkKept left read_faults took handed write_faults talk f g → IsButKept f g
    talk_rest talk f g is =
        is.state ∙ (λ i. record f {
          input = sym (ap (λ (s : HostState). s.input) is.state) i;
          output = sym (ap (λ (s : HostState). s.output) is.state) i;
          handed = sym (ap (λ (s : HostState). s.handed) is.state) i;
          faults = g.faults;
        })

    -- sessions on streams that come back one after the other change only streams and faults
    pub talks_rest : (talks : List (LineEnded I O)) (f g : HostState) → InTurn (TalkKept left read_faults took handed write_faults) talks f g → IsButKept f g
    talks_rest = turn_chain (TalkKept left read_faults took handed write_faults) IsButKept (λ s. refl) kept_then talk_rest
