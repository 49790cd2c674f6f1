-- Dialers that are handed out and come back, one after the other.
use Rattle.std.proofs.Common.{◌≡◌, ◌∙◌, ◌<◌, ◌+◌, ℕ, List, [], ◌∷◌, ◌++◌, length, length-append, map, get_or, take, Bool, true, false, Option, Some, None, refl, sym, ap, subst, arith, append_assoc, string_bytes, true≢false}
use Rattle.std.proofs.lemmas.List.{append-nil, map-append, take_more}
use Rattle.std.proofs.lemmas.List.Concat.{flat_map-append}
use Rattle.flume_host.specs.HostState.{Folders, HostState}
use Rattle.flume_host.specs.HandedOut.{CameBack, GoesOut, HandedOut, TakesBack, fresh_links}
use Rattle.flume_host.specs.Listens.{Endpoint, IsFrom, no_links}
use Rattle.flume_host.specs.Told.{Tells}
use Rattle.flume_host.specs.declared.names.NameRefused.{NameRefused}
use Rattle.flume_host.specs.declared.names.NameRefused.TheVariants.{NoMemory}
use Rattle.flume_host.proofs.Telling.{follows, tells_more, tells_same}
use Rattle.agent_plan.specs.declared.plan.SinkPlan.{SinkPlan}
use Rattle.agent_plan.specs.declared.plan.SinkKind.{SinkKind}
use Rattle.agent_plan.specs.declared.plan.SinkKind.TheVariants as plan
use Rattle.agent_sinks.specs.declared.sink.AgentSink.{AgentSink}
use Rattle.agent_sinks.specs.declared.sink.AgentSink.TheVariants.{Null, Roll, Avro, Boxed}
use Rattle.avro_ends.specs.Dialing.{DialTold}
use Rattle.agent_outside.specs.Dials.{AreDialed, DialersBack, DialersOut, DialsOpened, DialsRefused, FailsBy, HasNewDial, HaveNewDials, IsDialed, dial_back, dial_of, dials_back, dials_of}
use Rattle.agent_outside.specs.Ends.{AllBack, AreOut, count_at, ends_of, is_end}
use Rattle.agent_outside.specs.Listening.{AllOut, CameUnused, unused}
use Rattle.agent_outside.specs.Sinks.{AreOfPlans, IsOfKind}
use Rattle.agent_outside.proofs.Ending.{all_one, all_then, count_append, count_no, count_yes, end_decides, ends_append}
use Rattle.agent_outside.proofs.Listening.{Between, all_out_then, between, is_from, out_unused, same_ends, same_fresh, whole}

-- ---- what the host shows

-- one dialer came back to its host
pub dial_one : (one : CameBack) (old new : HostState) (dialers : Option HandedOut) → new ≡ record old { dialers = dialers } → TakesBack one old.dialers dialers → DialersBack (one ∷ []) old new
dial_one one old new dialers is back =
    let told : new.dialers ≡ dialers = ap (λ (s : HostState). s.dialers) is in
    record {
      state = is ∙ ap (λ (l : Option HandedOut). record old { dialers = l }) (sym told);
      told = subst (λ (l : Option HandedOut). Tells old.dialers l (AllBack (one ∷ []))) (sym told) (tells_more old.dialers dialers _ (AllBack (one ∷ [])) (λ t u _ _ b. all_one one t u b) back);
    }

-- where no dialer came back, the host is as it was
pub dials_none : (f : HostState) → DialersBack [] f f
dials_none f = record { state = refl; told = tells_same f.dialers (AllBack []) (λ t _. record { out = λ host port. omega arith; back = sym (append-nil t.back) }) }

-- one after the other
pub dials_then : (a b : List CameBack) (f g h : HostState) → DialersBack a f g → DialersBack b g h → DialersBack (b ++ a) f h
dials_then a b f g h first second = record {
  state = second.state ∙ ap (λ (s : HostState). record s { dialers = h.dialers }) first.state;
  told = follows f.dialers g.dialers h.dialers (AllBack a) (AllBack b) (AllBack (b ++ a)) (λ t u v _ _ _ x y. all_then a b t u v x y) first.told second.told;
}

-- where no dialer went out, the host is as it was
pub out_none : (f : HostState) → DialersOut [] f f
out_none f = record { state = refl; told = tells_same f.dialers (AllOut []) (λ t _. record { out = λ host port. omega arith; back = refl }) }

-- one of this address and port more
all_out_one : (end : Endpoint) (old new : HandedOut) → GoesOut end.host end.port old new → AllOut (end ∷ []) old new
all_out_one end old new out = record { out = λ host port. count host port (is_end host port end) refl; back = out.back }
  where
    count : (host : List ℕ) (port : ℕ) (b : Bool) → is_end host port end ≡ b → new.out host port ≡ old.out host port + count_at host port (end ∷ [])
    count host port true is =
        let both = (end_decides host port end).0 is in
        (λ i. new.out (sym both.1 i) (sym both.0 i)) ∙ out.more ∙ (λ i. old.out (both.1 i) (both.0 i) + 1)
        ∙ ap (λ (n : ℕ). old.out host port + n) (sym (count_yes host port end is))
    count host port false is =
        let other : ((host ≡ end.host) × (port ≡ end.port) → ⊥) = λ both. true≢false (sym ((end_decides host port end).1 (sym both.1, sym both.0)) ∙ is) in
        let none = count_no host port end is in
        let same = out.others host port other in
        omega (arith, none, same)

-- one dialer went out, for its address and port
pub out_one : (end : Endpoint) (old new : HostState) (dialers : Option HandedOut) → new ≡ record old { dialers = dialers } → Tells old.dialers dialers (GoesOut end.host end.port) → DialersOut (end ∷ []) old new
out_one end old new dialers is out =
    let told : new.dialers ≡ dialers = ap (λ (s : HostState). s.dialers) is in
    record {
      state = is ∙ ap (λ (l : Option HandedOut). record old { dialers = l }) (sym told);
      told = subst (λ (l : Option HandedOut). Tells old.dialers l (AllOut (end ∷ []))) (sym told) (tells_more old.dialers dialers _ (AllOut (end ∷ [])) (λ t u _ _ b. all_out_one end t u b) out);
    }

-- some dialers went out, and then more
pub out_then : (a b : List Endpoint) (f g h : HostState) → DialersOut a f g → DialersOut b g h → DialersOut (a ++ b) f h
out_then a b f g h first second = record {
  state = second.state ∙ ap (λ (s : HostState). record s { dialers = h.dialers }) first.state;
  told = follows f.dialers g.dialers h.dialers (AllOut a) (AllOut b) (AllOut (a ++ b)) (λ t u v _ _ _ x y. all_out_then a b t u v x y) first.told second.told;
}

-- what is still out once some came back
rest_out : (a b : List CameBack) (f g : Option HandedOut) → AreOut (ends_of (a ++ b)) f → Tells f g (AllBack b) → AreOut (ends_of a) g
rest_out a b None None out tells = tt
rest_out a b None (Some g) out tells = absurd tells
rest_out a b (Some f) None out tells = absurd tells
rest_out a b (Some f) (Some g) out tells = λ host port.
    let both = ap (count_at host port) (ends_append a b) ∙ count_append host port (ends_of a) (ends_of b) in
    omega (arith, out host port, tells.out host port, both)

-- ---- the last of some sinks

-- one plan more
pub dials_more : (plans : List SinkPlan) (i : ℕ) (d : SinkPlan) → i < length plans → dials_of (take (i + 1) plans) ≡ dials_of (take i plans) ++ dial_of (get_or plans i d).kind
dials_more plans i d below =
    ap dials_of (take_more plans i d below) ∙ flat_map-append (λ (plan : SinkPlan). dial_of plan.kind) (take i plans) (get_or plans i d ∷ [])
    ∙ ap (λ (l : List Endpoint). dials_of (take i plans) ++ l) (append-nil (dial_of (get_or plans i d).kind))

module _ {R A B : Type 0} (dial : DialTold A) where
  -- the dialer of one sink more stands after those of the others
  pub dials_last : (plans : List SinkPlan) (sinks : List (AgentSink R A B)) (sink : AgentSink R A B) (d : SinkPlan) → length sinks < length plans
      → dials_back dial plans (sinks ++ sink ∷ []) ≡ dials_back dial plans sinks ++ dial_back dial (get_or plans (length sinks) d).kind sink
  dials_last [] sinks sink d below = absurd (omega (arith, below))
  dials_last (p ∷ plans) [] sink d below = append-nil (dial_back dial p.kind sink)
  dials_last (p ∷ plans) (s ∷ sinks) sink d below =
      ap (λ (l : List CameBack). dial_back dial p.kind s ++ l) (dials_last plans sinks sink d (omega (arith, below)))
      ∙ sym (append_assoc (dial_back dial p.kind s) (dials_back dial plans sinks) (dial_back dial (get_or plans (length sinks) d).kind sink))

  -- one sink more has a new dialer, for its plan
  pub new_last : (all : Option HandedOut) (plans : List SinkPlan) (sinks : List (AgentSink R A B)) (sink : AgentSink R A B) (d : SinkPlan) → length sinks < length plans → HaveNewDials dial all plans sinks
      → HasNewDial dial all (get_or plans (length sinks) d).kind sink → HaveNewDials dial all plans (sinks ++ sink ∷ [])
  new_last all [] sinks sink d below have is = absurd (omega (arith, below))
  new_last all (p ∷ plans) [] sink d below have is = (is, tt)
  new_last all (p ∷ plans) (s ∷ sinks) sink d below have is = (have.0, new_last all plans sinks sink d (omega (arith, below)) have.1 is)

  -- those but the last one, and that
  pub dialed_last : (plans : List SinkPlan) (sinks : List (AgentSink R A B)) (sink : AgentSink R A B) (d : SinkPlan) → length sinks < length plans → AreDialed dial plans (sinks ++ sink ∷ [])
      → AreDialed dial plans sinks × IsDialed dial (get_or plans (length sinks) d).kind sink
  dialed_last [] sinks sink d below are = absurd (omega (arith, below))
  dialed_last (p ∷ plans) [] sink d below are = (tt, are.0)
  dialed_last (p ∷ plans) (s ∷ sinks) sink d below are =
      let rest = dialed_last plans sinks sink d (omega (arith, below)) are.1 in
      ((are.0, rest.0), rest.1)

  -- ---- new dialers

  -- a sink with a new dialer is one dialed for the address and port of its plan
  pub dialed_new : (all : Option HandedOut) (kind : SinkKind) (sink : AgentSink R A B) → HasNewDial dial all kind sink → IsDialed dial kind sink
  dialed_new all plan.Null sink has = tt
  dialed_new all (plan.Roll folder interval) sink has = tt
  dialed_new all (plan.Avro host port) (Null sink) has = tt
  dialed_new all (plan.Avro host port) (Roll sink) has = tt
  dialed_new all (plan.Avro host port) (Avro sink) has = subst (λ (e : Option Endpoint). IsFrom (string_bytes host) port e) (sym has.from) (is_from (string_bytes host) port all)
  dialed_new all (plan.Avro host port) (Boxed sink) has = tt
  dialed_new all (plan.Plugin name) sink has = tt

  -- they may come back
  pub are_dialed : (all : Option HandedOut) (plans : List SinkPlan) (sinks : List (AgentSink R A B)) → HaveNewDials dial all plans sinks → AreDialed dial plans sinks
  are_dialed all plans [] have = tt
  are_dialed all [] (s ∷ sinks) have = absurd have
  are_dialed all (p ∷ plans) (s ∷ sinks) have = (dialed_new all p.kind s have.0, are_dialed all plans sinks have.1)

  -- a dialer that is new now was so before
  pub new_before : (f g : Option HandedOut) (P : HandedOut → HandedOut → Type 0) → Tells f g P → (kind : SinkKind) (sink : AgentSink R A B) → HasNewDial dial g kind sink → HasNewDial dial f kind sink
  new_before f g P tells plan.Null sink has = tt
  new_before f g P tells (plan.Roll folder interval) sink has = tt
  new_before f g P tells (plan.Avro host port) (Null sink) has = tt
  new_before f g P tells (plan.Avro host port) (Roll sink) has = tt
  new_before f g P tells (plan.Avro host port) (Avro sink) has =
      record { links = has.links ∙ same_fresh f g P tells; from = has.from ∙ same_ends (string_bytes host) port f g P tells; no_faults = has.no_faults; idle = has.idle }
  new_before f g P tells (plan.Avro host port) (Boxed sink) has = tt
  new_before f g P tells (plan.Plugin name) sink has = tt

  -- ---- by their plans

  -- a sink's dialer comes back for the address and port of its kind
  pub one_ends : (f : Folders) (kind : SinkKind) (sink : AgentSink R A B) → IsOfKind f kind sink → ends_of (dial_back dial kind sink) ≡ dial_of kind
  one_ends f plan.Null (Null sink) is = refl
  one_ends f (plan.Roll folder interval) (Roll sink) is = refl
  one_ends f (plan.Avro host port) (Avro sink) is = refl
  one_ends f (plan.Plugin name) (Boxed sink) is = refl
  one_ends f kind sink is = absurd is

  -- they come back for the addresses and ports of their plans
  pub dials_ends : (f : Folders) (plans : List SinkPlan) (sinks : List (AgentSink R A B)) → AreOfPlans f plans sinks → ends_of (dials_back dial plans sinks) ≡ dials_of (take (length sinks) plans)
  dials_ends f plans [] are = refl
  dials_ends f [] (s ∷ sinks) are = absurd are
  dials_ends f (p ∷ plans) (s ∷ sinks) are =
      ends_append (dial_back dial p.kind s) (dials_back dial plans sinks)
      ∙ (λ i. one_ends f p.kind s are.0 i ++ dials_ends f plans sinks are.1 i)

  one_unused : (f : Folders) (t : HandedOut) (all : Option HandedOut) → all ≡ Some t → (kind : SinkKind) (sink : AgentSink R A B) → IsOfKind f kind sink → HasNewDial dial all kind sink
      → dial_back dial kind sink ≡ map unused (dial_of kind)
  one_unused f t all is plan.Null (Null sink) of has = refl
  one_unused f t all is (plan.Roll folder interval) (Roll sink) of has = refl
  one_unused f t all is (plan.Avro host port) (Avro sink) of has =
      let links : dial.links sink ≡ Some no_links = has.links ∙ ap fresh_links is in
      λ i. record { host = string_bytes host; port = port; told = links i; waits = 0; faults = has.no_faults i } ∷ []
  one_unused f t all is (plan.Plugin name) (Boxed sink) of has = refl
  one_unused f t all is kind sink of has = absurd of

  -- where the host shows its contents, new ones come back unused
  pub dials_unused : (f : Folders) (t : HandedOut) (all : Option HandedOut) → all ≡ Some t → (plans : List SinkPlan) (sinks : List (AgentSink R A B)) → AreOfPlans f plans sinks → HaveNewDials dial all plans sinks
      → dials_back dial plans sinks ≡ map unused (dials_of (take (length sinks) plans))
  dials_unused f t all is plans [] are have = refl
  dials_unused f t all is [] (s ∷ sinks) are have = absurd are
  dials_unused f t all is (p ∷ plans) (s ∷ sinks) are have =
      let one = one_unused f t all is p.kind s are.0 have.0 in
      let rest = dials_unused f t all is plans sinks are.1 have.1 in
      (λ i. one i ++ rest i) ∙ sym (map-append unused (dial_of p.kind) (dials_of (take (length sinks) plans)))

  -- ---- one after the other

  module _ (plans : List SinkPlan) where
    -- where no sink is opened yet, no dialer was handed out
    pub none_dialed : (s : HostState) → DialsOpened {R = R} {B = B} dial plans s s []
    none_dialed s = record { made = tt; out = out_none s }

    -- one more has a dialer, if it has one by its plan
    pub dialed_more : (s t u : HostState) (sinks after : List (AgentSink R A B)) (sink : AgentSink R A B) (d : SinkPlan) → length sinks < length plans → DialsOpened dial plans s t sinks
        → HasNewDial dial t.dialers (get_or plans (length sinks) d).kind sink → after ≡ sinks ++ sink ∷ [] → DialersOut (dial_of (get_or plans (length sinks) d).kind) t u → DialsOpened dial plans s u after
    dialed_more s t u sinks after sink d below opened has is out =
        let kind = (get_or plans (length sinks) d).kind in
        let ends = dials_of (take (length sinks) plans) in
        let more : length (sinks ++ sink ∷ []) ≡ length sinks + 1 = length-append sinks (sink ∷ []) in
        subst (DialsOpened dial plans s u) (sym is) (record {
          made = new_last s.dialers plans sinks sink d below opened.made (new_before s.dialers t.dialers (AllOut ends) opened.out.told kind sink has);
          out = subst (λ (l : List Endpoint). DialersOut l s u) (sym (dials_more plans (length sinks) d below) ∙ ap (λ (n : ℕ). dials_of (take n plans)) (sym more)) (out_then ends (dial_of kind) s t u opened.out out);
        })

    -- one was refused, and all came back
    pub dials_refused : (f : Folders) (refused : NameRefused) (others : List Endpoint) (s t u v : HostState) (sinks : List (AgentSink R A B)) → AreOfPlans f plans sinks → DialsOpened dial plans s t sinks
        → DialsRefused refused others t u → DialersBack (dials_back dial plans sinks) u v → DialsRefused refused (dials_of (take (length sinks) plans) ++ others) s v
    dials_refused f refused others s t u v sinks are opened un back =
        let ends = dials_of (take (length sinks) plans) in
        let backs = dials_back dial plans sinks in
        let first : t.faults ≡ s.faults = ap (λ (x : HostState). x.faults) opened.out.state in
        let last : v.faults ≡ u.faults = ap (λ (x : HostState). x.faults) back.state in
        let state : v ≡ record s { dialers = v.dialers; faults = u.faults } =
        back.state ∙ ap (λ (x : HostState). record x { dialers = v.dialers }) un.state ∙ ap (λ (x : HostState). record x { dialers = v.dialers; faults = u.faults }) opened.out.state in
        record {
          state = state ∙ ap (λ (n : ℕ). record s { dialers = v.dialers; faults = n }) (sym last);
          faults = subst (λ (x : ℕ × ℕ). FailsBy refused x.0 x.1) (λ i. (first i, sym last i)) un.faults;
          told = follows s.dialers u.dialers v.dialers (Between ends others) (AllBack backs) (CameUnused (ends ++ others))
              (λ x y z is _ _ p q. whole ends others backs x y z (dials_unused f x s.dialers is plans sinks are opened.made) p q)
              (follows s.dialers t.dialers u.dialers (AllOut ends) (CameUnused others) (Between ends others) (λ x y z _ _ _ p q. between ends others x y z p q) opened.out.told un.told) back.told;
        }

    -- all that were opened came back, and the host's dialers were as they are between
    pub opened_and_back : (f : Folders) (s t u v : HostState) (sinks : List (AgentSink R A B)) → AreOfPlans f plans sinks → DialsOpened dial plans s t sinks → u.dialers ≡ t.dialers
        → DialersBack (dials_back dial plans sinks) u v → Tells s.dialers v.dialers (CameUnused (dials_of (take (length sinks) plans)))
    opened_and_back f s t u v sinks are opened same back =
        let ends = dials_of (take (length sinks) plans) in
        let backs = dials_back dial plans sinks in
        let told = subst (λ (l : Option HandedOut). Tells l v.dialers (AllBack backs)) same back.told in
        subst (λ (l : List Endpoint). Tells s.dialers v.dialers (CameUnused l)) (append-nil ends)
        (follows s.dialers t.dialers v.dialers (AllOut ends) (AllBack backs) (CameUnused (ends ++ []))
        (λ x y z is _ _ p q. whole ends [] backs x y z (dials_unused f x s.dialers is plans sinks are opened.made)
        (between ends [] x y y p (record { out = λ host port. refl; back = sym (append-nil y.back) })) q)
        opened.out.told told)

    -- those that were opened may come back after a refusal
    pub dials_may_come_back : (f : Folders) (refused : NameRefused) (others : List Endpoint) (s t u : HostState) (sinks : List (AgentSink R A B)) → AreOfPlans f plans sinks → DialsOpened dial plans s t sinks
        → DialsRefused refused others t u → AreOut (ends_of (dials_back dial plans sinks)) u.dialers
    dials_may_come_back f refused others s t u sinks are opened un =
        subst (λ (l : List Endpoint). AreOut l u.dialers) (sym (dials_ends f plans sinks are)) (out_unused (dials_of (take (length sinks) plans)) others s.dialers t.dialers u.dialers opened.out.told un.told)

  -- ---- the last of some sinks comes back

  last_split : (plans : List SinkPlan) (sinks : List (AgentSink R A B)) (sink : AgentSink R A B) (plan : SinkPlan) → length sinks < length plans → get_or plans (length sinks) plan ≡ plan
      → dials_back dial plans (sinks ++ sink ∷ []) ≡ dials_back dial plans sinks ++ dial_back dial plan.kind sink
  last_split plans sinks sink plan below is = dials_last plans sinks sink plan below ∙ ap (λ (p : SinkPlan). dials_back dial plans sinks ++ dial_back dial p.kind sink) is

  -- it may
  pub out_of_last : (plans : List SinkPlan) (sinks : List (AgentSink R A B)) (sink : AgentSink R A B) (plan : SinkPlan) (all : Option HandedOut) → length sinks < length plans → get_or plans (length sinks) plan ≡ plan
      → AreOut (ends_of (dials_back dial plans (sinks ++ sink ∷ []))) all → AreOut (ends_of (dial_back dial plan.kind sink)) all
  out_of_last plans sinks sink plan None below is out = tt
  out_of_last plans sinks sink plan (Some all) below is out = λ host port.
      let both = ap (λ (l : List CameBack). count_at host port (ends_of l)) (last_split plans sinks sink plan below is)
      ∙ ap (count_at host port) (ends_append (dials_back dial plans sinks) (dial_back dial plan.kind sink))
      ∙ count_append host port (ends_of (dials_back dial plans sinks)) (ends_of (dial_back dial plan.kind sink)) in
      omega (arith, out host port, both)

  -- then the others may, and once they have, all have
  pub came_last : (plans : List SinkPlan) (sinks : List (AgentSink R A B)) (sink : AgentSink R A B) (plan : SinkPlan) (old new : HostState) → length sinks < length plans → get_or plans (length sinks) plan ≡ plan
      → AreOut (ends_of (dials_back dial plans (sinks ++ sink ∷ []))) old.dialers → DialersBack (dial_back dial plan.kind sink) old new
      → AreOut (ends_of (dials_back dial plans sinks)) new.dialers
      × ((end : HostState) → DialersBack (dials_back dial plans sinks) new end → DialersBack (dials_back dial plans (sinks ++ sink ∷ [])) old end)
  came_last plans sinks sink plan old new below is out back =
      let split = last_split plans sinks sink plan below is in
      let others = dials_back dial plans sinks in
      let one = dial_back dial plan.kind sink in (
        rest_out others one old.dialers new.dialers (subst (λ (l : List CameBack). AreOut (ends_of l) old.dialers) split out) back.told,
        λ end came. subst (λ (l : List CameBack). DialersBack l old end) (sym split) (dials_then one others old new end back came),
      )

  -- one was opened, and there was no memory for it
  pub unopened_dial : (f : Folders) (plan : SinkPlan) (sink : AgentSink R A B) (s t u : HostState) → IsOfKind f plan.kind sink → HasNewDial dial s.dialers plan.kind sink → DialersOut (dial_of plan.kind) s t
      → DialersBack (dial_back dial plan.kind sink) t u → DialsRefused NoMemory (dials_of (plan ∷ [])) s u
  unopened_dial f plan sink s t u of has out back =
      let ends = dial_of plan.kind in
      let backs = dial_back dial plan.kind sink in
      let state : u ≡ record s { dialers = u.dialers } = back.state ∙ ap (λ (x : HostState). record x { dialers = u.dialers }) out.state in
      let faults : u.faults ≡ s.faults = ap (λ (x : HostState). x.faults) state in
      record {
        state = state ∙ ap (λ (n : ℕ). record s { dialers = u.dialers; faults = n }) (sym faults);
        faults = omega (arith, faults);
        told = follows s.dialers t.dialers u.dialers (AllOut ends) (AllBack backs) (CameUnused (ends ++ []))
            (λ x y z is _ _ p q. whole ends [] backs x y z (one_unused f x s.dialers is plan.kind sink of has)
            (between ends [] x y y p (record { out = λ host port. refl; back = sym (append-nil y.back) })) q)
            out.told back.told;
      }
