-- Listeners are opened, one after the other.
use Rattle.std.proofs.Common.{◌≡◌, ◌∙◌, ◌<◌, ◌+◌, ◌⊎◌, inl, inr, suc, Err, ℕ, List, [], ◌∷◌, ◌++◌, map, length, get_or, reverse, take, All, Option, Some, None, refl, sym, ap, subst, arith, append_assoc}
use Rattle.std.proofs.lemmas.List.{append-nil, get_or-take, length-take, map-append, reverse-append, take_more}
use Rattle.flume_host.specs.HostState.{HostState}
use Rattle.flume_host.specs.HandedOut.{CameBack, FaultsBy, HandedOut, IsOut, endpoint_of, fresh_links}
use Rattle.flume_host.specs.Listens.{Endpoint, IsFrom, LinksTold, no_links}
use Rattle.flume_host.specs.Told.{Tells}
use Rattle.flume_host.specs.declared.names.NameRefused.{NameRefused}
use Rattle.flume_host.specs.declared.names.NameRefused.TheVariants.{NoMemory}
use Rattle.flume_host.proofs.Telling.{follows, tells_same}
use Rattle.agent_plan.specs.declared.plan.SourcePlan.{SourcePlan}
use Rattle.agent_outside.specs.declared.listener.SourceListener.{SourceListener}
use Rattle.agent_outside.specs.Ends.{AllBack, AreOfSources, AreOut, ListensAt, ListenersBack, come_back, count_at, end_at, end_back, ends_of}
use Rattle.agent_outside.specs.Listening.{AllOut, CameUnused, EachFresh, IsFresh, ListenerAdded, ListenerUnopened, ListenersOpened, ListenersOut, ListensRefused, unused}
use Rattle.agent_outside.proofs.Ending.{count_append, count_own}

-- ---- what is out

-- a listener that was handed out is out at its address and port
pub out_again : (end : Endpoint) (f g : Option HandedOut) → Tells f g (AllOut (end ∷ [])) → IsOut end.host end.port g
out_again end f None tells = tt
out_again end None (Some g) tells = absurd tells
out_again end (Some f) (Some g) tells = omega (arith, tells.out end.host end.port, count_own end)

-- some listeners were handed out, and then more
pub all_out_then : (a b : List Endpoint) (f g h : HandedOut) → AllOut a f g → AllOut b g h → AllOut (a ++ b) f h
all_out_then a b f g h first second = record { out = λ host port. omega (arith, first.out host port, second.out host port, count_append host port a b); back = second.back ∙ first.back }

listeners_then : (a b : List Endpoint) (f g h : HostState) → ListenersOut a f g → ListenersOut b g h → ListenersOut (a ++ b) f h
listeners_then a b f g h first second = record {
  state = second.state ∙ ap (λ (s : HostState). record s { listeners = h.listeners }) first.state;
  told = follows f.listeners g.listeners h.listeners (AllOut a) (AllOut b) (AllOut (a ++ b)) (λ t u v _ _ _ x y. all_out_then a b t u v x y) first.told second.told;
}

-- ---- what came back unused

-- nothing else changed, the count of faults neither
settled : (f h : HostState) → h ≡ record f { listeners = h.listeners } → h ≡ record f { listeners = h.listeners; faults = h.faults }
settled f h is = is ∙ ap (λ (n : ℕ). record f { listeners = h.listeners; faults = n }) (sym (ap (λ (s : HostState). s.faults) is))

-- what a fresh listener tells of its links does not change over calls
pub same_fresh : (f g : Option HandedOut) (P : HandedOut → HandedOut → Type 0) → Tells f g P → fresh_links g ≡ fresh_links f
same_fresh None None P tells = refl
same_fresh None (Some g) P tells = absurd tells
same_fresh (Some f) None P tells = absurd tells
same_fresh (Some f) (Some g) P tells = refl

-- the address and port that a host shows for a listener do not change over calls
pub same_ends : (host : List ℕ) (port : ℕ) (f g : Option HandedOut) (P : HandedOut → HandedOut → Type 0) → Tells f g P → endpoint_of host port g ≡ endpoint_of host port f
same_ends host port None None P tells = refl
same_ends host port None (Some g) P tells = absurd tells
same_ends host port (Some f) None P tells = absurd tells
same_ends host port (Some f) (Some g) P tells = refl

-- what is handed out for an address and port is from there
pub is_from : (host : List ℕ) (port : ℕ) (all : Option HandedOut) → IsFrom host port (endpoint_of host port all)
is_from host port None = tt
is_from host port (Some all) = (refl, refl)

each_more : {L : Type 0} (fresh : Endpoint → Option HandedOut → L → Type 0) (sources : List SourcePlan) (all : Option HandedOut) (listeners : List (SourceListener L)) (l : SourceListener L)
    → EachFresh fresh sources all listeners → fresh (end_at sources l.source) all l.listener → EachFresh fresh sources all (listeners ++ l ∷ [])
each_more fresh sources all [] l each is = (is, tt)
each_more fresh sources all (x ∷ listeners) l each is = (each.0, each_more fresh sources all listeners l each.1 is)

module _ {L : Type 0} (told : L → Option LinksTold) (endpoint : L → Option Endpoint) (waits faults : L → ℕ) where
  -- a fresh listener is from its address and port
  pub from_fresh : (end : Endpoint) (all : Option HandedOut) (l : L) → IsFresh told endpoint waits faults end all l → IsFrom end.host end.port (endpoint l)
  from_fresh end all l fresh = subst (IsFrom end.host end.port) (sym fresh.from) (is_from end.host end.port all)

  fresh_before : (end : Endpoint) (f g : Option HandedOut) (P : HandedOut → HandedOut → Type 0) (l : L) → Tells f g P → IsFresh told endpoint waits faults end g l → IsFresh told endpoint waits faults end f l
  fresh_before end f g P l tells fresh = record { links = fresh.links ∙ same_fresh f g P tells; from = fresh.from ∙ same_ends end.host end.port f g P tells; no_waits = fresh.no_waits; no_faults = fresh.no_faults }

  -- where the host shows its contents, it comes back as one that was not used
  back_unused : (end : Endpoint) (t : HandedOut) (all : Option HandedOut) (l : L) → all ≡ Some t → IsFresh told endpoint waits faults end all l → end_back told waits faults end l ≡ unused end
  back_unused end t all l is fresh =
      let links : told l ≡ Some no_links = fresh.links ∙ ap fresh_links is in
      λ i. record { host = end.host; port = end.port; told = links i; waits = fresh.no_waits i; faults = fresh.no_faults i }

  one_unused : (end : Endpoint) (one : CameBack) (t u v : HandedOut) → one ≡ unused end → AllOut (end ∷ []) t u → AllBack (one ∷ []) u v → CameUnused (end ∷ []) t v
  one_unused end one t u v is first second =
      let back : AllBack (unused end ∷ []) u v = subst (λ (b : CameBack). AllBack (b ∷ []) u v) is second in
      record {
        out = λ host port. omega (arith, first.out host port, back.out host port);
        back = back.back ∙ ap (λ (l : List CameBack). l ++ reverse (unused end ∷ [])) first.back;
      }

  -- one was opened, and there was no memory for it
  pub unopened : (end : Endpoint) (f g h : HostState) (l : L) → IsFresh told endpoint waits faults end f.listeners l → ListenersOut (end ∷ []) f g → ListenersBack (end_back told waits faults end l ∷ []) g h → ListenerUnopened NoMemory end f h
  unopened end f g h l fresh out back =
      let state : h ≡ record f { listeners = h.listeners } = back.state ∙ ap (λ (s : HostState). record s { listeners = h.listeners }) out.state in
      record {
        ends = end ∷ [];
        which = inr refl;
        back = record {
          state = settled f h state;
          faults = ap (λ (s : HostState). s.faults) state;
          told = follows f.listeners g.listeners h.listeners (AllOut (end ∷ [])) (AllBack (end_back told waits faults end l ∷ [])) (CameUnused (end ∷ []))
              (λ t u v is _ _ x y. one_unused end (end_back told waits faults end l) t u v (back_unused end t f.listeners l is fresh) x y) out.told back.told;
        };
      }

  -- ---- one after the other

  module _ (sources : List SourcePlan) where
    -- where no listener is opened yet, none was handed out
    pub opened_none : (f : HostState) → ListenersOpened (IsFresh told endpoint waits faults) sources [] f f []
    opened_none f = record { order = refl; fresh_each = tt; out = record { state = refl; told = tells_same f.listeners (AllOut []) (λ t _. record { out = λ host port. omega arith; back = refl }) } }

    -- one listener more was opened, at the place of its source
    pub opened_then : (done : List ℕ) (place : ℕ) (f g h : HostState) (before after : List (SourceListener L)) → ListenersOpened (IsFresh told endpoint waits faults) sources done f g before
        → ListenerAdded (IsFresh told endpoint waits faults) (end_at sources place) place g h before after → ListenersOpened (IsFresh told endpoint waits faults) sources (done ++ place ∷ []) f h after
    opened_then done place f g h before after opened added =
        let one : SourceListener L = record { source = place; listener = added.listener } in
        subst (ListenersOpened (IsFresh told endpoint waits faults) sources (done ++ place ∷ []) f h) (sym added.is) (record {
          order = map-append (λ (l : SourceListener L). l.source) before (one ∷ []) ∙ ap (λ (l : List ℕ). l ++ place ∷ []) opened.order;
          fresh_each = each_more (IsFresh told endpoint waits faults) sources f.listeners before one opened.fresh_each
              (fresh_before (end_at sources place) f.listeners g.listeners (AllOut (map (end_at sources) done)) added.listener opened.out.told added.fresh_then);
          out = subst (λ (l : List Endpoint). ListenersOut l f h) (sym (map-append (end_at sources) done (place ∷ []))) (listeners_then (map (end_at sources) done) (end_at sources place ∷ []) f g h opened.out added.out);
        })

    -- they may be given back
    pub of_opened : (all : Option HandedOut) (listeners : List (SourceListener L)) → All (ListensAt sources) (map (λ (l : SourceListener L). l.source) listeners)
        → EachFresh (IsFresh told endpoint waits faults) sources all listeners → AreOfSources endpoint sources listeners
    of_opened all [] listen fresh = tt
    of_opened all (l ∷ listeners) listen fresh = (listen 0 l.source (omega arith), from_fresh (end_at sources l.source) all l.listener fresh.0, of_opened all listeners (λ k d below. listen (suc k) d (omega (arith, below))) fresh.1)

    -- listeners come back for the addresses and ports of their sources
    pub ends_opened : (listeners : List (SourceListener L)) → ends_of (come_back told waits faults sources listeners) ≡ map (end_at sources) (map (λ (l : SourceListener L). l.source) listeners)
    ends_opened [] = refl
    ends_opened (l ∷ listeners) = ap (λ (ends : List Endpoint). end_at sources l.source ∷ ends) (ends_opened listeners)

    backs_opened : (t : HandedOut) (all : Option HandedOut) → all ≡ Some t → (listeners : List (SourceListener L)) → EachFresh (IsFresh told endpoint waits faults) sources all listeners
        → come_back told waits faults sources listeners ≡ map unused (map (end_at sources) (map (λ (l : SourceListener L). l.source) listeners))
    backs_opened t all is [] fresh = refl
    backs_opened t all is (l ∷ listeners) fresh =
        let one = back_unused (end_at sources l.source) t all l.listener is fresh.0 in
        let rest = backs_opened t all is listeners fresh.1 in
        λ i. one i ∷ rest i

-- ---- all come back

-- what was handed out is still out after others came back unused
pub out_unused : (ends others : List Endpoint) (f g h : Option HandedOut) → Tells f g (AllOut ends) → Tells g h (CameUnused others) → AreOut ends h
out_unused ends others f g None first second = tt
out_unused ends others None None (Some h) first second = absurd second
out_unused ends others None (Some g) (Some h) first second = absurd first
out_unused ends others (Some f) None (Some h) first second = absurd second
out_unused ends others (Some f) (Some g) (Some h) first second = λ host port. omega (arith, first.out host port, second.out host port)

-- where a listener is refused, those opened before may come back
pub may_come_back : (ends others : List Endpoint) (refused : NameRefused) (f g h : HostState) → ListenersOut ends f g → ListensRefused refused others g h → AreOut ends h.listeners
may_come_back ends others refused f g h out back = out_unused ends others f.listeners g.listeners h.listeners out.told back.told

-- what holds of all holds of the first of them
pub all_take : {A : Type 0} (P : A → Type 0) (i : ℕ) (xs : List A) → All P xs → All P (take i xs)
all_take P i xs all = λ k d below. subst P (sym (get_or-take i xs k d (omega (arith, below, length-take i xs)))) (all k d (omega (arith, below, length-take i xs)))

-- those that are out, and one more that came back unused
pub record Between (ends others : List Endpoint) (old new : HandedOut) : Type 0 where
  pub out : (host : List ℕ) (port : ℕ) → new.out host port ≡ old.out host port + count_at host port ends
  pub back : new.back ≡ old.back ++ reverse (map unused others)

-- some are out, and others came back unused after that
pub between : (ends others : List Endpoint) (t u v : HandedOut) → AllOut ends t u → CameUnused others u v → Between ends others t v
between ends others t u v first second = record {
  out = λ host port. second.out host port ∙ first.out host port;
  back = second.back ∙ ap (λ (l : List CameBack). l ++ reverse (map unused others)) first.back;
}

-- when those that are out come back unused too, all have come back unused
pub whole : (ends others : List Endpoint) (backs : List CameBack) (t v w : HandedOut) → backs ≡ map unused ends → Between ends others t v → AllBack backs v w → CameUnused (ends ++ others) t w
whole ends others backs t v w is first second =
    let same : ends_of backs ≡ ends = ap ends_of is ∙ ends_unused ends in
    record {
      out = λ host port. let counts = ap (count_at host port) same in omega (arith, first.out host port, second.out host port, counts);
      back = second.back ∙ ap (λ (l : List CameBack). l ++ reverse backs) first.back ∙ append_assoc t.back (reverse (map unused others)) (reverse backs)
          ∙ ap (λ (l : List CameBack). t.back ++ l) (sym (reverse-append backs (map unused others)) ∙ ap reverse (ap (λ (l : List CameBack). l ++ map unused others) is ∙ sym (map-append unused ends others)));
    }
  where
    ends_unused : (l : List Endpoint) → ends_of (map unused l) ≡ l
    ends_unused [] = refl
    ends_unused (x ∷ xs) = ap (λ (l : List Endpoint). x ∷ l) (ends_unused xs)

module _ {L : Type 0} (told : L → Option LinksTold) (endpoint : L → Option Endpoint) (waits faults : L → ℕ) (sources : List SourcePlan) where
  -- one was refused, and all came back
  pub refused_then : (done : List ℕ) (end : Endpoint) (refused : NameRefused) (f g h k : HostState) (listeners : List (SourceListener L)) → ListenersOpened (IsFresh told endpoint waits faults) sources done f g listeners
      → (un : ListenerUnopened refused end g h) → ListenersBack (come_back told waits faults sources listeners) h k → ListensRefused refused (map (end_at sources) done ++ un.ends) f k
  refused_then done end refused f g h k listeners opened un back =
      let ends = map (end_at sources) done in
      let first : g.faults ≡ f.faults = ap (λ (s : HostState). s.faults) opened.out.state in
      let last : k.faults ≡ h.faults = ap (λ (s : HostState). s.faults) back.state in
      let state : k ≡ record f { listeners = k.listeners; faults = h.faults } =
      back.state ∙ ap (λ (s : HostState). record s { listeners = k.listeners }) un.back.state ∙ ap (λ (s : HostState). record s { listeners = k.listeners; faults = h.faults }) opened.out.state in
      record {
        state = state ∙ ap (λ (n : ℕ). record f { listeners = k.listeners; faults = n }) (sym last);
        faults = subst (λ (x : ℕ × ℕ). FaultsBy {T = Unit {0}} (Err refused) x.0 x.1) (λ i. (first i, sym last i)) un.back.faults;
        told = follows f.listeners h.listeners k.listeners (Between ends un.ends) (AllBack (come_back told waits faults sources listeners)) (CameUnused (ends ++ un.ends))
            (λ t v w is _ _ x y. whole ends un.ends (come_back told waits faults sources listeners) t v w
            (backs_opened told endpoint waits faults sources t f.listeners is listeners opened.fresh_each ∙ ap (λ (l : List ℕ). map unused (map (end_at sources) l)) opened.order) x y)
            (follows f.listeners g.listeners h.listeners (AllOut ends) (CameUnused un.ends) (Between ends un.ends) (λ t u v _ _ _ x y. between ends un.ends t u v x y) opened.out.told un.back.told) back.told;
      }

-- so many places were gone through
pub counted : (sources : List SourcePlan) (places : List ℕ) (i : ℕ) (refused : NameRefused) (f k : HostState) (ends : List Endpoint) → i < length places → (ends ≡ []) ⊎ (ends ≡ end_at sources (get_or places i 0) ∷ [])
    → ListensRefused refused (map (end_at sources) (take i places) ++ ends) f k → (n : ℕ) × ListensRefused refused (map (end_at sources) (take n places)) f k
counted sources places i refused f k ends below (inl none) all =
    (i, subst (λ (l : List Endpoint). ListensRefused refused l f k) (ap (λ (l : List Endpoint). map (end_at sources) (take i places) ++ l) none ∙ append-nil (map (end_at sources) (take i places))) all)
counted sources places i refused f k ends below (inr one) all = (
  i + 1,
  subst (λ (l : List Endpoint). ListensRefused refused l f k)
      (ap (λ (l : List Endpoint). map (end_at sources) (take i places) ++ l) one ∙ sym (map-append (end_at sources) (take i places) (get_or places i 0 ∷ [])) ∙ ap (map (end_at sources)) (sym (take_more places i 0 below))) all,
)
