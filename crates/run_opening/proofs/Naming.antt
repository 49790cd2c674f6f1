-- Listeners with the places of their sources.
use Rattle.std.proofs.Common.{◌≡◌, ◌∙◌, ℕ, List, [], ◌∷◌, ◌++◌, All, Option, length, None, Some, map, refl, sym, ap, subst, arith}
use Rattle.std.proofs.lemmas.List.{map-append}
use Rattle.std.proofs.lemmas.List.Elements.{All-head, All-tail}
use Rattle.flume_host.specs.HandedOut.{HandedOut, endpoint_of}
use Rattle.flume_host.specs.HostState.{HostState}
use Rattle.flume_host.specs.Listens.{Endpoint, IsFrom, LinksTold}
use Rattle.flume_host.specs.Told.{Tells}
use Rattle.agent_plan.specs.declared.plan.SourcePlan.{SourcePlan}
use Rattle.agent_outside.specs.Ends.{AreOfSources, AreOut, ListensAt, come_back, end_at, ends_of}
use Rattle.agent_outside.specs.Listening.{AllOut, EachFresh, IsFresh, ListenersOpened}
use Rattle.agent_outside.specs.declared.listener.SourceListener.{SourceListener}
use Rattle.run_opening.specs.Outside.{AreFrom, WithPlaces}

-- ---- one more

-- no more of the one than of the other
pub none_beside : {A B : Type 0} (xs : List A) (ys : List B) → xs ≡ [] → length xs ≡ length ys → ys ≡ []
none_beside xs [] none many = refl
none_beside xs (y ∷ ys) none many = absurd (let e = ap length none in omega (arith, e, many))

-- where no listener was opened, none has a place
pub named_none : {N : Type 0} (places : List ℕ) (listeners : List N) (named : List (SourceListener N)) → listeners ≡ [] → length listeners ≡ length places → named ≡ []
    → WithPlaces places listeners named
named_none {N} places listeners named none many empty = record {
  sources = ap (map (λ (l : SourceListener N). l.source)) empty ∙ sym (none_beside listeners places none many);
  listeners = ap (map (λ (l : SourceListener N). l.listener)) empty ∙ sym none;
}

-- one listener more, with the place of its source
pub named_push : {N : Type 0} (places : List ℕ) (listeners : List N) (named : List (SourceListener N)) (place : ℕ) (one : N) → WithPlaces places listeners named
    → WithPlaces (places ++ place ∷ []) (listeners ++ one ∷ []) (named ++ record { source = place; listener = one } ∷ [])
named_push {N} places listeners named place one w = record {
  sources = map-append (λ (l : SourceListener N). l.source) named (record { source = place; listener = one } ∷ []) ∙ ap (λ (l : List ℕ). l ++ place ∷ []) w.sources;
  listeners = map-append (λ (l : SourceListener N). l.listener) named (record { source = place; listener = one } ∷ []) ∙ ap (λ (l : List N). l ++ one ∷ []) w.listeners;
}

-- ---- they are of their sources

of_each : {N : Type 0} (endpoint : N → Option Endpoint) (sources : List SourcePlan) (named : List (SourceListener N))
    → AreFrom endpoint sources (map (λ (l : SourceListener N). l.source) named) (map (λ (l : SourceListener N). l.listener) named)
    → All (ListensAt sources) (map (λ (l : SourceListener N). l.source) named) → AreOfSources endpoint sources named
of_each endpoint sources [] from listen = tt
of_each {N} endpoint sources (l ∷ named) from listen =
    let places = map (λ (l : SourceListener N). l.source) named in
    (All-head (ListensAt sources) l.source places listen, from.0, of_each endpoint sources named from.1 (All-tail (ListensAt sources) l.source places listen))

-- listeners with their places were handed out for their sources
pub of_named : {N : Type 0} (endpoint : N → Option Endpoint) (sources : List SourcePlan) (places : List ℕ) (listeners : List N) (named : List (SourceListener N))
    → WithPlaces places listeners named → AreFrom endpoint sources places listeners → All (ListensAt sources) places → AreOfSources endpoint sources named
of_named {N} endpoint sources places listeners named w from listen =
    of_each endpoint sources named (subst (λ (x : List ℕ × List N). AreFrom endpoint sources x.0 x.1) (λ i. (sym w.sources i, sym w.listeners i)) from)
    (subst (λ (l : List ℕ). All (ListensAt sources) l) (sym w.sources) listen)

-- ---- as many are out

module _ {N : Type 0} (told : N → Option LinksTold) (waits faults : N → ℕ) where
  ends_each : (sources : List SourcePlan) (named : List (SourceListener N)) → ends_of (come_back told waits faults sources named) ≡ map (end_at sources) (map (λ (l : SourceListener N). l.source) named)
  ends_each sources [] = refl
  ends_each sources (l ∷ named) = ap (λ (ends : List Endpoint). end_at sources l.source ∷ ends) (ends_each sources named)

  -- the endpoints of listeners with their places are out
  pub out_named : (sources : List SourcePlan) (places : List ℕ) (listeners : List N) (named : List (SourceListener N)) (all : Option HandedOut) → WithPlaces places listeners named
      → AreOut (map (end_at sources) places) all → AreOut (ends_of (come_back told waits faults sources named)) all
  out_named sources places listeners named all w out =
      subst (λ (ends : List Endpoint). AreOut ends all) (ap (map (end_at sources)) (sym w.sources) ∙ sym (ends_each sources named)) out

-- ---- what was opened can be given back

is_from : (host : List ℕ) (port : ℕ) (all : Option HandedOut) → IsFrom host port (endpoint_of host port all)
is_from host port None = tt
is_from host port (Some all) = (refl, refl)

-- what the host handed out is out
pub is_out : (ends : List Endpoint) (f g : Option HandedOut) → Tells f g (AllOut ends) → AreOut ends g
is_out ends f None out = tt
is_out ends None (Some g) out = absurd out
is_out ends (Some f) (Some g) out = λ host port. omega (arith, out.out host port)

module _ {N : Type 0} (told : N → Option LinksTold) (endpoint : N → Option Endpoint) (waits faults : N → ℕ) where
  from_each : (sources : List SourcePlan) (all : Option HandedOut) (named : List (SourceListener N)) → EachFresh (IsFresh told endpoint waits faults) sources all named
      → AreFrom endpoint sources (map (λ (l : SourceListener N). l.source) named) (map (λ (l : SourceListener N). l.listener) named)
  from_each sources all [] fresh = tt
  from_each sources all (l ∷ named) fresh =
      let end = end_at sources l.source in
      (subst (IsFrom end.host end.port) (sym fresh.0.from) (is_from end.host end.port all), from_each sources all named fresh.1)

  -- the host handed each listener out for its source, and as many are out
  pub given_back : (sources : List SourcePlan) (places : List ℕ) (bare : List N) (named : List (SourceListener N)) (old new : HostState) → WithPlaces places bare named
      → ListenersOpened (IsFresh told endpoint waits faults) sources places old new named → AreFrom endpoint sources places bare × AreOut (map (end_at sources) places) new.listeners
  given_back sources places bare named old new w opened = (
    subst (λ (x : List ℕ × List N). AreFrom endpoint sources x.0 x.1) (λ i. (w.sources i, w.listeners i)) (from_each sources old.listeners named opened.fresh_each),
    is_out (map (end_at sources) places) old.listeners new.listeners opened.out.told,
  )
