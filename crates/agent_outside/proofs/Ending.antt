-- Listeners that come back, one after the other.
use Rattle.std.proofs.Common.{◌≡◌, ◌∙◌, ◌<◌, ◌+◌, ◌==◌, ℕ, zero, suc, List, [], ◌∷◌, ◌++◌, length, get_or, reverse, Bool, true, false, cond, Option, Some, None, refl, sym, ap, subst, arith, bytes_eq, append_assoc, true≢false}
use Rattle.std.proofs.lemmas.List.{append-nil, map-append, reverse-append}
use Rattle.std.proofs.lemmas.List.Sums.{sum_by-append}
use Rattle.std.proofs.lemmas.Bool.Decides.{Decides-and, Decides-eqb}
use Rattle.std.proofs.lemmas.Slice.Eq.{bytes_eq-Decides}
use Rattle.std.specs.Bool.{Decides}
use Rattle.flume_host.specs.HostState.{HostState}
use Rattle.flume_host.specs.HandedOut.{CameBack, ComesBack, HandedOut, IsOut, TakesBack}
use Rattle.flume_host.specs.Listens.{Endpoint, IsFrom}
use Rattle.flume_host.specs.Told.{Tells}
use Rattle.flume_host.proofs.Telling.{follows, tells_more, tells_same}
use Rattle.agent_plan.specs.declared.plan.SourcePlan.{SourcePlan}
use Rattle.agent_outside.specs.declared.listener.SourceListener.{SourceListener}
use Rattle.agent_outside.specs.Ends.{AllBack, AreOfSources, AreOut, Listens, ListensAt, ListenersBack, count_at, end_at, end_of, ends_of, is_end}

-- ---- counts

-- whether an end has this address and port is decided by comparing both
pub end_decides : (host : List ℕ) (port : ℕ) (end : Endpoint) → Decides (is_end host port end) ((end.port ≡ port) × (end.host ≡ host))
end_decides host port end = Decides-and (end.port == port) (bytes_eq end.host host) (Decides-eqb end.port port) (bytes_eq-Decides end.host host)

-- how many ends of two rows are at an address and port
pub count_append : (host : List ℕ) (port : ℕ) (a b : List Endpoint) → count_at host port (a ++ b) ≡ count_at host port a + count_at host port b
count_append host port a b = sum_by-append (λ (end : Endpoint). cond (is_end host port end) 1 0) a b

-- an end at this address and port counts as one
pub count_yes : (host : List ℕ) (port : ℕ) (end : Endpoint) → is_end host port end ≡ true → count_at host port (end ∷ []) ≡ 1
count_yes host port end is = rw is refl

-- an end elsewhere counts as none
pub count_no : (host : List ℕ) (port : ℕ) (end : Endpoint) → is_end host port end ≡ false → count_at host port (end ∷ []) ≡ 0
count_no host port end is = rw is refl

-- one counts at its own address and port
pub count_own : (end : Endpoint) → count_at end.host end.port (end ∷ []) ≡ 1
count_own end = count_yes end.host end.port end ((end_decides end.host end.port end).1 (refl, refl))

-- ---- one comes back

-- one came back, as a row of one
pub all_one : (one : CameBack) (old new : HandedOut) → ComesBack one old new → AllBack (one ∷ []) old new
all_one one old new back = record { out = λ host port. out host port (is_end host port (record { host = one.host; port = one.port })) refl; back = back.back }
  where
    out : (host : List ℕ) (port : ℕ) (b : Bool) → is_end host port (record { host = one.host; port = one.port }) ≡ b → old.out host port ≡ new.out host port + count_at host port (record { host = one.host; port = one.port } ∷ [])
    out host port true is =
        let both = (end_decides host port (record { host = one.host; port = one.port })).0 is in
        (λ i. old.out (sym both.1 i) (sym both.0 i)) ∙ back.fewer ∙ (λ i. new.out (both.1 i) (both.0 i) + 1)
        ∙ ap (λ (n : ℕ). new.out host port + n) (sym (count_yes host port (record { host = one.host; port = one.port }) is))
    out host port false is =
        let other : ((host ≡ one.host) × (port ≡ one.port) → ⊥) = λ both. true≢false (sym ((end_decides host port (record { host = one.host; port = one.port })).1 (sym both.1, sym both.0)) ∙ is) in
        let none = count_no host port (record { host = one.host; port = one.port }) is in
        let same = back.others host port other in
        omega (arith, none, same)

-- a host took back one listener
pub came_one : (one : CameBack) (old new : HostState) (listeners : Option HandedOut) → new ≡ record old { listeners = listeners } → TakesBack one old.listeners listeners → ListenersBack (one ∷ []) old new
came_one one old new listeners is back =
    let told : new.listeners ≡ listeners = ap (λ (s : HostState). s.listeners) is in
    record {
      state = is ∙ ap (λ (l : Option HandedOut). record old { listeners = l }) (sym told);
      told = subst (λ (l : Option HandedOut). Tells old.listeners l (AllBack (one ∷ []))) (sym told) (tells_more old.listeners listeners (ComesBack one) (AllBack (one ∷ [])) (λ t u _ _ b. all_one one t u b) back);
    }

-- ---- one after the other

-- the ends of those that came back, and of more
pub ends_append : (a b : List CameBack) → ends_of (a ++ b) ≡ ends_of a ++ ends_of b
ends_append a b = map-append (λ (back : CameBack). record { host = back.host; port = back.port }) a b

-- some came back, and then more, which stand in front
pub all_then : (a b : List CameBack) (f g h : HandedOut) → AllBack a f g → AllBack b g h → AllBack (b ++ a) f h
all_then a b f g h first second = record {
  out = λ host port.
      let x = first.out host port in
      let y = second.out host port in
      let both : count_at host port (ends_of (b ++ a)) ≡ count_at host port (ends_of b) + count_at host port (ends_of a) = ap (count_at host port) (ends_append b a) ∙ count_append host port (ends_of b) (ends_of a) in
      omega (arith, x, y, both);
  back = second.back ∙ ap (λ (l : List CameBack). l ++ reverse b) first.back ∙ append_assoc f.back (reverse a) (reverse b) ∙ ap (λ (l : List CameBack). f.back ++ l) (sym (reverse-append b a));
}

-- a host took back some listeners, and then more
pub came_then : (a b : List CameBack) (f g h : HostState) → ListenersBack a f g → ListenersBack b g h → ListenersBack (b ++ a) f h
came_then a b f g h first second = record {
  state = second.state ∙ ap (λ (s : HostState). record s { listeners = h.listeners }) first.state;
  told = follows f.listeners g.listeners h.listeners (AllBack a) (AllBack b) (AllBack (b ++ a)) (λ t u v _ _ _ x y. all_then a b t u v x y) first.told second.told;
}

-- where no listener came back, the host is as it was
pub came_none : (f : HostState) → ListenersBack [] f f
came_none f = record { state = refl; told = tells_same f.listeners (AllBack []) (λ t _. record { out = λ host port. omega arith; back = sym (append-nil t.back) }) }

-- ---- those that are out

-- of those that are out the last may come back
pub out_last : (ends : List Endpoint) (end : Endpoint) (all : Option HandedOut) → AreOut (ends ++ end ∷ []) all → AreOut (end ∷ []) all
out_last ends end None out = tt
out_last ends end (Some all) out = λ host port. omega (arith, out host port, count_append host port ends (end ∷ []))

-- where one listener is out, it is so at its own address and port
pub out_own : (end : Endpoint) (all : Option HandedOut) → AreOut (end ∷ []) all → IsOut end.host end.port all
out_own end None out = tt
out_own end (Some all) out = omega (arith, out end.host end.port, count_own end)

-- and the others are still out then
pub out_rest : (ends : List Endpoint) (one : CameBack) (old new : Option HandedOut) → AreOut (ends ++ record { host = one.host; port = one.port } ∷ []) old → Tells old new (AllBack (one ∷ [])) → AreOut ends new
out_rest ends one None None out tells = tt
out_rest ends one None (Some new) out tells = absurd tells
out_rest ends one (Some old) None out tells = absurd tells
out_rest ends one (Some old) (Some new) out tells = λ host port. omega (arith, out host port, tells.out host port, count_append host port ends (record { host = one.host; port = one.port } ∷ []))

-- ---- sources by their places

-- a place at which a source listens is the place of one of the sources
pub below_listens : (sources : List SourcePlan) (place : ℕ) → ListensAt sources place → place < length sources
below_listens [] place is = absurd is
below_listens (s ∷ sources) zero is = omega arith
below_listens (s ∷ sources) (suc place) is = omega (arith, below_listens sources place is)

-- the end at a place is that of the source's kind there
pub end_here : (sources : List SourcePlan) (place : ℕ) (d : SourcePlan) → place < length sources → end_at sources place ≡ end_of (get_or sources place d).kind
end_here [] place d below = absurd (omega (arith, below))
end_here (s ∷ sources) zero d below = refl
end_here (s ∷ sources) (suc place) d below = end_here sources place d (omega (arith, below))

-- a source at a place where one listens does so by its kind
pub listens_here : (sources : List SourcePlan) (place : ℕ) (d : SourcePlan) → ListensAt sources place → Listens (get_or sources place d).kind
listens_here [] place d is = absurd is
listens_here (s ∷ sources) zero d is = is
listens_here (s ∷ sources) (suc place) d is = listens_here sources place d is

-- ---- one comes back to its source

-- who may come back to its source may come back for the address and port of that
pub from_here : {L : Type 0} (endpoint : L → Option Endpoint) (sources : List SourcePlan) (place : ℕ) (d : SourcePlan) (listener : L) → place < length sources → IsFrom (end_at sources place).host (end_at sources place).port (endpoint listener)
    → IsFrom (end_of (get_or sources place d).kind).host (end_of (get_or sources place d).kind).port (endpoint listener)
from_here endpoint sources place d listener below is = subst (λ (e : Endpoint). IsFrom e.host e.port (endpoint listener)) (end_here sources place d below) is

-- ---- the last of some listeners

-- the last of some listeners is of its source, and the others are of theirs
pub of_last : {L : Type 0} (endpoint : L → Option Endpoint) (sources : List SourcePlan) (listeners : List (SourceListener L)) (l : SourceListener L) → AreOfSources endpoint sources (listeners ++ l ∷ [])
    → AreOfSources endpoint sources listeners × ListensAt sources l.source × IsFrom (end_at sources l.source).host (end_at sources l.source).port (endpoint l.listener)
of_last endpoint sources [] l of = (tt, of.0, of.1)
of_last endpoint sources (x ∷ listeners) l of =
    let rest = of_last endpoint sources listeners l of.2 in
    ((of.0, of.1, rest.0), rest.1, rest.2)
