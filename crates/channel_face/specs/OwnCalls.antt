-- The calls that are made on a channel of one's own.
use Rattle.std.specs.Prelude.{◌≡◌, List, [], ◌∷◌, ◌++◌}
use Rattle.std.proofs.Common.{sym, subst, append_assoc}
use Rattle.std.proofs.lemmas.List.{append-nil}
use Rattle.channel_face.specs.Machine.{State, after}
use Rattle.channel_face.specs.History.{Opening, Step, opening, state_after}
use Rattle.channel_face.specs.Faces.{Own}

-- their part of the history
abbrev pub steps_of : List Own → List Step
steps_of [] = []
steps_of (o ∷ own) = record { pass = 0; call = o.call; moment = o.moment } ∷ steps_of own

-- each call was made in the state that those before it led to
abbrev pub AreFrom : State → List Own → Type 0
AreFrom s [] = Unit {0}
AreFrom s (o ∷ own) = (o.before ≡ s) × AreFrom (after s o.call) own

-- From this opening a channel stands for these earlier calls, and then for just these of one's own, which led to this state.
pub record MadeOwn (stands : Opening → List Step → Type 0) (start : Opening) (earlier : List Step) (own : List Own) (s : State) : Type 0 where
  pub here : stands start (earlier ++ steps_of own)
  pub from : AreFrom (state_after (opening start) earlier) own
  pub state : state_after (opening start) (earlier ++ steps_of own) ≡ s

-- it does so, and they led to some state
abbrev pub HasMade : (Opening → List Step → Type 0) → Opening → List Step → List Own → Type 0
HasMade stands start earlier own = (s : State) × MadeOwn stands start earlier own s

-- From some opening and earlier calls they led to this state.
abbrev pub Was : (Opening → List Step → Type 0) → List Own → State → Type 0
Was stands own s = (start : Opening) × (earlier : List Step) × MadeOwn stands start earlier own s

-- From calls of one's own and the state that they led to, to more of them and another state, of which P is true after these calls.
abbrev pub Goes : (Opening → List Step → Type 0) → (Opening → List Step → Type 0) → (List Own → State → List Own → State → Type 0) → Type 0
Goes before later P = (start : Opening) (earlier : List Step) (own : List Own) (s : State) → MadeOwn before start earlier own s → (more : List Own) × (new : State) × MadeOwn later start earlier (own ++ more) new × P own s more new

-- Each history that a channel stood for goes on.
abbrev pub Continues : (Opening → List Step → Type 0) → (Opening → List Step → Type 0) → Type 0
Continues before later = (start : Opening) (h : List Step) → before start h → (more : List Step) × later start (h ++ more)

pub continues_none : (stands : Opening → List Step → Type 0) → Continues stands stands
continues_none stands start h here = ([], subst (stands start) (sym (append-nil h)) here)

pub continues_then : (a b c : Opening → List Step → Type 0) → Continues a b → Continues b c → Continues a c
continues_then a b c first second start h here =
    let f = first start h here in
    let g = second start (h ++ f.0) f.1 in
    (f.0 ++ g.0, subst (c start) (append_assoc h f.0 g.0) g.1)
