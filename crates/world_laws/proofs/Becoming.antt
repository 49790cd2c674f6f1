-- What a channel becomes in a step: one lemma for each of its steps.
use Rattle.std.proofs.Common.{◌⊎◌, inl, inr, ◌≡◌, ◌≢◌, ◌<◌, ◌≤◌, ◌+◌, ◌-◌, ◌^◌, ◌++◌, ◌∷◌, [], ℕ, List, length, map, take, Option, Some, None, Ok, Err, Bool, true, false, ◌&&◌, not, nat_le, nat_lt, cond, refl, sym, ◌∙◌, ap, subst, arith, append_assoc}
use Rattle.std.proofs.lemmas.List.{append-nil}
use Rattle.std.proofs.lemmas.Bool.Decides.{nat_tests}
use Rattle.event_core.specs.Content.{Content}
use Rattle.event_core.specs.Journal.{put_events}
use Rattle.event_core.specs.declared.journal.Entry.{Entry}
use Rattle.event_core.specs.declared.journal.Entry.TheVariants.{Puts, Takes}
use Rattle.channel_face.specs.Token.{Token}
use Rattle.channel_face.specs.Machine.{State, BeginPut, BeginTake, Put, Take, StagePut, StageTake, Flush, RollbackTake, Reopen, Front, MaySpill, begin_refusal, put_refusal, take_refusal, stage_put_refusal, stage_take_refusal, puts_of, takes_of, free, first_event, settle, broken_state, close, stage, entry_of, is_some_of, ticket, next_number, size_of_list, after_begin, after_put, after_take, after_reopen}
use Rattle.channel_face.specs.declared.replies.Kind.{Kind}
use Rattle.channel_face.specs.declared.replies.Kind.TheVariants.{File as OnFile}
use Rattle.channel_face.specs.declared.replies.FlushRefused.TheVariants as FlushNo
use Rattle.channel_face.specs.Sound.{AreNumbered}
use Rattle.channel_face.proofs.Opened.{entry_of-push, entry_of-with, puts_of-from}
use Rattle.world_laws.specs.World.{Channel, Delivery, commits, and_then}
use Rattle.world_laws.specs.Channels.{unless, next_token, put_all, stage_all, put_transaction, stored, aside, flushed, failed, take_begun, taken, committed, given_up, reopened, is_empty}
use Rattle.world_laws.specs.Held.{IsHistory, Are, events_of}
use Rattle.world_laws.proofs.Lists.{same_some, no_some, both_true, not_true, and_then-some, only_if-some, unless-some, take_front}
use Rattle.world_laws.proofs.Histories.{history_call, sound_is}
use Rattle.world_laws.proofs.Opens.{other_with, other_without, entry_front, numbered_below, Staged, staged_leaves}

-- the entry that a step stages, if any, with what it names
pub data Added : Type 0 where
  NoEntry : Added
  APuts : List Content → Added
  ATakes : List ℕ → Delivery → Added

abbrev pub entries_of : Added → List Entry
entries_of NoEntry = []
entries_of (APuts events) = Puts events ∷ []
entries_of (ATakes numbers delivery) = Takes numbers ∷ []

abbrev pub names_of : Added → List (Option Delivery)
names_of NoEntry = []
names_of (APuts events) = None ∷ []
names_of (ATakes numbers delivery) = Some delivery ∷ []

-- it stages no takes
abbrev pub IsPut : Added → Type 0
IsPut NoEntry = Unit {0}
IsPut (APuts events) = Unit {0}
IsPut (ATakes numbers delivery) = ⊥

abbrev pub Is : Channel → Type 0
Is c = IsHistory c.state c.journal

-- the channel goes on, in the same life
pub record Becomes (c d : Channel) (added : Added) : Type 0 where
  pub history : Is d
  pub later : d.later ≡ c.later
  pub last : d.last ≡ c.last
  pub settled : List Entry
  pub journal : d.journal ≡ c.journal ++ settled
  pub longer : commits d ≡ commits c ++ entries_of added
  pub named : d.named ≡ c.named ++ names_of added
  pub life : d.state.life ≡ c.state.life

-- it is opened again: what is after this place is lost
pub record Reopens (c d : Channel) (cut : ℕ) : Type 0 where
  pub history : Is d
  pub later : d.later ≡ c.later
  pub last : d.last ≡ c.last
  pub settled : List Entry
  pub journal : d.journal ≡ c.journal ++ settled
  pub shorter : commits d ≡ take cut (commits c)
  pub named : d.named ≡ take cut c.named

-- the open transactions stay
abbrev pub KeepsOpen : Channel → Channel → Type 0
KeepsOpen c d = (m : ℕ) (e : Entry) → entry_of m c.state.opened ≡ Some e → entry_of m d.state.opened ≡ Some e

-- so do those of other numbers
abbrev pub KeepsOthers : Channel → Channel → ℕ → Type 0
KeepsOthers c d number = (m : ℕ) (e : Entry) → m ≢ number → entry_of m c.state.opened ≡ Some e → entry_of m d.state.opened ≡ Some e

-- only the state changes, and nothing is staged or settled
quiet : (c : Channel) (s : State) → IsHistory s c.journal → s.staged ≡ c.state.staged → s.life ≡ c.state.life → Becomes c (record c { state = s }) NoEntry
quiet c s history staged life = record {
  history = history;
  later = refl;
  last = refl;
  settled = [];
  journal = sym (append-nil c.journal);
  longer = ap (λ (l : List Entry). c.journal ++ l) staged ∙ sym (append-nil (commits c));
  named = sym (append-nil c.named);
  life = life;
}

-- a whole transaction of puts

no_spill : (kind : Kind) → kind ≡ OnFile → MaySpill kind false
no_spill kind is = subst (λ (k : Kind). MaySpill k false) (sym is) tt

-- the events are put, after those that were
record AllPut (s s' : State) (token : Token) (events : List Content) (j : List Entry) : Type 0 where
  history : IsHistory s' j
  life : s'.life ≡ s.life
  entry : entry_of token.number s'.opened ≡ Some (Puts events)
  staged : s'.staged ≡ s.staged
  others : (m : ℕ) → m ≢ token.number → entry_of m s'.opened ≡ entry_of m s.opened

all_put : (events done : List Content) (token : Token) (s s' : State) (j : List Entry) → IsHistory s j → token.life ≡ s.life → entry_of token.number s.opened ≡ Some (Puts done) → put_all s token events ≡ Some s' → AllPut s s' token (done ++ events) j
all_put [] done token s s' j h life entry is =
    subst (λ (x : State). AllPut s x token (done ++ []) j) (same_some s s' is)
    (record { history = h; life = refl; entry = entry ∙ ap (λ (l : List Content). Some (Puts l)) (sym (append-nil done)); staged = refl; others = λ m other. refl })
all_put (e ∷ events) done token s s' j h life entry is =
    let put : Option (List Content) → State = λ puts. after_put s token puts e (Ok (record { spilled = false })) in
    let now : puts_of s token ≡ Some done = puts_of-from s token done life entry in
    let x = and_then-some (unless (put_refusal s (puts_of s token) e) (put (puts_of s token))) (λ next. put_all next token events) s' is in
    let u = unless-some (put_refusal s (puts_of s token) e) (put (puts_of s token)) x.0 x.1 in
    let first : put (Some done) ≡ x.0 = ap put (sym now) ∙ u.1 in
    let one : IsHistory (put (Some done)) j = history_call s (put (Some done)) j j (Put token e (Ok (record { spilled = false }))) h (u.0, no_spill s.rules.kind h.kind) tt (ap put now) (append-nil j) refl in
    let more : entry_of token.number (put (Some done)).opened ≡ Some (Puts (done ++ e ∷ [])) = entry_of-with token.number s.opened (Puts done) (Puts (done ++ e ∷ [])) entry in
    let rest = all_put events (done ++ e ∷ []) token (put (Some done)) s' j one life more (ap (λ (y : State). put_all y token events) first ∙ x.2) in
    record {
      history = rest.history;
      life = rest.life;
      entry = rest.entry ∙ ap (λ (l : List Content). Some (Puts l)) (append_assoc done (e ∷ []) events);
      staged = rest.staged;
      others = λ m other. rest.others m other ∙ other_with m token.number (Puts (done ++ e ∷ [])) s.opened other;
    }

record Transaction (s s' : State) (events : List Content) (j : List Entry) : Type 0 where
  history : IsHistory s' j
  life : s'.life ≡ s.life
  staged : s'.staged ≡ s.staged ++ Puts events ∷ []
  opened : (m : ℕ) (e : Entry) → entry_of m s.opened ≡ Some e → entry_of m s'.opened ≡ Some e

transaction : (s s' : State) (e : Content) (events : List Content) (j : List Entry) → IsHistory s j → put_transaction s (e ∷ events) ≡ Some s' → Transaction s s' (e ∷ events) j
transaction s s' e events j h is =
    let token = next_token s in
    let first : State = after_begin (Puts []) s (Ok token) in
    let numbered = (sound_is s j h).numbered in
    let b = and_then-some (unless (begin_refusal s) first) (λ begun. and_then (put_all begun token (e ∷ events)) (λ put. stage_all put token)) s' is in
    let u = unless-some (begin_refusal s) first b.0 b.1 in
    let p = and_then-some (put_all b.0 token (e ∷ events)) (λ put. stage_all put token) s' b.2 in
    let begun : IsHistory first j = history_call s first j j (BeginPut (Ok token)) h (u.0, refl) tt refl (append-nil j) refl in
    let put = all_put (e ∷ events) [] token first p.0 j begun refl (entry_of-push s.txn (Puts []) s.opened numbered) (ap (λ (y : State). put_all y token (e ∷ events)) u.1 ∙ p.1) in
    let entry : Option Entry = entry_of token.number p.0.opened in
    let st = unless-some (stage_put_refusal p.0 (puts_of p.0 token)) (stage token.number entry p.0) s' p.2 in
    let leaves = staged_leaves token.number entry p.0 in
    let done : IsHistory (stage token.number entry p.0) j = history_call p.0 (stage token.number entry p.0) j j (StagePut token (Ok (ticket p.0 (next_number p.0) (size_of_list (puts_of p.0 token))))) put.history (st.0, refl) tt refl (append-nil j) leaves.rules in
    subst (λ (y : State). Transaction s y (e ∷ events) j) st.1 (record {
      history = done;
      life = leaves.life ∙ put.life;
      staged = ap (λ (o : Option Entry). (stage token.number o p.0).staged) put.entry ∙ ap (λ (l : List Entry). l ++ Puts (e ∷ events) ∷ []) put.staged;
      opened = λ m x has.
          let less = numbered_below s.txn m x s.opened numbered has in
          let other : m ≢ token.number = λ same. absurd (omega (arith, less, same)) in
          leaves.others m other ∙ (put.others m other ∙ entry_front m x s.opened ((s.txn, Puts []) ∷ []) has);
    })

-- storing some events adds one entry of puts, and open transactions stay
pub stored_becomes : (c d : Channel) (events : List Content) → is_empty events ≡ false → Is c → stored events c ≡ Some d → Becomes c d (APuts events) × KeepsOpen c d
stored_becomes c d [] full h is = absurd (cc)
stored_becomes c d (e ∷ events) full h is =
    let make : State → Channel = λ s. record c { state = s; named = c.named ++ None ∷ [] } in
    let s = and_then-some (put_transaction c.state (e ∷ events)) (λ s. Some (make s)) d is in
    let t = transaction c.state s.0 e events c.journal h s.1 in
    subst (λ (x : Channel). Becomes c x (APuts (e ∷ events)) × KeepsOpen c x) (same_some (make s.0) d s.2) (
      record {
        history = t.history;
        later = refl;
        last = refl;
        settled = [];
        journal = sym (append-nil c.journal);
        longer = ap (λ (l : List Entry). c.journal ++ l) t.staged ∙ sym (append_assoc c.journal c.state.staged (Puts (e ∷ events) ∷ []));
        named = refl;
        life = t.life;
      },
      t.opened,
    )

-- events stored aside add one entry of puts, and open transactions stay
pub aside_becomes : (c d : Channel) (events : List Content) → Is c → aside events c ≡ Some d → Becomes c d (APuts events) × KeepsOpen c d
aside_becomes c d [] h is = absurd (no_some d is)
aside_becomes c d (e ∷ events) h is = stored_becomes c d (e ∷ events) refl h is

-- a flush, done or failed, stages nothing new and keeps open transactions
pub flushed_becomes : (done : Bool) (c d : Channel) → Is c → flushed done c ≡ Some d → Becomes c d NoEntry × KeepsOpen c d
flushed_becomes true c d h is =
    let make : Channel = record c { state = settle c.state; journal = commits c } in
    let u = only_if-some (not c.state.broken) make d is in
    subst (λ (x : Channel). Becomes c x NoEntry × KeepsOpen c x) u.1 (
      record {
        history = history_call c.state (settle c.state) c.journal (commits c) (Flush (Ok tt)) h (not_true c.state.broken u.0) tt refl refl refl;
        later = refl;
        last = refl;
        settled = c.state.staged;
        journal = refl;
        longer = refl;
        named = sym (append-nil c.named);
        life = refl;
      },
      λ m e has. has,
    )
flushed_becomes false c d h is =
    let u = only_if-some (not c.state.broken) (record c { state = broken_state c.state }) d is in
    subst (λ (x : Channel). Becomes c x NoEntry × KeepsOpen c x) u.1
    (quiet c (broken_state c.state) (history_call c.state (broken_state c.state) c.journal c.journal (Flush (Err FlushNo.DiskFault)) h (not_true c.state.broken u.0, h.kind) tt refl (append-nil c.journal) refl) refl refl, λ m e has. has)

-- a failure stages nothing and keeps open transactions
pub failed_becomes : (c d : Channel) → Is c → failed c ≡ Some d → Becomes c d NoEntry × KeepsOpen c d
failed_becomes c d h is = from c.state.broken refl is
  where
    from : (b : Bool) → c.state.broken ≡ b → Some (cond b c (record c { state = broken_state c.state })) ≡ Some d → Becomes c d NoEntry × KeepsOpen c d
    from true broken it = subst (λ (x : Channel). Becomes c x NoEntry × KeepsOpen c x) (same_some c d it) (quiet c c.state h refl refl, λ m e has. has)
    from false broken it =
        subst (λ (x : Channel). Becomes c x NoEntry × KeepsOpen c x) (same_some (record c { state = broken_state c.state }) d it)
        (quiet c (broken_state c.state) (history_call c.state (broken_state c.state) c.journal c.journal (Flush (Err FlushNo.DiskFault)) h (broken, h.kind) tt refl (append-nil c.journal) refl) refl refl, λ m e has. has)

-- a transaction of takes begins, with a number of its own
pub record Begins (c d : Channel) : Type 0 where
  pub becomes : Becomes c d NoEntry
  pub opened : KeepsOpen c d
  pub entry : entry_of c.state.txn d.state.opened ≡ Some (Takes [])
  pub numbered : AreNumbered c.state.txn c.state.opened

-- a begin of takes opens an empty transaction with the next number
pub take_begun_becomes : (c d : Channel) → Is c → take_begun c ≡ Some d → Begins c d
take_begun_becomes c d h is =
    let s : State = after_begin (Takes []) c.state (Ok (next_token c.state)) in
    let u = unless-some (begin_refusal c.state) (record c { state = s }) d is in
    let numbered = (sound_is c.state c.journal h).numbered in
    subst (Begins c) u.1 (record {
      becomes = quiet c s (history_call c.state s c.journal c.journal (BeginTake (Ok (next_token c.state))) h (u.0, refl) tt refl (append-nil c.journal) refl) refl refl;
      opened = λ m e has. entry_front m e c.state.opened ((c.state.txn, Takes []) ∷ []) has;
      entry = entry_of-push c.state.txn (Takes []) c.state.opened numbered;
      numbered = numbered;
    })

record TookAny (s s' : State) (number : ℕ) : Type 0 where
  staged : s'.staged ≡ s.staged
  life : s'.life ≡ s.life
  rules : s'.rules ≡ s.rules
  others : (m : ℕ) → m ≢ number → entry_of m s'.opened ≡ entry_of m s.opened

took_any : (s : State) (token : Token) (takes : Option (List ℕ)) (items : List (ℕ × Content)) (e : Option Content) → TookAny s (after_take s token takes items (Ok (record { event = e; spilled = false }))) token.number
took_any s token None items e = record { staged = refl; life = refl; rules = refl; others = λ m other. refl }
took_any s token (Some numbers) [] e = record { staged = refl; life = refl; rules = refl; others = λ m other. refl }
took_any s token (Some numbers) (item ∷ items) e = record { staged = refl; life = refl; rules = refl; others = λ m other. other_with m token.number (Takes (numbers ++ item.0 ∷ [])) s.opened other }

-- a take stages nothing and leaves the other open transactions
pub taken_becomes : (token : Token) (c : Channel) (got : Channel × Content) → Is c → taken token c ≡ Some got → Becomes c got.0 NoEntry × KeepsOthers c got.0 token.number
taken_becomes token c got h is =
    let s : Content → State = λ e. after_take c.state token (takes_of c.state token) (free c.state) (Ok (record { event = Some e; spilled = false })) in
    let make : Content → Channel × Content = λ e. (record c { state = s e }, e) in
    let e = and_then-some (first_event (free c.state)) (λ e. unless (take_refusal c.state (takes_of c.state token)) (make e)) got is in
    let u = unless-some (take_refusal c.state (takes_of c.state token)) (make e.0) got e.2 in
    let any = took_any c.state token (takes_of c.state token) (free c.state) (Some e.0) in
    let history : IsHistory (s e.0) c.journal = history_call c.state (s e.0) c.journal c.journal (Take token (Ok (record { event = Some e.0; spilled = false }))) h (u.0, sym e.1, no_spill c.state.rules.kind h.kind, tt) tt refl (append-nil c.journal) any.rules in
    subst (λ (g : Channel × Content). Becomes c g.0 NoEntry × KeepsOthers c g.0 token.number) u.1 (quiet c (s e.0) history any.staged any.life, λ m x other has. any.others m other ∙ has)

-- a rollback of takes stages nothing and leaves the other open transactions
pub given_up_becomes : (token : Token) (c d : Channel) → Is c → given_up token c ≡ Some d → Becomes c d NoEntry × KeepsOthers c d token.number
given_up_becomes token c d h is =
    subst (λ (x : Channel). Becomes c x NoEntry × KeepsOthers c x token.number) (same_some (record c { state = s ended }) d is) (quiet c (s ended) history (left ended).0 (left ended).1, λ m e other has. (left ended).3 m other ∙ has)
  where
    ended : Bool
    ended = is_some_of (takes_of c.state token)

    s : Bool → State
    s b = cond b (close token.number c.state) c.state

    left : (b : Bool) → ((s b).staged ≡ c.state.staged) × ((s b).life ≡ c.state.life) × ((s b).rules ≡ c.state.rules) × ((m : ℕ) → m ≢ token.number → entry_of m (s b).opened ≡ entry_of m c.state.opened)
    left true = (refl, refl, refl, λ m other. other_without m token.number c.state.opened other)
    left false = (refl, refl, refl, λ m other. refl)

    history : IsHistory (s ended) c.journal
    history = history_call c.state (s ended) c.journal c.journal (RollbackTake token ended) h refl tt refl (append-nil c.journal) (left ended).2

le_of : (a b : ℕ) → nat_le a b ≡ true → a ≤ b
le_of a b is = grind (arith, nat_tests)

lt_of : (a b : ℕ) → nat_lt a b ≡ true → a < b
lt_of a b is = grind (arith, nat_tests)

-- a reopening keeps the journal and so many staged entries, and loses the rest
pub reopened_becomes : (kept : ℕ) (c d : Channel) → Is c → reopened kept c ≡ Some d → Reopens c d (length c.journal + kept)
reopened_becomes kept c d h is =
    let make : Channel = record c { state = after_reopen c.state (Ok (record { kept = Front kept; txn = c.state.txn })); journal = c.journal ++ take kept c.state.staged; named = take (length c.journal + kept) c.named } in
    let u = only_if-some (nat_le kept (length c.state.staged) && nat_lt c.state.life (2 ^ 64 - 1)) make d is in
    let both = both_true (nat_le kept (length c.state.staged)) (nat_lt c.state.life (2 ^ 64 - 1)) u.0 in
    subst (λ (x : Channel). Reopens c x (length c.journal + kept)) u.1 (record {
      history = history_call c.state make.state c.journal make.journal (Reopen (Ok (record { kept = Front kept; txn = c.state.txn }))) h ((lt_of c.state.life (2 ^ 64 - 1) both.1, le_of kept (length c.state.staged) both.0), h.kind) tt refl refl refl;
      later = refl;
      last = refl;
      settled = take kept c.state.staged;
      journal = refl;
      shorter = append-nil (c.journal ++ take kept c.state.staged) ∙ sym (take_front c.journal c.state.staged kept);
      named = refl;
    })

-- a transaction of takes is staged: as the entry that it has, with the delivery beside it; or as none, where it took nothing

no_events : (put : List Content) (n : ℕ) (numbers : List ℕ) → events_of put (n ∷ numbers) ≡ map (λ e. Some e) [] → ⊥
no_events put n numbers is = cc

-- a commit of takes adds its entry with its delivery, or nothing where it took nothing
pub committed_becomes : (token : Token) (delivery : Delivery) (events : List Content) (numbers : List ℕ) (c d : Channel) → Is c → entry_of token.number c.state.opened ≡ Some (Takes numbers) → Are c numbers events → committed token delivery events c ≡ Some d
    → ((Becomes c d (ATakes numbers delivery)) ⊎ (Becomes c d NoEntry)) × KeepsOthers c d token.number
committed_becomes token delivery events numbers c d h opened are is = (from numbers events opened are u.1, λ m e other has. subst (λ (x : Channel). entry_of m x.state.opened ≡ Some e) u.1 (leaves.others m other ∙ has))
  where
    s : Option Entry → State
    s entry = stage token.number entry c.state

    make : Option Entry → List Content → Channel
    make entry events = record c { state = s entry; named = cond (is_empty events) c.named (c.named ++ Some delivery ∷ []) }

    u : (stage_take_refusal c.state (takes_of c.state token) ≡ None) × (make (entry_of token.number c.state.opened) events ≡ d)
    u = unless-some (stage_take_refusal c.state (takes_of c.state token)) (make (entry_of token.number c.state.opened) events) d is

    leaves : Staged token.number c.state (s (entry_of token.number c.state.opened))
    leaves = staged_leaves token.number (entry_of token.number c.state.opened) c.state

    history : IsHistory (s (entry_of token.number c.state.opened)) c.journal
    history = history_call c.state (s (entry_of token.number c.state.opened)) c.journal c.journal (StageTake token (Ok (ticket c.state 0 (size_of_list (takes_of c.state token))))) h (u.0, refl) tt refl (append-nil c.journal) leaves.rules

    from : (numbers : List ℕ) (events : List Content) → entry_of token.number c.state.opened ≡ Some (Takes numbers) → Are c numbers events → make (entry_of token.number c.state.opened) events ≡ d → (Becomes c d (ATakes numbers delivery)) ⊎ (Becomes c d NoEntry)
    from [] [] opened are same =
        let it : make (Some (Takes [])) [] ≡ d = ap (λ (e : Option Entry). make e []) (sym opened) ∙ same in
        inr (subst (λ (x : Channel). Becomes c x NoEntry) it (quiet c (close token.number c.state) (subst (λ (e : Option Entry). IsHistory (s e) c.journal) opened history) refl refl))
    from [] (e ∷ events) opened are same = absurd (cc)
    from (n ∷ numbers) [] opened are same = absurd (no_events (put_events c.journal) n numbers are)
    from (n ∷ numbers) (e ∷ events) opened are same =
        let it : make (Some (Takes (n ∷ numbers))) (e ∷ events) ≡ d = ap (λ (x : Option Entry). make x (e ∷ events)) (sym opened) ∙ same in
        inl (subst (λ (x : Channel). Becomes c x (ATakes (n ∷ numbers) delivery)) it (record {
          history = subst (λ (y : Option Entry). IsHistory (s y) c.journal) opened history;
          later = refl;
          last = refl;
          settled = [];
          journal = sym (append-nil c.journal);
          longer = sym (append_assoc c.journal c.state.staged (Takes (n ∷ numbers) ∷ []));
          named = refl;
          life = refl;
        }))
