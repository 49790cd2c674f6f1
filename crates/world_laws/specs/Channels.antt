-- What a channel does in a step of the world, or none where it can't: calls of the channel machine, one or several at once.
use Rattle.std.specs.Prelude.{◌+◌, ◌-◌, ◌^◌, ℕ, List, [], ◌∷◌, ◌++◌, length, take, Option, Some, None, Ok, Bool, true, false, not, ◌&&◌, nat_lt, nat_le, if◌then◌else◌}
use Rattle.event_core.specs.Content.{Content}
use Rattle.event_core.specs.declared.journal.Entry.TheVariants.{Puts, Takes}
use Rattle.channel_face.specs.Token.{Token}
use Rattle.channel_face.specs.Machine.{State, Front, after_begin, after_put, after_take, after_reopen, begin_refusal, put_refusal, take_refusal, stage_put_refusal, stage_take_refusal, puts_of, takes_of, free, first_event, settle, broken_state, close, stage, entry_of, is_some_of}
use Rattle.world_laws.specs.World.{Delivery, Channel, commits, and_then}

-- this, where the test holds
abbrev pub only_if : {A : Type 0} → Bool → A → Option A
only_if true x = Some x
only_if false x = None

-- this, where there is no cause to refuse it
abbrev pub unless : {A B : Type 0} → Option A → B → Option B
unless None x = Some x
unless (Some refused) x = None

-- there is none
abbrev pub is_none : {A : Type 0} → Option A → Bool
is_none None = true
is_none (Some x) = false

-- there are none
abbrev pub is_empty : {A : Type 0} → List A → Bool
is_empty [] = true
is_empty (x ∷ xs) = false

-- the token of the transaction that would begin next
abbrev pub next_token : State → Token
next_token s = record { life = s.life; number = s.txn }

-- each event is put in the transaction of this token
abbrev pub put_all : State → Token → List Content → Option State
put_all s token [] = Some s
put_all s token (e ∷ es) =
    and_then (unless (put_refusal s (puts_of s token) e) (after_put s token (puts_of s token) e (Ok (record { spilled = false }))))
    (λ next. put_all next token es)

-- and what was put is staged
abbrev pub stage_all : State → Token → Option State
stage_all s token = unless (stage_put_refusal s (puts_of s token)) (stage token.number (entry_of token.number s.opened) s)

-- a whole transaction of puts: a begin, a put of each event, and a stage; none where one of them is refused
abbrev pub put_transaction : State → List Content → Option State
put_transaction s events =
    and_then (unless (begin_refusal s) (after_begin (Puts []) s (Ok (next_token s))))
    (λ begun. and_then (put_all begun (next_token s) events) (λ put. stage_all put (next_token s)))

-- the events are staged as one entry
abbrev pub stored : List Content → Channel → Option Channel
stored events c = and_then (put_transaction c.state events) (λ s. Some (record c { state = s; named = c.named ++ None ∷ [] }))

-- the same, where there are some events
abbrev pub aside : List Content → Channel → Option Channel
aside events c = if is_empty events then None else stored events c

-- what is staged settles; or the device failed, and the channel breaks and keeps it staged
abbrev pub flushed : Bool → Channel → Option Channel
flushed true c = only_if (not c.state.broken) (record c { state = settle c.state; journal = commits c })
flushed false c = only_if (not c.state.broken) (record c { state = broken_state c.state })

-- the channel breaks; one that is broken stays as it is
abbrev pub failed : Channel → Option Channel
failed c = Some (if c.state.broken then c else record c { state = broken_state c.state })

-- a transaction of takes begins
abbrev pub take_begun : Channel → Option Channel
take_begun c = unless (begin_refusal c.state) (record c { state = after_begin (Takes []) c.state (Ok (next_token c.state)) })

-- it takes one event
abbrev pub taken : Token → Channel → Option (Channel × Content)
taken token c =
    and_then (first_event (free c.state))
    (λ e. unless (take_refusal c.state (takes_of c.state token))
    (record c { state = after_take c.state token (takes_of c.state token) (free c.state) (Ok (record { event = Some e; spilled = false })) }, e))

-- it is staged as an entry that names this delivery, or as none where it took nothing
abbrev pub committed : Token → Delivery → List Content → Channel → Option Channel
committed token delivery events c = unless (stage_take_refusal c.state (takes_of c.state token)) (record c {
  state = stage token.number (entry_of token.number c.state.opened) c.state;
  named = if is_empty events then c.named else c.named ++ Some delivery ∷ [];
})

-- it is rolled back
abbrev pub given_up : Token → Channel → Option Channel
given_up token c = Some (record c { state = if is_some_of (takes_of c.state token) then close token.number c.state else c.state })

-- the channel is opened again, and so many of the entries that were staged stay
abbrev pub reopened : ℕ → Channel → Option Channel
reopened kept c = only_if (nat_le kept (length c.state.staged) && nat_lt c.state.life (2 ^ 64 - 1)) (record c {
  state = after_reopen c.state (Ok (record { kept = Front kept; txn = c.state.txn }));
  journal = c.journal ++ take kept c.state.staged;
  named = take (length c.journal + kept) c.named;
})

-- all channels are, with one number each
abbrev pub all_reopened : List ℕ → List Channel → Option (List Channel)
all_reopened [] [] = Some []
all_reopened [] (c ∷ cs) = None
all_reopened (k ∷ ks) [] = None
all_reopened (k ∷ ks) (c ∷ cs) = and_then (reopened k c) (λ new. and_then (all_reopened ks cs) (λ news. Some (new ∷ news)))
