-- Calls that begin, stage or give up a transaction, as steps of the machine.
use Rattle.std.proofs.Common.{◌≡◌, ◌<◌, ◌+◌, [], ℕ, List, length, Option, Some, None, Ok, Err, Result, Bool, true, false, refl, ◌∙◌, ap, arith}
use Rattle.flume_host.specs.Told.{Told}
use Rattle.event_core.specs.declared.journal.Entry.{Entry}
use Rattle.event_core.specs.declared.journal.Entry.TheVariants.{Puts, Takes}
use Rattle.record_form.specs.declared.record.Rec.{Rec}
use Rattle.channel_log.specs.Writer.{Appends}
use Rattle.channel_face.specs.Token.{Token}
use Rattle.channel_face.specs.History.{Moves}
use Rattle.channel_face.specs.Machine.{State, BeginPut, BeginTake, RollbackPut, RollbackTake, StagePut, StageTake, after, after_begin, close, is_some_of, next_number, puts_of, size_of_list, stage, stage_put_refusal, stage_take_refusal, takes_of, ticket}
use Rattle.channel_face.specs.declared.replies.BeginRefused.{BeginRefused}
use Rattle.channel_face.specs.declared.replies.StageCause.{StageCause}
use Rattle.channel_face.specs.declared.replies.Ticket.{Ticket}
use Rattle.channel_places.specs.Looks as looks
use Rattle.channel_places.specs.Looks.{KeepsPuts, Known, Looks, Numbers, Places}
use Rattle.channel_writing.specs.Waiting.{rollback_length}
use Rattle.channel_writing.specs.Whole.{IsWhole}
use Rattle.channel_writing.specs.Written.{IsLogged}
use Rattle.channel_writing.proofs.Rooms.{none, positive, rolled_none, rolled_some, staged_none, staged_some}
use Rattle.channel_writing.proofs.Whole.{StagedPuts, StagedTakes, begun_whole, did_put, did_take, rollback_put_broken, rollback_put_idle, rollback_put_whole, rollback_take_broken, rollback_take_idle, rollback_take_whole, sound_then, stage_puts_idle, stage_takes_idle, stage_whole, staged_puts, staged_takes}
use Rattle.file_channel.specs.Placed.{IsStateOf, Logged}
use Rattle.file_channel.specs.Stepped.{Steps}
use Rattle.file_channel.proofs.Owning.{own_appends, own_less}
use Rattle.file_channel.proofs.Placing.{placed_appends}

-- places are broken where the state is
pub same_broken : (settled known : Known) (p : Places) (s : State) → Looks settled known p s → p.numbers.broken ≡ s.broken
same_broken settled known p s looks = ap (λ (n : Numbers). n.broken) looks.numbers

begin_still : (entry : Entry) (s : State) (reply : Result Token BeginRefused) → (after_begin entry s reply).broken ≡ false → s.broken ≡ false
begin_still entry s (Ok token) is = is
begin_still entry s (Err e) is = is

-- a transaction more

-- a put transaction is begun, or refused
pub begun_put : (told : Option Told) (old : Logged) (p : Places) (reply : Result Token BeginRefused) (s : State) → IsStateOf told old s → looks.Steps old.places (BeginPut reply) p → KeepsPuts old.places.opened p.opened → Steps told told old (record old { places = p }) (BeginPut reply) s
begun_put told old p reply s is step keeps =
    let did = step is.settled is.known s is.looks in
    let moves : Moves true s (BeginPut reply) (after s (BeginPut reply)) = record { admitted = did.0; state = refl } in
    record {
      admitted = did.0;
      stands = record {
        settled = is.settled;
        known = is.known;
        looks = did.1;
        placed = λ still. is.placed (begin_still (Puts []) s reply still);
        owned = λ still. own_less told old.log old.places.opened p.opened keeps (is.owned (begin_still (Puts []) s reply still));
        whole = begun_whole told old.log old.busy s (after s (BeginPut reply)) (Puts []) reply is.whole did.0 refl (sound_then s (BeginPut reply) (after s (BeginPut reply)) moves is.whole.sound) refl;
      };
      waits = refl;
    }

-- a take transaction is begun, or refused
pub begun_take : (told : Option Told) (old : Logged) (p : Places) (reply : Result Token BeginRefused) (s : State) → IsStateOf told old s → looks.Steps old.places (BeginTake reply) p → KeepsPuts old.places.opened p.opened → Steps told told old (record old { places = p }) (BeginTake reply) s
begun_take told old p reply s is step keeps =
    let did = step is.settled is.known s is.looks in
    let moves : Moves true s (BeginTake reply) (after s (BeginTake reply)) = record { admitted = did.0; state = refl } in
    record {
      admitted = did.0;
      stands = record {
        settled = is.settled;
        known = is.known;
        looks = did.1;
        placed = λ still. is.placed (begin_still (Takes []) s reply still);
        owned = λ still. own_less told old.log old.places.opened p.opened keeps (is.owned (begin_still (Takes []) s reply still));
        whole = begun_whole told old.log old.busy s (after s (BeginTake reply)) (Takes []) reply is.whole did.0 refl (sound_then s (BeginTake reply) (after s (BeginTake reply)) moves is.whole.sound) refl;
      };
      waits = refl;
    }

-- a transaction less

none_listed : {A : Type 0} (o : Option (List A)) → false ≡ is_some_of o → size_of_list o ≡ 0
none_listed None is = refl
none_listed (Some xs) is = absurd (cc)

nothing_rolled : (broken : Bool) (held waiting : ℕ) → held ≡ 0 → waiting ≡ waiting + rollback_length broken held
nothing_rolled broken held waiting is = rolled_none broken held waiting (λ both. absurd (let some = both.0 in omega (arith, some, is)))

-- a stale token's transaction

-- a rollback of a put with a stale token changes nothing
pub stale_put : (told : Option Told) (old : Logged) (token : Token) (s : State) → IsStateOf told old s → false ≡ is_some_of (puts_of s token) → Steps told told old old (RollbackPut token false) s
stale_put told old token s is stale = record { admitted = stale; stands = is; waits = nothing_rolled s.broken (size_of_list (puts_of s token)) (length old.log.bytes) (none_listed (puts_of s token) stale) }

-- a rollback of a take with a stale token changes nothing
pub stale_take : (told : Option Told) (old : Logged) (token : Token) (s : State) → IsStateOf told old s → false ≡ is_some_of (takes_of s token) → Steps told told old old (RollbackTake token false) s
stale_take told old token s is stale = record { admitted = stale; stands = is; waits = nothing_rolled s.broken (size_of_list (takes_of s token)) (length old.log.bytes) (none_listed (takes_of s token) stale) }

-- one that did something has a record for it

-- a rollback of puts, with its record in the log
pub recorded_put : (told : Option Told) (old new : Logged) (token : Token) (rec : Rec) (s : State) → IsStateOf told old s → true ≡ is_some_of (puts_of s token) → ((settled known : Known) → Looks settled known old.places s → Looks settled known new.places (close token.number s)) → KeepsPuts old.places.opened new.places.opened → 0 < size_of_list (puts_of s token) → s.broken ≡ false
    → IsLogged told new.log new.busy (close token.number s) → Appends old.log new.log rec → length new.log.bytes ≡ length old.log.bytes + 9 → Steps told told old new (RollbackPut token true) s
recorded_put told old new token rec s is is_open places keeps some still log adds longer =
    let moves : Moves true s (RollbackPut token true) (close token.number s) = record { admitted = is_open; state = refl } in
    record {
      admitted = is_open;
      stands = record {
        settled = is.settled;
        known = is.known;
        looks = places is.settled is.known is.looks;
        placed = λ _. placed_appends told old.log new.log rec is.settled is.known adds (is.placed still);
        owned = λ _. own_appends told old.log new.log rec new.places.opened adds (own_less told old.log old.places.opened new.places.opened keeps (is.owned still));
        whole = rollback_put_whole told new.log new.busy s (close token.number s) token true still is.whole.sound is.whole.kind moves (did_put s token some) log;
      };
      waits = longer ∙ rolled_some s.broken (size_of_list (puts_of s token)) (length old.log.bytes) (some, still);
    }

-- a rollback of takes, with its record in the log
pub recorded_take : (told : Option Told) (old new : Logged) (token : Token) (rec : Rec) (s : State) → IsStateOf told old s → true ≡ is_some_of (takes_of s token) → ((settled known : Known) → Looks settled known old.places s → Looks settled known new.places (close token.number s)) → KeepsPuts old.places.opened new.places.opened → 0 < size_of_list (takes_of s token) → s.broken ≡ false
    → IsLogged told new.log new.busy (close token.number s) → Appends old.log new.log rec → length new.log.bytes ≡ length old.log.bytes + 9 → Steps told told old new (RollbackTake token true) s
recorded_take told old new token rec s is is_open places keeps some still log adds longer =
    let moves : Moves true s (RollbackTake token true) (close token.number s) = record { admitted = is_open; state = refl } in
    record {
      admitted = is_open;
      stands = record {
        settled = is.settled;
        known = is.known;
        looks = places is.settled is.known is.looks;
        placed = λ _. placed_appends told old.log new.log rec is.settled is.known adds (is.placed still);
        owned = λ _. own_appends told old.log new.log rec new.places.opened adds (own_less told old.log old.places.opened new.places.opened keeps (is.owned still));
        whole = rollback_take_whole told new.log new.busy s (close token.number s) token true still is.whole.sound is.whole.kind moves (did_take s token some) log;
      };
      waits = longer ∙ rolled_some s.broken (size_of_list (takes_of s token)) (length old.log.bytes) (some, still);
    }

-- one that did nothing, or that of a broken channel, has none

-- a rollback of a put transaction without a record
pub unrecorded_put : (told : Option Told) (old : Logged) (p : Places) (token : Token) (s : State) → IsStateOf told old s → true ≡ is_some_of (puts_of s token) → ((settled known : Known) → Looks settled known old.places s → Looks settled known p (close token.number s)) → KeepsPuts old.places.opened p.opened → ((0 < size_of_list (puts_of s token)) × (s.broken ≡ false) → ⊥)
    → Steps told told old (record old { places = p }) (RollbackPut token true) s
unrecorded_put told old p token s is is_open places keeps not = record {
  admitted = is_open;
  stands = record { settled = is.settled; known = is.known; looks = places is.settled is.known is.looks; placed = is.placed; owned = λ still. own_less told old.log old.places.opened p.opened keeps (is.owned still); whole = whole s.broken refl };
  waits = rolled_none s.broken (size_of_list (puts_of s token)) (length old.log.bytes) not;
}
  where
    moves : Moves true s (RollbackPut token true) (close token.number s)
    moves = record { admitted = is_open; state = refl }

    whole : (b : Bool) → s.broken ≡ b → IsWhole told old.log old.busy (close token.number s)
    whole true broken = rollback_put_broken told old.log old.busy s (close token.number s) token true is.whole moves broken
    whole false still = rollback_put_idle told old.log old.busy s (close token.number s) token true is.whole moves (let low = none (size_of_list (puts_of s token)) (λ some. not (some, still)) in omega (arith, low))

-- a rollback of a take transaction without a record
pub unrecorded_take : (told : Option Told) (old : Logged) (p : Places) (token : Token) (s : State) → IsStateOf told old s → true ≡ is_some_of (takes_of s token) → ((settled known : Known) → Looks settled known old.places s → Looks settled known p (close token.number s)) → KeepsPuts old.places.opened p.opened → ((0 < size_of_list (takes_of s token)) × (s.broken ≡ false) → ⊥)
    → Steps told told old (record old { places = p }) (RollbackTake token true) s
unrecorded_take told old p token s is is_open places keeps not = record {
  admitted = is_open;
  stands = record { settled = is.settled; known = is.known; looks = places is.settled is.known is.looks; placed = is.placed; owned = λ still. own_less told old.log old.places.opened p.opened keeps (is.owned still); whole = whole s.broken refl };
  waits = rolled_none s.broken (size_of_list (takes_of s token)) (length old.log.bytes) not;
}
  where
    moves : Moves true s (RollbackTake token true) (close token.number s)
    moves = record { admitted = is_open; state = refl }

    whole : (b : Bool) → s.broken ≡ b → IsWhole told old.log old.busy (close token.number s)
    whole true broken = rollback_take_broken told old.log old.busy s (close token.number s) token true is.whole moves broken
    whole false still = rollback_take_idle told old.log old.busy s (close token.number s) token true is.whole moves (let low = none (size_of_list (takes_of s token)) (λ some. not (some, still)) in omega (arith, low))

-- a transaction that is staged

-- the machine's step
pub stages_put : (s : State) (token : Token) (given : Ticket) → stage_put_refusal s (puts_of s token) ≡ None → given ≡ ticket s (next_number s) (size_of_list (puts_of s token)) → Moves true s (StagePut token (Ok given)) (after s (StagePut token (Ok given)))
stages_put s token given may is = record { admitted = (may, is); state = refl }

-- a take that may be staged is staged with its ticket
pub stages_take : (s : State) (token : Token) (given : Ticket) → stage_take_refusal s (takes_of s token) ≡ None → given ≡ ticket s 0 (size_of_list (takes_of s token)) → Moves true s (StageTake token (Ok given)) (after s (StageTake token (Ok given)))
stages_take s token given may is = record { admitted = (may, is); state = refl }

-- one that did nothing
pub idle_put : (told : Option Told) (old : Logged) (p : Places) (token : Token) (given : Ticket) (s : State) → IsStateOf told old s → Moves true s (StagePut token (Ok given)) (after s (StagePut token (Ok given))) → ((settled known : Known) → Looks settled known old.places s → Looks settled known p (after s (StagePut token (Ok given)))) → KeepsPuts old.places.opened p.opened → given.count ≡ 0
    → Steps told told old (record old { places = p }) (StagePut token (Ok given)) s
idle_put told old p token given s is moves places keeps idle =
    let s' : State = after s (StagePut token (Ok given)) in
    let staged = staged_puts s s' token given moves in
    let nothing : length staged.events ≡ 0 = omega (arith, idle, staged.count) in
    record {
      admitted = moves.admitted;
      stands = record {
        settled = is.settled;
        known = is.known;
        looks = places is.settled is.known is.looks;
        placed = λ _. is.placed staged.still;
        owned = λ _. own_less told old.log old.places.opened p.opened keeps (is.owned staged.still);
        whole = stage_whole told old.log old.busy s s' token.number (Puts staged.events) staged.still is.whole.kind (sound_then s (StagePut token (Ok given)) s' moves is.whole.sound) refl staged.entry (stage_puts_idle told old.log old.busy s token.number staged.events (is.whole.logged staged.still) staged.entry nothing);
      };
      waits = staged_none given.count (length old.log.bytes) 21 idle;
    }

-- a take transaction that took nothing is staged without a record
pub idle_take : (told : Option Told) (old : Logged) (p : Places) (token : Token) (given : Ticket) (s : State) → IsStateOf told old s → Moves true s (StageTake token (Ok given)) (after s (StageTake token (Ok given))) → ((settled known : Known) → Looks settled known old.places s → Looks settled known p (after s (StageTake token (Ok given)))) → KeepsPuts old.places.opened p.opened → given.count ≡ 0
    → Steps told told old (record old { places = p }) (StageTake token (Ok given)) s
idle_take told old p token given s is moves places keeps idle =
    let s' : State = after s (StageTake token (Ok given)) in
    let staged = staged_takes s s' token given moves in
    let nothing : length staged.numbers ≡ 0 = omega (arith, idle, staged.count) in
    record {
      admitted = moves.admitted;
      stands = record {
        settled = is.settled;
        known = is.known;
        looks = places is.settled is.known is.looks;
        placed = λ _. is.placed staged.still;
        owned = λ _. own_less told old.log old.places.opened p.opened keeps (is.owned staged.still);
        whole = stage_whole told old.log old.busy s s' token.number (Takes staged.numbers) staged.still is.whole.kind (sound_then s (StageTake token (Ok given)) s' moves is.whole.sound) refl staged.entry (stage_takes_idle told old.log old.busy s token.number staged.numbers (is.whole.logged staged.still) staged.entry nothing);
      };
      waits = staged_none given.count (length old.log.bytes) 13 idle;
    }

-- one that did something
pub staged_put : (told : Option Told) (old new : Logged) (token : Token) (given : Ticket) (rec : Rec) (s : State) → IsStateOf told old s → (moves : Moves true s (StagePut token (Ok given)) (after s (StagePut token (Ok given)))) → ((settled known : Known) → Looks settled known old.places s → Looks settled known new.places (after s (StagePut token (Ok given)))) → KeepsPuts old.places.opened new.places.opened → (given.count ≡ 0 → ⊥)
    → (staged : StagedPuts s token given) → IsLogged told new.log new.busy (stage token.number (Some (Puts staged.events)) s) → Appends old.log new.log rec → length new.log.bytes ≡ length old.log.bytes + 21 → Steps told told old new (StagePut token (Ok given)) s
staged_put told old new token given rec s is moves places keeps some staged log adds longer =
    let s' : State = after s (StagePut token (Ok given)) in
    record {
      admitted = moves.admitted;
      stands = record {
        settled = is.settled;
        known = is.known;
        looks = places is.settled is.known is.looks;
        placed = λ _. placed_appends told old.log new.log rec is.settled is.known adds (is.placed staged.still);
        owned = λ _. own_appends told old.log new.log rec new.places.opened adds (own_less told old.log old.places.opened new.places.opened keeps (is.owned staged.still));
        whole = stage_whole told new.log new.busy s s' token.number (Puts staged.events) staged.still is.whole.kind (sound_then s (StagePut token (Ok given)) s' moves is.whole.sound) refl staged.entry log;
      };
      waits = longer ∙ staged_some given.count (length old.log.bytes) 21 (positive given.count some);
    }

-- a take transaction that took something is staged with its record
pub staged_take : (told : Option Told) (old new : Logged) (token : Token) (given : Ticket) (rec : Rec) (s : State) → IsStateOf told old s → (moves : Moves true s (StageTake token (Ok given)) (after s (StageTake token (Ok given)))) → ((settled known : Known) → Looks settled known old.places s → Looks settled known new.places (after s (StageTake token (Ok given)))) → KeepsPuts old.places.opened new.places.opened → (given.count ≡ 0 → ⊥)
    → (staged : StagedTakes s token given) → IsLogged told new.log new.busy (stage token.number (Some (Takes staged.numbers)) s) → Appends old.log new.log rec → length new.log.bytes ≡ length old.log.bytes + 13 → Steps told told old new (StageTake token (Ok given)) s
staged_take told old new token given rec s is moves places keeps some staged log adds longer =
    let s' : State = after s (StageTake token (Ok given)) in
    record {
      admitted = moves.admitted;
      stands = record {
        settled = is.settled;
        known = is.known;
        looks = places is.settled is.known is.looks;
        placed = λ _. placed_appends told old.log new.log rec is.settled is.known adds (is.placed staged.still);
        owned = λ _. own_appends told old.log new.log rec new.places.opened adds (own_less told old.log old.places.opened new.places.opened keeps (is.owned staged.still));
        whole = stage_whole told new.log new.busy s s' token.number (Takes staged.numbers) staged.still is.whole.kind (sound_then s (StageTake token (Ok given)) s' moves is.whole.sound) refl staged.entry log;
      };
      waits = longer ∙ staged_some given.count (length old.log.bytes) 13 (positive given.count some);
    }

-- one that is refused
pub refused_put : (told : Option Told) (old : Logged) (token : Token) (cause : StageCause) (s : State) → IsStateOf told old s → stage_put_refusal s (puts_of s token) ≡ Some cause → Steps told told old old (StagePut token (Err cause)) s
refused_put told old token cause s is refused = record { admitted = refused; stands = is; waits = refl }

-- a staging of takes that is refused leaves the channel as it was
pub refused_take : (told : Option Told) (old : Logged) (token : Token) (cause : StageCause) (s : State) → IsStateOf told old s → stage_take_refusal s (takes_of s token) ≡ Some cause → Steps told told old old (StageTake token (Err cause)) s
refused_take told old token cause s is refused = record { admitted = refused; stands = is; waits = refl }
