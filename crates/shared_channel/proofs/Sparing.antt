-- That transactions of puts and of takes are kinds of transactions.
use Rattle.std.proofs.Common.{◌≡◌, Option, None, Some, Bool, true, false, Result, refl}
use Rattle.channel_face.specs.Token.{Token}
use Rattle.channel_face.specs.Faces.{is_spent_begin, is_spent_stage}
use Rattle.channel_face.specs.Machine.{State, AdmitsBegin, BeginPut, BeginTake, RollbackPut, RollbackTake, StagePut, StageTake, Admits, next_number, puts_of, size_of_list, takes_of, ticket, is_some_of}
use Rattle.channel_face.specs.declared.replies.BeginRefused.{BeginRefused}
use Rattle.channel_face.specs.declared.replies.StageCause.{StageCause}
use Rattle.channel_face.specs.declared.replies.Ticket.{Ticket}
use Rattle.channel_face.proofs.Spent.{begin_spares, stage_put_spares, stage_take_spares}
use Rattle.shared_channel.specs.Kinds.{IsRollback}
use Rattle.shared_channel.proofs.Rooms.{put_ends, take_ends}

-- a begin of puts that the machine answers was not refused for want of counted calls
pub begin_put_spares : (tells : Bool) (s : State) (reply : Result Token BeginRefused) → Admits tells s (BeginPut reply) → is_spent_begin reply ≡ false
begin_put_spares tells s reply may = begin_spares s reply may

-- a begin of takes that the machine answers was not refused for want of counted calls
pub begin_take_spares : (tells : Bool) (s : State) (reply : Result Token BeginRefused) → Admits tells s (BeginTake reply) → is_spent_begin reply ≡ false
begin_take_spares tells s reply may = begin_spares s reply may

-- a stage of puts that the machine answers was not refused for want of counted calls
pub put_stage_spares : (tells : Bool) (s : State) (t : Token) (reply : Result Ticket StageCause) → Admits tells s (StagePut t reply) → is_spent_stage reply ≡ false
put_stage_spares tells s t reply may = stage_put_spares s (puts_of s t) (ticket s (next_number s) (size_of_list (puts_of s t))) reply may

-- a stage of takes that the machine answers was not refused for want of counted calls
pub take_stage_spares : (tells : Bool) (s : State) (t : Token) (reply : Result Ticket StageCause) → Admits tells s (StageTake t reply) → is_spent_stage reply ≡ false
take_stage_spares tells s t reply may = stage_take_spares s (takes_of s t) (ticket s 0 (size_of_list (takes_of s t))) reply may

none_of : {A : Type 0} (o : Option A) → false ≡ is_some_of o → o ≡ None
none_of None is = refl
none_of (Some x) is = absurd (cc)

-- a rollback of puts is a kind of rollback
pub puts_back : (token : Token) → IsRollback (RollbackPut token) (λ s. puts_of s token ≡ None)
puts_back token = record { counted = λ ended. refl; ends = λ tells s may. put_ends s token may; stale = λ tells s may. none_of _ may }

-- a rollback of takes is a kind of rollback
pub takes_back : (token : Token) → IsRollback (RollbackTake token) (λ s. takes_of s token ≡ None)
takes_back token = record { counted = λ ended. refl; ends = λ tells s may. take_ends s token may; stale = λ tells s may. none_of _ may }
