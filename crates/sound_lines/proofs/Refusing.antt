-- What a channel that is not broken may refuse.
use Rattle.std.proofs.Common.{◌⊎◌, inl, inr, ◌≡◌, ◌≢◌, ◌<◌, ◌≤◌, ◌+◌, ◌-◌, ◌^◌, ◌∷◌, [], ℕ, suc, length, Option, Some, None, Err, Bool, true, false, cond, nat_le, nat_lt, ◌==◌, refl, sym, ◌∙◌, subst, arith}
use Rattle.std.proofs.lemmas.Bool.Decides.{eqb_tells, leb_tells}
use Rattle.event_core.specs.Content.{Content, size as size_of}
use Rattle.event_core.specs.Journal.{put_events}
use Rattle.channel_face.specs.Faces.{is_spent_begin, is_spent_put, is_spent_stage}
use Rattle.channel_face.specs.Machine.{State, AdmitsBegin, AdmitsPut, AdmitsStage, AdmitsFlush, begin_refusal, put_refusal, size_refusal, room_refusal, stage_put_refusal, or_else, count, next_number, settled}
use Rattle.channel_face.specs.declared.replies.BeginRefused.{BeginRefused}
use Rattle.channel_face.specs.declared.replies.BeginRefused.TheVariants as begin
use Rattle.channel_face.specs.declared.replies.Counter.TheVariants.{Txn, Number, File, Check, Life, Calls}
use Rattle.channel_face.specs.declared.replies.FaceRefused.TheVariants.{Begin, Put, Stage}
use Rattle.channel_face.specs.declared.replies.FlushRefused.{FlushRefused}
use Rattle.channel_face.specs.declared.replies.FlushRefused.TheVariants as flush
use Rattle.channel_face.specs.declared.replies.Kind.{Kind}
use Rattle.channel_face.specs.declared.replies.Kind.TheVariants.{File as OnFile, Memory as InMemory}
use Rattle.channel_face.specs.declared.replies.PutRefused.{PutRefused}
use Rattle.channel_face.specs.declared.replies.PutRefused.TheVariants as put
use Rattle.channel_face.specs.declared.replies.Settled.TheVariants.{Yes, No, InDoubt}
use Rattle.channel_face.specs.declared.replies.StageCause.{StageCause}
use Rattle.channel_face.specs.declared.replies.StageCause.TheVariants as stage
use Rattle.channel_face.specs.declared.replies.Ticket.{Ticket}
use Rattle.sound_lines.specs.Limits.{IsOutOfCalls, LimitsBegin, LimitsPut, LimitsStage}

tt_ff : true ≡ false → ⊥
tt_ff is = cc

at_most : (a b : ℕ) → nat_le a b ≡ true → a ≤ b
at_most a b is = from (leb_tells a b) is
  where
    from : ((nat_le a b ≡ true) × (a ≤ b)) ⊎ ((nat_le a b ≡ false) × (b < a)) → nat_le a b ≡ true → a ≤ b
    from (inl within) is = within.1
    from (inr isnt) is = absurd (tt_ff (sym is ∙ isnt.0))

less : (a b : ℕ) → nat_lt a b ≡ true → a < b
less a b is = at_most (suc a) b is

-- ---- a begin

some_begin : (a b : BeginRefused) → Some a ≡ Some b → a ≡ b
some_begin a b is = cc

none_begin : (a : BeginRefused) → None ≡ Some a → ⊥
none_begin a is = cc

begin_for : (s : State) (e : BeginRefused) → s.broken ≡ false → begin_refusal s ≡ Some e → LimitsBegin s e
begin_for s e whole is = by_tests s.broken (nat_le 1024 (length s.opened)) (nat_le (2 ^ 64 - 1) s.txn) whole (at_most 1024 (length s.opened)) (at_most (2 ^ 64 - 1) s.txn) is
  where
    by_tests : (a b c : Bool) → a ≡ false → (b ≡ true → 1024 ≤ length s.opened) → (c ≡ true → 2 ^ 64 - 1 ≤ s.txn)
        → cond a (Some begin.Broken) (cond b (Some (begin.TooManyOpen 1024)) (cond c (Some (begin.Spent Txn)) None)) ≡ Some e → LimitsBegin s e
    by_tests true b c whole many spent is = absurd (tt_ff whole)
    by_tests false true c whole many spent is = subst (LimitsBegin s) (some_begin (begin.TooManyOpen 1024) e is) (refl, many refl)
    by_tests false false true whole many spent is = subst (LimitsBegin s) (some_begin (begin.Spent Txn) e is) (refl, spent refl)
    by_tests false false false whole many spent is = absurd (none_begin e is)

-- it is refused for a limit, or out of memory
pub begin_limit : (s : State) (e : BeginRefused) → s.broken ≡ false → AdmitsBegin s (Err e) → (e ≡ begin.NoMemory) ⊎ LimitsBegin s e
begin_limit s begin.NoMemory whole may = inl refl
begin_limit s begin.Broken whole may = inr (begin_for s begin.Broken whole may)
begin_limit s (begin.TooManyOpen held) whole may = inr (begin_for s (begin.TooManyOpen held) whole may)
begin_limit s (begin.Spent counter) whole may = inr (begin_for s (begin.Spent counter) whole may)

-- a begin that was not made was refused because no more calls are counted
pub begin_out : (e : BeginRefused) → is_spent_begin (Err e) ≡ true → IsOutOfCalls (Begin e)
begin_out begin.Broken is = absurd (tt_ff (sym is))
begin_out (begin.TooManyOpen held) is = absurd (tt_ff (sym is))
begin_out begin.NoMemory is = absurd (tt_ff (sym is))
begin_out (begin.Spent Calls) is = refl
begin_out (begin.Spent Txn) is = absurd (tt_ff (sym is))
begin_out (begin.Spent Number) is = absurd (tt_ff (sym is))
begin_out (begin.Spent File) is = absurd (tt_ff (sym is))
begin_out (begin.Spent Check) is = absurd (tt_ff (sym is))
begin_out (begin.Spent Life) is = absurd (tt_ff (sym is))

-- ---- a put

some_put : (a b : PutRefused) → Some a ≡ Some b → a ≡ b
some_put a b is = cc

none_put : (a : PutRefused) → None ≡ Some a → ⊥
none_put a is = cc

size_for : (kind : Kind) (s : State) (event : Content) (e : PutRefused) → size_refusal kind s event ≡ Some e → LimitsPut s event e
size_for InMemory s event e is = absurd (none_put e is)
size_for OnFile s event e is = by_tests (nat_lt 1_048_576 (size_of event)) (nat_le s.rules.limits.capacity (count s)) (less 1_048_576 (size_of event)) (at_most s.rules.limits.capacity (count s)) is
  where
    by_tests : (a b : Bool) → (a ≡ true → 1_048_576 < size_of event) → (b ≡ true → s.rules.limits.capacity ≤ count s)
        → cond a (Some (put.TooLarge (size_of event))) (cond b (Some (put.Full (count s))) None) ≡ Some e → LimitsPut s event e
    by_tests true b large full is = subst (LimitsPut s event) (some_put (put.TooLarge (size_of event)) e is) (refl, large refl)
    by_tests false true large full is = subst (LimitsPut s event) (some_put (put.Full (count s)) e is) (refl, full refl)
    by_tests false false large full is = absurd (none_put e is)

-- by a transaction that has no put yet
put_for : (s : State) (event : Content) (e : PutRefused) → s.broken ≡ false → 1 ≤ s.rules.limits.txn_capacity → put_refusal s (Some []) event ≡ Some e → LimitsPut s event e
put_for s event e whole some is = by_tests s.broken (nat_le s.rules.limits.txn_capacity 0) whole (at_most s.rules.limits.txn_capacity 0) is
  where
    by_tests : (a b : Bool) → a ≡ false → (b ≡ true → s.rules.limits.txn_capacity ≤ 0)
        → cond a (Some put.Broken) (cond b (Some (put.TxnFull 0)) (size_refusal s.rules.kind s event)) ≡ Some e → LimitsPut s event e
    by_tests true b whole none is = absurd (tt_ff whole)
    by_tests false true whole none is = absurd (omega (arith, none refl, some))
    by_tests false false whole none is = size_for s.rules.kind s event e is

-- it is refused for a limit, out of memory, or for a fault of the disk
pub put_limit : (s : State) (event : Content) (e : PutRefused) → s.broken ≡ false → 1 ≤ s.rules.limits.txn_capacity → AdmitsPut s (Some []) event (Err e)
    → (e ≡ put.NoMemory) ⊎ (e ≡ put.DiskFault) ⊎ LimitsPut s event e
put_limit s event put.NoMemory whole some may = inl refl
put_limit s event put.DiskFault whole some may = inr (inl refl)
put_limit s event (put.Spent counter) whole some may = inr (inr may.1)
put_limit s event put.Stale whole some may = inr (inr (put_for s event put.Stale whole some may))
put_limit s event put.Broken whole some may = inr (inr (put_for s event put.Broken whole some may))
put_limit s event (put.TxnFull many) whole some may = inr (inr (put_for s event (put.TxnFull many) whole some may))
put_limit s event (put.TooLarge size) whole some may = inr (inr (put_for s event (put.TooLarge size) whole some may))
put_limit s event (put.Full many) whole some may = inr (inr (put_for s event (put.Full many) whole some may))

-- a put that was not made was refused because no more calls are counted
pub put_out : (e : PutRefused) → is_spent_put (Err e) ≡ true → IsOutOfCalls (Put e)
put_out put.NoMemory is = absurd (tt_ff (sym is))
put_out put.DiskFault is = absurd (tt_ff (sym is))
put_out put.Stale is = absurd (tt_ff (sym is))
put_out put.Broken is = absurd (tt_ff (sym is))
put_out (put.TxnFull many) is = absurd (tt_ff (sym is))
put_out (put.TooLarge size) is = absurd (tt_ff (sym is))
put_out (put.Full many) is = absurd (tt_ff (sym is))
put_out (put.Spent Calls) is = refl
put_out (put.Spent Txn) is = absurd (tt_ff (sym is))
put_out (put.Spent Number) is = absurd (tt_ff (sym is))
put_out (put.Spent File) is = absurd (tt_ff (sym is))
put_out (put.Spent Check) is = absurd (tt_ff (sym is))
put_out (put.Spent Life) is = absurd (tt_ff (sym is))

-- ---- a stage

some_stage : (a b : StageCause) → Some a ≡ Some b → a ≡ b
some_stage a b is = cc

none_stage : (a : StageCause) → None ≡ Some a → ⊥
none_stage a is = cc

abbrev pub WithRoom : State → StageCause → Option StageCause → Type 0
WithRoom s e refusal = or_else refusal (cond (nat_lt (2 ^ 64 - 1) (next_number s + 1)) (Some (stage.Spent Number)) None) ≡ Some e

number_for : (s : State) (e : StageCause) → WithRoom s e None → LimitsStage s e
number_for s e is = by_test (nat_lt (2 ^ 64 - 1) (next_number s + 1)) (less (2 ^ 64 - 1) (next_number s + 1)) is
  where
    by_test : (a : Bool) → (a ≡ true → 2 ^ 64 - 1 < next_number s + 1) → cond a (Some (stage.Spent Number)) None ≡ Some e → LimitsStage s e
    by_test true spent is = subst (LimitsStage s) (some_stage (stage.Spent Number) e is) (refl, spent refl)
    by_test false spent is = absurd (none_stage e is)

room_for : (kind : Kind) (s : State) (e : StageCause) → WithRoom s e (room_refusal kind s 1) → LimitsStage s e
room_for OnFile s e is = number_for s e is
room_for InMemory s e is =
    by_test (nat_lt s.rules.limits.capacity (length s.items + length (put_events s.staged) + 1)) (less s.rules.limits.capacity (length s.items + length (put_events s.staged) + 1)) is
  where
    by_test : (a : Bool) → (a ≡ true → s.rules.limits.capacity < length s.items + length (put_events s.staged) + 1)
        → WithRoom s e (cond a (Some (stage.Full (length s.items + length (put_events s.staged)))) None) → LimitsStage s e
    by_test true full is = subst (LimitsStage s) (some_stage (stage.Full (length s.items + length (put_events s.staged))) e is) (refl, full refl)
    by_test false full is = number_for s e is

-- a stage of one event is refused for a limit
pub stage_limit : (s : State) (event : Content) (its : Ticket) (e : StageCause) → s.broken ≡ false → AdmitsStage (stage_put_refusal s (Some (event ∷ []))) its (Err e) → LimitsStage s e
stage_limit s event its e whole may = by_broken s.broken whole may
  where
    by_broken : (a : Bool) → a ≡ false → cond a (Some stage.Broken) (or_else (room_refusal s.rules.kind s 1) (cond (nat_lt (2 ^ 64 - 1) (next_number s + 1)) (Some (stage.Spent Number)) None)) ≡ Some e → LimitsStage s e
    by_broken true whole is = absurd (tt_ff whole)
    by_broken false whole is = room_for s.rules.kind s e is

-- a stage that was not made was refused because no more calls are counted
pub stage_out : (e : StageCause) → is_spent_stage (Err e) ≡ true → IsOutOfCalls (Stage e)
stage_out stage.Stale is = absurd (tt_ff (sym is))
stage_out stage.Broken is = absurd (tt_ff (sym is))
stage_out (stage.Full many) is = absurd (tt_ff (sym is))
stage_out (stage.Spent Calls) is = refl
stage_out (stage.Spent Txn) is = absurd (tt_ff (sym is))
stage_out (stage.Spent Number) is = absurd (tt_ff (sym is))
stage_out (stage.Spent File) is = absurd (tt_ff (sym is))
stage_out (stage.Spent Check) is = absurd (tt_ff (sym is))
stage_out (stage.Spent Life) is = absurd (tt_ff (sym is))

-- ---- a flush

-- it is refused for a fault of the disk alone
pub flush_limit : (s : State) (e : FlushRefused) → s.broken ≡ false → AdmitsFlush s (Err e) → e ≡ flush.DiskFault
flush_limit s flush.Broken whole may = absurd (tt_ff (sym may ∙ whole))
flush_limit s flush.DiskFault whole may = refl
flush_limit s (flush.Spent counter) whole may = absurd may

-- a ticket of this life whose frame has come is in no doubt
pub no_doubt : (s : State) (t : Ticket) → t.life ≡ s.life → t.frame ≤ s.frame → s.broken ≡ false → settled s t ≡ InDoubt → ⊥
no_doubt s t life frame whole told = by_frame (eqb_tells t.frame 0)
  where
    yes_doubt : Yes ≡ InDoubt → ⊥
    yes_doubt is = cc

    no_is_doubt : No ≡ InDoubt → ⊥
    no_is_doubt is = cc

    by_same : ((t.frame == 0) ≡ false) → ((t.life == s.life) ≡ true) → (nat_lt t.frame s.frame ≡ false) → ((t.frame == s.frame) ≡ true) × (t.frame ≡ s.frame) ⊎ ((t.frame == s.frame) ≡ false) × (t.frame ≢ s.frame) → s.frame < suc t.frame → ⊥
    by_same some here unwritten (inl same) late = no_is_doubt (rw (some, here, unwritten, same.0, whole) at told)
    by_same some here unwritten (inr other) late = other.1 (omega (arith, frame, late))

    by_written : ((t.frame == 0) ≡ false) → ((t.life == s.life) ≡ true) → ((nat_lt t.frame s.frame ≡ true) × (t.frame < s.frame)) ⊎ ((nat_lt t.frame s.frame ≡ false) × (s.frame < suc t.frame)) → ⊥
    by_written some here (inl written) = yes_doubt (rw (some, here, written.0) at told)
    by_written some here (inr unwritten) = by_same some here unwritten.0 (eqb_tells t.frame s.frame) unwritten.1

    by_life : ((t.frame == 0) ≡ false) → ((t.life == s.life) ≡ true) × (t.life ≡ s.life) ⊎ ((t.life == s.life) ≡ false) × (t.life ≢ s.life) → ⊥
    by_life some (inl here) = by_written some here.0 (leb_tells (suc t.frame) s.frame)
    by_life some (inr other) = other.1 life

    by_frame : ((t.frame == 0) ≡ true) × (t.frame ≡ 0) ⊎ ((t.frame == 0) ≡ false) × (t.frame ≢ 0) → ⊥
    by_frame (inl none) = yes_doubt (rw none.0 at told)
    by_frame (inr some) = by_life some.0 (eqb_tells t.life s.life)
