use Rattle.std.proofs.Common.{◌≡◌, ◌∙◌, ◌<◌, ◌+◌, [], ◌∷◌, length, Some, ap, arith}
use Rattle.std.proofs.lemmas.List.{length-append}
use Rattle.std.proofs.lemmas.List.Elements.{All-pop}
use Rattle.std.proofs.lemmas.Result.{IfErr-weaker, on_ok_weaker}
use Rattle.channel_wishes.specs.declared.wish.ChannelWish.{ChannelWish}
use Rattle.agent_channels.proofs.InOrder.{opened_many, opened_more, opened_out, opened_zero, refuses_last, refuses_more}
use Rattle.agent_channels.proofs.several.+add_all.Goals as goal

pub add_all-requires-clause-users : goal.add_all-requires-clause-users
add_all-requires-clause-users g t c κs within =
    let s = c.in-Some in
    (All-pop (λ (w : ChannelWish). w.users < 4294967295) c.args.wishes.now s.front.now (Some s.wish.now) s.ensures.cases.0 c.requires.users).0

pub add_behind-requires-clause-users : goal.add_behind-requires-clause-users
add_behind-requires-clause-users g t c κs within =
    let s = c.in-Some in
    (All-pop (λ (w : ChannelWish). w.users < 4294967295) c.args.wishes.now s.front.now (Some s.wish.now) s.ensures.cases.0 c.requires.users).1

pub add_behind-requires-clause-room : goal.add_behind-requires-clause-room
add_behind-requires-clause-room g t c κs within =
    let s = c.in-Some in
    let e : length c.args.wishes.now ≡ length s.front.now + 1 = ap length s.ensures.cases.0 ∙ length-append s.front.now (s.wish.now ∷ []) in
    let many = opened_many s.front.now c.add_all.new.channels.items _ _ c.in-Ok.ensures.opened in
    let room = c.requires.room in
    let kept = c.in-Ok.ensures.room in
    omega (arith, e, many, room, kept)

pub add_behind-requires-clause-opened : goal.add_behind-requires-clause-opened
add_behind-requires-clause-opened g t c κs within = (_, _, c.in-Ok.ensures.opened)

pub add_behind-requires-clause-out : goal.add_behind-requires-clause-out
add_behind-requires-clause-out g t c κs within = opened_out c.in-Some.front.now c.add_all.new.channels.items _ _ c.in-Ok.ensures.opened

pub returns-in-Ok-clause-opened : goal.returns-in-Ok-clause-opened
returns-in-Ok-clause-opened g t c =
    let s = c.in-Some in
    on_ok_weaker c.add_behind.result (opened_more c.args.wishes.now s.front.now c.add_all.new.channels.items c.add_behind.new.channels.items s.wish.now _ _ _ s.ensures.cases.0 c.in-Ok.ensures.opened) c.add_behind.ensures.added

pub returns-in-Ok-clause-refused : goal.returns-in-Ok-clause-refused
returns-in-Ok-clause-refused g t c =
    let s = c.in-Some in
    IfErr-weaker c.add_behind.result _ _ (λ r last. refuses_last s.front.now c.add_all.new.channels.items s.wish.now c.args.wishes.now _ _ _ r.place r.cause s.ensures.cases.0 c.in-Ok.ensures.opened last) c.add_behind.ensures.refused

pub returns-in-Err-clause-refused : goal.returns-in-Err-clause-refused
returns-in-Err-clause-refused g t c =
    let s = c.in-Some in
    refuses_more s.front.now s.wish.now c.args.wishes.now _ _ c.in-Err.refused.place c.in-Err.refused.cause s.ensures.cases.0 c.in-Err.ensures.refused

pub returns-in_default-clause-opened : goal.returns-in_default-clause-opened
returns-in_default-clause-opened g t c = opened_zero c.args.wishes.now c.args.channels.now.items _ c.in_default.ensures.cases c.requires.none
