use Rattle.std.proofs.Common.{◌≡◌, ◌∙◌, ◌++◌, [], take, drop, ap, arith, take-append-drop, List, ℕ}
use Rattle.std.proofs.lemmas.List.{take_all}
use Rattle.avro_frame.specs.Pack.{IsPart, InHead}
use Rattle.avro_ends.specs.Sessions.{held_in}
use Rattle.avro_ends.proofs.Feeding.{feeds_all, feeds_on}
use Rattle.avro_ends.proofs.Messages.{message_breaks, message_goes, part_goes}
use Rattle.avro_ends.proofs.session.serve_next.Goals as goal

none : IsPart []
none = InHead (omega arith)

pub returns-in-Ok-default-None-clause-open : goal.returns-in-Ok-default-None-clause-open
returns-in-Ok-default-None-clause-open g c =
    let feeds = rw (c.in-Ok-default-None.is, c.in-Ok-default-None.field-0-1-is) at c.feed.ensures.feeds in
    (feeds_on _ _ _ _ c.requires.open feeds).opened

pub returns-in-Ok-default-None-clause-goes : goal.returns-in-Ok-default-None-clause-goes
returns-in-Ok-default-None-clause-goes g c =
    let feeds = rw (c.in-Ok-default-None.is, c.in-Ok-default-None.field-0-1-is) at c.feed.ensures.feeds in
    let on = feeds_on _ _ _ _ c.requires.open feeds in
    let whole : take c.in-Ok-default-None.n c.args.rest.now ≡ c.args.rest.now = take_all _ _ (omega (arith, on.len)) in
    part_goes _ _ _ _ _ _ _ (ap (λ (l : List ℕ). held_in c.args.packs.now.packing ++ l) whole ∙ on.held)

pub serve_message-requires : goal.serve_message-requires
serve_message-requires g c =
    let feeds = rw (c.in-Ok-default-Some.is, c.in-Ok-default-Some.field-0-1-is) at c.feed.ensures.feeds in
    (feeds_all _ _ _ _ _ c.no_pack_within.ensures.part none c.requires.open feeds).pack.small

pub returns-in-Ok-clause-n : goal.returns-in-Ok-clause-n
returns-in-Ok-clause-n g c =
    let feeds = rw (c.in-Ok-default-Some.is, c.in-Ok-default-Some.field-0-1-is) at c.feed.ensures.feeds in
    let all = feeds_all _ _ _ _ _ c.no_pack_within.ensures.part none c.requires.open feeds in
    (all.some, all.within)

pub returns-in-Ok-clause-open : goal.returns-in-Ok-clause-open
returns-in-Ok-clause-open g c =
    let feeds = rw (c.in-Ok-default-Some.is, c.in-Ok-default-Some.field-0-1-is) at c.feed.ensures.feeds in
    (feeds_all _ _ _ _ _ c.no_pack_within.ensures.part none c.requires.open feeds).opened

pub returns-in-Ok-clause-goes : goal.returns-in-Ok-clause-goes
returns-in-Ok-clause-goes g c =
    let feeds = rw (c.in-Ok-default-Some.is, c.in-Ok-default-Some.field-0-1-is) at c.feed.ensures.feeds in
    let all = feeds_all _ _ _ _ _ c.no_pack_within.ensures.part none c.requires.open feeds in
    rw all.held (message_goes _ _ _ _ _ _ _ _ _ _ _ all.pack c.in-Ok.ensures.serves)

pub returns-in-Err-clause-breaks : goal.returns-in-Err-clause-breaks
returns-in-Err-clause-breaks g c =
    let feeds = rw (c.in-Ok-default-Some.is, c.in-Ok-default-Some.field-0-1-is) at c.feed.ensures.feeds in
    let all = feeds_all _ _ _ _ _ c.no_pack_within.ensures.part none c.requires.open feeds in
    message_breaks _ _ _ _ _ _ _ _ _ (drop c.in-Ok-default-Some.n c.args.rest.now) c.args.rest.now _ _ (take-append-drop c.in-Ok-default-Some.n c.args.rest.now) all.pack c.in-Err.end c.in-Err.ensures.serves
