use Rattle.std.proofs.Common.{◌≡◌, ◌∙◌, ℕ, List, ◌++◌, ap, take, refl}
use Rattle.avro_frame.proofs.Walk.{all_taken, refused_of}
use Rattle.avro_frame.proofs.packs.feed_pending.Goals as goal

pub returns-in-More-clause-feeds : goal.returns-in-More-clause-feeds
returns-in-More-clause-feeds c =
    let items = c.fill-taken.ensures.items ∙ ap (λ (x : List ℕ). x ++ take c.fill-taken.result.0 c.args.piece.now) c.make_room.ensures.same in
    let found = rw c.in-More.is at c.fill-taken.ensures.found in
    let whole : c.fill-taken.new.held.items ≡ c.args.held.now.items ++ c.args.piece.now = items ∙ ap (λ (x : List ℕ). c.args.held.now.items ++ x) (all_taken c.args.piece.now c.fill-taken.result.0 found.0) in
    (found.0, rw whole at found.3, rw (c.requires.open, whole) refl)

pub returns-in-Passes-clause-feeds : goal.returns-in-Passes-clause-feeds
returns-in-Passes-clause-feeds c =
    let items = c.fill-taken.ensures.items ∙ ap (λ (x : List ℕ). x ++ take c.fill-taken.result.0 c.args.piece.now) c.make_room.ensures.same in
    let found = rw c.in-Passes.is at c.fill-taken.ensures.found in
    refused_of c.args.held.now.items c.args.piece.now c.fill-taken.result.0 c.in-Passes.e (rw items at found)
