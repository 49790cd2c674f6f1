use Rattle.std.proofs.Common.{◌≤◌, ◌<◌, ◌-◌, ◌∙◌, inr, length, take, drop, arith, refl, sym, length-drop}
use Rattle.std.proofs.lemmas.List.{length-take}
use Rattle.channel_log.proofs.Loads.{cut_found, cut_whole, cut_part, cut_bad, first_open, some_bytes}
use Rattle.channel_log.proofs.loading.seek.Goals as goal

pub returns-then-length-behind : goal.returns-then-length-behind
returns-then-length-behind c =
    let read = c.args.read.now in
    let some = some_bytes read (sym c.is_empty.ensures ∙ c.if-is_empty.false) in
    let behind = take (length read - 1) (drop 1 read) in
    let f = c.in-Frame.ensures in
    let short : c.in-Frame.length < length behind = omega (arith, c.if-length-behind.true, length-take (length read - 1) (drop 1 read), length-drop 1 read) in
    (behind, first_open read some c.if-read-ne-OPEN.false, (short, cut_found behind (take c.in-Frame.length behind) c.in-Frame.length f.0 f.1 f.4 short refl))

pub returns-else-length-behind : goal.returns-else-length-behind
returns-else-length-behind c =
    let read = c.args.read.now in
    let some = some_bytes read (sym c.is_empty.ensures ∙ c.if-is_empty.false) in
    let behind = take (length read - 1) (drop 1 read) in
    let f = c.in-Frame.ensures in
    let long : length behind ≤ c.in-Frame.length = omega (arith, c.if-length-behind.false, length-take (length read - 1) (drop 1 read), length-drop 1 read) in
    inr (behind, first_open read some c.if-read-ne-OPEN.false, cut_whole behind c.in-Frame.length f.0 f.1 f.4 long)

pub returns-in-Part : goal.returns-in-Part
returns-in-Part c =
    let read = c.args.read.now in
    let some = some_bytes read (sym c.is_empty.ensures ∙ c.if-is_empty.false) in
    let behind = take (length read - 1) (drop 1 read) in
    inr (behind, first_open read some c.if-read-ne-OPEN.false, cut_part behind c.in-Part.ensures.0)

pub returns-in-Bad : goal.returns-in-Bad
returns-in-Bad c =
    let read = c.args.read.now in
    let some = some_bytes read (sym c.is_empty.ensures ∙ c.if-is_empty.false) in
    let behind = take (length read - 1) (drop 1 read) in
    (behind, first_open read some c.if-read-ne-OPEN.false, cut_bad behind c.in-Bad.ensures)
