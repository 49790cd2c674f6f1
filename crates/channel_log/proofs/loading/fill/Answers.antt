use Rattle.std.proofs.Common.{◌≡◌, ◌+◌, Option, length, arith, sym, subst, ◌∙◌, ap, drop, take, ◌++◌, ℕ}
use Rattle.flume_host.specs.Told.{Told}
use Rattle.channel_log.specs.Reader.{HasFile}
use Rattle.channel_log.proofs.Loads.{front_more, no_more}
use Rattle.channel_log.proofs.loading.fill.Goals as goal

pub returns-then-added-eq0-clause-filled : goal.returns-then-added-eq0-clause-filled
returns-then-added-eq0-clause-filled g c = λ bytes has enough.
    let i = c.loop-into.invariant in
    let here : HasFile (g.D.Disk.told c.loop-into.disk) c.args.file bytes = subst (λ (o : Option Told). HasFile o c.args.file bytes) (sym i.same) has in
    let at : c.args.from + c.len-in-loop-into.result ≡ c.args.from + length c.loop-into.into.items = omega (arith, c.len-in-loop-into.ensures) in
    let added = c.in_ok-added.ensures.items bytes here ∙ ap (λ (n : ℕ). c.loop-into.into.items ++ take (length c.loop-into.piece) (drop n bytes)) at in
    omega (arith, enough, no_more c.loop-into.into.items c.add_piece.new.into.items c.args.from (length c.loop-into.piece) bytes i.some (omega (arith, c.in_ok-added.ensures.len, c.if-added-eq0.true, c.in_ok-added.ensures.items bytes here)) added)

pub loop-into-preserved : goal.loop-into-preserved
loop-into-preserved g c =
    let i = c.loop-into.invariant in
    record {
      same = c.in_ok-added.ensures.same ∙ i.same;
      well = c.in_ok-added.ensures.well (λ no. cc) ∙ i.well;
      some = omega (arith, i.some);
      items = λ bytes has front.
          let here : HasFile (g.D.Disk.told c.loop-into.disk) c.args.file bytes = subst (λ (o : Option Told). HasFile o c.args.file bytes) (sym i.same) has in
          let at : c.args.from + c.len-in-loop-into.result ≡ c.args.from + length c.loop-into.into.items = omega (arith, c.len-in-loop-into.ensures) in
          let added = c.in_ok-added.ensures.items bytes here ∙ ap (λ (n : ℕ). c.loop-into.into.items ++ take (length c.loop-into.piece) (drop n bytes)) at in
          front_more c.loop-into.into.items c.add_piece.new.into.items c.args.from (length c.loop-into.piece) bytes (i.items bytes has front) added;
    }
