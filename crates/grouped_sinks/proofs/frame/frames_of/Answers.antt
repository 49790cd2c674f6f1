use Rattle.std.proofs.Common.{rules, ◌≡◌, ◌∙◌, ◌<◌, ◌+◌, ◌++◌, ◌∷◌, ℕ, suc, List, [], length, take, sym, ap, subst, arith}
use Rattle.grouped_sinks.specs.Frames.{IsFrameOf}
use Rattle.grouped_sinks.specs.Rows.{Zips}
use Rattle.grouped_sinks.specs.declared.frame.Frame.{Frame}
use Rattle.grouped_sinks.specs.declared.row.SinkRow.{SinkRow}
use Rattle.grouped_sinks.proofs.Picking.{take_next, zips_push}
use Rattle.grouped_sinks.proofs.frame.frames_of.Goals as goal

pub loop-row-preserved : goal.loop-row-preserved
loop-row-preserved g c =
    let F = Frame g.row.S.Denot g.row.H-Random.Denot in
    let Is = IsFrameOf {S = g.row.S.Denot} {N = g.row.H-Random.Denot} c.args.groups.now in
    let rows = c.args.rows.now in
    let k = c.loop-row.row-index in
    let low : k < length rows = search rules in
    let next : suc k ≡ k + 1 = omega arith in
    let more : take (k + 1) rows ≡ take k rows ++ c.row-item.result ∷ [] = ap (λ (n : ℕ). take n rows) (sym next) ∙ take_next rows k c.row-item.result low c.row-item.is in
    record {
      frames = subst (λ (x : List SinkRow × List F). Zips Is x.0 x.1) (λ i. (sym more i, sym c.in_ok-push.ensures.items i))
          (zips_push Is (take k rows) c.loop-row.frames.items c.row-item.result c.in_ok-frame_of.field-0 c.loop-row.invariant.frames c.in_ok-frame_of.ensures.frame);
      state = c.frame_of.ensures.state ∙ c.loop-row.invariant.state;
      folders = c.frame_of.ensures.folders ∙ c.loop-row.invariant.folders;
    }
