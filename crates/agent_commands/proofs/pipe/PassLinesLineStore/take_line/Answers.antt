use Rattle.std.proofs.Common.{◌≡◌, List, [], ◌∷◌, length, inl, ap, subst}
use Rattle.event_core.specs.Content.{Content}
use Rattle.channel_face.specs.Faces.{Gains, IsPutBatch, picked_events}
use Rattle.shared_channel.specs.Ports.{AreOwned, Saw}
use Rattle.netcat_source.specs.Judged.{event_of}
use Rattle.agent_commands.proofs.pipe.PassLinesLineStore.take_line.Goals as goal

pub returns-clause-takes : goal.returns-clause-takes
returns-clause-takes g c =
    let old = c.args.self.now.port.pass.view in
    let new = c.put_batch.new.self.pass.view in
    let events : picked_events c.in-Ok.batch (0 ∷ []) ≡ event_of c.args.line.now ∷ [] = ap (λ (l : List Content). picked_events l (0 ∷ [])) c.in-Ok.ensures in
    inl (
      c.put_batch.ensures.kept,
      (
        c.put_batch.result,
        subst (λ (l : List Content). Gains (AreOwned old) (AreOwned new) (IsPutBatch (Saw g.C.Channel.stands new) (length new.seen) l c.put_batch.result)) events c.put_batch.ensures.calls,
        c.verdict_of.ensures,
      ),
    )
