use Rattle.std.proofs.Common.{◌≡◌, ◌∙◌, ℕ, List, length, refl, sym, ap, subst}
use Rattle.std.proofs.lemmas.List.{with_items_is}
use Rattle.agent_sinks.specs.declared.sink.AgentSink.{AgentSink}
use Rattle.grouped_sinks.specs.Picks.{AreDealt}
use Rattle.grouped_sinks.specs.Rows.{AreBelow, places_of}
use Rattle.run_opening.proofs.outside.group_outside.Goals as goal

pub group_sinks-requires-clause-within : goal.group_sinks-requires-clause-within
group_sinks-requires-clause-within g c =
    subst (λ (n : ℕ). AreBelow n (places_of c.args.rows.now)) (ap length (sym c.as_mut_slice.ensures.value)) c.requires.within

pub returns : goal.returns
returns g c =
    let S = AgentSink g.row.R.Denot g.row.A.Denot g.row.B.Denot in
    let places = c.args.outside.sinks in
    let left = c.group_sinks.new.sinks in
    let size : length left ≡ places.len = c.group_sinks.ensures.others.many ∙ ap length c.as_mut_slice.ensures.value ∙ sym places.ok.0 in
    record {
      dealt = subst (λ (l : List S). AreDealt l c.args.rows.now c.group_sinks.new.runners.items) c.as_mut_slice.ensures.value c.group_sinks.ensures.dealt;
      new_ones = c.group_sinks.ensures.new_ones;
      listeners = refl;
      places = ap length (with_items_is places left size) ∙ size ∙ places.ok.0;
    }
