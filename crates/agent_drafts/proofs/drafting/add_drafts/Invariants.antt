use Rattle.std.proofs.Common.{◌≡◌, ◌≤◌, ◌++◌, All, List, drop, map, replicate, take}
use Rattle.selectors.specs.Choices.{places_below}
use Rattle.agent_drafts.specs.declared.draft.SourceDraft.{SourceDraft}
use Rattle.agent_drafts.specs.Drafts.{IsDraftAt, many_at, objects_at, used_by}
use Rattle.agent_drafts.proofs.drafting.add_drafts.Given as goal

abbrev pub invariant-loop-place : goal.invariant-loop-place
invariant-loop-place g l = record {
  order : map (λ (d : SourceDraft g.row.B.Denot). d.source) l.drafts.items ≡ map (λ (d : SourceDraft g.row.B.Denot). d.source) l.fn.drafts.items ++ replicate l.place l.at;
  turns : map (λ (d : SourceDraft g.row.B.Denot). d.place) l.drafts.items ≡ map (λ (d : SourceDraft g.row.B.Denot). d.place) l.fn.drafts.items ++ places_below l.place;
  each : (all : List g.row.B.Denot) → (1 ≤ l.count → take (many_at l.sources l.at) l.fn.objects.items ≡ objects_at l.sources l.at all)
      → All (IsDraftAt l.sources all l.names) l.fn.drafts.items → All (IsDraftAt l.sources all l.names) l.drafts.items;
  rest : l.objects.items ≡ drop (used_by l.place (many_at l.sources l.at)) l.fn.objects.items;
}
