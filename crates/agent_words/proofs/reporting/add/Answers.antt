use Rattle.std.proofs.Common.{◌≡◌, ◌++◌, codes, string_bytes, ap, ◌∙◌}
use Rattle.serde_json.specs.Data.{put}
use Rattle.serde_json.specs.View.{view, members_view}
use Rattle.serde_json.proofs.Views.{members_view-insert_entry}
use Rattle.agent_words.specs.Report.{counters}
use Rattle.agent_words.proofs.reporting.add.Goals as goal

pub returns : goal.returns
returns c =
    let key = c.in_ok-key.key in
    let value = c.in_ok-value.value in
    let members = c.args.members.now.entries in
    let named : string_bytes key ≡ codes "CHANNEL." ++ c.args.name.now = c.in_ok-key.ensures.ok in
    let counted : view value ≡ counters c.args.counts.now = c.in_ok-value.ensures in
    ap members_view c.in_ok-insert.ensures.entries ∙ members_view-insert_entry members key value ∙ (λ i. put (named i) (counted i) (members_view members))
