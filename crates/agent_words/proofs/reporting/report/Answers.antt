use Rattle.std.proofs.Common.{◌≡◌, ◌++◌, ◌∷◌, [], false, List, ℕ, codes, string_bytes, ap, ◌∙◌}
use Rattle.serde_json.specs.Data.{object, put}
use Rattle.serde_json.specs.View.{view, members_view}
use Rattle.serde_json.specs.Written.{has_float, compact_text}
use Rattle.serde_json.specs.declared.value.Value.{Object}
use Rattle.serde_json.proofs.Views.{view-Object}
use Rattle.agent_words.specs.Report.{counters, with_channel, channel_members}
use Rattle.agent_words.proofs.Channels.{one_added, all_added}
use Rattle.agent_words.proofs.reporting.report.Goals as goal

pub loop-name-preserved : goal.loop-name-preserved
loop-name-preserved c =
    let item = c.loop-name-item.result in
    let before = members_view c.loop-name.members.entries in
    let step = c.in_ok-add.ensures ∙ ap (λ (name : List ℕ). put (codes "CHANNEL." ++ name) (counters item.1) before) c.as_str.ensures.value in
    one_added item c.loop-name-test.true c.loop-name.invariant (step ∙ ap (with_channel before) c.loop-name-item.is)

pub returns : goal.returns
unfolding lib.Utf8.encode
returns c =
    let members = c.loop-name.members in
    let seen : view (Object members) ≡ object (channel_members c.args.channels.now) = view-Object members ∙ ap object (all_added c.loop-name-test.false c.loop-name.invariant) in
    let plain : has_float (view (Object members)) ≡ false = ap has_float (view-Object members) ∙ c.loop-name.invariant.plain in
    let text = c.in_ok-text.ensures.text plain ∙ ap compact_text seen in
    c.in_ok-push.ensures.bytes ∙ ap (λ (t : List ℕ). t ++ 10 ∷ []) text
