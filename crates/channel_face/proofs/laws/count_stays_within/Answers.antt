use Rattle.std.proofs.Common.{◌≤◌, refl, subst}
use Rattle.channel_face.specs.Machine.{Rules}
use Rattle.channel_face.specs.History.{opening, state_after}
use Rattle.channel_face.specs.Laws.{limited}
use Rattle.channel_face.proofs.Within.{within_opening, within_run}
use Rattle.channel_face.proofs.laws.count_stays_within.Goals as goal

pub returns : goal.returns
returns c tells o h fits run none =
    let within = within_run o.rules tells (opening o) h (refl, within_opening o.rules.kind o fits) run none in
    subst (λ (q : Rules). limited q.kind (state_after (opening o) h) ≤ q.limits.capacity) within.0 within.1
