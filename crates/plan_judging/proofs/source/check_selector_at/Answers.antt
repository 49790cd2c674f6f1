use Rattle.plan_judging.proofs.source.check_selector_at.Goals as goal

pub returns : goal.returns
returns c = rw (c.in_ok-channels.ensures, c.as_str.ensures.value, c.in_ok-front.ensures) at c.check_selector.ensures
