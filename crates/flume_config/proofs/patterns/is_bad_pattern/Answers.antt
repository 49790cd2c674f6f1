use Rattle.std.proofs.Common.{List, ℕ, subst}
use Rattle.regex_steps.specs.Search.{AreBuilt}
use Rattle.flume_config.proofs.patterns.is_bad_pattern.Goals as goal

pub returns-in-Ok : goal.returns-in-Ok
returns-in-Ok c =
    let P : List ℕ → Type 0 = λ text. AreBuilt text c.in-Ok.field-0.patterns in
    (c.in-Ok.field-0.patterns, subst P c.in_ok-from_str.ensures.ok c.in-Ok.ensures.ok.0)
