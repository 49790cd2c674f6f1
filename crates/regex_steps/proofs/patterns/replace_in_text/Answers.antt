use Rattle.std.proofs.Common.{string_bytes}
use Rattle.regex.proofs.ReplaceLemmas.{IfOk-weaker}
use Rattle.regex.specs.Strings.{IsWrittenBy}
use Rattle.regex_steps.proofs.patterns.replace_in_text.Goals as goal

pub returns : goal.returns
returns c =
    IfOk-weaker (λ out. IsWrittenBy c.in_ok-template.template _ _ (string_bytes out)) _
    (λ out written. rw (← c.capture_names.ensures, ← c.in_ok-matcher.ensures.pattern) (written.read _ _ c.in_ok-template.ensures.read))
    _ c.replace_all.ensures.written
