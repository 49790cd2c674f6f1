use Rattle.std.proofs.Common.{◌≡◌, ℕ, List, Option, Some, OnOk, sym, ap, ◌∙◌, subst}
use Rattle.event_core.specs.Content.{Header}
use Rattle.regex.specs.Patterns.{Match, find}
use Rattle.regex.specs.Bytes.{regex_pattern, captures_span, captures_haystack}
use Rattle.regex_steps.specs.Extract.{serializers_of, headers_of}
use Rattle.regex_steps.proofs.Searching.{headers_of_spans}
use Rattle.regex_steps.proofs.patterns.extract_from_bytes.Goals as goal

pub returns-in-Some : goal.returns-in-Some
returns-in-Some c =
    let names = serializers_of c.args.serializers.now in
    let m = c.in-Some.ensures.found in
    let found : find (regex_pattern c.args.regex.now) c.args.body.now 0 ≡ Some m.0 = rw c.in_ok-matcher.ensures.pattern at m.1 in
    let same = headers_of_spans (captures_haystack c.in-Some.found) m.0 (captures_span c.in-Some.found) names c.args.headers.now m.2.2
    ∙ ap (λ (body : List ℕ). headers_of body names c.args.headers.now (Some m.0)) m.2.0
    ∙ ap (λ (first : Option Match). headers_of c.args.body.now names c.args.headers.now first) (sym found) in
    subst (λ (headers : List Header). OnOk c.set_groups.result (c.set_groups.new.headers ≡ headers)) same c.set_groups.ensures
