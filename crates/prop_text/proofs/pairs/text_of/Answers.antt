use Rattle.std.proofs.Common.{◌≡◌, Some, option_map, ap, sym, ◌∙◌, subst}
use Rattle.std.specs.Str.{IsUtf8}
use Rattle.prop_text.specs.Pairs.{unescaped, trim}
use Rattle.prop_text.proofs.TextParts.{utf8_trim, utf8_unescaped}
use Rattle.prop_text.proofs.pairs.text_of.Goals as goal

-- what was unescaped and trimmed is a text, so it is read as one
pub unreachable-requires : goal.unreachable-requires
unreachable-requires c =
    let text = c.in-Some.text.items in
    let found : unescaped 0 c.args.raw.now ≡ Some text = sym c.in_ok-text.ensures ∙ ap (option_map (λ v. v.items)) c.in-Some.is in
    let same : c.in_ok-trimmed.trimmed.items ≡ trim text = c.in_ok-trimmed.ensures.items ∙ c.trim.ensures ∙ ap trim c.as_slice.ensures.value in
    let ok = c.from_utf8.ensures.succeeds (subst IsUtf8 (sym same) (utf8_trim text (utf8_unescaped c.args.raw.now text c.requires found))) in
    let contrary = rw c.in-Err.is at ok in
    cc
