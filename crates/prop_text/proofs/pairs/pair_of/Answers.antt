use Rattle.std.proofs.Common.{drop, ap, sym, ◌∙◌, subst}
use Rattle.std.proofs.lemmas.Str.{IsUtf8-string_bytes, IsUtf8-take, IsUtf8-drop}
use Rattle.std.specs.Str.{IsUtf8}
use Rattle.prop_text.specs.Pairs.{past_separator}
use Rattle.prop_text.proofs.TextParts.{utf8_past_separator, after_key}
use Rattle.prop_text.proofs.pairs.pair_of.Goals as goal

pub text_of-requires : goal.text_of-requires
text_of-requires c =
    let bytes = c.as_bytes-bytes.result.now in
    let utf8 = subst IsUtf8 (sym c.as_bytes-bytes.ensures.value) (IsUtf8-string_bytes c.args.line.now.text) in
    subst IsUtf8 (sym c.split_at.ensures.front) (IsUtf8-take bytes c.key_len.result utf8 (after_key bytes c.key_len.result c.key_len.ensures.within c.key_len.ensures.stop))

pub text_of-requires-2 : goal.text_of-requires-2
text_of-requires-2 c =
    let bytes = c.as_bytes-bytes.result.now in
    let utf8 = subst IsUtf8 (sym c.as_bytes-bytes.ensures.value) (IsUtf8-string_bytes c.args.line.now.text) in
    let rest = IsUtf8-drop bytes c.key_len.result utf8 (after_key bytes c.key_len.result c.key_len.ensures.within c.key_len.ensures.stop) in
    subst IsUtf8 (sym (c.past_separator.ensures ∙ ap past_separator c.split_at.ensures.back)) (utf8_past_separator (drop c.key_len.result bytes) rest)
