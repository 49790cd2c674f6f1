use Rattle.std.proofs.Common.{length, arith, sym, ap, ◌∙◌}
use Rattle.std.specs.Option.{is_some, option_map}
use Rattle.std.specs.String.{string_bytes}
use Rattle.event_core.specs.Content.{value_of, without_header, headers_size}
use Rattle.event_core.specs.Texts.{pairs_bytes}
use Rattle.event_core.proofs.HeaderLemmas.{size-remove, value_of-pairs, without_header-pairs}
use Rattle.event_core.proofs.event.Headers.remove.Goals as goal

pub overflow_add-self : goal.overflow_add-self
overflow_add-self c =
    let gone = size-remove c.self.inside.entries.entries c.args.key.now c.in-Some.old (sym c.in-Some.ensures.value) in
    omega (arith, gone, ap length c.as_str.ensures.value, c.self.invariant)

pub overflow_sub-self : goal.overflow_sub-self
overflow_sub-self c =
    let gone = size-remove c.self.inside.entries.entries c.args.key.now c.in-Some.old (sym c.in-Some.ensures.value) in
    omega (arith, gone, ap length c.as_str.ensures.value, c.self.invariant)

pub invariant_of-self : goal.invariant_of-self
invariant_of-self c =
    let gone = size-remove c.self.inside.entries.entries c.args.key.now c.in-Some.old (sym c.in-Some.ensures.value) in
    let sizes = ap (λ es. headers_size (pairs_bytes es)) c.in-Some.ensures.entries in
    (omega (arith, gone, sizes, ap length c.as_str.ensures.value, c.self.invariant.0), omega (arith, c.self.invariant.1))

pub returns-in-Some-clause-answer : goal.returns-in-Some-clause-answer
returns-in-Some-clause-answer c =
    ap (λ o. is_some (option_map string_bytes o)) c.in-Some.ensures.value ∙ ap is_some (sym (value_of-pairs c.self.inside.entries.entries c.args.key.now) ∙ ap (λ hs. value_of hs c.args.key.now) c.self.view_is)

pub returns-in-Some-clause-removed : goal.returns-in-Some-clause-removed
returns-in-Some-clause-removed c =
    ap pairs_bytes c.in-Some.ensures.entries ∙ without_header-pairs c.self.inside.entries.entries c.args.key.now ∙ ap (λ hs. without_header hs c.args.key.now) c.self.view_is

pub returns-in-None-clause-answer : goal.returns-in-None-clause-answer
returns-in-None-clause-answer c =
    ap (λ o. is_some (option_map string_bytes o)) c.in-None.ensures.value ∙ ap is_some (sym (value_of-pairs c.self.inside.entries.entries c.args.key.now) ∙ ap (λ hs. value_of hs c.args.key.now) c.self.view_is)

pub returns-in-None-clause-removed : goal.returns-in-None-clause-removed
returns-in-None-clause-removed c =
    ap pairs_bytes c.in-None.ensures.entries ∙ without_header-pairs c.self.inside.entries.entries c.args.key.now ∙ ap (λ hs. without_header hs c.args.key.now) c.self.view_is
