use Rattle.std.proofs.Common.{None, refl, subst, sym, ℕ}
use Rattle.event_core.specs.Content.{size}
use Rattle.channel_log.specs.Pointers.{IsEventOf}
use Rattle.record_form.proofs.Pointed.{none_unread}
use Rattle.channel_log.proofs.Pointed.{found_in, none_some, not_fault}
use Rattle.channel_log.proofs.pointers.event_in.Goals as goal

pub returns-in_default : goal.returns-in_default
returns-in_default c =
    let none = none_unread c.args.bytes.now c.read_record.result c.read_record.ensures c.in_default.not-Whole in
    record {
      found = λ p zero same. (none p zero, λ event at. none (record p { length = size event }) zero event at);
      length = (refl, λ e. none_some None c.args.length refl e);
      read = λ e. not_fault _ c.args.length None refl e;
    }

pub returns-in-Ok-clause-found : goal.returns-in-Ok-clause-found
returns-in-Ok-clause-found c = λ p zero same.
    found_in c.args.bytes.now c.in-Ok.rec p c.event_of.result c.in-Ok.ensures.read c.in-Ok.ensures.spelled zero
    (subst (λ (n : ℕ). IsEventOf c.in-Ok.rec n c.event_of.result) (sym same) c.event_of.ensures)
