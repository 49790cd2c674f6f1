use Rattle.std.proofs.Common.{refl}
use Rattle.run_tracks.specs.Deals.{hands_of}
use Rattle.run_opening.proofs.Assembling.{keepers_enough, lines_enough, listeners_enough, none_left, sinks_enough}
use Rattle.run_opening.proofs.assemble.assemble.Goals as goal

pub staff_keepers-requires-clause-enough : goal.staff_keepers-requires-clause-enough
staff_keepers-requires-clause-enough g c =
    keepers_enough c.args.parts.keepers.items c.args.plans.now c.args.parts.listeners.items c.args.parts.lines.items (hands_of c.args.hands.now) c.requires.hands

pub staff_sinks-requires-clause-enough : goal.staff_sinks-requires-clause-enough
staff_sinks-requires-clause-enough g c =
    sinks_enough c.args.parts.keepers.items c.args.plans.now c.args.parts.listeners.items c.args.parts.lines.items (hands_of c.args.hands.now) c.requires.hands
    c.staff_keepers.new.jobs.items (hands_of c.staff_keepers.new.hands) c.staff_keepers.ensures.of c.staff_keepers.ensures.dealt

pub staff_listeners-requires-clause-enough : goal.staff_listeners-requires-clause-enough
staff_listeners-requires-clause-enough g c =
    listeners_enough c.args.parts.keepers.items c.args.plans.now c.args.parts.listeners.items c.args.parts.lines.items (hands_of c.args.hands.now) c.requires.hands
    c.staff_keepers.new.jobs.items (hands_of c.staff_keepers.new.hands) c.staff_keepers.ensures.of c.staff_keepers.ensures.dealt
    c.staff_sinks.new.jobs.items (hands_of c.staff_sinks.new.hands) c.staff_sinks.ensures.of c.staff_sinks.ensures.dealt

pub staff_lines-requires-clause-enough : goal.staff_lines-requires-clause-enough
staff_lines-requires-clause-enough g c =
    lines_enough c.args.parts.keepers.items c.args.plans.now c.args.parts.listeners.items c.args.parts.lines.items (hands_of c.args.hands.now) c.requires.hands
    c.staff_keepers.new.jobs.items (hands_of c.staff_keepers.new.hands) c.staff_keepers.ensures.of c.staff_keepers.ensures.dealt
    c.staff_sinks.new.jobs.items (hands_of c.staff_sinks.new.hands) c.staff_sinks.ensures.of c.staff_sinks.ensures.dealt
    c.staff_listeners.new.jobs.items (hands_of c.staff_listeners.new.hands) c.staff_listeners.ensures.of c.staff_listeners.ensures.dealt

pub returns : goal.returns
returns g c = record {
  staff = record {
    keepers = c.staff_keepers.ensures.of;
    sinks = c.staff_sinks.ensures.of;
    own_sinks = c.staff_sinks.ensures.sinks;
    listeners = c.staff_listeners.ensures.of;
    own_listeners = c.staff_listeners.ensures.listeners;
    lines = c.staff_lines.ensures.of;
    own_talks = c.staff_lines.ensures.talks;
    drains = refl;
    behind_keepers = hands_of c.staff_keepers.new.hands;
    behind_sinks = hands_of c.staff_sinks.new.hands;
    behind_listeners = hands_of c.staff_listeners.new.hands;
    last = hands_of c.staff_lines.new.hands;
    deals_keepers = c.staff_keepers.ensures.dealt;
    deals_sinks = c.staff_sinks.ensures.dealt;
    deals_listeners = c.staff_listeners.ensures.dealt;
    deals_lines = c.staff_lines.ensures.dealt;
    none_left =
        none_left c.args.parts.keepers.items c.args.plans.now c.args.parts.listeners.items c.args.parts.lines.items (hands_of c.args.hands.now) c.requires.hands
        c.staff_keepers.new.jobs.items (hands_of c.staff_keepers.new.hands) c.staff_keepers.ensures.of c.staff_keepers.ensures.dealt
        c.staff_sinks.new.jobs.items (hands_of c.staff_sinks.new.hands) c.staff_sinks.ensures.of c.staff_sinks.ensures.dealt
        c.staff_listeners.new.jobs.items (hands_of c.staff_listeners.new.hands) c.staff_listeners.ensures.of c.staff_listeners.ensures.dealt
        c.staff_lines.new.jobs.items (hands_of c.staff_lines.new.hands) c.staff_lines.ensures.of c.staff_lines.ensures.dealt;
  };
}
