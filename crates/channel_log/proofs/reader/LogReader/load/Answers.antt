use Rattle.std.proofs.Common.{◌≡◌, ◌+◌, ◌++◌, inr, ℕ, Option, drop, take, length, arith, ap, refl, subst, length-append, length-drop}
use Rattle.std.proofs.lemmas.List.{length-take}
use Rattle.channel_log.specs.Reader.{AfterOpen, IsFound, IsFront, Opens, Reader}
use Rattle.channel_log.proofs.Given.{are_records}
use Rattle.channel_log.proofs.Loads.{closed_after, found_after}
use Rattle.channel_log.proofs.Standing.{bad_here, front_here, part, stood, stood_ahead}
use Rattle.channel_log.proofs.reader.LogReader.load.Goals as goal

pub overflow_add-self-in-Ok-Some-2 : goal.overflow_add-self-in-Ok-Some-2
overflow_add-self-in-Ok-Some-2 g c =
    let found = subst (λ (o : Option ℕ). IsFound o (drop c.load_frame.new.place c.load_frame.new.read.items)) c.in-Ok-Some.field-0-is c.in-Ok-Some.ensures.found in
    let s = stood c.load_frame.new.read.items c.load_frame.new.place c.in-Ok-Some.length found in
    omega (arith, s.known, c.load_frame.new.read.small, c.load_frame.new.read.ok)

pub invariant_of-self : goal.invariant_of-self
invariant_of-self g c =
    let i = c.self.invariant in
    let found = subst (λ (o : Option ℕ). IsFound o (drop c.load_frame.new.place c.load_frame.new.read.items)) c.in-Ok-Some.field-0-is c.in-Ok-Some.ensures.found in
    let s = stood c.load_frame.new.read.items c.load_frame.new.place c.in-Ok-Some.length found in
    record {
      within = omega arith;
      known = s.known;
      held = inr (are_records (part (c.load_frame.new.place + 1) (c.load_frame.new.place + 1 + c.in-Ok-Some.length) c.load_frame.new.read.items) s.frame);
      fits = omega (arith, i.low, s.known, c.load_frame.new.read.small, c.load_frame.new.read.ok);
      low = i.low;
      some = omega (arith, i.some, c.load_frame.auto.piece, c.deref_mut.ensures.len, c.deref_mut.ensures.value, length-take c.self.inside.piece.len (c.load_frame.new.piece ++ drop (length c.load_frame.new.piece) c.self.inside.piece.items), length-append c.load_frame.new.piece (drop (length c.load_frame.new.piece) c.self.inside.piece.items));
    }

pub returns-in-Ok-Some-clause-entered : goal.returns-in-Ok-Some-clause-entered
returns-in-Ok-Some-clause-entered g c =
    let found = subst (λ (o : Option ℕ). IsFound o (drop c.load_frame.new.place c.load_frame.new.read.items)) c.in-Ok-Some.field-0-is c.in-Ok-Some.ensures.found in
    let s = stood c.load_frame.new.read.items c.load_frame.new.place c.in-Ok-Some.length found in
    let held = part (c.load_frame.new.place + 1) (c.load_frame.new.place + 1 + c.in-Ok-Some.length) c.load_frame.new.read.items in
    let ahead = drop (c.load_frame.new.place + 1 + c.in-Ok-Some.length) c.load_frame.new.read.items in
    record {
      is = ap (λ (r : Reader). record r { at = r.at + 1; held = held; ahead = ahead }) c.self.view_is;
      frame = s.frame;
    }

pub returns-in-Ok-Some-clause-front : goal.returns-in-Ok-Some-clause-front
returns-in-Ok-Some-clause-front g c = λ bytes has ahead.
    let i = c.self.invariant in
    let found = subst (λ (o : Option ℕ). IsFound o (drop c.load_frame.new.place c.load_frame.new.read.items)) c.in-Ok-Some.field-0-is c.in-Ok-Some.ensures.found in
    let s = stood c.load_frame.new.read.items c.load_frame.new.place c.in-Ok-Some.length found in
    let first = front_here _ _ _ c.self.inside.place c.self.inside.stop c.self.inside.read.items bytes c.self.view_is i.within i.known refl refl c.requires.between has ahead in
    stood_ahead c.load_frame.new.read.items c.load_frame.new.place c.in-Ok-Some.length c.self.inside.at bytes s (c.in-Ok-Some.ensures.front bytes first.0 first.1)

pub returns-in-Ok-Some-clause-loaded : goal.returns-in-Ok-Some-clause-loaded
returns-in-Ok-Some-clause-loaded g c = λ full below bytes has ahead.
    let i = c.self.invariant in
    let found = subst (λ (o : Option ℕ). IsFound o (drop c.load_frame.new.place c.load_frame.new.read.items)) c.in-Ok-Some.field-0-is c.in-Ok-Some.ensures.found in
    let s = stood c.load_frame.new.read.items c.load_frame.new.place c.in-Ok-Some.length found in
    let held = part (c.load_frame.new.place + 1) (c.load_frame.new.place + 1 + c.in-Ok-Some.length) c.load_frame.new.read.items in
    let first = front_here _ _ _ c.self.inside.place c.self.inside.stop c.self.inside.read.items bytes c.self.view_is i.within i.known refl refl c.requires.between has ahead in
    let opens = found_after (drop c.load_frame.new.place c.load_frame.new.read.items) held c.self.inside.at bytes (c.in-Ok-Some.ensures.front bytes first.0 first.1) s.opens in
    subst (λ (r : Reader). AfterOpen (drop r.at bytes) (λ rest. Opens rest held)) c.self.view_is opens

pub returns-in-Ok-None-clause-front : goal.returns-in-Ok-None-clause-front
returns-in-Ok-None-clause-front g c = λ bytes has ahead.
    let i = c.self.invariant in
    let place = c.load_frame.new.place in
    let read = c.load_frame.new.read.items in
    let first = front_here _ _ _ c.self.inside.place c.self.inside.stop c.self.inside.read.items bytes c.self.view_is i.within i.known refl refl c.requires.between has ahead in
    let from : c.self.inside.at ≡ c.self.inside.at + length (part place place read) = omega (arith, length-drop place (take place read), length-take place read) in
    subst (λ (n : ℕ). IsFront (drop place read) n bytes) from (c.in-Ok-None.ensures.front bytes first.0 first.1)

pub returns-in-Ok-None-clause-loaded : goal.returns-in-Ok-None-clause-loaded
returns-in-Ok-None-clause-loaded g c = λ full below bytes has ahead.
    let i = c.self.invariant in
    let read = drop c.load_frame.new.place c.load_frame.new.read.items in
    let closed = subst (λ (o : Option ℕ). IsFound o read) c.in-Ok-None.field-0-is c.in-Ok-None.ensures.found in
    let first = front_here _ _ _ c.self.inside.place c.self.inside.stop c.self.inside.read.items bytes c.self.view_is i.within i.known refl refl c.requires.between has ahead in
    subst (λ (r : Reader). AfterOpen (drop r.at bytes) (λ rest. Unit {0}) → ⊥) c.self.view_is (closed_after read c.self.inside.at bytes (c.in-Ok-None.ensures.front bytes first.0 first.1) closed)

pub returns-in-Err-clause-bad : goal.returns-in-Err-clause-bad
returns-in-Err-clause-bad g c =
    let i = c.self.invariant in
    bad_here _ c.in-Err.refused _ _ c.self.inside.place c.self.inside.stop c.self.inside.read.items c.self.view_is i.within i.known refl refl c.requires.between c.if-self.false c.in-Err.ensures.bad
