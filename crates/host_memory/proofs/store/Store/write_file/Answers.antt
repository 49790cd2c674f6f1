use Rattle.std.proofs.Common.{◌≡◌, ◌≤◌, ◌+◌, ◌++◌, ℕ, List, length, take, drop, sym, ap, ◌∙◌, rules, arith, length-append, length-take}
use Rattle.flume_host.specs.Folder.{over}
use Rattle.flume_host.specs.Told.{On, Told, Write}
use Rattle.host_memory.specs.declared.parts.MemFile.{MemFile}
use Rattle.host_memory.specs.declared.parts.Recorded.TheVariants.{Wrote}
use Rattle.host_memory.specs.Words.{replayed}
use Rattle.host_memory.specs.Parts.{front_of, step_by}
use Rattle.host_memory.proofs.Files.{placed, place_read}
use Rattle.host_memory.proofs.Replay.{pushed, wrote}
use Rattle.host_memory.proofs.store.Store.write_file.Goals as goal

pub index-requires : goal.index-requires
index-requires c = omega (arith, (placed c.args.self.now.files.items c.args.name c.args.index c.requires.placed).below, c.args.self.now.files.ok.0)

pub over_bytes-requires : goal.over_bytes-requires
over_bytes-requires c =
    let was = place_read c.args.self.now.files.items c.args.name c.requires.within.0 c.requires.within.1 c.args.index c.index.result.now c.requires.placed c.index.ensures in
    let size : length c.requires.within.0 ≡ length c.deref.result.now = ap length (was ∙ sym c.deref.ensures.value) in
    omega (arith, size, c.requires.within.2)

pub index_mut-requires : goal.index_mut-requires
index_mut-requires c = omega (arith, (placed c.args.self.now.files.items c.args.name c.args.index c.requires.placed).below, c.args.self.now.files.ok.0)

pub invariant_of-self-2 : goal.invariant_of-self-2
invariant_of-self-2 c =
    let was = place_read c.args.self.now.files.items c.args.name c.requires.within.0 c.requires.within.1 c.args.index c.index.result.now c.requires.placed c.index.ensures in
    let copied : c.in_ok-to_vec.field-0.items ≡ c.args.bytes.now = search rules in
    let next : c.in_ok-next.next.items ≡ over c.requires.within.0 c.args.at (front_of c.args.outcome c.in_ok-to_vec.field-0.items) =
    c.in_ok-next.ensures
    ∙ ap (λ (b : List ℕ). over b c.args.at c.front.result.now) (c.deref.ensures.value ∙ sym was)
    ∙ ap (λ (b : List ℕ). over c.requires.within.0 c.args.at b) (c.front.ensures ∙ ap (λ (b : List ℕ). front_of c.args.outcome b) (sym copied)) in
    let named = ap (λ (f : MemFile). f.name) c.index_mut.ensures.value ∙ (placed c.args.self.now.files.items c.args.name c.args.index c.requires.placed).named c.index_mut.result.now in
    record {
      agrees =
          wrote (replayed c.args.self.now) c.args.self.now.files.items c.args.self.now.agrees c.args.name c.args.outcome c.args.index (record { name = c.index_mut.result.now.name; bytes = c.in_ok-next.next }) c.requires.within.0 c.args.at c.in_ok-to_vec.field-0.items c.requires.placed named c.requires.within.1 c.requires.within.2 next
          ∙ sym (ap (λ (t : Told). t.reads) (pushed c.args.self.now.first.items c.args.self.now.calls.items c.push.new.self.items (Wrote c.args.name c.args.at c.in_ok-to_vec.field-0) c.args.outcome c.in_ok-push.ensures.items));
    }

pub returns-clause-done : goal.returns-clause-done
returns-clause-done c =
    let copied : c.in_ok-to_vec.field-0.items ≡ c.args.bytes.now = search rules in
    pushed c.args.self.now.first.items c.args.self.now.calls.items c.push.new.self.items (Wrote c.args.name c.args.at c.in_ok-to_vec.field-0) c.args.outcome c.in_ok-push.ensures.items
    ∙ ap (λ (b : List ℕ). step_by c.args.outcome (On c.args.name (Write c.args.at b)) (replayed c.args.self.now)) copied

longer : (was : List ℕ) (at : ℕ) (bytes : List ℕ) → at ≤ length was → at + length bytes ≤ length (over was at bytes)
longer was at bytes within = omega (arith, within, length-append (take at was ++ bytes) (drop (at + length bytes) was), length-append (take at was) bytes, length-take at was)

pub returns-clause-bounded : goal.returns-clause-bounded
returns-clause-bounded c =
    let was = place_read c.args.self.now.files.items c.args.name c.requires.within.0 c.requires.within.1 c.args.index c.index.result.now c.requires.placed c.index.ensures in
    let size : length c.requires.within.0 ≡ length c.deref.result.now = ap length (was ∙ sym c.deref.ensures.value) in
    let whole : length c.in_ok-next.next.items ≡ length (over c.deref.result.now c.args.at c.front.result.now) = ap length c.in_ok-next.ensures in
    let wrote : length c.front.result.now ≡ length (front_of c.args.outcome c.args.bytes.now) = ap length c.front.ensures in
    let within : c.args.at ≤ length c.deref.result.now = omega (arith, size, c.requires.within.2) in
    omega (arith, whole, wrote, longer c.deref.result.now c.args.at c.front.result.now within, c.in_ok-next.next.ok.0, c.in_ok-next.next.ok.1, c.in_ok-next.next.small)
