use Rattle.std.proofs.Common.{◌≡◌, ◌+◌, ℕ, take, drop, slice_index, sym, ap, arith, ◌∙◌}
use Rattle.record_form.specs.declared.record.Outline.TheVariants as outlines
use Rattle.record_form.specs.Grammar.{u32_of, u64_of}
use Rattle.record_form.specs.Outlines.{outline_of}
use Rattle.record_form.proofs.Inversions.{whole_take, whole_rollback, whole_commit_put, whole_commit_take, whole_end, whole_put}
use Rattle.record_form.proofs.Loops.{kind_whole, whole_record}
use Rattle.record_form.proofs.Outlined.{outlined_by, put_outline}
use Rattle.record_form.proofs.Spelled.{all_bytes}
use Rattle.record_form.proofs.outlines.read_outline.Goals as goal

pub bounds-bytes-0 : goal.bounds-bytes-0
bounds-bytes-0 c = omega (arith, (whole_record c.args.bytes.now c.requires).some)

pub u32_in-length-requires : goal.u32_in-length-requires
u32_in-length-requires c =
    let k = kind_whole c.args.bytes.now 1 c.requires c.in-1.is in
    omega (arith, (whole_put c.args.bytes.now k.rec k.end k.some k.inner).there)

pub u64_in-requires : goal.u64_in-requires
u64_in-requires c =
    let k = kind_whole c.args.bytes.now 1 c.requires c.in-1.is in
    omega (arith, (whole_put c.args.bytes.now k.rec k.end k.some k.inner).there)

pub u64_in-requires-in-2 : goal.u64_in-requires-in-2
u64_in-requires-in-2 c =
    let k = kind_whole c.args.bytes.now 2 c.requires c.in-2.is in
    omega (arith, (whole_take c.args.bytes.now k.rec k.end k.some k.inner).0)

pub u64_in-requires-in-2-2 : goal.u64_in-requires-in-2-2
u64_in-requires-in-2-2 c =
    let k = kind_whole c.args.bytes.now 2 c.requires c.in-2.is in
    omega (arith, (whole_take c.args.bytes.now k.rec k.end k.some k.inner).0)

pub u64_in-requires-in-3 : goal.u64_in-requires-in-3
u64_in-requires-in-3 c =
    let k = kind_whole c.args.bytes.now 3 c.requires c.in-3.is in
    omega (arith, (whole_rollback c.args.bytes.now k.rec k.end k.some k.inner).0)

pub u64_in-requires-in-4 : goal.u64_in-requires-in-4
u64_in-requires-in-4 c =
    let k = kind_whole c.args.bytes.now 4 c.requires c.in-4.is in
    omega (arith, (whole_commit_put c.args.bytes.now k.rec k.end k.some k.inner).0.there)

pub u64_in-requires-in-4-2 : goal.u64_in-requires-in-4-2
u64_in-requires-in-4-2 c =
    let k = kind_whole c.args.bytes.now 4 c.requires c.in-4.is in
    omega (arith, (whole_commit_put c.args.bytes.now k.rec k.end k.some k.inner).0.there)

pub u32_in-requires : goal.u32_in-requires
u32_in-requires c =
    let k = kind_whole c.args.bytes.now 4 c.requires c.in-4.is in
    omega (arith, (whole_commit_put c.args.bytes.now k.rec k.end k.some k.inner).0.there)

pub u64_in-requires-in-5 : goal.u64_in-requires-in-5
u64_in-requires-in-5 c =
    let k = kind_whole c.args.bytes.now 5 c.requires c.in-5.is in
    omega (arith, (whole_commit_take c.args.bytes.now k.rec k.end k.some k.inner).0.there)

pub u32_in-requires-in-5 : goal.u32_in-requires-in-5
u32_in-requires-in-5 c =
    let k = kind_whole c.args.bytes.now 5 c.requires c.in-5.is in
    omega (arith, (whole_commit_take c.args.bytes.now k.rec k.end k.some k.inner).0.there)

pub u32_in-requires-in_default : goal.u32_in-requires-in_default
u32_in-requires-in_default c =
    let r = whole_record c.args.bytes.now c.requires in
    let six : slice_index c.args.bytes.now 0 ≡ 6 = omega (arith, c.in_default, r.low, r.high) in
    let k = kind_whole c.args.bytes.now 6 c.requires six in
    omega (arith, (whole_end c.args.bytes.now k.rec k.end k.some k.inner).0.there)

pub returns-in-1 : goal.returns-in-1
returns-in-1 c =
    let bytes = c.args.bytes.now in
    let k = kind_whole bytes 1 c.requires c.in-1.is in
    let m = put_outline bytes k.rec k.end (all_bytes bytes (λ i. omega (arith, c.type_inv.bytes i))) k.some k.inner in
    let is : outlines.Put c.u64_in.result c.u32_in-length.result ≡ outline_of k.rec = let e = m.0 in cc in
    outlined_by bytes (outlines.Put c.u64_in.result c.u32_in-length.result) (13 + c.u32_in-length.result) k.rec k.end k.whole is (ap (λ (n : ℕ). 13 + n) c.u32_in-length.ensures ∙ m.1)

pub returns-in-2 : goal.returns-in-2
returns-in-2 c =
    let bytes = c.args.bytes.now in
    let k = kind_whole bytes 2 c.requires c.in-2.is in
    let t = whole_take bytes k.rec k.end k.some k.inner in
    let e : outline_of k.rec ≡ outlines.Take (u64_of (take 8 (drop 1 bytes))) (u64_of (take 8 (drop 9 bytes))) = ap outline_of t.1 in
    let same : outlines.Take c.u64_in-in-2.result c.u64_in-in-2-2.result ≡ outline_of k.rec = cc in
    outlined_by bytes (outlines.Take c.u64_in-in-2.result c.u64_in-in-2-2.result) 17 k.rec k.end k.whole same (sym t.2)

pub returns-in-3 : goal.returns-in-3
returns-in-3 c =
    let bytes = c.args.bytes.now in
    let k = kind_whole bytes 3 c.requires c.in-3.is in
    let t = whole_rollback bytes k.rec k.end k.some k.inner in
    let e : outline_of k.rec ≡ outlines.Rollback (u64_of (take 8 (drop 1 bytes))) = ap outline_of t.1 in
    let same : outlines.Rollback c.u64_in-in-3.result ≡ outline_of k.rec = cc in
    outlined_by bytes (outlines.Rollback c.u64_in-in-3.result) 9 k.rec k.end k.whole same (sym t.2)

pub returns-in-4 : goal.returns-in-4
returns-in-4 c =
    let bytes = c.args.bytes.now in
    let k = kind_whole bytes 4 c.requires c.in-4.is in
    let t = whole_commit_put bytes k.rec k.end k.some k.inner in
    let e : outline_of k.rec ≡ outlines.CommitPut (u64_of (take 8 (drop 1 bytes))) (u64_of (take 8 (drop 9 bytes))) (u32_of (take 4 (drop 17 bytes))) = ap outline_of t.1 in
    let same : outlines.CommitPut c.u64_in-in-4.result c.u64_in-in-4-2.result c.u32_in.result ≡ outline_of k.rec = cc in
    outlined_by bytes (outlines.CommitPut c.u64_in-in-4.result c.u64_in-in-4-2.result c.u32_in.result) 21 k.rec k.end k.whole same (sym t.2)

pub returns-in-5 : goal.returns-in-5
returns-in-5 c =
    let bytes = c.args.bytes.now in
    let k = kind_whole bytes 5 c.requires c.in-5.is in
    let t = whole_commit_take bytes k.rec k.end k.some k.inner in
    let e : outline_of k.rec ≡ outlines.CommitTake (u64_of (take 8 (drop 1 bytes))) (u32_of (take 4 (drop 9 bytes))) = ap outline_of t.1 in
    let same : outlines.CommitTake c.u64_in-in-5.result c.u32_in-in-5.result ≡ outline_of k.rec = cc in
    outlined_by bytes (outlines.CommitTake c.u64_in-in-5.result c.u32_in-in-5.result) 13 k.rec k.end k.whole same (sym t.2)

pub returns-in_default : goal.returns-in_default
returns-in_default c =
    let bytes = c.args.bytes.now in
    let r = whole_record bytes c.requires in
    let six : slice_index bytes 0 ≡ 6 = omega (arith, c.in_default, r.low, r.high) in
    let k = kind_whole bytes 6 c.requires six in
    let t = whole_end bytes k.rec k.end k.some k.inner in
    let e : outline_of k.rec ≡ outlines.End (u32_of (take 4 (drop 1 bytes))) = ap outline_of t.1 in
    let same : outlines.End c.u32_in-in_default.result ≡ outline_of k.rec = cc in
    outlined_by bytes (outlines.End c.u32_in-in_default.result) 5 k.rec k.end k.whole same (sym t.2)
