use Rattle.std.proofs.Common.{rules, arith, ◌≡◌, w64, to_z, of_z}
use Rattle.std.specs.Prelude.{◌<ℤ◌}
use Rattle.std.proofs.lemmas.Int.{ints}
use Rattle.std.proofs.lemmas.List.{nil_from_length}
use Rattle.freebusy.proofs.Joining.{AreJoining-end, AreJoining-past}
use Rattle.freebusy.proofs.ends.joined.Goals as goal

pub stretches-preserved : goal.stretches-preserved
stretches-preserved c =
    let span = c.stretches.span in
    let next = c.in-Some-split_first.next.now in
    let here : to_z w64 (of_z w64 span.end) ≡ span.end = search rules in
    let there : to_z w64 (of_z w64 next.start) ≡ next.start = search rules in
    let past : span.end <ℤ next.start = omega (arith, ints, here, there, c.if-next-span.false) in
    AreJoining-past c.stretches.found c.put_span.new.found span next c.in-Some-split_first.behind.now c.stretches.rest.now c.args.spans.now
    c.in-Some-split_first.ensures.cases.0 past c.in_ok-put_span.ensures.starts c.in_ok-put_span.ensures.ends c.stretches.invariant

pub returns : goal.returns
returns c =
    AreJoining-end c.stretches.found c.put_span-2.new.found c.stretches.span c.stretches.rest.now c.args.spans.now
    (nil_from_length c.stretches.rest.now c.in_default-split_first.ensures.cases) c.requires
    c.in_ok-put_span-2.ensures.starts c.in_ok-put_span-2.ensures.ends c.stretches.invariant
