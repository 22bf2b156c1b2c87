use Rattle.std.proofs.Common.{arith}
use Rattle.std.proofs.lemmas.List.{nil_from_length}
use Rattle.std.proofs.lemmas.List.Elements.{All-head, All-tail}
use Rattle.cal_model.proofs.Instances.RisingLists.{AllPairs-tail}
use Rattle.needed_windows.specs.Stretches.{IsStretch, StartsNoLater}
use Rattle.needed_windows.proofs.StretchLemmas.{IsSwept-end, IsSwept-more, IsSwept-start}
use Rattle.needed_windows.proofs.windows.windows_of.Goals as goal

pub stretches-init : goal.stretches-init
stretches-init c = record {
  swept = rw c.new-windows.ensures (IsSwept-start c.args.stretches.now);
  bound = omega arith;
  each = c.requires.each;
  rising = c.requires.rising;
}

pub put_between-requires : goal.put_between-requires
put_between-requires c =
    (All-head IsStretch c.in-Some.stretch.now c.in-Some.behind.now (rw c.in-Some.ensures.cases.0 at c.stretches.invariant.each)).end

pub stretches-preserved : goal.stretches-preserved
stretches-preserved c =
    let first = c.in-Some.ensures.cases.0 in
    let stretch = c.in-Some.stretch.now in
    let behind = c.in-Some.behind.now in
    let rising = rw first at c.stretches.invariant.rising in
    let each = rw first at c.stretches.invariant.each in
    let bound = c.stretches.invariant.bound in
    let end = (All-head IsStretch stretch behind each).end in
    let next = c.later-next.ensures in
    record {
      swept = rw next (IsSwept-more c.args.stretches.now behind stretch c.stretches.next c.stretches.windows _ rising (rw first at c.stretches.invariant.swept) (rw c.later-first.ensures at c.in_ok-put_between.ensures));
      bound = omega (arith, next, bound, end);
      each = All-tail IsStretch stretch behind each;
      rising = AllPairs-tail StartsNoLater stretch behind rising;
    }

pub returns : goal.returns
returns c = IsSwept-end c.args.stretches.now c.stretches.rest.now c.stretches.next c.stretches.windows (nil_from_length c.stretches.rest.now c.in_default.ensures.cases) c.stretches.invariant.bound c.stretches.invariant.swept
