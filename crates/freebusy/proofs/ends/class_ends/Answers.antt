use Rattle.std.proofs.lemmas.Result.{IfOk-weaker}
use Rattle.std.specs.List.Sorted.{IsPermutation}
use Rattle.freebusy.specs.Ends as spec
use Rattle.freebusy.proofs.Counts.{ends_of_class, order_of_class}
use Rattle.freebusy.proofs.ends.class_ends.Goals as goal

pub joined-requires : goal.joined-requires
joined-requires c =
    rw c.as_slice.ensures.value (order_of_class c.args.class c.args.rows.now c.by_start-spans.result.items (rw c.in-Ok.ensures at c.by_start-spans.ensures.same) c.by_start-spans.ensures.rising)

pub returns-in-Ok : goal.returns-in-Ok
returns-in-Ok c =
    let moved : IsPermutation (spec.spans_of c.args.class c.args.rows.now) c.by_start-spans.result.items = rw c.in-Ok.ensures at c.by_start-spans.ensures.same in
    IfOk-weaker c.joined.result (spec.AreEndsOf c.as_slice.result.now) (spec.AreEndsOf (spec.spans_of c.args.class c.args.rows.now))
    (λ found are. ends_of_class c.args.class c.args.rows.now c.by_start-spans.result.items found moved (rw c.as_slice.ensures.value at are))
    c.joined.ensures
