use Rattle.std.proofs.Common.{ap, ◌∙◌, ◌+◌, drop, set}
use Rattle.std.specs.Vec.{with_item}
use Rattle.std.proofs.lemmas.List.{drop-set-add, with_items_is}
use Rattle.number_set.proofs.set.NumberSet.put.Goals as goal

pub returns : goal.returns
returns c =
    ap (drop c.self.inside.width) (with_items_is (with_item c.self.inside.nodes (c.self.inside.width + c.args.number) c.args.member) c.sum_up.new.nodes (c.sum_up.auto.nodes ∙ c.deref_mut.ensures.len))
    ∙ c.sum_up.ensures.leaves
    ∙ ap (drop c.self.inside.width) c.deref_mut.ensures.value
    ∙ drop-set-add c.self.inside.width c.self.inside.nodes.items c.args.number c.args.member
    ∙ ap (λ flags. set flags c.args.number c.args.member) c.self.view_is
