use Rattle.std.proofs.Common.{arith, sym, ap, ◌∙◌, false, length, refl}
use Rattle.std.proofs.lemmas.List.{get_or_read_under}
use Rattle.number_set.specs.Sets.{has}
use Rattle.number_set.proofs.DescentLemmas.{one_at_least, no_leaf}
use Rattle.number_set.proofs.set.NumberSet.least.Goals as goal

pub index-requires : goal.index-requires
index-requires c =
    let one = one_at_least c.self.inside.height in
    let power = c.self.invariant.power in
    let size = c.self.invariant.size in
    omega arith

pub returns-then-not-index : goal.returns-then-not-index
returns-then-not-index c n =
    let one = one_at_least c.self.inside.height in
    let power = c.self.invariant.power in
    let size = c.self.invariant.size in
    let root = get_or_read_under c.self.inside.nodes.items 1 (length c.self.inside.nodes.items) c.index.result.now false c.index.ensures (omega arith) refl in
    ap (λ flags. has flags n) (sym c.self.view_is)
    ∙ no_leaf c.self.inside.nodes.items c.self.inside.width c.self.inside.height c.self.invariant (sym root ∙ c.if-not-index.true) n

pub first_leaf-leaf-requires-clause-some : goal.first_leaf-leaf-requires-clause-some
first_leaf-leaf-requires-clause-some c =
    let one = one_at_least c.self.inside.height in
    let power = c.self.invariant.power in
    let size = c.self.invariant.size in
    let root = get_or_read_under c.self.inside.nodes.items 1 (length c.self.inside.nodes.items) c.index.result.now false c.index.ensures (omega arith) refl in
    ap (λ flags. has flags 1) c.deref.ensures.value ∙ sym root ∙ c.if-not-index.false
