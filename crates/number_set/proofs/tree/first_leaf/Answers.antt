use Rattle.std.proofs.Common.{arith, ◌≤◌, ◌-◌, ◌≡◌, suc, subst, ℕ}
use Rattle.number_set.proofs.DescentLemmas.{IsOnTheWay, start, has_children, one_down, up}
use Rattle.number_set.proofs.tree.first_leaf.Goals as goal

pub loop-left-init : goal.loop-left-init
loop-left-init c = start c.args.nodes.now c.args.height c.requires.some

pub first_child-at-requires : goal.first_child-at-requires
first_child-at-requires c =
    let way = c.loop-left.invariant in
    let one_more : c.loop-left.left ≡ suc (c.loop-left.left - 1) = omega arith in
    let room = has_children c.args.height way.depth (c.loop-left.left - 1) (let level = way.level in omega arith) in
    let high = way.high in
    let size = c.requires.size in
    omega arith

pub loop-left-preserved : goal.loop-left-preserved
loop-left-preserved c =
    let one_more : c.loop-left.left ≡ suc (c.loop-left.left - 1) = omega arith in
    one_down c.args.nodes.now c.args.height c.loop-left.at (c.loop-left.left - 1) c.first_child-at.result c.requires.size c.requires.sums
    (subst (λ (n : ℕ). IsOnTheWay c.args.nodes.now c.args.height c.loop-left.at n) one_more c.loop-left.invariant) c.first_child-at.ensures

pub returns-clause-first : goal.returns-clause-first
returns-clause-first c p set low =
    let none : c.loop-left.left ≡ 0 = omega arith in
    subst (λ (n : ℕ). c.loop-left.at ≤ up n p) none (c.loop-left.invariant.before p set low)
