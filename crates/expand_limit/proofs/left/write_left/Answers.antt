use Rattle.std.proofs.Common.{◌≡◌, ℕ, ◌+◌, ◌∷◌, ◌++◌, length, sym, ap, subst, ◌∙◌, arith}
use Rattle.std.specs.Prelude.{flat_map}
use Rattle.ical_objects.specs.Printing.{ArePrintable}
use Rattle.expand_limit.specs.SeenRows.{left_nodes}
use Rattle.expand_limit.specs.ShownTexts.{node_text}
use Rattle.expand_limit.proofs.LeftParts.{left-text}
use Rattle.expand_limit.proofs.PrintedParts.{first_fits}
use Rattle.expand_limit.proofs.left.write_left.Goals as goal

pub write_stay-requires-clause-node : goal.write_stay-requires-clause-node
write_stay-requires-clause-node c =
    let some = c.nodes.invariant.some in
    let split : c.nodes.rest.now ≡ c.in-Some.node.now ∷ c.in-Some.behind.now = c.in-Some.ensures.cases.0 in
    (some.0, (first_fits some.0 c.in-Some.node.now c.in-Some.behind.now (subst (ArePrintable some.0) split some.1)).0)

pub nodes-preserved : goal.nodes-preserved
nodes-preserved c =
    let held = c.nodes.invariant in
    let node = c.in-Some.node.now in
    let behind = c.in-Some.behind.now in
    let gone = c.args.gone.now in
    let split : c.nodes.rest.now ≡ node ∷ behind = c.in-Some.ensures.cases.0 in
    let parts = λ (levels : ℕ) (fit : ArePrintable levels c.nodes.rest.now). first_fits levels node behind (subst (ArePrintable levels) split fit) in
    let size : c.nodes.place + length (node ∷ behind) ≡ length c.args.nodes.now = subst (λ ns. c.nodes.place + length ns ≡ length c.args.nodes.now) split held.size in
    record {
      size = omega (arith, size);
      some = (held.some.0, (parts held.some.0 held.some.1).1);
      fit = λ levels all. (parts levels (held.fit levels all)).1;
      text = λ levels picks all keeps.
          left-text (node_text picks c.args.options.busy) gone c.nodes.place c.nodes.out c.write_stay.new.out c.is_gone.result node behind c.is_gone.ensures
          (c.in_ok-write_stay.ensures levels picks (parts levels (held.fit levels all)).0 keeps)
          ∙ ap (λ nodes. c.nodes.out ++ flat_map (node_text picks c.args.options.busy) (left_nodes gone c.nodes.place nodes)) (sym split) ∙ held.text levels picks all keeps;
    }
