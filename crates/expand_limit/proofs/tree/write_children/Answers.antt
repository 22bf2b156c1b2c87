use Rattle.std.proofs.Common.{◌≡◌, ℕ, ◌∷◌, ◌++◌, sym, ap, subst, ◌∙◌}
use Rattle.std.specs.Prelude.{flat_map}
use Rattle.ical_objects.specs.Printing.{ArePrintable}
use Rattle.expand_limit.specs.ShownTexts.{node_text, seen_nodes}
use Rattle.expand_limit.proofs.PrintedParts.{first_fits, rest-text}
use Rattle.expand_limit.proofs.tree.write_children.Goals as goal

pub write_child-requires : goal.write_child-requires
write_child-requires c =
    let some = c.children.invariant.some in
    let split : c.children.rest.now ≡ c.in-Some.child.now ∷ c.in-Some.behind.now = c.in-Some.ensures.cases.0 in
    (some.0, (first_fits some.0 c.in-Some.child.now c.in-Some.behind.now (subst (ArePrintable some.0) split some.1)).0)

pub children-preserved : goal.children-preserved
children-preserved c =
    let held = c.children.invariant in
    let child = c.in-Some.child.now in
    let others = c.in-Some.behind.now in
    let split : c.children.rest.now ≡ child ∷ others = c.in-Some.ensures.cases.0 in
    let parts = λ (levels : ℕ) (fit : ArePrintable levels c.children.rest.now). first_fits levels child others (subst (ArePrintable levels) split fit) in
    record {
      some = (held.some.0, (parts held.some.0 held.some.1).1);
      fit = λ levels all. (parts levels (held.fit levels all)).1;
      text = λ levels picks all keeps.
          rest-text (node_text picks c.args.options.busy) c.args.options.plain c.children.out c.write_child.new.out child others (c.in_ok-write_child.ensures levels picks (parts levels (held.fit levels all)).0 keeps)
          ∙ ap (λ nodes. c.children.out ++ flat_map (node_text picks c.args.options.busy) (seen_nodes c.args.options.plain nodes)) (sym split) ∙ held.text levels picks all keeps;
    }
