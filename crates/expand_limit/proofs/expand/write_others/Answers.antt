use Rattle.std.proofs.Common.{◌≡◌, ℕ, true, false, [], ◌∷◌, ◌++◌, sym, ap, subst, ◌∙◌}
use Rattle.std.specs.Prelude.{flat_map}
use Rattle.cal_model.specs.Selections.Expansion.{is_of_four_kinds, other_components}
use Rattle.ical_objects.specs.Printing.{ArePrintable}
use Rattle.expand_limit.specs.ShownTexts.{node_text, seen_nodes}
use Rattle.expand_limit.proofs.OtherParts.{others-skipped, others-text}
use Rattle.expand_limit.proofs.PrintedParts.{first_fits}
use Rattle.expand_limit.proofs.expand.write_others.Goals as goal

pub write_child-requires : goal.write_child-requires
write_child-requires c =
    let some = c.others.invariant.some in
    let split : c.others.rest.now ≡ c.in-Some.node.now ∷ c.in-Some.behind.now = c.in-Some.ensures.cases.0 in
    (some.0, (first_fits some.0 c.in-Some.node.now c.in-Some.behind.now (subst (ArePrintable some.0) split some.1)).0)

pub others-preserved-in_ok-write_child : goal.others-preserved-in_ok-write_child
others-preserved-in_ok-write_child c =
    let held = c.others.invariant in
    let node = c.in-Some.node.now in
    let behind = c.in-Some.behind.now in
    let split : c.others.rest.now ≡ node ∷ behind = c.in-Some.ensures.cases.0 in
    let parts = λ (levels : ℕ) (fit : ArePrintable levels c.others.rest.now). first_fits levels node behind (subst (ArePrintable levels) split fit) in
    let other : is_of_four_kinds node ≡ false = sym c.is_of_four_kinds.ensures ∙ c.if-not-is_of_four_kinds.true in
    record {
      some = (held.some.0, (parts held.some.0 held.some.1).1);
      fit = λ levels all. (parts levels (held.fit levels all)).1;
      text = λ levels picks all keeps.
          others-text (node_text picks c.args.options.busy) c.others.out c.write_child.new.out node behind other
          (c.in_ok-write_child.ensures levels picks (parts levels (held.fit levels all)).0 keeps ∙ ap (λ plain. c.others.out ++ flat_map (node_text picks c.args.options.busy) (seen_nodes plain (node ∷ []))) c.requires.plain)
          ∙ ap (λ nodes. c.others.out ++ flat_map (node_text picks c.args.options.busy) (other_components nodes)) (sym split) ∙ held.text levels picks all keeps;
    }

pub others-preserved : goal.others-preserved
others-preserved c =
    let held = c.others.invariant in
    let node = c.in-Some.node.now in
    let behind = c.in-Some.behind.now in
    let split : c.others.rest.now ≡ node ∷ behind = c.in-Some.ensures.cases.0 in
    let parts = λ (levels : ℕ) (fit : ArePrintable levels c.others.rest.now). first_fits levels node behind (subst (ArePrintable levels) split fit) in
    let is : is_of_four_kinds node ≡ true = sym c.is_of_four_kinds.ensures ∙ c.if-not-is_of_four_kinds.false in
    record {
      some = (held.some.0, (parts held.some.0 held.some.1).1);
      fit = λ levels all. (parts levels (held.fit levels all)).1;
      text = λ levels picks all keeps.
          ap (λ nodes. c.others.out ++ flat_map (node_text picks c.args.options.busy) nodes) (sym (others-skipped node behind is))
          ∙ ap (λ nodes. c.others.out ++ flat_map (node_text picks c.args.options.busy) (other_components nodes)) (sym split) ∙ held.text levels picks all keeps;
    }
