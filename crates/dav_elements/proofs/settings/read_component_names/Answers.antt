use Rattle.std.proofs.Common.{◌≡◌, false, ◌++◌, map, ap, ◌∙◌}
use Rattle.std.specs.Prelude.{codes}
use Rattle.std.specs.List.{join_with_byte}
use Rattle.cal_base.specs.Texts.Octets.{comma}
use Rattle.cal_model.specs.Words.Lists.{is_empty}
use Rattle.cal_model.specs.Words.Namespaces.{caldav}
use Rattle.cal_model.specs.Bodies.ElementParts.{has_name, item_elements, name_of}
use Rattle.dav_elements.proofs.ListSteps.{flat_more, kept_more, nothing_more}
use Rattle.dav_elements.proofs.NameLemmas.{separator, names_more, not_first}
use Rattle.dav_elements.proofs.settings.read_component_names.Goals as goal
use Rattle.dav_elements.proofs.settings.read_component_names.Goals.{in-Some+in_ok-push_name, in_default}

pub items-preserved : goal.items-preserved
items-preserved c =
    let more = kept_more (has_name caldav (codes "comp")) (flat_more item_elements c.args.items.now c.items.item-index c.item-item.result c.items-test.true c.item-item.is) in
    elim c.match-named.branch [
      | in-Some+in_ok-push_name w ↦
          let now : c.match-named.names ≡ c.items.names ++ (separator comma c.items.first ++ name_of w.in-Some.component.now) = cc (w.in_ok-push_name.ensures) in
          let none : c.match-named.first ≡ false = cc in
          record {
            joined = names_more comma name_of w.in-Some.component.now c.items.first more w.in-Some.ensures c.items.invariant.joined c.items.invariant.none now;
            none = none ∙ not_first w.in-Some.component.now more w.in-Some.ensures;
          }
      | in_default w ↦
          let names : c.match-named.names ≡ c.items.names = cc in
          let first : c.match-named.first ≡ c.items.first = cc in
          let same = nothing_more more w.in_default.ensures in
          record {
            joined = names ∙ c.items.invariant.joined ∙ ap (λ those. join_with_byte comma (map name_of those)) same;
            none = first ∙ c.items.invariant.none ∙ ap is_empty same;
          }
    ]
