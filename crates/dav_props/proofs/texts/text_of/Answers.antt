use Rattle.std.proofs.Common.{Some, sym, ap, ◌∙◌}
use Rattle.std.specs.Prelude.{find, option_map, unwrap_or, []}
use Rattle.cal_model.specs.declared.property.PropSet.{PropSet}
use Rattle.cal_model.specs.Access.Privileges.{same_name}
use Rattle.dav_props.specs.Rows.{asked_name}
use Rattle.dav_props.proofs.TextLemmas.{text_found}
use Rattle.dav_props.proofs.texts.text_of.Goals as goal

pub returns-in-Some : goal.returns-in-Some
returns-in-Some c =
    let name = asked_name c.args.asked.now in
    ap Some c.value_of.ensures
    ∙ ap (option_map (λ (set : PropSet). unwrap_or set.value [])) (c.in-Some.ensures ∙ ap (find (λ (set : PropSet). same_name set.name name)) c.as_slice.ensures)
    ∙ sym (text_found c.args.texts.now name)

pub returns-in-None : goal.returns-in-None
returns-in-None c =
    let name = asked_name c.args.asked.now in
    ap (option_map (λ (set : PropSet). unwrap_or set.value [])) (c.in-None.ensures ∙ ap (find (λ (set : PropSet). same_name set.name name)) c.as_slice.ensures)
    ∙ sym (text_found c.args.texts.now name)
