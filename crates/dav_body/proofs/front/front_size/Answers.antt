use Rattle.std.proofs.Common.{◌≡◌, ◌-◌, true, None, take, drop, ◌++◌, ◌∷◌, length, sym, ap, ◌∙◌, arith, rules}
use Rattle.std.proofs.lemmas.List.{length-drop, take_all}
use Rattle.cal_base.specs.Xml.XmlMarkup.{markups}
use Rattle.cal_base.specs.Xml.XmlFaults.{is_declaration, declaration_fault}
use Rattle.dav_body.proofs.FrontSteps.{declared_whole_faults, declared_whole_elements}
use Rattle.dav_body.proofs.front.front_size.Goals as goal

pub returns-in-None-clause-faults : goal.returns-in-None-clause-faults
returns-in-None-clause-faults c =
    let octets = c.args.octets.now in
    let mark = c.mark_size-mark.result in
    let text = c.first_markup.result.0.now in
    let behind = c.first_markup.result.1.now in
    let all : take (length octets - mark) (drop mark octets) ≡ drop mark octets = take_all (length octets - mark) (drop mark octets) (omega (arith, length-drop mark octets)) in
    let whole : text ++ behind ≡ drop mark octets = c.first_markup.ensures.whole ∙ all in
    let cut : markups (drop mark octets) ≡ text ∷ markups behind = sym (ap markups all) ∙ c.first_markup.ensures.cut in
    let here : is_declaration text ≡ true = search rules in
    let none : None ≡ declaration_fault (length octets) mark text = search rules in
    declared_whole_faults octets mark c.mark_size-mark.ensures.size text behind whole cut here none

pub returns-in-None-clause-elements : goal.returns-in-None-clause-elements
returns-in-None-clause-elements c =
    let octets = c.args.octets.now in
    let mark = c.mark_size-mark.result in
    let text = c.first_markup.result.0.now in
    let behind = c.first_markup.result.1.now in
    let all : take (length octets - mark) (drop mark octets) ≡ drop mark octets = take_all (length octets - mark) (drop mark octets) (omega (arith, length-drop mark octets)) in
    let whole : text ++ behind ≡ drop mark octets = c.first_markup.ensures.whole ∙ all in
    let cut : markups (drop mark octets) ≡ text ∷ markups behind = sym (ap markups all) ∙ c.first_markup.ensures.cut in
    let here : is_declaration text ≡ true = search rules in
    declared_whole_elements octets mark c.mark_size-mark.ensures.size text behind whole cut here
