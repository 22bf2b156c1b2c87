use Rattle.std.proofs.Common.{◌++◌, ◌∷◌, ap, take, sym, ◌∙◌}
use Rattle.cal_script.proofs.HeadLemmas.{no_such_octet, split_there}
use Rattle.cal_script.proofs.split.split_at_octet.Goals as goal

pub returns-in_default : goal.returns-in_default
returns-in_default c = no_such_octet c.args.octet c.args.text.now (sym c.place_of.ensures ∙ c.in_default.is)

pub returns : goal.returns
returns c =
    let there = split_there c.args.octet c.args.text.now c.in-Some.at (sym c.place_of.ensures ∙ c.in-Some.is) in
    (there.1, there.2 ∙ ap (λ rest. take c.in-Some.at c.args.text.now ++ (c.args.octet ∷ rest)) (sym c.behind.ensures))
