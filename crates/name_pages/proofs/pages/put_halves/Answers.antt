use Rattle.std.proofs.Common.{rules, ◌≡◌, ◌∙◌, ◌+◌, ◌∷◌, ◌++◌, ap, take, drop, slice_set}
use Rattle.name_pages.proofs.SplitLemmas.{in_its_place}
use Rattle.name_pages.proofs.pages.put_halves.Goals as goal

pub returns-clause-ok : goal.returns-clause-ok
returns-clause-ok g c =
    let pages = c.args.pages.now.items in
    let items : c.insert.new.self.items ≡ take (c.args.at + 1) pages ++ c.args.halves.upper ∷ drop (c.args.at + 1) pages = search rules in
    ap (λ all. slice_set all c.args.at c.args.halves.lower) items ∙ in_its_place pages c.args.at c.args.halves.lower c.args.halves.upper c.requires.there
