use Rattle.std.proofs.Common.{◌≡◌, ◌∙◌, ◌+◌, ◌++◌, sym, ap, subst, take, drop, length, add-one}
use Rattle.name_pages.specs.Pages.{pairs_of, ArePages}
use Rattle.name_pages.proofs.PlaceLemmas.{left_page, dropped_pages, dropped_pairs}
use Rattle.name_pages.proofs.pages.drop_empty.Goals as goal

pub returns-then-len-eq0-clause-pages : goal.returns-then-len-eq0-clause-pages
returns-then-len-eq0-clause-pages g c =
    let pages = c.args.pages.now.items in
    let items : c.remove-empty.new.self.items ≡ take c.args.at pages ++ drop (c.args.at + 1) pages = c.remove-empty.ensures.items ∙ ap (λ n. take c.args.at pages ++ drop n pages) (sym (add-one c.args.at)) in
    subst ArePages (sym items) (dropped_pages c.args.at pages c.requires.left c.if-at-gt0.true)

pub returns-then-len-eq0-clause-pairs : goal.returns-then-len-eq0-clause-pairs
returns-then-len-eq0-clause-pairs g c =
    let pages = c.args.pages.now.items in
    let items : c.remove-empty.new.self.items ≡ take c.args.at pages ++ drop (c.args.at + 1) pages = c.remove-empty.ensures.items ∙ ap (λ n. take c.args.at pages ++ drop n pages) (sym (add-one c.args.at)) in
    let none : length c.requires.left.page.names ≡ 0 =
    ap (λ page. length page.names) (sym (c.index.ensures ∙ left_page c.args.at pages c.requires.left c.index.result.now)) ∙ (ap length (sym c.deref.ensures) ∙ (sym c.len.ensures.len ∙ c.if-len-eq0.true)) in
    ap pairs_of items ∙ dropped_pairs c.args.at pages c.requires.left none
