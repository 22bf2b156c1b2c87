use Rattle.std.proofs.Common.{◌≡◌, ◌∙◌, ◌+◌, sym, ap, drop, Some, None}
use Rattle.std.proofs.lemmas.List.{drop_all}
use Rattle.cal_base.specs.Lists.NameMap.{next_above}
use Rattle.name_pages.specs.Pages.{pairs_of}
use Rattle.name_pages.proofs.NamedLemmas.{next_above-here, next_above-later}
use Rattle.name_pages.proofs.PlaceLemmas.{next_at}
use Rattle.name_pages.proofs.pages.first_above.Goals as goal

pub returns-in-Some : goal.returns-in-Some
returns-in-Some g c =
    let name = c.args.name.now in
    let page = c.page-item.result in
    let rest = pairs_of (drop (c.pages.page-index + 1) c.args.pages.now) in
    let here : next_above page.names name ≡ Some (c.in-Some.pair.0.now, c.in-Some.pair.1.now) = sym (c.in-Some.ensures ∙ ap (λ named. next_above named name) c.deref.ensures) in
    sym (c.pages.invariant ∙ (next_at name c.args.pages.now c.pages.page-index page c.pages-test.true c.page-item.is ∙ next_above-here name page.names rest (c.in-Some.pair.0.now, c.in-Some.pair.1.now) here))

pub pages-preserved : goal.pages-preserved
pages-preserved g c =
    let name = c.args.name.now in
    let page = c.page-item.result in
    let none : next_above page.names name ≡ None = sym (c.in_default.ensures ∙ ap (λ named. next_above named name) c.deref.ensures) in
    c.pages.invariant ∙ (next_at name c.args.pages.now c.pages.page-index page c.pages-test.true c.page-item.is
    ∙ next_above-later name page.names (pairs_of (drop (c.pages.page-index + 1) c.args.pages.now)) none)

pub returns : goal.returns
returns g c =
    sym (c.pages.invariant ∙ ap (λ pages. next_above (pairs_of pages) c.args.name.now) (drop_all c.pages.page-index c.args.pages.now c.pages-test.false))
