use Rattle.std.proofs.Common.{◌≡◌, ◌∙◌, sym, ap, subst}
use Rattle.cal_base.specs.Lists.NameMap.{value_at}
use Rattle.name_pages.specs.Pages.{pairs_of, ArePages}
use Rattle.name_pages.proofs.PlaceLemmas.{place_page, value_at-place}
use Rattle.name_pages.proofs.map.NamePages.get.Goals as goal

pub returns : goal.returns
returns g c =
    let name = c.args.name.now in
    let pages = c.as_slice-pages.result.now in
    let at = c.place_of.result in
    let is : pages ≡ c.self.inside.pages = c.as_slice-pages.ensures ∙ c.deref.ensures in
    let are : ArePages pages = subst ArePages (sym is) c.self.invariant in
    c.get.ensures
    ∙ (ap (λ named. value_at named name) (c.deref-2.ensures ∙ ap (λ page. page.names) (place_page name at pages c.place_of.ensures.place are c.index-pages-place_of.result))
    ∙ (sym (value_at-place name at pages c.place_of.ensures.place are)
    ∙ ap (λ named. value_at named name) (ap pairs_of is ∙ c.self.view_is)))
