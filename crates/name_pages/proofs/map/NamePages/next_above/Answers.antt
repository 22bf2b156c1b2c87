use Rattle.std.proofs.Common.{◌≡◌, ◌∙◌, sym, ap, subst}
use Rattle.std.proofs.lemmas.List.{take_rest}
use Rattle.cal_base.specs.Lists.NameMap.{next_above}
use Rattle.name_pages.specs.Pages.{pairs_of, ArePages}
use Rattle.name_pages.proofs.PlaceLemmas.{next_above-place}
use Rattle.name_pages.proofs.map.NamePages.next_above.Goals as goal

pub returns : goal.returns
returns g c =
    let name = c.args.name.now in
    let pages = c.as_slice-pages.result.now in
    let is : pages ≡ c.self.inside.pages = c.as_slice-pages.ensures ∙ c.deref.ensures in
    let are : ArePages pages = subst ArePages (sym is) c.self.invariant in
    c.first_above.ensures
    ∙ (ap (λ rest. next_above (pairs_of rest) name) (take_rest pages c.place_of.result)
    ∙ (sym (next_above-place name c.place_of.result pages c.place_of.ensures.place are)
    ∙ ap (λ named. next_above named name) (ap pairs_of is ∙ c.self.view_is)))
