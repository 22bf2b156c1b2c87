use Rattle.std.proofs.Common.{◌≡◌, ◌∙◌, ◌+◌, ◌≤◌, ◌<◌, sym, ap, subst, length, refl, cond}
use Rattle.std.specs.Ordering.{is_lt}
use Rattle.cal_base.specs.Lists.NameMap.{name_order}
use Rattle.name_pages.specs.Pages.{pairs_of, ArePages}
use Rattle.name_pages.specs.Places.{IsPlace, IsRoomyPlace}
use Rattle.name_pages.proofs.SplitLemmas.{page_read, roomy_there, full_there, halves_there, halved, halved_pages, halved_pairs, halved_place}
use Rattle.name_pages.proofs.PlaceLemmas.{place_within}
use Rattle.name_pages.proofs.pages.roomy_place.Goals as goal

pub returns-then-len-lt-PAGE_PAIRS-clause-place : goal.returns-then-len-lt-PAGE_PAIRS-clause-place
returns-then-len-lt-PAGE_PAIRS-clause-place g c =
    let name = c.args.name.now in
    let at = c.place_of-at.result in
    let pages = c.args.pages.now.items in
    let place : IsPlace name at pages = subst (IsPlace name at) c.as_slice.ensures.value c.place_of-at.ensures.place in
    roomy_there name at pages place c.requires.pages c.index.result.now c.index.ensures
    (subst (λ n. n < 128) (c.len.ensures.len ∙ ap length c.deref.ensures) c.if-len-lt-PAGE_PAIRS.true)

pub halves_of-requires : goal.halves_of-requires
halves_of-requires g c =
    let name = c.args.name.now in
    let at = c.place_of-at.result in
    let pages = c.args.pages.now.items in
    let place : IsPlace name at pages = subst (IsPlace name at) c.as_slice.ensures.value c.place_of-at.ensures.place in
    let full : length place.page.names ≡ 128 =
    full_there name at pages place c.requires.pages c.index.result.now c.index.ensures (subst (λ n. 128 ≤ n) (c.len.ensures.len ∙ ap length c.deref.ensures) c.if-len-lt-PAGE_PAIRS.false) in
    record { full = ap (λ page. length page.names) (page_read name at pages place c.requires.pages c.index-2.result.now c.index-2.ensures) ∙ full }

pub returns : goal.returns
returns g c =
    let name = c.args.name.now in
    let at = c.place_of-at.result in
    let pages = c.args.pages.now.items in
    let place : IsPlace name at pages = subst (IsPlace name at) c.as_slice.ensures.value c.place_of-at.ensures.place in
    let full : length place.page.names ≡ 128 =
    full_there name at pages place c.requires.pages c.index.result.now c.index.ensures (subst (λ n. 128 ≤ n) (c.len.ensures.len ∙ ap length c.deref.ensures) c.if-len-lt-PAGE_PAIRS.false) in
    let lower = c.in_ok-halves.halves.lower in
    let upper = c.in_ok-halves.halves.upper in
    let halves = halves_there name at pages place c.requires.pages c.index-2.result.now c.index-2.ensures full lower upper
    c.in_ok-halves.ensures.bound c.in_ok-halves.ensures.least c.in_ok-halves.ensures.pairs c.in_ok-halves.ensures.half in
    let now : c.put_halves.new.pages.items ≡ halved name at pages place c.requires.pages lower upper halves = c.in_ok-put_halves.ensures.ok in
    let here : c.half_place-place.result ≡ cond (is_lt (name_order name upper.bound)) at (at + 1) =
    c.half_place-place.ensures ∙ ap (λ bound. cond (is_lt (name_order name bound)) at (at + 1)) (c.as_slice-2.ensures ∙ c.deref-2.ensures) in
    let roomy : IsRoomyPlace name c.half_place-place.result c.put_halves.new.pages.items =
    subst (IsRoomyPlace name c.half_place-place.result) (sym now)
    (subst (λ n. IsRoomyPlace name n (halved name at pages place c.requires.pages lower upper halves)) (sym here) (halved_place name at pages place c.requires.pages lower upper halves _ refl)) in
    let are : ArePages c.put_halves.new.pages.items = subst ArePages (sym now) (halved_pages name at pages place c.requires.pages lower upper halves) in
    record {
      pages = are;
      pairs = ap pairs_of now ∙ halved_pairs name at pages place c.requires.pages lower upper halves;
      there = place_within name c.half_place-place.result c.put_halves.new.pages.items roomy.place are;
      place = roomy;
    }
