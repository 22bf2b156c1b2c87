-- Pages that are apart: a stretch of them is, and stays so where a page is changed, split or dropped.
use Rattle.std.proofs.Common.{◌≡◌, ℕ, refl, sym, ap, subst, ◌∙◌, List, [], ◌∷◌, ◌++◌, ◌<◌, length, arith, Some}
use Rattle.std.specs.declared.cmp.Ordering.TheVariants.{Less, Greater}
use Rattle.std.specs.List.{AllByRecursion}
use Rattle.std.specs.Map.{keys_of}
use Rattle.std.proofs.lemmas.List.{append_assoc}
use Rattle.std.proofs.lemmas.Cmp.{nat_list_cmp_total}
use Rattle.cal_base.specs.Lists.NameMap.{Named, name_order, IsInOrder}
use Rattle.name_pages.specs.declared.page.Page.{Page}
use Rattle.name_pages.specs.Pages.{pairs_of, IsBelow, IsFrom, IsPage, EndsBelow, AreApart, IsUsed, AreUsed, BeginsEmpty, ArePages}
use Rattle.name_pages.proofs.OrderLemmas.{above_is, below_from}
use Rattle.name_pages.proofs.NamedLemmas.{all_weaker, all_both, all_front, all_back, all_turned, keys_of-append, in_order-nil, in_order-joined, IsBehind, IsBefore}

module _ {V : Type 0} where
  abbrev Ends : Page V → Page V → Type 0
  Ends page later = EndsBelow later.bound page

  -- all of some pages is below the bounds of others
  abbrev pub AreBefore : List (Page V) → List (Page V) → Type 0
  AreBefore front back = AllByRecursion (λ page. AllByRecursion (Ends page) back) front

  pub apart-parts : (front back : List (Page V)) → AreApart (front ++ back) → AreApart front × AreApart back × AreBefore front back
  apart-parts [] back apart = (tt, apart, tt)
  apart-parts (page ∷ front) back apart =
      let rest = apart-parts front back apart.2 in
      ((apart.0, all_front (Ends page) front back apart.1, rest.0), rest.1, (all_back (Ends page) front back apart.1, rest.2))

  pub apart-joined : (front back : List (Page V)) → AreApart front → AreApart back → AreBefore front back → AreApart (front ++ back)
  apart-joined [] back one other before = other
  apart-joined (page ∷ front) back one other before =
      (one.0, all_both (Ends page) front back one.1 before.0, apart-joined front back one.2 other before.1)

  -- what is below a bound is below what is above that
  pub ends_below-above : (bound other : List ℕ) (page : Page V) → IsBelow other bound → EndsBelow bound page → EndsBelow other page
  ends_below-above bound other page below ends = record {
    bound_below = nat_list_cmp_total.trans page.bound bound other ends.bound_below below;
    names_below = all_weaker (IsBelow bound) (IsBelow other) (keys_of page.names) (λ name here. nat_list_cmp_total.trans name bound other here below) ends.names_below;
  }

  -- One page among others

  module _ (front : List (Page V)) (page : Page V) (back : List (Page V)) (apart : AreApart (front ++ page ∷ back)) where
    pub page_is : IsPage page
    page_is = (apart-parts front (page ∷ back) apart).1.0

    pub ends_before : AllByRecursion (Ends page) back
    ends_before = (apart-parts front (page ∷ back) apart).1.1

    back_apart : AreApart back
    back_apart = (apart-parts front (page ∷ back) apart).1.2

    before : AreBefore front (page ∷ back)
    before = (apart-parts front (page ∷ back) apart).2

    -- another page of its bound in its place
    before_with : (bound : List ℕ) → bound ≡ page.bound → AllByRecursion (λ (one : Page V). EndsBelow bound one × AllByRecursion (Ends one) back) front
    before_with bound is = subst (λ (b : List ℕ). AllByRecursion (λ (one : Page V). EndsBelow b one × AllByRecursion (Ends one) back) front) (sym is) before

    pub apart-with : (new : Page V) → IsPage new → new.bound ≡ page.bound → AllByRecursion (Ends new) back → AreApart (front ++ new ∷ back)
    apart-with new new_is is ends =
        apart-joined front (new ∷ back) (apart-parts front (page ∷ back) apart).0 (new_is, ends, back_apart) (before_with new.bound is)

    -- its halves in its place
    pub apart-halved : (lower upper : Page V) → IsPage lower → IsPage upper → lower.bound ≡ page.bound → IsBelow upper.bound page.bound → EndsBelow upper.bound lower
        → AllByRecursion (Ends lower) back → AllByRecursion (Ends upper) back → AreApart (front ++ lower ∷ upper ∷ back)
    apart-halved lower upper lower_is upper_is is above ends lower_ends upper_ends =
        apart-joined front (lower ∷ upper ∷ back) (apart-parts front (page ∷ back) apart).0 (lower_is, (ends, lower_ends), (upper_is, upper_ends, back_apart))
        (all_weaker (λ (one : Page V). EndsBelow lower.bound one × AllByRecursion (Ends one) back) (λ (one : Page V). AllByRecursion (Ends one) (lower ∷ upper ∷ back)) front
        (λ one each. (each.0, (ends_below-above lower.bound upper.bound one (subst (IsBelow upper.bound) (sym is) above) each.0, each.1))) (before_with lower.bound is))

    -- no page in its place
    pub apart-without : AreApart (front ++ back)
    apart-without =
        apart-joined front back (apart-parts front (page ∷ back) apart).0 back_apart
        (all_weaker (λ (one : Page V). AllByRecursion (Ends one) (page ∷ back)) (λ (one : Page V). AllByRecursion (Ends one) back) front (λ one each. each.1) before)

  -- The first page

  pub first-with : (front : List (Page V)) (page new : Page V) (back rest : List (Page V)) → new.bound ≡ page.bound → BeginsEmpty (front ++ page ∷ back) → BeginsEmpty (front ++ new ∷ rest)
  first-with [] page new back rest is first = ap (λ (b : List ℕ). Some b) is ∙ first
  first-with (one ∷ front) page new back rest is first = first

  pub first-without : (front : List (Page V)) (page : Page V) (back : List (Page V)) → 0 < length front → BeginsEmpty (front ++ page ∷ back) → BeginsEmpty (front ++ back)
  first-without [] page back there first = absurd (omega arith)
  first-without (one ∷ front) page back there first = first

  -- The pages that have pairs

  pub used-parts : (front : List (Page V)) (page : Page V) (back : List (Page V)) → AreUsed (front ++ page ∷ back) → AreUsed front × AllByRecursion IsUsed back
  used-parts [] page back used = (tt, used)
  used-parts (one ∷ front) page back used = (all_front IsUsed front (page ∷ back) used, (all_back IsUsed front (page ∷ back) used).1)

  pub used-with : (front : List (Page V)) (new : Page V) (back : List (Page V)) → IsUsed new → AreUsed front → AllByRecursion IsUsed back → AreUsed (front ++ new ∷ back)
  used-with [] new back here one other = other
  used-with (page ∷ front) new back here one other = all_both IsUsed front (new ∷ back) one (here, other)

  pub used-without : (front back : List (Page V)) → 0 < length front → AreUsed front → AllByRecursion IsUsed back → AreUsed (front ++ back)
  used-without [] back some one other = absurd (omega arith)
  used-without (page ∷ front) back some one other = all_both IsUsed front back one other

  pub used-first : (front : List (Page V)) (page : Page V) (back : List (Page V)) → length front ≡ 0 → AllByRecursion IsUsed back → AreUsed (front ++ page ∷ back)
  used-first [] page back none other = other
  used-first (one ∷ front) page back none other = absurd (omega arith)

  -- The pairs

  pub pairs_of-append : (pages others : List (Page V)) → pairs_of (pages ++ others) ≡ pairs_of pages ++ pairs_of others
  pairs_of-append [] others = refl
  pairs_of-append (page ∷ pages) others = ap (λ named. page.names ++ named) (pairs_of-append pages others) ∙ sym (append_assoc page.names (pairs_of pages) (pairs_of others))

  -- what holds of the names of each page holds of all names
  pub all_pairs : (P : List ℕ → Type 0) (pages : List (Page V)) → AllByRecursion (λ (page : Page V). AllByRecursion P (keys_of page.names)) pages → AllByRecursion P (keys_of (pairs_of pages))
  all_pairs P [] all = tt
  all_pairs P (page ∷ pages) all =
      subst (AllByRecursion P) (sym (keys_of-append page.names (pairs_of pages))) (all_both P (keys_of page.names) (keys_of (pairs_of pages)) all.0 (all_pairs P pages all.1))

  -- a name from a bound on is above all names of pages that end below the bound
  pub pairs_behind : (name bound : List ℕ) (front : List (Page V)) → IsFrom bound name → AllByRecursion (EndsBelow bound) front → IsBehind name (pairs_of front)
  pairs_behind name bound front from all =
      all_pairs (λ other. name_order name other ≡ Greater) front
      (all_weaker (EndsBelow bound) (λ (page : Page V). AllByRecursion (λ other. name_order name other ≡ Greater) (keys_of page.names)) front
      (λ page ends. all_weaker (IsBelow bound) (λ other. name_order name other ≡ Greater) (keys_of page.names) (λ other below. above_is other name (below_from other bound name below from)) ends.names_below) all)

  -- a name below the bounds of pages is below all their names
  pub pairs_before : (name : List ℕ) (back : List (Page V)) → AreApart back → AllByRecursion (λ (later : Page V). IsBelow later.bound name) back → IsBefore name (pairs_of back)
  pairs_before name back apart below = all_pairs (λ other. name_order name other ≡ Less) back (each back apart below) where
    each : (pages : List (Page V)) → AreApart pages → AllByRecursion (λ (later : Page V). IsBelow later.bound name) pages
        → AllByRecursion (λ (page : Page V). AllByRecursion (λ other. name_order name other ≡ Less) (keys_of page.names)) pages
    each [] all under = tt
    each (page ∷ pages) all under =
        (all_weaker (IsFrom page.bound) (λ other. name_order name other ≡ Less) (keys_of page.names) (λ other from. below_from name page.bound other under.0 from) all.0.from, each pages all.2 under.1)

  -- the names of all pages stand in order
  pub pairs_in_order : (pages : List (Page V)) → AreApart pages → IsInOrder (pairs_of pages)
  pairs_in_order [] apart = in_order-nil V
  pairs_in_order (page ∷ pages) apart =
      in_order-joined page.names (pairs_of pages) apart.0.in_order (pairs_in_order pages apart.2)
      (all_weaker (λ name. AllByRecursion (λ (later : Page V). IsBelow later.bound name) pages) (λ name. IsBefore name (pairs_of pages)) (keys_of page.names)
      (λ name below. pairs_before name pages apart.2 below)
      (all_turned (λ name (later : Page V). IsBelow later.bound name) (keys_of page.names) pages
      (all_weaker (Ends page) (λ (later : Page V). AllByRecursion (λ name. IsBelow later.bound name) (keys_of page.names)) pages (λ later ends. ends.names_below) apart.1)))

  -- a map without names has one page
  pub first_page : (pages : List (Page V)) (bound : List ℕ) (names : Named V) → pages ≡ record { bound = bound; names = names } ∷ [] → bound ≡ [] → names ≡ [] → ArePages pages
  first_page pages bound names is bound_is names_is =
      subst ArePages (sym (is ∙ (λ i. record { bound = bound_is i; names = names_is i } ∷ [])))
      (record { first = refl; apart = (record { few = omega arith; in_order = in_order-nil V; from = tt }, tt, tt); used = tt })
