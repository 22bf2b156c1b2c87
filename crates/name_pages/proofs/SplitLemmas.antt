-- A full page is split: its halves are pages, apart, and a name that it may have has its page among them.
use Rattle.std.proofs.Common.{◌≡◌, ℕ, refl, sym, ap, subst, ◌∙◌, List, [], ◌∷◌, ◌++◌, ◌+◌, ◌<◌, ◌≤◌, length, take, drop, arith, Bool, true, false, cond, Some}
use Rattle.std.proofs.Math.ListN.{get_or, set}
use Rattle.std.specs.Prelude.{slice_get}
use Rattle.std.specs.Ordering.{is_lt}
use Rattle.std.specs.declared.cmp.Ordering.{Ordering}
use Rattle.std.specs.declared.cmp.Ordering.TheVariants.{Less, Equal, Greater}
use Rattle.std.specs.List.{AllByRecursion}
use Rattle.std.specs.List.Sorted.{IsStrictlySortedBy}
use Rattle.std.specs.Map.{keys_of}
use Rattle.std.proofs.lemmas.List.{append_assoc, append-nil, length-append, take_at, take_more, set_at, length-take-le}
use Rattle.cal_base.specs.Lists.NameMap.{Named, name_order, IsInOrder}
use Rattle.name_pages.specs.declared.page.Page.{Page}
use Rattle.name_pages.specs.Pages.{pairs_of, IsBelow, IsFrom, IsPage, EndsBelow, ArePages}
use Rattle.name_pages.specs.Places.{IsPlace, IsRoomyPlace}
use Rattle.name_pages.proofs.OrderLemmas.{from_above, from_below, from_itself}
use Rattle.name_pages.proofs.NamedLemmas.{all_weaker, all_front, all_back, keys_of-append, in_order-parts, AreBelow}
use Rattle.name_pages.proofs.PageLemmas.{apart-halved, page_is, ends_before, first-with, used-parts, used-with, pairs_of-append}
use Rattle.name_pages.proofs.PlaceLemmas.{apart_there, place_page, behind_page}

module _ {V : Type 0} where
  -- A stretch whose least name is a bound

  abbrev pub BeginsAt : List ℕ → Named V → Type 0
  BeginsAt bound named = slice_get (keys_of named) 0 ≡ Some bound

  from_least : (bound : List ℕ) (named : Named V) → BeginsAt bound named → IsInOrder named → AllByRecursion (IsFrom bound) (keys_of named)
  unfolding IsStrictlySortedBy
  from_least bound [] least order = absurd cc
  from_least bound (pair ∷ named) least order =
      let is : pair.0 ≡ bound = cc in
      subst (λ b. AllByRecursion (IsFrom b) (keys_of (pair ∷ named))) is
      (from_itself pair.0, all_weaker (λ name. name_order pair.0 name ≡ Less) (IsFrom pair.0) (keys_of named) (λ name below. from_above name pair.0 below) order.0)

  at_least : (P : List ℕ → Type 0) (bound : List ℕ) (named : Named V) → BeginsAt bound named → AllByRecursion P (keys_of named) → P bound
  at_least P bound [] least all = absurd cc
  at_least P bound (pair ∷ named) least all = let is : pair.0 ≡ bound = cc in subst P is all.0

  -- what comes before a stretch is below its least name
  below_least : (front back : Named V) (bound : List ℕ) → BeginsAt bound back → AreBelow front back → AllByRecursion (IsBelow bound) (keys_of front)
  below_least front back bound least below =
      all_weaker (λ name. AllByRecursion (λ other. name_order name other ≡ Less) (keys_of back)) (IsBelow bound) (keys_of front)
      (λ name each. at_least (λ other. name_order name other ≡ Less) bound back least each) below

  both_of : (P Q : List ℕ → Type 0) (named : Named V) → 0 < length named → AllByRecursion P (keys_of named) → AllByRecursion Q (keys_of named) → (name : List ℕ) × (P name × Q name)
  both_of P Q [] some one other = absurd (omega arith)
  both_of P Q (pair ∷ named) some one other = (pair.0, (one.0, other.0))

  -- The halves

  -- the upper one is put behind a page, and then the lower one in its place
  pub in_its_place : (pages : List (Page V)) (at : ℕ) (lower upper : Page V) → at < length pages
      → set (take (at + 1) pages ++ upper ∷ drop (at + 1) pages) at lower ≡ take at pages ++ lower ∷ upper ∷ drop (at + 1) pages
  in_its_place pages at lower upper there =
      let page = get_or pages at upper in
      ap (λ (front : List (Page V)). set (front ++ upper ∷ drop (at + 1) pages) at lower) (take_more pages at upper there)
      ∙ (ap (λ (all : List (Page V)). set all at lower) (append_assoc (take at pages) (page ∷ []) (upper ∷ drop (at + 1) pages))
      ∙ set_at (take at pages) page (upper ∷ drop (at + 1) pages) lower at (length-take-le at pages (omega arith)))

  pub record AreHalves (page lower upper : Page V) : Type 0 where
    pub bound : lower.bound ≡ page.bound
    pub least : BeginsAt upper.bound upper.names
    pub pairs : lower.names ++ upper.names ≡ page.names
    pub half : length lower.names ≡ 64
    pub full : length page.names ≡ 128

  -- so many were taken of the pairs, and none is left behind the upper half
  some_taken : (lower rest whole : Named V) → lower ++ rest ≡ whole → length whole ≡ 128 → (length lower < 64 → rest ≡ []) → 0 < length lower
  some_taken [] rest whole is full all = absurd (omega (arith, ap length (all (omega arith)), ap length is, full))
  some_taken (pair ∷ lower) rest whole is full all = omega arith

  pub all_taken : (lower rest upper left whole : Named V) → lower ++ rest ≡ whole → upper ++ left ≡ rest → length whole ≡ 128 → (length lower < 64 → rest ≡ []) → (length upper < 128 → left ≡ []) → lower ++ upper ≡ whole
  all_taken lower rest upper left whole is later full all none =
      let some = some_taken lower rest whole is full all in
      let within : length upper < 128 = omega (arith, length-append lower rest, length-append upper left, ap length is, ap length later, full, some) in
      ap (λ (named : Named V). lower ++ named) (sym (append-nil upper) ∙ (ap (λ (named : Named V). upper ++ named) (sym (none within)) ∙ later)) ∙ is

  module _ (page lower upper : Page V) (are : AreHalves page lower upper) (is : IsPage page) where
    order : IsInOrder (lower.names ++ upper.names)
    order = subst (λ (named : Named V). IsInOrder named) (sym are.pairs) is.in_order

    parts : (P : List ℕ → Type 0) → AllByRecursion P (keys_of page.names) → AllByRecursion P (keys_of lower.names ++ keys_of upper.names)
    parts P all = subst (AllByRecursion P) (ap keys_of (sym are.pairs) ∙ keys_of-append lower.names upper.names) all

    lower_names : (P : List ℕ → Type 0) → AllByRecursion P (keys_of page.names) → AllByRecursion P (keys_of lower.names)
    lower_names P all = all_front P (keys_of lower.names) (keys_of upper.names) (parts P all)

    upper_names : (P : List ℕ → Type 0) → AllByRecursion P (keys_of page.names) → AllByRecursion P (keys_of upper.names)
    upper_names P all = all_back P (keys_of lower.names) (keys_of upper.names) (parts P all)

    pub upper_length : length upper.names ≡ 64
    upper_length = omega (arith, length-append lower.names upper.names, ap length are.pairs, are.half, are.full)

    lower_is : IsPage lower
    lower_is = record {
      few = omega (arith, are.half);
      in_order = (in_order-parts lower.names upper.names order).0;
      from = subst (λ (b : List ℕ). AllByRecursion (IsFrom b) (keys_of lower.names)) (sym are.bound) (lower_names (IsFrom page.bound) is.from);
    }

    upper_is : IsPage upper
    upper_is = record {
      few = omega (arith, upper_length);
      in_order = (in_order-parts lower.names upper.names order).1;
      from = from_least upper.bound upper.names are.least (in_order-parts lower.names upper.names order).1;
    }

    lower_below : AllByRecursion (IsBelow upper.bound) (keys_of lower.names)
    lower_below = below_least lower.names upper.names upper.bound are.least (in_order-parts lower.names upper.names order).2

    bounds_apart : IsBelow upper.bound page.bound
    bounds_apart =
        let some : 0 < length lower.names = omega (arith, are.half) in
        let one = both_of (IsFrom page.bound) (IsBelow upper.bound) lower.names some (lower_names (IsFrom page.bound) is.from) lower_below in
        from_below page.bound one.0 upper.bound one.1.0 one.1.1

    lower_ends : EndsBelow upper.bound lower
    lower_ends = record { bound_below = subst (IsBelow upper.bound) (sym are.bound) bounds_apart; names_below = lower_below }

    lower_ends_too : (bound : List ℕ) → EndsBelow bound page → EndsBelow bound lower
    lower_ends_too bound ends = record { bound_below = subst (IsBelow bound) (sym are.bound) ends.bound_below; names_below = lower_names (IsBelow bound) ends.names_below }

    upper_ends : (bound : List ℕ) → EndsBelow bound page → EndsBelow bound upper
    upper_ends bound ends = record {
      bound_below = at_least (IsBelow bound) upper.bound upper.names are.least (upper_names (IsBelow bound) ends.names_below);
      names_below = upper_names (IsBelow bound) ends.names_below;
    }

    pub pages_halved : (front back : List (Page V)) → ArePages (front ++ page ∷ back) → ArePages (front ++ lower ∷ upper ∷ back)
    pages_halved front back all = record {
      first = first-with front page lower back (upper ∷ back) are.bound all.first;
      apart = apart-halved front page back all.apart lower upper lower_is upper_is are.bound bounds_apart lower_ends
          (all_weaker (λ (later : Page V). EndsBelow later.bound page) (λ (later : Page V). EndsBelow later.bound lower) back (λ later ends. lower_ends_too later.bound ends) (ends_before front page back all.apart))
          (all_weaker (λ (later : Page V). EndsBelow later.bound page) (λ (later : Page V). EndsBelow later.bound upper) back (λ later ends. upper_ends later.bound ends) (ends_before front page back all.apart));
      used =
          let used = used-parts front page back all.used in
          used-with front lower (upper ∷ back) (omega (arith, are.half)) used.0 (omega (arith, upper_length), used.1);
    }

    pub pairs_halved : (front back : List (Page V)) → pairs_of (front ++ lower ∷ upper ∷ back) ≡ pairs_of (front ++ page ∷ back)
    pairs_halved front back =
        pairs_of-append front (lower ∷ upper ∷ back)
        ∙ (ap (λ named. pairs_of front ++ named) (sym (append_assoc lower.names upper.names (pairs_of back)) ∙ ap (λ named. named ++ pairs_of back) are.pairs)
        ∙ sym (pairs_of-append front (page ∷ back)))

  -- The page of a name behind a split

  -- the page that was read at its place
  module _ (name : List ℕ) (at : ℕ) (pages : List (Page V)) (place : IsPlace name at pages) (all : ArePages pages) (page : Page V) (read : page ≡ get_or pages at page) where
    pub page_read : page ≡ place.page
    page_read = read ∙ place_page name at pages place all page

    pub roomy_there : length page.names < 128 → IsRoomyPlace name at pages
    roomy_there room = record { place = place; room = subst (λ (one : Page V). length one.names < 128) page_read room }

    pub full_there : 128 ≤ length page.names → length place.page.names ≡ 128
    full_there full =
        let few = (page_is place.front place.page place.back (apart_there name at pages place all)).few in
        let same : length page.names ≡ length place.page.names = ap (λ (one : Page V). length one.names) page_read in
        omega arith

    pub halves_there : length place.page.names ≡ 128 → (lower upper : Page V) → lower.bound ≡ page.bound → BeginsAt upper.bound upper.names → lower.names ++ upper.names ≡ page.names → length lower.names ≡ 64
        → AreHalves place.page lower upper
    halves_there full lower upper bound least pairs half = record {
      bound = bound ∙ ap (λ (one : Page V). one.bound) page_read;
      least = least;
      pairs = pairs ∙ ap (λ (one : Page V). one.names) page_read;
      half = half;
      full = full;
    }

  module _ (name : List ℕ) (at : ℕ) (pages : List (Page V)) (place : IsPlace name at pages) (all : ArePages pages) (lower upper : Page V) (are : AreHalves place.page lower upper) where
    is_there : IsPage place.page
    is_there = page_is place.front place.page place.back (apart_there name at pages place all)

    -- the pages with the halves
    abbrev pub halved : List (Page V)
    halved = take at pages ++ lower ∷ upper ∷ drop (at + 1) pages

    halved_is : halved ≡ place.front ++ lower ∷ upper ∷ place.back
    halved_is =
        ap (λ (ps : List (Page V)). take at ps ++ lower ∷ upper ∷ drop (at + 1) ps) place.is
        ∙ (ap (λ (ps : List (Page V)). ps ++ lower ∷ upper ∷ drop (at + 1) (place.front ++ place.page ∷ place.back)) (take_at place.front (place.page ∷ place.back) at place.at_is)
        ∙ ap (λ (ps : List (Page V)). place.front ++ lower ∷ upper ∷ ps)
        (behind_page place.front place.page place.back at place.at_is))

    pub halved_pages : ArePages halved
    halved_pages = subst ArePages (sym halved_is) (pages_halved place.page lower upper are is_there place.front place.back (subst ArePages place.is all))

    pub halved_pairs : pairs_of halved ≡ pairs_of pages
    halved_pairs = ap pairs_of halved_is ∙ (pairs_halved place.page lower upper are is_there place.front place.back ∙ sym (ap pairs_of place.is))

    pub halved_place : (is_lower : Bool) → is_lower ≡ is_lt (name_order name upper.bound) → IsRoomyPlace name (cond is_lower at (at + 1)) halved
    halved_place true is = record {
      place = record {
        front = place.front;
        page = lower;
        back = upper ∷ place.back;
        is = halved_is;
        at_is = place.at_is;
        from = subst (λ (b : List ℕ). IsFrom b name) (sym are.bound) place.from;
        before = (below (name_order name upper.bound) (sym is), place.before);
      };
      room = omega (arith, are.half);
    } where
      below : (order : Ordering) → is_lt order ≡ true → order ≡ Less
      below Less e = refl
      below Equal e = absurd cc
      below Greater e = absurd cc
    halved_place false is = record {
      place = record {
        front = place.front ++ lower ∷ [];
        page = upper;
        back = place.back;
        is = halved_is ∙ sym (append_assoc place.front (lower ∷ []) (upper ∷ place.back));
        at_is = length-append place.front (lower ∷ []) ∙ ap (λ n. n + 1) place.at_is;
        from = sym is;
        before = place.before;
      };
      room = omega (arith, upper_length place.page lower upper are is_there);
    }
