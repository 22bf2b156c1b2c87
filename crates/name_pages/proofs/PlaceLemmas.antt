-- The page of a name: it is found by its bound, and the name is looked up, put and taken out in it alone.
use Rattle.std.proofs.Common.{◌≡◌, ℕ, refl, sym, ap, subst, ◌∙◌, List, [], ◌∷◌, ◌++◌, ◌+◌, ◌-◌, ◌<◌, ◌≤◌, ◌⊎◌, zero, suc, length, take, drop, map, arith, Bool, true, false, not, inl, inr}
use Rattle.std.proofs.Math.ListN.{get_or, set}
use Rattle.std.specs.Ordering.{is_lt}
use Rattle.std.specs.declared.cmp.Ordering.{Ordering}
use Rattle.std.specs.declared.cmp.Ordering.TheVariants.{Less, Equal, Greater}
use Rattle.std.specs.List.{AllByRecursion}
use Rattle.std.specs.List.Sorted.{IsStrictlySortedBy, IsPartitionedBy, IsPartitionPoint}
use Rattle.std.specs.Map.{keys_of}
use Rattle.std.proofs.lemmas.List.{append_assoc, length-append, length-map, length-take-le, length-drop, get_or_at, get_or-drop, get_or-map, set_at, take_at, drop_at, drop_more, take-append-drop}
use Rattle.std.proofs.lemmas.List.Elements.{recursion_from_All}
use Rattle.std.proofs.lemmas.Map.Keys.{Less-from_sorted}
use Rattle.cal_base.specs.Lists.NameMap.{Named, name_order, IsInOrder, value_at, with_value, without, next_above}
use Rattle.name_pages.specs.declared.page.Page.{Page}
use Rattle.name_pages.specs.Pages.{pairs_of, IsBelow, IsFrom, EndsBelow, AreApart, IsUsed, AreUsed, BeginsEmpty, ArePages}
use Rattle.name_pages.specs.Places.{IsPlace, AreLeftAt}
use Rattle.name_pages.proofs.OrderLemmas.{from_above, below_from, from_empty}
use Rattle.name_pages.proofs.NamedLemmas.{all_weaker, all_two, IsBehind, IsBefore, value_at-page, with_value-page, without-page, next_above-behind}
use Rattle.name_pages.proofs.PageLemmas.{apart-parts, apart-with, apart-without, page_is, ends_before, first-with, first-without, used-parts, used-with, used-without, used-first, pairs_of-append, pairs_behind, pairs_before}

module _ {V : Type 0} where
  abbrev bound_of : Page V → List ℕ
  bound_of page = page.bound

  -- what stands behind the page at a place
  pub behind_page : (front : List (Page V)) (page : Page V) (back : List (Page V)) (at : ℕ) → length front ≡ at → drop (at + 1) (front ++ page ∷ back) ≡ back
  behind_page front page back at is =
      ap (drop (at + 1)) (sym (append_assoc front (page ∷ []) back)) ∙ drop_at (front ++ page ∷ []) back (at + 1) (length-append front (page ∷ []) ∙ ap (λ n. n + 1) is)

  -- Which page it is

  bounds_rise : (pages : List (Page V)) → AreApart pages → IsStrictlySortedBy name_order (map bound_of pages)
  unfolding IsStrictlySortedBy
  bounds_rise [] apart = tt
  bounds_rise (page ∷ pages) apart = (each pages apart.1, bounds_rise pages apart.2) where
    each : (later : List (Page V)) → AllByRecursion (λ (other : Page V). EndsBelow other.bound page) later → AllByRecursion (λ bound. name_order page.bound bound ≡ Less) (map bound_of later)
    each [] all = tt
    each (other ∷ later) all = (all.0.bound_below, each later all.1)

  -- whether the bound of a page is not above a name
  abbrev pub begins : List ℕ → Page V → Bool
  begins name page = not (is_lt (name_order name page.bound))

  begins_from : (name : List ℕ) (page : Page V) → begins name page ≡ true → IsFrom page.bound name
  begins_from name page = by (is_lt (name_order name page.bound)) where
    by : (b : Bool) → not b ≡ true → b ≡ false
    by true e = absurd cc
    by false e = refl

  begins_at : (name : List ℕ) (page : Page V) → IsFrom page.bound name → begins name page ≡ true
  begins_at name page from = ap not from

  begins_above : (name : List ℕ) (page : Page V) → begins name page ≡ false → IsBelow page.bound name
  begins_above name page = by (name_order name page.bound) where
    by : (order : Ordering) → not (is_lt order) ≡ false → order ≡ Less
    by Less e = refl
    by Equal e = absurd cc
    by Greater e = absurd cc

  pub parted : (name : List ℕ) (pages : List (Page V)) → AreApart pages → IsPartitionedBy (begins name) pages
  parted name pages apart i j d upto below begun = by (split i j upto) where
    split : (m n : ℕ) → m ≤ n → (m ≡ n) ⊎ (m < n)
    split m n within = grind arith

    by : (i ≡ j) ⊎ (i < j) → begins name (get_or pages i d) ≡ true
    by (inl same) = subst (λ k. begins name (get_or pages k d) ≡ true) (sym same) begun
    by (inr less) =
        let first : i < length pages = omega arith in
        let rise : name_order (get_or (map bound_of pages) i d.bound) (get_or (map bound_of pages) j d.bound) ≡ Less =
        Less-from_sorted name_order (map bound_of pages) i j d.bound (bounds_rise pages apart) less (rw length-map below) in
        let below_other : IsBelow (get_or pages j d).bound (get_or pages i d).bound =
        sym (ap (λ (b : List ℕ). name_order b (get_or pages j d).bound) (get_or-map bound_of pages i d d.bound first))
        ∙ (ap (name_order (get_or (map bound_of pages) i d.bound)) (sym (get_or-map bound_of pages j d d.bound below)) ∙ rise) in
        begins_at name (get_or pages i d) (from_above name (get_or pages i d).bound (below_from (get_or pages i d).bound (get_or pages j d).bound name below_other (begins_from name (get_or pages j d) begun)))

  -- the first page begins at each name
  pub first_begins : (name : List ℕ) (pages : List (Page V)) (point : ℕ) → ArePages pages → IsPartitionPoint (λ page. begins name page ≡ true) (λ page. begins name page ≡ false) pages point → 1 ≤ point
  first_begins name [] point are is = absurd cc
  first_begins name (page ∷ pages) zero are is =
      let here : page.bound ≡ [] = cc in
      let no : begins name page ≡ false = is.1 0 page (omega arith) (omega arith) in
      let yes : begins name page ≡ true = begins_at name page (subst (λ (b : List ℕ). IsFrom b name) (sym here) (from_empty name)) in
      absurd cc
  first_begins name (page ∷ pages) (suc point) are is = omega arith

  pub place_found : (name : List ℕ) (pages : List (Page V)) (point : ℕ) → ArePages pages → IsPartitionPoint (λ page. begins name page ≡ true) (λ page. begins name page ≡ false) pages point
      → point ≤ length pages → 1 ≤ point → IsPlace name (point - 1) pages
  place_found name [] point are is within some = absurd (omega arith)
  place_found name (page ∷ pages) point are is within some =
      let all = page ∷ pages in
      let at = point - 1 in
      let there : at < length all = omega arith in
      record {
        front = take at all;
        page = get_or all at page;
        back = drop (at + 1) all;
        is = sym (ap (λ rest. take at all ++ rest) (sym (drop_more all at page there)) ∙ take-append-drop at all);
        at_is = length-take-le at all (omega arith);
        from = begins_from name (get_or all at page) (is.0 at page (omega arith) (omega arith));
        before =
            recursion_from_All (λ (later : Page V). IsBelow later.bound name) (drop (at + 1) all)
            (λ k d below.
            let bound : at + 1 + k < length all = omega (arith, length-drop (at + 1) all) in
            subst (λ (later : Page V). IsBelow later.bound name) (sym (get_or-drop (at + 1) all k d))
            (begins_above name (get_or all (at + 1 + k) d) (is.1 (at + 1 + k) d (omega arith) bound)));
      }

  -- the least name above, from the page at a place on
  pub next_at : (name : List ℕ) (pages : List (Page V)) (at : ℕ) (page : Page V) → at < length pages → page ≡ get_or pages at page
      → next_above (pairs_of (drop at pages)) name ≡ next_above (page.names ++ pairs_of (drop (at + 1) pages)) name
  next_at name pages at page there is =
      ap (λ (all : List (Page V)). next_above (pairs_of all) name) (drop_more pages at page there ∙ ap (λ (one : Page V). one ∷ drop (at + 1) pages) (sym is))

  -- In its page alone

  module _ (name : List ℕ) (at : ℕ) (pages : List (Page V)) (place : IsPlace name at pages) (are : ArePages pages) where
    pub apart_there : AreApart (place.front ++ place.page ∷ place.back)
    apart_there = subst AreApart place.is are.apart

    pub place_page : (d : Page V) → get_or pages at d ≡ place.page
    place_page d = ap (λ (all : List (Page V)). get_or all at d) place.is ∙ get_or_at place.front place.page place.back d at place.at_is

    pub place_within : at < length pages
    place_within = omega (arith, ap length place.is, length-append place.front (place.page ∷ place.back), place.at_is)

    pub set_there : (new : Page V) → set pages at new ≡ place.front ++ new ∷ place.back
    set_there new = ap (λ (all : List (Page V)). set all at new) place.is ∙ set_at place.front place.page place.back new at place.at_is

    pub pairs_there : pairs_of pages ≡ pairs_of place.front ++ (place.page.names ++ pairs_of place.back)
    pairs_there = ap pairs_of place.is ∙ pairs_of-append place.front (place.page ∷ place.back)

    pub pairs_with : (new : Page V) → pairs_of (set pages at new) ≡ pairs_of place.front ++ (new.names ++ pairs_of place.back)
    pairs_with new = ap pairs_of (set_there new) ∙ pairs_of-append place.front (new ∷ place.back)

    pub front_behind : IsBehind name (pairs_of place.front)
    front_behind =
        pairs_behind name place.page.bound place.front place.from
        (all_weaker (λ (one : Page V). AllByRecursion (λ (later : Page V). EndsBelow later.bound one) (place.page ∷ place.back)) (EndsBelow place.page.bound) place.front (λ one each. each.0)
        (apart-parts place.front (place.page ∷ place.back) apart_there).2)

    back_before : IsBefore name (pairs_of place.back)
    back_before = pairs_before name place.back (apart-parts place.front (place.page ∷ place.back) apart_there).1.2 place.before

    pub value_at-place : value_at (pairs_of pages) name ≡ value_at place.page.names name
    value_at-place = ap (λ named. value_at named name) pairs_there ∙ value_at-page name (pairs_of place.front) place.page.names (pairs_of place.back) front_behind back_before

    pub next_above-place : next_above (pairs_of pages) name ≡ next_above (pairs_of (drop at pages)) name
    next_above-place =
        ap (λ named. next_above named name) pairs_there
        ∙ (next_above-behind name (pairs_of place.front) (pairs_of (place.page ∷ place.back)) front_behind
        ∙ ap (λ (all : List (Page V)). next_above (pairs_of all) name) (sym (ap (drop at) place.is ∙ drop_at place.front (place.page ∷ place.back) at place.at_is)))

    pub with_value-place : (value : V) (new : Page V) → new.names ≡ with_value place.page.names name value → pairs_of (set pages at new) ≡ with_value (pairs_of pages) name value
    with_value-place value new is =
        pairs_with new
        ∙ (ap (λ named. pairs_of place.front ++ (named ++ pairs_of place.back)) is
        ∙ sym (ap (λ named. with_value named name value) pairs_there
        ∙ with_value-page name (pairs_of place.front) place.page.names (pairs_of place.back) value front_behind back_before))

    pub without-place : (new : Page V) → new.names ≡ without place.page.names name → pairs_of (set pages at new) ≡ without (pairs_of pages) name
    without-place new is =
        pairs_with new
        ∙ (ap (λ named. pairs_of place.front ++ (named ++ pairs_of place.back)) is
        ∙ sym (ap (λ named. without named name) pairs_there
        ∙ without-page name (pairs_of place.front) place.page.names (pairs_of place.back) front_behind back_before))

    -- the pages with another one of its bound in its place, whose names are the name and some that it had
    pub left_with : (new : Page V) → new.bound ≡ place.page.bound → length new.names ≤ 128 → IsInOrder new.names
        → ((P : List ℕ → Type 0) → P name → AllByRecursion P (keys_of place.page.names) → AllByRecursion P (keys_of new.names)) → AreLeftAt at (set pages at new)
    left_with new bound_is few in_order names =
        let had = page_is place.front place.page place.back apart_there in
        let used = used-parts place.front place.page place.back (subst AreUsed place.is are.used) in
        record {
          front = place.front;
          page = new;
          back = place.back;
          is = set_there new;
          at_is = place.at_is;
          first = first-with place.front place.page new place.back place.back bound_is (subst BeginsEmpty place.is are.first);
          apart = apart-with place.front place.page place.back apart_there new
              (record {
                few = few;
                in_order = in_order;
                from = subst (λ (b : List ℕ). AllByRecursion (IsFrom b) (keys_of new.names)) (sym bound_is) (names (IsFrom place.page.bound) place.from had.from);
              })
              bound_is
              (all_weaker (λ (later : Page V). IsBelow later.bound name × EndsBelow later.bound place.page) (λ (later : Page V). EndsBelow later.bound new) place.back
              (λ later each. record {
                bound_below = subst (λ (b : List ℕ). IsBelow later.bound b) (sym bound_is) each.1.bound_below;
                names_below = names (IsBelow later.bound) each.0 each.1.names_below;
              })
              (all_two (λ (later : Page V). IsBelow later.bound name) (λ (later : Page V). EndsBelow later.bound place.page) place.back place.before
              (ends_before place.front place.page place.back apart_there)));
          used_front = used.0;
          used_back = used.1;
        }

    -- all of them as they are
    pub left_same : AreLeftAt at pages
    left_same =
        let used = used-parts place.front place.page place.back (subst AreUsed place.is are.used) in
        record {
          front = place.front;
          page = place.page;
          back = place.back;
          is = place.is;
          at_is = place.at_is;
          first = subst BeginsEmpty place.is are.first;
          apart = apart_there;
          used_front = used.0;
          used_back = used.1;
        }

  -- Where the page at a place may have lost its pairs

  module _ (at : ℕ) (pages : List (Page V)) (left : AreLeftAt at pages) where
    pub left_page : (d : Page V) → get_or pages at d ≡ left.page
    left_page d = ap (λ (all : List (Page V)). get_or all at d) left.is ∙ get_or_at left.front left.page left.back d at left.at_is

    pub used_pages : IsUsed left.page → ArePages pages
    used_pages here = subst ArePages (sym left.is) (record { first = left.first; apart = left.apart; used = used-with left.front left.page left.back here left.used_front left.used_back })

    pub first_pages : at ≡ 0 → ArePages pages
    first_pages none = subst ArePages (sym left.is) (record { first = left.first; apart = left.apart; used = used-first left.front left.page left.back (left.at_is ∙ none) left.used_back })

    -- without it
    dropped_is : take at pages ++ drop (at + 1) pages ≡ left.front ++ left.back
    dropped_is = (λ i. take at (left.is i) ++ drop (at + 1) (left.is i))
        ∙ (λ i. take_at left.front (left.page ∷ left.back) at left.at_is i ++ behind_page left.front left.page left.back at left.at_is i)

    pub dropped_pages : 0 < at → ArePages (take at pages ++ drop (at + 1) pages)
    dropped_pages behind =
        let some : 0 < length left.front = omega (arith, left.at_is) in
        subst ArePages (sym dropped_is) (record {
          first = first-without left.front left.page left.back some left.first;
          apart = apart-without left.front left.page left.back left.apart;
          used = used-without left.front left.back some left.used_front left.used_back;
        })

    pub dropped_pairs : length left.page.names ≡ 0 → pairs_of (take at pages ++ drop (at + 1) pages) ≡ pairs_of pages
    dropped_pairs none =
        ap pairs_of dropped_is
        ∙ (pairs_of-append left.front left.back
        ∙ (ap (λ named. pairs_of left.front ++ (named ++ pairs_of left.back)) (sym (nothing left.page.names none))
        ∙ (sym (pairs_of-append left.front (left.page ∷ left.back)) ∙ sym (ap pairs_of left.is)))) where
          nothing : (named : Named V) → length named ≡ 0 → named ≡ []
          nothing [] e = refl
          nothing (pair ∷ named) e = absurd (omega arith)
