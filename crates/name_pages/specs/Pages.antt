-- The pages of a map, in rising order: each has the pairs whose names are at its bound or above it, and below the bound of the next.
-- Given: the pages. Gives: the pairs of the map, and what holds of its pages.
use Rattle.std.specs.Prelude.{◌≡◌, ℕ, ◌<◌, ◌≤◌, List, [], ◌∷◌, false, Some, flat_map, map, length, slice_get}
use Rattle.std.specs.declared.cmp.Ordering.TheVariants.{Less}
use Rattle.std.specs.Ordering.{is_lt}
use Rattle.std.specs.List.{AllByRecursion}
use Rattle.std.specs.Map.{keys_of}
use Rattle.cal_base.specs.Lists.NameMap.{Named, name_order, IsInOrder}
use Rattle.name_pages.specs.declared.page.Page.{Page}

-- a name is below a bound, or it is the bound or above it
abbrev pub IsBelow : List ℕ → List ℕ → Type 0
IsBelow bound name = name_order name bound ≡ Less

abbrev pub IsFrom : List ℕ → List ℕ → Type 0
IsFrom bound name = is_lt (name_order name bound) ≡ false

module _ {V : Type 0} where
  -- the pairs of all pages, one page after the other
  abbrev pub pairs_of : List (Page V) → Named V
  pairs_of = flat_map (λ (page : Page V). page.names)

  -- at most 128 pairs in the order of their names, none of which is below the bound
  pub record IsPage (page : Page V) : Type 0 where
    pub few : length page.names ≤ 128
    pub in_order : IsInOrder page.names
    pub from : AllByRecursion (IsFrom page.bound) (keys_of page.names)

  -- a page is below a bound, with its own bound and all names
  pub record EndsBelow (bound : List ℕ) (page : Page V) : Type 0 where
    pub bound_below : IsBelow bound page.bound
    pub names_below : AllByRecursion (IsBelow bound) (keys_of page.names)

  -- each page is below the bounds of those behind it
  abbrev pub AreApart : List (Page V) → Type 0
  AreApart [] = Unit {0}
  AreApart (page ∷ pages) = IsPage page × AllByRecursion (λ (later : Page V). EndsBelow later.bound page) pages × AreApart pages

  -- a page has pairs
  abbrev pub IsUsed : Page V → Type 0
  IsUsed page = 0 < length page.names

  -- each page but the first has pairs
  abbrev pub AreUsed : List (Page V) → Type 0
  AreUsed [] = Unit {0}
  AreUsed (page ∷ pages) = AllByRecursion IsUsed pages

  -- the first page is for the least names
  abbrev pub BeginsEmpty : List (Page V) → Type 0
  BeginsEmpty pages = slice_get (map (λ (page : Page V). page.bound) pages) 0 ≡ Some []

  -- the pages of a map
  pub record ArePages (pages : List (Page V)) : Type 0 where
    pub first : BeginsEmpty pages
    pub apart : AreApart pages
    pub used : AreUsed pages
