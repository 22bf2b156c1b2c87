-- The page of a name among the pages of a map.
-- Given: the pages and a name. Gives: which page may have the name.
use Rattle.std.specs.Prelude.{◌≡◌, ℕ, ◌<◌, List, ◌∷◌, ◌++◌, length}
use Rattle.std.specs.List.{AllByRecursion}
use Rattle.name_pages.specs.declared.page.Page.{Page}
use Rattle.name_pages.specs.Pages.{IsBelow, IsFrom, AreApart, IsUsed, AreUsed, BeginsEmpty}

module _ {V : Type 0} where
  -- the page at a place, with those before it and those behind it: its bound is not above the name, and the bounds behind it are
  pub record IsPlace (name : List ℕ) (at : ℕ) (pages : List (Page V)) : Type 0 where
    pub front : List (Page V)
    pub page : Page V
    pub back : List (Page V)
    pub is : pages ≡ front ++ page ∷ back
    pub at_is : length front ≡ at
    pub from : IsFrom page.bound name
    pub before : AllByRecursion (λ (later : Page V). IsBelow later.bound name) back

  -- and it has room for one more name
  pub record IsRoomyPlace (name : List ℕ) (at : ℕ) (pages : List (Page V)) : Type 0 where
    pub place : IsPlace name at pages
    pub room : length place.page.names < 128

  -- the pages of a map, but that the one at a place may have lost its pairs
  pub record AreLeftAt (at : ℕ) (pages : List (Page V)) : Type 0 where
    pub front : List (Page V)
    pub page : Page V
    pub back : List (Page V)
    pub is : pages ≡ front ++ page ∷ back
    pub at_is : length front ≡ at
    pub first : BeginsEmpty (front ++ page ∷ back)
    pub apart : AreApart (front ++ page ∷ back)
    pub used_front : AreUsed front
    pub used_back : AllByRecursion IsUsed back
