-- The numbers of BYSETPOS in tables.
use Rattle.std.specs.Prelude.{◌≡◌, ℕ, ◌<◌, Bool, false, ◌==◌, List, ℤ, pos, negsuc, slice_index_or}
use Rattle.std.specs.List.{list_any}
use Rattle.cal_model.specs.declared.walk.set_places.SetPlaces.{SetPlaces}
use Rattle.cal_model.specs.Walks.Places.{is_place_within}

-- a number that counts from the front is this one
abbrev pub is_front : ℕ → ℤ → Bool
is_front n (pos k) = k == n
is_front n (negsuc k) = false

-- one that counts from the end leaves so many places behind it
abbrev pub is_back : ℕ → ℤ → Bool
is_back n (pos k) = false
is_back n (negsuc k) = k == n

-- fewer places than so many have none that is named
abbrev pub NeedsPlaces : List ℤ → ℕ → Type 0
NeedsPlaces numbers least = (most : ℕ) → most < least → list_any (is_place_within most) numbers ≡ false

-- the tables of some numbers
pub record AreSetPlaces (numbers : List ℤ) (places : SetPlaces) : Type 0 where
  pub front : (n : ℕ) → slice_index_or places.front n false ≡ list_any (is_front n) numbers
  pub back : (n : ℕ) → slice_index_or places.back n false ≡ list_any (is_back n) numbers
  pub least : NeedsPlaces numbers places.least
