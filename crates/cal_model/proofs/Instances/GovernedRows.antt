-- What holds of the rows of a start: of the master's, and of a row that an override moves there.
use Rattle.std.proofs.Common.{◌≡◌, List, [], ◌∷◌, refl, arith, Bool, true, false, ℤ, ◌<ℤ◌, inl, inr, zero, suc, ℕ}
use Rattle.std.specs.Prelude.{All, Contains, filter, int_le, int_lt}
use Rattle.std.proofs.lemmas.Int.{ints}
use Rattle.std.proofs.lemmas.Bool.{cases_Bool}
use Rattle.std.proofs.lemmas.List.Elements.{All-weaker, All-filter, All-contains, All-contains_itself, filter_passes}
use Rattle.cal_moment.specs.declared.stamp.Stamp.{Stamp}
use Rattle.cal_model.specs.declared.object.Object.{Object}
use Rattle.cal_model.specs.declared.row.Row.{Row}
use Rattle.cal_model.specs.Instances.Alignment.{reading_of, kind_of}
use Rattle.cal_model.specs.Instances.Starts.{end_from}
use Rattle.cal_model.specs.Instances.Rows.{Numbered, overrides, is_named, row_of, Governor, governors_by, moves_later, governors, greatest_id, moved_digits, are_served, moved_row, master_rows, governed_row, row_at}
use Rattle.cal_model.proofs.Words.AllLemmas.{All-flat_map}
use Rattle.cal_model.proofs.Instances.RisingLists.{Contains-here, Contains-there}

-- an override may govern a start: its id lies before it, and no override names it
pub record Governs (object : Object) (ids : Stamp) (all : List ℤ) (r : ℤ) (g : Governor) : Type 0 where
  pub among : Contains (governors object ids all) g
  pub before : g.id <ℤ r
  pub unnamed : is_named object ids r ≡ false

-- what holds of the governors of each override that moves later instances holds of all
pub All-governors : (P : Governor → Type 0) (object : Object) (ids : Stamp) (all : List ℤ) → All (λ n. moves_later n ≡ true → All P (governors_by object ids all n)) (overrides object) → All P (governors object ids all)
All-governors P object ids all each =
    All-flat_map P (governors_by object ids all) (filter moves_later (overrides object))
    (λ k d lt. All-filter moves_later (λ n. moves_later n ≡ true → All P (governors_by object ids all n)) (overrides object) each k d lt (filter_passes moves_later (overrides object) k d lt))

later_in : {X : Type 0} (x y z : X) (xs : List X) → Contains (x ∷ xs) z → Contains (x ∷ y ∷ xs) z
later_in x y z xs (zero, below, e) = (zero, omega arith, e)
later_in x y z xs (suc k, below, e) = (suc (suc k), omega (arith, below), e)

greatest_id-among : (g : Governor) (gs : List Governor) → Contains (g ∷ gs) (greatest_id g gs)
greatest_id-among g [] = Contains-here g []
greatest_id-among g (h ∷ hs) = elim (cases_Bool (int_le g.id h.id)) [
  | inl w ↦ rw w (Contains-there g (greatest_id h hs) (h ∷ hs) (greatest_id-among h hs))
  | inr w ↦ rw w (later_in g h (greatest_id g hs) hs (greatest_id-among g hs))
]

pub row_at-holds : (P : List Row → Type 0) (moments : List ℕ) (object : Object) (ids : Stamp) (all : List ℤ) (r : ℤ) → P (master_rows moments object ids r) →
    ((g : Governor) → Governs object ids all r g → P (moved_row object ids r g)) → P (row_at moments object ids all r)
row_at-holds P moments object ids all r master moved = elim (cases_Bool (is_named object ids r)) [
  | inl w ↦ rw w master
  | inr w ↦ rw w (by_governors (filter (λ (g : Governor). int_lt g.id r) (governors object ids all)) (governs w))
]
  where
    governs : is_named object ids r ≡ false → (g : Governor) → Contains (filter (λ (g : Governor). int_lt g.id r) (governors object ids all)) g → Governs object ids all r g
    governs w g c =
        let before : int_lt g.id r ≡ true = All-contains (λ (h : Governor). int_lt h.id r ≡ true) (filter (λ (g : Governor). int_lt g.id r) (governors object ids all)) g (filter_passes (λ (h : Governor). int_lt h.id r) (governors object ids all)) c in
        record {
          among = All-contains (Contains (governors object ids all)) (filter (λ (g : Governor). int_lt g.id r) (governors object ids all)) g (All-filter (λ (g : Governor). int_lt g.id r) (Contains (governors object ids all)) (governors object ids all) (All-contains_itself (governors object ids all))) c;
          before = grind (arith, ints, before);
          unnamed = w;
        }

    by_governors : (gs : List Governor) → ((g : Governor) → Contains gs g → Governs object ids all r g) → P (governed_row moments object ids r gs)
    by_governors [] each = master
    by_governors (g ∷ gs) each = moved (greatest_id g gs) (each (greatest_id g gs) (greatest_id-among g gs))

-- the row that a start is moved to, whether it is served or not
abbrev pub moved_to : Object → Stamp → ℤ → Governor → Row
moved_to object ids r g =
    let start = (reading_of object.zones g.start).instant (moved_digits object.zones g r) in
    row_of r start (end_from object.zones g.override.component start) g.override.number (kind_of ids) (kind_of g.start)

pub moved_row-holds : (P : List Row → Type 0) (object : Object) (ids : Stamp) (r : ℤ) (g : Governor) → P [] → (are_served (moved_digits object.zones g r) ≡ true → P (moved_to object ids r g ∷ [])) → P (moved_row object ids r g)
moved_row-holds P object ids r g none one = elim (cases_Bool (are_served (moved_digits object.zones g r))) [
  | inl w ↦ rw w (one w)
  | inr w ↦ rw w none
]
