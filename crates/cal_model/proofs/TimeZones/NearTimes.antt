-- An instant lies as near to its local time as offsets are small; a local time that exists comes back as it was.
use Rattle.std.proofs.Common.{◌≡◌, ℕ, true, List, [], ◌∷◌, map, arith, ℤ, pos, ◌-ℤ◌, inl, inr}
use Rattle.std.specs.Prelude.{All, not, filter, int_le, int_lt}
use Rattle.std.proofs.lemmas.Int.{ints}
use Rattle.std.proofs.lemmas.Bool.{cases_Bool}
use Rattle.std.proofs.lemmas.List.Elements.{All-head, All-tail, All-cons, All-map, All-filter, All-weaker, filter_passes}
use Rattle.cal_model.specs.declared.zone.Onset.{Onset}
use Rattle.cal_model.specs.declared.zone.ZoneTable.{ZoneTable}
use Rattle.cal_model.specs.TimeZones.TableBounds.{IsOffset, IsTable}
use Rattle.cal_model.specs.Ranges.Nearness.{IsNear, HasOffsetsBelow, HasShortOffsets}
use Rattle.cal_model.specs.Words.Lists.{last_or_else, is_empty}
use Rattle.cal_model.specs.Words.Integers.{least_of, same_int}
use Rattle.cal_model.proofs.Words.IntegerLemmas.{same_int-true}
use Rattle.cal_model.specs.TimeZones.Zones.{offset_at, local_at, instant_of, offsets, instants_of, onsets_past, after_gap, least_or_after_gap, exists_in}

pub last_or_else-holds : {X : Type 0} (P : X → Type 0) (none : X) (xs : List X) → P none → All P xs → P (last_or_else none xs)
last_or_else-holds P none [] p all = p
last_or_else-holds P none (x ∷ xs) p all = last_or_else-holds P x xs (All-head P x xs all) (All-tail P x xs all)

pub least_of-holds : (P : ℤ → Type 0) (z : ℤ) (xs : List ℤ) → P z → All P xs → P (least_of z xs)
least_of-holds P z [] p all = p
least_of-holds P z (x ∷ xs) p all = elim (cases_Bool (int_lt x z)) [
  | inl w ↦ rw w (least_of-holds P x xs (All-head P x xs all) (All-tail P x xs all))
  | inr w ↦ rw w (least_of-holds P z xs p (All-tail P x xs all))
]

-- Where offsets are below so many seconds, an instant lies as near to its local time.

pub offset_at-below : (n : ℕ) (table : ZoneTable) (u : ℤ) → HasOffsetsBelow n table → IsNear n (offset_at table u) (pos 0)
unfolding offset_at
offset_at-below n table u below =
    last_or_else-holds (λ o. IsNear n o (pos 0)) table.before (map (λ (o : Onset). o.offset) (filter (λ (o : Onset). int_le o.at.0 u) table.onsets)) below.before
    (All-map (λ o. IsNear n o (pos 0)) (λ (o : Onset). o.offset) (filter (λ (o : Onset). int_le o.at.0 u) table.onsets)
    (All-filter (λ (o : Onset). int_le o.at.0 u) (λ (o : Onset). IsNear n o.offset (pos 0)) table.onsets below.after))

pub local_at-below : (n : ℕ) (table : ZoneTable) (u : ℤ) → HasOffsetsBelow n table → IsNear n (local_at table u) u
local_at-below n table u below = let near = offset_at-below n table u below in (omega (arith, ints, near), omega (arith, ints, near))

less_offset : (n : ℕ) (l o : ℤ) → IsNear n o (pos 0) → IsNear n (l -ℤ o) l
less_offset n l o near = (omega (arith, ints, near), omega (arith, ints, near))

after_gap-below : (n : ℕ) (table : ZoneTable) (l : ℤ) (past : List Onset) → HasOffsetsBelow n table → IsNear n (after_gap table l past) l
after_gap-below n table l [] below = less_offset n l table.before below.before
after_gap-below n table l (o ∷ later) below = less_offset n l (offset_at table (o.at.0 -ℤ pos 1)) (offset_at-below n table (o.at.0 -ℤ pos 1) below)

candidates-below : (n : ℕ) (table : ZoneTable) (l : ℤ) → HasOffsetsBelow n table → All (λ u. IsNear n u l) (instants_of table l)
candidates-below n table l below =
    All-filter (λ u. same_int (local_at table u) l) (λ u. IsNear n u l) (map (λ o. l -ℤ o) (offsets table))
    (All-map (λ u. IsNear n u l) (λ o. l -ℤ o) (offsets table)
    (All-weaker (λ o. IsNear n o (pos 0)) (λ o. IsNear n (l -ℤ o) l) (λ o. less_offset n l o) (offsets table)
    (All-cons (λ o. IsNear n o (pos 0)) table.before (map (λ (o : Onset). o.offset) table.onsets) below.before
    (All-map (λ o. IsNear n o (pos 0)) (λ (o : Onset). o.offset) table.onsets below.after))))

least_or_after_gap-below : (n : ℕ) (table : ZoneTable) (l : ℤ) (found : List ℤ) → HasOffsetsBelow n table → All (λ u. IsNear n u l) found → IsNear n (least_or_after_gap table l found) l
least_or_after_gap-below n table l [] below all = after_gap-below n table l (onsets_past table l) below
least_or_after_gap-below n table l (u ∷ us) below all =
    least_of-holds (λ u. IsNear n u l) u us (All-head (λ u. IsNear n u l) u us all) (All-tail (λ u. IsNear n u l) u us all)

pub instant_of-below : (n : ℕ) (table : ZoneTable) (l : ℤ) → HasOffsetsBelow n table → IsNear n (instant_of table l) l
unfolding instant_of
instant_of-below n table l below = least_or_after_gap-below n table l (instants_of table l) below (candidates-below n table l below)

-- below a day
pub offset_at-near : (table : ZoneTable) (u : ℤ) → HasShortOffsets table → IsNear 86400 (offset_at table u) (pos 0)
offset_at-near = offset_at-below 86400

pub local_at-near : (table : ZoneTable) (u : ℤ) → HasShortOffsets table → IsNear 86400 (local_at table u) u
local_at-near = local_at-below 86400

pub instant_of-near : (table : ZoneTable) (l : ℤ) → HasShortOffsets table → IsNear 86400 (instant_of table l) l
instant_of-near = instant_of-below 86400

-- A local time that the zone's clock shows comes back from its instant as it was. So only a DTSTART that is skipped lies elsewhere than its digits.

all_show : (table : ZoneTable) (l : ℤ) → All (λ u. local_at table u ≡ l) (instants_of table l)
all_show table l =
    All-weaker (λ u. same_int (local_at table u) l ≡ true) (λ u. local_at table u ≡ l) (λ u h. same_int-true (local_at table u) l h) (instants_of table l)
    (filter_passes (λ u. same_int (local_at table u) l) (map (λ o. l -ℤ o) (offsets table)))

least_shows : (table : ZoneTable) (l : ℤ) (found : List ℤ) → not (is_empty found) ≡ true → All (λ u. local_at table u ≡ l) found → local_at table (least_or_after_gap table l found) ≡ l
least_shows table l [] some all = absurd cc
least_shows table l (u ∷ us) some all =
    least_of-holds (λ u. local_at table u ≡ l) u us (All-head (λ u. local_at table u ≡ l) u us all) (All-tail (λ u. local_at table u ≡ l) u us all)

pub local_at-instant_of : (table : ZoneTable) (l : ℤ) → exists_in table l ≡ true → local_at table (instant_of table l) ≡ l
unfolding instant_of exists_in
local_at-instant_of table l some = least_shows table l (instants_of table l) some (all_show table l)

-- a table that was made of parts has such offsets

offset-short : (o : ℤ) → IsOffset o → IsNear 86400 o (pos 0)
offset-short o h = (omega (arith, ints, h), omega (arith, ints, h))

pub HasShortOffsets-table : (table : ZoneTable) → IsTable table → HasShortOffsets table
HasShortOffsets-table table is = record {
  before = offset-short table.before is.before;
  after = All-weaker (λ (o : Onset). IsOffset o.offset) (λ (o : Onset). IsNear 86400 o.offset (pos 0)) (λ o h. offset-short o.offset h) table.onsets is.offsets;
}
