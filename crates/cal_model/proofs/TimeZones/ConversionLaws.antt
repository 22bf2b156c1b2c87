-- Conversions in the standard's own words: the offset at an instant, and whether a local time exists.
use Rattle.std.proofs.Common.{◌≡◌, ℕ, zero, suc, ◌<◌, List, [], ◌∷◌, length, get_or, refl, sym, arith, Bool, true, false, ℤ, inl, inr}
use Rattle.std.specs.Prelude.{Contains, not, ◌==◌}
use Rattle.std.specs.Bool.{OnTrue, OnFalse}
use Rattle.cal_model.specs.declared.zone.Onset.{Onset}
use Rattle.cal_model.specs.declared.zone.ZoneTable.{ZoneTable}
use Rattle.cal_model.specs.Words.Lists.{is_empty}
use Rattle.cal_model.specs.TimeZones.TableBounds.{IsRising}
use Rattle.cal_model.specs.TimeZones.Zones.{offset_at, exists_in, instant_of, instants_of, IsOffsetAt, IsShown, IsSkipped}
use Rattle.cal_model.proofs.TimeZones.Instants.{In, instants_of-all, nth, latest_onset}
use Rattle.cal_model.proofs.TimeZones.NearTimes.{local_at-instant_of}

-- what stands at some place stands there whatever is read past the end
at_place : (xs : List Onset) (k : ℕ) (d o : Onset) → k < length xs → get_or xs k d ≡ o → nth xs k ≡ o
at_place [] k d o lt e = absurd (omega (arith, lt))
at_place (x ∷ xs) zero d o lt e = e
at_place (x ∷ xs) (suc k) d o lt e = at_place xs k d o (omega (arith, lt)) e

stands : (xs : List Onset) (k : ℕ) → k < length xs → Contains xs (nth xs k)
stands xs k lt = (k, lt, again xs k (nth xs k) lt)
  where
    again : (ys : List Onset) (j : ℕ) (d : Onset) → j < length ys → get_or ys j d ≡ nth ys j
    again [] j d below = absurd (omega (arith, below))
    again (y ∷ ys) zero d below = refl
    again (y ∷ ys) (suc j) d below = again ys j d (omega (arith, below))

-- the offset at an instant is that of the latest onset, or the one before all of them
pub IsOffsetAt-offset_at : (table : ZoneTable) (u : ℤ) → IsRising table.onsets → IsOffsetAt table u (offset_at table u)
unfolding offset_at
IsOffsetAt-offset_at table u rising = elim (latest_onset table.before u table.onsets rising) [
  | inl found ↦ inl (
    nth table.onsets found.place,
    record {
      member = stands table.onsets found.place found.below;
      at_or_before = found.at_or_before;
      latest = λ other member le. (let same = at_place table.onsets member.0 other other member.1 member.2 in rw same at (found.latest member.0 member.1 (rw same le)));
    },
    found.offset,
  )
  | inr none ↦ inr ((λ other member. (let same = at_place table.onsets member.0 other other member.1 member.2 in rw same at (none.all_after member.0 member.1))), none.offset)
]

-- where it says true, some instant has this local time
pub exists_in-shown : (table : ZoneTable) (l : ℤ) → exists_in table l ≡ true → IsShown table l
exists_in-shown table l shown = (instant_of table l, local_at-instant_of table l shown)

not_in_none : (v : ℤ) (xs : List ℤ) → not (is_empty xs) ≡ false → In v xs → ⊥
not_in_none v [] none member = elim member [ ]
not_in_none v (x ∷ xs) none member = let some : (length (x ∷ xs) == 0) ≡ false = grind arith in let no = rw some at none in absurd cc

-- where it says false, none has
pub exists_in-skipped : (table : ZoneTable) (l : ℤ) → exists_in table l ≡ false → IsSkipped table l
unfolding exists_in
exists_in-skipped table l none v shows = not_in_none v (instants_of table l) none (instants_of-all table l v shows)

-- both, of whatever value it has
pub OnTrue_exists_in : (table : ZoneTable) (l : ℤ) (b : Bool) → b ≡ exists_in table l → OnTrue b (IsShown table l)
OnTrue_exists_in table l true is = exists_in-shown table l (sym is)
OnTrue_exists_in table l false is = tt

pub OnFalse_exists_in : (table : ZoneTable) (l : ℤ) (b : Bool) → b ≡ exists_in table l → OnFalse b (IsSkipped table l)
OnFalse_exists_in table l true is = tt
OnFalse_exists_in table l false is = exists_in-skipped table l (sym is)
