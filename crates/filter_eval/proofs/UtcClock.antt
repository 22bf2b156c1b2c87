-- The zone whose clock shows UTC: each local time is its own instant.
use Rattle.std.proofs.Common.{◌≡◌, ◌∙◌, sym, ap, refl, arith, inl, ℤ, pos, ◌+ℤ◌}
use Rattle.std.proofs.lemmas.Int.{ints}
use Rattle.cal_model.specs.TimeZones.Zones.{instant_of, offset_at, local_at}
use Rattle.cal_model.specs.Instances.Alignment.{utc_zone}
use Rattle.cal_model.specs.TimeZones.TableBounds.{IsRising}
use Rattle.cal_model.proofs.TimeZones.Instants.{IsInstantOf-instant_of}

offset_at_utc : (u : ℤ) → offset_at utc_zone u ≡ pos 0
unfolding offset_at
offset_at_utc u = refl

pub local_at_utc : (u : ℤ) → local_at utc_zone u ≡ u
local_at_utc u = ap (λ (offset : ℤ). u +ℤ offset) (offset_at_utc u) ∙ omega (arith, ints)

no_onsets : IsRising (utc_zone.onsets)
no_onsets = record { each = λ i j d before within. absurd (omega arith) }

pub instant_of_utc : (l : ℤ) → instant_of utc_zone l ≡ l
instant_of_utc l =
    sym (IsInstantOf-instant_of utc_zone l l no_onsets
    (inl (local_at_utc l, λ v earlier same. (let at : v ≡ l = sym (local_at_utc v) ∙ same in omega (arith, ints)))))
