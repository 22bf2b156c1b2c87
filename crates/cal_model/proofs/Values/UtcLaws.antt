-- A text that has a moment in UTC spells a DATE-TIME of UTC, and one that spells none has no moment.
use Rattle.std.proofs.Common.{◌≡◌, ℕ, true, false, Bool, List, Option, Some, None, ℤ, pos, refl, sym, ap}
use Rattle.std.specs.Prelude.{◌+ℤ◌, ◌*ℤ◌, option_and_then}
use Rattle.std.proofs.lemmas.Option.{none-some, same_Some}
use Rattle.cal_moment.specs.BadPlace.{IsBadAt}
use Rattle.cal_moment.specs.Texts.{SpellsDateTime}
use Rattle.cal_moment.specs.declared.stamp.Local.{Local}
use Rattle.cal_model.specs.Values.ValueTexts.{date_time_of, utc_of_local}
use Rattle.cal_model.specs.Values.UtcTexts.{moment_in_utc, utc_of}
use Rattle.cal_model.proofs.Values.ValueLaws.{SpellsDateTime-date_time_of, date_time_of-SpellsDateTime}

-- a moment is that of a local time of UTC
of_utc : (time : Option (Local × Bool)) (at : ℤ) → option_and_then moment_in_utc time ≡ Some at
    → (local : Local) × (time ≡ Some (local, true)) × (at ≡ local.day *ℤ pos 86400 +ℤ pos local.second)
of_utc None at e = absurd (none-some at e)
of_utc (Some (local, true)) at e = (local, refl, sym (same_Some _ at e))
of_utc (Some (local, false)) at e = absurd (none-some at e)

-- A text that has a moment spells a DATE-TIME in UTC.
pub SpellsDateTime-utc_of : (text : List ℕ) (at : ℤ) → utc_of text ≡ Some at
    → (local : Local) × SpellsDateTime text (local, true) × (at ≡ local.day *ℤ pos 86400 +ℤ pos local.second)
unfolding utc_of
SpellsDateTime-utc_of text at e =
    let read = of_utc (date_time_of text) at e in
    (read.0, SpellsDateTime-date_time_of text (read.0, true) read.1, read.2)

-- The moment of a text, by what the text spells

pub moment_of_utc : (local : Local) (utc : Bool) → utc ≡ true → moment_in_utc (local, utc) ≡ Some (utc_of_local local).0
moment_of_utc local true e = refl
moment_of_utc local false e = absurd cc

pub moment_of_none : (local : Local) (utc : Bool) → utc ≡ false → moment_in_utc (local, utc) ≡ None
moment_of_none local false e = refl
moment_of_none local true e = absurd cc

pub utc_read : (text : List ℕ) (time : Local × Bool) → SpellsDateTime text time → utc_of text ≡ moment_in_utc time
unfolding utc_of
utc_read text time spells = ap (option_and_then moment_in_utc) (date_time_of-SpellsDateTime text time spells)

pub nothing_spelled : (text : List ℕ) (place : ℕ) → IsBadAt SpellsDateTime text place → utc_of text ≡ None
nothing_spelled text place bad = by (utc_of text) refl
  where
    by : (found : Option ℤ) → utc_of text ≡ found → found ≡ None
    by None e = refl
    by (Some at) e = let spelled = SpellsDateTime-utc_of text at e in absurd (bad.outside ((spelled.0, true), spelled.1))
