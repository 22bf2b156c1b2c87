-- A home that is written back as it was.
use Rattle.std.proofs.Common.{◌≡◌, ◌∙◌, ℕ, List, Some, ap}
use Rattle.std.specs.Prelude.{Result, Ok, Err, OnErr}
use Rattle.std.proofs.lemmas.Map.Steps.{set_value_same}
use Rattle.cal_base.specs.Lists.NameMap.{value_at, with_changed}
use Rattle.collections.specs.declared.home.KeptHome.{KeptHome}
use Rattle.collections.specs.KeptCalendars.{KeptCalendar}

pub at_any_err : {T E P : Type 0} (r : Result T E) → P → OnErr r P
at_any_err (Ok x) p = tt
at_any_err (Err e) p = p

pub same_home : (home : KeptHome) (name : List ℕ) (kept kept' : KeptCalendar) → value_at home.calendars name ≡ Some kept → kept' ≡ kept
    → ◌≡◌ {A = KeptHome} (record { accepted = home.accepted; calendars = with_changed home.calendars name kept' }) home
same_home home name kept kept' there is =
    ap {B = KeptHome} (λ (k : KeptCalendar). record { accepted = home.accepted; calendars = with_changed home.calendars name k }) is
    ∙ ap {B = KeptHome} (λ calendars. record { accepted = home.accepted; calendars = calendars }) (set_value_same _ home.calendars kept there)
