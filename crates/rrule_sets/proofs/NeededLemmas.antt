-- The digits that a window needs, component by component.
use Rattle.std.proofs.Common.{◌≡◌, ℕ, ◌+◌, List, [], ◌∷◌, length, refl, sym, subst, arith, ℤ, pos, ◌+ℤ◌, ◌*ℤ◌, ◌≤ℤ◌, inl, inr}
use Rattle.std.specs.Prelude.{All, flat_map, int_lt, option_to_list, Option}
use Rattle.std.specs.Int.{int_max}
use Rattle.std.proofs.lemmas.Bool.{cases_Bool}
use Rattle.std.proofs.lemmas.Int.{ints}
use Rattle.std.proofs.lemmas.List.Elements.{All-nil, All-append, All-weaker}
use Rattle.cal_moment.specs.declared.stamp.Stamp.{Stamp}
use Rattle.cal_model.specs.declared.object.Component.{Component}
use Rattle.cal_model.specs.declared.zone.ZoneTable.{ZoneTable}
use Rattle.cal_model.specs.Instances.Rows.{window_seconds}
use Rattle.cal_model.proofs.Words.AllLemmas.{All-left, All-right}
use Rattle.rrule_sets.specs.declared.range.Digits.{Digits}
use Rattle.rrule_sets.specs.NeededDigits.{HasDay, HasRange, HasWindow, days_needed, overrides_in}

-- the greater of two numbers is no more than what both are
pub max_least : (x y z : ℤ) → x ≤ℤ z → y ≤ℤ z → int_max x y ≤ℤ z
max_least x y z a b = elim (cases_Bool (int_lt y x)) [ inl w ↦ rw w a | inr w ↦ rw w b ]

abbrev pub EndsBefore : ℤ → ℤ → Type 0
EndsBefore z midnight = (midnight +ℤ pos 86400) ≤ℤ z

-- What a range has so far, where some components are left: whatever has it and the days of those has the days of all, and it ends no later than the window and these days.
pub record IsNeededSoFar (zones : List ZoneTable) (ids : Stamp) (window : ℤ) (all rest : List Component) (range : Digits) : Type 0 where
  pub has_window : HasWindow window range
  pub days : (wide : Digits) → HasRange wide range → All (HasDay wide) (flat_map (days_needed zones ids window) rest) → All (HasDay wide) (flat_map (days_needed zones ids window) all)
  pub least : (z : ℤ) → ((window +ℤ pos 1) *ℤ window_seconds) ≤ℤ z → All (EndsBefore z) (flat_map (days_needed zones ids window) all) → (range.high ≤ℤ z) × All (EndsBefore z) (flat_map (days_needed zones ids window) rest)

pub has_range : (wide range part : Digits) → HasRange wide range → HasRange range part → HasRange wide part
has_range wide range part a b = let af = a.from in let at_end = a.to in let bf = b.from in let bt = b.to in record { from = omega (arith, ints, af, bf); to = omega (arith, ints, at_end, bt) }

pub has_day : (wide range : Digits) (midnight : ℤ) → HasRange wide range → HasDay range midnight → HasDay wide midnight
has_day wide range midnight a b = let af = a.from in let at_end = a.to in let bf = b.from in let bt = b.to in record { from = omega (arith, ints, af, bf); to = omega (arith, ints, at_end, bt) }

none_left : (rest : List Component) → length rest ≡ 0 → overrides_in rest ≡ 0
none_left [] none = refl
none_left (c ∷ cs) none = absurd (omega (arith, none))

pub needed_steps : (steps before all : ℕ) (rest : List Component) → steps + overrides_in rest ≡ before + all → length rest ≡ 0 → steps ≡ before + all
needed_steps steps before all rest counted none = let left = none_left rest none in omega (arith, counted, left)

module _ (zones : List ZoneTable) (ids : Stamp) (window : ℤ) where
  pub needed_first : (all : List Component) (range : Digits) → range.low ≡ window *ℤ window_seconds → range.high ≡ (window +ℤ pos 1) *ℤ window_seconds → IsNeededSoFar zones ids window all all range
  needed_first all range low high = record {
    has_window = record { from = omega (arith, ints, low); to = omega (arith, ints, high) };
    days = λ wide has days. days;
    least = λ z by days. (omega (arith, ints, high, by), days);
  }

  pub needed_more : (all : List Component) (c : Component) (cs : List Component) (range wide : Digits) (day : Option ℤ) → IsNeededSoFar zones ids window all (c ∷ cs) range → option_to_list day ≡ days_needed zones ids window c →
      HasRange wide range → All (HasDay wide) (option_to_list day) → ((z : ℤ) → range.high ≤ℤ z → All (EndsBefore z) (option_to_list day) → wide.high ≤ℤ z) → IsNeededSoFar zones ids window all cs wide
  needed_more all c cs range wide day so_far is has there least = record {
    has_window = (let own = so_far.has_window in let of = own.from in let ot = own.to in let hf = has.from in let ht = has.to in record { from = omega (arith, ints, of, hf); to = omega (arith, ints, ot, ht) });
    days = λ wider more days. so_far.days wider (has_range wider wide range more has)
        (All-append (HasDay wider) (days_needed zones ids window c) (flat_map (days_needed zones ids window) cs)
        (subst (All (HasDay wider)) is (All-weaker (HasDay wide) (HasDay wider) (λ midnight here. has_day wider wide midnight more here) (option_to_list day) there)) days);
    least = λ z by days.
        let before = so_far.least z by days in
        let here = All-left (EndsBefore z) (days_needed zones ids window c) (flat_map (days_needed zones ids window) cs) before.1 in
        (least z before.0 (subst (All (EndsBefore z)) (sym is) here), All-right (EndsBefore z) (days_needed zones ids window c) (flat_map (days_needed zones ids window) cs) before.1);
  }

  pub needed_days : (all rest : List Component) (range : Digits) → IsNeededSoFar zones ids window all rest range → length rest ≡ 0 → All (HasDay range) (flat_map (days_needed zones ids window) all)
  needed_days all [] range so_far none = so_far.days range (record { from = omega (arith, ints); to = omega (arith, ints) }) (All-nil (HasDay range))
  needed_days all (c ∷ cs) range so_far none = absurd (omega (arith, none))
