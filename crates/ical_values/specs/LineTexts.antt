-- What a line says by its value alone: its name and its parameters stay.
use Rattle.std.specs.Prelude.{ℕ, ◌≤◌, List, Option}
use Rattle.cal_base.specs.declared.line.Line.{Line}
use Rattle.cal_model.specs.declared.object.Trigger.{Trigger}
use Rattle.cal_model.specs.Values.StampTexts.{trigger_of}

-- the trigger that the line is with this text as its value
abbrev pub trigger_by_value : Line → List ℕ → Option Trigger
trigger_by_value line text = trigger_of (record line { value = text })

-- the octet of a digit
pub record IsDigitOctet (octet : ℕ) : Type 0 where
  pub low : 48 ≤ octet
  pub high : octet ≤ 57
