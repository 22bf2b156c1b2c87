-- What a TRIGGER says, by its parameter VALUE.
use Rattle.std.proofs.Common.{◌≡◌, ℕ, Bool, true, false, if◌then◌else◌, List, codes, Some, None, option_map, sym, ap, ◌∙◌}
use Rattle.cal_base.specs.declared.line.Line.{Line}
use Rattle.cal_moment.specs.BadPlace.{IsBadAt}
use Rattle.cal_moment.specs.declared.stamp.Length.{Length}
use Rattle.cal_moment.specs.declared.stamp.Utc.{Utc}
use Rattle.cal_model.specs.declared.object.Trigger.TheVariants.{At, From}
use Rattle.cal_model.specs.Values.BadValues.{Reads}
use Rattle.cal_model.specs.Values.StampTexts.{param_is, related_of, trigger_of}
use Rattle.cal_model.specs.Values.ValueTexts.{length_of, moment_of}
use Rattle.cal_model.proofs.Values.BadValueLaws.{bad_by_same}
use Rattle.cal_model.proofs.Values.CutLemmas.{option_map_some}
use Rattle.ical_values.specs.LineTexts.{trigger_by_value}
use Rattle.ical_values.proofs.ReadLines.{no_value}

-- by a test of VALUE, whichever the text
by_test : (line : Line) (text : List ℕ) (at : Bool) → param_is (codes "VALUE") (codes "DATE-TIME") line ≡ at → trigger_by_value line text ≡ (if at then option_map At (moment_of text) else option_map (From (related_of line)) (length_of text))
unfolding trigger_of
by_test line text at is = ap (λ b. if b then option_map At (moment_of text) else option_map (From (related_of line)) (length_of text)) is

pub trigger_at : (line : Line) (moment : Utc) → param_is (codes "VALUE") (codes "DATE-TIME") line ≡ true → moment_of line.value ≡ Some moment → trigger_of line ≡ Some (At moment)
trigger_at line moment test is = by_test line line.value true test ∙ ap (option_map At) is

pub trigger_from : (line : Line) (length : Length) → param_is (codes "VALUE") (codes "DATE-TIME") line ≡ false → length_of line.value ≡ Some length → trigger_of line ≡ Some (From (related_of line) length)
trigger_from line length test is = by_test line line.value false test ∙ ap (option_map (From (related_of line))) is

pub bad_trigger_at : (line : Line) (place : ℕ) → param_is (codes "VALUE") (codes "DATE-TIME") line ≡ true → IsBadAt (Reads moment_of) line.value place → IsBadAt (Reads (trigger_by_value line)) line.value place
bad_trigger_at line place test =
    bad_by_same (Reads moment_of) (Reads (trigger_by_value line))
    (λ text is. (At is.0, by_test line text true test ∙ ap (option_map At) is.1))
    (λ text is. let found = option_map_some At (moment_of text) is.0 (sym (by_test line text true test) ∙ is.1) in (found.0, found.1))
    line.value place

pub bad_trigger_from : (line : Line) (place : ℕ) → param_is (codes "VALUE") (codes "DATE-TIME") line ≡ false → IsBadAt (Reads length_of) line.value place → IsBadAt (Reads (trigger_by_value line)) line.value place
bad_trigger_from line place test =
    bad_by_same (Reads length_of) (Reads (trigger_by_value line))
    (λ text is. (From (related_of line) is.0, by_test line text false test ∙ ap (option_map (From (related_of line))) is.1))
    (λ text is. let found = option_map_some (From (related_of line)) (length_of text) is.0 (sym (by_test line text false test) ∙ is.1) in (found.0, found.1))
    line.value place

pub no_trigger : (line : Line) (place : ℕ) → IsBadAt (Reads (trigger_by_value line)) line.value place → trigger_of line ≡ None
no_trigger line place bad = no_value (trigger_by_value line) line.value bad.outside
