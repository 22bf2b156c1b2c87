use Rattle.std.proofs.Common.{◌≡◌, Bool, true, false, List, ℕ, refl, sym}
use Rattle.std.specs.Str.{is_utf8, IsUtf8}
use Rattle.std.proofs.lemmas.Str.{is_utf8-from_IsUtf8, IsUtf8-from_is_utf8}
use Rattle.cal_model.proofs.resource_name.is_utf8.Goals as goal

not_utf8 : (text : List ℕ) → (IsUtf8 text → ⊥) → is_utf8 text ≡ false
not_utf8 text none = by (is_utf8 text) refl
  where
    by : (answer : Bool) → is_utf8 text ≡ answer → answer ≡ false
    by true is = absurd (none (IsUtf8-from_is_utf8 text is))
    by false is = refl

pub returns-in-Ok : goal.returns-in-Ok
returns-in-Ok c = sym (is_utf8-from_IsUtf8 c.args.text.now c.in-Ok.ensures.cases.1)

pub returns-in-Err : goal.returns-in-Err
returns-in-Err c = sym (not_utf8 c.args.text.now c.in-Err.ensures.cases.0)
