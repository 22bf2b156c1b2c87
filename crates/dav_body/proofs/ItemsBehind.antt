-- The item of a text, if it is not empty.
use Rattle.std.proofs.Common.{◌≡◌, ℕ, ◌<◌, List, [], ◌∷◌, length, refl, arith}
use Rattle.cal_base.specs.declared.element.Item.TheVariants.{Text}
use Rattle.cal_base.specs.Xml.XmlBodies.{text_items}

pub no_text : (text : List ℕ) → length text ≡ 0 → text_items text ≡ []
no_text [] none = refl
no_text (octet ∷ text) none = absurd (omega arith)

pub some_text : (text : List ℕ) → 0 < length text → text_items text ≡ Text text ∷ []
some_text [] some = absurd (omega arith)
some_text (octet ∷ text) some = refl
