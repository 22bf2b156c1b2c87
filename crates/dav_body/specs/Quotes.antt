-- What a text has before, in and behind its first quotes.
use Rattle.std.specs.Prelude.{◌≡◌, ℕ, ◌<◌, List, [], ◌∷◌, length, None}
use Rattle.cal_base.specs.Xml.XmlMarkup.{quoted_pieces}
use Rattle.dav_body.specs.declared.attributes.Quoted.{Quoted}
use Rattle.dav_body.specs.declared.attributes.Quoted.TheVariants.{No, Open, Whole}

abbrev pub AreQuoted : List ℕ → Quoted → Type 0
AreQuoted text No = quoted_pieces None text ≡ text ∷ []
AreQuoted text Open = (before : List ℕ) × (value : List ℕ) × (quoted_pieces None text ≡ before ∷ value ∷ [])
AreQuoted text (Whole before value behind) = quoted_pieces None text ≡ before.now ∷ value.now ∷ quoted_pieces None behind.now

abbrev pub LeavesLess : List ℕ → Quoted → Type 0
LeavesLess text No = Unit {0}
LeavesLess text Open = Unit {0}
LeavesLess text (Whole before value behind) = length behind.now < length text
