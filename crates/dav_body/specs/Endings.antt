-- Endings of a markup that is cut.
use Rattle.std.specs.Prelude.{ℕ, Bool, List, ◌++◌}
use Rattle.std.specs.List.{list_any}
use Rattle.cal_base.specs.Xml.XmlMarkup.{is_one_markup}

-- one of some endings behind a text makes it one markup
abbrev pub any_ends : List ℕ → List (List ℕ) → Bool
any_ends text endings = list_any (λ ending. is_one_markup (text ++ ending)) endings
