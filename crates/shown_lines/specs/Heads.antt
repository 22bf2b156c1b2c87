-- Texts that lines are made of: texts of one line, and what stands before the colon of a line.
use Rattle.std.specs.Prelude.{◌≡◌, ℕ, false, ◌==◌, List, ◌∷◌, ◌++◌, flat_map, All, IsTrue}
use Rattle.std.specs.List.{list_any, AllByRecursion}
use Rattle.std.specs.Str.{chars, IsUtf8}
use Rattle.cal_base.specs.Texts.Octets.{line_feed, semicolon}
use Rattle.cal_base.specs.Lines.ContentLines.{is_refused_character, is_name}
use Rattle.cal_base.specs.Lines.LineGrammar.{WrittenParam, IsParam, param_text}

-- UTF-8 without refused characters and without line ends
pub record IsClean (text : List ℕ) : Type 0 where
  pub utf8 : IsUtf8 text
  pub allowed : list_any is_refused_character (chars text) ≡ false
  pub one_line : AllByRecursion (λ octet. (octet == line_feed) ≡ false) text

-- a name and parameters, as they are written before a colon
pub record IsHead (text : List ℕ) : Type 0 where
  pub name : List ℕ
  pub params : List WrittenParam
  pub named : IsTrue (is_name name)
  pub good : All IsParam params
  pub written : name ++ flat_map param_text params ≡ text
  pub clean : IsClean text

-- a parameter as it is put behind others
abbrev pub behind_semicolon : List ℕ → List ℕ
behind_semicolon piece = semicolon ∷ piece
