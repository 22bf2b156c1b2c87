-- The front of a body, part by part.
use Rattle.std.specs.Prelude.{ℕ, Bool, not, ◌&&◌, if◌then◌else◌, List, drop, Option, None, codes}
use Rattle.cal_base.specs.Xml.XmlNames.{is_blank}
use Rattle.cal_base.specs.Xml.XmlMarkup.{begins, ends, without_first_blanks}
use Rattle.cal_base.specs.Xml.XmlFaults.{assigned_text, encoding_name, is_known_encoding}

-- the encoding that is named behind an octet, if that is a blank
abbrev pub encoding_at : ℕ → List ℕ → Option (List ℕ)
encoding_at octet text = if is_blank octet && begins text (codes "encoding") then assigned_text (without_first_blanks (drop 8 text)) else None

-- a whole declaration names another encoding than UTF-8
abbrev pub names_other : List ℕ → Bool
names_other text = ends text (codes "?>") && not (is_known_encoding (encoding_name text))
