-- The tags of a value that is not `*`, one piece between the commas after the other.
use Rattle.std.specs.Prelude.{ℕ, Bool, List, map, Option}
use Rattle.std.specs.Borrow.{Bor}
use Rattle.httparse.specs.Grammar.{trim_ows}
use Rattle.cal_base.specs.Lines.ContentLines.{every}
use Rattle.cal_model.specs.Requests.ConditionalTags.{entity_tag}

-- a tag that is lent, and whether it is weak
abbrev pub weak_and_text : Bool × Bor (List ℕ) → Bool × List ℕ
weak_and_text tag = (tag.0, tag.1.now)

-- the tag that a piece is, without the spaces and tabs around it
unfoldable pub tag_in : List ℕ → Option (Bool × List ℕ)
tag_in piece = entity_tag (trim_ows piece)

-- the tags of some pieces, if each of them is one
abbrev pub tags_in_all : List (List ℕ) → Option (List (Bool × List ℕ))
tags_in_all pieces = every (map tag_in pieces)
