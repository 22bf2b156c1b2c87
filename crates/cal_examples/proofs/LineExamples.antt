-- Worked examples of content lines: those of RFC 5545, 3.1 and 3.2, and those that tell two readings apart.
use Rattle.std.specs.Prelude.{◌≡◌, refl, ℕ, List, [], ◌∷◌, ◌++◌, Some, None, codes, length, map, ◌+◌}
use Rattle.std.specs.Str.{is_utf8, chars}
use lib.Utf8.{encode}
use Rattle.cal_base.specs.declared.line.Line.{Line}
use Rattle.cal_base.specs.Lines.ContentLines.{line_fault, line_of, lines_of}
use Rattle.cal_base.specs.Lines.WrittenLines.{written}

-- The grammar of one line

-- quotes keep a separator and are no part of the value; names are raised, the text stays
quoted_values : line_of (codes "attendee;cn=\"A;B:C\",d:x:y") ≡ Some (record {
  name = codes "ATTENDEE";
  params = record { name = codes "CN"; values = codes "A;B:C" ∷ codes "d" ∷ [] } ∷ [];
  value = codes "x:y";
  raw = codes "attendee;cn=\"A;B:C\",d:x:y";
})
quoted_values = refl

-- RFC 5545, 3.1.1: a value in quotes may have the three separators
two_params : line_of (codes "ATTENDEE;RSVP=TRUE;ROLE=\"REQ,PARTICIPANT\":mailto:jsmith@example.com") ≡ Some (record {
  name = codes "ATTENDEE";
  params = record { name = codes "RSVP"; values = codes "TRUE" ∷ [] } ∷ record { name = codes "ROLE"; values = codes "REQ,PARTICIPANT" ∷ [] } ∷ [];
  value = codes "mailto:jsmith@example.com";
  raw = codes "ATTENDEE;RSVP=TRUE;ROLE=\"REQ,PARTICIPANT\":mailto:jsmith@example.com";
})
two_params = refl

-- a parameter may have one empty value, and a line an empty value
empty_values : line_of (codes "A;B=:") ≡ Some (record { name = codes "A"; params = record { name = codes "B"; values = [] ∷ [] } ∷ []; value = []; raw = codes "A;B=:" })
empty_values = refl

-- an equals sign within a parameter's value is part of it
second_equals_sign : map (λ (line : Line). line.params) (lines_of (codes "A;B=c=d:e")) ≡ (record { name = codes "B"; values = codes "c=d" ∷ [] } ∷ []) ∷ []
unfolding is_utf8 chars encode
second_equals_sign = refl

-- a quote opened and never closed hides the colon
no_colon : line_of (codes "SUMMARY;X=\"a:b") ≡ None
no_colon = refl

-- a quote within a value that does not begin with one, and something behind a closing quote
quote_inside : (line_of (codes "A;B=x\"y\":z") ≡ None) × (line_of (codes "A;B=\"x\"y:z") ≡ None)
quote_inside = (refl, refl)

-- a name is needed, of the line and of each parameter, and so is the equals sign
no_name : (line_of (codes ":x") ≡ None) × (line_of (codes "A;=c:x") ≡ None) × (line_of (codes "A;B:x") ≡ None) × (line_of (codes "A;:x") ≡ None) × (line_of (codes "A_B:x") ≡ None)
no_name = (refl, refl, refl, refl, refl)

-- Folds

abbrev raws : List ℕ → List (List ℕ)
raws octets = map (λ (line : Line). line.raw) (lines_of octets)

-- RFC 5545, 3.1: the fold and one blank go, and what else is there stays
rfc_fold : raws (codes "DESCRIPTION:This is a lo\r\n ng description\r\n  that exists on a long line.") ≡ codes "DESCRIPTION:This is a long description that exists on a long line." ∷ []
unfolding is_utf8 chars encode
rfc_fold = refl

-- SPACE and TAB, CRLF and LF, an empty line that is skipped, and a last line without its end
folds : raws (codes "A:b\r\n c\r\n\r\nD:e\n\tf") ≡ codes "A:bc" ∷ codes "D:ef" ∷ []
unfolding is_utf8 chars encode
folds = refl

folds_without_fault : line_fault (codes "A:b\r\n c\r\n\r\nD:e\n\tf") ≡ None
unfolding is_utf8 chars encode
folds_without_fault = refl

-- a fold within a name and within a quoted value
folds_anywhere : raws (codes "SUM\n MARY;X=\"a\n\t;b\":c\n") ≡ codes "SUMMARY;X=\"a;b\":c" ∷ []
unfolding is_utf8 chars encode
folds_anywhere = refl

-- two blanks: one makes the fold, the other is text
one_blank : raws (codes "A:b\n  c\n \td") ≡ codes "A:b c\td" ∷ []
unfolding is_utf8 chars encode
one_blank = refl

-- an empty physical line that a fold follows begins the line, and its place is the line's
fold_of_empty : (raws (codes "\r\n A:b\r\n") ≡ codes "A:b" ∷ []) × (line_fault (codes "X:y\n\n b\n") ≡ Some 4)
unfolding is_utf8 chars encode
fold_of_empty = (refl, refl)

-- before the first line there is none to continue
blank_first : line_fault (codes " A:b\n") ≡ Some 0
unfolding is_utf8 chars encode
blank_first = refl

-- an empty text has no line and no fault
no_text : (lines_of [] ≡ []) × (line_fault [] ≡ None)
no_text = (refl, refl)

-- Faults, each with its place

-- a bare CR, in the middle and at the end: at its own physical line
bare_return : (line_fault (codes "A:b\r\n c\rd\r\n") ≡ Some 5) × (line_fault (codes "A:b\r") ≡ Some 0) × (line_fault (codes "A:b\r\r\n") ≡ Some 0)
unfolding is_utf8 chars encode
bare_return = (refl, refl, refl)

-- a control; TAB is none
control : (line_fault (65 ∷ 58 ∷ 11 ∷ []) ≡ Some 0) × (line_fault (65 ∷ 58 ∷ 9 ∷ 127 ∷ []) ≡ None)
unfolding is_utf8 chars encode
control = (refl, refl)

-- a line outside the grammar: at its first physical line, also where a later one has a refused octet
outside_grammar : (line_fault (codes "A:b\r\nxx\r\n y\r\n") ≡ Some 5) × (line_fault (codes "A:b\r\nxx\r\n \ry\r\n") ≡ Some 5)
unfolding is_utf8 chars encode
outside_grammar = (refl, refl)

-- the first of two faults
first_fault : line_fault (codes "A:b\n\r\nC:\rd\nx\n") ≡ Some 6
unfolding is_utf8 chars encode
first_fault = refl

-- no UTF-8, a character that a fold cuts, and a noncharacter beside the greatest character before it
no_utf8 : line_fault (codes "A:b\n" ++ 65 ∷ 58 ∷ 0xFF ∷ []) ≡ Some 4
unfolding is_utf8 chars encode
no_utf8 = refl

cut_character : (line_fault (65 ∷ 58 ∷ 195 ∷ 13 ∷ 10 ∷ 32 ∷ 164 ∷ 13 ∷ 10 ∷ []) ≡ Some 0) × (line_fault (65 ∷ 58 ∷ 195 ∷ 164 ∷ 13 ∷ 10 ∷ []) ≡ None)
unfolding is_utf8 chars encode
cut_character = (refl, refl)

noncharacter : (line_fault (codes "A:b\n" ++ 65 ∷ 58 ∷ 0xEF ∷ 0xBF ∷ 0xBE ∷ []) ≡ Some 4) × (line_fault (codes "A:b\n" ++ 65 ∷ 58 ∷ 0xEF ∷ 0xBF ∷ 0xBD ∷ []) ≡ None)
unfolding is_utf8 chars encode
noncharacter = (refl, refl)

-- Writing

-- 75 octets stay in one line; of 76 the last goes behind a SPACE
written_sizes : (length (written (codes "A:3456789012345678901234567890123456789012345678901234567890123456789012345")) ≡ 75 + 2) × (length (written (codes "A:34567890123456789012345678901234567890123456789012345678901234567890123456")) ≡ 75 + 3 + 1 + 2)
unfolding chars encode
written_sizes = (refl, refl)

-- a character of two octets that would begin at octet 75 goes to the next line whole
whole_character : written (codes "A:345678901234567890123456789012345678901234567890123456789012345678901234" ++ 195 ∷ 164 ∷ []) ≡ codes "A:345678901234567890123456789012345678901234567890123456789012345678901234\r\n " ++ 195 ∷ 164 ∷ 13 ∷ 10 ∷ []
unfolding chars encode
whole_character = refl
