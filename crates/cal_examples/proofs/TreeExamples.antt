-- Worked examples of component trees.
use Rattle.std.specs.Prelude.{◌≡◌, refl, ℕ, List, [], ◌∷◌, ◌++◌, Option, Some, None, codes}
use Rattle.std.specs.Str.{is_utf8, chars}
use lib.Utf8.{encode}
use Rattle.cal_base.specs.declared.line.Line.{Line}
use Rattle.cal_base.specs.Lines.ContentLines.{lines_of}
use Rattle.cal_base.specs.Lines.ComponentTrees.{tree_of, nesting_fault, unclosed, wrong_end, too_deep, NestingFault, component}

abbrev small : List ℕ
small = codes "BEGIN:vcalendar\r\nBEGIN:VEVENT\r\nUID:1\r\nEND:VEVENT\r\nVERSION:2.0\r\nEND:VCALENDAR\r\n"

small_fault : nesting_fault (lines_of small) ≡ None
unfolding is_utf8 chars encode
small_fault = refl

abbrev plain : List ℕ → List ℕ → Line
plain name value = record { name = name; params = []; value = value; raw = name ++ codes ":" ++ value }

-- a line behind a component belongs to the component around it, and names are compared without case
small_tree : tree_of (lines_of small) ≡ Some (component (codes "VCALENDAR") (record {
  lines = plain (codes "VERSION") (codes "2.0") ∷ [];
  children = component (codes "VEVENT") (record { lines = plain (codes "UID") (codes "1") ∷ []; children = [] }) ∷ [];
}))
unfolding is_utf8 chars encode
small_tree = refl

-- two components beside one another stay two, in their order
side_by_side : tree_of (lines_of (codes "BEGIN:A\nBEGIN:B\nX:1\nEND:B\nBEGIN:B\nEND:B\nEND:A")) ≡ Some (component (codes "A") (record {
  lines = [];
  children = component (codes "B") (record { lines = plain (codes "X") (codes "1") ∷ []; children = [] })
      ∷ component (codes "B") (record { lines = []; children = [] }) ∷ [];
}))
unfolding is_utf8 chars encode
side_by_side = refl

abbrev fault_in : List ℕ → Option NestingFault
fault_in text = nesting_fault (lines_of text)

-- the innermost component that is open at the end
never_closed : (fault_in (codes "BEGIN:A\nBEGIN:B\nEND:B\nX:y") ≡ Some (unclosed 0)) × (fault_in (codes "BEGIN:A\nBEGIN:B\nX:y") ≡ Some (unclosed 1))
unfolding is_utf8 chars encode
never_closed = (refl, refl)

no_lines : nesting_fault [] ≡ Some (unclosed 0)
no_lines = refl

-- the first line has to be a BEGIN
no_begin : (fault_in (codes "X:y\nBEGIN:A\nEND:A") ≡ Some (wrong_end 0)) × (fault_in (codes "END:A") ≡ Some (wrong_end 0))
unfolding is_utf8 chars encode
no_begin = (refl, refl)

-- an END closes the innermost component, and no other
other_end : fault_in (codes "BEGIN:A\nBEGIN:B\nEND:A\nEND:B") ≡ Some (wrong_end 2)
unfolding is_utf8 chars encode
other_end = refl

-- nothing stands behind the outermost END, a BEGIN neither
line_behind : (fault_in (codes "BEGIN:A\nEND:a\nBEGIN:B") ≡ Some (wrong_end 2)) × (fault_in (codes "BEGIN:A\nEND:A\nX:y") ≡ Some (wrong_end 2))
unfolding is_utf8 chars encode
line_behind = (refl, refl)

-- four components may be open, not five, whatever comes behind
fifth : (fault_in (codes "BEGIN:A\nBEGIN:A\nBEGIN:A\nBEGIN:A\nBEGIN:A\nEND:B") ≡ Some (too_deep 4)) × (fault_in (codes "BEGIN:A\nBEGIN:A\nBEGIN:A\nBEGIN:A\nEND:A\nEND:A\nEND:A\nEND:A") ≡ None)
unfolding is_utf8 chars encode
fifth = (refl, refl)
