-- The grammars of lines and of nesting as the standard prints them (RFC 5545, 3.1 and 3.4), and the law that ties that of lines to
-- the definition that computes. One thing is told elsewhere: a value here has any octets, since `ContentLines.is_refused` says of
-- each physical line which characters it cannot have. It takes DEL, which the standard's grammar leaves out, and refuses U+FFFE and
-- U+FFFF, which that grammar has.
use Rattle.std.specs.Prelude.{◌≡◌, ℕ, ◌≤◌, Bool, not, ◌==◌, if◌then◌else◌, ◌||◌, nat_eq, List, [], ◌∷◌, ◌++◌, map, flat_map, length, Some, None, Ok, All, ◌↔◌, IsTrue, IsFalse}
use Rattle.std.specs.List.{list_any, ends_with, join_with_byte}
use Rattle.cal_base.specs.declared.line.Param.{Param}
use Rattle.cal_base.specs.declared.line.Line.{Line}
use Rattle.cal_base.specs.declared.line.Node.{Node}
use Rattle.cal_base.specs.Texts.Text.{raised_all}
use Rattle.cal_base.specs.Texts.Octets.{line_feed, double_quote, comma, colon, semicolon, equals_sign}
use Rattle.cal_base.specs.Lines.ContentLines.{is_name, is_special, line_of, read_lines}
use Rattle.cal_base.specs.Lines.ComponentTrees.{is_begin, is_end, component_name, nesting_fault, tree_of, component}

-- Lines as they are written

-- a parameter's value with or without its quotes
pub record WrittenValue : Type 0 where
  pub quoted : Bool
  pub text : List ℕ

pub record WrittenParam : Type 0 where
  pub name : List ℕ
  pub values : List WrittenValue

pub record WrittenLine : Type 0 where
  pub name : List ℕ
  pub params : List WrittenParam
  pub value : List ℕ

-- in quotes a text without quotes, else a text with none of `" ; : ,`
abbrev pub is_value : WrittenValue → Bool
is_value value = if value.quoted then not (list_any (λ octet. octet == double_quote) value.text) else not (list_any is_special value.text)

abbrev pub IsParam : WrittenParam → Type 0
IsParam param = IsTrue (is_name param.name) × (1 ≤ length param.values) × All (λ value. IsTrue (is_value value)) param.values

abbrev pub IsWritten : WrittenLine → Type 0
IsWritten line = IsTrue (is_name line.name) × All IsParam line.params

abbrev pub value_text : WrittenValue → List ℕ
value_text value = if value.quoted then double_quote ∷ value.text ++ double_quote ∷ [] else value.text

-- ";" name "=" value *("," value)
abbrev pub param_text : WrittenParam → List ℕ
param_text param = semicolon ∷ param.name ++ equals_sign ∷ join_with_byte comma (map value_text param.values)

-- name *(";" param) ":" value
abbrev pub line_text : WrittenLine → List ℕ
line_text line = line.name ++ flat_map param_text line.params ++ colon ∷ line.value

abbrev pub param_meant : WrittenParam → Param
param_meant param = record { name = raised_all param.name; values = map (λ (value : WrittenValue). value.text) param.values }

abbrev pub line_meant : WrittenLine → Line
line_meant line = record { name = raised_all line.name; params = map param_meant line.params; value = line.value; raw = line_text line }

-- a text is a line exactly where it is the text of a written one
abbrev pub LinesAreTheGrammar : Type 0
LinesAreTheGrammar = (raw : List ℕ) (line : Line) → (line_of raw ≡ Some line) ↔ ((as_written : WrittenLine) × IsWritten as_written × (line_text as_written ≡ raw) × (line_meant as_written ≡ line))

-- Nesting

-- `BEGIN:name`, then lines and components in any order, then `END:name`
mutual
  pub data IsComponent : List Line → Node → Type 0 where
    whole : (begin end : Line) (body lines : List Line) (children : List Node) → IsTrue (is_begin begin) → IsTrue (is_end end) → component_name begin ≡ component_name end → IsBody body lines children → IsComponent (begin ∷ body ++ end ∷ []) (component (component_name begin) (record { lines = lines; children = children }))

  pub data IsBody : List Line → List Line → List Node → Type 0 where
    empty : IsBody [] [] []
    own_line : (first : Line) (body lines : List Line) (children : List Node) → IsFalse (is_begin first) → IsFalse (is_end first) → IsBody body lines children → IsBody (first ∷ body) (first ∷ lines) children
    own_component : (part body lines : List Line) (first : Node) (children : List Node) → IsComponent part first → IsBody body lines children → IsBody (part ++ body) lines (first ∷ children)

-- Writing and printing

-- a line that is read from its own text
abbrev pub IsReadLine : Line → Type 0
IsReadLine line = read_lines line.raw ≡ Ok (line ∷ [])

-- a text that is one line of the grammar
abbrev pub IsLineText : List ℕ → Type 0
IsLineText raw = (line : Line) × (line.raw ≡ raw) × IsReadLine line

-- a text behind which a line can be written: it is empty, or its last line has its end
abbrev pub EndsLine : List ℕ → Type 0
EndsLine text = IsTrue ((length text == 0) || ends_with nat_eq text (line_feed ∷ []))

-- a tree of lines that are each read from their own text
abbrev pub IsBuilt : Node → Type 0
IsBuilt node = (lines : List Line) × All IsReadLine lines × (nesting_fault lines ≡ None) × (tree_of lines ≡ Some node)

-- a text is read as lines that make up a tree
abbrev pub IsReadAs : List ℕ → Node → Type 0
IsReadAs octets node = (lines : List Line) × (read_lines octets ≡ Ok lines) × (nesting_fault lines ≡ None) × (tree_of lines ≡ Some node)
