-- Lines without a fault of nesting make up one tree, which is nested as the standard has it and can be printed.
use Rattle.std.proofs.Common.{◌≡◌, ℕ, ◌+◌, ◌-◌, ◌<◌, ◌≤◌, suc, Bool, true, false, not, List, [], ◌∷◌, ◌++◌, length, Option, Some, None, refl, sym, ap, ◌∙◌, subst, arith, append_assoc}
use Rattle.std.specs.Prelude.{nat_le, if◌then◌else◌, All}
use Rattle.std.specs.Str.{bytes_eq}
use Rattle.std.specs.List.{AllByRecursion}
use Rattle.std.proofs.lemmas.Bool.{leb-false, not-false}
use Rattle.std.proofs.lemmas.Slice.Eq.{bytes_eq-Decides}
use Rattle.cal_base.specs.declared.line.Line.{Line}
use Rattle.cal_base.specs.declared.line.Node.{Node}
use Rattle.cal_base.specs.Lines.ComponentTrees.{is_begin, is_end, component_name, NestingFault, wrong_end, too_deep, or_else, nesting_fault, tree_of, Level, nothing_more, component, with_line, with_begin, levels_before, outermost}
use Rattle.cal_base.specs.Lines.LineGrammar.{IsComponent, whole, IsBody, empty, own_line, own_component, IsReadLine, IsBuilt}
use Rattle.cal_base.specs.Lines.Nesting.{Opening, fault_of_next, open_behind, fault_from}
use Rattle.ical_objects.specs.Printing.{IsPrintable, printable, ArePrintable, no_more, one_more, IsOwnLine}
use Rattle.cal_base.proofs.Lines.NestingSteps.{Kind, begins, ends, neither, kind_of, open_behind_begin, open_behind_end, open_behind_own, fault_of_stray, fault_of_later, fault_of_begin, fault_of_end, before_begin, before_end, before_own}
use Rattle.cal_base.proofs.Lines.FaultsFromFront.{nesting_fault-from_front}
use Rattle.cal_base.proofs.Texts.RaisedTexts.{IsRaised-raised_all}
use Rattle.ical_objects.proofs.ComponentLines.{IsReadLine-begin_line, IsReadLine-end_line}

-- Lines in which the innermost open component has its END. `Outer` says the same of the components around it, of which there
-- are so many, and of what stands behind that END.
record IsClosed (Outer : List Line → List Level → Type 0) (name : List ℕ) (around : ℕ) (lines : List Line) (levels : List Level) : Type 0 where
  body : List Line
  end : Line
  behind : List Line
  level : Level
  outer : List Level
  room : ℕ
  lines_are : lines ≡ body ++ end ∷ behind
  levels_are : levels ≡ level ∷ outer
  room_is : room + suc around ≡ 4
  body_is : IsBody body level.lines level.children
  own : AllByRecursion IsOwnLine level.lines
  fit : ArePrintable room level.children
  end_is : is_end end ≡ true
  name_is : component_name end ≡ name
  others : Outer behind outer

-- lines that close the open components, with nothing behind the outermost END, and the levels before them
abbrev AreClosed : List Opening → List Line → List Level → Type 0
AreClosed [] lines levels = (lines ≡ []) × (levels ≡ nothing_more ∷ [])
AreClosed (opening ∷ around) lines levels = IsClosed (AreClosed around) opening.name (length around) lines levels

-- One line more in front

closed_own : (opening : Opening) (around : List Opening) (line : Line) (lines : List Line) (levels : List Level) → IsOwnLine line → AreClosed (opening ∷ around) lines levels
    → AreClosed (opening ∷ around) (line ∷ lines) (with_line line levels)
closed_own opening around line lines levels own closed =
    let levels_are : with_line line levels ≡ record closed.level { lines = line ∷ closed.level.lines } ∷ closed.outer = ap (with_line line) closed.levels_are in
    record {
      body = line ∷ closed.body;
      end = closed.end;
      behind = closed.behind;
      level = record closed.level { lines = line ∷ closed.level.lines };
      outer = closed.outer;
      room = closed.room;
      lines_are = ap (λ rest. line ∷ rest) closed.lines_are;
      levels_are = levels_are;
      room_is = closed.room_is;
      body_is = own_line line closed.body closed.level.lines closed.level.children own.1 own.2 closed.body_is;
      own = (own, closed.own);
      fit = closed.fit;
      end_is = closed.end_is;
      name_is = closed.name_is;
      others = closed.others;
    }

closed_end : (opening : Opening) (around : List Opening) (line : Line) (lines : List Line) (levels : List Level) → length (opening ∷ around) ≤ 4 → is_end line ≡ true → component_name line ≡ opening.name → AreClosed around lines levels
    → AreClosed (opening ∷ around) (line ∷ lines) (nothing_more ∷ levels)
closed_end opening around line lines levels few end name closed = record {
  body = [];
  end = line;
  behind = lines;
  level = nothing_more;
  outer = levels;
  room = 3 - length around;
  lines_are = refl;
  levels_are = refl;
  room_is = omega (arith, few);
  body_is = empty;
  own = tt;
  fit = no_more (3 - length around);
  end_is = end;
  name_is = name;
  others = closed;
}

regrouped : (body : List Line) (end : Line) (next behind : List Line) → body ++ end ∷ (next ++ behind) ≡ ((body ++ end ∷ []) ++ next) ++ behind
regrouped body end next behind = sym (append_assoc (body ++ end ∷ []) next behind ∙ append_assoc body (end ∷ []) (next ++ behind))

closed_begin : (opening : Opening) (around : List Opening) (number : ℕ) (line : Line) (lines : List Line) (levels : List Level) → IsReadLine line → is_begin line ≡ true
    → AreClosed (record { line = number; name = component_name line } ∷ opening ∷ around) lines levels → AreClosed (opening ∷ around) (line ∷ lines) (with_begin (component_name line) levels)
closed_begin opening around number line lines levels read begin closed =
    let rest : AreClosed (opening ∷ around) closed.behind closed.outer = closed.others in
    let name = component_name line in
    let child = component name closed.level in
    let part = line ∷ closed.body ++ closed.end ∷ [] in
    let room : suc closed.room ≡ rest.room = omega (arith, closed.room_is, rest.room_is) in
    let fits : IsPrintable rest.room child = subst (λ levels_left. IsPrintable levels_left child) room
    (printable closed.room name closed.level (IsRaised-raised_all line.value) (IsReadLine-begin_line line read) (IsReadLine-end_line line read) closed.own closed.fit) in
    record {
      body = part ++ rest.body;
      end = rest.end;
      behind = rest.behind;
      level = record rest.level { children = child ∷ rest.level.children };
      outer = rest.outer;
      room = rest.room;
      lines_are = ap (λ more. line ∷ more) (closed.lines_are ∙ ap (λ more. closed.body ++ closed.end ∷ more) rest.lines_are ∙ regrouped closed.body closed.end rest.body (rest.end ∷ rest.behind));
      levels_are = ap (with_begin name) (closed.levels_are ∙ ap (λ more. closed.level ∷ more) rest.levels_are);
      room_is = rest.room_is;
      body_is = own_component part rest.body rest.level.lines child rest.level.children
          (whole line closed.end closed.body closed.level.lines closed.level.children begin closed.end_is (sym closed.name_is) closed.body_is) rest.body_is;
      own = rest.own;
      fit = one_more rest.room child rest.level.children fits rest.fit;
      end_is = rest.end_is;
      name_is = rest.name_is;
      others = rest.others;
    }

-- Lines without a fault

none_first : (fault other : Option NestingFault) → or_else fault other ≡ None → fault ≡ None
none_first None other none = refl
none_first (Some fault) other none = none

none_then : (fault other : Option NestingFault) → or_else fault other ≡ None → other ≡ None
none_then None other none = none
none_then (Some fault) other none = cc

none_if : (b : Bool) (fault : NestingFault) → (if b then Some fault else None) ≡ None → b ≡ false
none_if true fault none = cc
none_if false fault none = refl

-- what the lines behind one line have, if that line has no fault
closed_step : (line : Line) (lines : List Line) (number : ℕ) (open_ones : List Opening) → 0 < number → length open_ones ≤ 4 → IsReadLine line → fault_of_next number open_ones line ≡ None → Kind line
    → (length (open_behind number open_ones line) ≤ 4 → AreClosed (open_behind number open_ones line) lines (levels_before lines)) → AreClosed open_ones (line ∷ lines) (levels_before (line ∷ lines))
closed_step line lines number [] later few read none kind closed = cc (fault_of_later number line later)
closed_step line lines number (opening ∷ around) later few read none (begins begin no_end) closed =
    let now = open_behind_begin number (opening ∷ around) line begin in
    let shallow : nat_le 4 (length (opening ∷ around)) ≡ false =
    none_if (nat_le 4 (length (opening ∷ around))) (too_deep number) (sym (fault_of_begin number opening around line begin no_end) ∙ none) in
    let deeper : length (opening ∷ around) < 4 = leb-false 4 (length (opening ∷ around)) shallow in
    let behind : AreClosed (record { line = number; name = component_name line } ∷ opening ∷ around) lines (levels_before lines) =
    subst (λ ones. AreClosed ones lines (levels_before lines)) now (closed (subst (λ ones. length ones ≤ 4) (sym now) deeper)) in
    subst (AreClosed (opening ∷ around) (line ∷ lines)) (sym (before_begin line (levels_before lines) begin)) (closed_begin opening around number line lines (levels_before lines) read begin behind)
closed_step line lines number (opening ∷ around) later few read none (ends no_begin end) closed =
    let now = open_behind_end number (opening ∷ around) line no_begin end in
    let same : not (bytes_eq (component_name line) opening.name) ≡ false =
    none_if (not (bytes_eq (component_name line) opening.name)) (wrong_end number) (sym (fault_of_end number opening around line no_begin end) ∙ none) in
    let behind : AreClosed around lines (levels_before lines) =
    subst (λ ones. AreClosed ones lines (levels_before lines)) now (closed (subst (λ ones. length ones ≤ 4) (sym now) (omega (arith, few)))) in
    subst (AreClosed (opening ∷ around) (line ∷ lines)) (sym (before_end line (levels_before lines) no_begin end))
    (closed_end opening around line lines (levels_before lines) few end ((bytes_eq-Decides (component_name line) opening.name).0 (not-false (bytes_eq (component_name line) opening.name) same)) behind)
closed_step line lines number (opening ∷ around) later few read none (neither no_begin no_end) closed =
    let now = open_behind_own number (opening ∷ around) line no_begin no_end in
    let behind : AreClosed (opening ∷ around) lines (levels_before lines) =
    subst (λ ones. AreClosed ones lines (levels_before lines)) now (closed (subst (λ ones. length ones ≤ 4) (sym now) few)) in
    subst (AreClosed (opening ∷ around) (line ∷ lines)) (sym (before_own line (levels_before lines) no_begin no_end))
    (closed_own opening around line lines (levels_before lines) (read, no_begin, no_end) behind)

closed_lines : (lines : List Line) (number : ℕ) (open_ones : List Opening) → 0 < number → length open_ones ≤ 4 → AllByRecursion IsReadLine lines → fault_from number open_ones lines ≡ None
    → AreClosed open_ones lines (levels_before lines)
closed_lines [] number [] later few read none = (refl, refl)
closed_lines [] number (opening ∷ around) later few read none = cc
closed_lines (line ∷ lines) number open_ones later few read none =
    let behind = fault_from (suc number) (open_behind number open_ones line) lines in
    closed_step line lines number open_ones later few read.0 (none_first (fault_of_next number open_ones line) behind none) (kind_of line)
    (λ still_few. closed_lines lines (suc number) (open_behind number open_ones line) (omega arith) still_few read.1 (none_then (fault_of_next number open_ones line) behind none))

AllByRecursion-All : {X : Type 0} (P : X → Type 0) (xs : List X) → All P xs → AllByRecursion P xs
AllByRecursion-All P [] all = tt
AllByRecursion-All P (x ∷ xs) all = (all 0 x (omega arith), AllByRecursion-All P xs (λ k d within. all (suc k) d (omega arith)))

-- a tree of these lines, nested as the standard has it, that can be printed
pub record IsTreeOf (lines : List Line) (node : Node) : Type 0 where
  pub tree_is : tree_of lines ≡ Some node
  pub nested : IsComponent lines node
  pub printed : IsPrintable 4 node

tree_of_closed : (line : Line) (lines : List Line) → IsReadLine line → is_begin line ≡ true → AreClosed (record { line = 0; name = component_name line } ∷ []) lines (levels_before lines) → (node : Node) × IsTreeOf (line ∷ lines) node
tree_of_closed line lines read begin closed =
    let name = component_name line in
    let node = component name closed.level in
    let levels : levels_before lines ≡ closed.level ∷ nothing_more ∷ [] = closed.levels_are ∙ ap (λ outer. closed.level ∷ outer) closed.others.1 in
    let all : line ∷ lines ≡ line ∷ closed.body ++ closed.end ∷ [] = ap (λ more. line ∷ more) (closed.lines_are ∙ ap (λ more. closed.body ++ closed.end ∷ more) closed.others.0) in (
      node,
      record {
        tree_is = ap outermost (before_begin line (levels_before lines) begin ∙ ap (with_begin name) levels);
        nested = subst (λ these. IsComponent these node) (sym all)
            (whole line closed.end closed.body closed.level.lines closed.level.children begin closed.end_is (sym closed.name_is) closed.body_is);
        printed = subst (λ levels_left. IsPrintable levels_left node) (let three : suc closed.room ≡ 4 = omega (arith, closed.room_is) in three)
            (printable closed.room name closed.level (IsRaised-raised_all line.value) (IsReadLine-begin_line line read) (IsReadLine-end_line line read) closed.own closed.fit);
      },
    )

tree_of_first : (line : Line) (lines : List Line) → Kind line → AllByRecursion IsReadLine (line ∷ lines) → fault_from 0 [] (line ∷ lines) ≡ None → (node : Node) × IsTreeOf (line ∷ lines) node
tree_of_first line lines (begins begin no_end) read none =
    let now = open_behind_begin 0 [] line begin in
    let behind = fault_from 1 (open_behind 0 [] line) lines in
    tree_of_closed line lines read.0 begin
    (closed_lines lines 1 (record { line = 0; name = component_name line } ∷ []) (omega arith) (omega arith) read.1
    (subst (λ ones. fault_from 1 ones lines ≡ None) now (none_then (fault_of_next 0 [] line) behind none)))
tree_of_first line lines (ends no_begin end) read none = cc (fault_of_stray 0 line no_begin, none_first (fault_of_next 0 [] line) (fault_from 1 (open_behind 0 [] line) lines) none)
tree_of_first line lines (neither no_begin no_end) read none = cc (fault_of_stray 0 line no_begin, none_first (fault_of_next 0 [] line) (fault_from 1 (open_behind 0 [] line) lines) none)

pub tree_of_faultless : (lines : List Line) → All IsReadLine lines → nesting_fault lines ≡ None → (node : Node) × IsTreeOf lines node
tree_of_faultless [] read none = cc
tree_of_faultless (line ∷ lines) read none =
    tree_of_first line lines (kind_of line) (AllByRecursion-All IsReadLine (line ∷ lines) read) (sym (nesting_fault-from_front (line ∷ lines)) ∙ none)

-- the tree that lines without a fault make up is nested as the standard has it
pub nested_tree : (lines : List Line) (node : Node) → All IsReadLine lines → nesting_fault lines ≡ None → tree_of lines ≡ Some node → IsComponent lines node
nested_tree lines node read none is_tree =
    let found = tree_of_faultless lines read none in
    let same : found.0 ≡ node = cc (found.1.tree_is) in
    subst (IsComponent lines) same found.1.nested

-- a tree that lines make up can be printed
pub IsPrintable-IsBuilt : (node : Node) → IsBuilt node → IsPrintable 4 node
IsPrintable-IsBuilt node built =
    let found = tree_of_faultless built.0 built.1 built.2 in
    let same : found.0 ≡ node = cc (found.1.tree_is, built.3) in
    subst (IsPrintable 4) same found.1.printed
