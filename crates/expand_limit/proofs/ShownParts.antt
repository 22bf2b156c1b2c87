-- The text of a component is made of that of its lines and of the components in it.
use Rattle.std.proofs.Common.{◌≡◌, ℕ, Bool, true, false, List, [], ◌∷◌, ◌++◌, map, Option, Some, None, refl, sym, ap, ap₂, ◌∙◌, append-nil}
use Rattle.std.specs.Prelude.{◌&&◌, not, if◌then◌else◌, flat_map, bytes_eq, codes}
use Rattle.std.specs.List.{concat, list_any}
use Rattle.std.proofs.lemmas.Bool.{cond-false}
use Rattle.std.proofs.lemmas.List.Folds.{flat_map-map}
use Rattle.cal_base.specs.declared.line.Line.{Line}
use Rattle.cal_base.specs.declared.line.Node.{Node}
use Rattle.cal_base.specs.declared.line.Node.TheOpen.{Node-F}
use Rattle.cal_base.specs.declared.line.Node.TheViews.{out-Node, roll-out-Node}
use Rattle.cal_base.specs.Lines.ComponentTrees.{component, printed}
use Rattle.cal_base.specs.Lines.WrittenLines.{written, written_line}
use Rattle.cal_model.specs.declared.row.Range.{Range}
use Rattle.cal_model.specs.declared.selection.PropPick.{PropPick}
use Rattle.cal_model.specs.declared.selection.CompPick.{CompPick}
use Rattle.cal_model.specs.Objects.ComponentLines.{name_of, lines_of, children_of}
use Rattle.cal_model.specs.Selections.Expansion.{plain, plain_lines}
use Rattle.cal_model.specs.Selections.Picks.{Picked, picked, picked_line, picked_child, child_by, comp_picks, prop_picks, line_by, without_value}
use Rattle.cal_model.specs.Selections.ShownData.{busy_shown}
use Rattle.cal_model.specs.Words.Lists.{is_empty}
use Rattle.cal_model.proofs.Filters.FilterLemmas.{printed_roll, picked_roll, plain_roll, busy_limited_roll}
use Rattle.shown_lines.specs.declared.portion.Portion.TheVariants.{Nothing, Header, Whole}
use Rattle.shown_lines.specs.Portions.{shown_of, written_portion}
use Rattle.expand_limit.specs.KeptParts.{portion_by}
use Rattle.expand_limit.specs.ShownTexts.{limited_line, line_text, node_text, body_text, seen_lines, seen_nodes}
use Rattle.expand_limit.proofs.ListSteps.{flat-flat, flat_map-same, map-same, flat_map-alone}

-- One component

concat-printed : (nodes : List Node) → concat (map printed nodes) ≡ flat_map printed nodes
concat-printed [] = refl
concat-printed (node ∷ nodes) = ap (λ rest. printed node ++ rest) (concat-printed nodes)

abbrev picked_text : List CompPick → Line → List ℕ
picked_text picks line = flat_map written_line (picked_line picks line)

abbrev child_text : List CompPick → Node → List ℕ
child_text picks node = flat_map printed (picked_child picks (picked node))

abbrev parts_text : List ℕ → List ℕ → List ℕ → List ℕ
parts_text name lines children = ((written (codes "BEGIN:" ++ name) ++ lines) ++ children) ++ written (codes "END:" ++ name)

kept_text : (picks : List CompPick) (name : List ℕ) (lines : List Line) (children : List Node)
    → printed ((picked (component name (record { lines = lines; children = children }))).kept picks) ≡ parts_text name (flat_map (picked_text picks) lines) (flat_map (child_text picks) children)
kept_text picks name lines children =
    let x : Node-F Node = record { name = name; lines = lines; children = children } in
    let those = flat_map (picked_child picks) (map picked children) in
    let y : Node-F Node = record { name = name; lines = flat_map (picked_line picks) lines; children = those } in
    ap (λ (p : Picked). printed (p.kept picks)) (picked_roll x) ∙ printed_roll y
    ∙ ap₂ (parts_text name) (flat-flat (picked_line picks) written_line lines)
    (concat-printed those ∙ flat-flat (picked_child picks) printed (map picked children) ∙ flat_map-map (λ p. flat_map printed (picked_child picks p)) picked children)

pub limited_component : (busy : Option Range) (name : List ℕ) (lines : List Line) (children : List Node)
    → busy_shown busy (component name (record { lines = lines; children = children })) ≡ component name (record { lines = flat_map (limited_line busy) lines; children = map (busy_shown busy) children })
limited_component None name lines children =
    ap₂ (λ ls cs. component name (record { lines = ls; children = cs })) (sym (flat_map-alone lines)) (sym (map-same (busy_shown None) (λ node. refl) children))
limited_component (Some range) name lines children = busy_limited_roll range (record { name = name; lines = lines; children = children })

pub body-text : (picks : List CompPick) (busy : Option Range) (name : List ℕ) (lines : List Line) (children : List Node)
    → printed ((picked (busy_shown busy (component name (record { lines = lines; children = children })))).kept picks) ≡ body_text picks busy name lines children
body-text picks busy name lines children =
    ap (λ node. printed ((picked node).kept picks)) (limited_component busy name lines children)
    ∙ kept_text picks name (flat_map (limited_line busy) lines) (map (busy_shown busy) children)
    ∙ ap₂ (parts_text name)
    (flat-flat (limited_line busy) (picked_text picks) lines
    ∙ flat_map-same (λ line. flat_map (picked_text picks) (limited_line busy line)) (line_text picks busy) (λ line. sym (flat-flat (picked_line picks) written_line (limited_line busy line))) lines)
    (flat_map-map (child_text picks) (busy_shown busy) children)

picked_name : (busy : Option Range) (name : List ℕ) (lines : List Line) (children : List Node) → (picked (busy_shown busy (component name (record { lines = lines; children = children })))).name ≡ name
picked_name busy name lines children =
    ap (λ node. (picked node).name) (limited_component busy name lines children)
    ∙ ap (λ (p : Picked). p.name) (picked_roll (record { name = name; lines = flat_map (limited_line busy) lines; children = map (busy_shown busy) children }))

-- A component in another

abbrev by_test : Bool → List CompPick → Picked → List Node
by_test b picks child = elim b [ true ↦ [] | false ↦ child.kept picks ∷ [] ]

pub node_text-component : (picks : List CompPick) (busy : Option Range) (name : List ℕ) (lines : List Line) (children : List Node) → is_empty (flat_map (comp_picks name) picks) ≡ false
    → node_text picks busy (component name (record { lines = lines; children = children })) ≡ body_text (flat_map (comp_picks name) picks) busy name lines children
node_text-component picks busy name lines children some =
    let child = picked (busy_shown busy (component name (record { lines = lines; children = children }))) in
    let wanted = flat_map (comp_picks name) picks in
    ap (λ n. flat_map printed (child_by (flat_map (comp_picks n) picks) child)) (picked_name busy name lines children)
    ∙ ap (λ b. flat_map printed (by_test b wanted child)) some
    ∙ append-nil (printed (child.kept wanted))
    ∙ body-text wanted busy name lines children

-- What is seen of a component

abbrev pub is_zone : Node → Bool
is_zone node = bytes_eq (name_of node) (codes "VTIMEZONE")

pub node-component : (node : Node) → node ≡ component (name_of node) (record { lines = lines_of node; children = children_of node })
node-component node = sym (roll-out-Node node)

plain_of : (node : Node) → plain node ≡ (if is_zone node then [] else component (name_of node) (record { lines = plain_lines (lines_of node); children = flat_map plain (children_of node) }) ∷ [])
plain_of node =
    ap plain (node-component node) ∙ plain_roll (out-Node node)
    ∙ ap (λ those. if is_zone node then [] else component (name_of node) (record { lines = plain_lines (lines_of node); children = those }) ∷ []) (flat_map-map (λ (nodes : List Node). nodes) plain (children_of node))

abbrev seen_component : Bool → Node → Node
seen_component without node = component (name_of node) (record { lines = seen_lines without (lines_of node); children = seen_nodes without (children_of node) })

seen_one : (without : Bool) (node : Node) → (without && is_zone node) ≡ false → seen_nodes without (node ∷ []) ≡ seen_component without node ∷ []
seen_one true node other = append-nil (plain node) ∙ plain_of node ∙ cond-false _ _ _ other
seen_one false node other = ap (λ n. n ∷ []) (node-component node)

-- the text of a component that is seen and kept
pub child-text : (picks : List CompPick) (busy : Option Range) (without : Bool) (node : Node) → (without && is_zone node) ≡ false → is_empty (flat_map (comp_picks (name_of node)) picks) ≡ false
    → flat_map (node_text picks busy) (seen_nodes without (node ∷ [])) ≡ body_text (flat_map (comp_picks (name_of node)) picks) busy (name_of node) (seen_lines without (lines_of node)) (seen_nodes without (children_of node))
child-text picks busy without node other some =
    ap (flat_map (node_text picks busy)) (seen_one without node other) ∙ append-nil (node_text picks busy (seen_component without node))
    ∙ node_text-component picks busy (name_of node) (seen_lines without (lines_of node)) (seen_nodes without (children_of node)) some

-- Lines

line_by-portion : (picks : List PropPick) (line : Line) → line_by picks line ≡ shown_of (portion_by picks) line
line_by-portion picks line = cases (is_empty picks) (list_any (λ (prop : PropPick). not prop.no_value) picks)
  where
    cases : (none whole : Bool) → (if none then [] else (if whole then line ∷ [] else without_value line ∷ [])) ≡ shown_of (if none then Nothing else (if whole then Whole else Header)) line
    cases true whole = refl
    cases false true = refl
    cases false false = refl

-- a line whose name decides how much is kept of it
pub picked_line-portion : (picks : List CompPick) (line : Line) → flat_map written_line (picked_line picks line) ≡ written_portion (portion_by (flat_map (prop_picks line.name) picks)) line
picked_line-portion picks line = ap (flat_map written_line) (line_by-portion (flat_map (prop_picks line.name) picks) line)

-- what is limited of a line of another name
limited_other : (busy : Option Range) (line : Line) → bytes_eq line.name (codes "FREEBUSY") ≡ false → limited_line busy line ≡ line ∷ []
limited_other None line other = refl
limited_other (Some range) line other = cond-false (bytes_eq line.name (codes "FREEBUSY")) _ _ other

-- the text of a line that is no FREEBUSY
pub other_line-text : (picks : List CompPick) (busy : Option Range) (line : Line) → bytes_eq line.name (codes "FREEBUSY") ≡ false → line_text picks busy line ≡ written_portion (portion_by (flat_map (prop_picks line.name) picks)) line
other_line-text picks busy line other =
    ap (λ those. flat_map written_line (flat_map (picked_line picks) those)) (limited_other busy line other)
    ∙ ap (flat_map written_line) (append-nil (picked_line picks line)) ∙ picked_line-portion picks line
