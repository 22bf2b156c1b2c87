-- What is written of a tree, part by part.
use Rattle.std.proofs.Common.{◌≡◌, ℕ, ◌+◌, ◌<◌, suc, zero, length, take, drop, get_or, arith, add-one, Result, Err, List, [], ◌∷◌, ◌++◌, map, Ok, sym, ap, ◌∙◌, subst, append_assoc, append-nil}
use Rattle.std.specs.Prelude.{flat_map, codes, OnOk}
use Rattle.std.specs.List.{AllByRecursion, concat}
use Rattle.std.proofs.lemmas.List.{take_more, map-append}
use Rattle.std.proofs.lemmas.List.Folds.{concat-append}
use Rattle.std.proofs.Math.Seq.{drop-cons}
use Rattle.std.proofs.lemmas.Grind.{flat_map-append}
use Rattle.cal_base.specs.declared.line.Node.TheOpen.{Node-F}
use Rattle.cal_base.specs.declared.line.Line.{Line}
use Rattle.cal_base.specs.declared.line.Node.{Node}
use Rattle.cal_base.specs.declared.line.Node.TheViews.{out-Node, roll-Node, out-roll-Node}
use Rattle.cal_base.specs.declared.line.Node.TheFolds.{fold_out-Node}
use Rattle.cal_base.specs.Lines.ContentLines.{read_lines}
use Rattle.cal_base.specs.Lines.ComponentTrees.{print_step, printed}
use Rattle.cal_base.specs.Lines.WrittenLines.{written, written_line}
use Rattle.cal_base.specs.Lines.LineGrammar.{IsReadLine, EndsLine}
use Rattle.ical_objects.specs.Printing.{begin_line, end_line, lines_step, lines_of_tree, AddsLines, IsOwnLine, IsPrintable, printable, ArePrintable, no_more, one_more}
use Rattle.ical_objects.proofs.PrintedTrees.{lines_of_trees}

pub AddsLines-none : (old : List ℕ) → AddsLines old [] old
AddsLines-none old before ends read = (ends, read ∙ ap Ok (sym (append-nil before)))

-- what `write_line` does
pub AddsLines-one : (old new raw : List ℕ) (line : Line) → EndsLine new → ((before : List Line) (one : Line) → EndsLine old → read_lines old ≡ Ok before → one.raw ≡ raw → IsReadLine one → read_lines new ≡ Ok (before ++ one ∷ []))
    → line.raw ≡ raw → IsReadLine line → AddsLines old (line ∷ []) new
AddsLines-one old new raw line ends read_back same read before ends_before read_before = (ends, read_back before line ends_before read_before same read)

pub AddsLines-then : (old middle new : List ℕ) (first second : List Line) → AddsLines old first middle → AddsLines middle second new → AddsLines old (first ++ second) new
AddsLines-then old middle new first second one other before ends read =
    let now = one before ends read in
    let then_on = other (before ++ first) now.0 now.1 in
    (then_on.0, then_on.1 ∙ ap Ok (append_assoc before first second))

pub printed_out : (node : Node) → printed node ≡ written (codes "BEGIN:" ++ (out-Node node).name) ++ flat_map written_line (out-Node node).lines ++ concat (map printed (out-Node node).children) ++ written (codes "END:" ++ (out-Node node).name)
printed_out = fold_out-Node (List ℕ) print_step

pub lines_of_tree_out : (node : Node) → lines_of_tree node ≡ begin_line (out-Node node).name ∷ (out-Node node).lines ++ lines_of_trees (out-Node node).children ++ end_line (out-Node node).name ∷ []
lines_of_tree_out = fold_out-Node (List Line) lines_step

-- what a tree that can be printed has
pub record IsPrintableOut (node : Node) : Type 0 where
  pub begin_read : IsReadLine (begin_line (out-Node node).name)
  pub end_read : IsReadLine (end_line (out-Node node).name)
  pub own : AllByRecursion IsOwnLine (out-Node node).lines
  pub levels : ℕ
  pub fit : ArePrintable levels (out-Node node).children

pub IsPrintable_out : (levels : ℕ) (node : Node) → IsPrintable levels node → IsPrintableOut node
IsPrintable_out levels node (printable room name level is_raised read_begin read_end own fit) =
    let out : out-Node (roll-Node (record { name = name; lines = level.lines; children = level.children })) ≡ record { name = name; lines = level.lines; children = level.children } =
    out-roll-Node (record { name = name; lines = level.lines; children = level.children }) in
    record {
      begin_read = subst (λ (x : Node-F Node). IsReadLine (begin_line x.name)) (sym out) read_begin;
      end_read = subst (λ (x : Node-F Node). IsReadLine (end_line x.name)) (sym out) read_end;
      own = subst (λ (x : Node-F Node). AllByRecursion IsOwnLine x.lines) (sym out) own;
      levels = room;
      fit = subst (λ (x : Node-F Node). ArePrintable room x.children) (sym out) fit;
    }

-- An item of a list

pub take_more_at : {X : Type 0} (xs : List X) (i : ℕ) (x : X) → i < length xs → x ≡ get_or xs i x → take (i + 1) xs ≡ take i xs ++ x ∷ []
take_more_at xs i x within here = take_more xs i x within ∙ ap (λ y. take i xs ++ y ∷ []) (sym here)

pub AllByRecursion-at : {X : Type 0} (P : X → Type 0) (xs : List X) (i : ℕ) (x : X) → AllByRecursion P xs → i < length xs → x ≡ get_or xs i x → P x
AllByRecursion-at P [] i x all within here = absurd (omega (arith, within))
AllByRecursion-at P (y ∷ ys) zero x all within here = subst P (sym here) all.0
AllByRecursion-at P (y ∷ ys) (suc i) x all within here = AllByRecursion-at P ys i x all.1 (omega (arith, within)) here

-- one line more of a component is written
pub written_more : (old out new raw : List ℕ) (lines : List Line) (i : ℕ) (line : Line) → i < length lines → line ≡ get_or lines i line → out ≡ old ++ flat_map written_line (take i lines) → new ≡ out ++ written raw → raw ≡ line.raw
    → new ≡ old ++ flat_map written_line (take (i + 1) lines)
written_more old out new raw lines i line within here so_far now same =
    now ∙ ap (λ text. out ++ written text) same ∙ ap (λ text. text ++ written_line line) so_far ∙ append_assoc old (flat_map written_line (take i lines)) (written_line line)
    ∙ ap (λ text. old ++ text) (ap (λ text. flat_map written_line (take i lines) ++ text) (sym (append-nil (written_line line))) ∙ sym (flat_map-append written_line (take i lines) (line ∷ [])) ∙ ap (flat_map written_line) (sym (take_more_at lines i line within here)))

-- The components of a component

first_printable : (levels : ℕ) (nodes : List Node) (child : Node) (others : List Node) → ArePrintable levels nodes → nodes ≡ child ∷ others → IsPrintable levels child × ArePrintable levels others
first_printable levels nodes child others (no_more room) same = cc
first_printable levels nodes child others (one_more room first rest fits fit) same =
    let same_first : first ≡ child = cc in
    let same_rest : rest ≡ others = cc in
    (subst (IsPrintable room) same_first fits, subst (ArePrintable room) same_rest fit)

pub ArePrintable-at : (levels : ℕ) (nodes : List Node) (i : ℕ) (child : Node) → ArePrintable levels (drop i nodes) → i < length nodes → child ≡ get_or nodes i child → IsPrintable levels child × ArePrintable levels (drop (i + 1) nodes)
ArePrintable-at levels nodes i child fit within here =
    let now : drop i nodes ≡ child ∷ drop (i + 1) nodes = drop-cons nodes i child within ∙ ap (λ first. first ∷ drop (suc i) nodes) (sym here) ∙ ap (λ next. child ∷ drop next nodes) (sym (add-one i)) in
    first_printable levels (drop i nodes) child (drop (i + 1) nodes) fit now

-- one component more is written
pub text_more : (old out new : List ℕ) (nodes : List Node) (i : ℕ) (child : Node) → i < length nodes → child ≡ get_or nodes i child → out ≡ old ++ concat (map printed (take i nodes)) → new ≡ out ++ printed child
    → new ≡ old ++ concat (map printed (take (i + 1) nodes))
text_more old out new nodes i child within here so_far now =
    now ∙ ap (λ text. text ++ printed child) so_far ∙ append_assoc old (concat (map printed (take i nodes))) (printed child)
    ∙ ap (λ text. old ++ text) (ap (λ text. concat (map printed (take i nodes)) ++ text) (sym (append-nil (printed child))) ∙ sym (concat-append (map printed (take i nodes)) (printed child ∷ []))
    ∙ ap concat (sym (map-append printed (take i nodes) (child ∷ []))) ∙ ap (λ these. concat (map printed these)) (sym (take_more_at nodes i child within here)))

lines_of_trees-more : (nodes : List Node) (i : ℕ) (child : Node) → i < length nodes → child ≡ get_or nodes i child → lines_of_trees (take i nodes) ++ lines_of_tree child ≡ lines_of_trees (take (i + 1) nodes)
lines_of_trees-more nodes i child within here =
    ap (λ lines. lines_of_trees (take i nodes) ++ lines) (sym (append-nil (lines_of_tree child)))
    ∙ sym (flat_map-append (λ lines. lines) (map lines_of_tree (take i nodes)) (lines_of_tree child ∷ []))
    ∙ ap (flat_map (λ lines. lines)) (sym (map-append lines_of_tree (take i nodes) (child ∷ [])))
    ∙ ap lines_of_trees (sym (take_more_at nodes i child within here))

pub lines_more : (old out new : List ℕ) (nodes : List Node) (i : ℕ) (child : Node) → i < length nodes → child ≡ get_or nodes i child → AddsLines old (lines_of_trees (take i nodes)) out → AddsLines out (lines_of_tree child) new
    → AddsLines old (lines_of_trees (take (i + 1) nodes)) new
lines_more old out new nodes i child within here so_far now =
    subst (λ lines. AddsLines old lines new) (lines_of_trees-more nodes i child within here) (AddsLines-then old out new (lines_of_trees (take i nodes)) (lines_of_tree child) so_far now)

-- A whole component

pub text_of_parts : (node : Node) (old begun with_lines with_children new : List ℕ) → begun ≡ old ++ written (codes "BEGIN:" ++ (out-Node node).name) → with_lines ≡ begun ++ flat_map written_line (out-Node node).lines
    → with_children ≡ with_lines ++ concat (map printed (out-Node node).children) → new ≡ with_children ++ written (codes "END:" ++ (out-Node node).name) → new ≡ old ++ printed node
text_of_parts node old begun with_lines with_children new first second third fourth =
    let begin = written (codes "BEGIN:" ++ (out-Node node).name) in
    let own = flat_map written_line (out-Node node).lines in
    let inside = concat (map printed (out-Node node).children) in
    let end = written (codes "END:" ++ (out-Node node).name) in
    fourth ∙ ap (λ text. text ++ end) (third ∙ ap (λ text. text ++ inside) (second ∙ ap (λ text. text ++ own) first))
    ∙ ap (λ text. (text ++ inside) ++ end) (append_assoc old begin own) ∙ ap (λ text. text ++ end) (append_assoc old (begin ++ own) inside) ∙ append_assoc old ((begin ++ own) ++ inside) end
    ∙ ap (λ text. old ++ text) (sym (printed_out node))

pub lines_of_parts : (node : Node) (old begun with_lines with_children new : List ℕ) → AddsLines old (begin_line (out-Node node).name ∷ []) begun → AddsLines begun (out-Node node).lines with_lines
    → AddsLines with_lines (lines_of_trees (out-Node node).children) with_children → AddsLines with_children (end_line (out-Node node).name ∷ []) new → AddsLines old (lines_of_tree node) new
lines_of_parts node old begun with_lines with_children new first second third fourth =
    let begin = begin_line (out-Node node).name ∷ [] in
    let own = (out-Node node).lines in
    let inside = lines_of_trees (out-Node node).children in
    let end = end_line (out-Node node).name ∷ [] in
    subst (λ lines. AddsLines old lines new) (sym (lines_of_tree_out node))
    (AddsLines-then old with_children new ((begin ++ own) ++ inside) end
    (AddsLines-then old with_lines with_children (begin ++ own) inside (AddsLines-then old begun with_lines begin own first second) third) fourth)

pub OnOk-then : {X E : Type 0} {P Q : Type 0} (result : Result X E) → (P → Q) → OnOk result P → OnOk result Q
OnOk-then (Ok x) then_on holds = then_on holds
OnOk-then (Err e) then_on holds = holds
