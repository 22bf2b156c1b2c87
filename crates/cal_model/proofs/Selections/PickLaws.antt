-- What a selection that picks nothing, or everything, shows.
use Rattle.std.proofs.Common.{◌≡◌, List, [], ◌∷◌, map, refl, ap, ◌∙◌, subst}
use Rattle.std.specs.Prelude.{flat_map}
use denote.Hole.Carrier as H
use Rattle.cal_base.specs.declared.line.Line.{Line}
use Rattle.cal_base.specs.declared.line.Node.{Node}
use Rattle.cal_base.specs.declared.line.Node.TheOpen.{Node-F}
use Rattle.cal_base.specs.declared.line.Node.TheViews.{roll-Node}
use Rattle.cal_base.specs.declared.line.Node.TheFolds.{ind-Node}
use Rattle.cal_base.specs.Lines.ComponentTrees.{printed}
use Rattle.cal_model.specs.declared.selection.CompPick as P
use Rattle.cal_model.specs.declared.selection.CompPick.TheBlock as PB
use Rattle.cal_model.specs.Selections.ShownData.{shown}
use Rattle.cal_model.specs.Selections.Picks.{Picked, picked, everything, picked_line, picked_child}
use Rattle.cal_model.proofs.Filters.FilterLemmas.{picked_roll}

-- each line is kept whole
picked_line-everything : (line : Line) → picked_line (everything ∷ []) line ≡ line ∷ []
unfolding P.out-CompPick P.roll-CompPick PB.shown-the_row-CompPick-0 PB.hidden-the_row-CompPick-0 PB.shape-the_row-CompPick-0 H.out H.roll H.shown H.hidden
picked_line-everything line = refl

lines_kept : (lines : List Line) → flat_map (picked_line (everything ∷ [])) lines ≡ lines
lines_kept [] = refl
lines_kept (line ∷ lines) = rw (picked_line-everything line) (ap (λ ls. line ∷ ls) (lines_kept lines))

-- each component in it is asked for everything
picked_child-everything : (child : Picked) → picked_child (everything ∷ []) child ≡ child.kept (everything ∷ []) ∷ []
unfolding P.out-CompPick P.roll-CompPick PB.shown-the_row-CompPick-0 PB.hidden-the_row-CompPick-0 PB.shape-the_row-CompPick-0 H.out H.roll H.shown H.hidden
picked_child-everything child = refl

abbrev pub IsKept : Node → Type 0
IsKept node = (picked node).kept (everything ∷ []) ≡ node

children_kept : (es : List ((node : Node) × IsKept node)) → flat_map (picked_child (everything ∷ [])) (map picked (map (λ e. e.0) es)) ≡ map (λ e. e.0) es
children_kept [] = refl
children_kept (e ∷ es) = rw (picked_child-everything (picked e.0)) (ap (λ n. n ∷ flat_map (picked_child (everything ∷ [])) (map picked (map (λ d. d.0) es))) e.1 ∙ ap (λ ns. e.0 ∷ ns) (children_kept es))

roll_kept : (x : Node-F Node) → flat_map (picked_child (everything ∷ [])) (map picked x.children) ≡ x.children → IsKept (roll-Node x)
roll_kept x h = rw (picked_roll x) (rw (lines_kept x.lines) (rw h refl))

-- the pick of everything keeps a component as it is
pub kept-everything : (node : Node) → IsKept node
kept-everything = ind-Node IsKept (λ x y is. roll_kept x (subst (λ (z : Node-F Node). flat_map (picked_child (everything ∷ [])) (map picked z.children) ≡ z.children) is (children_kept y.children)))

-- so what is printed of it is the printed component
pub printed-everything : (node : Node) → printed ((picked node).kept (everything ∷ [])) ≡ printed node
printed-everything node = ap printed (kept-everything node)
