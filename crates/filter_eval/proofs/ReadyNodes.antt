-- One level of a component that was made ready, beside the component.
use Rattle.std.proofs.Common.{◌≡◌, ℕ, List, map, sym, ap, ◌∙◌, Option, Some, None}
use Rattle.std.specs.Prelude.{IfSome, option_map, unwrap_or}
use Rattle.std.specs.Borrow.{Bor}
use Rattle.std.specs.List.{slice_get}
use Rattle.std.specs.Option.{option_copied}
use Rattle.std.proofs.lemmas.Option.{slice_get-map}
use Rattle.cal_base.specs.declared.line.Node.{Node}
use Rattle.cal_base.specs.declared.line.Node.TheOpen.{Node-F}
use Rattle.cal_base.specs.declared.line.Node.TheViews.{out-Node, out-roll-Node}
use Rattle.cal_model.specs.Objects.ComponentLines.{children_of, lines_of}
use Rattle.filter_eval.specs.declared.ready.ReadyNode.{ReadyNode}
use Rattle.filter_eval.specs.declared.ready.ReadyNode.TheFolds.{fold_out-ReadyNode}
use Rattle.filter_eval.specs.declared.ready.ReadyNode.TheViews.{out-ReadyNode}
use Rattle.filter_eval.specs.ReadyTexts.{node_of, node_step}

-- the level of the component whose texts were made ready
abbrev level_of : ReadyNode → Node-F Node
level_of ready = record {
  name = (out-ReadyNode ready).name.now;
  lines = (out-ReadyNode ready).lines;
  children = map node_of (out-ReadyNode ready).children;
}

out-node_of : (ready : ReadyNode) → out-Node (node_of ready) ≡ level_of ready
out-node_of ready = ap out-Node (fold_out-ReadyNode Node node_step ready) ∙ out-roll-Node (level_of ready)

-- its lines
pub lines_at : (ready : ReadyNode) (node : Node) → node_of ready ≡ node → (out-ReadyNode ready).lines ≡ lines_of node
lines_at ready node is = sym (ap (λ (level : Node-F Node). level.lines) (out-node_of ready)) ∙ ap lines_of is

-- a component in it
pub inner_at : (ready : ReadyNode) (node inner : Node) (place : ℕ) (found : Option (Bor ReadyNode)) → node_of ready ≡ node → slice_get (children_of node) place ≡ Some inner →
    option_copied found ≡ slice_get (out-ReadyNode ready).children place → IfSome found (λ (texts : Bor ReadyNode). node_of texts.now ≡ inner)
inner_at ready node inner place found is stands reads = by_found found reads
  where
    nodes : children_of node ≡ map node_of (out-ReadyNode ready).children
    nodes = sym (ap children_of is) ∙ ap (λ (level : Node-F Node). level.children) (out-node_of ready)

    there : option_map node_of (slice_get (out-ReadyNode ready).children place) ≡ Some inner
    there = sym (slice_get-map node_of (out-ReadyNode ready).children place) ∙ (ap (λ (all : List Node). slice_get all place) (sym nodes) ∙ stands)

    by_found : (found : Option (Bor ReadyNode)) → option_copied found ≡ slice_get (out-ReadyNode ready).children place → IfSome found (λ (texts : Bor ReadyNode). node_of texts.now ≡ inner)
    by_found None reads = tt
    by_found (Some texts) reads = ap (λ (node : Option Node). unwrap_or node inner) (ap (option_map node_of) reads ∙ there)
