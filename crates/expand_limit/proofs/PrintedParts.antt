-- Components that can be printed, one after another, and the text of one that is put together.
use Rattle.std.proofs.Common.{◌≡◌, ℕ, ◌+◌, ◌<◌, zero, suc, Bool, true, false, List, [], ◌∷◌, ◌++◌, length, take, drop, get_or, refl, sym, ap, subst, ◌∙◌, append_assoc}
use Rattle.std.specs.Prelude.{flat_map, slice_get, Some}
use Rattle.std.proofs.lemmas.List.Concat.{flat_map-append}
use Rattle.cal_base.specs.declared.line.Node.{Node}
use Rattle.cal_base.specs.declared.line.Node.TheOpen.{Node-F}
use Rattle.cal_base.specs.declared.line.Node.TheViews.{out-roll-Node}
use Rattle.cal_model.specs.Objects.ComponentLines.{children_of}
use Rattle.cal_model.specs.Selections.Expansion.{plain}
use Rattle.ical_objects.specs.Printing.{IsPrintable, ArePrintable, printable, no_more, one_more}
use Rattle.ical_objects.proofs.Printed.{take_more_at}
use Rattle.expand_limit.specs.ShownTexts.{seen_nodes}

-- the components in a component have one level less
pub record HasRoom (levels : ℕ) (node : Node) : Type 0 where
  pub room : ℕ
  pub same : levels ≡ suc room
  pub fit : ArePrintable room (children_of node)

pub printable-room : (levels : ℕ) (node : Node) → IsPrintable levels node → HasRoom levels node
printable-room levels node (printable room name level is_raised read_begin read_end own fit) = record {
  room = room;
  same = refl;
  fit = subst (λ (x : Node-F Node). ArePrintable room x.children) (sym (out-roll-Node (record { name = name; lines = level.lines; children = level.children }))) fit;
}

pub first_fits : (levels : ℕ) (child : Node) (others : List Node) → ArePrintable levels (child ∷ others) → IsPrintable levels child × ArePrintable levels others
first_fits levels child others (one_more room first rest fits fit) = (fits, fit)

pub seen_nodes-append : (without : Bool) (xs ys : List Node) → seen_nodes without (xs ++ ys) ≡ seen_nodes without xs ++ seen_nodes without ys
seen_nodes-append true xs ys = flat_map-append plain xs ys
seen_nodes-append false xs ys = refl

-- the text of one more component
pub next-text : (text : Node → List ℕ) (without : Bool) (old out new : List ℕ) (nodes : List Node) (i : ℕ) (child : Node) → i < length nodes → child ≡ get_or nodes i child
    → out ≡ old ++ flat_map text (seen_nodes without (take i nodes)) → new ≡ out ++ flat_map text (seen_nodes without (child ∷ [])) → new ≡ old ++ flat_map text (seen_nodes without (take (i + 1) nodes))
next-text text without old out new nodes i child within here so_far now =
    let front = seen_nodes without (take i nodes) in
    let one = seen_nodes without (child ∷ []) in
    now ∙ ap (λ those. those ++ flat_map text one) so_far ∙ append_assoc old (flat_map text front) (flat_map text one)
    ∙ ap (λ those. old ++ those) (sym (flat_map-append text front one) ∙ ap (flat_map text) (sym (seen_nodes-append without (take i nodes) (child ∷ [])) ∙ ap (seen_nodes without) (sym (take_more_at nodes i child within here))))

-- the same from the front of what is left
pub rest-text : (text : Node → List ℕ) (without : Bool) (out new : List ℕ) (child : Node) (others : List Node) → new ≡ out ++ flat_map text (seen_nodes without (child ∷ []))
    → new ++ flat_map text (seen_nodes without others) ≡ out ++ flat_map text (seen_nodes without (child ∷ others))
rest-text text without out new child others now =
    ap (λ those. those ++ flat_map text (seen_nodes without others)) now ∙ append_assoc out (flat_map text (seen_nodes without (child ∷ []))) (flat_map text (seen_nodes without others))
    ∙ ap (λ those. out ++ those) (sym (flat_map-append text (seen_nodes without (child ∷ [])) (seen_nodes without others)) ∙ ap (flat_map text) (sym (seen_nodes-append without (child ∷ []) others)))

-- what is written part by part
pub four-parts : (old first second third new begin lines children end : List ℕ) → first ≡ old ++ begin → second ≡ first ++ lines → third ≡ second ++ children → new ≡ third ++ end → new ≡ old ++ (((begin ++ lines) ++ children) ++ end)
four-parts old first second third new begin lines children end a b c d =
    d ∙ ap (λ text. text ++ end) (c ∙ ap (λ text. text ++ children) (b ∙ ap (λ text. text ++ lines) a))
    ∙ ap (λ text. (text ++ children) ++ end) (append_assoc old begin lines) ∙ ap (λ text. text ++ end) (append_assoc old (begin ++ lines) children) ∙ append_assoc old ((begin ++ lines) ++ children) end

-- three parts, one behind another
pub three-parts : (old first second new a b c : List ℕ) → first ≡ old ++ a → second ≡ first ++ b → new ≡ second ++ c → new ≡ old ++ (a ++ (b ++ c))
three-parts old first second new a b c x y z =
    z ∙ ap (λ text. text ++ c) (y ∙ ap (λ text. text ++ b) x) ∙ ap (λ text. text ++ c) (append_assoc old a b) ∙ append_assoc old (a ++ b) c ∙ ap (λ text. old ++ text) (append_assoc a b c)

-- a component at a place
pub fits-at : (levels : ℕ) (nodes : List Node) (i : ℕ) (node : Node) → ArePrintable levels nodes → slice_get nodes i ≡ Some node → IsPrintable levels node
fits-at levels [] i node fit there = absurd (cc)
fits-at levels (first ∷ rest) zero node fit there =
    let same : first ≡ node = cc in
    subst (IsPrintable levels) same (first_fits levels first rest fit).0
fits-at levels (first ∷ rest) (suc i) node fit there = fits-at levels rest i node (first_fits levels first rest fit).1 there

pub fits-take : (levels n : ℕ) (nodes : List Node) → ArePrintable levels nodes → ArePrintable levels (take n nodes)
fits-take levels zero nodes fit = no_more levels
fits-take levels (suc n) [] fit = no_more levels
fits-take levels (suc n) (node ∷ nodes) fit = let parts = first_fits levels node nodes fit in one_more levels node (take n nodes) parts.0 (fits-take levels n nodes parts.1)

pub fits-drop : (levels n : ℕ) (nodes : List Node) → ArePrintable levels nodes → ArePrintable levels (drop n nodes)
fits-drop levels zero nodes fit = fit
fits-drop levels (suc n) [] fit = no_more levels
fits-drop levels (suc n) (node ∷ nodes) fit = fits-drop levels n nodes (first_fits levels node nodes fit).1
