-- The dates of an object that was read are served.
use Rattle.std.proofs.Common.{◌≡◌, ℕ, zero, suc, ◌+◌, List, [], ◌∷◌, arith, refl, ap, ap₂, sym, ◌∙◌, Bool, true, false, subst}
use Rattle.std.proofs.lemmas.Option.{slice_get_past}
use Rattle.std.proofs.lemmas.Int.{ints}
use Rattle.std.specs.Prelude.{ℤ, int_lt, ◌≤ℤ◌, ◌==◌, ◌&&◌, unwrap_or, Option, Some, None, is_some, find, slice_get, if◌then◌else◌}
use Rattle.std.specs.List.{AllByRecursion as Each, enumerate_from}
use Rattle.std.proofs.lemmas.Bool.{false≢true}
use Rattle.std.proofs.lemmas.Option.{none-some}
use Rattle.cal_base.specs.declared.line.Node.{Node}
use Rattle.cal_base.specs.Lines.ComponentTrees.{or_else, innermost, depth, name_at}
use Rattle.cal_base.specs.declared.line.Line.{Line}
use Rattle.cal_moment.specs.declared.stamp.Stamp.{Stamp}
use Rattle.cal_model.specs.declared.object.Kind.{Kind}
use Rattle.cal_model.specs.Objects.ComponentLines.{name_of, children_of, kind_named, component_kind, lines_of}
use Rattle.cal_model.specs.Objects.ObjectFacts.{IsServed}
use Rattle.cal_model.specs.Instances.Alignment.{written_value}
use Rattle.cal_model.specs.Words.Limits.{first_date, last_date}
use Rattle.cal_model.proofs.Objects.PlacedComponents.{LineIn, NodeAt, OuterAt}
use Rattle.cal_model.proofs.Words.EachLemmas.{each_of_find, each-weaker, each-both, each_of_flat_map}
use Rattle.cal_model.specs.Objects.DateFaults.{stamp_outside, all_stamps, stamps_of_line, is_early, is_late, is_in_kind, is_in_alarm, trigger_stamps}
use Rattle.cal_model.specs.Objects.DatedLines.{dated_stamps}
use Rattle.cal_model.specs.Objects.CalendarChildren.{Child}
use Rattle.cal_model.proofs.Objects.ReadingSteps.{IsChildOf}

-- Dates that are served

pub not_before : (a b : ℤ) → int_lt a b ≡ false → b ≤ℤ a
not_before a b not_so = grind (arith, ints)

pub served_by_tests : (stamp : Stamp) → is_early stamp ≡ false → is_late stamp ≡ false → IsServed stamp
served_by_tests stamp early late = record { from_first = not_before (written_value stamp) first_date early; to_last = not_before last_date (written_value stamp) late }

pub neither_found : {X : Type 0} (first second : Option X) → or_else first second ≡ None → (first ≡ None) × (second ≡ None)
neither_found None second none = (refl, none)
neither_found (Some x) second none = absurd (none-some x (sym none))

pub all_served : (zones : List (List ℕ)) (lines : List Line) → stamp_outside zones lines ≡ None → Each IsServed (all_stamps zones lines)
all_served zones lines none =
    let both = neither_found (find is_early (all_stamps zones lines)) (find is_late (all_stamps zones lines)) none in
    each-weaker (λ stamp facts. served_by_tests stamp facts.0 facts.1) (all_stamps zones lines)
    (each-both (λ stamp. is_early stamp ≡ false) (λ stamp. is_late stamp ≡ false) (all_stamps zones lines)
    (each_of_find is_early (all_stamps zones lines) both.0) (each_of_find is_late (all_stamps zones lines) both.1))

-- what holds of each element with its number
pub each_numbered : {X : Type 0} (P : ℕ × X → Type 0) (from : ℕ) (xs : List X) (k : ℕ) (x : X) (number : ℕ) → number ≡ from + k →
    Each P (enumerate_from from xs) → slice_get xs k ≡ Some x → P (number, x)
each_numbered P from [] k x number count facts is = absurd (none-some x (sym (slice_get_past [] k (omega arith)) ∙ is))
each_numbered P from (y ∷ xs) zero x number count facts is =
    subst P (ap₂ (λ n z. (n, z)) {x = from} {y = number} {u = y} {v = x} (omega arith) (ap (λ found. unwrap_or found x) is)) facts.0
each_numbered P from (y ∷ xs) (suc k) x number count facts is = each_numbered P (from + 1) xs k x number (omega arith) facts.1 is

pub each_at : {X : Type 0} (P : X → Type 0) (xs : List X) (k : ℕ) (x : X) → Each P xs → slice_get xs k ≡ Some x → P x
each_at P [] k x facts is = absurd (none-some x (sym (slice_get_past [] k (omega arith)) ∙ is))
each_at P (y ∷ xs) zero x facts is = subst P (ap (λ found. unwrap_or found x) is) facts.0
each_at P (y ∷ xs) (suc k) x facts is = each_at P xs k x facts.1 is

pub then_part : (P : Stamp → Type 0) (xs ys : List Stamp) (b : Bool) → b ≡ true → Each P (if b then xs else ys) → Each P xs
then_part P xs ys true is facts = facts
then_part P xs ys false is facts = absurd (false≢true is)

-- a line in a component of the four kinds that stands in the outermost one
pub in_kind : (lines : List Line) (begin number : ℕ) (name : List ℕ) (kind : Kind) → innermost lines number ≡ Some begin → depth lines begin ≡ 1 →
    name_at lines (Some begin) ≡ name → kind_named name ≡ Some kind → is_in_kind lines number ≡ true
in_kind lines begin number name kind inside deep named of_kind =
    ap (λ found. elim found [ None ↦ false | Some b ↦ (depth lines b == 1) && is_some (kind_named (name_at lines (Some b))) ]) inside
    ∙ (ap (λ n. (n == 1) && is_some (kind_named (name_at lines (Some begin)))) deep
    ∙ (ap (λ n. is_some (kind_named n)) named ∙ ap is_some of_kind))

pub line_served : (zones : List (List ℕ)) (lines : List Line) (begin : ℕ) (name : List ℕ) (kind : Kind) (line : Line) → stamp_outside zones lines ≡ None → depth lines begin ≡ 1 →
    name_at lines (Some begin) ≡ name → kind_named name ≡ Some kind → LineIn lines begin line → Each IsServed (dated_stamps zones line)
line_served zones lines begin name kind line none deep named of_kind at =
    then_part IsServed (dated_stamps zones line) (if is_in_alarm lines at.0 then trigger_stamps line else []) (is_in_kind lines at.0) (in_kind lines begin at.0 name kind at.2 deep named of_kind)
    (each_numbered (λ found. Each IsServed (stamps_of_line zones lines found)) 0 lines at.0 line at.0 (omega arith)
    (each_of_flat_map IsServed (stamps_of_line zones lines) (enumerate_from 0 lines) (all_served zones lines none)) at.1)

-- all dates of a child of the four kinds
pub child_served : (zones : List (List ℕ)) (lines : List Line) (tree : Node) (child : Child) (kind : Kind) → stamp_outside zones lines ≡ None → OuterAt lines tree →
    IsChildOf (children_of tree) child → component_kind child.tree ≡ Some kind → Each (λ line. Each IsServed (dated_stamps zones line)) (lines_of child.tree)
child_served zones lines tree child kind none outer is_child of_kind =
    let at = each_at (λ node. (b : ℕ) × (depth lines b ≡ suc (depth lines outer.0)) × (innermost lines b ≡ Some outer.0) × NodeAt 1 lines b node) (children_of tree) child.number child.tree (outer.2 2).2 is_child in
    each-weaker (λ line place. line_served zones lines at.0 (name_of child.tree) kind line none (at.1 ∙ ap suc outer.1) at.3.0 of_kind place) (lines_of child.tree) at.3.1
