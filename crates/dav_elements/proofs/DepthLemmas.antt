-- What is read down to a depth: nothing at 0, and one level less within.
use Rattle.std.proofs.Common.{◌≡◌, ℕ, zero, suc, ◌-◌, Bool, List, map, Option, Some, None, option_map, refl, sym, ap, ◌∙◌, arith}
use Rattle.std.specs.Prelude.{Result, IfOk, codes, slice_get, option_to_list}
use Rattle.std.proofs.lemmas.Result.{IfOk-weaker}
use Rattle.cal_base.specs.declared.element.Element.{Element}
use Rattle.cal_model.specs.declared.filter.CompFilter.{CompFilter}
use Rattle.cal_model.specs.declared.filter.CompFilter.TheViews.{roll-CompFilter}
use Rattle.cal_model.specs.declared.filter.PropFilter.{PropFilter}
use Rattle.cal_model.specs.declared.row.Range.{Range}
use Rattle.cal_model.specs.Bodies.ElementParts.{name_of, each, only}
use Rattle.cal_model.specs.Bodies.RangeElements.{stated}
use Rattle.cal_model.specs.Bodies.FilterElements.{is_absent, prop_filter, comp_filter_to}

pub at_depth_zero : {X E : Type 0} (make : ℕ → Element → X) (read : Result X E) (depth : ℕ) (element : Element) → depth ≡ 0 → IfOk read (λ x. (e : Element) → x ≡ make 0 e) → IfOk read (λ x. x ≡ make depth element)
at_depth_zero make read depth element none =
    IfOk-weaker read (λ x. (e : Element) → x ≡ make 0 e) (λ x. x ≡ make depth element) (λ x all. all element ∙ ap (λ d. make d element) (sym none))

pub comp_filter_by : (depth : ℕ) (element : Element) (name : List ℕ) (absent : Bool) (time : Option Range) (props : List PropFilter) (comps : List CompFilter) → (depth ≡ 0 → ⊥)
    → name ≡ name_of element → absent ≡ is_absent element → time ≡ option_map stated (slice_get (only (codes "time-range") element) 0)
    → props ≡ map prop_filter (each (codes "prop-filter") element) → comps ≡ map (comp_filter_to (depth - 1)) (each (codes "comp-filter") element)
    → roll-CompFilter (record { name = name; absent = absent; time = time; props = props; comps = comps }) ≡ comp_filter_to depth element
comp_filter_by zero element name absent time props comps some n a t p c = absurd (some refl)
comp_filter_by (suc depth) element name absent time props comps some n a t p c =
    let less : suc depth - 1 ≡ depth = omega arith in
    let inner = c ∙ ap (λ d. map (comp_filter_to d) (each (codes "comp-filter") element)) less in
    λ i. roll-CompFilter (record { name = n i; absent = a i; time = t i; props = p i; comps = inner i })

-- the first, if there is one
pub first_there : {X : Type 0} (found : Option X) (xs : List X) → option_to_list found ≡ xs → found ≡ slice_get xs 0
first_there None xs e = ap (λ those. slice_get those 0) e
first_there (Some x) xs e = ap (λ those. slice_get those 0) e
