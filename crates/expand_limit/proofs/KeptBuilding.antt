-- What is kept, put together of what picks say and of what is kept of the components in the component.
use Rattle.std.proofs.Common.{◌≡◌, ℕ, zero, suc, ◌-◌, ◌<◌, Bool, true, false, not, List, [], ◌∷◌, length, Option, Some, None, refl, sym, ap, subst, ◌∙◌, arith}
use Rattle.std.specs.Prelude.{if◌then◌else◌, flat_map}
use Rattle.std.proofs.lemmas.Bool.{false≢true, not-false, not-true, eqb-true}
use Rattle.cal_base.specs.Lists.NameMap.{value_at}
use Rattle.cal_model.specs.declared.selection.CompPick.{CompPick}
use Rattle.cal_model.specs.Selections.Picks.{prop_picks, comp_picks}
use Rattle.cal_model.specs.Words.Lists.{is_empty}
use Rattle.shown_lines.specs.declared.portion.Portion.TheVariants.{Whole}
use Rattle.expand_limit.specs.declared.kept.Kept.{Kept, out-Kept}
use Rattle.expand_limit.specs.declared.kept.Kept.TheOpen.{Kept-F}
use Rattle.expand_limit.specs.declared.kept.Kept.TheViews.{roll-Kept, out-roll-Kept}
use Rattle.expand_limit.specs.KeptParts.{IsKeptBy, IsInner, kept_at, named_in, portion_in, portion_by, portion_said, keeps_all}
use Rattle.expand_limit.specs.NamedPicks.{said_by, named_props, named_comps, IsNamed}
use Rattle.expand_limit.proofs.KeptLemmas.{inner-keeps_all}
use Rattle.expand_limit.proofs.PickLemmas.{all_props_in, all_comps_in, props-portion, comps-named}

-- the look-ups say what the picks say of properties
pub record SaysProps (x : Kept-F Kept) (picks : List CompPick) : Type 0 where
  pub all : x.all_props ≡ all_props_in picks
  pub named : (name : List ℕ) → value_at x.props name ≡ said_by None (flat_map (named_props name) picks)

props_kept : (x : Kept-F Kept) (picks : List CompPick) → SaysProps x picks → (name : List ℕ) → portion_in (roll-Kept x) name ≡ portion_by (flat_map (prop_picks name) picks)
props_kept x picks says name =
    ap (λ (y : Kept-F Kept). if y.all_props then Whole else portion_said (value_at y.props name)) (out-roll-Kept x)
    ∙ ap (λ said. if x.all_props then Whole else portion_said said) (says.named name) ∙ props-portion name picks x.all_props says.all

inner_all : (Says : Kept → List CompPick → Type 0) (all : Bool) (named : Option Kept) (wanted : List CompPick) → all ≡ true → keeps_all wanted ≡ true → IsInner Says all named wanted
inner_all Says true named wanted is keeps = keeps
inner_all Says false named wanted is keeps = absurd (false≢true is)

-- picks of which one keeps all components
pub kept-all_comps : (levels : ℕ) (x : Kept-F Kept) (picks : List CompPick) → SaysProps x picks → x.all_comps ≡ true → all_comps_in picks ≡ true → IsKeptBy levels (roll-Kept x) picks
kept-all_comps zero x picks says all some = tt
kept-all_comps (suc levels) x picks says all some = (
  props_kept x picks says,
  λ name. inner_all (IsKeptBy levels) (out-Kept (roll-Kept x)).all_comps (named_in (roll-Kept x) name) (flat_map (comp_picks name) picks) (ap (λ (y : Kept-F Kept). y.all_comps) (out-roll-Kept x) ∙ all) (inner-keeps_all name picks some),
)

empty_list : (picks : List CompPick) → is_empty picks ≡ true → picks ≡ []
empty_list [] is = refl
empty_list (pick ∷ picks) is = absurd (omega (arith, eqb-true (length (pick ∷ picks)) 0 is))

inner_named : (Says : Kept → List CompPick → Type 0) (kept : Option Kept) (there : Bool) (asked : List CompPick) → there ≡ not (is_empty asked) → IsNamed Says kept there asked → IsInner Says false kept asked
inner_named Says None there asked same is = empty_list asked (not-false (is_empty asked) (sym same ∙ is))
inner_named Says (Some kept) there asked same is = (not-true (is_empty asked) (sym same ∙ is.0), is.1)

inner_by_name : (Says : Kept → List CompPick → Type 0) (all : Bool) (kept : Option Kept) (wanted : List CompPick) → all ≡ false → IsInner Says false kept wanted → IsInner Says all kept wanted
inner_by_name Says true kept wanted other is = absurd (false≢true (sym other))
inner_by_name Says false kept wanted other is = is

-- picks of which none keeps all components
pub kept-named : (levels : ℕ) (x : Kept-F Kept) (picks : List CompPick) (there : List ℕ → Bool) → SaysProps x picks → 0 < levels → x.all_comps ≡ false → all_comps_in picks ≡ false
    → ((name : List ℕ) → there name ≡ not (is_empty (flat_map (named_comps name) picks))) → ((name : List ℕ) → IsNamed (IsKeptBy (levels - 1)) (kept_at x.places x.comps name) (there name) (flat_map (named_comps name) picks)) → IsKeptBy levels (roll-Kept x) picks
kept-named zero x picks there says some all none covered named = absurd (omega (arith, some))
kept-named (suc levels) x picks there says some all none covered named = (
  props_kept x picks says,
  λ name.
      let now : named_in (roll-Kept x) name ≡ kept_at x.places x.comps name = ap (λ (y : Kept-F Kept). kept_at y.places y.comps name) (out-roll-Kept x) in
      let less : suc levels - 1 ≡ levels = omega arith in
      let inside : IsInner (IsKeptBy levels) false (kept_at x.places x.comps name) (flat_map (named_comps name) picks) =
      inner_named (IsKeptBy levels) (kept_at x.places x.comps name) (there name) (flat_map (named_comps name) picks) (covered name) (subst (λ n. IsNamed (IsKeptBy n) (kept_at x.places x.comps name) (there name) (flat_map (named_comps name) picks)) less (named name)) in
      inner_by_name (IsKeptBy levels) (out-Kept (roll-Kept x)).all_comps (named_in (roll-Kept x) name) (flat_map (comp_picks name) picks) (ap (λ (y : Kept-F Kept). y.all_comps) (out-roll-Kept x) ∙ all)
      (subst (λ kept. IsInner (IsKeptBy levels) false kept (flat_map (comp_picks name) picks)) (sym now) (subst (IsInner (IsKeptBy levels) false (kept_at x.places x.comps name)) (sym (comps-named name picks none)) inside)),
)
