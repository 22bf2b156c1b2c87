-- What picks keep that keep all, and what is kept of the components in a component.
use Rattle.std.proofs.Common.{◌≡◌, ℕ, suc, Bool, true, false, not, List, [], ◌∷◌, length, arith, Option, Some, None, sym, ap, ◌∙◌, ⊎_elim}
use Rattle.std.specs.Prelude.{◌&&◌, if◌then◌else◌, flat_map, is_none}
use Rattle.std.specs.List.{list_any}
use Rattle.std.proofs.lemmas.Bool.{and_parts, and_from, or_cases, false≢true, cond-true, cond-false, ne_eqb, or_right, or_left}
use Rattle.std.proofs.lemmas.List.Folds.{list_any-append}
use Rattle.cal_model.specs.declared.selection.PropPick.{PropPick}
use Rattle.cal_model.specs.declared.selection.CompPick.{CompPick, out-CompPick}
use Rattle.cal_model.specs.declared.selection.CompPick.TheViews.{out-roll-CompPick}
use Rattle.cal_model.specs.Selections.Picks.{everything, whole_line, prop_picks, comp_picks}
use Rattle.cal_model.specs.Words.Lists.{is_empty}
use Rattle.shown_lines.specs.declared.portion.Portion.TheVariants.{Whole}
use Rattle.expand_limit.specs.declared.kept.Kept.{Kept, out-Kept}
use Rattle.expand_limit.specs.KeptParts.{portion_by, keeps_all, IsKeptBy, IsInner, IsKeptAs, named_in, inner_as, leaves_out_as}

some-cons : {X : Type 0} (x : X) (xs : List X) → is_empty (x ∷ xs) ≡ false
some-cons x xs = ne_eqb (length (x ∷ xs)) 0 (λ (none : length (x ∷ xs) ≡ 0). absurd (omega (arith, none)))

-- everything keeps all
pub everything-keeps : keeps_all (everything ∷ []) ≡ true
everything-keeps =
    let out = out-roll-CompPick (record { name = []; all_props = true; props = []; all_comps = true; comps = [] }) in
    or_left _ false (and_from _ _ (ap (λ pick. pick.all_props) out) (ap (λ pick. pick.all_comps) out))

abbrev has_whole : List PropPick → Bool
has_whole picks = list_any (λ (prop : PropPick). not prop.no_value) picks

whole_by : (picks : List PropPick) → has_whole picks ≡ true → portion_by picks ≡ Whole
whole_by [] is = absurd (false≢true is)
whole_by (pick ∷ picks) is = cond-false (is_empty (pick ∷ picks)) _ _ (some-cons pick picks) ∙ cond-true (has_whole (pick ∷ picks)) _ _ is

pick_whole : (name : List ℕ) (pick : CompPick) → (out-CompPick pick).all_props ≡ true → has_whole (prop_picks name pick) ≡ true
pick_whole name pick is = ap has_whole (cond-true _ (whole_line name ∷ []) _ is)

some_whole : (name : List ℕ) (picks : List CompPick) → keeps_all picks ≡ true → has_whole (flat_map (prop_picks name) picks) ≡ true
some_whole name [] is = absurd (false≢true is)
some_whole name (pick ∷ picks) is =
    list_any-append (λ (prop : PropPick). not prop.no_value) (prop_picks name pick) (flat_map (prop_picks name) picks)
    ∙ ⊎_elim (λ here. or_left _ _ (pick_whole name pick (and_parts (out-CompPick pick).all_props (out-CompPick pick).all_comps here).0)) (λ later. or_right _ _ (some_whole name picks later)) (or_cases _ _ is)

pub whole-keeps_all : (name : List ℕ) (picks : List CompPick) → keeps_all picks ≡ true → portion_by (flat_map (prop_picks name) picks) ≡ Whole
whole-keeps_all name picks is = whole_by (flat_map (prop_picks name) picks) (some_whole name picks is)

comps_all : (name : List ℕ) (pick : CompPick) → (out-CompPick pick).all_comps ≡ true → keeps_all (comp_picks name pick) ≡ true
comps_all name pick is = ap keeps_all (cond-true _ (everything ∷ []) _ is) ∙ everything-keeps

-- a pick that keeps all components asks for everything of each
pub inner-keeps_all : (name : List ℕ) (picks : List CompPick) → list_any (λ pick. (out-CompPick pick).all_comps) picks ≡ true → keeps_all (flat_map (comp_picks name) picks) ≡ true
inner-keeps_all name [] is = absurd (false≢true is)
inner-keeps_all name (pick ∷ picks) is =
    list_any-append (λ p. (out-CompPick p).all_props && (out-CompPick p).all_comps) (comp_picks name pick) (flat_map (comp_picks name) picks)
    ∙ ⊎_elim (λ here. or_left _ _ (comps_all name pick here)) (λ later. or_right _ _ (inner-keeps_all name picks later)) (or_cases _ _ is)

all-comps : (picks : List CompPick) → keeps_all picks ≡ true → list_any (λ pick. (out-CompPick pick).all_comps) picks ≡ true
all-comps [] is = absurd (false≢true is)
all-comps (pick ∷ picks) is = ⊎_elim (λ here. or_left _ _ (and_parts (out-CompPick pick).all_props (out-CompPick pick).all_comps here).1) (λ later. or_right _ _ (all-comps picks later)) (or_cases _ _ is)

some-keeps_all : (picks : List CompPick) → keeps_all picks ≡ true → is_empty picks ≡ false
some-keeps_all [] is = absurd (false≢true is)
some-keeps_all (pick ∷ picks) is = some-cons pick picks

-- The components in a component

inner_by : (levels : ℕ) (all : Bool) (named : Option Kept) (wanted : List CompPick) → IsInner (IsKeptBy levels) all named wanted → (not all && is_none named) ≡ false
    → (is_empty wanted ≡ false) × IsKeptAs levels (if all then None else named) wanted
inner_by levels true named wanted is stays = (some-keeps_all wanted is, is)
inner_by levels false None wanted is stays = absurd (false≢true (sym stays))
inner_by levels false (Some kept) wanted is stays = is

pub inner-kept : (levels : ℕ) (around : Option Kept) (name : List ℕ) (picks : List CompPick) → IsKeptAs (suc levels) around picks → leaves_out_as around name ≡ false
    → (is_empty (flat_map (comp_picks name) picks) ≡ false) × IsKeptAs levels (inner_as around name) (flat_map (comp_picks name) picks)
inner-kept levels None name picks is stays =
    let all = inner-keeps_all name picks (all-comps picks is) in
    (some-keeps_all (flat_map (comp_picks name) picks) all, all)
inner-kept levels (Some kept) name picks is stays = inner_by levels (out-Kept kept).all_comps (named_in kept name) (flat_map (comp_picks name) picks) (is.1 name) stays
