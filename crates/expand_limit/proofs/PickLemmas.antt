-- What picks say of a property and ask of a component, one after another.
use Rattle.std.proofs.Common.{◌≡◌, ℕ, zero, suc, ◌+◌, ◌<◌, Bool, true, false, not, List, [], ◌∷◌, ◌++◌, length, map, drop, take, get_or, Option, Some, None, refl, sym, ap, ap₂, subst, ◌∙◌, ⊎_elim, inl, inr, append-nil, append_assoc, arith, add-one}
use Rattle.std.specs.Prelude.{IfSome, if◌then◌else◌, ◌||◌, flat_map, filter, bytes_eq, option_and_then, slice_get}
use Rattle.std.specs.List.{list_any}
use Rattle.std.specs.Borrow.{Bor}
use Rattle.std.proofs.lemmas.Bool.{cases_Bool, cond-true, cond-false, false≢true, ne_eqb, or_cases, or_parts, or_right}
use Rattle.std.proofs.lemmas.List.Folds.{list_any-append}
use Rattle.std.proofs.lemmas.List.{length_push}
use Rattle.std.proofs.Math.Seq.{drop-cons}
use Rattle.ical_objects.proofs.Printed.{take_more_at}
use Rattle.expand_limit.specs.declared.kept.Kept.{Kept}
use Rattle.cal_base.specs.Lists.NameMap.{Named, value_at, with_value}
use Rattle.cal_model.specs.declared.selection.PropPick.{PropPick}
use Rattle.cal_model.specs.declared.selection.CompPick.{CompPick, out-CompPick}
use Rattle.cal_model.specs.Selections.Picks.{everything, whole_line, prop_picks, comp_picks}
use Rattle.cal_model.specs.Words.Lists.{is_empty}
use Rattle.cal_model.proofs.Values.CutLemmas.{is_same_text}
use Rattle.shown_lines.specs.declared.portion.Portion.TheVariants.{Nothing, Header, Whole}
use Rattle.expand_limit.specs.KeptParts.{portion_by, portion_said, kept_at}
use Rattle.expand_limit.specs.NamedPicks.{said_by, with_prop, is_prop, named_props, is_comp, named_comps, asked_at, IsNamed}
use Rattle.expand_limit.proofs.NamedValues.{value_at-with_value, flipped}

-- Properties

pub put-prop : (old : Named Bool) (name : List ℕ) (prop : PropPick) → value_at (with_value old prop.name (with_prop (value_at old prop.name) prop.no_value)) name ≡ said_by (value_at old name) (filter (is_prop name) (prop ∷ []))
put-prop old name prop =
    value_at-with_value name prop.name (with_prop (value_at old prop.name) prop.no_value) old
    ∙ elim (cases_Bool (bytes_eq prop.name name)) [
      | inl same ↦ cond-true _ _ _ (flipped name prop.name ∙ same) ∙ ap (λ n. Some (with_prop (value_at old n) prop.no_value)) (is_same_text prop.name name same)
          ∙ sym (ap (said_by (value_at old name)) (cond-true (bytes_eq prop.name name) (prop ∷ []) [] same))
      | inr other ↦ cond-false _ _ _ (flipped name prop.name ∙ other) ∙ sym (ap (said_by (value_at old name)) (cond-false (bytes_eq prop.name name) (prop ∷ []) [] other))
    ]

pub said-append : (before : Option Bool) (xs ys : List PropPick) → said_by before (xs ++ ys) ≡ said_by (said_by before xs) ys
said-append before [] ys = refl
said-append before (x ∷ xs) ys = said-append (Some (with_prop before x.no_value)) xs ys

pub said-next : (before : Option Bool) (test : PropPick → Bool) (prop : PropPick) (props : List PropPick) → said_by (said_by before (filter test (prop ∷ []))) (filter test props) ≡ said_by before (filter test (prop ∷ props))
said-next before test prop props = cases (test prop)
  where
    cases : (b : Bool) → said_by (said_by before (if b then prop ∷ [] else [])) (filter test props) ≡ said_by before (if b then prop ∷ filter test props else filter test props)
    cases true = refl
    cases false = refl

said_whole : (props : List PropPick) → said_by (Some true) props ≡ Some true
said_whole [] = refl
said_whole (prop ∷ props) = said_whole props

said_header : (props : List PropPick) → said_by (Some false) props ≡ Some (list_any (λ (prop : PropPick). not prop.no_value) props)
said_header [] = refl
said_header (prop ∷ props) = cases prop.no_value (said_header props)
  where
    cases : (b : Bool) → said_by (Some false) props ≡ Some (list_any (λ (prop : PropPick). not prop.no_value) props) → said_by (Some (not b)) props ≡ Some (not b || list_any (λ (prop : PropPick). not prop.no_value) props)
    cases false later = said_whole props
    cases true later = later

some-cons : {X : Type 0} (x : X) (xs : List X) → is_empty (x ∷ xs) ≡ false
some-cons x xs = ne_eqb (length (x ∷ xs)) 0 (λ (none : length (x ∷ xs) ≡ 0). absurd (omega (arith, none)))

abbrev has_whole : List PropPick → Bool
has_whole props = list_any (λ (prop : PropPick). not prop.no_value) props

-- what is said of a property is how much its picks keep of it
pub said-portion : (props : List PropPick) → portion_said (said_by None props) ≡ portion_by props
said-portion [] = refl
said-portion (prop ∷ props) = cases prop.no_value ∙ sym (cond-false (is_empty (prop ∷ props)) Nothing (if has_whole (prop ∷ props) then Whole else Header) (some-cons prop props))
  where
    either : (b : Bool) → portion_said (Some b) ≡ (if b then Whole else Header)
    either true = refl
    either false = refl

    cases : (b : Bool) → portion_said (said_by (Some (not b)) props) ≡ (if not b || has_whole props then Whole else Header)
    cases false = ap portion_said (said_whole props)
    cases true = ap portion_said (said_header props) ∙ either (has_whole props)

-- Picks that keep all lines, or all components

abbrev pub all_props_in : List CompPick → Bool
all_props_in picks = list_any (λ pick. (out-CompPick pick).all_props) picks

abbrev pub all_comps_in : List CompPick → Bool
all_comps_in picks = list_any (λ pick. (out-CompPick pick).all_comps) picks

whole_by : (props : List PropPick) → has_whole props ≡ true → portion_by props ≡ Whole
whole_by [] is = absurd (false≢true is)
whole_by (prop ∷ props) is = cond-false (is_empty (prop ∷ props)) _ _ (some-cons prop props) ∙ cond-true (has_whole (prop ∷ props)) _ _ is

some_whole : (name : List ℕ) (picks : List CompPick) → all_props_in picks ≡ true → has_whole (flat_map (prop_picks name) picks) ≡ true
some_whole name [] is = absurd (false≢true is)
some_whole name (pick ∷ picks) is =
    list_any-append (λ (prop : PropPick). not prop.no_value) (prop_picks name pick) (flat_map (prop_picks name) picks)
    ∙ ⊎_elim (λ (here : (out-CompPick pick).all_props ≡ true). ap (λ b. b || has_whole (flat_map (prop_picks name) picks)) (ap has_whole (cond-true (out-CompPick pick).all_props (whole_line name ∷ []) _ here)))
    (λ later. or_right _ _ (some_whole name picks later)) (or_cases _ _ is)

named_alone : (name : List ℕ) (picks : List CompPick) → all_props_in picks ≡ false → flat_map (prop_picks name) picks ≡ flat_map (named_props name) picks
named_alone name [] none = refl
named_alone name (pick ∷ picks) none =
    let parts = or_parts (out-CompPick pick).all_props (all_props_in picks) none in
    ap₂ (λ first rest. first ++ rest) (cond-false (out-CompPick pick).all_props (whole_line name ∷ []) (named_props name pick) parts.0) (named_alone name picks parts.1)

pub props-portion : (name : List ℕ) (picks : List CompPick) (all : Bool) → all ≡ all_props_in picks → (if all then Whole else portion_said (said_by None (flat_map (named_props name) picks))) ≡ portion_by (flat_map (prop_picks name) picks)
props-portion name picks true same = sym (whole_by (flat_map (prop_picks name) picks) (some_whole name picks (sym same)))
props-portion name picks false same = said-portion (flat_map (named_props name) picks) ∙ ap portion_by (sym (named_alone name picks (sym same)))

pub comps-named : (name : List ℕ) (picks : List CompPick) → all_comps_in picks ≡ false → flat_map (comp_picks name) picks ≡ flat_map (named_comps name) picks
comps-named name [] none = refl
comps-named name (pick ∷ picks) none =
    let parts = or_parts (out-CompPick pick).all_comps (all_comps_in picks) none in
    ap₂ (λ first rest. first ++ rest) (cond-false (out-CompPick pick).all_comps (everything ∷ []) (named_comps name pick) parts.0) (comps-named name picks parts.1)

-- a test of what borrows hold
pub any-held : (test : CompPick → Bool) (picks : List (Bor CompPick)) → list_any (λ (b : Bor CompPick). test b.now) picks ≡ list_any test (map (λ (b : Bor CompPick). b.now) picks)
any-held test [] = refl
any-held test (pick ∷ picks) = ap (λ b. test pick.now || b) (any-held test picks)

-- One more of several

pub drop-at : {X : Type 0} (xs : List X) (i : ℕ) (x : X) → i < length xs → x ≡ get_or xs i x → drop i xs ≡ x ∷ drop (i + 1) xs
drop-at xs i x within here = drop-cons xs i x within ∙ ap (λ first. first ∷ drop (suc i) xs) (sym here) ∙ ap (λ next. x ∷ drop next xs) (sym (add-one i))

abbrev pub held : List (Bor CompPick) → List CompPick
held picks = map (λ (b : Bor CompPick). b.now) picks

pub said-more : (name : List ℕ) (picks : List (Bor CompPick)) (i : ℕ) (item : Bor CompPick) (before : Option Bool) → i < length picks → item ≡ get_or picks i item
    → said_by (said_by before (named_props name item.now)) (flat_map (named_props name) (held (drop (i + 1) picks))) ≡ said_by before (flat_map (named_props name) (held (drop i picks)))
said-more name picks i item before within here =
    sym (said-append before (named_props name item.now) (flat_map (named_props name) (held (drop (i + 1) picks))))
    ∙ ap (λ those. said_by before (flat_map (named_props name) (held those))) (sym (drop-at picks i item within here))

pub asked-more : (name : List ℕ) (picks : List (Bor CompPick)) (i : ℕ) (item : Bor CompPick) (before : List CompPick) → i < length picks → item ≡ get_or picks i item
    → (before ++ named_comps name item.now) ++ flat_map (named_comps name) (held (drop (i + 1) picks)) ≡ before ++ flat_map (named_comps name) (held (drop i picks))
asked-more name picks i item before within here =
    append_assoc before (named_comps name item.now) (flat_map (named_comps name) (held (drop (i + 1) picks)))
    ∙ ap (λ those. before ++ flat_map (named_comps name) (held those)) (sym (drop-at picks i item within here))

filter-split : (test : CompPick → Bool) (pick : CompPick) (picks : List CompPick) → filter test (pick ∷ []) ++ filter test picks ≡ filter test (pick ∷ picks)
filter-split test pick picks = cases (test pick)
  where
    cases : (b : Bool) → (if b then pick ∷ [] else []) ++ filter test picks ≡ (if b then pick ∷ filter test picks else filter test picks)
    cases true = refl
    cases false = refl

pub comps-more : (name : List ℕ) (named : List CompPick) (i : ℕ) (comp : CompPick) (before : List CompPick) → i < length named → comp ≡ get_or named i comp
    → (before ++ filter (is_comp name) (comp ∷ [])) ++ filter (is_comp name) (drop (i + 1) named) ≡ before ++ filter (is_comp name) (drop i named)
comps-more name named i comp before within here =
    append_assoc before (filter (is_comp name) (comp ∷ [])) (filter (is_comp name) (drop (i + 1) named))
    ∙ ap (λ those. before ++ those) (filter-split (is_comp name) comp (drop (i + 1) named) ∙ ap (filter (is_comp name)) (sym (drop-at named i comp within here)))

-- The picks of components of a name

test_flipped : (name key : List ℕ) (comp : CompPick) → key ≡ (out-CompPick comp).name → is_comp name comp ≡ bytes_eq name key
test_flipped name key comp same = flipped (out-CompPick comp).name name ∙ ap (bytes_eq name) (sym same)

pub group-next : (old taken : Named (List (Bor CompPick))) (key : List ℕ) (after : List (Bor CompPick)) (comp : CompPick) (name : List ℕ) → key ≡ (out-CompPick comp).name → held after ≡ asked_at (value_at old key) ++ comp ∷ []
    → ((other : List ℕ) → bytes_eq other key ≡ false → value_at taken other ≡ value_at old other) → asked_at (value_at (with_value taken key after) name) ≡ asked_at (value_at old name) ++ filter (is_comp name) (comp ∷ [])
group-next old taken key after comp name same after_is others =
    ap asked_at (value_at-with_value name key after taken)
    ∙ elim (cases_Bool (bytes_eq name key)) [
      | inl here ↦ ap asked_at (cond-true (bytes_eq name key) (Some after) (value_at taken name) here) ∙ after_is ∙ ap (λ n. asked_at (value_at old n) ++ comp ∷ []) (sym (is_same_text name key here))
          ∙ ap (λ those. asked_at (value_at old name) ++ those) (sym (cond-true (is_comp name comp) (comp ∷ []) [] (test_flipped name key comp same ∙ here)))
      | inr apart ↦ ap asked_at (cond-false (bytes_eq name key) (Some after) (value_at taken name) apart ∙ others name apart) ∙ sym (append-nil (asked_at (value_at old name)))
          ∙ ap (λ those. asked_at (value_at old name) ++ those) (sym (cond-false (is_comp name comp) (comp ∷ []) [] (test_flipped name key comp same ∙ apart)))
    ]

some_end : (xs : List CompPick) (x : CompPick) → is_empty (xs ++ x ∷ []) ≡ false
some_end [] x = some-cons x []
some_end (y ∷ xs) x = some-cons y (xs ++ x ∷ [])

abbrev pub grown : Bool → List (List ℕ) → List ℕ → List (List ℕ)
grown new names key = if new then names ++ key ∷ [] else names

grown_here : (new : Bool) (names : List (List ℕ)) (key name : List ℕ) → bytes_eq name key ≡ true → list_any (bytes_eq name) names ≡ not new → list_any (bytes_eq name) (grown new names key) ≡ true
grown_here true names key name here is = list_any-append (bytes_eq name) names (key ∷ []) ∙ or_right (list_any (bytes_eq name) names) (bytes_eq name key || false) (ap (λ b. b || false) here)
grown_here false names key name here is = is

or_false : (a b : Bool) → b ≡ false → (a || (b || false)) ≡ a
or_false true b none = refl
or_false false true none = none
or_false false false none = refl

grown_apart : (new : Bool) (names : List (List ℕ)) (key name : List ℕ) → bytes_eq name key ≡ false → list_any (bytes_eq name) (grown new names key) ≡ list_any (bytes_eq name) names
grown_apart true names key name apart = list_any-append (bytes_eq name) names (key ∷ []) ∙ or_false (list_any (bytes_eq name) names) (bytes_eq name key) apart
grown_apart false names key name apart = refl

pub covered-next : (names : List (List ℕ)) (before after : List ℕ → List CompPick) (comp : CompPick) (key : List ℕ) → key ≡ (out-CompPick comp).name → ((name : List ℕ) → after name ≡ before name ++ filter (is_comp name) (comp ∷ []))
    → ((name : List ℕ) → list_any (bytes_eq name) names ≡ not (is_empty (before name))) → (name : List ℕ) → list_any (bytes_eq name) (grown (is_empty (before key)) names key) ≡ not (is_empty (after name))
covered-next names before after comp key same asked covered name =
    elim (cases_Bool (bytes_eq name key)) [
      | inl here ↦ grown_here (is_empty (before key)) names key name here (covered name ∙ ap (λ n. not (is_empty (before n))) (is_same_text name key here))
          ∙ sym (ap (λ those. not (is_empty those)) (asked name ∙ ap (λ those. before name ++ those) (cond-true (is_comp name comp) (comp ∷ []) [] (test_flipped name key comp same ∙ here))) ∙ ap not (some_end (before name) comp))
      | inr apart ↦ grown_apart (is_empty (before key)) names key name apart ∙ covered name
          ∙ sym (ap (λ those. not (is_empty those)) (asked name ∙ ap (λ those. before name ++ those) (cond-false (is_comp name comp) (comp ∷ []) [] (test_flipped name key comp same ∙ apart)) ∙ append-nil (before name)))
    ]

-- What is kept of the components of a name

get_end : {X : Type 0} (xs : List X) (x : X) → slice_get (xs ++ x ∷ []) (length xs) ≡ Some x
get_end [] x = refl
get_end (y ∷ xs) x = get_end xs x

get_front : {X : Type 0} (xs ys : List X) (i : ℕ) → i < length xs → slice_get (xs ++ ys) i ≡ slice_get xs i
get_front [] ys i within = absurd (omega (arith, within))
get_front (x ∷ xs) ys zero within = refl
get_front (x ∷ xs) ys (suc i) within = get_front xs ys i (omega (arith, within))

front_kept : (comps : List Kept) (inner : Kept) (place : Option ℕ) → IfSome place (λ p. p < length comps) → option_and_then (λ p. slice_get (comps ++ inner ∷ []) p) place ≡ option_and_then (λ p. slice_get comps p) place
front_kept comps inner None within = refl
front_kept comps inner (Some p) within = get_front comps (inner ∷ []) p within

pub kept_at-more : (places : Named ℕ) (comps : List Kept) (inner : Kept) (key other : List ℕ) → IfSome (value_at places other) (λ p. p < length comps)
    → kept_at (with_value places key (length comps)) (comps ++ inner ∷ []) other ≡ (if bytes_eq other key then Some inner else kept_at places comps other)
kept_at-more places comps inner key other within =
    ap (option_and_then (λ p. slice_get (comps ++ inner ∷ []) p)) (value_at-with_value other key (length comps) places)
    ∙ elim (cases_Bool (bytes_eq other key)) [
      | inl here ↦ ap (option_and_then (λ p. slice_get (comps ++ inner ∷ []) p)) (cond-true (bytes_eq other key) (Some (length comps)) (value_at places other) here) ∙ get_end comps inner
          ∙ sym (cond-true (bytes_eq other key) (Some inner) (kept_at places comps other) here)
      | inr apart ↦ ap (option_and_then (λ p. slice_get (comps ++ inner ∷ []) p)) (cond-false (bytes_eq other key) (Some (length comps)) (value_at places other) apart) ∙ front_kept comps inner (value_at places other) within
          ∙ sym (cond-false (bytes_eq other key) (Some inner) (kept_at places comps other) apart)
    ]

abbrev IsBelow : ℕ → Option ℕ → Type 0
IsBelow n place = IfSome place (λ p. p < n)

below_more : (n : ℕ) (place : Option ℕ) → IsBelow n place → IsBelow (n + 1) place
below_more n None is = tt
below_more n (Some p) is = omega (arith, is)

pub within-more : (places : Named ℕ) (comps : List Kept) (inner : Kept) (key other : List ℕ) → IfSome (value_at places other) (λ p. p < length comps) → IfSome (value_at (with_value places key (length comps)) other) (λ p. p < length (comps ++ inner ∷ []))
within-more places comps inner key other within =
    let size : length (comps ++ inner ∷ []) ≡ length comps + 1 = length_push comps inner in
    subst (λ n. IsBelow n (value_at (with_value places key (length comps)) other)) (sym size)
    (subst (IsBelow (length comps + 1)) (sym (value_at-with_value other key (length comps) places))
    (elim (cases_Bool (bytes_eq other key)) [
      | inl here ↦ subst (IsBelow (length comps + 1)) (sym (cond-true (bytes_eq other key) (Some (length comps)) (value_at places other) here)) (omega arith)
      | inr apart ↦ subst (IsBelow (length comps + 1)) (sym (cond-false (bytes_eq other key) (Some (length comps)) (value_at places other) apart)) (below_more (length comps) (value_at places other) within)
    ]))

-- Names one after another

pub named-init : (Says : Kept → List CompPick → Type 0) (places : Named ℕ) (comps : List Kept) (name : List ℕ) (picks : List CompPick) → places ≡ [] → IsNamed Says (kept_at places comps name) false picks
named-init Says places comps name picks none = subst (λ those. IsNamed Says (kept_at those comps name) false picks) (sym none) refl

next_there : (names : List (List ℕ)) (i : ℕ) (item name : List ℕ) → i < length names → item ≡ get_or names i item → list_any (bytes_eq name) (take (i + 1) names) ≡ (list_any (bytes_eq name) (take i names) || (bytes_eq name item || false))
next_there names i item name within here = ap (list_any (bytes_eq name)) (take_more_at names i item within here) ∙ list_any-append (bytes_eq name) (take i names) (item ∷ [])

named_apart : (Says : Kept → List CompPick → Type 0) (kept : Option Kept) (there now : Bool) (picks : List CompPick) → now ≡ there → IsNamed Says kept there picks → IsNamed Says kept now picks
named_apart Says None there now picks same is = same ∙ is
named_apart Says (Some kept) there now picks same is = (same ∙ is.0, is.1)

pub named-next : (Says : Kept → List CompPick → Type 0) (before after : Option Kept) (inner : Kept) (names : List (List ℕ)) (i : ℕ) (item name : List ℕ) (asked : List ℕ → List CompPick) → i < length names → item ≡ get_or names i item
    → after ≡ (if bytes_eq name item then Some inner else before) → Says inner (asked item) → IsNamed Says before (list_any (bytes_eq name) (take i names)) (asked name) → IsNamed Says after (list_any (bytes_eq name) (take (i + 1) names)) (asked name)
named-next Says before after inner names i item name asked within here same says is =
    let there = next_there names i item name within here in
    elim (cases_Bool (bytes_eq name item)) [
      | inl at ↦ (let now : after ≡ Some inner = same ∙ cond-true (bytes_eq name item) (Some inner) before at in
          subst (λ kept. IsNamed Says kept (list_any (bytes_eq name) (take (i + 1) names)) (asked name)) (sym now)
          (there ∙ or_right (list_any (bytes_eq name) (take i names)) (bytes_eq name item || false) (ap (λ b. b || false) at), subst (λ n. Says inner (asked n)) (sym (is_same_text name item at)) says))
      | inr apart ↦ (let now : after ≡ before = same ∙ cond-false (bytes_eq name item) (Some inner) before apart in
          subst (λ kept. IsNamed Says kept (list_any (bytes_eq name) (take (i + 1) names)) (asked name)) (sym now)
          (named_apart Says before (list_any (bytes_eq name) (take i names)) (list_any (bytes_eq name) (take (i + 1) names)) (asked name) (there ∙ or_false (list_any (bytes_eq name) (take i names)) (bytes_eq name item) apart) is))
    ]
