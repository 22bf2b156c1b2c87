-- Over the hrefs of a multiget as it goes over them: what stands where, what is said of an object once more, and what the objects cost that were not met.
use Rattle.std.proofs.Common.{◌≡◌, ℕ, ◌+◌, ◌-◌, ◌≤◌, Bool, true, false, cond, List, [], ◌∷◌, ◌++◌, length, take, drop, map, Option, Some, None, refl, sym, ap, ◌∙◌, subst, append-nil, arith, length-append, length-drop}
use Rattle.std.specs.Prelude.{Err, Ok, OnOk, Result, ◌||◌, filter, flat_map, is_some, option_and_then, option_map, option_to_list, sum, unwrap_or}
use Rattle.std.specs.List.{AllByRecursion, list_any}
use Rattle.std.specs.Option.{option_map_or}
use Rattle.std.specs.Str.{bytes_eq}
use Rattle.std.proofs.lemmas.Bool.{false≢true, or_right}
use Rattle.std.proofs.lemmas.List.{drop-append-le, take-append-le, take_all}
use Rattle.std.proofs.lemmas.List.Folds.{list_any-append}
use Rattle.std.proofs.lemmas.Map.Text.{is_eq-slice_cmp}
use Rattle.std.proofs.lemmas.Slice.Eq.{bytes_eq-Decides}
use Rattle.std.proofs.Math.Seq.{append_snoc, drop-append_seam}
use Rattle.cal_base.specs.Lists.NameMap.{Named, value_at, with_value}
use Rattle.cal_base.proofs.Lists.NameMapLemmas.{value_at_with}
use Rattle.cal_model.specs.declared.property.Props.{Props}
use Rattle.cal_model.specs.declared.property.Props.TheVariants.{None as NoProps}
use Rattle.cal_model.specs.declared.report.ReportRequest.TheVariants.{Multiget}
use Rattle.cal_model.specs.declared.selection.Selection.{Selection}
use Rattle.cal_model.specs.declared.zone.ZoneTable.{ZoneTable}
use Rattle.cal_model.specs.Paths.TargetPaths.{target_path}
use Rattle.cal_model.specs.Properties.PropertyReplies.{status_response}
use Rattle.cal_model.specs.Serving.ReportReplies.{Reported, href_response, object_at, object_response, own_object}
use Rattle.cal_model.specs.State.ServerState.{Calendar, Directory, ServerState, calendar_at, octets_at, user_name}
use Rattle.rrule_sets.proofs.AskedLemmas.{sum-cons}
use Rattle.dav_reports.specs.declared.multiget.Place.{Place}
use Rattle.object_walk.specs.WalkedObjects.{objects_at}
use Rattle.dav_reports.specs.CalendarObjects.{NamesAmong, OriginOf, entry_cost, name_at, names_object}
use Rattle.dav_reports.specs.MetObjects.{AreResponses, AreWithin, IsWithin, Met, cost_unless_met, named_response, place_behind, response_at, text_at, unmet_cost}
use Rattle.dav_reports.specs.PieceRows.{Held}

same_name : (one other : List ℕ) → bytes_eq one other ≡ true → one ≡ other
same_name one other same = (bytes_eq-Decides one other).0 same

-- Entries by their names

-- what holds of each entry holds of one that is found
pub found_among : (P : List ℕ × List ℕ → Type 0) (entries : Named (List ℕ)) (name octets : List ℕ) → AllByRecursion P entries → value_at entries name ≡ Some octets → P (name, octets)
found_among P [] name octets all none = absurd cc
found_among P (entry ∷ entries) name octets all found =
    by (bytes_eq name entry.0) refl (found_among P entries name octets all.1) (sym (ap (λ b. cond b (Some entry.1) (value_at entries name)) (is_eq-slice_cmp name entry.0)) ∙ found)
  where
    by : (b : Bool) → bytes_eq name entry.0 ≡ b → (value_at entries name ≡ Some octets → P (name, octets)) → cond b (Some entry.1) (value_at entries name) ≡ Some octets → P (name, octets)
    by true same later e = let octets_are : entry.1 ≡ octets = cc in subst P (λ i. (sym (same_name name entry.0 same) i, octets_are i)) all.0
    by false apart later e = later e

-- an object of a state stands among those of its calendar
pub object_among : (state : ServerState) (home : ℕ) (calendar name octets : List ℕ) → octets_at state home calendar name ≡ Some octets → value_at (objects_at state home calendar) name ≡ Some octets
object_among state home calendar name octets found = by (calendar_at state home calendar) found
  where
    by : (there : Option Calendar) → option_and_then (λ (c : Calendar). value_at c.objects name) there ≡ Some octets → value_at (flat_map (λ (c : Calendar). c.objects) (option_to_list there)) name ≡ Some octets
    by None none = absurd cc
    by (Some c) e = ap (λ objects. value_at objects name) (append-nil c.objects) ∙ e

pub object_in : (state : ServerState) (home : ℕ) (calendar name octets : List ℕ) (c : Calendar) → calendar_at state home calendar ≡ Some c → octets_at state home calendar name ≡ Some octets → value_at c.objects name ≡ Some octets
object_in state home calendar name octets c there found = sym (ap (option_and_then (λ (k : Calendar). value_at k.objects name)) there) ∙ found

-- What hrefs name

abbrev passing : (List ℕ → Bool) → Named (List ℕ) → Named (List ℕ)
passing passes entries = filter (λ (entry : List ℕ × List ℕ). passes entry.0) entries

-- an object of a name that passes is still there where the others are left out
kept_value : (passes : List ℕ → Bool) (entries : Named (List ℕ)) (name octets : List ℕ) → passes name ≡ true → value_at entries name ≡ Some octets → value_at (passing passes entries) name ≡ Some octets
kept_value passes [] name octets keeps none = absurd cc
kept_value passes (entry ∷ entries) name octets keeps found =
    by (bytes_eq name entry.0) (passes entry.0) refl refl (kept_value passes entries name octets keeps)
    (sym (ap (λ b. cond b (Some entry.1) (value_at entries name)) (is_eq-slice_cmp name entry.0)) ∙ found)
  where
    by : (b kept : Bool) → bytes_eq name entry.0 ≡ b → passes entry.0 ≡ kept → (value_at entries name ≡ Some octets → value_at (passing passes entries) name ≡ Some octets)
        → cond b (Some entry.1) (value_at entries name) ≡ Some octets → value_at (cond kept (entry ∷ passing passes entries) (passing passes entries)) name ≡ Some octets
    by true true same is later e = ap (λ t. cond t (Some entry.1) (value_at (passing passes entries) name)) (is_eq-slice_cmp name entry.0 ∙ same) ∙ e
    by true false same is later e = absurd (false≢true (sym is ∙ ap passes (sym (same_name name entry.0 same)) ∙ keeps))
    by false true apart is later e = ap (λ t. cond t (Some entry.1) (value_at (passing passes entries) name)) (is_eq-slice_cmp name entry.0 ∙ apart) ∙ later e
    by false false apart is later e = later e

-- one href in the middle settles whether some href names an object
named_by_one : (owner calendar name href : List ℕ) (front rest : List (List ℕ)) → name_at owner calendar href ≡ Some name → list_any (names_object owner calendar name) (front ++ href ∷ rest) ≡ true
named_by_one owner calendar name href front rest is =
    let names : names_object owner calendar name href ≡ true = ap (λ found. option_map_or (bytes_eq name) found false) is ∙ (bytes_eq-Decides name name).1 refl in
    list_any-append (names_object owner calendar name) front (href ∷ rest)
    ∙ or_right (list_any (names_object owner calendar name) front) (list_any (names_object owner calendar name) (href ∷ rest)) (ap (λ b. b || list_any (names_object owner calendar name) rest) names)

-- so what hrefs name stands among the objects that some of them names
module _ (directory : Directory) (state : ServerState) (home : ℕ) (calendar : List ℕ) where
  abbrev named_by : List (List ℕ) → Named (List ℕ)
  named_by hrefs = filter (λ (entry : List ℕ × List ℕ). list_any (names_object (user_name directory home) calendar entry.0) hrefs) (objects_at state home calendar)

  named_behind : (front rest : List (List ℕ)) → AllByRecursion (NamesAmong directory state home calendar (named_by (front ++ rest))) rest
  named_behind front [] = tt
  named_behind front (href ∷ rest) = (
    (λ name is octets found.
        kept_value (λ n. list_any (names_object (user_name directory home) calendar n) (front ++ href ∷ rest)) (objects_at state home calendar) name octets
        (named_by_one (user_name directory home) calendar name href front rest is) (object_among state home calendar name octets found)),
    subst (λ hrefs. AllByRecursion (NamesAmong directory state home calendar (named_by hrefs)) rest) (append_snoc front href rest) (named_behind (front ++ href ∷ []) rest),
  )

  pub all_named : (hrefs : List (List ℕ)) → AllByRecursion (NamesAmong directory state home calendar (named_by hrefs)) hrefs
  all_named hrefs = named_behind [] hrefs

-- Texts that are written where there is memory

pub text_ok : {X E : Type 0} (result : Result X E) (out new text other : List ℕ) → text ≡ other → OnOk result (new ≡ out ++ text) → OnOk result (new ≡ out ++ other)
text_ok (Ok x) out new text other same is = is ∙ ap (λ said. out ++ said) same
text_ok (Err e) out new text other same is = is

-- Places

-- what stands at a place stays there
text_kept : (written more : List ℕ) (place : Place) → IsWithin (length written) place → text_at (written ++ more) place ≡ text_at written place
text_kept written more place within =
    ap (take (place.end - place.begin)) (drop-append-le place.begin written more (omega arith))
    ∙ take-append-le (place.end - place.begin) (drop place.begin written) more (let left = length-drop place.begin written in omega arith)

-- what was written last stands behind the rest
text_new : (written text : List ℕ) → text_at (written ++ text) (place_behind written text) ≡ text
text_new written text =
    ap (take (length (written ++ text) - length written)) (drop-append_seam written text)
    ∙ take_all (length (written ++ text) - length written) text (let size = length-append written text in omega arith)

within_more : (met : Met) (size more : ℕ) → size ≤ more → AreWithin met size → AreWithin met more
within_more met size more grown within name place at = let is = within name place at in record { in_order = is.in_order; before_end = omega arith }

within_with : (met : Met) (name : List ℕ) (place : Place) (size : ℕ) → IsWithin size place → AreWithin met size → AreWithin (with_value met name place) size
within_with met name place size is within other at found = by (bytes_eq other name) (sym (value_at_with name place other met) ∙ found)
  where
    by : (b : Bool) → cond b (Some place) (value_at met other) ≡ Some at → IsWithin size at
    by true e = let same : place ≡ at = cc in subst (IsWithin size) same is
    by false e = within other at e

-- behind one text more, of no object or of one that is met
within_behind : (met : Met) (written text : List ℕ) → AreWithin met (length written) → AreWithin met (length (written ++ text))
within_behind met written text within = within_more met (length written) (length (written ++ text)) (let size = length-append written text in omega arith) within

pub within_next : (met : Met) (name written text : List ℕ) → AreWithin met (length written) → AreWithin (with_value met name (place_behind written text)) (length (written ++ text))
within_next met name written text within =
    within_with met name (place_behind written text) (length (written ++ text)) (record { in_order = let size = length-append written text in omega arith; before_end = omega arith })
    (within_behind met written text within)

pub within_ok : {X E : Type 0} (result : Result X E) (met : Met) (written text new : List ℕ) → AreWithin met (length written) → OnOk result (new ≡ written ++ text) → OnOk result (AreWithin met (length new))
within_ok (Ok x) met written text new within is = subst (λ all. AreWithin met (length all)) (sym is) (within_behind met written text within)
within_ok (Err e) met written text new within is = is

-- What was said

module _ (reported : Reported) (select : Selection) (zone : ZoneTable) (props : Props) where
  responses_kept : (met : Met) (written more : List ℕ) → AreWithin met (length written) → AreResponses reported select zone props met written → AreResponses reported select zone props met (written ++ more)
  responses_kept met written more within said name place at = said name place at ∙ ap Some (sym (text_kept written more place (within name place at)))

  responses_with : (met : Met) (name : List ℕ) (place : Place) (written : List ℕ) → response_at reported select zone props name ≡ Some (text_at written place) → AreResponses reported select zone props met written
      → AreResponses reported select zone props (with_value met name place) written
  responses_with met name place written is said other at found = by (bytes_eq other name) refl (sym (value_at_with name place other met) ∙ found)
    where
      by : (b : Bool) → bytes_eq other name ≡ b → cond b (Some place) (value_at met other) ≡ Some at → response_at reported select zone props other ≡ Some (text_at written at)
      by true same e =
          let here : place ≡ at = cc in
          ap (response_at reported select zone props) (same_name other name same) ∙ is ∙ ap (λ p. Some (text_at written p)) here
      by false apart e = said other at e

  responses_next : (met : Met) (name written text : List ℕ) → AreWithin met (length written) → response_at reported select zone props name ≡ Some text → AreResponses reported select zone props met written
      → AreResponses reported select zone props (with_value met name (place_behind written text)) (written ++ text)
  responses_next met name written text within is said =
      responses_with met name (place_behind written text) (written ++ text) (is ∙ ap Some (sym (text_new written text))) (responses_kept met written text within said)

  pub said_ok : {X E : Type 0} (result : Result X E) (met : Met) (written text new : List ℕ) → AreWithin met (length written) → AreResponses reported select zone props met written → OnOk result (new ≡ written ++ text)
      → OnOk result (AreResponses reported select zone props met new)
  said_ok (Ok x) met written text new within said is = subst (AreResponses reported select zone props met) (sym is) (responses_kept met written text within said)
  said_ok (Err e) met written text new within said is = is

  pub met_ok : {X E : Type 0} (result : Result X E) (met : Met) (name written text : List ℕ) (after : Met) (new : List ℕ) → AreWithin met (length written) → response_at reported select zone props name ≡ Some text
      → AreResponses reported select zone props met written → OnOk result (new ≡ written ++ text) → OnOk result (after ≡ with_value met name (place_behind written text)) → OnOk result (AreResponses reported select zone props after new)
  met_ok (Ok x) met name written text after new within response said is now =
      subst (λ (m : Met). AreResponses reported select zone props m new) (sym now)
      (subst (AreResponses reported select zone props (with_value met name (place_behind written text))) (sym is) (responses_next met name written text within response said))
  met_ok (Err e) met name written text after new within response said is now = is

  -- an object that is there
  pub response_there : (name octets : List ℕ) → value_at reported.contents.objects name ≡ Some octets → response_at reported select zone props name ≡ Some (object_response reported select zone props (name, octets))
  response_there name octets there = ap (option_map (λ found. object_response reported select zone props (name, found))) there

  -- the response to an href, by the name that it has, and by the entry of that name
  of_name : List ℕ → Option (List ℕ) → List ℕ
  of_name href None = status_response href 404
  of_name href (Some name) = named_response reported select zone props href name

  of_entry : List ℕ → Option (List ℕ × List ℕ) → List ℕ
  of_entry href None = status_response href 404
  of_entry href (Some entry) = object_response reported select zone props entry

  same_entry : (href : List ℕ) (name : Option (List ℕ)) → of_entry href (option_and_then (λ n. option_map (λ octets. (n, octets)) (value_at reported.contents.objects n)) name) ≡ of_name href name
  unfolding of_name of_entry
  same_entry href None = refl
  same_entry href (Some name) = by (value_at reported.contents.objects name)
    where
      by : (found : Option (List ℕ)) → of_entry href (option_map (λ octets. (name, octets)) found) ≡ unwrap_or (option_map (λ octets. object_response reported select zone props (name, octets)) found) (status_response href 404)
      by None = refl
      by (Some octets) = refl

  of_href : (href : List ℕ) → href_response reported select zone props href ≡ of_name href (option_and_then (own_object reported) (target_path href))
  unfolding of_entry
  of_href href = by (object_at reported href) ∙ same_entry href (option_and_then (own_object reported) (target_path href))
    where
      by : (found : Option (List ℕ × List ℕ)) → elim found [ None ↦ status_response href 404 | Some entry ↦ object_response reported select zone props entry ] ≡ of_entry href found
      by None = refl
      by (Some entry) = refl

  pub href_named : (href name : List ℕ) → option_and_then (own_object reported) (target_path href) ≡ Some name → href_response reported select zone props href ≡ named_response reported select zone props href name
  unfolding of_name
  href_named href name is = of_href href ∙ ap (of_name href) is

  pub href_foreign : (href : List ℕ) → option_and_then (own_object reported) (target_path href) ≡ None → href_response reported select zone props href ≡ status_response href 404
  unfolding of_name
  href_foreign href is = of_href href ∙ ap (of_name href) is

  -- an href of an object that was met
  pub href_met : (href name text : List ℕ) → option_and_then (own_object reported) (target_path href) ≡ Some name → response_at reported select zone props name ≡ Some text → href_response reported select zone props href ≡ text
  href_met href name text is said = href_named href name is ∙ ap (λ found. unwrap_or found (status_response href 404)) said

-- Costs

module _ (held : Held) (select : Selection) (origin_of : OriginOf) where
  module _ (met : Met) (name : List ℕ) (place : Place) where
    abbrev before : List ℕ × List ℕ → ℕ
    before = cost_unless_met held select origin_of met

    abbrev after : List ℕ × List ℕ → ℕ
    after = cost_unless_met held select origin_of (with_value met name place)

    abbrev whole : List ℕ × List ℕ → ℕ
    whole = entry_cost held (Multiget NoProps select []) origin_of

    costs_less : (entry : List ℕ × List ℕ) → after entry ≤ before entry
    costs_less entry = subst (λ found. cond (is_some found) 0 (whole entry) ≤ before entry) (sym (value_at_with name place entry.0 met)) (by (bytes_eq entry.0 name))
      where
        by : (b : Bool) → cond (is_some (cond b (Some place) (value_at met entry.0))) 0 (whole entry) ≤ before entry
        by true = omega arith
        by false = omega arith

    unmet_less : (entries : Named (List ℕ)) → sum (map after entries) ≤ sum (map before entries)
    unmet_less [] = omega arith
    unmet_less (entry ∷ entries) =
        let one = costs_less entry in
        let more = unmet_less entries in
        let sum_before = sum-cons (before entry) (map before entries) in
        let sum_after = sum-cons (after entry) (map after entries) in
        omega arith

    -- an object that is met costs no more
    pub unmet_with : (entries : Named (List ℕ)) (octets : List ℕ) → value_at met name ≡ None → value_at entries name ≡ Some octets
        → unmet_cost held select origin_of (with_value met name place) entries + entry_cost held (Multiget NoProps select []) origin_of (name, octets) ≤ unmet_cost held select origin_of met entries
    unmet_with [] octets new none = absurd cc
    unmet_with (entry ∷ entries) octets new found =
        by (bytes_eq name entry.0) refl (unmet_with entries octets new) (sym (ap (λ b. cond b (Some entry.1) (value_at entries name)) (is_eq-slice_cmp name entry.0)) ∙ found)
      where
        sum_before : sum (map before (entry ∷ entries)) ≡ before entry + sum (map before entries)
        sum_before = sum-cons (before entry) (map before entries)

        sum_after : sum (map after (entry ∷ entries)) ≡ after entry + sum (map after entries)
        sum_after = sum-cons (after entry) (map after entries)

        by : (b : Bool) → bytes_eq name entry.0 ≡ b → (value_at entries name ≡ Some octets → sum (map after entries) + whole (name, octets) ≤ sum (map before entries)) → cond b (Some entry.1) (value_at entries name) ≡ Some octets
            → sum (map after (entry ∷ entries)) + whole (name, octets) ≤ sum (map before (entry ∷ entries))
        by true same later e =
            let named = same_name name entry.0 same in
            let octets_are : entry.1 ≡ octets = cc in
            let is : entry ≡ (name, octets) = λ i. (sym named i, octets_are i) in
            let was : before entry ≡ whole (name, octets) = ap (λ found. cond (is_some found) 0 (whole entry)) (ap (value_at met) (sym named) ∙ new) ∙ ap whole is in
            let test : bytes_eq entry.0 name ≡ true = ap (λ n. bytes_eq entry.0 n) named ∙ (subst (λ n. bytes_eq n entry.0 ≡ true) named same) in
            let now : after entry ≡ 0 = ap (λ found. cond (is_some found) 0 (whole entry)) (value_at_with name place entry.0 met ∙ ap (λ b. cond b (Some place) (value_at met entry.0)) test) in
            let more = unmet_less entries in
            let old = sum_before in
            let left = sum_after in
            omega arith
        by false apart later e =
            let one = costs_less entry in
            let more = later e in
            let old = sum_before in
            let left = sum_after in
            omega arith

  -- and is one of those that were not
  pub unmet_one : (met : Met) (name octets : List ℕ) (entries : Named (List ℕ)) → value_at met name ≡ None → value_at entries name ≡ Some octets
      → entry_cost held (Multiget NoProps select []) origin_of (name, octets) ≤ unmet_cost held select origin_of met entries
  unmet_one met name octets entries new found = let all = unmet_with met name (record { begin = 0; end = 0 }) entries octets new found in omega arith
