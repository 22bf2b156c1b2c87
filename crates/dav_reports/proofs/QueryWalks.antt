-- Over the objects of a calendar as a query goes over them.
use Rattle.std.proofs.Common.{◌≡◌, ℕ, Bool, true, false, cond, List, [], ◌∷◌, ◌++◌, ◌<◌, length, length-append, Some, None, refl, sym, ap, ◌∙◌, subst, arith, append_assoc, append-nil}
use Rattle.std.specs.Prelude.{filter, flat_map, option_to_list, codes}
use Rattle.std.specs.List.{AllByRecursion}
use Rattle.std.specs.Map.{keys_of}
use Rattle.std.proofs.lemmas.Map.Views.{lookup-from_Contains}
use Rattle.std.proofs.lemmas.Cmp.{nat_list_cmp_total, eq_by_cmp_equiv}
use Rattle.std.proofs.lemmas.Map.Keys.{IsDistinct-from_sorted}
use Rattle.cal_model.proofs.Words.ListTests.{each_of}
use Rattle.cal_base.specs.Lists.NameMap.{Named, name_order, value_at}
use Rattle.cal_model.specs.declared.filter.Filter.{Filter}
use Rattle.cal_model.specs.declared.property.Props.{Props}
use Rattle.cal_model.specs.declared.selection.Selection.{Selection}
use Rattle.cal_model.specs.declared.zone.ZoneTable.{ZoneTable}
use Rattle.cal_model.specs.Serving.ReportReplies.{Reported, object_response, octets_match}
use Rattle.cal_model.specs.State.ServerState.{Calendar}
use Rattle.std.proofs.lemmas.List.Elements.{recursion_from_All}
use Rattle.cal_model.specs.declared.object.Object.{Object}
use Rattle.cal_model.specs.declared.property.Props.TheVariants.{None as NoProps}
use Rattle.cal_model.specs.declared.report.ReportRequest.TheVariants.{Query}
use Rattle.cal_model.specs.declared.row.Range.{Range}
use Rattle.cal_model.specs.Refusals.RequestLimits.{answer_limit}
use Rattle.cal_model.specs.Reports.NamedRanges.{ranges_of_filter, ranges_of_selection}
use Rattle.cal_model.specs.Reports.NeededWindows.{counts, stated_windows, windows_needed}
use Rattle.cal_model.specs.State.ServerState.{Directory, ServerState, calendar_at}
use Rattle.cal_model.specs.State.SoundStates.{IsSound}
use Rattle.cal_model.proofs.State.NameWalkLaws.{calendar-sound}
use Rattle.object_walk.specs.WalkedObjects.{objects_at}
use Rattle.dav_reports.specs.CalendarObjects.{sought_responses}
use Rattle.cal_model.specs.Replies.XmlText.{multistatus}
use Rattle.multistatus.specs.ReplyPieces.{begun}
use Rattle.multistatus.proofs.ReplyLemmas.{begun_size, multistatus_filled}
use Rattle.dav_reports.specs.PieceRows.{Held, needed_cost}

-- each of some entries is one of a calendar
abbrev pub AreEntriesOf : Calendar → Named (List ℕ) → Type 0
AreEntriesOf c entries = AllByRecursion (λ (entry : List ℕ × List ℕ). value_at c.objects entry.0 ≡ Some entry.1) entries

-- the responses of one object more
pub sought_next : (reported : Reported) (select : Selection) (zone : ZoneTable) (props : Props) (wanted : Filter) (out new all : List ℕ) (entry : List ℕ × List ℕ) (rest : Named (List ℕ))
    → new ≡ out ++ sought_responses reported select zone props wanted (entry ∷ []) → out ++ sought_responses reported select zone props wanted (entry ∷ rest) ≡ all
    → new ++ sought_responses reported select zone props wanted rest ≡ all
sought_next reported select zone props wanted out new all entry rest more so_far =
    ap (λ written. written ++ sought_responses reported select zone props wanted rest) more
    ∙ append_assoc out (sought_responses reported select zone props wanted (entry ∷ [])) (sought_responses reported select zone props wanted rest)
    ∙ ap (λ said. out ++ said) (sym split) ∙ so_far
  where
    split : sought_responses reported select zone props wanted (entry ∷ rest) ≡ sought_responses reported select zone props wanted (entry ∷ []) ++ sought_responses reported select zone props wanted rest
    split = by (octets_match wanted zone entry.1)
      where
        by : (b : Bool) → flat_map (object_response reported select zone props) (cond b (entry ∷ filter (λ (e : List ℕ × List ℕ). octets_match wanted zone e.1) rest) (filter (λ (e : List ℕ × List ℕ). octets_match wanted zone e.1) rest))
            ≡ flat_map (object_response reported select zone props) (cond b (entry ∷ []) []) ++ flat_map (object_response reported select zone props) (filter (λ (e : List ℕ × List ℕ). octets_match wanted zone e.1) rest)
        by true = ap (λ front. front ++ flat_map (object_response reported select zone props) (filter (λ (e : List ℕ × List ℕ). octets_match wanted zone e.1) rest)) (sym (append-nil (object_response reported select zone props entry)))
        by false = refl

-- the objects of a calendar that is there
pub objects_are : (state : ServerState) (home : ℕ) (name : List ℕ) (c : Calendar) → calendar_at state home name ≡ Some c → objects_at state home name ≡ c.objects
objects_are state home name c there = ap (λ found. flat_map (λ (k : Calendar). k.objects) (option_to_list found)) there ∙ append-nil c.objects

-- each of them is found by its name
pub entries_found : (directory : Directory) (state : ServerState) (home : ℕ) (name : List ℕ) (c : Calendar) → IsSound directory state → calendar_at state home name ≡ Some c → AreEntriesOf c (objects_at state home name)
entries_found directory state home name c sound there =
    subst (AreEntriesOf c) (sym (objects_are state home name c there))
    (recursion_from_All (λ (entry : List ℕ × List ℕ). value_at c.objects entry.0 ≡ Some entry.1) c.objects (each_of (λ (entry : List ℕ × List ℕ). value_at c.objects entry.0 ≡ Some entry.1) c.objects
    (λ entry among. lookup-from_Contains (eq_by_cmp_equiv nat_list_cmp_total) entry.0 entry.1 c.objects
    (IsDistinct-from_sorted name_order (keys_of c.objects) (calendar-sound directory state home name c sound there).objects_in_order) among)))

-- what an object costs in a query
pub sought_cost : (held : Held) (select : Selection) (wanted : Filter) (origin : ℕ) (object : Object) (ranges : List Range) → ranges ≡ ranges_of_selection select ++ ranges_of_filter wanted.top
    → needed_cost held origin object (filter (counts object ranges) stated_windows) ≡ needed_cost held origin object (windows_needed object (Query NoProps select wanted None))
sought_cost held select wanted origin object ranges named = ap (λ rs. needed_cost held origin object (filter (counts object rs) stated_windows)) named

-- responses that are too long already
pub too_long : (out new rest all : List ℕ) → answer_limit < length new → new ++ rest ≡ all → answer_limit < length all
too_long out new rest all over e = let size = ap length e in let both = length-append new rest in omega (arith, over, size, both)

-- what is too long before it ends is too long
pub too_long_whole : (responses : List ℕ) → answer_limit < length (begun ++ responses) → answer_limit < length (multistatus responses)
too_long_whole [] over = let size = length-append begun [] in let small = begun_size in absurd (omega (arith, over, size, small))
too_long_whole (c ∷ responses) over =
    let filled = ap length (multistatus_filled (c ∷ responses) (omega arith)) in
    let whole = length-append begun ((c ∷ responses) ++ codes "</D:multistatus>") in
    let end = length-append (c ∷ responses) (codes "</D:multistatus>") in
    let front = length-append begun (c ∷ responses) in
    omega (arith, over, filled, whole, end, front)
