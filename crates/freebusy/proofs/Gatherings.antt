-- A list of times is alike to its own runs in a range, and so are times that are gathered to all that were put behind one another.
use Rattle.std.proofs.Common.{◌≡◌, List, [], ◌∷◌, ◌++◌, map, refl, sym, ap, ◌∙◌, ⊎_elim, append_assoc, subst, ℤ}
use Rattle.std.specs.Prelude.{◌≤ℤ◌, ◌<ℤ◌}
use Rattle.std.proofs.lemmas.List.{append-nil}
use Rattle.cal_model.specs.declared.row.Range.{Range}
use Rattle.cal_model.specs.Busy.BusyTimes.{BusyTime}
use Rattle.cal_model.specs.Busy.BusyRuns.{class_at, runs}
use Rattle.cal_model.proofs.Busy.BusyRunLaws.{AreRuns-runs, runs-same_classes}
use Rattle.freebusy.specs.declared.busy.BusyRow.{BusyRow}
use Rattle.freebusy.specs.declared.busy.Run.{Run}
use Rattle.freebusy.specs.declared.gathering.Gathered.{Gathered}
use Rattle.freebusy.specs.Gathering.{AreAlikeIn, Gathers, HasRoom, gathered_range, gathered_runs, gathered_times}
use Rattle.freebusy.specs.Times.{row_of_run, time_of, time_of_run, times_of}
use Rattle.freebusy.proofs.Classes.{class_at-append, join}

-- runs as rows are the runs
pub times_of_runs : (found : List Run) → times_of (map row_of_run found) ≡ map time_of_run found
times_of_runs [] = refl
times_of_runs (run ∷ found) = ap (λ times. time_of_run run ∷ times) (times_of_runs found)

-- Lists that are alike

alike_classes : (range : Range) (xs ys : List BusyTime) → ((t : ℤ) → range.start.0 ≤ℤ t → t <ℤ range.end.0 → class_at xs t ≡ class_at ys t) → AreAlikeIn range xs ys
alike_classes range xs ys same behind =
    runs-same_classes (xs ++ behind) (ys ++ behind) range
    (λ t from before. class_at-append xs behind t ∙ ap (λ o. join o (class_at behind t)) (same t from before) ∙ sym (class_at-append ys behind t))

pub alike_runs : (range : Range) (times : List BusyTime) → AreAlikeIn range times (runs times range)
alike_runs range times = alike_classes range times (runs times range) (λ t from before. sym ((AreRuns-runs times range).classes t from before))

pub alike_same : (range : Range) (xs ys : List BusyTime) → xs ≡ ys → AreAlikeIn range xs ys
alike_same range xs ys same behind = ap (λ times. runs (times ++ behind) range) same

pub alike_behind : (range : Range) (xs ys more : List BusyTime) → AreAlikeIn range xs ys → AreAlikeIn range (xs ++ more) (ys ++ more)
alike_behind range xs ys more alike behind =
    ap (λ times. runs times range) (append_assoc xs more behind) ∙ alike (more ++ behind) ∙ ap (λ times. runs times range) (sym (append_assoc ys more behind))

pub alike_through : (range : Range) (xs ys zs : List BusyTime) → AreAlikeIn range xs ys → AreAlikeIn range ys zs → AreAlikeIn range xs zs
alike_through range xs ys zs first second behind = first behind ∙ second behind

-- lists that are alike have the same runs
pub alike-runs : (range : Range) (xs ys : List BusyTime) → AreAlikeIn range xs ys → runs xs range ≡ runs ys range
alike-runs range xs ys alike =
    ap (λ times. runs times range) (sym (append-nil xs)) ∙ alike [] ∙ ap (λ times. runs times range) (append-nil ys)

-- Times that are gathered

-- none
pub Gathers-none : (gathered : Gathered) → Gathers gathered gathered []
Gathers-none gathered = record {
  range = refl;
  alike = alike_same (gathered_range gathered) (gathered_times gathered ++ []) (gathered_times gathered) (append-nil (gathered_times gathered));
}

-- some, and then others
pub Gathers-more : (first second third : Gathered) (xs ys : List BusyTime) → Gathers first second xs → Gathers second third ys → Gathers first third (xs ++ ys)
Gathers-more first second third xs ys before after = record {
  range = after.range ∙ before.range;
  alike = λ behind.
      ap (λ times. runs (times ++ behind) (gathered_range first)) (sym (append_assoc (gathered_times first) xs ys))
      ∙ alike_behind (gathered_range first) (gathered_times first ++ xs) (gathered_times second) ys before.alike behind
      ∙ subst (λ (range : Range). AreAlikeIn range (gathered_times second ++ ys) (gathered_times third)) before.range after.alike behind;
}

-- the runs of what was gathered behind no times
pub gathered_runs-all : (first last : Gathered) (times : List BusyTime) → Gathers first last times → gathered_times first ≡ [] → gathered_runs last ≡ runs times (gathered_range first)
gathered_runs-all first last times gathers none =
    ap (runs (gathered_times last)) gathers.range
    ∙ sym (alike-runs (gathered_range first) (gathered_times first ++ times) (gathered_times last) gathers.alike)
    ∙ ap (λ before. runs (before ++ times) (gathered_range first)) none

-- where room was made
pub Gathers-room : (old new : Gathered) → HasRoom old new → Gathers old new []
Gathers-room old new room = ⊎_elim
    (λ same. subst (λ (g : Gathered). Gathers old g []) (sym same.1) (Gathers-none old))
    (λ made. record {
      range = made.0;
      alike = alike_through (gathered_range old) (gathered_times old ++ []) (gathered_times old) (gathered_times new)
          (alike_same (gathered_range old) (gathered_times old ++ []) (gathered_times old) (append-nil (gathered_times old)))
          (alike_through (gathered_range old) (gathered_times old) (gathered_runs old) (gathered_times new)
          (alike_runs (gathered_range old) (gathered_times old)) (alike_same (gathered_range old) (gathered_runs old) (gathered_times new) (sym made.1)));
    })
    room

times_of-append : (xs ys : List BusyRow) → times_of (xs ++ ys) ≡ times_of xs ++ times_of ys
times_of-append [] ys = refl
times_of-append (x ∷ xs) ys = ap (λ times. time_of x ∷ times) (times_of-append xs ys)

-- one time behind those that were gathered
pub Gathers-push : (old made : Gathered) (rows : List BusyRow) (row : BusyRow) → HasRoom old made → rows ≡ made.rows ++ row ∷ [] → Gathers old (record made { rows = rows }) (time_of row ∷ [])
Gathers-push old made rows row room pushed =
    Gathers-more old made (record made { rows = rows }) [] (time_of row ∷ []) (Gathers-room old made room)
    (record {
      range = refl;
      alike = alike_same (gathered_range made) (gathered_times made ++ time_of row ∷ []) (times_of rows) (sym (ap times_of pushed ∙ times_of-append made.rows (row ∷ [])));
    })
