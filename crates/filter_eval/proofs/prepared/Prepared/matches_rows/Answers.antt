use Rattle.std.proofs.Common.{◌≡◌, true, length, sym, ap, ◌∙◌, eqb-true}
use Rattle.std.proofs.lemmas.List.{nil_from_length}
use Rattle.cal_model.specs.declared.filter.Filter.{Filter}
use Rattle.cal_model.specs.Filters.Matching.{matches}
use Rattle.filter_eval.specs.NeededRows.{needs_row}
use Rattle.filter_eval.proofs.RowlessObjects.{matches-rowless}
use Rattle.filter_eval.proofs.prepared.Prepared.matches_rows.Goals as goal

pub returns-then-is_empty : goal.returns-then-is_empty
returns-then-is_empty c =
    let none = nil_from_length c.args.rows.now (eqb-true (length c.args.rows.now) 0 (sym c.is_empty.ensures ∙ c.if-is_empty.true)) in
    let needs : needs_row c.args.self.now.top ≡ true = ap (λ (filter : Filter). needs_row filter.top) (sym c.self.view_is) ∙ sym c.self.invariant ∙ c.if-self.true in
    sym (ap (λ rows. matches c.args.self.now c.args.object.now rows c.args.zone.now) none ∙ matches-rowless c.args.self.now c.args.object.now c.args.zone.now needs)
