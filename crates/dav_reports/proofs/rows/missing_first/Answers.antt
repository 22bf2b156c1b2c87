use Rattle.std.proofs.Common.{[], ◌∷◌, ◌∙◌, sym, arith, rules, FitsSigned, w32, to_z-of_z}
use Rattle.std.specs.Prelude.{take}
use Rattle.std.proofs.lemmas.List.Elements.{All-append, All-cons, All-nil}
use Rattle.dav_reports.specs.PieceRows.{IsMissing}
use Rattle.dav_reports.proofs.MissingWindows.{drop_next, none_held, take_next}
use Rattle.dav_reports.proofs.rows.missing_first.Goals as goal

pub missing-preserved : goal.missing-preserved
missing-preserved g c =
    let held = g.P.Pieces.held c.args.pieces.now in
    let origin = c.args.origin in
    let first = c.in-Some.ensures.cases.0 in
    let window = c.in-Some.window.now in
    let behind = c.in-Some.behind.now in
    let fits : FitsSigned w32 window = search rules in
    let looked = simp to_z-of_z at c.rows.ensures in
    let none = none_held c.rows.result (held origin window) looked (sym c.is_some.ensures ∙ c.if-is_some.false) in
    let there = c.missing.invariant.left ∙ first in
    let counted = rw first at c.missing.invariant.counted in
    record {
      left = drop_next c.missing.count c.args.windows.now window behind there;
      counted = omega (arith, counted);
      missing = rw (take_next c.missing.count c.args.windows.now window behind there) (All-append (IsMissing held origin) (take c.missing.count c.args.windows.now) (window ∷ []) c.missing.invariant.missing (All-cons (IsMissing held origin) window [] none (All-nil (IsMissing held origin))));
    }
