use Rattle.std.proofs.Common.{◌≡◌, [], ◌∷◌, sym, ◌∙◌, ap, rules, FitsSigned, w32, to_z-of_z}
use Rattle.dav_reports.proofs.LookedRows.{lent_rows, none_in}
use Rattle.dav_reports.proofs.rows.lent_rows.Goals as goal

pub returns-then-is_empty-2 : goal.returns-then-is_empty-2
returns-then-is_empty-2 g c object kept right =
    let none = none_in c.args.undated.now (sym c.is_empty.ensures ∙ c.if-is_empty.true) in
    let no_more = none_in c.in_ok-window.more.now (sym c.is_empty-then-is_empty.ensures ∙ c.if-is_empty-2.true) in
    let one : c.args.windows.now ≡ c.in_ok-window.window.now ∷ [] = c.in_ok-window.ensures.cases.0 ∙ ap (λ ws. c.in_ok-window.window.now ∷ ws) no_more in
    let fits : FitsSigned w32 c.in_ok-window.window.now = search rules in
    lent_rows (g.P.Pieces.held c.args.pieces.now) c.args.origin object c.args.undated.now c.args.windows.now c.in_ok-window.window.now c.rows.result kept right none one (simp to_z-of_z at c.rows.ensures)
