use Rattle.std.proofs.Common.{◌≡◌, ◌<◌, ◌∷◌, get_or, sym, ap, subst, ◌∙◌}
use Rattle.std.specs.Prelude.{All}
use Rattle.std.proofs.lemmas.List.Elements.{All-tail}
use Rattle.expand_limit.specs.InstanceLines.{IsShownRow}
use Rattle.expand_limit.specs.SeenRows.{nothing_seen, seen_over}
use Rattle.expand_limit.proofs.limit.seen_of_rows.Goals as goal

pub rows-preserved : goal.rows-preserved
rows-preserved c =
    let held = c.rows.invariant in
    let row = c.in-Some.row.now in
    let behind = c.in-Some.behind.now in
    let limit = c.args.limit.now in
    let split : c.rows.rest.now ≡ row ∷ behind = c.in-Some.ensures.cases.0 in
    record {
      shown = All-tail IsShownRow row behind (subst (All IsShownRow) split held.shown);
      size = c.note_row.ensures.size ∙ held.size;
      same = λ number within.
          ap (seen_over limit number behind) (c.note_row.ensures.seen number (subst (λ n. number < n) (sym held.size) within))
          ∙ ap (λ rows. seen_over limit number rows (get_or c.rows.seen number nothing_seen)) (sym split) ∙ held.same number within;
    }
