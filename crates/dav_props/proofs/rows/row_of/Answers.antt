use Rattle.dav_props.proofs.RowLemmas.{row_found, row_not_found, own_found}
use Rattle.dav_props.proofs.rows.row_of.Goals as goal

pub returns-in-Some : goal.returns-in-Some
returns-in-Some c = record {
  row = row_found c.args.name.now c.in-Some.row.now c.in-Some.ensures;
  own = own_found c.args.name.now c.in-Some.row.now c.in-Some.ensures;
}

pub returns-in-None-clause-row : goal.returns-in-None-clause-row
returns-in-None-clause-row c = row_not_found c.args.name.now c.in-None.ensures
