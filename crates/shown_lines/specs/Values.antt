-- How many octets of a moment's text in UTC are the text of a row's value: those of the date, those without the Z, or all.
use Rattle.std.specs.Prelude.{ℕ}
use Rattle.cal_model.specs.declared.row.RowKind.{RowKind}
use Rattle.cal_model.specs.declared.row.RowKind.TheVariants.{Instant, Floating, Date, Undated}

abbrev pub value_octets : RowKind → ℕ
value_octets Date = 8
value_octets Floating = 15
value_octets Instant = 16
value_octets Undated = 16
