use Rattle.cal_model.specs.Properties.PropertyTable.{properties}
use Rattle.dav_reports.proofs.names.names_in_both.Goals as goal

pub returns : goal.returns
unfolding properties
returns c =
    rw (c.new-names.ensures, c.as_slice-6.ensures, c.as_slice.ensures, c.as_slice-2.ensures, c.as_slice-3.ensures, c.as_slice-4.ensures, c.as_slice-5.ensures) at c.in_ok-put_names.ensures
