use Rattle.cal_model.specs.Properties.PropertyTable.{properties}
use Rattle.dav_reports.proofs.names.names_in_names.Goals as goal

pub returns : goal.returns
unfolding properties
returns c =
    rw (
      c.in_ok-put_name-2.ensures,
      c.in_ok-put_names-3.ensures,
      c.in_ok-put_names-2.ensures,
      c.in_ok-put_name.ensures,
      c.in_ok-put_names.ensures,
      c.new-names.ensures,
      c.as_slice-20.ensures,
      c.as_slice-21.ensures,
      c.as_slice-22.ensures,
      c.as_slice.ensures,
      c.as_slice-2.ensures,
      c.as_slice-3.ensures,
      c.as_slice-4.ensures,
      c.as_slice-5.ensures,
      c.as_slice-6.ensures,
      c.as_slice-7.ensures,
      c.as_slice-8.ensures,
      c.as_slice-9.ensures,
      c.as_slice-10.ensures,
      c.as_slice-11.ensures,
      c.as_slice-12.ensures,
      c.as_slice-13.ensures,
      c.as_slice-14.ensures,
      c.as_slice-15.ensures,
      c.as_slice-16.ensures,
      c.as_slice-17.ensures,
      c.as_slice-18.ensures,
      c.as_slice-19.ensures,
    ) at c.in_ok-put_name-3.ensures
