-- The runs of a range are right, and no other list is; they depend on the class of each second alone: BusyRunLaws, which waits for freebusy.
-- BusyWindows (`runs-looked_at`: the windows that a query looks at are enough) waits for dav_reports.
pub mod BusyRunLaws
pub mod BusyWindows
