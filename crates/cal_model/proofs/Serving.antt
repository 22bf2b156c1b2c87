-- Laws of replies: none has the status 503, and the busy times that are shown are those of the calendar. For the book and the reports.
pub mod StatusLaws
pub mod FreeBusyLaws
