-- Words that the other chapters share. It answers nothing by itself, and no word here is of calendars.
-- Given: lists, whole numbers, texts. Lists and Integers are small tests and ends; TextLines ends lines as HTTP (RFC 9112, 2.1) and iCalendar (RFC 5545, 3.1) do; Cuts cut
-- a text in two; Namespaces are those of WebDAV and CalDAV (RFC 4918, 21.1; RFC 4791, 4); Limits are this server's own.
pub mod Lists
pub mod Integers
pub mod TextLines
pub mod Cuts
pub mod Namespaces
pub mod Limits
