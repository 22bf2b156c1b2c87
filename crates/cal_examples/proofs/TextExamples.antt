-- Texts of moments, of XML, of paths and of statuses, that tell two readings apart.
use Rattle.std.specs.Prelude.{◌≡◌, refl, ◌∷◌, ◌++◌, [], Some, None, codes, pos, neg_ℤ}
use Rattle.cal_model.specs.declared.path.Path.TheVariants.{Root, Home, Object}
use Rattle.cal_model.specs.Replies.Hrefs.{href, segment}
use Rattle.cal_model.specs.Words.Limits.{first_date, last_date}
use Rattle.cal_model.specs.Replies.Statuses.{reason, status_line}
use Rattle.cal_model.specs.Values.UtcTexts.{utc_of}
use Rattle.cal_model.specs.Values.ValueTexts.{date_of, time_of, date_time_of}
use Rattle.cal_model.specs.Replies.XmlText.{xml_text, attribute_text, element, propstat, document}
use Rattle.percent_encoding.specs.Percent.{percent_encode_byte}
use Rattle.std.specs.Fmt.{digits}

-- Moments

-- the first and the last moment of stored dates
pub first_date_text : utc_of (codes "16000101T000000Z") ≡ Some first_date
unfolding utc_of date_time_of date_of time_of
first_date_text = refl

pub last_date_text : utc_of (codes "21001231T235959Z") ≡ Some last_date
unfolding utc_of date_time_of date_of time_of
last_date_text = refl

-- a billion seconds since 1970
pub billion_text : utc_of (codes "20010909T014640Z") ≡ Some (pos 1_000_000_000)
unfolding utc_of date_time_of date_of time_of
billion_text = refl

pub before_1970 : utc_of (codes "19691231T235959Z") ≡ Some (neg_ℤ (pos 1))
unfolding utc_of date_time_of date_of time_of
before_1970 = refl

-- a leap second is the second before it
pub leap_second : utc_of (codes "19970630T235960Z") ≡ utc_of (codes "19970630T235959Z")
unfolding utc_of date_time_of date_of time_of
leap_second = refl

pub second_61 : utc_of (codes "19970630T235961Z") ≡ None
unfolding utc_of date_time_of date_of time_of
second_61 = refl

-- 1900 had no 29 February, and 2000 had one
pub century : utc_of (codes "19000229T000000Z") ≡ None
unfolding utc_of date_time_of date_of time_of
century = refl

pub fourth_century : utc_of (codes "20000229T000000Z") ≡ Some (pos 951_782_400)
unfolding utc_of date_time_of date_of time_of
fourth_century = refl

pub hour_24 : utc_of (codes "20250310T240000Z") ≡ None
unfolding utc_of date_time_of date_of time_of
hour_24 = refl

-- a local time is no moment in UTC, and neither is a lower-case z, a letter for a digit, or more behind it
pub without_z : utc_of (codes "20250310T090000") ≡ None
unfolding utc_of date_time_of date_of time_of
without_z = refl

pub lower_case_z : utc_of (codes "20250310T090000z") ≡ None
unfolding utc_of date_time_of date_of time_of
lower_case_z = refl

pub colon_for_digit : utc_of (codes "2025031:T090000Z") ≡ None
unfolding utc_of date_time_of date_of time_of
colon_for_digit = refl

pub more_behind : utc_of (codes "20250310T090000Z ") ≡ None
unfolding utc_of date_time_of date_of time_of
more_behind = refl

-- XML

pub escapes : xml_text (codes "a<b>&\"'\r\n") ≡ codes "a&lt;b&gt;&amp;\"'&#13;\n"
unfolding xml_text
escapes = refl

-- the double quote is escaped in attributes alone, and an escape is not escaped again
pub attribute_escapes : attribute_text (codes "\"&quot;") ≡ codes "&quot;&amp;quot;"
unfolding attribute_text
attribute_escapes = refl

pub empty_element : element (codes "D:prop") [] ≡ codes "<D:prop/>"
empty_element = refl

pub full_element : element (codes "D:href") (codes "/") ≡ codes "<D:href>/</D:href>"
full_element = refl

pub empty_document : document (codes "D:error") [] ≡ codes "<?xml version=\"1.0\" encoding=\"utf-8\"?>\n<D:error xmlns:D=\"DAV:\" xmlns:C=\"urn:ietf:params:xml:ns:caldav\"/>"
unfolding document attribute_text
empty_document = refl

-- properties without content: an empty D:prop
pub no_properties : propstat [] 404 ≡ codes "<D:propstat><D:prop/><D:status>HTTP/1.1 404 Not Found</D:status></D:propstat>"
unfolding reason digits
no_properties = refl

-- Paths

pub root : href Root ≡ codes "/"
root = refl

-- a collection ends with a slash, and an object does not
pub home : href (Home (codes "alice")) ≡ codes "/calendars/alice/"
unfolding segment
home = refl

pub object : href (Object (codes "alice") (codes "calendar") (codes "one.ics")) ≡ codes "/calendars/alice/calendar/one.ics"
unfolding segment
object = refl

-- a space, a percent sign and `é` in UTF-8 are escaped in upper-case digits; `~` and `@` are not
pub escaped_segment : segment (codes "a %/~@" ++ 195 ∷ 169 ∷ []) ≡ codes "a%20%25%2F~@%C3%A9"
unfolding segment percent_encode_byte
escaped_segment = refl

-- Statuses

pub not_found : status_line 404 ≡ codes "HTTP/1.1 404 Not Found"
unfolding reason digits
not_found = refl
