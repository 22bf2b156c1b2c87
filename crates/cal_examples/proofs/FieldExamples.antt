-- Values of fields: If-Match and If-None-Match (RFC 9110, 13.1.1 and 13.1.2), Content-Type and Content-Encoding (8.3 and 8.4).
use Rattle.std.specs.Prelude.{◌≡◌, refl, true, false, [], ◌∷◌, Some, None, codes}
use Rattle.std.specs.Str.{is_utf8, chars}
use lib.Utf8.{encode}
use Rattle.httparse.specs.Grammar.{trim_ows}
use Rattle.cal_model.specs.declared.request.Tags.TheVariants.{Any, Listed}
use Rattle.cal_model.specs.Requests.ConditionalTags.{tags_of}
use Rattle.cal_model.specs.Requests.FieldValues.{can_be_xml, can_be_calendar, is_plain_coding}

-- If-Match and If-None-Match

pub any_tag : tags_of (codes "*") ≡ Some Any
unfolding tags_of trim_ows is_utf8 chars encode
any_tag = refl

pub one_tag : tags_of (codes "\"a\"") ≡ Some (Listed ((false, codes "a") ∷ []))
unfolding tags_of trim_ows is_utf8 chars encode
one_tag = refl

pub weak_tag : tags_of (codes "W/\"a\"") ≡ Some (Listed ((true, codes "a") ∷ []))
unfolding tags_of trim_ows is_utf8 chars encode
weak_tag = refl

pub weak_in_small_letters : tags_of (codes "w/\"a\"") ≡ None
unfolding tags_of trim_ows is_utf8 chars encode
weak_in_small_letters = refl

pub several_tags : tags_of (codes "W/\"a\" ,\t\"b\",\"c\"") ≡ Some (Listed ((true, codes "a") ∷ (false, codes "b") ∷ (false, codes "c") ∷ []))
unfolding tags_of trim_ows is_utf8 chars encode
several_tags = refl

pub comma_within_tag : tags_of (codes "\"a,b\"") ≡ Some (Listed ((false, codes "a,b") ∷ []))
unfolding tags_of trim_ows is_utf8 chars encode
comma_within_tag = refl

pub empty_tag : tags_of (codes "\"\"") ≡ Some (Listed ((false, []) ∷ []))
unfolding tags_of trim_ows is_utf8 chars encode
empty_tag = refl

-- a backslash quotes nothing
pub backslash_in_tag : tags_of (codes "\"\\\"") ≡ Some (Listed ((false, codes "\\") ∷ []))
unfolding tags_of trim_ows is_utf8 chars encode
backslash_in_tag = refl

pub past_ascii : tags_of (34 ∷ 195 ∷ 169 ∷ 34 ∷ []) ≡ Some (Listed ((false, 195 ∷ 169 ∷ []) ∷ []))
unfolding tags_of trim_ows is_utf8 chars encode
past_ascii = refl

pub space_within_tag : tags_of (codes "\"a b\"") ≡ None
unfolding tags_of trim_ows is_utf8 chars encode
space_within_tag = refl

pub empty_value : tags_of [] ≡ None
unfolding tags_of trim_ows is_utf8 chars encode
empty_value = refl

pub empty_member : tags_of (codes "\"a\",,\"b\"") ≡ None
unfolding tags_of trim_ows is_utf8 chars encode
empty_member = refl

pub comma_at_end : tags_of (codes "\"a\",") ≡ None
unfolding tags_of trim_ows is_utf8 chars encode
comma_at_end = refl

pub any_beside_tag : tags_of (codes "*, \"a\"") ≡ None
unfolding tags_of trim_ows is_utf8 chars encode
any_beside_tag = refl

-- Content-Type and Content-Encoding

pub media_absent : can_be_xml None ≡ true
unfolding tags_of trim_ows is_utf8 chars encode
media_absent = refl

-- parameters are not looked at
pub media_of_xml : can_be_xml (Some (codes "Text/XML ; charset=iso-8859-1")) ≡ true
unfolding tags_of trim_ows is_utf8 chars encode
media_of_xml = refl

pub media_of_another_xml : can_be_xml (Some (codes "application/soap+xml")) ≡ false
unfolding tags_of trim_ows is_utf8 chars encode
media_of_another_xml = refl

pub media_empty : can_be_xml (Some []) ≡ false
unfolding tags_of trim_ows is_utf8 chars encode
media_empty = refl

pub media_of_calendar : can_be_calendar (Some (codes "text/calendar;component=VEVENT")) ≡ true
unfolding tags_of trim_ows is_utf8 chars encode
media_of_calendar = refl

pub identity_in_capitals : is_plain_coding (Some (codes "Identity")) ≡ false
unfolding tags_of trim_ows is_utf8 chars encode
identity_in_capitals = refl
