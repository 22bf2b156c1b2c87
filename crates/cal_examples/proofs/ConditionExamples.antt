-- Conditions of requests on an object: If-Match and If-None-Match.
use Rattle.std.specs.Prelude.{◌≡◌, refl, true, false, [], ◌∷◌, Some, None, codes, Option}
use Rattle.std.specs.Str.{is_utf8, chars}
use lib.Utf8.{encode}
use Rattle.std.specs.Fmt.{digits}
use Rattle.hex.specs.Hex.{encode_with}
use Rattle.sha2.specs.Sha256.{first_words, schedule, rounds, compress, hash_after, digest_bytes, sha256}
use Rattle.percent_encoding.specs.Percent.{percent_encode_byte, percent_decode}
use Rattle.cal_base.specs.declared.line.Node as N
use Rattle.cal_base.specs.declared.line.Node.TheBlock as B
use denote.Hole.Carrier as H
use Rattle.cal_base.specs.Xml.CanonicalXml.{xml_text, attribute_text}
use Rattle.cal_moment.specs.Calendar.{year_of, month_of, day_of_month}
use Rattle.cal_model.specs.declared.reply.Media.TheVariants as media
use Rattle.cal_model.specs.declared.request.Content.TheVariants as content
use Rattle.cal_model.specs.declared.request.Method.TheVariants as method
use Rattle.cal_model.specs.declared.request.Tags.TheVariants as tags
use Rattle.cal_model.specs.Replies.Etags.{etag_of}
use Rattle.cal_model.specs.Replies.Hrefs.{segment}
use Rattle.cal_model.specs.Words.Lists.{counted_from}
use Rattle.cal_model.specs.Access.Privileges.{privileges_held}
use Rattle.cal_model.specs.Replies.Statuses.{reason}
use Rattle.cal_model.specs.Values.StampTexts.{stamps_in_grammar, periods_in_grammar, trigger_of}
use Rattle.cal_model.specs.Values.RuleTexts.{rule_in_grammar}
use Rattle.cal_model.specs.Values.ValueTexts.{date_of, time_of, date_time_of, count_of, integer_of, length_of, offset_of}
use Rattle.cal_model.specs.Replies.XmlText.{document}
use Rattle.cal_model.specs.TimeZones.Zones.{offset_at, exists_in, instant_of}
use Rattle.cal_model.specs.Paths.TargetPaths.{target_path}
use Rattle.cal_model.specs.Properties.PropertyTable.{properties, answer}
use Rattle.cal_model.specs.Refusals.Preconditions.{put_table}
use Rattle.cal_model.specs.Refusals.SharedRefusals.{shared_rows}
use Rattle.cal_model.specs.Serving.Outcomes.{accepted, unchanged, outcome}
use Rattle.cal_model.specs.Serving.ReadingReplies.{reading_reply}
use Rattle.cal_model.specs.Sight.Scenes.{scene_at}
use Rattle.cal_model.specs.State.Changes.{effect, change_of}
use Rattle.cal_model.specs.State.ServerState.{ServerState}
use Rattle.cal_examples.proofs.ServingSamples.{three, alice_has, bare, own, own_object, one_octets, one_etag, asked_if}
use Rattle.cal_model.specs.declared.reply.Reply.{Reply}
use Rattle.cal_model.specs.declared.request.Event.{Event}
use Rattle.cal_model.specs.declared.request.Tags.{Tags}

-- alice's calendar with one event
abbrev with_one : ServerState
with_one = alice_has 373 [] ((codes "one.ics", one_octets) ∷ [])

abbrev get_if : Option Tags → Option Tags → Event
get_if if_match if_none = asked_if 0 method.Get (own_object (codes "one.ics")) if_match if_none 0 content.None

abbrev put_if : Option Tags → Option Tags → Event
put_if if_match if_none = asked_if 0 method.Put (own_object (codes "one.ics")) if_match if_none 117 (content.Put true one_octets)

abbrev unmodified : Reply
unmodified = record (bare 304) { etag = Some (record { 0 = one_etag }) }

abbrev whole_object : Reply
whole_object = record (bare 200) { etag = Some (record { 0 = one_etag }); media = media.Calendar; body = one_octets }

-- a PUT that wants no object to be there, first and again
first : outcome three (alice_has 0 [] []) (put_if None (Some tags.Any)) ≡ accepted 201 with_one
unfolding outcome privileges_held reading_reply shared_rows scene_at change_of effect properties answer put_table target_path document segment reason xml_text attribute_text percent_encode_byte percent_decode digits is_utf8 chars encode counted_from date_of time_of date_time_of count_of integer_of length_of offset_of stamps_in_grammar periods_in_grammar trigger_of rule_in_grammar year_of month_of day_of_month offset_at exists_in instant_of N.out-Node N.roll-Node B.shown-the_row-Node-0 B.hidden-the_row-Node-0 B.shape-the_row-Node-0 H.out H.roll H.shown H.hidden
first = refl

again : outcome three with_one (put_if None (Some tags.Any)) ≡ unchanged (bare 412)
unfolding outcome privileges_held reading_reply shared_rows scene_at change_of effect properties answer put_table target_path document segment reason xml_text attribute_text percent_encode_byte percent_decode digits is_utf8 chars encode counted_from date_of time_of date_time_of count_of integer_of length_of offset_of stamps_in_grammar periods_in_grammar trigger_of rule_in_grammar year_of month_of day_of_month offset_at exists_in instant_of N.out-Node N.roll-Node B.shown-the_row-Node-0 B.hidden-the_row-Node-0 B.shape-the_row-Node-0 H.out H.roll H.shown H.hidden
again = refl

-- a PUT that wants another one
other_tag : outcome three with_one (put_if (Some (tags.Listed ((false, codes "0") ∷ []))) None) ≡ unchanged (bare 412)
unfolding outcome privileges_held reading_reply shared_rows scene_at change_of effect properties answer put_table target_path document segment reason xml_text attribute_text percent_encode_byte percent_decode digits is_utf8 chars encode counted_from date_of time_of date_time_of count_of integer_of length_of offset_of stamps_in_grammar periods_in_grammar trigger_of rule_in_grammar year_of month_of day_of_month offset_at exists_in instant_of N.out-Node N.roll-Node B.shown-the_row-Node-0 B.hidden-the_row-Node-0 B.shape-the_row-Node-0 H.out H.roll H.shown H.hidden etag_of encode_with first_words schedule rounds compress hash_after digest_bytes sha256
other_tag = refl

-- a GET with the right tag; a weak one counts for If-None-Match alone
right_tag : outcome three with_one (get_if (Some (tags.Listed ((false, one_etag) ∷ []))) None) ≡ unchanged whole_object
unfolding outcome privileges_held reading_reply shared_rows scene_at change_of effect properties answer put_table target_path document segment reason xml_text attribute_text percent_encode_byte percent_decode digits is_utf8 chars encode counted_from date_of time_of date_time_of count_of integer_of length_of offset_of stamps_in_grammar periods_in_grammar trigger_of rule_in_grammar year_of month_of day_of_month offset_at exists_in instant_of N.out-Node N.roll-Node B.shown-the_row-Node-0 B.hidden-the_row-Node-0 B.shape-the_row-Node-0 H.out H.roll H.shown H.hidden etag_of encode_with first_words schedule rounds compress hash_after digest_bytes sha256
right_tag = refl

weak_tag : outcome three with_one (get_if (Some (tags.Listed ((true, one_etag) ∷ []))) None) ≡ unchanged (bare 412)
unfolding outcome privileges_held reading_reply shared_rows scene_at change_of effect properties answer put_table target_path document segment reason xml_text attribute_text percent_encode_byte percent_decode digits is_utf8 chars encode counted_from date_of time_of date_time_of count_of integer_of length_of offset_of stamps_in_grammar periods_in_grammar trigger_of rule_in_grammar year_of month_of day_of_month offset_at exists_in instant_of N.out-Node N.roll-Node B.shown-the_row-Node-0 B.hidden-the_row-Node-0 B.shape-the_row-Node-0 H.out H.roll H.shown H.hidden etag_of encode_with first_words schedule rounds compress hash_after digest_bytes sha256
weak_tag = refl

weak_again : outcome three with_one (get_if None (Some (tags.Listed ((false, codes "0") ∷ (true, one_etag) ∷ [])))) ≡ unchanged unmodified
unfolding outcome privileges_held reading_reply shared_rows scene_at change_of effect properties answer put_table target_path document segment reason xml_text attribute_text percent_encode_byte percent_decode digits is_utf8 chars encode counted_from date_of time_of date_time_of count_of integer_of length_of offset_of stamps_in_grammar periods_in_grammar trigger_of rule_in_grammar year_of month_of day_of_month offset_at exists_in instant_of N.out-Node N.roll-Node B.shown-the_row-Node-0 B.hidden-the_row-Node-0 B.shape-the_row-Node-0 H.out H.roll H.shown H.hidden etag_of encode_with first_words schedule rounds compress hash_after digest_bytes sha256
weak_again = refl

-- If-Match is looked at first
both : outcome three with_one (get_if (Some (tags.Listed ((false, codes "0") ∷ []))) (Some tags.Any)) ≡ unchanged (bare 412)
unfolding outcome privileges_held reading_reply shared_rows scene_at change_of effect properties answer put_table target_path document segment reason xml_text attribute_text percent_encode_byte percent_decode digits is_utf8 chars encode counted_from date_of time_of date_time_of count_of integer_of length_of offset_of stamps_in_grammar periods_in_grammar trigger_of rule_in_grammar year_of month_of day_of_month offset_at exists_in instant_of N.out-Node N.roll-Node B.shown-the_row-Node-0 B.hidden-the_row-Node-0 B.shape-the_row-Node-0 H.out H.roll H.shown H.hidden etag_of encode_with first_words schedule rounds compress hash_after digest_bytes sha256
both = refl

-- an object that is not there is 404 before its conditions
none_there : outcome three (alice_has 0 [] []) (get_if None (Some tags.Any)) ≡ unchanged (bare 404)
unfolding outcome privileges_held reading_reply shared_rows scene_at change_of effect properties answer put_table target_path document segment reason xml_text attribute_text percent_encode_byte percent_decode digits is_utf8 chars encode counted_from date_of time_of date_time_of count_of integer_of length_of offset_of stamps_in_grammar periods_in_grammar trigger_of rule_in_grammar year_of month_of day_of_month offset_at exists_in instant_of N.out-Node N.roll-Node B.shown-the_row-Node-0 B.hidden-the_row-Node-0 B.shape-the_row-Node-0 H.out H.roll H.shown H.hidden
none_there = refl

-- a PUT of it fails by If-Match
none_wanted : outcome three (alice_has 0 [] []) (put_if (Some tags.Any) None) ≡ unchanged (bare 412)
unfolding outcome privileges_held reading_reply shared_rows scene_at change_of effect properties answer put_table target_path document segment reason xml_text attribute_text percent_encode_byte percent_decode digits is_utf8 chars encode counted_from date_of time_of date_time_of count_of integer_of length_of offset_of stamps_in_grammar periods_in_grammar trigger_of rule_in_grammar year_of month_of day_of_month offset_at exists_in instant_of N.out-Node N.roll-Node B.shown-the_row-Node-0 B.hidden-the_row-Node-0 B.shape-the_row-Node-0 H.out H.roll H.shown H.hidden
none_wanted = refl

-- conditions are of objects alone
of_calendars : outcome three with_one (asked_if 0 method.Acl own (Some (tags.Listed ((false, codes "0") ∷ []))) (Some tags.Any) 70 (content.Acl [])) ≡ accepted 200 (alice_has 699 [] ((codes "one.ics", one_octets) ∷ []))
unfolding outcome privileges_held reading_reply shared_rows scene_at change_of effect properties answer put_table target_path document segment reason xml_text attribute_text percent_encode_byte percent_decode digits is_utf8 chars encode counted_from date_of time_of date_time_of count_of integer_of length_of offset_of stamps_in_grammar periods_in_grammar trigger_of rule_in_grammar year_of month_of day_of_month offset_at exists_in instant_of N.out-Node N.roll-Node B.shown-the_row-Node-0 B.hidden-the_row-Node-0 B.shape-the_row-Node-0 H.out H.roll H.shown H.hidden
of_calendars = refl
