-- A path's written form names that path, and what a target names is a path.
use Rattle.std.proofs.Common.{◌≡◌, ◌≢◌, ℕ, suc, ◌<◌, Bool, true, false, cond, not, ◌==◌, ◌&&◌, List, [], ◌∷◌, ◌++◌, Some, None, IsTrue, All, refl, sym, ap, subst, ◌∙◌, arith, inl, inr, ⊎_elim}
use Rattle.std.specs.Prelude.{codes}
use Rattle.std.specs.List.{list_any, list_all}
use Rattle.std.proofs.lemmas.Bool.{false≢true}
use Rattle.std.proofs.lemmas.Bool.Decides.{nat_tests}
use Rattle.std.proofs.lemmas.List.Elements.{All-head, All-tail}
use Rattle.base64.specs.GeneralPurpose.{IsBytes}
use Rattle.percent_encoding.specs.Percent.{percent_encode_byte, percent_decode}
use Rattle.percent_encoding.proofs.PercentLemmas.{IsEscapeByte, All-percent_encode_byte, percent_decode-nil, percent_decode_not_percent, percent_decode-percent_encode_byte}
use Rattle.cal_base.specs.Lines.ContentLines.{pieces}
use Rattle.cal_model.specs.Words.Lists.{is_empty}
use Rattle.cal_model.specs.Replies.Hrefs.{is_kept, segment, href}
use Rattle.cal_model.specs.declared.path.Path.TheVariants.{Root, Principal, Home, Calendar, Object}
use Rattle.cal_model.specs.Words.Cuts.{cut_at}
use Rattle.cal_model.specs.Paths.TargetPaths.{is_resource_name, path_of_names, path_of_segments, path_of_text, without_query, without_host, target_path}
use Rattle.cal_model.specs.Paths.TargetPathLaws.{HrefsAreReadBack}
use Rattle.cal_model.proofs.Streams.StreamFronts.{bool_cases}
use Rattle.cal_model.proofs.Streams.HeadLaws.{Free, free_passing, free-append, both, other, pieces_free, pieces_last, cut_none}

-- Written names

escape_apart : (c s : ℕ) → s < 48 → s ≢ 37 → IsEscapeByte c → (c == s) ≡ false
escape_apart c s low apart (inl percent) = other c s (λ e. apart (sym e ∙ percent))
escape_apart c s low apart (inr (inl digit)) = other c s (λ e. let d = digit.0 in absurd (omega arith))
escape_apart c s low apart (inr (inr letter)) = other c s (λ e. let d = letter.0 in absurd (omega arith))

escape_apart_high : (c s : ℕ) → 57 < s → s < 65 → IsEscapeByte c → (c == s) ≡ false
escape_apart_high c s low high (inl percent) = other c s (λ e. absurd (omega arith))
escape_apart_high c s low high (inr (inl digit)) = other c s (λ e. let d = digit.1 in absurd (omega arith))
escape_apart_high c s low high (inr (inr letter)) = other c s (λ e. let d = letter.0 in absurd (omega arith))

free_all : (s : ℕ) (P : ℕ → Type 0) → ((c : ℕ) → P c → (c == s) ≡ false) → (text : List ℕ) → All P text → Free s text
unfolding Free
free_all s P apart [] all = tt
free_all s P apart (c ∷ text) all = (apart c (All-head P c text all), free_all s P apart text (All-tail P c text all))

written : ℕ → List ℕ
written c = cond (is_kept c) (c ∷ []) (percent_encode_byte c)

kept_apart : (c s : ℕ) → is_kept s ≡ false → is_kept c ≡ true → (c == s) ≡ false
kept_apart c s fails passes = other c s (λ e. false≢true (sym fails ∙ ap is_kept (sym e) ∙ passes))

free_written : (s : ℕ) → is_kept s ≡ false → ((c : ℕ) → IsEscapeByte c → (c == s) ≡ false) → (c : ℕ) → Free s (written c)
unfolding Free written
free_written s fails apart c =
    ⊎_elim
    (λ yes. subst (Free s) (ap (λ b. cond b (c ∷ []) (percent_encode_byte c)) (sym yes)) (kept_apart c s fails yes, tt))
    (λ escaped. subst (Free s) (ap (λ b. cond b (c ∷ []) (percent_encode_byte c)) (sym escaped)) (free_all s IsEscapeByte apart (percent_encode_byte c) (All-percent_encode_byte c)))
    (bool_cases (is_kept c))

free_segment : (s : ℕ) → is_kept s ≡ false → ((c : ℕ) → IsEscapeByte c → (c == s) ≡ false) → (name : List ℕ) → Free s (segment name)
unfolding Free segment written
free_segment s fails apart [] = tt
free_segment s fails apart (c ∷ name) = free-append s (written c) (segment name) (free_written s fails apart c) (free_segment s fails apart name)

no_slash : (name : List ℕ) → Free 47 (segment name)
no_slash name = free_segment 47 refl (λ c e. escape_apart c 47 (omega arith) (λ x. absurd (omega arith)) e) name

no_query : (name : List ℕ) → Free 63 (segment name)
no_query name = free_segment 63 refl (λ c e. escape_apart_high c 63 (omega arith) (omega arith) e) name

-- its octets are read back
bytes_head : (c : ℕ) (name : List ℕ) → IsBytes (c ∷ name) → c < 256
bytes_head c name h = h 0

bytes_tail : (c : ℕ) (name : List ℕ) → IsBytes (c ∷ name) → IsBytes name
bytes_tail c name h = λ i. h (suc i)

pub decoded : (name : List ℕ) → IsBytes name → percent_decode (segment name) ≡ name
unfolding segment
decoded [] h = percent_decode-nil
decoded (c ∷ name) h =
    ⊎_elim
    (λ yes.
    ap (λ b. percent_decode (cond b (c ∷ []) (percent_encode_byte c) ++ segment name)) yes
    ∙ percent_decode_not_percent c (segment name) (λ e. false≢true (ap is_kept (sym e) ∙ yes))
    ∙ ap (λ l. c ∷ l) (decoded name (bytes_tail c name h)))
    (λ escaped.
    ap (λ b. percent_decode (cond b (c ∷ []) (percent_encode_byte c) ++ segment name)) escaped
    ∙ percent_decode-percent_encode_byte c (segment name) (bytes_head c name h)
    ∙ ap (λ l. c ∷ l) (decoded name (bytes_tail c name h)))
    (bool_cases (is_kept c))

-- Paths

kept_whole : (text : List ℕ) → Free 63 text → without_query text ≡ text
kept_whole text free = rw (cut_none 63 text free, without_query) refl

is_true : (b : Bool) → IsTrue b → b ≡ true
is_true true h = refl
is_true false h = h

not_empty : (name : List ℕ) → not (is_empty name) ≡ true → is_empty name ≡ false
not_empty [] h = absurd (false≢true h)
not_empty (c ∷ name) h = Prim.grind (arith, nat_tests)

resource_some : (name : List ℕ) → is_resource_name name ≡ true → is_empty name ≡ false
resource_some [] h = absurd (false≢true h)
resource_some (c ∷ name) h = Prim.grind (arith, nat_tests)

-- the segments of two to four names
two : (b : List ℕ) → Free 47 b → pieces 47 (b ++ 47 ∷ []) ≡ b ∷ [] ∷ []
two b free = pieces_free 47 b [] refl free

three : (b c : List ℕ) → Free 47 b → Free 47 c → pieces 47 (b ++ (47 ∷ (c ++ 47 ∷ []))) ≡ b ∷ c ∷ [] ∷ []
three b c f g = pieces_free 47 b (c ++ 47 ∷ []) refl f ∙ ap (λ ps. b ∷ ps) (pieces_free 47 c [] refl g)

four : (b c d : List ℕ) → Free 47 b → Free 47 c → Free 47 d → pieces 47 (b ++ (47 ∷ (c ++ (47 ∷ d)))) ≡ b ∷ c ∷ d ∷ []
four b c d f g h = pieces_free 47 b (c ++ 47 ∷ d) refl f ∙ ap (λ ps. b ∷ ps) (pieces_free 47 c d refl g ∙ ap (λ ps. c ∷ ps) (pieces_last 47 d h))

free_test : (s : ℕ) (text : List ℕ) → list_all (λ c. not (c == s)) text ≡ true → Free s text
free_test s text h = free_passing (λ c. not (c == s)) s (λ c k. negated (c == s) k) text h
  where
    negated : (b : Bool) → not b ≡ true → b ≡ false
    negated true k = absurd (false≢true k)
    negated false k = refl

-- the path of a text without a query
of_text : (text : List ℕ) → Free 63 text → target_path text ≡ path_of_text (without_host text)
unfolding target_path
of_text text free = ap (λ x. path_of_text (without_host x)) (kept_whole text free)

named_two : (kind user : List ℕ) → is_empty kind ≡ false → is_empty user ≡ false → cond (list_any is_empty (kind ∷ user ∷ [])) None (path_of_names true (kind ∷ user ∷ [])) ≡ path_of_names true (kind ∷ user ∷ [])
named_two kind user a b = rw (a, b) refl

named_three : (kind user calendar : List ℕ) → is_empty kind ≡ false → is_empty user ≡ false → is_empty calendar ≡ false → cond (list_any is_empty (kind ∷ user ∷ calendar ∷ [])) None (path_of_names true (kind ∷ user ∷ calendar ∷ [])) ≡ path_of_names true (kind ∷ user ∷ calendar ∷ [])
named_three kind user calendar a b c = rw (a, b, c) refl

named_four : (kind user calendar object : List ℕ) → is_empty kind ≡ false → is_empty user ≡ false → is_empty calendar ≡ false → is_empty object ≡ false → cond (list_any is_empty (kind ∷ user ∷ calendar ∷ object ∷ [])) None (path_of_names false (kind ∷ user ∷ calendar ∷ object ∷ [])) ≡ path_of_names false (kind ∷ user ∷ calendar ∷ object ∷ [])
named_four kind user calendar object a b c d = rw (a, b, c, d) refl

segments_two : (kind user : List ℕ) → path_of_segments (kind ∷ user ∷ [] ∷ []) ≡ cond (list_any is_empty (percent_decode kind ∷ percent_decode user ∷ [])) None (path_of_names true (percent_decode kind ∷ percent_decode user ∷ []))
segments_two kind user = refl

segments_three : (kind user calendar : List ℕ) → path_of_segments (kind ∷ user ∷ calendar ∷ [] ∷ []) ≡ cond (list_any is_empty (percent_decode kind ∷ percent_decode user ∷ percent_decode calendar ∷ [])) None (path_of_names true (percent_decode kind ∷ percent_decode user ∷ percent_decode calendar ∷ []))
segments_three kind user calendar = refl

-- where the last segment has octets
segments_four : (kind user calendar object : List ℕ) → is_empty object ≡ false → path_of_segments (kind ∷ user ∷ calendar ∷ object ∷ []) ≡ cond (list_any is_empty (percent_decode kind ∷ percent_decode user ∷ percent_decode calendar ∷ percent_decode object ∷ [])) None (path_of_names false (percent_decode kind ∷ percent_decode user ∷ percent_decode calendar ∷ percent_decode object ∷ []))
segments_four kind user calendar object some = rw (some, path_of_segments) refl

two_names : (kind name : List ℕ) → is_empty kind ≡ false → percent_decode kind ≡ kind → IsBytes name → is_empty name ≡ false → path_of_segments (kind ∷ segment name ∷ [] ∷ []) ≡ path_of_names true (kind ∷ name ∷ [])
two_names kind name a k octets some =
    segments_two kind (segment name)
    ∙ ap (λ x. cond (list_any is_empty (x ∷ percent_decode (segment name) ∷ [])) None (path_of_names true (x ∷ percent_decode (segment name) ∷ []))) k
    ∙ ap (λ x. cond (list_any is_empty (kind ∷ x ∷ [])) None (path_of_names true (kind ∷ x ∷ []))) (decoded name octets)
    ∙ named_two kind name a some

segment_some : (name : List ℕ) → is_empty name ≡ false → is_empty (segment name) ≡ false
unfolding segment percent_encode_byte
segment_some [] h = h
segment_some (c ∷ name) h =
    ⊎_elim
    (λ yes. ap (λ b. is_empty (cond b (c ∷ []) (percent_encode_byte c) ++ segment name)) yes ∙ Prim.grind (arith, nat_tests))
    (λ escaped. ap (λ b. is_empty (cond b (c ∷ []) (percent_encode_byte c) ++ segment name)) escaped ∙ Prim.grind (arith, nat_tests))
    (bool_cases (is_kept c))

literal : (percent_decode (codes "principals") ≡ codes "principals") × (percent_decode (codes "calendars") ≡ codes "calendars")
unfolding percent_decode
literal = (refl, refl)

read_back_principal : (user : List ℕ) → IsBytes user → is_empty user ≡ false → target_path (href (Principal user)) ≡ Some (Principal user)
read_back_principal user octets some =
    of_text (href (Principal user)) (free-append 63 (codes "/principals/") (segment user ++ codes "/") (free_test 63 (codes "/principals/") refl) (free-append 63 (segment user) (codes "/") (no_query user) (free_test 63 (codes "/") refl)))
    ∙ ap (λ ps. path_of_segments (codes "principals" ∷ ps)) (two (segment user) (no_slash user))
    ∙ two_names (codes "principals") user refl literal.0 octets some

read_back_home : (user : List ℕ) → IsBytes user → is_empty user ≡ false → target_path (href (Home user)) ≡ Some (Home user)
read_back_home user octets some =
    of_text (href (Home user)) (free-append 63 (codes "/calendars/") (segment user ++ codes "/") (free_test 63 (codes "/calendars/") refl) (free-append 63 (segment user) (codes "/") (no_query user) (free_test 63 (codes "/") refl)))
    ∙ ap (λ ps. path_of_segments (codes "calendars" ∷ ps)) (two (segment user) (no_slash user))
    ∙ two_names (codes "calendars") user refl literal.1 octets some

calendar_named : (user calendar : List ℕ) → is_resource_name calendar ≡ true → path_of_names true (codes "calendars" ∷ user ∷ calendar ∷ []) ≡ Some (Calendar user calendar)
calendar_named user calendar h = ap (λ b. cond b (Some (Calendar user calendar)) None) h

object_named : (user calendar object : List ℕ) → is_resource_name calendar ≡ true → is_resource_name object ≡ true → path_of_names false (codes "calendars" ∷ user ∷ calendar ∷ object ∷ []) ≡ Some (Object user calendar object)
object_named user calendar object h k = ap (λ b. cond (b && is_resource_name object && true) (Some (Object user calendar object)) None) h ∙ ap (λ b. cond (b && true) (Some (Object user calendar object)) None) k

read_back_calendar : (user calendar : List ℕ) → IsBytes user → IsBytes calendar → is_empty user ≡ false → is_resource_name calendar ≡ true → target_path (href (Calendar user calendar)) ≡ Some (Calendar user calendar)
read_back_calendar user calendar a b some name =
    of_text (href (Calendar user calendar))
    (free-append 63 (codes "/calendars/") (segment user ++ (codes "/" ++ (segment calendar ++ codes "/"))) (free_test 63 (codes "/calendars/") refl)
    (free-append 63 (segment user) (codes "/" ++ (segment calendar ++ codes "/")) (no_query user)
    (free-append 63 (codes "/") (segment calendar ++ codes "/") (free_test 63 (codes "/") refl) (free-append 63 (segment calendar) (codes "/") (no_query calendar) (free_test 63 (codes "/") refl)))))
    ∙ ap (λ ps. path_of_segments (codes "calendars" ∷ ps)) (three (segment user) (segment calendar) (no_slash user) (no_slash calendar))
    ∙ segments_three (codes "calendars") (segment user) (segment calendar)
    ∙ ap (λ x. cond (list_any is_empty (x ∷ percent_decode (segment user) ∷ percent_decode (segment calendar) ∷ [])) None (path_of_names true (x ∷ percent_decode (segment user) ∷ percent_decode (segment calendar) ∷ []))) literal.1
    ∙ ap (λ x. cond (list_any is_empty (codes "calendars" ∷ x ∷ percent_decode (segment calendar) ∷ [])) None (path_of_names true (codes "calendars" ∷ x ∷ percent_decode (segment calendar) ∷ []))) (decoded user a)
    ∙ ap (λ x. cond (list_any is_empty (codes "calendars" ∷ user ∷ x ∷ [])) None (path_of_names true (codes "calendars" ∷ user ∷ x ∷ []))) (decoded calendar b)
    ∙ named_three (codes "calendars") user calendar refl some (resource_some calendar name)
    ∙ calendar_named user calendar name

read_back_object : (user calendar object : List ℕ) → IsBytes user → IsBytes calendar → IsBytes object → is_empty user ≡ false → is_resource_name calendar ≡ true → is_resource_name object ≡ true → target_path (href (Object user calendar object)) ≡ Some (Object user calendar object)
read_back_object user calendar object a b c some name last =
    of_text (href (Object user calendar object))
    (free-append 63 (codes "/calendars/") (segment user ++ (codes "/" ++ (segment calendar ++ (codes "/" ++ segment object)))) (free_test 63 (codes "/calendars/") refl)
    (free-append 63 (segment user) (codes "/" ++ (segment calendar ++ (codes "/" ++ segment object))) (no_query user)
    (free-append 63 (codes "/") (segment calendar ++ (codes "/" ++ segment object)) (free_test 63 (codes "/") refl)
    (free-append 63 (segment calendar) (codes "/" ++ segment object) (no_query calendar) (free-append 63 (codes "/") (segment object) (free_test 63 (codes "/") refl) (no_query object))))))
    ∙ ap (λ ps. path_of_segments (codes "calendars" ∷ ps)) (four (segment user) (segment calendar) (segment object) (no_slash user) (no_slash calendar) (no_slash object))
    ∙ segments_four (codes "calendars") (segment user) (segment calendar) (segment object) (segment_some object (resource_some object last))
    ∙ ap (λ x. cond (list_any is_empty (x ∷ percent_decode (segment user) ∷ percent_decode (segment calendar) ∷ percent_decode (segment object) ∷ [])) None (path_of_names false (x ∷ percent_decode (segment user) ∷ percent_decode (segment calendar) ∷ percent_decode (segment object) ∷ []))) literal.1
    ∙ ap (λ x. cond (list_any is_empty (codes "calendars" ∷ x ∷ percent_decode (segment calendar) ∷ percent_decode (segment object) ∷ [])) None (path_of_names false (codes "calendars" ∷ x ∷ percent_decode (segment calendar) ∷ percent_decode (segment object) ∷ []))) (decoded user a)
    ∙ ap (λ x. cond (list_any is_empty (codes "calendars" ∷ user ∷ x ∷ percent_decode (segment object) ∷ [])) None (path_of_names false (codes "calendars" ∷ user ∷ x ∷ percent_decode (segment object) ∷ []))) (decoded calendar b)
    ∙ ap (λ x. cond (list_any is_empty (codes "calendars" ∷ user ∷ calendar ∷ x ∷ [])) None (path_of_names false (codes "calendars" ∷ user ∷ calendar ∷ x ∷ []))) (decoded object c)
    ∙ named_four (codes "calendars") user calendar object refl some (resource_some calendar name) (resource_some object last)
    ∙ object_named user calendar object name last

root_back : target_path (codes "/") ≡ Some Root
unfolding target_path cut_at
root_back = refl

pub hrefs_are_read_back : HrefsAreReadBack
hrefs_are_read_back Root octets is = root_back
hrefs_are_read_back (Principal user) octets is = read_back_principal user octets (not_empty user (is_true _ is))
hrefs_are_read_back (Home user) octets is = read_back_home user octets (not_empty user (is_true _ is))
hrefs_are_read_back (Calendar user calendar) octets is =
    let each = both (not (is_empty user)) (is_resource_name calendar) (is_true _ is) in
    read_back_calendar user calendar octets.0 octets.1 (not_empty user each.0) each.1
hrefs_are_read_back (Object user calendar object) octets is =
    let outer = both (not (is_empty user) && is_resource_name calendar) (is_resource_name object) (is_true _ is) in
    let each = both (not (is_empty user)) (is_resource_name calendar) outer.0 in
    read_back_object user calendar object octets.0 octets.1 octets.2 (not_empty user each.0) each.1 outer.1
