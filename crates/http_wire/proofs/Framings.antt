-- What the fields of a head say of its body, and its request, by the values under each name.
use Rattle.std.proofs.Common.{◌≡◌, ℕ, ◌≤◌, Bool, true, false, cond, ◌==◌, ◌||◌, ◌&&◌, not, List, [], ◌∷◌, length, map, Option, Some, None, Result, Ok, Err, refl, sym, ap, ◌∙◌, arith, ⊎_elim}
use Rattle.std.specs.Prelude.{bytes_eq, codes, filter, nat_lt, is_some, slice_get, option_and_then, unwrap_or}
use Rattle.std.specs.List.{list_any}
use Rattle.std.specs.Str.{str_eq_ignore_ascii_case}
use Rattle.std.proofs.lemmas.Bool.Decides.{nat_tests}
use Rattle.std.proofs.lemmas.Bool.{or_parts}
use Rattle.httparse.specs.Grammar.{Field, field_value, RequestHead}
use Rattle.httparse.specs.Spans.{name_and_value}
use Rattle.cal_model.specs.declared.wire.WireFault.{WireFault}
use Rattle.cal_model.specs.declared.wire.WireFault.TheVariants.{BadHead, BodyTooLong}
use Rattle.cal_model.specs.Words.Lists.{is_empty}
use Rattle.cal_model.specs.Streams.WireLimits.{body_limit}
use Rattle.cal_model.specs.Streams.HeadFields.{values, Framing, sized, chunked, framing_of, length_of, single_fields, is_repeated, is_too_long, wire_request}
use Rattle.cal_model.proofs.Streams.StreamFronts.{bool_cases}
use Rattle.cal_model.specs.declared.wire.WireRequest.{WireRequest}
use Rattle.cal_model.specs.Streams.HeadFields.{names_close, joined}
use Rattle.http_wire.specs.declared.fields.Fields.{Fields}
use Rattle.http_wire.specs.declared.request.Line.{Line as RequestLine}
use Rattle.http_wire.specs.declared.part.Part.TheVariants.{Sized, Line}
use Rattle.http_wire.specs.FieldTexts.{values_named, values_of, AreFieldsOf, is_several, coding_among}
use Rattle.http_wire.specs.HeadReading.{judged, framed, first_part, FramingReads, IsHeadOf}
use Rattle.http_wire.proofs.FieldValues.{values_of-map}

-- the values under a name are those of the fields, by their names and values
values_are : (name : List ℕ) (fields : List Field) → map field_value (filter (λ (field : Field). str_eq_ignore_ascii_case field.name name) fields) ≡ values_named name (map name_and_value fields)
values_are name [] = refl
values_are name (f ∷ fields) =
    ⊎_elim
    (λ here. rw here (ap (λ l. field_value f ∷ l) (values_are name fields)))
    (λ other. rw other (values_are name fields))
    (bool_cases (str_eq_ignore_ascii_case f.name name))

pub values_same : (name : List ℕ) (fields : Fields) (head : RequestHead) → AreFieldsOf fields head → values_of name fields ≡ values name head
values_same name fields head e = values_of-map name fields (map name_and_value head.fields) e ∙ sym (values_are name head.fields)

any_same : (p q : List ℕ → Bool) (names : List (List ℕ)) → ((name : List ℕ) → p name ≡ q name) → list_any p names ≡ list_any q names
any_same p q [] h = refl
any_same p q (name ∷ names) h = ap (λ b. b || list_any p names) (h name) ∙ ap (λ b. q name || b) (any_same p q names h)

several_same : (fields : Fields) (head : RequestHead) → AreFieldsOf fields head → list_any (is_several fields) single_fields ≡ list_any (is_repeated head) single_fields
several_same fields head e = any_same (is_several fields) (is_repeated head) single_fields (λ name. ap (λ vs. nat_lt 1 (length vs)) (values_same name fields head e))

-- Contradictions and framing, over the values

contradicts : Bool → List (List ℕ) → List (List ℕ) → Bool
contradicts several lengths codings =
    several || not (is_empty lengths) && not (is_empty codings) || list_any (λ value. not (is_some (length_of value))) lengths
    || list_any (λ value. not (bytes_eq value (codes "chunked"))) codings

framing_by : List (List ℕ) → List (List ℕ) → Framing
framing_by lengths codings = cond (is_empty codings) (sized (unwrap_or (option_and_then length_of (slice_get lengths 0)) 0)) chunked

judged_by : RequestHead → Bool → Framing → Result RequestHead WireFault
judged_by head wrong framing = cond wrong (Err BadHead) (cond (is_too_long framing) (Err BodyTooLong) (Ok head))

lengths_of : RequestHead → List (List ℕ)
lengths_of head = values (codes "content-length") head

codings_of : RequestHead → List (List ℕ)
codings_of head = values (codes "transfer-encoding") head

judged_is : (head : RequestHead) (several : Bool) (ls cs : List (List ℕ)) → list_any (is_repeated head) single_fields ≡ several → lengths_of head ≡ ls → codings_of head ≡ cs → judged head ≡ judged_by head (contradicts several ls cs) (framing_by ls cs)
unfolding judged_by contradicts framing_by lengths_of codings_of
judged_is head several ls cs a l c =
    ap (λ s. judged_by head (contradicts s (lengths_of head) (codings_of head)) (framing_by (lengths_of head) (codings_of head))) a
    ∙ ap (λ x. judged_by head (contradicts several x (codings_of head)) (framing_by x (codings_of head))) l
    ∙ ap (λ x. judged_by head (contradicts several ls x) (framing_by ls x)) c

pub several_refused : (fields : Fields) (head : RequestHead) → list_any (is_several fields) single_fields ≡ true → AreFieldsOf fields head → judged head ≡ Err BadHead
unfolding judged_by contradicts framing_by
several_refused fields head several e = judged_is head true (lengths_of head) (codings_of head) (sym (several_same fields head e) ∙ several) refl refl

framing_is : (head : RequestHead) (ls cs : List (List ℕ)) → lengths_of head ≡ ls → codings_of head ≡ cs → framing_of head ≡ framing_by ls cs
unfolding framing_by lengths_of codings_of
framing_is head ls cs l c = ap (λ x. framing_by x (codings_of head)) l ∙ ap (λ x. framing_by ls x) c

reads_by : (head : RequestHead) (ls cs : List (List ℕ)) → list_any (is_repeated head) single_fields ≡ false → lengths_of head ≡ ls → codings_of head ≡ cs → length ls ≤ 1 → length cs ≤ 1 → FramingReads (framed (slice_get cs 0) (slice_get ls 0)) head
unfolding judged_by contradicts framing_by
reads_by head [] [] a l c one few = (judged_is head false [] [] a l c, sym (ap first_part (framing_is head [] [] l c)))
reads_by head [] (coding ∷ []) a l c one few = by (bytes_eq coding (codes "chunked")) refl
  where
    by : (b : Bool) → bytes_eq coding (codes "chunked") ≡ b → FramingReads (cond b (Ok Line) (Err BadHead)) head
    by true h = (judged_is head false [] (coding ∷ []) a l c ∙ rw h refl, sym (ap first_part (framing_is head [] (coding ∷ []) l c)))
    by false h = judged_is head false [] (coding ∷ []) a l c ∙ rw h refl
reads_by head (value ∷ []) [] a l c one few = by (length_of value) refl
  where
    by : (o : Option ℕ) → length_of value ≡ o → FramingReads (elim o [ None ↦ Err BadHead | Some size ↦ cond (nat_lt body_limit size) (Err BodyTooLong) (Ok (Sized size)) ]) head
    by None h = judged_is head false (value ∷ []) [] a l c ∙ rw h refl
    by (Some size) h = within (nat_lt body_limit size) refl
      where
        within : (b : Bool) → nat_lt body_limit size ≡ b → FramingReads (cond b (Err BodyTooLong) (Ok (Sized size))) head
        within true k = judged_is head false (value ∷ []) [] a l c ∙ rw h (rw k refl)
        within false k = (judged_is head false (value ∷ []) [] a l c ∙ rw h (rw k refl), sym (ap first_part (framing_is head (value ∷ []) [] l c) ∙ rw h refl))
reads_by head (value ∷ []) (coding ∷ []) a l c one few = judged_is head false (value ∷ []) (coding ∷ []) a l c
reads_by head (value ∷ other ∷ ls) cs a l c one few = absurd (omega (arith, one))
reads_by head ls (coding ∷ other ∷ cs) a l c one few = absurd (omega (arith, few))

pub framing_reads : (fields : Fields) (head : RequestHead) → list_any (is_several fields) single_fields ≡ false → AreFieldsOf fields head
    → FramingReads (framed (slice_get (values_of (codes "transfer-encoding") fields) 0) (slice_get (values_of (codes "content-length") fields) 0)) head
unfolding lengths_of codings_of
framing_reads fields head single e =
    let none : list_any (is_repeated head) single_fields ≡ false = sym (several_same fields head e) ∙ single in
    let ls = values_of (codes "content-length") fields in
    let cs = values_of (codes "transfer-encoding") fields in
    let first = or_parts (is_several fields (codes "authorization")) _ single in
    let second = or_parts (is_several fields (codes "content-length")) _ first.1 in
    let third = or_parts (is_several fields (codes "content-type")) _ second.1 in
    let fourth = or_parts (is_several fields (codes "depth")) _ third.1 in
    let fifth = or_parts (is_several fields (codes "transfer-encoding")) _ fourth.1 in
    let few_lengths : length ls ≤ 1 = Prim.grind (arith, nat_tests, second.0) in
    let few_codings : length cs ≤ 1 = Prim.grind (arith, nat_tests, fifth.0) in
    reads_by head ls cs none (sym (values_same (codes "content-length") fields head e)) (sym (values_same (codes "transfer-encoding") fields head e)) few_lengths few_codings

-- The request of a head

pub request_is : (line : RequestLine) (fields : Fields) (head : RequestHead) (close : Bool) (method target body : List ℕ) (authorization media coding depth matches none_matches : Option (List ℕ)) → IsHeadOf line fields head
    → (method ≡ line.method.now) × (target ≡ line.target.now) → close ≡ ((line.minor == 0) || list_any names_close (values_of (codes "connection") fields))
    → (authorization ≡ slice_get (values_of (codes "authorization") fields) 0) × (media ≡ slice_get (values_of (codes "content-type") fields) 0) × (coding ≡ coding_among (values_of (codes "content-encoding") fields))
    → (depth ≡ slice_get (values_of (codes "depth") fields) 0) × (matches ≡ joined (values_of (codes "if-match") fields)) × (none_matches ≡ joined (values_of (codes "if-none-match") fields))
    → body ≡ [] → ◌≡◌ {A = WireRequest} (record { method = method; target = target; close = close; authorization = authorization; media = media; coding = coding; depth = depth; if_match = matches; if_none = none_matches; body = body }) (wire_request head [])
unfolding wire_request
request_is line fields head close method target body authorization media coding depth matches none_matches of texts closes contents conditions empty =
    let same = λ (name : List ℕ). values_same name fields head of.fields_are in
    let m = texts.0 ∙ of.method in
    let t = texts.1 ∙ of.target in
    let cl = closes ∙ ap (λ n. (n == 0) || list_any names_close (values_of (codes "connection") fields)) of.minor ∙ ap (λ vs. (head.minor == 0) || list_any names_close vs) (same (codes "connection")) in
    let a = contents.0 ∙ ap (λ vs. slice_get vs 0) (same (codes "authorization")) in
    let me = contents.1 ∙ ap (λ vs. slice_get vs 0) (same (codes "content-type")) in
    let co = contents.2 ∙ ap coding_among (same (codes "content-encoding")) in
    let d = conditions.0 ∙ ap (λ vs. slice_get vs 0) (same (codes "depth")) in
    let im = conditions.1 ∙ ap joined (same (codes "if-match")) in
    let inm = conditions.2 ∙ ap joined (same (codes "if-none-match")) in
    rw (m, t, cl, a, me, co, d, im, inm, empty) refl
