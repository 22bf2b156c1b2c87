-- The content of a request, by the order in which its refusals come.
use Rattle.std.proofs.Common.{◌≡◌, Bool, true, false, ◌||◌, cond, refl, sym, ap, ◌∙◌}
use Rattle.cal_model.specs.declared.request.Content.{Content}
use Rattle.cal_model.specs.declared.request.Content.TheVariants.{Bad}
use Rattle.cal_model.specs.declared.request.Method.{Method}
use Rattle.cal_model.specs.declared.wire.WireRequest.{WireRequest}
use Rattle.cal_model.specs.Bodies.Refusals.{bad_request, unsupported_media}
use Rattle.cal_model.specs.Requests.AskedRequests.{body_content, is_malformed, unless_bad, with_tags, with_depth, content_of}
use Rattle.cal_model.specs.Requests.FieldValues.{is_plain_coding}
use Rattle.cal_model.specs.Users.UsersFile.{Users}

pub content_coded : (users : Users) (wire : WireRequest) (method : Method) → is_plain_coding wire.coding ≡ false → content_of users wire method ≡ Bad unsupported_media
unfolding content_of
content_coded users wire method coded = ap (λ plain. cond plain (with_depth wire method (with_tags wire (body_content users wire method))) (Bad unsupported_media)) coded

-- either field of tags is refused alike
either_malformed : (one other : Bool) (refused content : Content) → cond (one || other) refused content ≡ cond one refused (cond other refused content)
either_malformed true other refused content = refl
either_malformed false other refused content = refl

with_both_tags : (wire : WireRequest) (malformed : Bool) (content : Content) → malformed ≡ (is_malformed wire.if_match || is_malformed wire.if_none) → cond malformed (unless_bad content (Bad bad_request)) content ≡ with_tags wire content
with_both_tags wire malformed content is =
    ap (λ b. cond b (unless_bad content (Bad bad_request)) content) is ∙ either_malformed (is_malformed wire.if_match) (is_malformed wire.if_none) (unless_bad content (Bad bad_request)) content

-- behind the coding: the body, the tags, the depth
pub content_in_order : (users : Users) (wire : WireRequest) (method : Method) (malformed : Bool) (body content : Content) → is_plain_coding wire.coding ≡ true → malformed ≡ (is_malformed wire.if_match || is_malformed wire.if_none) → body ≡ body_content users wire method → content ≡ cond malformed (unless_bad body (Bad bad_request)) body → content_of users wire method ≡ with_depth wire method content
unfolding content_of
content_in_order users wire method malformed body content plain tags read with =
    ap (λ plainly. cond plainly (with_depth wire method (with_tags wire (body_content users wire method))) (Bad unsupported_media)) plain
    ∙ ap (λ those. with_depth wire method (with_tags wire those)) (sym read)
    ∙ ap (with_depth wire method) (sym (with ∙ with_both_tags wire malformed body tags))
