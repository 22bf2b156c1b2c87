use Rattle.std.proofs.Common.{ap, ◌∙◌}
use Rattle.cal_model.specs.Requests.ConditionalTags.{entity_tag}
use Rattle.dav_request.specs.TagPieces.{tag_in}
use Rattle.dav_request.proofs.tags.tag_in.Goals as goal

pub returns : goal.returns
unfolding tag_in
returns c = c.entity_tag.ensures ∙ ap entity_tag c.trimmed.ensures
