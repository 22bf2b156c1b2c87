-- The tags of a value, by whether it is `*`.
use Rattle.std.proofs.Common.{◌≡◌, ℕ, true, false, List, Some, cond, ap}
use Rattle.std.specs.Prelude.{bytes_eq, codes, option_map}
use Rattle.cal_base.specs.Lines.ContentLines.{unquoted_pieces}
use Rattle.cal_base.specs.Texts.Octets.{comma}
use Rattle.cal_model.specs.declared.request.Tags.TheVariants.{Any, Listed}
use Rattle.cal_model.specs.Requests.ConditionalTags.{tags_of}
use Rattle.dav_request.specs.TagPieces.{tag_in, tags_in_all}

pub any_tag : (value : List ℕ) → bytes_eq value (codes "*") ≡ true → tags_of value ≡ Some Any
unfolding tags_of tag_in
any_tag value star = ap (λ b. cond b (Some Any) (option_map Listed (tags_in_all (unquoted_pieces comma false value)))) star

pub listed_tags : (value : List ℕ) → bytes_eq value (codes "*") ≡ false → tags_of value ≡ option_map Listed (tags_in_all (unquoted_pieces comma false value))
unfolding tags_of tag_in
listed_tags value other = ap (λ b. cond b (Some Any) (option_map Listed (tags_in_all (unquoted_pieces comma false value)))) other
