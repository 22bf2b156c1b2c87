-- Whether a grant to a group is to a user who may be in it.
use Rattle.std.proofs.Common.{◌≡◌, ℕ, Bool, ◌==◌, sym, ap, ◌∙◌, zero-add, arith}
use Rattle.std.specs.List.{list_any}
use Rattle.std.proofs.lemmas.Bool.Decides.{nat_tests}
use Rattle.cal_model.specs.Access.Privileges.{fits_user}
use Rattle.cal_model.specs.declared.privilege.Who.TheVariants.{Group}
use Rattle.cal_model.specs.State.ServerState.{Directory, has_member, groups_of, is_member}
use Rattle.privileges.proofs.Numbered.{has-numbers}

turned : (a b : ℕ) → (a == b) ≡ (b == a)
turned a b = grind (arith, nat_tests)

pub fits_user-group : (directory : Directory) (who group : ℕ) → is_member directory group who ≡ fits_user (groups_of directory who) who (Group group)
fits_user-group directory who group =
    sym (has-numbers (has_member who) 0 group directory.groups group (sym (zero-add group))) ∙ ap (λ (test : ℕ → Bool). list_any test (groups_of directory who)) (λ i number. turned number group i)
