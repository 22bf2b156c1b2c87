-- The users and the groups that are kept, as those of a file.
use Rattle.std.specs.Prelude.{List, map}
use Rattle.cal_model.specs.Users.UsersFile.{User, Group, Users}
use Rattle.privileges.specs.declared.users.KnownUser.{KnownUser}
use Rattle.privileges.specs.declared.users.KnownGroup.{KnownGroup}
use Rattle.privileges.specs.Marks.{marked_group}

abbrev pub shown_user : KnownUser → User
shown_user user = record { name = user.name; digest = user.digest }

abbrev pub shown_group : KnownGroup → Group
shown_group group = marked_group group.name group.members

abbrev pub shown : List KnownUser → List KnownGroup → Users
shown users groups = record { people = map shown_user users; groups = map shown_group groups }
