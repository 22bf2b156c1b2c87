-- The methods of this server (RFC 9110, 9; RFC 4918, 9; RFC 3253, 3.6; RFC 4791, 5.3; RFC 3744, 8.1), and which a path has.
-- Given: a name, or a path. What kind of thing stands at a path follows from its shape alone.
use Rattle.std.specs.Prelude.{ℕ, Bool, List, [], ◌∷◌, find, bytes_eq, codes, Option}
use Rattle.std.specs.List.{list_any}
use Rattle.cal_model.specs.declared.path.Path.{Path}
use Rattle.cal_model.specs.declared.path.Path.TheVariants.{Root, Principal, Home, Calendar, Object}
use Rattle.cal_model.specs.declared.request.Method.{Method}
use Rattle.cal_model.specs.declared.request.Method.TheVariants.{Options, Get, Head, Put as PutMethod, Delete, Propfind, Proppatch, Report, Mkcalendar, Acl}

-- the names of the methods, which compare with case
abbrev pub method_name : Method → List ℕ
method_name Options = codes "OPTIONS"
method_name Get = codes "GET"
method_name Head = codes "HEAD"
method_name PutMethod = codes "PUT"
method_name Delete = codes "DELETE"
method_name Propfind = codes "PROPFIND"
method_name Proppatch = codes "PROPPATCH"
method_name Report = codes "REPORT"
method_name Mkcalendar = codes "MKCALENDAR"
method_name Acl = codes "ACL"

abbrev pub methods : List Method
methods = Options ∷ Get ∷ Head ∷ PutMethod ∷ Delete ∷ Propfind ∷ Proppatch ∷ Report ∷ Mkcalendar ∷ Acl ∷ []

abbrev pub method_of : List ℕ → Option Method
method_of name = find (λ method. bytes_eq (method_name method) name) methods

-- the methods that a path has, by its shape
abbrev pub methods_at : Path → List Method
methods_at Root = Options ∷ Propfind ∷ []
methods_at (Principal user) = Options ∷ Propfind ∷ []
methods_at (Home user) = Options ∷ Propfind ∷ []
methods_at (Calendar user calendar) = Options ∷ Propfind ∷ Proppatch ∷ Report ∷ Mkcalendar ∷ Acl ∷ Delete ∷ []
methods_at (Object user calendar object) = Options ∷ Get ∷ Head ∷ PutMethod ∷ Delete ∷ Propfind ∷ []

abbrev pub has_method : Path → Method → Bool
has_method path method = list_any (λ other. bytes_eq (method_name other) (method_name method)) (methods_at path)
