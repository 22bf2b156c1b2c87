-- What a method takes from the root of its body.
use Rattle.std.specs.Prelude.{Bool, true, false}
use Rattle.cal_base.specs.declared.element.Element.{Element}
use Rattle.cal_model.specs.declared.request.Content.{Content}
use Rattle.cal_model.specs.declared.request.Content.TheVariants.{Bad}
use Rattle.cal_model.specs.declared.request.Method.{Method}
use Rattle.cal_model.specs.declared.request.Method.TheVariants.{Options, Get, Head, Put as PutMethod, Delete, Propfind, Proppatch, Report, Mkcalendar, Acl}
use Rattle.cal_model.specs.Bodies.AclBodies.{acl_content}
use Rattle.cal_model.specs.Bodies.PropertyBodies.{find_content, find_all, patch_content, make_content, make_plain}
use Rattle.cal_model.specs.Bodies.Refusals.{bad_request}
use Rattle.cal_model.specs.Bodies.ReportBodies.{report_content}
use Rattle.cal_model.specs.Users.UsersFile.{Users}

abbrev pub root_content : Users → Method → Bool → Element → Content
root_content users Options deep root = Bad bad_request
root_content users Get deep root = Bad bad_request
root_content users Head deep root = Bad bad_request
root_content users PutMethod deep root = Bad bad_request
root_content users Delete deep root = Bad bad_request
root_content users Propfind deep root = find_content deep root
root_content users Proppatch deep root = patch_content root
root_content users Report deep root = report_content root
root_content users Mkcalendar deep root = make_content root
root_content users Acl deep root = acl_content users root

-- what a method takes from no body
abbrev pub absent_content : Method → Bool → Content
absent_content Propfind deep = find_all deep
absent_content Mkcalendar deep = make_plain
absent_content _ deep = Bad bad_request

-- a method whose body is XML
abbrev pub takes_xml : Method → Bool
takes_xml Propfind = true
takes_xml Proppatch = true
takes_xml Report = true
takes_xml Mkcalendar = true
takes_xml Acl = true
takes_xml _ = false
