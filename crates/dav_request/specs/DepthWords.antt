-- What the word of a Depth makes of the content of a PROPFIND.
use Rattle.std.specs.Prelude.{codes}
use Rattle.cal_model.specs.declared.request.Content.{Content}
use Rattle.cal_model.specs.declared.request.Content.TheVariants.{Bad}
use Rattle.cal_model.specs.Bodies.Refusals.{bad_request, dav_refusal}
use Rattle.dav_request.specs.declared.conditions.DepthWord.{DepthWord}
use Rattle.dav_request.specs.declared.conditions.DepthWord.TheVariants.{Finite, Infinite, Other}

abbrev pub at_depth_word : DepthWord → Content → Content
at_depth_word Finite content = content
at_depth_word Infinite content = Bad (dav_refusal (codes "propfind-finite-depth"))
at_depth_word Other content = Bad bad_request
