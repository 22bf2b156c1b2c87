-- The response of a resource while its properties are answered one after another.
use Rattle.std.specs.Prelude.{◌≡◌, ℕ, List, ◌++◌, length, flat_map}
use Rattle.cal_model.specs.Properties.PropertyTable.{Answer}
use Rattle.cal_model.specs.Properties.PropertyReplies.{property_element, with_status, propstat_of}
use Rattle.multistatus.specs.declared.responses.Response.{Response}
use Rattle.multistatus.specs.ReplyPieces.{response_front, propstat_front}

-- the elements of those answers that have a status
abbrev pub elements : ℕ → List Answer → List ℕ
elements status answers = flat_map property_element (with_status status answers)

-- Behind a front the response of the resource at an href is begun, and so many answers are taken in: what is written ends with those of status 200, and the others stand aside.
pub record IsAnswered (front href : List ℕ) (answers : List Answer) (response : Response) (written : List ℕ) : Type 0 where
  pub text : written ≡ ((front ++ response_front href) ++ propstat_front) ++ elements 200 answers
  pub begin : response.begin ≡ length (front ++ response_front href)
  pub found : response.found ≡ length ((front ++ response_front href) ++ propstat_front)
  pub not_found : response.not_found ≡ elements 404 answers
  pub forbidden : response.forbidden ≡ elements 403 answers
  pub failed : response.failed ≡ elements 424 answers

-- the properties of the other statuses
abbrev pub others : List Answer → List ℕ
others answers = propstat_of 404 (with_status 404 answers) ++ (propstat_of 403 (with_status 403 answers) ++ propstat_of 424 (with_status 424 answers))
