-- Where no entry made an object, the origins of objects are apart.
use Rattle.std.proofs.Common.{[]}
use Rattle.cal_model.specs.History.Origins.{Origins, AreLive}
use Rattle.cal_book.specs.Showing.Views.{AreApart}
use Rattle.cal_book.proofs.Showing.ApartLaws.{live-apart}

pub opening_apart : (origins : Origins) → AreLive [] origins → AreApart origins
opening_apart origins live = live-apart [] origins live
