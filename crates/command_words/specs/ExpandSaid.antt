-- What the texts of the options of `expand` say.
use Rattle.std.specs.Prelude.{◌≡◌, Option, Some}
use Rattle.clap.specs.Words.{Text}
use Rattle.cal_base.specs.Texts.LentTexts.{text_there}
use Rattle.cal_model.specs.declared.row.Range.{Range}
use Rattle.command_words.specs.declared.expand_words.ExpandWords.{ExpandWords}

-- the words say what the texts do
pub record IsSaid (file : Text) (zone : Option Text) (range : Option Range) (words : ExpandWords) : Type 0 where
  pub file_is : words.file.now ≡ file
  pub zone_is : text_there words.zone ≡ zone
  pub range_is : range ≡ Some words.range
