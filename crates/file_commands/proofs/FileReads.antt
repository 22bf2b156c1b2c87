-- What the commands over calendar files tell, where the files are read one after the other.
use Rattle.std.proofs.Common.{◌≡◌, ℕ, List, Option, Some, sym, ap, ◌∙◌, subst}
use Rattle.std.specs.Prelude.{option_map, unwrap_or}
use Rattle.cal_base.specs.Texts.LentTexts.{text_there}
use Rattle.cal_model.specs.declared.row.Range.{Range}
use Rattle.clap.specs.Words.{Text}
use Rattle.command_words.specs.declared.expand_words.ExpandWords.{ExpandWords}
use Rattle.command_words.specs.ExpandSaid.{IsSaid}
use Rattle.command_words.specs.ExpandWords.{file_path, range_of_words, zone_path}
use Rattle.file_commands.specs.declared.file_end.ToolEnd.{ToolEnd}
use Rattle.file_commands.specs.FileEnds.{AreContents, HasTold}
use Rattle.file_commands.specs.FileTold.{Told, check_told, expand_told}

-- Contents that are told

module _ (end : ToolEnd) (before after : Option (List ℕ)) where
  abbrev Has : Told → Type 0
  Has told = HasTold told end before after

  -- What the words say is what they were read as.
  module _ (content : List ℕ → Option (List ℕ)) where
    abbrev ForWords : List Text → Type 0
    ForWords words =
        (range : Range) (octets : List ℕ) (zone : Option (List ℕ)) → range_of_words words ≡ Some range → AreContents content (file_path words) (zone_path words) octets zone
        → Has (expand_told (file_path words) (zone_path words) range octets zone)

    pub expand-said : (read words : List Text) (w : ExpandWords) → read ≡ words → IsSaid (file_path read) (zone_path read) (range_of_words read) w
        → ((octets : List ℕ) (zone : Option (List ℕ)) → AreContents content w.file.now (text_there w.zone) octets zone → Has (expand_told w.file.now (text_there w.zone) w.range octets zone)) → ForWords words
    expand-said read words w are said has = subst ForWords are by
      where
        by : ForWords read
        by range octets zone is contents =
            let same : w.range ≡ range = ap (λ o. unwrap_or o w.range) (sym said.range_is ∙ is) in
            let there : AreContents content w.file.now (text_there w.zone) octets zone = record {
              file_is = ap content said.file_is ∙ contents.file_is;
              zone_is = ap (option_map content) said.zone_is ∙ contents.zone_is;
            } in
            subst (λ r. Has (expand_told (file_path read) (zone_path read) r octets zone)) same
            (subst (λ z. Has (expand_told (file_path read) z w.range octets zone)) said.zone_is
            (subst (λ f. Has (expand_told f (text_there w.zone) w.range octets zone)) said.file_is (has octets zone there)))

    pub check-said : (file path : List ℕ) → file ≡ path → ((octets : List ℕ) → content file ≡ Some octets → Has (check_told file octets)) → (octets : List ℕ) → content path ≡ Some octets → Has (check_told path octets)
    check-said file path same has = subst (λ p. (octets : List ℕ) → content p ≡ Some octets → Has (check_told p octets)) same has
