-- The words that name a journal file: which file the first of them names, and the words of a script with one.
-- Given: the words behind the program's name.
use Rattle.std.specs.Prelude.{◌&&◌, nat_eq, not, List, [], ◌∷◌, Option, Some, None, bytes_eq, codes, drop, length, if◌then◌else◌}
use Rattle.std.specs.List.{starts_with}
use Rattle.std.specs.Option.{option_or}
use Rattle.clap.specs.Words.{Text}

-- the first word, or the empty text
abbrev pub first_or_empty : List Text → Text
first_or_empty [] = []
first_or_empty (word ∷ behind) = word

-- what a text has behind a front, if it has that front
abbrev pub behind_front : Text → Text → Option Text
behind_front front text = if starts_with nat_eq text front then Some (drop (length front) text) else None

-- The path that a word names: `--journal` the word behind it, and `--journal=PATH` that path. Unfoldable, so that no goal computes it.
unfoldable pub path_named : Text → List Text → Option Text
path_named word behind = if bytes_eq word (codes "--journal") then Some (first_or_empty behind) else behind_front (codes "--journal=") word

-- The path that the first word which names one does; none where no word does.
abbrev pub journal_path : List Text → Option Text
journal_path [] = None
journal_path (word ∷ behind) = option_or (path_named word behind) (journal_path behind)

-- the path of the users file, where the words are `script`, `--users`, that path, `--journal` and the path of a journal file, and neither path is empty
abbrev pub kept_users_path : List Text → Option Text
kept_users_path (command ∷ users ∷ path ∷ journal ∷ file ∷ []) =
    if bytes_eq command (codes "script") && (bytes_eq users (codes "--users") && (not (bytes_eq path []) && (bytes_eq journal (codes "--journal") && not (bytes_eq file []))))
    then Some path else None
kept_users_path _ = None
