-- What a word has behind a front, and the path that the first of some words names.
use Rattle.std.proofs.Common.{◌≡◌, ◌∙◌, ℕ, List, ◌∷◌, Bool, true, false, refl, ap, sym, drop, length}
use Rattle.std.specs.Prelude.{Option, Some, None, MatchOption, is_some, nat_eq, option_map, bytes_eq, codes, if◌then◌else◌}
use Rattle.std.specs.Borrow.{Bor}
use Rattle.std.specs.List.{starts_with}
use Rattle.std.specs.Option.{option_copied, option_or}
use Rattle.std.specs.Str.Pattern.{FindsTextPrefix, StripsPrefix}
use Rattle.std.proofs.lemmas.Bool.{true≢false}
use Rattle.std.proofs.lemmas.Bool.Decides.{Decides-eqb}
use Rattle.std.proofs.lemmas.Slice.Eq.{starts_is}
use Rattle.clap.specs.Words.{Text}
use Rattle.command_words.specs.JournalWords.{behind_front, first_or_empty, journal_path, path_named}

-- whether a value is there is told of its text
pub given : (r : Option (Bor (List ℕ))) (text : Option (List ℕ)) → option_map (λ (s : Bor (List ℕ)). s.now) r ≡ text → is_some r ≡ is_some text
given None text is = ap is_some is
given (Some x) text is = ap is_some is

-- what is cut off is that behind the front
pub stripped : (front text : List ℕ) (r : Option (Bor (List ℕ))) → MatchOption r (FindsTextPrefix front text None) (λ x. StripsPrefix (FindsTextPrefix front) text x.now) → option_copied r ≡ behind_front front text
stripped front text (Some x) (n, found, rest, long) =
    let starts : starts_with nat_eq text front ≡ true = (starts_is Decides-eqb text front _ refl).1 (drop n text) found.1 in
    ap Some (rest ∙ ap (λ (k : ℕ). drop k text) found.0) ∙ ap (λ (test : Bool). if test then Some (drop (length front) text) else None) (sym starts)
stripped front text None none = by_test (starts_with nat_eq text front) refl
  where
    by_test : (test : Bool) → starts_with nat_eq text front ≡ test → option_copied {T = List ℕ} None ≡ (if test then Some (drop (length front) text) else None)
    by_test true is = absurd (none (drop (length front) text) ((starts_is Decides-eqb text front _ refl).0 is))
    by_test false is = refl

-- `--journal` names the word behind it, and another word what it has behind `--journal=`
pub names_next : (word : Text) (behind : List Text) (test : Bool) → test ≡ bytes_eq word (codes "--journal") → test ≡ true → Some (first_or_empty behind) ≡ path_named word behind
unfolding path_named
names_next word behind test is same = ap (λ (t : Bool). if t then Some (first_or_empty behind) else behind_front (codes "--journal=") word) (sym same ∙ is)

pub names_within : (word : Text) (behind : List Text) (test : Bool) → test ≡ bytes_eq word (codes "--journal") → test ≡ false → behind_front (codes "--journal=") word ≡ path_named word behind
unfolding path_named
names_within word behind test is other = ap (λ (t : Bool). if t then Some (first_or_empty behind) else behind_front (codes "--journal=") word) (sym other ∙ is)

-- where the first word names no path, the others do
pub goes_on : (words : List Text) (word : Text) (behind : List Text) (r : Option (Bor (List ℕ))) → words ≡ word ∷ behind → option_copied r ≡ path_named word behind → is_some r ≡ false → journal_path behind ≡ journal_path words
goes_on words word behind None first named none = ap (λ (o : Option Text). option_or o (journal_path behind)) named ∙ ap journal_path (sym first)
goes_on words word behind (Some x) first named none = absurd (true≢false none)

-- and where it names one, it is that
pub stops : (words : List Text) (word : Text) (behind : List Text) (r : Option (Bor (List ℕ))) → words ≡ word ∷ behind → option_copied r ≡ path_named word behind → is_some r ≡ true → option_copied r ≡ journal_path words
stops words word behind None first named some = absurd (true≢false (sym some))
stops words word behind (Some x) first named some = ap (λ (o : Option Text). option_or o (journal_path behind)) named ∙ ap journal_path (sym first)
