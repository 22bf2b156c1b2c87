-- The element of a property in pieces: its tag, whatever content is appended behind it, and what closes it.
use Rattle.std.specs.Prelude.{ℕ, ◌+◌, ◌==◌, if◌then◌else◌, List, ◌++◌, length, take, codes}
use Rattle.dav_write.specs.ElementTexts.{element_name, own_declaration, end_tag}

-- the tag that opens it, without its end
abbrev pub opened : List ℕ → List ℕ → List ℕ
opened space name = codes "<" ++ (element_name space name ++ own_declaration space)

-- closed behind its content, where the end of its tag stands at a place: without content it is `<a/>`
abbrev pub closed : ℕ → List ℕ → List ℕ → List ℕ → List ℕ
closed place space name written = if length written == place + 1 then take place written ++ codes "/>" else written ++ end_tag space name
