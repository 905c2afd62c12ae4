-- G Table 5 and Req 06: descriptive strings are valid UTF-8 by RFC 3629. A string is judged by its own bytes alone.
use Rattle.std.specs.Prelude.{ℕ, ◌+◌, List, [], ◌∷◌, Bool}
use Rattle.wire.specs.Tests.{is, passes}
use Rattle.wire.specs.Bytes.{u16_at, part}
use Rattle.utf8.specs.Utf8.{utf8}
use Rattle.header.specs.Element.{label_at, description_at, unit_at}

-- the bytes of the string at `at`, none where they do not lie whole in the file
unfoldable pub string_text : List ℕ → ℕ → List ℕ
string_text s at = part s (at + 2) (u16_at s at)

unfoldable pub text_right : List ℕ → ℕ → Bool
text_right s at = utf8 (string_text s at)

-- G Table 8, of the entry at `at`: its label, its description and its unit of measure. Its name is an identifier
unfoldable pub entry_texts : List ℕ → ℕ → Bool
entry_texts s at =
    passes (is (text_right s (label_at s at)) ∷ is (text_right s (description_at s at)) ∷ is (text_right s (unit_at s at)) ∷ [])
