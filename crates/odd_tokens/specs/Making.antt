-- What each token of a file gives to the tree.
use Rattle.std.specs.Prelude.{ℕ, map}
use Rattle.std.specs.Str.{encode_utf8_all}
use Rattle.odd_tokens.specs.Values.{value_read}
use Rattle.odd_tokens.specs.Tokens as written
use Rattle.odd_tokens.specs.Lines.{lines_read}
use Rattle.odd_tokens.specs.declared.token.Token.{Token}
use Rattle.odd_tokens.specs.declared.token.Token.TheVariants.{Passed, Character, Referred, Cdata, Start, Empty, End}
use Rattle.odd_tokens.specs.declared.token.WrittenAttr.{WrittenAttr}
use Rattle.odd_tokens.specs.declared.token.WrittenName.{WrittenName}
use Rattle.odd_tokens.specs.declared.token.WrittenTag.{WrittenTag}

abbrev pub name_made : written.QName → WrittenName
name_made n = record { prefix = encode_utf8_all n.prefix; local = encode_utf8_all n.local }

abbrev pub attribute_made : written.Attribute → WrittenAttr
attribute_made a = record { name = name_made a.name; value = encode_utf8_all (value_read a.value) }

abbrev pub tag_made : ℕ → written.Tag → WrittenTag
tag_made at t = record { at = at; name = name_made t.name; attrs = map attribute_made t.attributes }

-- the token begins at the byte
abbrev pub token_made : ℕ → written.Token → Token
token_made at (written.character c) = Character c
token_made at (written.referred r) = Referred (written.character_of r)
token_made at (written.cdata text) = Cdata (encode_utf8_all (lines_read text))
token_made at (written.comment text) = Passed
token_made at (written.instruction target rest) = Passed
token_made at (written.start_tag t) = Start (tag_made at t)
token_made at (written.empty_tag t) = Empty (tag_made at t)
token_made at (written.end_tag name space) = End (name_made name)
