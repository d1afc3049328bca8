-- How the lexer goes from character to character: what its private functions say. Its contract is in other words (specs/Unfinished.antt).
use Rattle.std.specs.Prelude.{◌≡◌, ℕ, ◌+◌, ◌*◌, Bool, true, false, ◌&&◌, ◌||◌, ◌==◌, not, if◌then◌else◌, List, [], ◌∷◌, ◌++◌, length, Option, Some, None, Result, MatchResult, codes, nat_le, nat_lt, encode_utf8, string_bytes}
use Rattle.std.specs.Char.{digit_value}
use Rattle.std.specs.Str.{str_eq_ignore_ascii_case}
use Rattle.odd_tokens.specs.Characters.{last_character, is_char, is_space, is_name_start, is_name_char}
use Rattle.odd_tokens.specs.Declaring.{is_declaration_of}
use Rattle.odd_text.specs.Same.{is_same}
use Rattle.odd_tokens.specs.declared.lexer.Fault.{Fault}
use Rattle.odd_tokens.specs.declared.lexer.Fault.TheVariants as fault
use Rattle.odd_tokens.specs.declared.lexer.Lexer.{Lexer}
use Rattle.odd_tokens.specs.declared.lexer.NamePart.{NamePart}
use Rattle.odd_tokens.specs.declared.lexer.NamePart.TheVariants as part
use Rattle.odd_tokens.specs.declared.lexer.Named.{Named}
use Rattle.odd_tokens.specs.declared.lexer.Named.TheVariants as named
use Rattle.odd_tokens.specs.declared.lexer.Place.{Place}
use Rattle.odd_tokens.specs.declared.lexer.Place.TheVariants as place
use Rattle.odd_tokens.specs.declared.lexer.ReferencePart.{ReferencePart}
use Rattle.odd_tokens.specs.declared.lexer.ReferencePart.TheVariants as ref
use Rattle.odd_tokens.specs.declared.lexer.State.{State}
use Rattle.odd_tokens.specs.declared.lexer.State.TheVariants as state
use Rattle.odd_tokens.specs.declared.token.Token.{Token}
use Rattle.odd_tokens.specs.declared.token.Token.TheVariants as token
use Rattle.odd_tokens.specs.declared.token.WrittenName.{WrittenName}
use Rattle.odd_tokens.specs.declared.token.WrittenTag.{WrittenTag}

-- what the lexer keeps
pub record Lexed : Type 0 where
  pub state : State
  pub opening : Bool
  pub begin : ℕ
  pub declares : Bool
  pub tag : WrittenTag
  pub name : WrittenName
  pub value : List ℕ
  pub text : List ℕ
  pub number : ℕ

abbrev pub lexed : Lexer → Lexed
lexed l = record { state = l.state; opening = l.opening; begin = l.begin; declares = l.declares; tag = l.tag; name = l.name; value = string_bytes l.value; text = string_bytes l.text; number = l.number }

-- what it keeps after a character, and the token that the character ends
abbrev pub Taken : Type 0
Taken = Option (Lexed × Option Token)

-- where the lexer goes on, it keeps that and gives the token; it is malformed only where the lexer stops
abbrev pub Follows : Taken → Result (Option Token) Fault → Lexed → Type 0
Follows taken result kept = MatchResult result (λ given. taken ≡ Some (kept, given)) (λ e. e ≡ fault.Malformed → taken ≡ None)

abbrev pub go : State → Lexed → Taken
go s l = Some (record l { state = s }, None)

abbrev pub done : Token → Lexed → Taken
done t l = Some (record l { state = state.Between }, Some t)

abbrev pub no_name : WrittenName
no_name = record { prefix = []; local = [] }

abbrev pub fresh_tag : ℕ → WrittenTag
fresh_tag at = record { at = at; name = no_name; attrs = [] }

abbrev pub started : Lexed
started = record { state = state.Between; opening = true; begin = 0; declares = false; tag = fresh_tag 0; name = no_name; value = []; text = []; number = 0 }

abbrev pub between : Lexed → ℕ → ℕ → Taken
between l at c = if l.opening && at == 0 && c == 0xFEFF then Some (l, None)
    else (if c == 0x3C then go state.Less l
    else (if c == 0x26 then go (state.Reference place.Content ref.Begins) (record l { opening = false })
    else Some (record l { opening = false }, Some (token.Character c))))

-- names

abbrev pub name_begins : Named → NamePart → Lexed → ℕ → Taken
name_begins n after l c = if is_name_start c then go (state.Name n after) (record l { name = record l.name { local = l.name.local ++ encode_utf8 c } }) else None

abbrev pub tag_goes_on : Lexed → ℕ → Taken
tag_goes_on l c = if c == 0x3F && l.declares then go state.Question l
    else (if c == 0x2F && not l.declares then go state.Slash l
    else (if c == 0x3E && not l.declares then done (token.Start l.tag) (record l { tag = fresh_tag 0 })
    else (if is_space c then go state.TagSpace l else None)))

abbrev pub before_equals : Lexed → ℕ → Taken
before_equals l c = if c == 0x3D then go state.BeforeQuote l else (if is_space c then go state.BeforeEquals l else None)

abbrev pub end_space : Lexed → ℕ → Taken
end_space l c = if is_space c then go state.EndSpace l else (if c == 0x3E then done (token.End l.name) (record l { name = no_name }) else None)

abbrev pub after_name : Named → Lexed → ℕ → Taken
after_name named.Element l c = tag_goes_on (record l { tag = record l.tag { name = l.name }; name = no_name }) c
after_name named.Attribute l c = before_equals l c
after_name named.EndTag l c = end_space l c

abbrev pub name_goes_on : Named → Lexed → ℕ → Taken
name_goes_on n l c = if is_name_char c then Some (record l { name = record l.name { local = l.name.local ++ encode_utf8 c } }, None) else after_name n l c

abbrev pub named_in : Named → NamePart → Lexed → ℕ → Taken
named_in n part.Begins l c = name_begins n part.First l c
named_in n part.LocalBegins l c = name_begins n part.Local l c
named_in n part.First l c = if c == 0x3A then go (state.Name n part.LocalBegins) (record l { name = record { prefix = l.name.local; local = [] } }) else name_goes_on n l c
named_in n part.Local l c = name_goes_on n l c

-- tags

abbrev pub tag_space : Lexed → ℕ → Taken
tag_space l c = if is_name_start c then name_begins named.Attribute part.First (record l { name = no_name }) c else tag_goes_on l c

abbrev pub before_quote : Lexed → ℕ → Taken
before_quote l c = if c == 0x22 || c == 0x27 then go (state.Value c false) (record l { value = [] }) else (if is_space c then go state.BeforeQuote l else None)

abbrev pub end_attribute : Lexed → Taken
end_attribute l = go state.ValueEnd (record l { tag = record l.tag { attrs = l.tag.attrs ++ record { name = l.name; value = l.value } ∷ [] }; name = no_name; value = [] })

abbrev pub value : ℕ → Bool → Lexed → ℕ → Taken
value quote after_return l c = if c == quote then end_attribute l
    else (if c == 0x3C || (c == 0x26 && l.declares) then None
    else (if c == 0x26 then go (state.Reference (place.Value quote) ref.Begins) l
    else (if c == 0xA && after_return then go (state.Value quote false) l
    else (if is_space c then go (state.Value quote (c == 0xD)) (record l { value = l.value ++ 0x20 ∷ [] })
    else go (state.Value quote false) (record l { value = l.value ++ encode_utf8 c })))))

abbrev pub slash : Lexed → ℕ → Taken
slash l c = if c == 0x3E then done (token.Empty l.tag) (record l { tag = fresh_tag 0 }) else None

-- after `<`

abbrev pub less : Lexed → ℕ → Taken
less l c = if c == 0x3F then go state.Target (record l { text = [] })
    else (if c == 0x21 then go state.Exclamation (record l { opening = false })
    else (if c == 0x2F then go (state.Name named.EndTag part.Begins) (record l { opening = false; name = no_name })
    else name_begins named.Element part.First (record l { opening = false; tag = fresh_tag l.begin; name = no_name }) c))

abbrev pub exclamation : Lexed → ℕ → Taken
exclamation l c = if c == 0x2D then go state.CommentDash l else (if c == 0x5B then go (state.CdataOpen 0) l else None)

abbrev pub comment_dash : Lexed → ℕ → Taken
comment_dash l c = if c == 0x2D then go (state.Comment 0) l else None

abbrev pub comment : ℕ → Lexed → ℕ → Taken
comment dashes l c = if dashes == 0 then go (state.Comment (if c == 0x2D then 1 else 0)) l
    else (if dashes == 1 then go (state.Comment (if c == 0x2D then 2 else 0)) l
    else (if c == 0x3E then done token.Passed l else None))

abbrev pub cdata_letter : ℕ → ℕ
cdata_letter letters = if letters == 0 then 0x43 else (if letters == 1 then 0x44 else (if letters == 2 then 0x41 else (if letters == 3 then 0x54 else (if letters == 4 then 0x41 else 0x5B))))

abbrev pub cdata_open : ℕ → Lexed → ℕ → Taken
cdata_open letters l c = if c == cdata_letter letters then (if nat_lt letters 5 then go (state.CdataOpen (letters + 1)) l else go (state.Cdata 0 false) (record l { text = [] })) else None

abbrev pub brackets_before : ℕ → List ℕ
brackets_before brackets = if brackets == 0 then [] else (if brackets == 1 then codes "]" else codes "]]")

abbrev pub cdata_text : ℕ → Bool → Lexed → ℕ → Taken
cdata_text brackets after_return l c =
    go (state.Cdata 0 (c == 0xD))
    (record l { text = (l.text ++ brackets_before brackets) ++ (if c == 0xA && after_return then [] else (if c == 0xD then 0xA ∷ [] else encode_utf8 c)) })

abbrev pub cdata : ℕ → Bool → Lexed → ℕ → Taken
cdata brackets after_return l c = if c == 0x5D then (if nat_lt brackets 2 then go (state.Cdata (brackets + 1) false) l else Some (record l { text = l.text ++ 0x5D ∷ [] }, None))
    else (if c == 0x3E && brackets == 2 then done (token.Cdata l.text) (record l { text = [] })
    else cdata_text brackets after_return l c)

abbrev pub is_empty : List ℕ → Bool
is_empty [] = true
is_empty (c ∷ cs) = false

-- white space or a question mark ends a target
abbrev pub target_ends : Lexed → ℕ → Taken
target_ends l c = if l.opening && not (c == 0x3F) && is_same l.text (codes "xml")
    then go state.TagSpace (record l { opening = false; declares = true; tag = fresh_tag l.begin })
    else (if str_eq_ignore_ascii_case l.text (codes "xml") then None else go (if c == 0x3F then state.TargetQuestion else state.Instruction false) (record l { opening = false }))

abbrev pub target : Lexed → ℕ → Taken
target l c = if is_empty l.text
    then (if is_name_start c then Some (record l { text = l.text ++ encode_utf8 c }, None) else None)
    else (if is_name_char c then Some (record l { text = l.text ++ encode_utf8 c }, None)
    else (if c == 0x3F || is_space c then target_ends l c else None))

abbrev pub target_question : Lexed → ℕ → Taken
target_question l c = if c == 0x3E then done token.Passed l else None

abbrev pub instruction : Bool → Lexed → ℕ → Taken
instruction ended l c = if ended && c == 0x3E then done token.Passed l else go (state.Instruction (c == 0x3F)) l

abbrev pub question : Lexed → ℕ → Taken
question l c = if c == 0x3E && is_declaration_of l.tag.attrs then done token.Passed (record l { declares = false }) else None

-- references

abbrev pub referred : Place → ℕ → Lexed → Taken
referred place.Content c l = done (token.Referred c) l
referred (place.Value quote) c l = go (state.Value quote false) (record l { value = l.value ++ encode_utf8 c })

abbrev pub letter : Place → Lexed → ℕ → Taken
letter p l c = if (nat_le 0x61 c && nat_le c 0x7A) && nat_lt (length l.text) 4 then go (state.Reference p ref.Letters) (record l { text = l.text ++ encode_utf8 c }) else None

-- the character of a predefined entity
abbrev pub entity_named : List ℕ → Option ℕ
entity_named name = if is_same name (codes "lt") then Some 0x3C
    else (if is_same name (codes "gt") then Some 0x3E
    else (if is_same name (codes "amp") then Some 0x26
    else (if is_same name (codes "apos") then Some 0x27
    else (if is_same name (codes "quot") then Some 0x22 else None))))

abbrev referred_where : Place → Option ℕ → Lexed → Taken
referred_where p None l = None
referred_where p (Some c) l = referred p c l

abbrev pub end_letters : Place → Lexed → Taken
end_letters p l = referred_where p (entity_named l.text) l

abbrev pub base_of : ReferencePart → ℕ
base_of ref.Hexadecimal = 16
base_of p = 10

abbrev pub digit : Place → ReferencePart → Lexed → ℕ → Taken
digit p part l c = if nat_lt (digit_value c) (base_of part)
    then go (state.Reference p part) (record l { number = if nat_le l.number last_character then l.number * base_of part + digit_value c else l.number })
    else None

abbrev pub end_digits : Place → Lexed → Taken
end_digits p l = if is_char l.number then referred p l.number l else None

abbrev pub reference : Place → ReferencePart → Lexed → ℕ → Taken
reference p ref.Begins l c = if c == 0x23 then go (state.Reference p ref.Hash) l else letter p (record l { text = [] }) c
reference p ref.Letters l c = if c == 0x3B then end_letters p l else letter p l c
reference p ref.Hash l c = if c == 0x78 then go (state.Reference p ref.HexBegins) l else digit p ref.Decimal (record l { number = 0 }) c
reference p ref.HexBegins l c = digit p ref.Hexadecimal (record l { number = 0 }) c
reference p ref.Decimal l c = if c == 0x3B then end_digits p l else digit p ref.Decimal l c
reference p ref.Hexadecimal l c = if c == 0x3B then end_digits p l else digit p ref.Hexadecimal l c

-- the character, after what is kept

abbrev pub next_in : State → Lexed → ℕ → ℕ → Taken
next_in state.Between l at c = between (record l { begin = at }) at c
next_in state.Less l at c = less l c
next_in state.Exclamation l at c = exclamation l c
next_in state.CommentDash l at c = comment_dash l c
next_in (state.Comment dashes) l at c = comment dashes l c
next_in (state.CdataOpen letters) l at c = cdata_open letters l c
next_in (state.Cdata brackets after_return) l at c = cdata brackets after_return l c
next_in state.Target l at c = target l c
next_in state.TargetQuestion l at c = target_question l c
next_in (state.Instruction ended) l at c = instruction ended l c
next_in state.Question l at c = question l c
next_in (state.Name n p) l at c = named_in n p l c
next_in state.TagSpace l at c = tag_space l c
next_in state.BeforeEquals l at c = before_equals l c
next_in state.BeforeQuote l at c = before_quote l c
next_in (state.Value quote after_return) l at c = value quote after_return l c
next_in state.ValueEnd l at c = tag_goes_on l c
next_in state.Slash l at c = slash l c
next_in state.EndSpace l at c = end_space l c
next_in (state.Reference p part) l at c = reference p part l c

-- the character that begins at the byte
abbrev pub next : Lexed → ℕ → ℕ → Taken
next l at c = if is_char c then next_in l.state l at c else None
