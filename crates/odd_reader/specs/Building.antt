-- How the builder goes from token to token: what private functions of the builder say of each other. The public contract is in other words.
use Rattle.std.specs.Prelude.{string_bytes, ◌≡◌, ◌⊎◌, ℕ, Bool, true, false, ◌&&◌, ◌||◌, ◌==◌, if◌then◌else◌, List, [], ◌∷◌, ◌++◌, length, map, reverse, Option, Some, None, Result, Ok, Err, MatchResult, nat_le, encode_utf8}
use Rattle.odd_tokens.specs.Characters.{is_space}
use Rattle.odd_tree.specs.Spelled.{deepest}
use Rattle.odd_reader.specs.declared.builder.Builder.{Builder}
use Rattle.odd_reader.specs.Resolving.{is_written_same, resolved, some_twice, tree_of, with_children}
use Rattle.odd_reader.specs.declared.builder.Last.{Last}
use Rattle.odd_reader.specs.declared.builder.Last.TheVariants as last
use Rattle.odd_reader.specs.declared.misfit.Misfit.{Misfit}
use Rattle.odd_reader.specs.declared.misfit.Misfit.TheVariants as misfit
use Rattle.odd_reader.specs.declared.element.OpenElement.{OpenElement}
use Rattle.odd_tokens.specs.declared.token.Token.{Token}
use Rattle.odd_tokens.specs.declared.token.Token.TheVariants as token
use Rattle.odd_tokens.specs.declared.token.WrittenName.{WrittenName}
use Rattle.odd_tokens.specs.declared.token.WrittenTag.{WrittenTag}
use Rattle.odd_tree.specs.declared.tree.Node.{Node, Element, Text}
use Rattle.odd_tree.specs.declared.tree.Tree.{Tree}

-- what the builder keeps: the open elements with the innermost first
pub record Kept : Type 0 where
  pub open_elements : List OpenElement
  pub root : Option Tree
  pub text : List ℕ
  pub last : Last

abbrev pub kept_of : Builder → Kept
kept_of b = record { open_elements = reverse b.open.items; root = b.root; text = string_bytes b.text; last = b.last }

-- what it keeps after a token, or why the token does not fit
abbrev pub Built : Type 0
Built = Result Kept Misfit

-- where the token fits, the builder keeps that; it gives a misfit only where the token is one
abbrev pub Follows : Built → Result (Unit {0}) Misfit → Kept → Type 0
Follows built result kept = MatchResult result (λ done. built ≡ Ok kept) (λ e. (e ≡ misfit.NoMemory) ⊎ (built ≡ Err e))

abbrev pub begun : Kept
begun = record { open_elements = []; root = None; text = []; last = last.Other }

abbrev pub misplaced : Built
misplaced = Err misfit.Misplaced

-- text

abbrev pub is_return : Last → Bool
is_return last.Return = true
is_return l = false

abbrev pub is_brackets : Last → Bool
is_brackets last.Brackets = true
is_brackets l = false

abbrev pub is_bracket : Last → Bool
is_bracket last.Bracket = true
is_bracket l = is_brackets l

-- the text of a character after what stands last
abbrev pub character_text : Last → ℕ → List ℕ
character_text l c = if c == 0xD then 0xA ∷ [] else (if c == 0xA && is_return l then [] else encode_utf8 c)

abbrev pub last_after : Last → ℕ → Last
last_after l c = if c == 0xD then last.Return else (if c == 0x5D then (if is_bracket l then last.Brackets else last.Bracket) else last.Other)

abbrev pub with_text : List ℕ → Last → Kept → Kept
with_text bytes l k = record k { text = k.text ++ bytes; last = l }

abbrev character_in : List OpenElement → Kept → ℕ → Built
character_in [] k c = if is_space c then Ok k else misplaced
character_in (o ∷ os) k c = if c == 0x3E && is_brackets k.last then misplaced else Ok (with_text (character_text k.last c) (last_after k.last c) k)

abbrev pub character : Kept → ℕ → Built
character k c = character_in k.open_elements k c

abbrev inside_of : List OpenElement → List ℕ → Kept → Built
inside_of [] bytes k = misplaced
inside_of (o ∷ os) bytes k = Ok (with_text bytes last.Other k)

-- text that stands only inside an element
abbrev pub inside : List ℕ → Kept → Built
inside bytes k = inside_of k.open_elements bytes k

abbrev text_nodes : List ℕ → List Node
text_nodes [] = []
text_nodes (c ∷ cs) = Text (c ∷ cs) ∷ []

-- the text that was read is a child of the innermost element
abbrev pub text_ended : Kept → Kept
text_ended k = record k { open_elements = with_children (text_nodes k.text) k.open_elements; text = [] }

-- elements

abbrev pub is_root_closed : List OpenElement → Option Tree → Bool
is_root_closed [] (Some t) = true
is_root_closed os root = false

abbrev opened_with : Kept → Option OpenElement → Built
opened_with k None = misplaced
opened_with k (Some o) = if nat_le deepest (length k.open_elements) then Err misfit.TooDeep
    else Ok (record (text_ended k) { open_elements = o ∷ (text_ended k).open_elements })

abbrev pub element_opened : Kept → WrittenTag → Built
element_opened k t = if is_root_closed k.open_elements k.root || some_twice is_written_same (map (λ a. a.name) t.attrs) then misplaced
    else opened_with k (resolved k.open_elements t)

abbrev closed_in : List OpenElement → Kept → Kept
closed_in [] k = k
closed_in (o ∷ []) k = record k { open_elements = []; root = Some (tree_of o) }
closed_in (o ∷ parent ∷ os) k = record k { open_elements = with_children (Element (tree_of o) ∷ []) (parent ∷ os) }

abbrev pub element_closed : Kept → Kept
element_closed k = closed_in (text_ended k).open_elements (text_ended k)

abbrev pub then_closed : Built → Built
then_closed (Err e) = Err e
then_closed (Ok k) = Ok (element_closed k)

abbrev ends_in : List OpenElement → WrittenName → Bool
ends_in [] name = false
ends_in (o ∷ os) name = is_written_same o.written name

abbrev pub ends_innermost : Kept → WrittenName → Bool
ends_innermost k name = ends_in k.open_elements name

abbrev pub then_other : Built → Built
then_other (Err e) = Err e
then_other (Ok k) = Ok (record k { last = last.Other })

-- after a token
abbrev pub build : Kept → Token → Built
build k (token.Character c) = character k c
build k token.Passed = Ok (record k { last = last.Other })
build k (token.Referred c) = inside (encode_utf8 c) k
build k (token.Cdata text) = inside text k
build k (token.Start t) = then_other (element_opened k t)
build k (token.Empty t) = then_other (then_closed (element_opened k t))
build k (token.End name) = if ends_innermost k name then Ok (record (element_closed k) { last = last.Other }) else misplaced
