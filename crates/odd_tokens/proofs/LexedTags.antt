-- The lexer takes a written tag with its attributes.
use Rattle.std.proofs.Common.{◌≡◌, ◌≢◌, ℕ, Bool, true, false, ◌==◌, ◌||◌, List, [], ◌∷◌, ◌++◌, map, Some, None, All, refl, sym, ap, ◌∙◌, subst, append_assoc, codes}
use Rattle.std.proofs.lemmas.Bool.{cond-true, eq-eqb, and_parts, cond-false, ne_eqb}
use Rattle.std.proofs.lemmas.List.{append-nil}
use Rattle.std.proofs.lemmas.List.Elements.{All-head, All-tail, All-nil, All-cons}
use Rattle.std.specs.Str.{encode_utf8_all}
use Rattle.odd_tokens.proofs.AttributesLexed.{at_quote, attribute_parts, from_name, white_stops, at_space, is_name_part, space_ends, equals_ends, greater_ends, slash_ends, question_ends, bang_ends, start_apart}
use Rattle.odd_tokens.proofs.LexedReferences.{in_name, name_read}
use Rattle.odd_tokens.proofs.LexedSteps.{white_read, white_first, start_reads, space_in_tag, space_again, Yields, Gives, Reads, stepped, reads, space_is_char, close_read, ended}
use Rattle.odd_tokens.proofs.LexedValues.{IsAllowed, in_value, value_is_read, value_read_after, pieces_read}
use Rattle.odd_tokens.proofs.Lexing.{Closes, attributes_stop, tag_parts}
use Rattle.odd_tokens.specs.Characters.{is_char, is_space, is_white, is_name_start}
use Rattle.odd_tokens.specs.Lexing.{Lexed, no_name, before_equals, before_quote, tag_goes_on, tag_space, fresh_tag, end_space, less, name_begins}
use Rattle.odd_tokens.specs.Making.{attribute_made, name_made, tag_made}
use Rattle.odd_tokens.specs.Tokens.{Attribute, IsAttribute, attribute_written, attributes_written, value_written, QName, Piece, itself, reference, Tag, IsQName, name_written, tag_written}
use Rattle.odd_tokens.specs.Values.{value_read}
use Rattle.odd_tokens.specs.Whole.{IsLexedTag}
use Rattle.odd_tokens.specs.declared.lexer.NamePart.TheVariants as part
use Rattle.odd_tokens.specs.declared.lexer.Named.TheVariants as named
use Rattle.odd_tokens.specs.declared.lexer.State.TheVariants as state
use Rattle.odd_tokens.specs.declared.token.Token.{Token}
use Rattle.odd_tokens.specs.declared.token.Token.TheVariants as token
use Rattle.odd_tokens.specs.declared.token.WrittenAttr.{WrittenAttr}
use Rattle.odd_tokens.specs.declared.token.WrittenName.{WrittenName}

quote_legal : (q : ℕ) → (q == 0x22 || q == 0x27) ≡ true → is_char q ≡ true
unfolding is_char
quote_legal q h = at_quote (λ x. is_char x ≡ true) refl refl q h

equals_legal : is_char 0x3D ≡ true
unfolding is_char
equals_legal = refl

abbrev pub AreAllowed : Bool → Attribute → Type 0
AreAllowed declares a = All (IsAllowed declares) a.value

equals_space : (k : Lexed) (c : ℕ) → is_space c ≡ true → before_equals k c ≡ Some (record k { state = state.BeforeEquals }, None)
equals_space k c h = at_space (λ x. before_equals k x ≡ Some (record k { state = state.BeforeEquals }, None)) refl refl refl refl c h

quote_space : (k : Lexed) (c : ℕ) → is_space c ≡ true → before_quote k c ≡ Some (record k { state = state.BeforeQuote }, None)
quote_space k c h = at_space (λ x. before_quote k x ≡ Some (record k { state = state.BeforeQuote }, None)) refl refl refl refl c h

module _ (l : Lexed) (t : Token) where
  -- in the tag, with these attributes; what was kept of other things does not matter
  abbrev pub in_tag : List WrittenAttr → List ℕ → List ℕ → ℕ → Lexed
  in_tag attrs v text n = record l { tag = record l.tag { attrs = attrs }; name = no_name; value = v; text = text; number = n }

  -- white space, of at least one character
  space_then : (k : Lexed) (w more : List ℕ) → w ≢ [] → is_white w ≡ true → ((v : List ℕ) → is_white v ≡ true → Yields (record k { state = state.TagSpace }) (v ++ more) t)
      → Reads (tag_goes_on k) (w ++ more) t
  space_then k [] more n h y = absurd (n refl)
  space_then k (c ∷ cs) more n h y =
      let both = and_parts (is_space c) (is_white cs) h in
      (space_is_char c both.0, subst (λ o. Gives o (cs ++ more) t) (sym (space_in_tag k c both.0)) (y cs both.1))

  -- the value, and its quote
  value_ends : (k : Lexed) (a : Attribute) (more : List ℕ) → IsAttribute a → AreAllowed k.declares a
      → ((v text : List ℕ) (n : ℕ) → Yields (record k { state = state.ValueEnd; tag = record k.tag { attrs = k.tag.attrs ++ record { name = k.name; value = encode_utf8_all (value_read a.value) } ∷ [] }; name = no_name; value = v; text = text; number = n }) more t)
      → Yields (record k { state = state.BeforeQuote }) (a.quote ∷ (value_written a.value ++ a.quote ∷ more)) t
  value_ends k a more h allowed y =
      let e : encode_utf8_all (value_read_after false a.value) ≡ encode_utf8_all (value_read a.value) = ap encode_utf8_all (value_is_read a.value) in
      stepped (λ at. cond-true _ _ _ (quote_legal a.quote h.quoted) ∙ cond-true _ _ _ h.quoted)
      (pieces_read k a.quote h.quoted t a.value false [] k.text k.number (a.quote ∷ more) h.valued allowed
      (λ b text n. subst (λ v. Yields (in_value k a.quote h.quoted t b v text n) (a.quote ∷ more) t) (sym e)
      (stepped (λ at. cond-true _ _ _ (quote_legal a.quote h.quoted) ∙ cond-true _ _ _ (eq-eqb a.quote a.quote refl)) (y [] text n))))

  -- the equals sign, with the white space around it
  around_equals : (k : Lexed) (a : Attribute) (rest : List ℕ) → IsAttribute a → Yields (record k { state = state.BeforeQuote }) rest t
      → Reads (before_equals k) (a.before ++ 0x3D ∷ (a.after ++ rest)) t
  around_equals k a rest h y =
      let inside = record k { state = state.BeforeEquals } in
      let quoting = record k { state = state.BeforeQuote } in
      let after : Yields quoting (a.after ++ rest) t =
      white_read t quoting (λ c at e. cond-true _ _ _ (space_is_char c e) ∙ quote_space quoting c e) a.after rest h.around.1 y in
      white_first t inside (λ c at e. cond-true _ _ _ (space_is_char c e) ∙ equals_space inside c e) (before_equals k) (equals_space k) a.before _ h.around.0
      (equals_legal, after) (stepped (λ at. cond-true _ _ _ equals_legal) after)

  -- an attribute from its name on, after white space; an earlier name does not matter
  pub attribute_from_space : (name : WrittenName) (w : List ℕ) (a : Attribute) (attrs : List WrittenAttr) (v text : List ℕ) (n : ℕ) (more : List ℕ) → is_white w ≡ true → IsAttribute a → AreAllowed l.declares a
      → ((v text : List ℕ) (n : ℕ) → Reads (tag_goes_on (in_tag (attrs ++ attribute_made a ∷ []) v text n)) more t)
      → Yields (record (in_tag attrs v text n) { state = state.TagSpace; name = name }) (w ++ from_name a more) t
  attribute_from_space name w a attrs v text n more white h allowed r =
      let inside = record (in_tag attrs v text n) { state = state.TagSpace; name = name } in
      let begun = record (in_tag attrs v text n) { name = name_made a.name } in
      white_read t inside (space_again inside) w _ white
      (reads (tag_space inside) (λ at c e. cond-true _ _ _ e)
      (start_reads t named.Attribute part.First (record inside { name = no_name }) (tag_space inside) (λ c e. cond-true _ _ _ e) _
      (name_read inside named.Attribute t a.name _ h.named (white_stops is_name_part space_ends a.before _ h.around.0 equals_ends)
      (λ p. around_equals (in_name inside named.Attribute t p a.name.prefix a.name.local) a _ h
      (value_ends begun a more h allowed
      (λ v text n. reads (tag_goes_on (in_tag (attrs ++ attribute_made a ∷ []) v text n)) (λ at c e. cond-true _ _ _ e) (r v text n)))))))

  -- the attributes of a tag
  pub attributes_read : (rest : List Attribute) (attrs : List WrittenAttr) (v text : List ℕ) (n : ℕ) (more : List ℕ) → All IsAttribute rest → All (AreAllowed l.declares) rest
      → ((v text : List ℕ) (n : ℕ) → Reads (tag_goes_on (in_tag (attrs ++ map attribute_made rest) v text n)) more t)
      → Reads (tag_goes_on (in_tag attrs v text n)) (attributes_written rest ++ more) t
  attributes_read [] attrs v text n more h allowed r = subst (λ x. Reads (tag_goes_on (in_tag x v text n)) more t) (append-nil attrs) (r v text n)
  attributes_read (a ∷ rest) attrs v text n more h allowed r =
      let one = All-head IsAttribute a rest h in
      let ok = All-head (AreAllowed l.declares) a rest allowed in
      let left = attributes_written rest ++ more in
      let e : a.space ++ from_name a left ≡ attributes_written (a ∷ rest) ++ more =
      sym (attribute_parts a left) ∙ sym (append_assoc (attribute_written a) (attributes_written rest) more) in
      subst (λ cs. Reads (tag_goes_on (in_tag attrs v text n)) cs t) e
      (space_then (in_tag attrs v text n) a.space (from_name a left) one.spaced.0 one.spaced.1
      (λ w white. attribute_from_space no_name w a attrs v text n left white one ok
      (λ v text n. attributes_read rest (attrs ++ attribute_made a ∷ []) v text n more (All-tail IsAttribute a rest h) (All-tail (AreAllowed l.declares) a rest allowed)
      (λ v text n. subst (λ x. Reads (tag_goes_on (in_tag x v text n)) more t) (sym (append_assoc attrs (attribute_made a ∷ []) (map attribute_made rest))) (r v text n)))))

-- in a tag that is no declaration every piece is allowed

piece_allowed : (p : Piece) → IsAllowed false p
piece_allowed (itself c) = tt
piece_allowed (reference r) = tt

pieces_allowed : (ps : List Piece) → All (IsAllowed false) ps
pieces_allowed [] = All-nil _
pieces_allowed (p ∷ ps) = All-cons (IsAllowed false) p ps (piece_allowed p) (pieces_allowed ps)

all_allowed : (xs : List Attribute) → All (AreAllowed false) xs
all_allowed [] = All-nil _
all_allowed (a ∷ xs) = All-cons (AreAllowed false) a xs (pieces_allowed a.value) (all_allowed xs)

pub greater_legal : is_char 0x3E ≡ true
unfolding is_char
greater_legal = refl

slash_legal : is_char 0x2F ≡ true
unfolding is_char
slash_legal = refl

greater_apart : is_name_start 0x3E ≡ false
unfolding is_name_start
greater_apart = refl

slash_apart : is_name_start 0x2F ≡ false
unfolding is_name_start
slash_apart = refl

-- after `<`, which begins at the byte
abbrev pub after_less : Lexed → ℕ → Lexed
after_less l at = record l { state = state.Less; begin = at; declares = false }

less_starts : (l : Lexed) (c : ℕ) → is_name_start c ≡ true → less l c ≡ name_begins named.Element part.First (record l { opening = false; tag = fresh_tag l.begin; name = no_name }) c
less_starts l c h =
    cond-false _ _ _ (ne_eqb c 0x3F (start_apart c 0x3F h question_ends)) ∙ cond-false _ _ _ (ne_eqb c 0x21 (start_apart c 0x21 h bang_ends))
    ∙ cond-false _ _ _ (ne_eqb c 0x2F (start_apart c 0x2F h slash_ends))

module _ (l : Lexed) (at : ℕ) (t : Token) where
  -- in the tag, after its name and these attributes
  abbrev named_tag : QName → Lexed
  named_tag q = record l { state = state.TagSpace; opening = false; begin = at; declares = false; tag = record { at = at; name = name_made q; attrs = [] }; name = no_name }

  tag_read : (tag : Tag) (close : List ℕ) → IsLexedTag tag → Closes close
      → ((v text : List ℕ) (n : ℕ) → Reads (tag_goes_on (in_tag (named_tag tag.name) t (map attribute_made tag.attributes) v text n)) (tag.space ++ close) t)
      → Yields (after_less l at) (tag_written tag ++ close) t
  tag_read tag close h closes r =
      let k = record l { state = state.Less; opening = false; begin = at; declares = false; tag = fresh_tag at; name = no_name } in
      subst (λ cs. Yields (after_less l at) cs t) (sym (tag_parts tag close))
      (reads (less (after_less l at)) (λ at c e. cond-true _ _ _ e)
      (start_reads t named.Element part.First k (less (after_less l at)) (less_starts (after_less l at)) _
      (name_read k named.Element t tag.name _ h.named (attributes_stop tag.attributes tag.space close h.attributed h.ended closes)
      (λ p. attributes_read (named_tag tag.name) t tag.attributes [] l.value l.text l.number (tag.space ++ close) h.attributed (all_allowed tag.attributes) r))))

pub start_yields : (l : Lexed) (at : ℕ) (tag : Tag) → IsLexedTag tag → Yields (after_less l at) (tag_written tag ++ codes ">") (token.Start (tag_made at tag))
start_yields l at tag h =
    let t = token.Start (tag_made at tag) in
    tag_read l at t tag (codes ">") h refl
    (λ v text n. close_read (in_tag (named_tag l at t tag.name) t (map attribute_made tag.attributes) v text n) t tag.space 0x3E [] h.ended greater_legal greater_apart
    (refl, refl, record { between = refl; plain = refl }, refl))

pub empty_yields : (l : Lexed) (at : ℕ) (tag : Tag) → IsLexedTag tag → Yields (after_less l at) (tag_written tag ++ codes "/>") (token.Empty (tag_made at tag))
empty_yields l at tag h =
    let t = token.Empty (tag_made at tag) in
    tag_read l at t tag (codes "/>") h refl
    (λ v text n. close_read (in_tag (named_tag l at t tag.name) t (map attribute_made tag.attributes) v text n) t tag.space 0x2F (codes ">") h.ended slash_legal slash_apart
    (ended (λ at. cond-true _ _ _ greater_legal) (record { between = refl; plain = refl }) refl))

-- an end tag

end_again : (k : Lexed) (c : ℕ) → is_space c ≡ true → end_space k c ≡ Some (record k { state = state.EndSpace }, None)
end_again k c h = at_space (λ x. end_space k x ≡ Some (record k { state = state.EndSpace }, None)) refl refl refl refl c h

pub end_yields : (l : Lexed) (at : ℕ) (q : QName) (w : List ℕ) → IsQName q → is_white w ≡ true
    → Yields (after_less l at) (0x2F ∷ (name_written q ++ (w ++ codes ">"))) (token.End (name_made q))
end_yields l at q w h white =
    let t = token.End (name_made q) in
    let k = record (after_less l at) { state = state.Name named.EndTag part.Begins; opening = false; name = no_name } in
    let s = record k { state = state.EndSpace; name = name_made q } in
    stepped (λ at. cond-true _ _ _ slash_legal)
    (reads (name_begins named.EndTag part.First k) (λ at c e. cond-true _ _ _ e)
    (name_read k named.EndTag t q (w ++ codes ">") h (white_stops is_name_part space_ends w (codes ">") white greater_ends)
    (λ p. white_first t s (λ c at e. cond-true _ _ _ (space_is_char c e) ∙ end_again s c e) (end_space (in_name k named.EndTag t p q.prefix q.local)) (end_again (in_name k named.EndTag t p q.prefix q.local))
    w (codes ">") white (greater_legal, (refl, refl, record { between = refl; plain = refl }, refl))
    (ended (λ at. cond-true _ _ _ greater_legal) (record { between = refl; plain = refl }) refl))))
