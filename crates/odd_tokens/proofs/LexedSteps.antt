-- Steps of the lexer over the characters of one token, and over white space; what its proofs share.
use Rattle.std.proofs.Common.{◌≡◌, ℕ, ◌+◌, List, [], ◌∷◌, length, Some, None, true, false, IsTrue, refl, sym, ap, ◌∙◌, subst, Bool, ◌++◌}
use Rattle.std.proofs.lemmas.Bool.{cond-true, cond-false, and_parts}
use Rattle.std.specs.Prelude.{encode_utf8}
use Rattle.odd_tokens.proofs.AttributesLexed.{at_space, start_not_space}
use Rattle.odd_tokens.specs.Characters.{is_char, is_space, is_name_start, is_white}
use Rattle.odd_tokens.specs.Lexing.{Lexed, next, Taken, name_begins, tag_goes_on, tag_space}
use Rattle.odd_tokens.specs.Tokens as written
pub use Rattle.odd_tokens.specs.Unfinished.{IsIdle}
pub use Rattle.odd_tokens.specs.Whole.{IsLexedTag, IsLexed, IsRead, IsDeclared, IsWhole}
use Rattle.odd_tokens.specs.declared.lexer.NamePart.{NamePart}
use Rattle.odd_tokens.specs.declared.lexer.Named.{Named}
use Rattle.odd_tokens.specs.declared.lexer.State.TheVariants as state
use Rattle.odd_tokens.specs.declared.token.Token.{Token}

-- the characters, the first of which begins at the byte, end no token but with the last one
pub data Lexes : Lexed → ℕ → List ℕ → Lexed → Token → Type 0 where
  last : {l after : Lexed} {at c : ℕ} {t : Token} → next l at c ≡ Some (after, Some t) → Lexes l at (c ∷ []) after t
  more : {l after : Lexed} {at c : ℕ} {cs : List ℕ} {t : Token} (mid : Lexed) → next l at c ≡ Some (mid, None)
      → Lexes mid (at + length (encode_utf8 c)) cs after t → Lexes l at (c ∷ cs) after t

pub lexed_token : (t : written.Token) → written.IsToken t → IsLexed t
lexed_token (written.start_tag t) h = record { named = h.named; attributed = h.attributed; ended = h.ended }
lexed_token (written.empty_tag t) h = record { named = h.named; attributed = h.attributed; ended = h.ended }
lexed_token (written.character c) h = h
lexed_token (written.referred r) h = h
lexed_token (written.cdata text) h = h
lexed_token (written.comment text) h = h
lexed_token (written.instruction target rest) h = h
lexed_token (written.end_tag name space) h = h

-- from here the characters end one token, wherever they stand
pub record Yields (l : Lexed) (cs : List ℕ) (t : Token) : Type 0 where
  pub after : Lexed
  pub idle : IsIdle after
  pub opened : after.opening ≡ false
  pub lexes : (at : ℕ) → Lexes l at cs after t

-- what a step gives before the characters that are left: it goes on with them, or ends the token, and none is left
abbrev pub Gives : Taken → List ℕ → Token → Type 0
Gives None cs t = ⊥
Gives (Some (mid, None)) cs t = Yields mid cs t
Gives (Some (after, Some made)) cs t = (cs ≡ []) × (made ≡ t) × IsIdle after × (after.opening ≡ false)

-- a step takes the first of the characters
abbrev pub Reads : (ℕ → Taken) → List ℕ → Token → Type 0
Reads f [] t = ⊥
Reads f (c ∷ cs) t = IsTrue (is_char c) × Gives (f c) cs t

-- one character, and what follows
pub stepped : {l mid : Lexed} {c : ℕ} {cs : List ℕ} {t : Token} → ((at : ℕ) → next l at c ≡ Some (mid, None)) → Yields mid cs t → Yields l (c ∷ cs) t
stepped {mid = mid} e y = record { after = y.after; idle = y.idle; opened = y.opened; lexes = λ at. more mid (e at) (y.lexes _) }

-- the last character
pub ended : {l after : Lexed} {c : ℕ} {t : Token} → ((at : ℕ) → next l at c ≡ Some (after, Some t)) → IsIdle after → after.opening ≡ false → Yields l (c ∷ []) t
ended {after = after} e i o = record { after = after; idle = i; opened = o; lexes = λ at. last (e at) }

given : {l : Lexed} {c : ℕ} {cs : List ℕ} {t : Token} (o : Taken) → ((at : ℕ) → next l at c ≡ o) → Gives o cs t → Yields l (c ∷ cs) t
given None e g = absurd g
given (Some (mid, None)) e g = stepped e g
given {l = l} {c = c} {cs = cs} {t = t} (Some (after, Some made)) e g =
    subst (λ xs. Yields l (c ∷ xs) t) (sym g.0) (ended (λ at. e at ∙ ap (λ x. Some (after, Some x)) g.1) g.2 g.3)

-- a step of the lexer
pub reads : {l : Lexed} {cs : List ℕ} {t : Token} (f : ℕ → Taken) → ((at c : ℕ) → is_char c ≡ true → next l at c ≡ f c) → Reads f cs t → Yields l cs t
reads {cs = []} f e r = absurd r
reads {cs = c ∷ cs} f e r = given (f c) (λ at. e at c r.0) r.1

-- which characters are those of XML

pub space_is_char : (c : ℕ) → is_space c ≡ true → is_char c ≡ true
unfolding is_char
space_is_char c h = at_space (λ x. is_char x ≡ true) refl refl refl refl c h

module _ (t : Token) where
  -- white space that changes nothing
  module _ (from : Lexed) (again : (c at : ℕ) → is_space c ≡ true → next from at c ≡ Some (from, None)) where
    pub white_read : (w later : List ℕ) → is_white w ≡ true → Yields from later t → Yields from (w ++ later) t
    white_read [] later h y = y
    white_read (c ∷ cs) later h y = let both = and_parts (is_space c) (is_white cs) h in stepped (λ at. again c at both.0) (white_read cs later both.1 y)

    -- or nothing, where the first space leads to it
    pub white_first : (f : ℕ → Taken) → ((c : ℕ) → is_space c ≡ true → f c ≡ Some (from, None)) → (w later : List ℕ) → is_white w ≡ true → Reads f later t → Yields from later t
        → Reads f (w ++ later) t
    white_first f first [] later h r y = r
    white_first f first (c ∷ cs) later h r y =
        let both = and_parts (is_space c) (is_white cs) h in
        (space_is_char c both.0, subst (λ o. Gives o (cs ++ later) t) (sym (first c both.0)) (white_read cs later both.1 y))

  -- what a name begins with
  module _ (n : Named) (p : NamePart) (k : Lexed) where
    begins_with_start : (c : ℕ) (cs : List ℕ) (x : Bool) → is_name_start c ≡ x → Gives (name_begins n p k c) cs t → x ≡ true
    begins_with_start c cs true e g = refl
    begins_with_start c cs false e g = absurd (rw e at g)

    -- a step that does the same for what a name begins with
    pub start_reads : (f : ℕ → Taken) → ((c : ℕ) → is_name_start c ≡ true → f c ≡ name_begins n p k c) → (cs : List ℕ) → Reads (name_begins n p k) cs t → Reads f cs t
    start_reads f same [] r = r
    start_reads f same (c ∷ cs) r = (r.0, subst (λ o. Gives o cs t) (sym (same c (begins_with_start c cs _ refl r.1))) r.1)

-- white space in a tag

pub space_in_tag : (k : Lexed) (c : ℕ) → is_space c ≡ true → tag_goes_on k c ≡ Some (record k { state = state.TagSpace }, None)
space_in_tag k c h = at_space (λ x. tag_goes_on k x ≡ Some (record k { state = state.TagSpace }, None)) refl refl refl refl c h

no_start : (x : Bool) (c : ℕ) → is_name_start c ≡ x → is_space c ≡ true → x ≡ false
no_start true c e h = sym h ∙ start_not_space c e
no_start false c e h = refl

pub space_again : (k : Lexed) (c at : ℕ) → is_space c ≡ true → next (record k { state = state.TagSpace }) at c ≡ Some (record k { state = state.TagSpace }, None)
space_again k c at h = cond-true _ _ _ (space_is_char c h) ∙ cond-false _ _ _ (no_start _ c refl h) ∙ space_in_tag (record k { state = state.TagSpace }) c h

-- white space and then a character that ends the tag, or goes on to its end
pub close_read : (k : Lexed) (t : Token) (w : List ℕ) (d : ℕ) (later : List ℕ) → is_white w ≡ true → is_char d ≡ true → is_name_start d ≡ false → Gives (tag_goes_on k d) later t
    → Reads (tag_goes_on k) (w ++ d ∷ later) t
close_read k t w d later h legal apart g =
    let inside = record k { state = state.TagSpace } in
    white_first t inside (space_again k) (tag_goes_on k) (space_in_tag k) w (d ∷ later) h (legal, g)
    (reads (tag_space inside) (λ at c h. cond-true _ _ _ h) (legal, subst (λ o. Gives o later t) (sym (cond-false _ _ _ apart)) g))
